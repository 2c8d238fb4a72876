-- Where a message has room for all of its bytes, the answer does not depend on the room. Assumes nothing.
use Prim.Native.Nat.{ℕ, ◌-◌, ◌≤◌}
use mathlib.Core.Path.{◌≡◌, refl, ap}
use mathlib.Core.Bool.{cond}
use mathlib.Core.List.{List, []}
use native.Mathlib.Omega.{arith}
use lib.Dec.{eqb, ltb}
use lib.ListN.{length, drop, length-take, length-drop}
use borrow.Author.Tests.{le-ltb}
use Rattle.space.specs.Reduced.{reduced}
use Rattle.space.specs.Hyphens.{place_of_hyphen}
use Rattle.sent.specs.Sent.{contents}
use Rattle.outer.specs.Refusal.{Checked}
use Rattle.outer.specs.Outer.{most, outer}
use Rattle.kinds.specs.declared.MessageType.{MessageType}
use Rattle.kinds.specs.Kinds.{Named}
use Rattle.kinds.specs.Kinds.{least_of, greatest_of, forms_of, type_named}
use Rattle.message.specs.Answer.{Fault}
use Rattle.message.specs.Answer.{Answer}
use Rattle.message.specs.Reading.{text_of, count_of, spelling_of, fault_in, is_plan, unexplained_in, place_in_plan}
use Rattle.message.specs.Reading.{room_as, explained_as, fault_as, count_as, type_as, three, outer_as, answer_of}
use Rattle.message.proofs.Walk.{spelled_short}
use Rattle.message.proofs.Steps.{reduced_two}
use Rattle.outer.proofs.Good.{good_short}
use Rattle.space.proofs.Reduced.{never_longer}
use Rattle.std.specs.Prelude.{Ok, Err}
use Rattle.outer.specs.Refusal.{refusal}
use Rattle.kinds.specs.declared.TypeFault.TheVariants.{NotRead, NoType}

module _ (m : List ℕ) (room other : ℕ) where
  -- two rooms give one answer where each has the spelling's bytes
  explained_same : (field : ℕ) (t : MessageType) → room_as t m room ≡ room_as t m other → explained_as field t m room ≡ explained_as field t m other
  explained_same field t e = ap (λ (a : Answer). cond (eqb field 0) a (Err (refusal 10 field (place_of_hyphen (place_in_plan field) m)))) e

  fields_same : (f : Fault) (t : MessageType) → room_as t m room ≡ room_as t m other → fault_as f t m room ≡ fault_as f t m other
  fields_same (Ok u) t e = explained_same (cond (is_plan t) (unexplained_in (contents m)) 0) t e
  fields_same (Err r) t e = refl

  count_same : (t : MessageType) → room_as t m room ≡ room_as t m other → count_as t m room ≡ count_as t m other
  unfolding count_as
  count_same t e =
      ap
      (λ (a : Answer).
      cond (ltb (count_of m) (least_of t)) (Err (refusal 6 0 (length m - 1)))
      (cond (ltb (greatest_of t) (count_of m)) (Err (refusal 6 0 (place_of_hyphen (greatest_of t) m))) a))
      (fields_same (fault_in t (count_of m) (contents m)) t e)

  type_same : (k : Named) → ((t : MessageType) → room_as t m room ≡ room_as t m other) → type_as k m room ≡ type_as k m other
  type_same (Err NoType) e = refl
  type_same (Err NotRead) e = refl
  type_same (Ok t) e = count_same t (e t)

-- the spelling of a message that numbers 1 to 3 let pass is no longer than the message
pub spelling_short : (m : List ℕ) → outer m ≡ Ok tt → (t : MessageType) → length (spelling_of t m) ≤ length m
unfolding spelling_of
spelling_short m g t =
    let r = reduced m in
    let i = length-take (length r - 2) (drop 1 r) in
    omega (arith, spelled_short (forms_of t (count_of m)) (text_of m), reduced_two m [] _ g refl, length-drop 1 r, never_longer m)

-- the answer does not depend on the room, where a message that they let pass has room for all of its bytes
enough_if : (m : List ℕ) (room : ℕ) → (outer m ≡ Ok tt → length m ≤ room) → answer_of m room ≡ answer_of m most
unfolding answer_of
enough_if m room h = go (outer m) refl
  where
    go : (o : Checked) → outer m ≡ o → outer_as o m room ≡ outer_as o m most
    go (Err r) g = refl
    go (Ok u) g =
        type_same m room most (type_named (three m))
        (λ t.
        let l = spelling_short m g t in
        let k = good_short m g in
        let w = h g in
        rw (le-ltb room (length (spelling_of t m)) (omega arith), le-ltb most (length (spelling_of t m)) (omega arith)))

pub enough : (m : List ℕ) (room : ℕ) → length m ≤ room → answer_of m room ≡ answer_of m most
enough m room h = enough_if m room (λ g. h)

pub most_enough : (m : List ℕ) (room : ℕ) → most ≤ room → answer_of m room ≡ answer_of m most
most_enough m room h = enough_if m room (λ g. let k = good_short m g in omega arith)
