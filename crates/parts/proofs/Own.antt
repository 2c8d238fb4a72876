-- What is known of a message that was taken as a type and is its own spelling, and where its fields stand. Assumes nothing.
use Prim.Native.Nat.{ℕ, zero, suc, ◌+◌, ◌-◌, ◌≤◌}
use mathlib.Core.Path.{◌≡◌, refl, sym, ap, ap₂, ◌∙◌}
use mathlib.Core.Bool.{Bool, true, false}
use mathlib.Core.List.{List, []}
use native.Mathlib.Omega.{arith}
use lib.Dec.{leb}
use lib.ListN.{length, take, drop, get_or, length-drop}
use lib.Seq.{length-take-le, drop-drop, take-take}
use borrow.Author.Tests.{leb-true, leb-false}
use Rattle.text.specs.Words.{split, same, up_to, before, behind}
use Rattle.text.proofs.Tests.{same-eq}
use Rattle.text.proofs.Index.{drop_end, up_to-le}
use Rattle.space.specs.Reduced.{reduced}
use Rattle.space.specs.Fields.{inner}
use Rattle.space.specs.Hyphens.{behind_hyphen}
use Rattle.outer.specs.Outer.{most}
use Rattle.sent.specs.Sent.{contents}
use Rattle.kinds.specs.declared.MessageType.{MessageType}
use Rattle.message.specs.Answer.{Answer}
use Rattle.message.specs.Reading.{spelling_of, answer_of}
use Rattle.message.specs.Message.{message_from, spelling}
use Rattle.message.proofs.Nth.{field_at_lem}
use Rattle.message.proofs.Reached.{accepted_taken}
use Rattle.message.proofs.Valid.{reached_fitting}
use Rattle.message.proofs.Accepted.{accepted_record}
use Rattle.message.proofs.Canonical.{spelling_reduced}
use Rattle.opening.proofs.Steps.{spelling_two}
use Rattle.force.specs.InForce.{place_of}
use Rattle.force.proofs.Walk.{drop-take, place_at}
use Rattle.outer.proofs.Same.{ok_same}
use Rattle.parts.specs.Parts.{taken_as, taken_of, Own, content_in, span_at}
use Rattle.parts.specs.Shown.{Holds}
use Rattle.std.specs.Prelude.{Ok, Err}

-- A MESSAGE THAT WAS READ and is its own spelling

own_read : (m : List ℕ) (t : MessageType) (n : ℕ) → answer_of m most ≡ Ok (t, n) → spelling_of t m ≡ m → Own t m
own_read m t n e s =
    let r = accepted_record m most t n e in
    let whole : spelling (message_from t (contents m)) ≡ m = r.spelled ∙ s in
    let f = reached_fitting t m (accepted_taken t m most n e).reached in
    record {
      two = omega (arith, ap length s, spelling_two m most t n e);
      short = r.sent.short;
      stays = ap reduced (sym whole) ∙ spelling_reduced (message_from t (contents m)) r.valid ∙ whole;
      least = f.least;
      greatest = f.most;
      fit = f.fit;
    }

pub taken_own : (m : List ℕ) (t : MessageType) → taken_of m ≡ Ok (t, true) → Own t m
unfolding taken_of
taken_own m t e = go (answer_of m most) refl e
  where
    go : (a : Answer) → answer_of m most ≡ a → taken_as a m ≡ Ok (t, true) → Own t m
    go (Ok (u, n)) q p =
        let both = ok_same u t (same (spelling_of u m) m) true p in
        let o : Own u m = own_read m u n q (same-eq (spelling_of u m) m both.1) in
        rw both.0 at o
    go (Err r) q p = cc

-- WHERE A FIELD STANDS

-- what is left of a text behind some bytes stands at its end
left_at : (s w : List ℕ) (k : ℕ) → drop k s ≡ w → drop (length s - length w) s ≡ w
left_at s w k e = go (leb k (length s)) refl
  where
    go : (b : Bool) → leb k (length s) ≡ b → drop (length s - length w) s ≡ w
    go true q =
        let h = leb-true k (length s) q in
        let z : length s - length w ≡ k = omega (arith, ap length e, length-drop k s) in
        ap (λ (i : ℕ). drop i s) z ∙ e
    go false q =
        let h = leb-false k (length s) q in
        let z : length s ≤ length s - length w = omega (arith, ap length e, length-drop k s) in
        drop_end s (length s - length w) z ∙ sym (drop_end s k (omega arith)) ∙ e

-- so many bytes on begins field j
record Begins (j : ℕ) (s : List ℕ) : Type 0 where
  on : ℕ
  there : drop on s ≡ behind_hyphen j s

begins : (j : ℕ) (s : List ℕ) → Begins j s
unfolding behind_hyphen
begins zero s = record { on = 0; there = refl }
begins (suc j) s =
    let b = begins j (behind 45 s) in
    record { on = suc (up_to 45 s) + b.on; there = sym (drop-drop b.on (suc (up_to 45 s)) s) ∙ b.there }

pub begins_at : (j : ℕ) (s : List ℕ) → drop (place_of s j) s ≡ behind_hyphen j s
begins_at j s = let b = begins j s in left_at s (behind_hyphen j s) b.on b.there

module _ (m : List ℕ) (two : 2 ≤ length m) (stays : reduced m ≡ m) (j : ℕ) where
  abbrev place : ℕ
  place = place_of (inner m) j

  -- how many bytes the content has
  abbrev size : ℕ
  size = up_to 45 (drop place (inner m))

  inner_long : length (inner m) ≡ length m - 2
  inner_long = length-take-le (length m - 2) (drop 1 m) (omega (arith, length-drop 1 m))

  place_in : place ≤ length (inner m)
  place_in = omega arith

  ends_in : place + size ≤ length (inner m)
  ends_in = omega (arith, up_to-le 45 (drop place (inner m)), length-drop place (inner m), place_in)

  pub content_is : content_in m j ≡ take size (drop place (inner m))
  content_is =
      ap (λ (w : List ℕ). get_or (split 45 (inner w)) j []) stays ∙ field_at_lem j (inner m) ∙ sym (ap (before 45) (begins_at j (inner m)))

  pub content_long : length (content_in m j) ≡ size
  content_long =
      ap length content_is ∙ length-take-le size (drop place (inner m)) (omega (arith, ends_in, length-drop place (inner m)))

  -- what stands so many bytes behind a place of the text stands one more byte behind the message's
  from_text : take size (drop (suc place) m) ≡ take size (drop place (inner m))
  from_text =
      let n : size ≤ length m - 2 - place = omega (arith, ends_in, inner_long) in
      let z : suc place ≡ 1 + place = omega arith in
      ap (λ (k : ℕ). take size (drop k m)) z
      ∙ ap (take size) (sym (drop-drop place 1 m))
      ∙ sym (take-take size (length m - 2 - place) (drop place (drop 1 m)) n)
      ∙ ap (take size) (sym (drop-take place (length m - 2) (drop 1 m) (omega (arith, place_in, inner_long))))

  pub field_holds : Holds m (span_at m j) (content_in m j)
  field_holds =
      let n : suc place + length (content_in m j) - suc place ≡ size = omega (arith, content_long) in
      record {
        ordered = omega arith;
        inside = omega (arith, content_long, ends_in, inner_long, two);
        there = ap (λ (k : ℕ). take k (drop (suc place) m)) n ∙ from_text ∙ sym content_is;
      }

  -- as the code finds it: x is the text, in which the content stands from `begin` to e
  pub field_found : (x : List ℕ) → x ≡ inner m → (begin e : ℕ) → begin ≤ length x → drop begin x ≡ behind_hyphen j x → e ≡ begin + up_to 45 (drop begin x)
      → record { from = begin + 1; to = e + 1 } ≡ span_at m j
  field_found x is begin e l d end =
      let p : begin ≡ place = place_at j begin x l d ∙ ap (λ (w : List ℕ). place_of w j) is in
      let z : up_to 45 (drop begin x) ≡ size = ap₂ (λ (k : ℕ) (w : List ℕ). up_to 45 (drop k w)) p is in
      let f : begin + 1 ≡ suc place = omega arith in
      let t : e + 1 ≡ suc place + length (content_in m j) = omega (arith, content_long) in
      ap₂ (λ (a b : ℕ). record { from = a; to = b }) f t
