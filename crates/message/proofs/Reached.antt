-- What a message has passed where it is accepted, and that one that has passed it is accepted if its spelling fits the room. Assumes nothing.
use Prim.Native.Nat.{ℕ, ◌≤◌}
use mathlib.Core.Path.{◌≡◌, refl, sym, ap, ◌∙◌}
use mathlib.Core.Bool.{Bool, true, false, cond}
use mathlib.Core.List.{List}
use lib.Dec.{eqb, ltb}
use lib.ListN.{length}
use borrow.Author.Tests.{ltb-false, le-ltb, eqb-true}
use Rattle.sent.specs.Sent.{contents}
use Rattle.outer.specs.Refusal.{Checked, refusal}
use Rattle.outer.specs.Outer.{outer}
use Rattle.outer.proofs.Same.{ok_same}
use Rattle.kinds.specs.declared.MessageType.{MessageType}
use Rattle.kinds.specs.Kinds.{Named, least_of, greatest_of, type_named}
use Rattle.message.specs.Answer.{Fault, Answer}
use Rattle.message.specs.Reading.{count_of, spelling_of, fault_in, is_plan, unexplained_in}
use Rattle.message.specs.Reading.{room_as, explained_as, fault_as, count_as, type_as, three, outer_as, answer_of}
use Rattle.std.specs.Prelude.{Ok, Err}
use Rattle.kinds.specs.declared.TypeFault.TheVariants.{NotRead, NoType}

-- the field that is left unexplained; 0 for none, and in other types than FPL
abbrev pub unexplained_as : MessageType → List ℕ → ℕ
unexplained_as t m = cond (is_plan t) (unexplained_in (contents m)) 0

-- numbers 1 to 10 are passed
pub record Reached (t : MessageType) (m : List ℕ) : Type 0 where
  pub good : outer m ≡ Ok tt
  pub named : type_named (three m) ≡ Ok t
  pub least : least_of t ≤ count_of m
  pub most : count_of m ≤ greatest_of t
  pub clear : fault_in t (count_of m) (contents m) ≡ Ok tt
  pub explained : unexplained_as t m ≡ 0

-- a message that has passed them is answered by its room
pub reached_room : (t : MessageType) (m : List ℕ) (room : ℕ) → Reached t m → answer_of m room ≡ room_as t m room
unfolding answer_of count_as
reached_room t m room r =
    ap (λ (o : Checked). outer_as o m room) r.good
    ∙ ap (λ (k : Named). type_as k m room) r.named
    ∙ rw (le-ltb (count_of m) (least_of t) r.least, le-ltb (greatest_of t) (count_of m) r.most)
    (ap (λ (f : Fault). fault_as f t m room) r.clear ∙ ap (λ (u : ℕ). explained_as u t m room) r.explained)

pub reached_accepted : (t : MessageType) (m : List ℕ) (room : ℕ) → Reached t m → length (spelling_of t m) ≤ room
    → answer_of m room ≡ Ok (t, length (spelling_of t m))
reached_accepted t m room r h = reached_room t m room r ∙ rw (le-ltb room (length (spelling_of t m)) h)

-- and an accepted one has passed them
pub record Taken (t : MessageType) (m : List ℕ) (room n : ℕ) : Type 0 where
  pub reached : Reached t m
  pub fits : length (spelling_of t m) ≤ room
  pub long : n ≡ length (spelling_of t m)

module _ (t : MessageType) (m : List ℕ) (room n : ℕ) where
  at_room : (u : MessageType) → Reached u m → (b : Bool) → ltb room (length (spelling_of u m)) ≡ b
      → cond {A = Answer} b (Err (refusal 11 0 0)) (Ok (u, length (spelling_of u m))) ≡ Ok (t, n) → Taken t m room n
  at_room u r true p e = cc
  at_room u r false p e =
      let same = ok_same u t (length (spelling_of u m)) n e in
      let taken : Taken u m room n = record { reached = r; fits = ltb-false room (length (spelling_of u m)) p; long = sym same.1 } in
      rw same.0 at taken

  at_explained : (u : MessageType) → ((unexplained_as u m ≡ 0) → Reached u m) → (b : Bool) → eqb (unexplained_as u m) 0 ≡ b
      → (place : ℕ) → cond b (room_as u m room) (Err (refusal 10 (unexplained_as u m) place)) ≡ Ok (t, n) → Taken t m room n
  at_explained u r true p place e = at_room u (r (eqb-true (unexplained_as u m) 0 p)) (ltb room (length (spelling_of u m))) refl e
  at_explained u r false p place e = cc

  at_fault : (u : MessageType) → ((fault_in u (count_of m) (contents m) ≡ Ok tt) → (unexplained_as u m ≡ 0) → Reached u m)
      → (f : Fault) → fault_in u (count_of m) (contents m) ≡ f → fault_as f u m room ≡ Ok (t, n) → Taken t m room n
  at_fault u r (Err r') p e = cc
  at_fault u r (Ok u') p e = at_explained u (r p) (eqb (unexplained_as u m) 0) refl _ e

  at_most : (u : MessageType) → outer m ≡ Ok tt → type_named (three m) ≡ Ok u → least_of u ≤ count_of m
      → (b : Bool) → ltb (greatest_of u) (count_of m) ≡ b → (place : ℕ)
      → cond b (Err (refusal 6 0 place)) (fault_as (fault_in u (count_of m) (contents m)) u m room) ≡ Ok (t, n) → Taken t m room n
  at_most u g k l true p place e = cc
  at_most u g k l false p place e =
      at_fault u (λ c x. record { good = g; named = k; least = l; most = ltb-false (greatest_of u) (count_of m) p; clear = c; explained = x })
      (fault_in u (count_of m) (contents m)) refl e

  at_least : (u : MessageType) → outer m ≡ Ok tt → type_named (three m) ≡ Ok u → (b : Bool) → ltb (count_of m) (least_of u) ≡ b → (place place' : ℕ)
      → cond b (Err (refusal 6 0 place))
      (cond (ltb (greatest_of u) (count_of m)) (Err (refusal 6 0 place')) (fault_as (fault_in u (count_of m) (contents m)) u m room)) ≡ Ok (t, n)
      → Taken t m room n
  at_least u g k true p place place' e = cc
  at_least u g k false p place place' e =
      at_most u g k (ltb-false (count_of m) (least_of u) p) (ltb (greatest_of u) (count_of m)) refl place' e

  at_type : outer m ≡ Ok tt → (k : Named) → type_named (three m) ≡ k → type_as k m room ≡ Ok (t, n) → Taken t m room n
  unfolding count_as
  at_type g (Err NoType) p e = cc
  at_type g (Err NotRead) p e = cc
  at_type g (Ok u) p e = at_least u g p (ltb (count_of m) (least_of u)) refl _ _ e

  at_outer : (o : Checked) → outer m ≡ o → outer_as o m room ≡ Ok (t, n) → Taken t m room n
  at_outer (Err r) q e = cc
  at_outer (Ok u) q e = at_type q (type_named (three m)) refl e

  pub accepted_taken : answer_of m room ≡ Ok (t, n) → Taken t m room n
  unfolding answer_of
  accepted_taken e = at_outer (outer m) refl e
