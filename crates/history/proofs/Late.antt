-- A message that is refused with a number behind 9, with 1,800 bytes of room, is an FPL that leaves a field unexplained: the number is 10.
-- Assumes nothing.
use Prim.Native.Nat.{ℕ, ◌≤◌, ◌<◌}
use mathlib.Core.Path.{◌≡◌, refl, sym, ap, subst, ◌∙◌}
use mathlib.Core.Bool.{Bool, true, false, cond}
use mathlib.Core.List.{List, []}
use native.Mathlib.Omega.{arith}
use lib.Dec.{eqb, ltb}
use lib.ListN.{length}
use borrow.Author.Tests.{eqb-true, eqb-false, ltb-false, le-ltb}
use Rattle.sent.specs.Sent.{contents}
use Rattle.outer.specs.Refusal.{Checked, refusal}
use Rattle.outer.specs.Outer.{outer}
use Rattle.kinds.specs.declared.MessageType.{MessageType}
use Rattle.kinds.specs.declared.MessageType.TheVariants.{Fpl}
use Rattle.kinds.specs.Kinds.{Named, least_of, greatest_of, forms_of, type_named}
use Rattle.message.specs.Answer.{Fault, Answer}
use Rattle.message.specs.Reading.{count_of, is_plan, unexplained_in, spelling_of, fault_in, room_as, fault_as, count_as, type_as, three, outer_as, answer_of}
use Rattle.message.proofs.Reached.{Reached, reached_accepted, unexplained_as}
use Rattle.message.proofs.Valid.{reached_passed}
use Rattle.message.proofs.Answers.{OuterNumber, outer-number, FaultNumber, fault-numbers}
use Rattle.message.proofs.Canonical.{accepted_shorter}
use Rattle.message.proofs.Plans.{plan_type}
use Rattle.std.specs.Prelude.{Ok, Err}
use Rattle.kinds.specs.declared.TypeFault.TheVariants.{NotRead, NoType}

module _ (m : List ℕ) where
  abbrev Late : Answer → Type 0
  Late (Ok (t, n)) = Unit
  Late (Err r) = 9 < r.number → (r.number ≡ 10) × (type_named (three m) ≡ Ok Fpl)

  early : (number field place : ℕ) → number ≤ 9 → Late (Err (refusal number field place))
  early number field place l h = absurd (omega (arith, l, h))

  -- 1,800 bytes are room enough
  room_enough : (t : MessageType) → Reached t m → length (spelling_of t m) ≤ 1800
  room_enough t r =
      let e = reached_accepted t m (length (spelling_of t m)) r (omega arith) in
      omega (arith, accepted_shorter m (length (spelling_of t m)) t (length (spelling_of t m)) e, (reached_passed t m r).short)

  late_room : (t : MessageType) → Reached t m → Late (room_as t m 1800)
  late_room t r =
      subst (λ (b : Bool). Late (cond b (Err (refusal 11 0 0)) (Ok (t, length (spelling_of t m)))))
      (sym (le-ltb 1800 (length (spelling_of t m)) (room_enough t r))) tt

  plan_only : (t : MessageType) → eqb (unexplained_as t m) 0 ≡ false → t ≡ Fpl
  plan_only t e = go (is_plan t) refl
    where
      go : (b : Bool) → is_plan t ≡ b → t ≡ Fpl
      go true p = plan_type t p
      go false p =
          let z : unexplained_as t m ≡ 0 = ap (λ (b : Bool). cond b (unexplained_in (contents m)) 0) p in
          absurd (eqb-false (unexplained_as t m) 0 e z)

  late_explained : (t : MessageType) → type_named (three m) ≡ Ok t → (unexplained_as t m ≡ 0 → Reached t m) → (b : Bool) → eqb (unexplained_as t m) 0 ≡ b
      → (place : ℕ) → Late (cond b (room_as t m 1800) (Err (refusal 10 (unexplained_as t m) place)))
  late_explained t k r true p place = late_room t (r (eqb-true (unexplained_as t m) 0 p))
  late_explained t k r false p place = λ h. (refl, k ∙ ap Ok (plan_only t p))

  late_fault : (t : MessageType) → type_named (three m) ≡ Ok t
      → (fault_in t (count_of m) (contents m) ≡ Ok tt → unexplained_as t m ≡ 0 → Reached t m)
      → (f : Fault) → FaultNumber f → fault_in t (count_of m) (contents m) ≡ f → Late (fault_as f t m 1800)
  late_fault t k r (Err r') s p = λ h. absurd (omega (arith, s.1, h))
  late_fault t k r (Ok u) s p = late_explained t k (r p) (eqb (unexplained_as t m) 0) refl _

  fault_in_lem : (t : MessageType) → FaultNumber (fault_in t (count_of m) (contents m))
  unfolding fault_in
  fault_in_lem t = fault-numbers [] 0 (forms_of t (count_of m)) (contents m)

  late_count : (t : MessageType) → outer m ≡ Ok tt → type_named (three m) ≡ Ok t → (a b : Bool)
      → ltb (count_of m) (least_of t) ≡ a → ltb (greatest_of t) (count_of m) ≡ b → (p q : ℕ)
      → Late (cond a (Err (refusal 6 0 p)) (cond b (Err (refusal 6 0 q)) (fault_as (fault_in t (count_of m) (contents m)) t m 1800)))
  late_count t g k true b x y p q = early 6 0 p (omega arith)
  late_count t g k false true x y p q = early 6 0 q (omega arith)
  late_count t g k false false x y p q =
      late_fault t k
      (λ c u. record {
        good = g;
        named = k;
        least = ltb-false (count_of m) (least_of t) x;
        most = ltb-false (greatest_of t) (count_of m) y;
        clear = c;
        explained = u;
      })
      (fault_in t (count_of m) (contents m)) (fault_in_lem t) refl

  late_type : outer m ≡ Ok tt → (k : Named) → type_named (three m) ≡ k → Late (type_as k m 1800)
  unfolding count_as
  late_type g (Err NoType) p = early 4 3 0 (omega arith)
  late_type g (Err NotRead) p = early 5 3 0 (omega arith)
  late_type g (Ok t) p = late_count t g p (ltb (count_of m) (least_of t)) (ltb (greatest_of t) (count_of m)) refl refl _ _

  late_outer : (o : Checked) → OuterNumber o → outer m ≡ o → Late (outer_as o m 1800)
  late_outer (Ok u) s p = late_type p (type_named (three m)) refl
  late_outer (Err r) s p = early r.number r.field r.place (omega (arith, s.1))

  late : Late (answer_of m 1800)
  unfolding answer_of
  late = late_outer (outer m) (outer-number m) refl

  pub late_plan : (number field place : ℕ) → answer_of m 1800 ≡ Err (refusal number field place) → 9 < number → (number ≡ 10) × (type_named (three m) ≡ Ok Fpl)
  late_plan number field place e = subst Late e late
