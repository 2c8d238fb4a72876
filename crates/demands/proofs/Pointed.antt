-- A refusal with number 7 points at the byte. Assumes nothing.
use Prim.Native.Nat.{ℕ, ◌-◌}
use mathlib.Core.Path.{◌≡◌, refl, ap, subst}
use mathlib.Core.Bool.{Bool, true, false, cond}
use mathlib.Core.List.{List}
use native.Mathlib.Omega.{arith}
use lib.Dec.{eqb, ltb}
use lib.ListN.{length}
use borrow.Author.Tests.{eq-eqb}
use Rattle.space.specs.Hyphens.{place_of_hyphen}
use Rattle.space.specs.Places.{sent_place}
use Rattle.sent.specs.Sent.{contents}
use Rattle.outer.specs.Refusal.{Checked, refusal}
use Rattle.outer.specs.Outer.{outer}
use Rattle.kinds.specs.declared.MessageType.{MessageType}
use Rattle.kinds.specs.Kinds.{Named, least_of, greatest_of, form_at, type_named}
use Rattle.form_places.specs.Places.{place_in}
use Rattle.form_places.proofs.Places.{placed}
use Rattle.message.specs.Answer.{Fault, Answer}
use Rattle.message.specs.Reading.{count_of, content_of, spelling_of, fault_in, place_of7, place_of_fault, is_plan, unexplained_in, place_in_plan}
use Rattle.message.specs.Reading.{room_as, explained_as, fault_as, count_as, type_as, three, outer_as, answer_of}
use Rattle.message.proofs.Answers.{OuterNumber, outer-number}
use Rattle.demands.specs.Demands.{Points}
use Rattle.std.specs.Prelude.{Ok, Err}
use Rattle.kinds.specs.declared.TypeFault.TheVariants.{NotRead, NoType}

abbrev Pointed : List ℕ → Answer → Type 0
Pointed m (Ok (t, n)) = Unit
Pointed m (Err r) = r.number ≡ 7 → Points m r.field r.place

room_points : (t : MessageType) (m : List ℕ) (room : ℕ) → Pointed m (room_as t m room)
room_points t m room = go (ltb room (length (spelling_of t m)))
  where
    go : (b : Bool) → Pointed m (cond b (Err (refusal 11 0 0)) (Ok (t, length (spelling_of t m))))
    go true = λ e. absurd (omega arith)
    go false = tt

explained_points : (field : ℕ) (t : MessageType) (m : List ℕ) (room : ℕ) → Pointed m (explained_as field t m room)
explained_points field t m room = go (eqb field 0)
  where
    go : (b : Bool) → Pointed m (cond b (room_as t m room) (Err (refusal 10 field (place_of_hyphen (place_in_plan field) m))))
    go true = room_points t m room
    go false = λ e. absurd (omega arith)

module _ (t : MessageType) (m : List ℕ) (k : type_named (three m) ≡ Ok t) where
  fields_points : (f : Fault) (room : ℕ) → Pointed m (fault_as f t m room)
  unfolding place_of7
  fields_points (Ok u) room = explained_points (cond (is_plan t) (unexplained_in (contents m)) 0) t m room
  fields_points (Err r) room =
      λ e.
      record {
        type = t;
        type_is = k;
        which = r.field;
        at = place_in (form_at t (count_of m) r.field) (content_of r.field m);
        field_is = refl;
        is_place = placed (form_at t (count_of m) r.field) (content_of r.field m);
        place_is = there e;
      }
    where
      there : r.number ≡ 7 → place_of_fault r.number t r.field m ≡ sent_place r.field (place_in (form_at t (count_of m) r.field) (content_of r.field m)) m
      there e = ap (λ (b : Bool). cond b (place_of7 t r.field m) (place_of_hyphen r.field m)) (eq-eqb r.number 7 e)

  count_points : (room : ℕ) → Pointed m (count_as t m room)
  unfolding count_as
  count_points room = go (ltb (count_of m) (least_of t)) (ltb (greatest_of t) (count_of m))
    where
      go : (x y : Bool)
          → Pointed m
          (cond x (Err (refusal 6 0 (length m - 1)))
          (cond y (Err (refusal 6 0 (place_of_hyphen (greatest_of t) m)))
          (fault_as (fault_in t (count_of m) (contents m)) t m room)))
      go true y = λ e. absurd (omega arith)
      go false true = λ e. absurd (omega arith)
      go false false = fields_points (fault_in t (count_of m) (contents m)) room

type_points : (n : Named) (m : List ℕ) (room : ℕ) → type_named (three m) ≡ n → Pointed m (type_as n m room)
type_points (Err NoType) m room k = λ e. absurd (omega arith)
type_points (Err NotRead) m room k = λ e. absurd (omega arith)
type_points (Ok t) m room k = count_points t m k room

whole_points : (o : Checked) → OuterNumber o → (m : List ℕ) (room : ℕ) → Pointed m (outer_as o m room)
whole_points (Ok u) h m room = type_points (type_named (three m)) m room refl
whole_points (Err r) h m room = λ e. absurd (omega (arith, h.1))

answer_points : (m : List ℕ) (room : ℕ) → Pointed m (answer_of m room)
unfolding answer_of
answer_points m room = whole_points (outer m) (outer-number m) m room

pub refused_points : (m : List ℕ) (room number field place : ℕ) → answer_of m room ≡ Err (refusal number field place) → number ≡ 7 → Points m field place
refused_points m room number field place e = subst (Pointed m) e (answer_points m room)
