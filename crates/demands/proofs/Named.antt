-- The field of a refusal is one that has a form, or 0. Assumes nothing.
use Prim.Native.Nat.{ℕ, ◌-◌}
use mathlib.Core.Path.{◌≡◌, refl, subst}
use mathlib.Core.Bool.{Bool, true, false, cond}
use mathlib.Core.List.{List}
use lib.Dec.{eqb, ltb}
use lib.ListN.{length}
use Rattle.alphabet.specs.Alphabet.{one_of}
use Rattle.text.specs.Words.{Word}
use Rattle.space.specs.Hyphens.{place_of_hyphen}
use Rattle.sent.specs.Sent.{contents}
use Rattle.outer.specs.Refusal.{Checked, refusal}
use Rattle.outer.specs.Outer.{outer}
use Rattle.kinds.specs.declared.MessageType.{MessageType}
use Rattle.kinds.specs.declared.Form.{Form}
use Rattle.kinds.specs.declared.Form.TheVariants.{Field3, Field7, Field8, Field9, Field10, Field13, Field13Open, Field15}
use Rattle.kinds.specs.declared.Form.TheVariants.{Field16, Field16Plan, Field17, Field18, Field19, Field22}
use Rattle.kinds.specs.Kinds.{Named, least_of, greatest_of, form_at, number_of, type_named}
use Rattle.plan.specs.Unexplained.{type_unexplained, departure_unexplained, destination_unexplained, unexplained}
use Rattle.message.specs.Answer.{Fault, Answer}
use Rattle.message.proofs.Answers.{OuterNumber, outer-number}
use Rattle.message.specs.Reading.{count_of, spelling_of, fault_in, is_plan, unexplained_in, place_in_plan}
use Rattle.message.specs.Reading.{room_as, explained_as, fault_as, count_as, type_as, three, outer_as, answer_of}
use Rattle.demands.specs.Demands.{fields_named}
use Rattle.std.specs.Prelude.{Ok, Err}
use Rattle.kinds.specs.declared.TypeFault.TheVariants.{NotRead, NoType}

abbrev Listed : ℕ → Type 0
Listed field = one_of field fields_named ≡ true

-- 0 and 3, which some numbers give
none_listed : Listed 0
unfolding fields_named
none_listed = refl

three_listed : Listed 3
unfolding fields_named
three_listed = refl

-- every form's field
form_listed : (f : Form) → Listed (number_of f)
unfolding fields_named
form_listed Field3 = refl
form_listed Field7 = refl
form_listed Field8 = refl
form_listed Field9 = refl
form_listed Field10 = refl
form_listed Field13 = refl
form_listed Field13Open = refl
form_listed Field15 = refl
form_listed Field16 = refl
form_listed Field16Plan = refl
form_listed Field17 = refl
form_listed Field18 = refl
form_listed Field19 = refl
form_listed Field22 = refl

-- what a plan leaves unexplained
unexplained_listed : (nine thirteen sixteen eighteen : Word) → Listed (unexplained nine thirteen sixteen eighteen)
unfolding unexplained
unexplained_listed nine thirteen sixteen eighteen =
    go (type_unexplained nine eighteen) (departure_unexplained thirteen eighteen) (destination_unexplained sixteen eighteen)
  where
    go : (x y z : Bool) → Listed (cond x 9 (cond y 13 (cond z 16 0)))
    go true y z = form_listed Field9
    go false true z = form_listed Field13
    go false false true = form_listed Field16
    go false false false = none_listed

-- ALL NUMBERS

abbrev Names : Answer → Type 0
Names (Ok (t, n)) = Unit
Names (Err r) = Listed r.field

room_names : (t : MessageType) (m : List ℕ) (room : ℕ) → Names (room_as t m room)
room_names t m room = go (ltb room (length (spelling_of t m)))
  where
    go : (b : Bool) → Names (cond b (Err (refusal 11 0 0)) (Ok (t, length (spelling_of t m))))
    go true = none_listed
    go false = tt

explained_names : (field : ℕ) → Listed field → (t : MessageType) (m : List ℕ) (room : ℕ) → Names (explained_as field t m room)
explained_names field h t m room = go (eqb field 0)
  where
    go : (b : Bool) → Names (cond b (room_as t m room) (Err (refusal 10 field (place_of_hyphen (place_in_plan field) m))))
    go true = room_names t m room
    go false = h

plan_listed : (b : Bool) (cs : List Word) → Listed (cond b (unexplained_in cs) 0)
plan_listed true cs = unexplained_listed _ _ _ _
plan_listed false cs = none_listed

fields_names : (f : Fault) (t : MessageType) (m : List ℕ) (room : ℕ) → Names (fault_as f t m room)
fields_names (Ok u) t m room = explained_names (cond (is_plan t) (unexplained_in (contents m)) 0) (plan_listed (is_plan t) (contents m)) t m room
fields_names (Err r) t m room = form_listed (form_at t (count_of m) r.field)

count_names : (t : MessageType) (m : List ℕ) (room : ℕ) → Names (count_as t m room)
unfolding count_as
count_names t m room = go (ltb (count_of m) (least_of t)) (ltb (greatest_of t) (count_of m))
  where
    go : (x y : Bool)
        → Names
        (cond x (Err (refusal 6 0 (length m - 1)))
        (cond y (Err (refusal 6 0 (place_of_hyphen (greatest_of t) m)))
        (fault_as (fault_in t (count_of m) (contents m)) t m room)))
    go true y = none_listed
    go false true = none_listed
    go false false = fields_names (fault_in t (count_of m) (contents m)) t m room

type_names : (k : Named) (m : List ℕ) (room : ℕ) → Names (type_as k m room)
type_names (Err NoType) m room = three_listed
type_names (Err NotRead) m room = three_listed
type_names (Ok t) m room = count_names t m room

whole_names : (o : Checked) → OuterNumber o → (m : List ℕ) (room : ℕ) → Names (outer_as o m room)
whole_names (Ok u) h m room = type_names (type_named (three m)) m room
whole_names (Err r) h m room = rw h.2 none_listed

answer_names : (m : List ℕ) (room : ℕ) → Names (answer_of m room)
unfolding answer_of
answer_names m room = whole_names (outer m) (outer-number m) m room

pub refused_named : (m : List ℕ) (room number field place : ℕ) → answer_of m room ≡ Err (refusal number field place) → one_of field fields_named ≡ true
refused_named m room number field place e = subst Names e (answer_names m room)
