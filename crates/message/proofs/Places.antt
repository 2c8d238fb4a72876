-- The place of a refusal is one in the message, or its end. Assumes nothing.
use Prim.Native.Nat.{ℕ, zero, suc, ◌+◌, ◌-◌, ◌≤◌}
use mathlib.Core.Path.{◌≡◌, refl, subst}
use mathlib.Core.Bool.{Bool, true, false, ◌&&◌, cond}
use mathlib.Core.List.{List, [], ◌∷◌}
use native.Mathlib.Omega.{arith}
use borrow.Author.Tests.{ltb-true}
use lib.Dec.{eqb, ltb}
use lib.ListN.{length, drop, length-drop}
use Rattle.alphabet.specs.Alphabet.{in_alphabet, white}
use Rattle.text.specs.Words.{up_to}
use Rattle.space.specs.Hyphens.{up_to_hyphen, place_of_hyphen}
use Rattle.space.specs.Places.{sent_from, past_lead, sent_place}
use Rattle.sent.specs.Sent.{contents}
use Rattle.outer.specs.Refusal.{Checked, refusal}
use Rattle.outer.specs.Outer.{closing, parens_from, parens, letters_from, or_else, outer}
use Rattle.kinds.specs.declared.MessageType.{MessageType}
use Rattle.kinds.specs.Kinds.{Named, least_of, greatest_of, form_at, type_named}
use Rattle.form_places.specs.Places.{place_in}
use Rattle.message.specs.Answer.{Fault, Answer}
use Rattle.message.specs.Reading.{count_of, content_of, spelling_of, fault_in, place_of7, is_plan, unexplained_in, place_in_plan}
use Rattle.message.specs.Reading.{room_as, explained_as, fault_as, count_as, type_as, three, outer_as, answer_of}
use Rattle.std.specs.Prelude.{Ok, Err}
use Rattle.kinds.specs.declared.TypeFault.TheVariants.{NotRead, NoType}

-- HYPHENS

up_to_inside : (c : ℕ) (s : List ℕ) → up_to c s ≤ length s
up_to_inside c [] = omega arith
up_to_inside c (b ∷ s) = go (eqb b c) (up_to_inside c s)
  where
    go : (t : Bool) → up_to c s ≤ length s → cond t 0 (suc (up_to c s)) ≤ suc (length s)
    go true h = omega arith
    go false h = omega arith

hyphen_from : (n : ℕ) (s : List ℕ) → up_to_hyphen n s ≤ length s
unfolding up_to_hyphen
hyphen_from n [] = omega arith
hyphen_from zero (b ∷ s) = up_to_inside 45 (b ∷ s)
hyphen_from (suc n) (b ∷ s) = let h = hyphen_from (cond (eqb b 45) n (suc n)) s in omega arith

hyphen_inside : (j : ℕ) (m : List ℕ) → place_of_hyphen j m ≤ length m
unfolding place_of_hyphen
hyphen_inside zero m = omega arith
hyphen_inside (suc n) m = hyphen_from n m

-- A PLACE IN A FIELD, as sent

from_inside : (r : Bool) (n : ℕ) (s : List ℕ) → sent_from r n s ≤ length s
unfolding sent_from
from_inside r n [] = omega arith
from_inside r zero (b ∷ s) = go (r && white b) (from_inside true zero s)
  where
    go : (x : Bool) → sent_from true zero s ≤ length s → cond x (suc (sent_from true zero s)) 0 ≤ suc (length s)
    go true h = omega arith
    go false h = omega arith
from_inside r (suc n) (b ∷ s) = let h = from_inside (white b) (cond (r && white b) (suc n) n) s in omega arith

lead_inside : (n : ℕ) (s : List ℕ) → past_lead n s ≤ length s
lead_inside n [] = omega arith
lead_inside n (b ∷ s) = let h = from_inside false n s in omega arith

sent_inside : (j n : ℕ) (m : List ℕ) → sent_place j n m ≤ length m
unfolding sent_place
sent_inside j n m =
    let h = hyphen_inside j m in
    let l = lead_inside n (drop (place_of_hyphen j m) m) in
    let d : length (drop (place_of_hyphen j m) m) ≡ length m - place_of_hyphen j m = length-drop (place_of_hyphen j m) m in
    omega arith

-- NUMBERS 1 TO 3

abbrev OuterInside : ℕ → Checked → Type 0
OuterInside most (Ok u) = Unit
OuterInside most (Err r) = r.place ≤ most

closing_inside : (i most : ℕ) (s : List ℕ) → i ≤ most → OuterInside most (closing i s)
closing_inside i most [] h = tt
closing_inside i most (b ∷ s) h = h

parens_from_lem : (i most : ℕ) (s : List ℕ) → i + length s ≤ most → OuterInside most (parens_from i s)
unfolding parens_from
parens_from_lem i most [] h = omega arith
parens_from_lem i most (b ∷ s) h = go (parens_from_lem (suc i) most s (omega arith)) (eqb b 41) (eqb b 40)
  where
    go : OuterInside most (parens_from (suc i) s) → (x y : Bool)
        → OuterInside most (cond x (closing i s) (cond y (Err (refusal 2 0 i)) (parens_from (suc i) s)))
    go ih true y = closing_inside i most s (omega arith)
    go ih false true = omega arith
    go ih false false = ih

parens_inside : (m : List ℕ) → OuterInside (length m) (parens m)
unfolding parens
parens_inside [] = omega arith
parens_inside (b ∷ s) = go (eqb b 40)
  where
    go : (x : Bool) → OuterInside (suc (length s)) (cond x (parens_from 1 s) (Err (refusal 2 0 0)))
    go true = parens_from_lem 1 (suc (length s)) s (omega arith)
    go false = omega arith

letters_from_lem : (i most : ℕ) (s : List ℕ) → i + length s ≤ most → OuterInside most (letters_from i s)
unfolding letters_from
letters_from_lem i most [] h = tt
letters_from_lem i most (b ∷ s) h = go (letters_from_lem (suc i) most s (omega arith)) (in_alphabet b)
  where
    go : OuterInside most (letters_from (suc i) s) → (x : Bool) → OuterInside most (cond x (letters_from (suc i) s) (Err (refusal 3 0 i)))
    go ih true = ih
    go ih false = omega arith

first_inside : (most : ℕ) (o p : Checked) → OuterInside most o → OuterInside most p → OuterInside most (or_else o p)
first_inside most (Ok u) p h k = k
first_inside most (Err r) p h k = h

outer_inside : (m : List ℕ) → OuterInside (length m) (outer m)
unfolding outer
outer_inside m = go (ltb 1800 (length m)) refl
  where
    go : (x : Bool) → ltb 1800 (length m) ≡ x → OuterInside (length m) (cond x (Err (refusal 1 0 1800)) (or_else (parens m) (letters_from 0 m)))
    go true e = omega (arith, ltb-true 1800 (length m) e)
    go false e = first_inside (length m) (parens m) (letters_from 0 m) (parens_inside m) (letters_from_lem 0 (length m) m (omega arith))

-- ALL NUMBERS

abbrev Inside : ℕ → Answer → Type 0
Inside most (Ok (t, n)) = Unit
Inside most (Err r) = r.place ≤ most

room_inside : (t : MessageType) (m : List ℕ) (room : ℕ) → Inside (length m) (room_as t m room)
room_inside t m room = go (ltb room (length (spelling_of t m)))
  where
    go : (b : Bool) → Inside (length m) (cond b (Err (refusal 11 0 0)) (Ok (t, length (spelling_of t m))))
    go true = omega arith
    go false = tt

explained_inside : (field : ℕ) (t : MessageType) (m : List ℕ) (room : ℕ) → Inside (length m) (explained_as field t m room)
explained_inside field t m room = go (eqb field 0)
  where
    go : (b : Bool) → Inside (length m) (cond b (room_as t m room) (Err (refusal 10 field (place_of_hyphen (place_in_plan field) m))))
    go true = room_inside t m room
    go false = hyphen_inside (place_in_plan field) m

fields_inside : (f : Fault) (t : MessageType) (m : List ℕ) (room : ℕ) → Inside (length m) (fault_as f t m room)
unfolding place_of7
fields_inside (Ok u) t m room = explained_inside (cond (is_plan t) (unexplained_in (contents m)) 0) t m room
fields_inside (Err r) t m room = go (eqb r.number 7)
  where
    go : (b : Bool) → cond b (place_of7 t r.field m) (place_of_hyphen r.field m) ≤ length m
    go true = sent_inside r.field (place_in (form_at t (count_of m) r.field) (content_of r.field m)) m
    go false = hyphen_inside r.field m

count_inside : (t : MessageType) (m : List ℕ) (room : ℕ) → Inside (length m) (count_as t m room)
unfolding count_as
count_inside t m room = go (ltb (count_of m) (least_of t)) (ltb (greatest_of t) (count_of m))
  where
    go : (x y : Bool)
        → Inside (length m)
        (cond x (Err (refusal 6 0 (length m - 1)))
        (cond y (Err (refusal 6 0 (place_of_hyphen (greatest_of t) m)))
        (fault_as (fault_in t (count_of m) (contents m)) t m room)))
    go true y = omega arith
    go false true = hyphen_inside (greatest_of t) m
    go false false = fields_inside (fault_in t (count_of m) (contents m)) t m room

type_inside : (k : Named) (m : List ℕ) (room : ℕ) → Inside (length m) (type_as k m room)
type_inside (Err NoType) m room = omega arith
type_inside (Err NotRead) m room = omega arith
type_inside (Ok t) m room = count_inside t m room

whole_inside : (o : Checked) (m : List ℕ) → OuterInside (length m) o → (room : ℕ) → Inside (length m) (outer_as o m room)
whole_inside (Ok u) m h room = type_inside (type_named (three m)) m room
whole_inside (Err r) m h room = h

answer_inside : (m : List ℕ) (room : ℕ) → Inside (length m) (answer_of m room)
unfolding answer_of
answer_inside m room = whole_inside (outer m) m (outer_inside m) room

pub refused_place : (m : List ℕ) (room number field place : ℕ) → answer_of m room ≡ Err (refusal number field place) → place ≤ length m
refused_place m room number field place e = subst (λ (a : Answer). Inside (length m) a) e (answer_inside m room)
