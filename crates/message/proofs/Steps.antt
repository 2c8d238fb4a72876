-- The answers, as the code comes to them: of each number its answer. Assumes nothing.
use Prim.Native.Nat.{ℕ, suc, ◌-◌, ◌<◌, ◌≤◌}
use mathlib.Core.Path.{◌≡◌, refl, sym, ap, ap₂, ◌∙◌}
use mathlib.Core.Bool.{Bool, true, false, cond}
use mathlib.Core.List.{List, [], ◌∷◌}
use native.Mathlib.Omega.{arith}
use lib.Dec.{eqb, leb}
use lib.ListN.{length, take, drop, get_or, length-take, length-drop}
use lib.Seq.{drop-append-le, take-append-le}
use borrow.Author.Tests.{lt-ltb, le-ltb, ne_eqb, leb-true}
use Rattle.text.specs.Words.{split, before}
use Rattle.text.specs.Lent.{front}
use Rattle.space.specs.Reduced.{reduced}
use Rattle.space.specs.Fields.{inner}
use Rattle.space.specs.Hyphens.{hyphens, one_more, place_of_hyphen, behind_hyphen}
use Rattle.space.specs.Places.{sent_place}
use Rattle.space.proofs.Reduced.{never_longer}
use Rattle.space.proofs.Frame.{frame_stays}
use Rattle.sent.specs.Sent.{contents}
use Rattle.sent.proofs.Passed.{passed_count}
use Rattle.outer.specs.Outer.{outer, Passed}
use Rattle.outer.proofs.Good.{good_passed}
use Rattle.kinds.specs.declared.MessageType.{MessageType}
use Rattle.kinds.specs.declared.Form.{Form}
use Rattle.kinds.specs.Kinds.{least_of, greatest_of, types_read, forms_of, form_at, number_of, most_fields}
use Rattle.kinds.proofs.Fields.{forms_length}
use Rattle.kinds.proofs.Names.{each}
use Rattle.form_places.specs.Places.{place_in}
use Rattle.message.specs.Answer.{Fault, fault_at}
use Rattle.message.specs.Reading.{text_of, count_of, spelled_from, spelling_of, fault_in, is_plan, unexplained_in, place_in_plan, place_of7, place_of_fault}
use Rattle.message.specs.Reading.{Counted, room_as, fault_as, fields_as, count_as}
use Rattle.message.proofs.Nth.{field_at_lem}
use Rattle.std.specs.Prelude.{Ok, Err}
use Rattle.outer.specs.Refusal.{refusal}

-- NUMBERS 10 AND 11

module _ (t : MessageType) (m : List ℕ) (count : ℕ) (s : List ℕ) (k : Counted t m count s) where
  pub spelling_is : spelled_from 40 (forms_of t count) (split 45 s) ≡ spelling_of t m
  unfolding spelling_of
  spelling_is = rw (k.count_is, k.text_is)

  pub room_short : (room due : ℕ) → due ≡ length (spelled_from 40 (forms_of t count) (split 45 s)) → room < due → room_as t m room ≡ Err (refusal 11 0 0)
  room_short room due e h = rw (lt-ltb room (length (spelling_of t m)) (omega (arith, e ∙ ap length spelling_is)))

  pub room_enough : (room n : ℕ) → n ≡ length (spelled_from 40 (forms_of t count) (split 45 s)) → n ≤ room → room_as t m room ≡ Ok (t, n)
  room_enough room n e h =
      let z : n ≡ length (spelling_of t m) = e ∙ ap length spelling_is in
      rw (le-ltb room (length (spelling_of t m)) (omega arith)) (ap (λ (n : ℕ). Ok (t, n)) (sym z))

  pub contents_are : split 45 s ≡ contents m
  contents_are = ap (split 45) k.text_is

  pub left_unexplained : (room field : ℕ) → is_plan t ≡ true → field ≡ unexplained_in (split 45 s) → (field ≡ 0 → ⊥)
      → fault_as (Ok tt) t m room ≡ Err (refusal 10 field (place_of_hyphen (place_in_plan field) m))
  left_unexplained room field p e ne =
      let z : unexplained_in (contents m) ≡ field = ap unexplained_in (sym contents_are) ∙ sym e in
      rw (p, z, ne_eqb field 0 ne)

  pub none_unexplained : (room field : ℕ) → is_plan t ≡ true → field ≡ unexplained_in (split 45 s) → field ≡ 0 → fault_as (Ok tt) t m room ≡ room_as t m room
  none_unexplained room field p e z =
      let y : unexplained_in (contents m) ≡ 0 = ap unexplained_in (sym contents_are) ∙ sym e ∙ z in
      rw (p, y)

  pub no_plan : (room : ℕ) → is_plan t ≡ false → fault_as (Ok tt) t m room ≡ room_as t m room
  no_plan room p = rw p

  -- NUMBERS 7, 8 AND 9

  fault_is : fault_in t count (split 45 s) ≡ fault_in t (count_of m) (contents m)
  fault_is = ap₂ (fault_in t) k.count_is contents_are

  pub field_fault : (room number j : ℕ) → fault_in t count (split 45 s) ≡ Err (fault_at number j)
      → fields_as t m room ≡ Err (refusal number (number_of (form_at t count j)) (place_of_fault number t j m))
  field_fault room number j e =
      ap (λ (f : Fault). fault_as f t m room) (sym fault_is ∙ e)
      ∙ ap (λ (n : ℕ). Err (refusal number (number_of (form_at t n j)) (place_of_fault number t j m))) (sym k.count_is)

  -- the place, by the form and the content of field j
  pub fault_placed : (number j : ℕ) (f : Form) (w : List ℕ) → f ≡ form_at t count j → w ≡ get_or (split 45 s) j []
      → cond (eqb number 7) (sent_place j (place_in f w) m) (place_of_hyphen j m) ≡ place_of_fault number t j m
  unfolding place_of7
  fault_placed number j f w e d =
      let form = e ∙ ap (λ (n : ℕ). form_at t n j) k.count_is in
      let content = d ∙ field_at_lem j s ∙ ap (λ (u : List ℕ). before 45 (behind_hyphen j u)) k.text_is in
      ap (λ (n : ℕ). cond (eqb number 7) (sent_place j n m) (place_of_hyphen j m)) (ap₂ place_in form content)

  pub fields_clear : (room : ℕ) → fault_in t count (split 45 s) ≡ Ok tt → fields_as t m room ≡ fault_as (Ok tt) t m room
  fields_clear room e = ap (λ (f : Fault). fault_as f t m room) (sym fault_is ∙ e)

-- THE SCRATCH: what stands between the parentheses of a message that has been reduced into it

module _ (m buf : List ℕ) (n : ℕ) (g : outer m ≡ Ok tt) (long : n ≡ length (reduced m)) where
  passed : Passed m
  passed = good_passed m g

  pub reduced_two : 2 ≤ n
  reduced_two = omega (arith, (frame_stays m passed.framed).long)

  pub reduced_short : n ≤ 1800
  reduced_short = omega (arith, never_longer m, passed.short)

  pub text_in : take (n - 1 - 1) (drop 1 (front (reduced m) buf)) ≡ text_of m
  unfolding front
  text_in =
      let h : 1 ≤ length (reduced m) = omega (arith, reduced_two) in
      let l : n - 1 - 1 ≤ length (drop 1 (reduced m)) = omega (arith, length-drop 1 (reduced m)) in
      let z : n - 1 - 1 ≡ length (reduced m) - 2 = omega arith in
      rw (drop-append-le 1 (reduced m) (drop (length (reduced m)) buf) h, take-append-le (n - 1 - 1) (drop 1 (reduced m)) (drop (length (reduced m)) buf) l, z)

  -- so the fields can be read there
  pub counted : (t : MessageType) (count : ℕ) → count ≡ count_of m → least_of t ≤ count → count ≤ greatest_of t → (s : List ℕ) → s ≡ text_of m
      → Counted t m count s
  counted t count c l u s e =
      let r = reduced m in
      let w : length s ≤ length r = omega (arith, ap length e, length-take (length r - 2) (drop 1 r), length-drop 1 r) in
      record {
        count_is = c;
        text_is = e;
        short = omega (arith, reduced_short);
        even = forms_length t count l u ∙ c ∙ sym (passed_count m passed) ∙ ap (λ (x : List ℕ). length (split 45 x)) (sym e);
      }

pub two_bytes : (m : List ℕ) → outer m ≡ Ok tt → 2 ≤ length m
two_bytes m g = (good_passed m g).framed.long

-- a message that is its own reduction has the text where it stands
pub text_itself : (m : List ℕ) → reduced m ≡ m → take (length m - 1 - 1) (drop 1 m) ≡ text_of m
text_itself m e = let z : length m - 1 - 1 ≡ length m - 2 = omega arith in ap (λ (k : ℕ). take k (drop 1 m)) z ∙ ap inner (sym e)

-- a text has no more fields than any type allows
most_fields_lem : (t : MessageType) → greatest_of t ≤ most_fields
unfolding types_read
most_fields_lem t = leb-true (greatest_of t) most_fields (each (λ u. leb (greatest_of u) most_fields) refl t)

pub few_fields : (t : MessageType) (m : List ℕ) (count : ℕ) (s : List ℕ) → Counted t m count s → least_of t ≤ count → count ≤ greatest_of t
    → length (split 45 s) ≤ most_fields
few_fields t m count s k l u = omega (arith, k.even, forms_length t count l u, most_fields_lem t)

-- NUMBER 6

hyphens_short : (m : List ℕ) → hyphens m ≤ length m
unfolding hyphens
hyphens_short [] = omega arith
hyphens_short (b ∷ m) = go (hyphens_short m) (eqb b 45)
  where
    go : hyphens m ≤ length m → (t : Bool) → one_more t (hyphens m) ≤ suc (length m)
    go ih true = omega arith
    go ih false = omega arith

-- a message that numbers 1 to 3 let pass has some bytes, and few hyphens
pub some_bytes : (m : List ℕ) → outer m ≡ Ok tt → (1 ≤ length m) × (hyphens m ≤ 1800)
some_bytes m g =
    let p = good_passed m g in
    (omega (arith, p.framed.long), omega (arith, p.short, hyphens_short m))

module _ (t : MessageType) (m : List ℕ) (room count : ℕ) (c : count ≡ count_of m) where
  pub too_few : count < least_of t → count_as t m room ≡ Err (refusal 6 0 (length m - 1))
  unfolding count_as
  too_few h = rw (lt-ltb (count_of m) (least_of t) (omega arith))

  pub too_many : least_of t ≤ count → greatest_of t < count → count_as t m room ≡ Err (refusal 6 0 (place_of_hyphen (greatest_of t) m))
  unfolding count_as
  too_many l h = rw (le-ltb (count_of m) (least_of t) (omega arith), lt-ltb (greatest_of t) (count_of m) (omega arith))

  pub enough : least_of t ≤ count → count ≤ greatest_of t → count_as t m room ≡ fields_as t m room
  unfolding count_as
  enough l h = rw (le-ltb (count_of m) (least_of t) (omega arith), le-ltb (greatest_of t) (count_of m) (omega arith))
