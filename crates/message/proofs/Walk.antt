-- The walk over a text's fields: at field j, which begins at `at` and ends at e, stand a form and a content, and behind them the others.
-- Assumes nothing.
use Prim.Native.Nat.{ℕ, zero, suc, ◌+◌, ◌-◌, ◌<◌, ◌≤◌}
use mathlib.Core.Path.{◌≡◌, refl, sym, ap, ◌∙◌}
use mathlib.Core.Bool.{Bool, true, false, cond, not}
use mathlib.Core.List.{List, [], ◌∷◌, ◌++◌, map}
use native.Mathlib.Omega.{arith}
use native.Mathlib.Numerals.{add-one}
use lib.Dec.{eqb}
use lib.ListN.{length, take, drop, get_or, set, length-set, length-take, length-drop, length-append}
use lib.Seq.{drop-cons, get_or-set_same, get_or-set_other}
use borrow.Author.Tests.{eq-eqb, ne_eqb, eqb-true, eqb-false, not-true}
use Rattle.alphabet.specs.Alphabet.{one_of}
use Rattle.text.specs.Words.{Word, split, join, after, up_to, all}
use Rattle.text.specs.Places.{Stepped}
use Rattle.text.specs.Lent.{front}
use Rattle.space.specs.Hyphens.{behind_hyphen}
use Rattle.text.proofs.Tests.{both}
use Rattle.text.proofs.Index.{split_at, after_here, after_end}
use Rattle.text.proofs.Joined.{join-split}
use Rattle.kinds.specs.declared.MessageType.{MessageType}
use Rattle.kinds.specs.declared.Form.{Form}
use Rattle.kinds.specs.declared.Form.TheVariants.{Field22}
use Rattle.kinds.specs.Kinds.{forms_of, form_at}
use Rattle.records.specs.Records.{fit_all}
use Rattle.forms.specs.Forms.{field_of, rank_in, fault_of, written_of}
use Rattle.forms.proofs.Forms.{written_short}
use Rattle.message.specs.Reading.{fault_from, fault_in, spelled_from, lead_of}
use Rattle.std.specs.Prelude.{Ok, Err}
use Rattle.message.specs.Answer.{fault_at}

-- as many forms are left as contents
abbrev pub Even : MessageType → ℕ → List ℕ → ℕ → ℕ → Type 0
Even t n s at j = length (drop j (forms_of t n)) ≡ length (split 45 (drop at s))

module _ (t : MessageType) (n : ℕ) (s : List ℕ) (at j e : ℕ) (end : e ≡ at + up_to 45 (drop at s)) (even : Even t n s at j) where
  pub parts_here : split 45 (drop at s) ≡ take (e - at) (drop at s) ∷ after 45 (drop e s)
  parts_here = split_at 45 s at e end

  more : j < length (forms_of t n)
  more = omega (arith, length-drop j (forms_of t n), even ∙ ap length parts_here)

  pub forms_here : drop j (forms_of t n) ≡ form_at t n j ∷ drop (j + 1) (forms_of t n)
  unfolding form_at
  forms_here = rw (add-one j) (drop-cons (forms_of t n) j Field22 more)

  pub even_behind : length (drop (j + 1) (forms_of t n)) ≡ length (after 45 (drop e s))
  even_behind = omega (arith, ap length forms_here, even ∙ ap length parts_here)

  pub even_next : e < length s → Even t n s (e + 1) (j + 1)
  even_next h = even_behind ∙ ap length (after_here 45 s e h)

  last_form : length s ≤ e → drop (j + 1) (forms_of t n) ≡ []
  last_form h = no_length (drop (j + 1) (forms_of t n)) (even_behind ∙ ap length (after_end 45 s e h))
    where
      no_length : {A : Type 0} (l : List A) → length l ≡ 0 → l ≡ []
      no_length [] z = refl
      no_length (x ∷ l) z = absurd (omega arith)

  -- FAULTS

  module _ (earlier : List ℕ) where
    fault_turn : fault_from earlier j (drop j (forms_of t n)) (split 45 (drop at s))
        ≡ cond (eqb (fault_of (one_of (rank_in (form_at t n j) (take (e - at) (drop at s))) earlier) (form_at t n j) (take (e - at) (drop at s))) 0)
        (fault_from (rank_in (form_at t n j) (take (e - at) (drop at s)) ∷ earlier) (suc j) (drop (j + 1) (forms_of t n)) (after 45 (drop e s)))
        (Err (fault_at (fault_of (one_of (rank_in (form_at t n j) (take (e - at) (drop at s))) earlier) (form_at t n j) (take (e - at) (drop at s))) j))
    fault_turn = rw (forms_here, parts_here)

  module _ (earlier : List ℕ) (f : Form) (k number : ℕ) (is_form : f ≡ form_at t n j) (is-rank : k ≡ rank_in f (take (e - at) (drop at s)))
      (is_number : number ≡ fault_of (one_of k earlier) f (take (e - at) (drop at s))) where
    number_is : fault_of (one_of (rank_in (form_at t n j) (take (e - at) (drop at s))) earlier) (form_at t n j) (take (e - at) (drop at s)) ≡ number
    number_is = rw (← is_form, ← is-rank) (sym is_number)

    rank_is : rank_in (form_at t n j) (take (e - at) (drop at s)) ≡ k
    rank_is = rw (← is_form) (sym is-rank)

    pub fault_found : (number ≡ 0 → ⊥) → fault_from earlier j (drop j (forms_of t n)) (split 45 (drop at s)) ≡ Err (fault_at number j)
    fault_found h = fault_turn earlier ∙ rw (number_is, ne_eqb number 0 h)

    pub fault_last : number ≡ 0 → length s ≤ e → fault_from earlier j (drop j (forms_of t n)) (split 45 (drop at s)) ≡ Ok tt
    fault_last z h = fault_turn earlier ∙ rw (number_is, eq-eqb number 0 z, last_form h)

    pub fault_next : number ≡ 0 → e < length s
        → fault_from earlier j (drop j (forms_of t n)) (split 45 (drop at s))
        ≡ fault_from (k ∷ earlier) (j + 1) (drop (j + 1) (forms_of t n)) (split 45 (drop (e + 1) s))
    fault_next z h = fault_turn earlier ∙ rw (number_is, eq-eqb number 0 z, rank_is, after_here 45 s e h, add-one j)

  -- WHAT FITS

  module _ (fit : fit_all (map field_of (drop j (forms_of t n))) (split 45 (drop at s)) ≡ true) where
    fits_turn : ((field_of (form_at t n j)).fits (take (e - at) (drop at s)) ≡ true)
        × (fit_all (map field_of (drop (j + 1) (forms_of t n))) (after 45 (drop e s)) ≡ true)
    fits_turn = both ((field_of (form_at t n j)).fits (take (e - at) (drop at s))) _ (rw (forms_here, parts_here) at fit)

    pub fits_here : (field_of (form_at t n j)).fits (take (e - at) (drop at s)) ≡ true
    fits_here = fits_turn.0

    pub fits_next : e < length s → fit_all (map field_of (drop (j + 1) (forms_of t n))) (split 45 (drop (e + 1) s)) ≡ true
    fits_next h = sym (ap (fit_all (map field_of (drop (j + 1) (forms_of t n)))) (after_here 45 s e h)) ∙ fits_turn.1

  -- THE SPELLING

  pub spelled_turn : (lead : ℕ)
      → spelled_from lead (drop j (forms_of t n)) (split 45 (drop at s))
      ≡ (lead ∷ written_of (form_at t n j) (take (e - at) (drop at s))) ++ spelled_from 45 (drop (j + 1) (forms_of t n)) (after 45 (drop e s))
  spelled_turn lead = rw (forms_here, parts_here)

  pub spelled_last : length s ≤ e → spelled_from 45 (drop (j + 1) (forms_of t n)) (after 45 (drop e s)) ≡ 41 ∷ []
  spelled_last h = rw (last_form h)

  pub spelled_next : e < length s
      → spelled_from 45 (drop (j + 1) (forms_of t n)) (after 45 (drop e s))
      ≡ spelled_from (lead_of (j + 1)) (drop (j + 1) (forms_of t n)) (split 45 (drop (e + 1) s))
  spelled_next h = rw (after_here 45 s e h, ne_eqb (j + 1) 0 (λ z. omega arith))

-- WHICH RANKS HAVE BEEN SEEN

abbrev pub Marks : List Bool → List ℕ → Type 0
Marks seen earlier = (k : ℕ) → k ≤ 8 → get_or seen k false ≡ one_of k earlier

pub mark : (seen : List Bool) (earlier : List ℕ) (r : ℕ) → r < length seen → Marks seen earlier → Marks (set seen r true) (r ∷ earlier)
mark seen earlier r h m k l = go (eqb k r) refl
  where
    go : (b : Bool) → eqb k r ≡ b → get_or (set seen r true) k false ≡ cond b true (one_of k earlier)
    go true p = ap (λ (i : ℕ). get_or (set seen r true) i false) (eqb-true k r p) ∙ get_or-set_same seen r true false h
    go false p = get_or-set_other seen r k true false (eqb-false k r p) ∙ m k l

-- the walk, so far: the fault from here on is the fault of the whole
pub record Walked (t : MessageType) (n : ℕ) (s : List ℕ) (seen : List Bool) (at j : ℕ) : Type 0 where
  pub inside : at ≤ length s
  pub few : j ≤ at
  pub nine : length seen ≡ 9
  pub even : Even t n s at j
  pub earlier : List ℕ
  pub marks : Marks seen earlier
  pub same : fault_from [] 0 (forms_of t n) (split 45 s) ≡ fault_from earlier j (drop j (forms_of t n)) (split 45 (drop at s))

-- A LEADING BYTE, and then the rest
pub lead_write : (out w : List ℕ) (x : ℕ) → 0 < length out → take 1 (set out 0 x) ++ front w (drop 1 (set out 0 x)) ≡ front (x ∷ w) out
unfolding front
lead_write [] w x h = absurd (omega arith)
lead_write (b ∷ bs) w x h = refl

-- TO A FIELD, hyphen by hyphen

pub hyphen_turn : (s u : List ℕ) (at next left : ℕ) → Stepped 45 s at next → 0 < left → behind_hyphen left (drop at s) ≡ u
    → behind_hyphen (left - 1) (drop next s) ≡ u
unfolding behind_hyphen
hyphen_turn s u at next zero k h e = absurd (omega arith)
hyphen_turn s u at next (suc left) k h e =
    let z : suc left - 1 ≡ left = omega arith in
    rw (z, k.over) e

pub hyphen_done : (s u : List ℕ) (left : ℕ) → left ≤ 0 → behind_hyphen left s ≡ u → s ≡ u
unfolding behind_hyphen
hyphen_done s u zero h e = e
hyphen_done s u (suc left) h e = absurd (omega arith)

-- the walk begins with nothing seen
all_false : (l : List Bool) → all not l ≡ true → (k : ℕ) → get_or l k false ≡ false
all_false [] e k = refl
all_false (b ∷ l) e zero = not-true b (both (not b) (all not l) e).0
all_false (b ∷ l) e (suc k) = all_false l (both (not b) (all not l) e).1 k

pub walk_starts : (t : MessageType) (n : ℕ) (s : List ℕ) (seen : List Bool) → length seen ≡ 9 → all not seen ≡ true
    → length (forms_of t n) ≡ length (split 45 s) → Walked t n s seen 0 0
walk_starts t n s seen l e even =
    record { inside = omega arith; few = omega arith; nine = l; even = even; earlier = []; marks = λ k h. all_false seen e k; same = refl }

-- one turn of it, at a form f, whose content has rank k and the fault `number`
module _ (t : MessageType) (n : ℕ) (s : List ℕ) (seen : List Bool) (at j e : ℕ) (w : Walked t n s seen at j) (end : e ≡ at + up_to 45 (drop at s))
    (f : Form) (k number : ℕ) (is_form : f ≡ form_at t n j) (is-rank : k ≡ rank_in f (take (e - at) (drop at s))) (small : k ≤ 8)
    (is_number : number ≡ fault_of (get_or seen k false) f (take (e - at) (drop at s))) where
  told : number ≡ fault_of (one_of k w.earlier) f (take (e - at) (drop at s))
  told = is_number ∙ ap (λ (b : Bool). fault_of b f (take (e - at) (drop at s))) (w.marks k small)

  pub walk_found : (number ≡ 0 → ⊥) → Err (fault_at number j) ≡ fault_in t n (split 45 s)
  unfolding fault_in
  walk_found h = sym (w.same ∙ fault_found t n s at j e end w.even w.earlier f k number is_form is-rank told h)

  pub walk_clear : number ≡ 0 → length s ≤ e → Ok tt ≡ fault_in t n (split 45 s)
  unfolding fault_in
  walk_clear z h = sym (w.same ∙ fault_last t n s at j e end w.even w.earlier f k number is_form is-rank told z h)

  pub walk_next : number ≡ 0 → e < length s → Walked t n s (set seen k true) (e + 1) (j + 1)
  walk_next z h =
      record {
        inside = omega arith;
        few = omega (arith, w.few);
        nine = length-set seen k true ∙ w.nine;
        even = even_next t n s at j e end w.even h;
        earlier = k ∷ w.earlier;
        marks = mark seen w.earlier k (omega (arith, w.nine)) w.marks;
        same = w.same ∙ fault_next t n s at j e end w.even w.earlier f k number is_form is-rank told z h;
      }

-- HOW LONG THE SPELLING IS, turn by turn

module _ (t : MessageType) (n : ℕ) (s : List ℕ) (at j e : ℕ) (end : e ≡ at + up_to 45 (drop at s)) (even : Even t n s at j) (f : Form) (k : ℕ)
    (is_form : f ≡ form_at t n j) (is-long : k ≡ length (written_of f (take (e - at) (drop at s)))) where
  pub part_short : e ≤ length s → k ≤ e - at
  part_short h = omega (arith, written_short f (take (e - at) (drop at s)), length-take (e - at) (drop at s))

  turn : length (spelled_from (lead_of j) (drop j (forms_of t n)) (split 45 (drop at s)))
      ≡ 1 + k + length (spelled_from 45 (drop (j + 1) (forms_of t n)) (after 45 (drop e s)))
  turn =
      let w = written_of (form_at t n j) (take (e - at) (drop at s)) in
      let others = spelled_from 45 (drop (j + 1) (forms_of t n)) (after 45 (drop e s)) in
      let z : k ≡ length w = is-long ∙ ap (λ (g : Form). length (written_of g (take (e - at) (drop at s)))) is_form in
      omega (arith, ap length (spelled_turn t n s at j e end even (lead_of j)), length-append (lead_of j ∷ w) others)

  pub length_last : length s ≤ e → length (spelled_from (lead_of j) (drop j (forms_of t n)) (split 45 (drop at s))) ≡ 1 + k + 1
  length_last h = turn ∙ ap (λ (l : List ℕ). 1 + k + length l) (spelled_last t n s at j e end even h)

  pub length_next : e < length s
      → length (spelled_from (lead_of j) (drop j (forms_of t n)) (split 45 (drop at s)))
      ≡ 1 + k + length (spelled_from (lead_of (j + 1)) (drop (j + 1) (forms_of t n)) (split 45 (drop (e + 1) s)))
  length_next h = turn ∙ ap (λ (l : List ℕ). 1 + k + length l) (spelled_next t n s at j e end even h)

-- IT IS NEVER LONGER than the text and its parentheses

spelled_none : (lead : ℕ) (fs : List Form) → length (spelled_from lead fs []) ≡ 1
spelled_none lead [] = refl
spelled_none lead (f ∷ fs) = refl

joined_short : (lead : ℕ) (fs : List Form) (cs : List Word) → length (spelled_from lead fs cs) ≤ length (join 45 cs) + 2
joined_short lead [] cs = omega arith
joined_short lead (f ∷ fs) [] = omega arith
joined_short lead (f ∷ fs) (c ∷ []) =
    omega (arith, written_short f c, spelled_none 45 fs, length-append (written_of f c) (spelled_from 45 fs []))
joined_short lead (f ∷ fs) (c ∷ (d ∷ cs)) =
    let l = length-append (written_of f c) (spelled_from 45 fs (d ∷ cs)) in
    omega (arith, written_short f c, joined_short 45 fs (d ∷ cs), l, length-append c (45 ∷ join 45 (d ∷ cs)))

pub spelled_short : (fs : List Form) (s : List ℕ) → length (spelled_from 40 fs (split 45 s)) ≤ length s + 2
spelled_short fs s = omega (arith, joined_short 40 fs (split 45 s), ap length (join-split 45 s))
