-- An answer accepts or refuses. A refusal has one of the numbers 1 to 11 and leaves the output as it stood; an acceptance writes the spelling at
-- its front. Assumes nothing.
use Prim.Native.Nat.{ℕ, suc, ◌-◌, ◌≤◌}
use mathlib.Core.Path.{◌≡◌, refl, ap, subst}
use mathlib.Core.Bool.{Bool, true, false, cond, false≢true}
use mathlib.Core.List.{List, [], ◌∷◌}
use native.Mathlib.Omega.{arith}
use lib.Dec.{eqb, ltb}
use lib.ListN.{length}
use borrow.Author.Tests.{eqb-true, eqb-false}
use Rattle.alphabet.specs.Alphabet.{one_of, in_alphabet}
use Rattle.text.specs.Words.{Word}
use Rattle.text.specs.Lent.{front}
use Rattle.space.specs.Hyphens.{place_of_hyphen}
use Rattle.sent.specs.Sent.{contents}
use Rattle.outer.specs.Refusal.{Checked, refusal}
use Rattle.outer.specs.Outer.{closing, parens_from, parens, letters_from, or_else, outer}
use Rattle.kinds.specs.declared.MessageType.{MessageType}
use Rattle.kinds.specs.declared.Form.{Form}
use Rattle.kinds.specs.Kinds.{Named, least_of, greatest_of, forms_of, type_named}
use Rattle.forms.specs.Forms.{rank_in, fault_of}
use Rattle.forms.proofs.Forms.{fault_number}
use Rattle.message.specs.Answer.{Fault, Answer, fault_at}
use Rattle.message.specs.Reading.{count_of, spelling_of, fault_from, fault_in, is_plan, unexplained_in, place_in_plan}
use Rattle.message.specs.Reading.{room_as, explained_as, fault_as, count_as, type_as, three, outer_as, answer_of, written_as, out_after}
use Rattle.std.specs.Prelude.{Ok, Err}
use Rattle.kinds.specs.declared.TypeFault.TheVariants.{NotRead, NoType}

-- THE OUTPUT

pub refused-leaves : (m out : List ℕ) (number field place : ℕ) → answer_of m (length out) ≡ Err (refusal number field place) → out_after m out ≡ out
unfolding out_after
refused-leaves m out number field place e = ap (λ (a : Answer). written_as a m out) e

pub accepted-writes : (m out : List ℕ) (t : MessageType) (n : ℕ) → answer_of m (length out) ≡ Ok (t, n) → out_after m out ≡ front (spelling_of t m) out
unfolding out_after
accepted-writes m out t n e = ap (λ (a : Answer). written_as a m out) e

-- ONE OF THE TWO

-- an answer accepts as a type, with a length, or refuses with a number, a field and a place
pub data Answered (a : Answer) : Type 0 where
  accepted : (t : MessageType) (n : ℕ) → a ≡ Ok (t, n) → Answered a
  refused : (number field place : ℕ) → a ≡ Err (refusal number field place) → Answered a

pub answered : (a : Answer) → Answered a
answered (Ok (t, n)) = accepted t n refl
answered (Err r) = refused r.number r.field r.place refl

-- THE NUMBERS OF A REFUSAL

-- 1 to 3
abbrev pub OuterNumber : Checked → Type 0
OuterNumber (Ok u) = Unit
OuterNumber (Err r) = (1 ≤ r.number) × (r.number ≤ 3) × (r.field ≡ 0)

closing-number : (i : ℕ) (s : List ℕ) → OuterNumber (closing i s)
closing-number i [] = tt
closing-number i (b ∷ s) = (omega arith, omega arith, refl)

behind-number : (i : ℕ) (s : List ℕ) → OuterNumber (parens_from i s)
unfolding parens_from
behind-number i [] = (omega arith, omega arith, refl)
behind-number i (b ∷ s) = go (behind-number (suc i) s) (eqb b 41) (eqb b 40)
  where
    go : OuterNumber (parens_from (suc i) s) → (x y : Bool) → OuterNumber (cond x (closing i s) (cond y (Err (refusal 2 0 i)) (parens_from (suc i) s)))
    go ih true y = closing-number i s
    go ih false true = (omega arith, omega arith, refl)
    go ih false false = ih

parens-number : (m : List ℕ) → OuterNumber (parens m)
unfolding parens
parens-number [] = (omega arith, omega arith, refl)
parens-number (b ∷ s) = go (eqb b 40)
  where
    go : (x : Bool) → OuterNumber (cond x (parens_from 1 s) (Err (refusal 2 0 0)))
    go true = behind-number 1 s
    go false = (omega arith, omega arith, refl)

letters-number : (i : ℕ) (s : List ℕ) → OuterNumber (letters_from i s)
unfolding letters_from
letters-number i [] = tt
letters-number i (b ∷ s) = go (letters-number (suc i) s) (in_alphabet b)
  where
    go : OuterNumber (letters_from (suc i) s) → (x : Bool) → OuterNumber (cond x (letters_from (suc i) s) (Err (refusal 3 0 i)))
    go ih true = ih
    go ih false = (omega arith, omega arith, refl)

first-number : (o p : Checked) → OuterNumber o → OuterNumber p → OuterNumber (or_else o p)
first-number (Ok u) p h k = k
first-number (Err r) p h k = h

pub outer-number : (m : List ℕ) → OuterNumber (outer m)
unfolding outer
outer-number m = go (ltb 1800 (length m))
  where
    go : (x : Bool) → OuterNumber (cond x (Err (refusal 1 0 1800)) (or_else (parens m) (letters_from 0 m)))
    go true = (omega arith, omega arith, refl)
    go false = first-number (parens m) (letters_from 0 m) (parens-number m) (letters-number 0 m)

-- 7 to 9
abbrev pub FaultNumber : Fault → Type 0
FaultNumber (Ok u) = Unit
FaultNumber (Err r) = (7 ≤ r.number) × (r.number ≤ 9)

of_four : (k : ℕ) → one_of k (0 ∷ (7 ∷ (8 ∷ (9 ∷ [])))) ≡ true → (k ≡ 0 → ⊥) → (7 ≤ k) × (k ≤ 9)
of_four k e z = go (eqb k 0) (eqb k 7) (eqb k 8) (eqb k 9) refl refl refl refl e
  where
    go : (a b c d : Bool) → eqb k 0 ≡ a → eqb k 7 ≡ b → eqb k 8 ≡ c → eqb k 9 ≡ d → cond a true (cond b true (cond c true (cond d true false))) ≡ true
        → (7 ≤ k) × (k ≤ 9)
    go true b c d p q r s e = absurd (z (eqb-true k 0 p))
    go false true c d p q r s e = (omega (arith, eqb-true k 7 q), omega (arith, eqb-true k 7 q))
    go false false true d p q r s e = (omega (arith, eqb-true k 8 r), omega (arith, eqb-true k 8 r))
    go false false false true p q r s e = (omega (arith, eqb-true k 9 s), omega (arith, eqb-true k 9 s))
    go false false false false p q r s e = absurd (false≢true e)

pub fault-numbers : (earlier : List ℕ) (j : ℕ) (fs : List Form) (cs : List Word) → FaultNumber (fault_from earlier j fs cs)
fault-numbers earlier j [] cs = tt
fault-numbers earlier j (f ∷ fs) [] = tt
fault-numbers earlier j (f ∷ fs) (c ∷ cs) =
    go (fault-numbers (rank_in f c ∷ earlier) (suc j) fs cs) (fault_of (one_of (rank_in f c) earlier) f c) (fault_number (one_of (rank_in f c) earlier) f c)
  where
    go : FaultNumber (fault_from (rank_in f c ∷ earlier) (suc j) fs cs) → (k : ℕ) → one_of k (0 ∷ (7 ∷ (8 ∷ (9 ∷ [])))) ≡ true
        → FaultNumber (cond (eqb k 0) (fault_from (rank_in f c ∷ earlier) (suc j) fs cs) (Err (fault_at k j)))
    go ih k e = pick (eqb k 0) refl
      where
        pick : (b : Bool) → eqb k 0 ≡ b → FaultNumber (cond b (fault_from (rank_in f c ∷ earlier) (suc j) fs cs) (Err (fault_at k j)))
        pick true p = ih
        pick false p = of_four k e (eqb-false k 0 p)

-- 1 to 11
abbrev AnswerNumber : Answer → Type 0
AnswerNumber (Ok (t, n)) = Unit
AnswerNumber (Err r) = (1 ≤ r.number) × (r.number ≤ 11)

room-number : (t : MessageType) (m : List ℕ) (room : ℕ) → AnswerNumber (room_as t m room)
room-number t m room = go (ltb room (length (spelling_of t m)))
  where
    go : (b : Bool) → AnswerNumber (cond b (Err (refusal 11 0 0)) (Ok (t, length (spelling_of t m))))
    go true = (omega arith, omega arith)
    go false = tt

explained-number : (field : ℕ) (t : MessageType) (m : List ℕ) (room : ℕ) → AnswerNumber (explained_as field t m room)
explained-number field t m room = go (eqb field 0)
  where
    go : (b : Bool) → AnswerNumber (cond b (room_as t m room) (Err (refusal 10 field (place_of_hyphen (place_in_plan field) m))))
    go true = room-number t m room
    go false = (omega arith, omega arith)

fields-number : (f : Fault) → FaultNumber f → (t : MessageType) (m : List ℕ) (room : ℕ) → AnswerNumber (fault_as f t m room)
fields-number (Ok u) h t m room = explained-number (cond (is_plan t) (unexplained_in (contents m)) 0) t m room
fields-number (Err r) h t m room = (omega (arith, h.0), omega (arith, h.1))

count-number : (t : MessageType) (m : List ℕ) (room : ℕ) → AnswerNumber (count_as t m room)
unfolding count_as fault_in
count-number t m room = go (ltb (count_of m) (least_of t)) (ltb (greatest_of t) (count_of m))
  where
    go : (x y : Bool)
        → AnswerNumber
        (cond x (Err (refusal 6 0 (length m - 1)))
        (cond y (Err (refusal 6 0 (place_of_hyphen (greatest_of t) m)))
        (fault_as (fault_in t (count_of m) (contents m)) t m room)))
    go true y = (omega arith, omega arith)
    go false true = (omega arith, omega arith)
    go false false = fields-number (fault_in t (count_of m) (contents m)) (fault-numbers [] 0 (forms_of t (count_of m)) (contents m)) t m room

type-number : (k : Named) (m : List ℕ) (room : ℕ) → AnswerNumber (type_as k m room)
type-number (Err NoType) m room = (omega arith, omega arith)
type-number (Err NotRead) m room = (omega arith, omega arith)
type-number (Ok t) m room = count-number t m room

whole-number : (o : Checked) → OuterNumber o → (m : List ℕ) (room : ℕ) → AnswerNumber (outer_as o m room)
whole-number (Ok u) h m room = type-number (type_named (three m)) m room
whole-number (Err r) h m room = (omega (arith, h.0), omega (arith, h.1))

answer-number : (m : List ℕ) (room : ℕ) → AnswerNumber (answer_of m room)
unfolding answer_of
answer-number m room = whole-number (outer m) (outer-number m) m room

pub refused-number : (m : List ℕ) (room number field place : ℕ) → answer_of m room ≡ Err (refusal number field place) → (1 ≤ number) × (number ≤ 11)
refused-number m room number field place e = subst (λ (a : Answer). AnswerNumber a) e (answer-number m room)
