-- What is wrong with an entry: nothing exactly where it fits and no earlier entry has its number. Assumes nothing.
use Prim.Native.Nat.{ℕ, ◌<◌}
use mathlib.Core.Path.{◌≡◌, refl, sym, ap, ap₂, ◌∙◌}
use mathlib.Core.Bool.{Bool, true, false, cond, ◌&&◌}
use mathlib.Core.List.{List, [], ◌∷◌}
use native.Mathlib.Omega.{arith}
use lib.Dec.{ltb, eqb}
use borrow.Author.Tests.{eqb-true, eqb-false, eq-eqb, ne_eqb, lt-ltb}
use Rattle.alphabet.specs.Alphabet.{one_of}
use Rattle.text.specs.Words.{holds, before, behind}
use Rattle.text.proofs.Tests.{both, and_both}
use Rattle.forms.specs.Field22.{field_named, which_of, fits22, numbered, fault22}
use Rattle.forms.specs.Forms.{judged}
use Rattle.std.specs.Prelude.{Result, Ok, Err}
use Rattle.forms.proofs.Labels.{ranked_label}
use Rattle.forms.proofs.Field22.{fitting}

-- an entry whose number has a rank is numbered
pub rank_numbered : (s : List ℕ) → holds 47 s ≡ true → 0 < which_of s → numbered s ≡ true
rank_numbered s h n = let p = ranked_label (before 47 s) n in rw (h, p.some, p.short) p.digits

-- NOTHING IS WRONG

pub fits_none : (s : List ℕ) → fits22 s ≡ true → fault22 false s ≡ 0
unfolding fault22
fits_none s e =
    let p = fitting s e in
    rw (rank_numbered s p.cut p.some, ne_eqb (which_of s) 0 (λ q. omega (arith, p.some, q)), p.rest)

-- the answer 0 has one way
only : (a b c d : Bool) → ◌≡◌ {A = ℕ} (cond a (cond b 8 (cond c 9 (cond d 0 7))) 7) 0 → (a ≡ true) × (b ≡ false) × (c ≡ false) × (d ≡ true)
only true true c d e = absurd (omega arith)
only true false true d e = absurd (omega arith)
only true false false true e = (refl, refl, refl, refl)
only true false false false e = absurd (omega arith)
only false b c d e = absurd (omega arith)

pub none_fits : (again : Bool) (s : List ℕ) → fault22 again s ≡ 0 → (again ≡ false) × (fits22 s ≡ true)
unfolding fault22 fits22
none_fits again s e =
    let p = only (numbered s) (eqb (which_of s) 0) again ((field_named (which_of s)).fits (behind 47 s)) e in
    let n = eqb-false (which_of s) 0 p.1 in
    let h = (both (holds 47 s) _ p.0).0 in
    (p.2, and_both (holds 47 s) _ h (and_both (ltb 0 (which_of s)) _ (lt-ltb 0 (which_of s) (omega arith)) p.3))

pub fault_none : (s : List ℕ) → fault22 false s ≡ 0 → fits22 s ≡ true
fault_none s e = (none_fits false s e).1

-- an entry that repeats a number is 9 wherever it has a rank, whatever its content
pub again_nine : (s : List ℕ) → holds 47 s ≡ true → 0 < which_of s → fault22 true s ≡ 9
unfolding fault22
again_nine s h n = rw (rank_numbered s h n, ne_eqb (which_of s) 0 (λ q. omega (arith, n, q)))

-- A FAULT is one of four numbers

one_of_lem : (a b c d : Bool) → one_of (cond a (cond b 8 (cond c 9 (cond d 0 7))) 7) (0 ∷ (7 ∷ (8 ∷ (9 ∷ [])))) ≡ true
one_of_lem true true c d = refl
one_of_lem true false true d = refl
one_of_lem true false false true = refl
one_of_lem true false false false = refl
one_of_lem false b c d = refl

pub fault_one : (again : Bool) (s : List ℕ) → one_of (fault22 again s) (0 ∷ (7 ∷ (8 ∷ (9 ∷ [])))) ≡ true
unfolding fault22
fault_one again s = one_of_lem (numbered s) (eqb (which_of s) 0) again ((field_named (which_of s)).fits (behind 47 s))

-- THE CASES, in order

module _ (again : Bool) (s : List ℕ) where
  pub unnumbered : numbered s ≡ false → 7 ≡ fault22 again s
  unfolding fault22
  unnumbered e = rw e

  module _ (e : numbered s ≡ true) where
    pub unlisted : which_of s ≡ 0 → 8 ≡ fault22 again s
    unfolding fault22
    unlisted h = rw (e, eq-eqb (which_of s) 0 h)

    module _ (h : which_of s ≡ 0 → ⊥) where
      pub repeated : again ≡ true → 9 ≡ fault22 again s
      unfolding fault22
      repeated a = rw (e, ne_eqb (which_of s) 0 h, a)

      pub right : again ≡ false → fits22 s ≡ true → 0 ≡ fault22 again s
      right a f = sym (ap (λ (b : Bool). fault22 b s) a ∙ fits_none s f)

      unfit : fits22 s ≡ false → (field_named (which_of s)).fits (behind 47 s) ≡ false
      unfolding fits22
      unfit f =
          ap₂ (λ (a b : Bool). a && (b && (field_named (which_of s)).fits (behind 47 s)))
          (sym (both (holds 47 s) _ e).0)
          (sym (lt-ltb 0 (which_of s) (omega arith)))
          ∙ f

      pub wrong : again ≡ false → fits22 s ≡ false → 7 ≡ fault22 again s
      unfolding fault22
      wrong a f = rw (e, ne_eqb (which_of s) 0 h, a, unfit f)

-- BY THE NUMBER GIVEN BACK: what is right has none, and what is wrong has one

abbrev number_in : Result Unit ℕ → ℕ
number_in (Err n) = n
number_in (Ok u) = 0

pub judged_right : (n : ℕ) → judged n ≡ Ok tt → n ≡ 0
judged_right n e = go (eqb n 0) refl e
  where
    go : (b : Bool) → eqb n 0 ≡ b → ◌≡◌ {A = Result Unit ℕ} (cond b (Ok tt) (Err n)) (Ok tt) → n ≡ 0
    go true p e = eqb-true n 0 p
    go false p e = cc

pub judged_wrong : (n k : ℕ) → judged n ≡ Err k → (k ≡ n) × (k ≡ 0 → ⊥)
judged_wrong n k e = go (eqb n 0) refl e
  where
    go : (b : Bool) → eqb n 0 ≡ b → ◌≡◌ {A = Result Unit ℕ} (cond b (Ok tt) (Err n)) (Err k) → (k ≡ n) × (k ≡ 0 → ⊥)
    go true p e = cc
    go false p e = let same : n ≡ k = ap number_in e in (cc, λ z. eqb-false n 0 p (same ∙ z))
