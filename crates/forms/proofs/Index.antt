-- What the place of the first oblique says of an entry. Assumes nothing.
use Prim.Native.Nat.{ℕ, ◌+◌, ◌<◌, ◌≤◌}
use mathlib.Core.Path.{◌≡◌, sym, ap, ap₂, ◌∙◌}
use mathlib.Core.Bool.{Bool, false, ◌&&◌}
use mathlib.Core.List.{List}
use native.Mathlib.Omega.{arith}
use lib.Dec.{ltb}
use lib.ListN.{length, take, drop}
use lib.Seq.{length-take-le}
use borrow.Author.Tests.{le-leb, lt-leb, lt-ltb}
use Rattle.alphabet.specs.Alphabet.{digit}
use Rattle.text.specs.Words.{Word, up_to, before, behind, all, rank}
use Rattle.text.proofs.Index.{found, found_none, found_before, found_behind}
use Rattle.other.specs.Field18.{field18}
use Rattle.shape.specs.Field.{Field}
use Rattle.forms.specs.Field22.{labels, field_named, which_of, fits22, numbered}
use Rattle.forms.proofs.Labels.{rank_most, last_named}

module _ (s : List ℕ) (o : ℕ) (end : o ≡ 0 + up_to 47 s) where
  -- the rank of what stands before it
  pub rank_known : (r : ℕ) → r ≡ rank (take o s) labels → (r ≡ which_of s) × (r ≤ 8)
  rank_known r e =
      let q = e ∙ ap (λ (w : Word). rank w labels) (found_before 47 s o end) in
      let m = rank_most (before 47 s) in
      (q, omega (arith, q, m))

  pub none_numbered : o ≡ length s → false ≡ numbered s
  none_numbered h = rw (found_none 47 s o end h)

  pub none_fit : o ≡ length s → false ≡ fits22 s
  unfolding fits22
  none_fit h = rw (found_none 47 s o end h)

  module _ (ne : o ≡ length s → ⊥) (le : o ≤ length s) where
    long : length (before 47 s) ≡ o
    long = ap length (sym (found_before 47 s o end)) ∙ length-take-le o s le

    pub empty_numbered : o < 1 → false ≡ numbered s
    empty_numbered h = rw (found 47 s o end ne le, long, lt-leb 1 o h)

    pub long_numbered : 1 ≤ o → 2 < o → false ≡ numbered s
    long_numbered l h = rw (found 47 s o end ne le, long, le-leb 1 o l, lt-leb o 2 h)

    pub short_numbered : 1 ≤ o → o ≤ 2 → all digit (take o s) ≡ numbered s
    short_numbered l h = rw (found 47 s o end ne le, long, le-leb 1 o l, le-leb o 2 h, found_before 47 s o end)

    -- the entry fits as what stands behind it fits
    pub rest_fits : (k : ℕ) (t : List ℕ) → k ≡ which_of s → t ≡ drop (o + 1) s → (ltb 0 k && (field_named k).fits t) ≡ fits22 s
    unfolding fits22
    rest_fits k t p q =
        ap₂ (λ (j : ℕ) (u : List ℕ). ltb 0 j && (field_named j).fits u) p (q ∙ found_behind 47 s o end)
        ∙ ap (λ (b : Bool). b && (ltb 0 (which_of s) && (field_named (which_of s)).fits (behind 47 s))) (sym (found 47 s o end ne le))

-- from rank 8 on it is field 18 that has to fit
pub last_fits : (k : ℕ) (s : List ℕ) → 8 ≤ k → field18.fits s ≡ (ltb 0 k && (field_named k).fits s)
last_fits k s h =
    ap (λ (f : Field). f.fits s) (sym (last_named k h))
    ∙ ap (λ (b : Bool). b && (field_named k).fits s) (sym (lt-ltb 0 k (omega arith)))

-- a number that is none of 0 to 7
module _ (k : ℕ) where
  pub from_four : (k ≡ 0 → ⊥) → (k ≡ 1 → ⊥) → (k ≡ 2 → ⊥) → (k ≡ 3 → ⊥) → 4 ≤ k
  from_four a b c d = omega arith

  pub from_eight : 4 ≤ k → (k ≡ 4 → ⊥) → (k ≡ 5 → ⊥) → (k ≡ 6 → ⊥) → (k ≡ 7 → ⊥) → 8 ≤ k
  from_eight h a b c d = omega arith
