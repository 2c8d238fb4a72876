-- The places of codes at an index, for the code. Assumes nothing.
use Prim.Native.Nat.{ℕ, suc, ◌+◌, ◌<◌, ◌≤◌}
use mathlib.Core.Path.{◌≡◌, refl, ap}
use mathlib.Core.Bool.{false, ◌&&◌}
use mathlib.Core.List.{List, [], ◌∷◌, ◌++◌}
use native.Mathlib.Omega.{arith}
use lib.Dec.{leb}
use lib.ListN.{length, take, drop, set, length-append}
use borrow.Author.Tests.{lt-leb}
use Rattle.text.specs.Words.{Word}
use Rattle.text.specs.Lent.{front as put}
use Rattle.text.proofs.Tests.{and_false}
use Rattle.codes.specs.Codes.{codes, codes_fit}
use Rattle.code_places.specs.Codes.{some_codes}

module _ (list : List Word) (most : ℕ) where
  -- where there is no room for a byte more
  pub over : (p : List ℕ) (d : ℕ) → most ≤ length p → some_codes list most (p ++ (d ∷ [])) ≡ false
  over p d h =
      let s = p ++ (d ∷ []) in
      let n : length s ≡ length p + 1 = length-append p (d ∷ []) in
      let m : most < length s = omega arith in
      and_false (leb 1 (length s)) (leb (length s) most && codes_fit list (codes s)) (rw (lt-leb (length s) most m))

-- what a list holds with w written to its front, and one byte behind it
one_behind : (w out : List ℕ) (d : ℕ) → length w < length out → take (length w + 1) (set (w ++ drop (length w) out) (length w) d) ≡ w ++ (d ∷ [])
one_behind [] [] d h = absurd (omega arith)
one_behind [] (b ∷ out) d h = refl
one_behind (x ∷ w) [] d h = absurd (omega arith)
one_behind (x ∷ w) (b ∷ out) d h =
    let z : suc (length w) + 1 ≡ suc (length w + 1) = omega arith in
    rw z (ap (λ (l : List ℕ). x ∷ l) (one_behind w out d (omega arith)))

pub held : (w out l : List ℕ) (n d : ℕ) → n ≡ length w → l ≡ put w out → length w < length out → take (n + 1) (set l n d) ≡ w ++ (d ∷ [])
unfolding put
held w out l n d e f h = rw (e, f) (one_behind w out d h)
