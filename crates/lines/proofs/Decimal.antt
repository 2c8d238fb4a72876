-- A number in decimal is what the kit's `io::decimal` writes of it, and how many digits it has. Assumes nothing.
use Prim.Native.Nat.{ℕ, zero, suc, ◌+◌, ◌-◌, ◌/◌, ◌%◌, ◌^◌, ◌≤◌, ◌<◌}
use mathlib.Core.Path.{◌≡◌, refl, ap}
use mathlib.Core.Bool.{Bool, true, false, cond}
use mathlib.Core.List.{List, [], ◌∷◌, ◌++◌}
use native.Mathlib.Omega.{arith}
use native.Mathlib.Nat.{pow-succ', pow-le-pow_right}
use lib.Dec.{ltb, leb}
use lib.ListN.{length, length-append}
use borrow.Author.Tests.{ltb-false, lt-ltb, le-ltb, leb-true, leb-false}
use Rattle.io.specs.Digits.{hex_digit_ascii, last_digits as last_in_base, IsDigitCount}
use Rattle.shape.proofs.Numbers.{ten}
use Rattle.lines.specs.Lines.{last_digits, decimal, refused_line}

-- AS IT IS WRITTEN

last_glyph : (n : ℕ) → hex_digit_ascii (n % 10) ≡ 48 + n % 10
last_glyph n = rw (lt-ltb (n % 10) 10 (omega arith))

fewest_digits : (k most n : ℕ) → suc k ≤ most → n < 10 ^ suc k → (0 < k → 10 ^ k ≤ n) → last_in_base 10 (suc k) n ≡ last_digits most n
fewest_digits k zero n l h p = absurd (omega arith)
fewest_digits zero (suc most) n l h p = let s : n < 10 = h in rw (last_glyph n, lt-ltb n 10 s)
fewest_digits (suc k) (suc most) n l h p =
    let a = pow-succ' 10 k in
    let b = pow-succ' 10 (suc k) in
    let z = ten k in
    let q : 10 ^ suc k ≤ n = p (omega arith) in
    let t : 10 ≤ n = omega arith in
    let u : n / 10 < 10 ^ suc k = omega arith in
    let v : 10 ^ k ≤ n / 10 = omega arith in
    rw (last_glyph n, le-ltb n 10 t) (ap (λ (w : List ℕ). w ++ ((48 + n % 10) ∷ [])) (fewest_digits k most (n / 10) (omega arith) u (λ y. v)))

-- a `u64` has twenty at most
twenty : (n k : ℕ) → IsDigitCount 10 1 n k → n < 18446744073709551616 → k ≤ 20
twenty n k f h = go (leb k 20) refl
  where
    go : (b : Bool) → leb k 20 ≡ b → k ≤ 20
    go true e = leb-true k 20 e
    go false e =
        let l : 20 ≤ k - 1 = omega (arith, leb-false k 20 e) in
        let p : 10 ^ 20 ≤ 10 ^ (k - 1) = pow-le-pow_right (omega arith) {i = 20} {j = k - 1} l in
        absurd (omega (arith, f.2 (omega arith)))

pub as_written : (n k : ℕ) → IsDigitCount 10 1 n k → n < 18446744073709551616 → last_in_base 10 k n ≡ decimal n
unfolding decimal
as_written n zero f h = absurd (omega (arith, f.0))
as_written n (suc k) f h =
    let e : suc k - 1 ≡ k = omega arith in
    fewest_digits k 20 n (twenty n (suc k) f h) f.1 (λ z. rw e at (f.2 (omega arith)))

-- HOW MANY DIGITS

-- few of a small number
few_last : (most n k : ℕ) → n < 10 ^ suc k → length (last_digits most n) ≤ suc k
few_last zero n k h = omega arith
few_last (suc most) n zero h = let s : n < 10 = h in rw (lt-ltb n 10 s) (omega arith)
few_last (suc most) n (suc k) h = go (ltb n 10) (few_last most (n / 10) k (omega (arith, pow-succ' 10 (suc k))))
  where
    go : (b : Bool) → length (last_digits most (n / 10)) ≤ suc k → length (cond b [] (last_digits most (n / 10)) ++ ((48 + n % 10) ∷ [])) ≤ suc (suc k)
    go true i = omega arith
    go false i = omega (arith, length-append (last_digits most (n / 10)) ((48 + n % 10) ∷ []))

-- and of any no more than the number itself and one
long_last : (most n k : ℕ) → n ≤ k → length (last_digits most n) ≤ suc k
long_last zero n k h = omega arith
long_last (suc most) n k h = go (ltb n 10) refl (long_last most (n / 10) (n / 10) (omega arith))
  where
    go : (b : Bool) → ltb n 10 ≡ b → length (last_digits most (n / 10)) ≤ suc (n / 10)
        → length (cond b [] (last_digits most (n / 10)) ++ ((48 + n % 10) ∷ [])) ≤ suc k
    go true e i = omega arith
    go false e i = omega (arith, ltb-false n 10 e, length-append (last_digits most (n / 10)) ((48 + n % 10) ∷ []))

few : (n k : ℕ) → n < 10 ^ suc k → length (decimal n) ≤ suc k
unfolding decimal
few n k h = few_last 20 n k h

long : (n k : ℕ) → n ≤ k → length (decimal n) ≤ suc k
unfolding decimal
long n k h = long_last 20 n k h

-- A REFUSAL'S LINE takes at most twelve bytes more than the piece, in which or just behind which its place is
pub refused_short : (number field place room : ℕ) → number ≤ 11 → field < 256 → place ≤ room → length (refused_line number field place) ≤ room + 12
unfolding refused_line
refused_short number field place room h k l =
    let a = few number 1 (omega arith) in
    let b = few field 2 (omega arith) in
    let c = long place room l in
    simp length-append (omega arith)

-- and nine where number, field and place have one digit each
pub refused_least : (number field place : ℕ) → number < 10 → field < 10 → place < 10 → length (refused_line number field place) ≤ 9
unfolding refused_line
refused_least number field place h k l =
    let a = few number 0 h in
    let b = few field 0 k in
    let c = few place 0 l in
    simp length-append (omega arith)
