-- Numbers as digits and back, for every width; and the bytes that the code reads them from. Assumes nothing.
use Prim.Native.Nat.{ℕ, zero, suc, ◌+◌, ◌*◌, ◌-◌, ◌/◌, ◌%◌, ◌^◌, ◌<◌, ◌≤◌}
use mathlib.Core.Path.{◌≡◌, refl, sym, ap, ◌∙◌}
use mathlib.Core.Bool.{true}
use mathlib.Core.List.{List, [], ◌∷◌}
use native.Mathlib.Omega.{arith}
use native.Mathlib.Numerals.{add-one}
use native.Mathlib.Nat.{mul_comm, mul_assoc, pow-le-pow_right}
use lib.Seq.{length-take-le}
use native.Mathlib.Nat.{pow-succ', add-zero, mul-le-mul_right, mul-add-div_right, mul-add-mod_self_right}
use native.Mathlib.Nat.{div-eq_of_lt, mod-eq_of_lt, div-add-mod', mod-lt, div-lt_iff_lt-mul}
use lib.Dec.{leb}
use lib.ListN.{length, take, get_or}
use borrow.Author.Tests.{leb-true, le-leb}
use Rattle.alphabet.specs.Alphabet.{digit}
use Rattle.text.specs.Words.{Word, all}
use Rattle.text.proofs.Tests.{both}
use Rattle.shape.specs.Numbers.{digits, value}

-- ONE DIGIT

pub digit_range : (b : ℕ) → digit b ≡ true → (48 ≤ b) × (b ≤ 57)
digit_range b e = let h = both (leb 48 b) (leb b 57) e in (leb-true 48 b h.0, leb-true b 57 h.1)

pub range_digit : (b : ℕ) → 48 ≤ b → b ≤ 57 → digit b ≡ true
range_digit b p q = rw (le-leb 48 b p, le-leb b 57 q)

-- EVERY WIDTH

pub ten : (k : ℕ) → 0 < 10 ^ k
ten zero = omega arith
ten (suc k) = let h = ten k in omega (arith, pow-succ' 10 k)

pub value_below : (w : Word) → all digit w ≡ true → value w < 10 ^ length w
value_below [] e = omega arith
value_below (c ∷ w) e =
    let h = both (digit c) (all digit w) e in
    let r = digit_range c h.0 in
    let b = value_below w h.1 in
    let d : c - 48 ≤ 9 = omega arith in
    omega (arith, pow-succ' 10 (length w), mul-le-mul_right (10 ^ length w) d)

pub digits_value : (w : Word) → all digit w ≡ true → digits (length w) (value w) ≡ w
digits_value [] e = refl
digits_value (c ∷ w) e =
    let h = both (digit c) (all digit w) e in
    let r = digit_range c h.0 in
    let b = value_below w h.1 in
    let p : ((c - 48) * 10 ^ length w + value w) / 10 ^ length w ≡ c - 48
    = mul-add-div_right (ten (length w)) (c - 48) (value w) ∙ ap (λ (n : ℕ). c - 48 + n) (div-eq_of_lt b) ∙ add-zero (c - 48) in
    let q : ((c - 48) * 10 ^ length w + value w) % 10 ^ length w ≡ value w
    = mul-add-mod_self_right (c - 48) (10 ^ length w) (value w) ∙ mod-eq_of_lt b in
    let s : 48 + (c - 48) ≡ c = omega arith in
    rw (p, q, s, digits_value w h.1)

pub digits_length : (k n : ℕ) → length (digits k n) ≡ k
digits_length zero n = refl
digits_length (suc k) n = ap suc (digits_length k (n % 10 ^ k))

pub value_digits : (k n : ℕ) → n < 10 ^ k → value (digits k n) ≡ n
value_digits zero n h = omega arith
value_digits (suc k) n h =
    let s : 48 + n / 10 ^ k - 48 ≡ n / 10 ^ k = omega arith in
    rw (digits_length k (n % 10 ^ k), s, value_digits k (n % 10 ^ k) (mod-lt n (ten k))) (div-add-mod' n (10 ^ k))

pub digits_digits : (k n : ℕ) → n < 10 ^ k → all digit (digits k n) ≡ true
digits_digits zero n h = refl
digits_digits (suc k) n h =
    let q : n / 10 ^ k < 10 = (div-lt_iff_lt-mul (ten k)).1 (omega (arith, pow-succ' 10 k)) in
    rw (range_digit (48 + n / 10 ^ k) (omega arith) (omega arith)) (digits_digits k (n % 10 ^ k) (mod-lt n (ten k)))

-- DIGIT BY DIGIT from the front

pub value_more : (w : List ℕ) (i : ℕ) → i < length w → value (take (i + 1) w) ≡ value (take i w) * 10 + (get_or w i 0 - 48)
value_more w i h = rw add-one (go w i h)
  where
    go : (w : List ℕ) (i : ℕ) → i < length w → value (take (suc i) w) ≡ value (take i w) * 10 + (get_or w i 0 - 48)
    go [] i h = absurd (omega arith)
    go (c ∷ w) zero h = omega arith
    go (c ∷ w) (suc i) h =
        let l : length (take (suc i) w) ≡ suc i = length-take-le (suc i) w (omega arith) in
        let k : length (take i w) ≡ i = length-take-le i w (omega arith) in
        let q : (c - 48) * 10 ^ suc i ≡ (c - 48) * 10 ^ i * 10
        = ap (λ (n : ℕ). (c - 48) * n) (pow-succ' 10 i ∙ mul_comm 10 (10 ^ i)) ∙ sym (mul_assoc (c - 48) (10 ^ i) 10) in
        rw (l, k) (omega (arith, q, go w i (omega arith)))

-- what a number of i bytes is at most: 23 times i nines
pub bound_more : (n d i : ℕ) → n + 23 ≤ 23 * 10 ^ i → d ≤ 207 → n * 10 + d + 23 ≤ 23 * 10 ^ (i + 1)
bound_more n d i h k = rw (add-one, pow-succ') (omega arith)

pub four_digits_pow : (i : ℕ) → i ≤ 4 → 10 ^ i ≤ 10000
four_digits_pow i h = pow-le-pow_right {n = 10} (omega arith) h
