-- Counts in the fewest digits stay valid and are no longer; and the word without leading zeros is the word of the count in the fewest digits.
-- Assumes nothing.
use Prim.Native.Nat.{ℕ, zero, suc, ◌+◌, ◌-◌, ◌^◌, ◌<◌, ◌≤◌}
use mathlib.Core.Path.{◌≡◌, refl, sym, ap, ap₂, ◌∙◌}
use mathlib.Core.Bool.{Bool, true, false, cond, not}
use mathlib.Core.List.{[], ◌∷◌}
use native.Mathlib.Omega.{arith}
use borrow.Author.Rules.{rules}
use Rattle.std.specs.Prelude.{Option, Some, None}
use Rattle.std.specs.List.{position_or_len}
use Rattle.std.proofs.lemmas.List.Sums.{prefix_len-le-length}
use lib.Dec.{leb, ltb, eqb}
use lib.ListN.{length, drop}
use borrow.Author.Tests.{ltb-true, ltb-false, lt-ltb, le-ltb, leb-true, le-leb, eqb-true, eqb-false}
use Rattle.alphabet.specs.Alphabet.{digit}
use Rattle.text.specs.Words.{Word, all}
use Rattle.text.proofs.Tests.{both, and_both}
use Rattle.shape.specs.Numbers.{digits, value}
use Rattle.shape.proofs.Numbers.{digit_range, digits_value, digits_length}
use Rattle.supplement.specs.Field19.{Count, count, count_of_word, word_of_count, valid_count}
use Rattle.supplement.proofs.Counts.{count_digits, count_below}
use Rattle.canonical.specs.Canonical.{fewest, shortest}
use Rattle.canonical.specs.Rewriting.{stripped}

-- THE FEWEST DIGITS

fewest_by : (n : ℕ) (T : ℕ → Type 0) → (n < 10 → T 1) → (10 ≤ n → n < 100 → T 2) → (100 ≤ n → T 3) → T (fewest n)
fewest_by n T one two three = go (ltb n 10) refl (ltb n 100) refl
  where
    go : (a : Bool) → ltb n 10 ≡ a → (b : Bool) → ltb n 100 ≡ b → T (cond a 1 (cond b 2 3))
    go true e b f = one (ltb-true n 10 e)
    go false e true f = two (ltb-false n 10 e) (ltb-true n 100 f)
    go false e false f = three (ltb-false n 100 f)

fewest_some : (n : ℕ) → 1 ≤ fewest n
fewest_some n = fewest_by n (λ k. 1 ≤ k) (λ h. omega arith) (λ h l. omega arith) (λ h. omega arith)

fewest_least : (n k : ℕ) → 1 ≤ k → n < 10 ^ k → fewest n ≤ k
fewest_least n zero h l = absurd (omega arith)
fewest_least n (suc zero) h l = fewest_by n (λ m. m ≤ 1) (λ a. omega arith) (λ a b. omega arith) (λ a. omega arith)
fewest_least n (suc (suc zero)) h l = fewest_by n (λ m. m ≤ 2) (λ a. omega arith) (λ a b. omega arith) (λ a. omega arith)
fewest_least n (suc (suc (suc k))) h l = fewest_by n (λ m. m ≤ suc (suc (suc k))) (λ a. omega arith) (λ a b. omega arith) (λ a. omega arith)

three_digits : (n k : ℕ) → k ≤ 3 → n < 10 ^ k → n < 1000
three_digits n zero h l = omega arith
three_digits n (suc zero) h l = omega arith
three_digits n (suc (suc zero)) h l = omega arith
three_digits n (suc (suc (suc zero))) h l = l
three_digits n (suc (suc (suc (suc k)))) h l = absurd (omega arith)

fewest_hold : (n : ℕ) → n < 1000 → n < 10 ^ fewest n
fewest_hold n h = fewest_by n (λ k. n < 10 ^ k) (λ a. a) (λ a b. b) (λ a. h)

-- A COUNT IN THE FEWEST DIGITS

module _ (most : ℕ) (c : Count) (v : valid_count most c ≡ true) where
  some_digits : 1 ≤ c.width
  some_digits = leb-true 1 c.width (both (leb 1 c.width) _ v).0

  most_digits : c.width ≤ most
  most_digits = leb-true c.width most (both (leb c.width most) _ (both (leb 1 c.width) _ v).1).0

  fewer : fewest c.number ≤ c.width
  fewer = fewest_least c.number c.width some_digits (count_below most c v)

  pub shortest_valid : most ≤ 3 → valid_count most (shortest c) ≡ true
  shortest_valid few =
      let n = c.number in
      let b = three_digits n c.width (omega (arith, most_digits)) (count_below most c v) in
      and_both (leb 1 (fewest n)) _ (le-leb 1 (fewest n) (fewest_some n))
      (and_both (leb (fewest n) most) _ (le-leb (fewest n) most (omega (arith, fewer, most_digits))) (lt-ltb n (10 ^ fewest n) (fewest_hold n b)))

  pub shortest_shorter : length (word_of_count (shortest c)) ≤ length (word_of_count c)
  shortest_shorter = omega (arith, fewer, digits_length (fewest c.number) c.number, digits_length c.width c.number)

-- LEADING ZEROS

-- WHAT `position` FINDS: the first byte that is no zero

abbrev pub first_kept : Word → ℕ
first_kept w = position_or_len (λ b. not (eqb b 48)) w

kept : (w : Word) → first_kept w < length w → stripped w ≡ drop (first_kept w) w
kept [] l = absurd (omega (arith, l))
kept (b ∷ []) l = go (eqb b 48) l
  where
    go : (q : Bool) → cond (not (not q)) (1 + 0) 0 < 1 → b ∷ [] ≡ drop (cond (not (not q)) (1 + 0) 0) (b ∷ [])
    go true l = absurd (omega (arith, l))
    go false l = refl
kept (b ∷ (c ∷ w)) l = go (eqb b 48) l (λ k. kept (c ∷ w) k)
  where
    go : (q : Bool) → cond (not (not q)) (1 + first_kept (c ∷ w)) 0 < length (b ∷ (c ∷ w))
        → (first_kept (c ∷ w) < length (c ∷ w) → stripped (c ∷ w) ≡ drop (first_kept (c ∷ w)) (c ∷ w))
        → cond q (stripped (c ∷ w)) (b ∷ (c ∷ w)) ≡ drop (cond (not (not q)) (1 + first_kept (c ∷ w)) 0) (b ∷ (c ∷ w))
    go true l f =
        let n : suc (first_kept (c ∷ w)) ≡ 1 + first_kept (c ∷ w) = omega arith in
        f (omega (arith, l)) ∙ ap (λ (m : ℕ). drop m (b ∷ (c ∷ w))) n
    go false l f = refl

zeros : (w : Word) → first_kept w ≡ length w → stripped w ≡ drop (length w - 1) w
zeros [] e = refl
zeros (b ∷ []) e = refl
zeros (b ∷ (c ∷ w)) e = go (eqb b 48) e (λ k. zeros (c ∷ w) k)
  where
    go : (q : Bool) → cond (not (not q)) (1 + first_kept (c ∷ w)) 0 ≡ length (b ∷ (c ∷ w))
        → (first_kept (c ∷ w) ≡ length (c ∷ w) → stripped (c ∷ w) ≡ drop (length (c ∷ w) - 1) (c ∷ w))
        → cond q (stripped (c ∷ w)) (b ∷ (c ∷ w)) ≡ drop (length (b ∷ (c ∷ w)) - 1) (b ∷ (c ∷ w))
    go true e f =
        let n : suc (length (c ∷ w) - 1) ≡ length (b ∷ (c ∷ w)) - 1 = omega arith in
        f (omega (arith, e)) ∙ ap (λ (m : ℕ). drop m (b ∷ (c ∷ w))) n
    go false e f = absurd (omega (arith, e))

module _ (w : Word) (r : Option ℕ) (found : r ≡ cond (ltb (first_kept w) (length w)) (Some (first_kept w)) None) where
  pub stripped_some : (k : ℕ) → r ≡ Some k → (k ≤ length w) × (stripped w ≡ drop k w)
  stripped_some k e = go (ltb (first_kept w) (length w)) refl (sym e ∙ found)
    where
      go : (t : Bool) → ltb (first_kept w) (length w) ≡ t → Some k ≡ cond t (Some (first_kept w)) None → (k ≤ length w) × (stripped w ≡ drop k w)
      go true h q =
          let l = ltb-true (first_kept w) (length w) h in
          let z : k ≡ first_kept w = search rules in
          (omega (arith, l, z), kept w l ∙ ap (λ (m : ℕ). drop m w) (sym z))
      go false h q = absurd (search rules)

  pub stripped_none : r ≡ None → stripped w ≡ drop (length w - 1) w
  stripped_none e = go (ltb (first_kept w) (length w)) refl (sym e ∙ found)
    where
      go : (t : Bool) → ltb (first_kept w) (length w) ≡ t → None ≡ cond t (Some (first_kept w)) None → stripped w ≡ drop (length w - 1) w
      go true h q = absurd (search rules)
      go false h q =
          let m : first_kept w ≤ length w = prefix_len-le-length _ w in
          zeros w (omega (arith, m, ltb-false (first_kept w) (length w) h))

pub stripped_shorter : (w : Word) → length (stripped w) ≤ length w
stripped_shorter [] = omega arith
stripped_shorter (b ∷ []) = omega arith
stripped_shorter (b ∷ (c ∷ w)) = go (stripped_shorter (c ∷ w)) (eqb b 48)
  where
    go : length (stripped (c ∷ w)) ≤ length (c ∷ w) → (t : Bool) → length (cond t (stripped (c ∷ w)) (b ∷ (c ∷ w))) ≤ length (b ∷ (c ∷ w))
    go ih true = omega arith
    go ih false = omega arith

stripped_digits : (w : Word) → all digit w ≡ true → all digit (stripped w) ≡ true
stripped_digits [] e = refl
stripped_digits (b ∷ []) e = e
stripped_digits (b ∷ (c ∷ w)) e = go (stripped_digits (c ∷ w) (both (digit b) (all digit (c ∷ w)) e).1) (eqb b 48)
  where
    go : all digit (stripped (c ∷ w)) ≡ true → (t : Bool) → all digit (cond t (stripped (c ∷ w)) (b ∷ (c ∷ w))) ≡ true
    go ih true = ih
    go ih false = e

-- a zero adds nothing to the digits behind it
value_zero : (b : ℕ) (w : Word) → b ≡ 48 → value (b ∷ w) ≡ value w
value_zero b w e = ap (λ (n : ℕ). value (n ∷ w)) e ∙ omega arith

stripped_value : (w : Word) → value (stripped w) ≡ value w
stripped_value [] = refl
stripped_value (b ∷ []) = refl
stripped_value (b ∷ (c ∷ w)) = go (stripped_value (c ∷ w)) (eqb b 48) refl
  where
    go : value (stripped (c ∷ w)) ≡ value (c ∷ w) → (t : Bool) → eqb b 48 ≡ t → value (cond t (stripped (c ∷ w)) (b ∷ (c ∷ w))) ≡ value (b ∷ (c ∷ w))
    go ih true e = ih ∙ sym (value_zero b (c ∷ w) (eqb-true b 48 e))
    go ih false e = refl

-- as many digits are left as the number has

nonzero : (b : ℕ) → digit b ≡ true → eqb b 48 ≡ false → (49 ≤ b) × (b ≤ 57)
nonzero b d e = let r = digit_range b d in let n : b ≡ 48 → ⊥ = eqb-false b 48 e in (omega arith, r.1)

behind-zero : (b c : ℕ) (w : Word) → length (stripped (c ∷ w)) ≡ fewest (value (c ∷ w))
    → (eqb b 48 ≡ false → length (b ∷ (c ∷ w)) ≡ fewest (value (b ∷ (c ∷ w))))
    → length (stripped (b ∷ (c ∷ w))) ≡ fewest (value (b ∷ (c ∷ w)))
behind-zero b c w ih f = go (eqb b 48) refl
  where
    go : (t : Bool) → eqb b 48 ≡ t → length (cond t (stripped (c ∷ w)) (b ∷ (c ∷ w))) ≡ fewest (value (b ∷ (c ∷ w)))
    go true e = ih ∙ ap fewest (sym (value_zero b (c ∷ w) (eqb-true b 48 e)))
    go false e = f e

one_left : (b : ℕ) → digit b ≡ true → length (stripped (b ∷ [])) ≡ fewest (value (b ∷ []))
one_left b d = let r = digit_range b d in sym (rw (lt-ltb (value (b ∷ [])) 10 (omega arith)))

two_left : (b c : ℕ) → digit b ≡ true → digit c ≡ true → length (stripped (b ∷ (c ∷ []))) ≡ fewest (value (b ∷ (c ∷ [])))
two_left b c d e = behind-zero b c [] (one_left c e) whole
  where
    whole : eqb b 48 ≡ false → 2 ≡ fewest (value (b ∷ (c ∷ [])))
    whole f =
        let r = nonzero b d f in
        let q = digit_range c e in
        let n = value (b ∷ (c ∷ [])) in
        sym (rw (le-ltb n 10 (omega arith), lt-ltb n 100 (omega arith)))

three_left : (b c d : ℕ) → digit b ≡ true → digit c ≡ true → digit d ≡ true
    → length (stripped (b ∷ (c ∷ (d ∷ [])))) ≡ fewest (value (b ∷ (c ∷ (d ∷ []))))
three_left b c d e f g = behind-zero b c (d ∷ []) (two_left c d f g) whole
  where
    whole : eqb b 48 ≡ false → 3 ≡ fewest (value (b ∷ (c ∷ (d ∷ []))))
    whole h =
        let r = nonzero b e h in
        let n = value (b ∷ (c ∷ (d ∷ []))) in
        sym (rw (le-ltb n 10 (omega arith), le-ltb n 100 (omega arith)))

stripped_width : (w : Word) → all digit w ≡ true → 1 ≤ length w → length w ≤ 3 → length (stripped w) ≡ fewest (value w)
stripped_width [] e h l = absurd (omega arith)
stripped_width (b ∷ []) e h l = one_left b (both (digit b) true e).0
stripped_width (b ∷ (c ∷ [])) e h l =
    let d = both (digit b) _ e in
    two_left b c d.0 (both (digit c) true d.1).0
stripped_width (b ∷ (c ∷ (d ∷ []))) e h l =
    let f = both (digit b) _ e in
    let g = both (digit c) _ f.1 in
    three_left b c d f.0 g.0 (both (digit d) true g.1).0
stripped_width (a ∷ (b ∷ (c ∷ (d ∷ w)))) e h l = absurd (omega arith)

-- THE LAW: without leading zeros, a count's word is the word of the count in the fewest digits
pub stripped_shortest : (most : ℕ) → most ≤ 3 → (w : Word) → count most w ≡ true → stripped w ≡ word_of_count (shortest (count_of_word w))
stripped_shortest most few w e =
    let h = both (leb 1 (length w)) _ e in
    let l = leb-true (length w) most (both (leb (length w) most) (all digit w) h.1).0 in
    let d = count_digits most w e in
    sym (digits_value (stripped w) (stripped_digits w d))
    ∙ ap₂ digits (stripped_width w d (leb-true 1 (length w) h.0) (omega arith)) (stripped_value w)
