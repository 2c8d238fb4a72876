-- Counts and their words determine one another. Assumes nothing.
use Prim.Native.Nat.{ℕ, ◌^◌, ◌<◌}
use mathlib.Core.Path.{◌≡◌, ap₂}
use mathlib.Core.Bool.{true}
use lib.Dec.{leb, ltb}
use lib.ListN.{length}
use borrow.Author.Tests.{ltb-true, lt-ltb}
use Rattle.alphabet.specs.Alphabet.{digit}
use Rattle.text.specs.Words.{Word, all}
use Rattle.text.proofs.Tests.{both}
use Rattle.shape.specs.Numbers.{value}
use Rattle.shape.proofs.Numbers.{value_below, digits_value, digits_length, value_digits, digits_digits}
use Rattle.supplement.specs.Field19.{Count, count, count_of_word, word_of_count, valid_count}

-- FROM A WORD TO ITS COUNT

module _ (most : ℕ) (w : Word) (e : count most w ≡ true) where
  pub count_digits : all digit w ≡ true
  count_digits = (both (leb (length w) most) (all digit w) (both (leb 1 (length w)) _ e).1).1

  pub count_exact : word_of_count (count_of_word w) ≡ w
  count_exact = digits_value w count_digits

  pub count_valid : valid_count most (count_of_word w) ≡ true
  count_valid =
      let h = both (leb 1 (length w)) _ e in
      let g = both (leb (length w) most) (all digit w) h.1 in
      rw (h.0, g.0) (lt-ltb (value w) (10 ^ length w) (value_below w count_digits))

-- FROM A VALID COUNT TO ITS WORD

abbrev counted : ℕ → ℕ → Count
counted n k = record { number = n; width = k }

module _ (most : ℕ) (c : Count) (v : valid_count most c ≡ true) where
  pub count_below : c.number < 10 ^ c.width
  count_below = ltb-true c.number (10 ^ c.width) (both (leb c.width most) _ (both (leb 1 c.width) _ v).1).1

  pub count_fits_lem : count most (word_of_count c) ≡ true
  count_fits_lem =
      let h = both (leb 1 c.width) _ v in
      let g = both (leb c.width most) (ltb c.number (10 ^ c.width)) h.1 in
      rw (digits_length c.width c.number, h.0, g.0) (digits_digits c.width c.number count_below)

  pub count_back : count_of_word (word_of_count c) ≡ c
  count_back = ap₂ counted (value_digits c.width c.number count_below) (digits_length c.width c.number)
