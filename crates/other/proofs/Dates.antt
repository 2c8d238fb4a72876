-- A date: its month and its day have bounds, and its six digits and its record determine one another. Assumes nothing.
use Prim.Native.Nat.{ℕ, zero, suc, ◌%◌, ◌<◌, ◌≤◌}
use mathlib.Core.Path.{◌≡◌, refl, sym, ap, ◌∙◌}
use mathlib.Core.Bool.{Bool, true, false, cond}
use mathlib.Core.List.{List, [], ◌∷◌, ◌++◌, append-nil}
use native.Mathlib.Omega.{arith}
use native.Mathlib.Nat.{not-suc-le-zero}
use lib.Dec.{leb, ltb, eqb}
use lib.ListN.{drop, take, get_or, get_or-eq_default}
use lib.Seq.{drop-drop}
use borrow.Author.Tests.{leb-true, leb-false, le-leb, ltb-true, lt-ltb, ne_eqb}
use Rattle.text.specs.Words.{Word, all}
use Rattle.text.proofs.Tests.{both, and_both}
use Rattle.shape.specs.Numbers.{digits, value}
use Rattle.shape.specs.Shape.{fits, wide, values}
use Rattle.shape.proofs.Exact.{spells_values, values_spells, sized_values}
use Rattle.other.specs.Rules.{Date, year_month_day, year, month, day_of, days_in, date_of, spell_date, real, valid_date, date}

-- THE DAYS OF A MONTH

abbrev year_days : List ℕ
year_days = 0 ∷ 31 ∷ 28 ∷ 31 ∷ 30 ∷ 31 ∷ 30 ∷ 31 ∷ 31 ∷ 30 ∷ 31 ∷ 30 ∷ 31 ∷ []

abbrev days : ℕ → ℕ → ℕ
days y m = cond (eqb m 2) (cond (eqb (y % 4) 0) 29 28) (get_or year_days m 0)

pub months : (y m : ℕ) → 1 ≤ days_in y m → (1 ≤ m) × (m ≤ 12)
unfolding days_in
months y m h = (above m h, below m h)
  where
    above : (m : ℕ) → 1 ≤ days y m → 1 ≤ m
    above zero h = absurd (not-suc-le-zero h)
    above (suc m) h = omega arith

    below : (m : ℕ) → 1 ≤ days y m → m ≤ 12
    below m h = go (leb m 12) refl
      where
        go : (x : Bool) → leb m 12 ≡ x → m ≤ 12
        go true q = leb-true m 12 q
        go false q =
            let l : 12 < m = leb-false m 12 q in
            absurd (not-suc-le-zero (rw (ne_eqb m 2 (omega arith), get_or-eq_default {A = ℕ} year_days 0 {n = m} (omega arith)) at h))

bounded : (n : ℕ) (xs : List ℕ) → all (λ x. leb x n) xs ≡ true → (k : ℕ) → get_or xs k 0 ≤ n
bounded n [] e k = omega arith
bounded n (x ∷ xs) e zero = leb-true x n (both (leb x n) (all (λ x. leb x n) xs) e).0
bounded n (x ∷ xs) e (suc k) = bounded n xs (both (leb x n) (all (λ x. leb x n) xs) e).1 k

most_days : (y m : ℕ) → days_in y m ≤ 31
unfolding days_in
most_days y m = go (eqb m 2) (eqb (y % 4) 0)
  where
    go : (a b : Bool) → cond a (cond b 29 28) (get_or year_days m 0) ≤ 31
    go true true = omega arith
    go true false = omega arith
    go false b = bounded 31 year_days refl m

-- SIX DIGITS THAT ARE A DATE

module _ (w : Word) (e : date w ≡ true) where
  shaped : (fits (wide year_month_day) w ≡ true) × (real (date_of w) ≡ true)
  unfolding date
  shaped = both (fits (wide year_month_day) w) (real (date_of w)) e

  pub date_spelled : spell_date (date_of w) ≡ w
  date_spelled =
      ap (λ (v : Word). digits 2 (year w) ++ (digits 2 (month w) ++ v)) (third ∙ sym (append-nil (digits 2 (value (take 2 (drop 2 (drop 2 w)))))))
      ∙ spells_values year_month_day w shaped.0
    where
      third : digits 2 (day_of w) ≡ digits 2 (value (take 2 (drop 2 (drop 2 w))))
      third = ap (λ (v : Word). digits 2 (value (take 2 v))) (sym (drop-drop 2 2 w))

  pub date_valid : valid_date (date_of w) ≡ true
  date_valid =
      let l : year w < 100 = ltb-true (year w) 100 (both (ltb (year w) 100) _ (sized_values year_month_day w shaped.0)).0 in
      and_both (leb (year w) 99) (real (date_of w)) (le-leb (year w) 99 (omega arith)) shaped.1

-- A DATE THAT IS VALID

module _ (d : Date) (v : valid_date d ≡ true) where
  its_year : d.year ≤ 99
  its_year = leb-true d.year 99 (both (leb d.year 99) (real d) v).0

  its_real : real d ≡ true
  its_real = (both (leb d.year 99) (real d) v).1

  its_day : (1 ≤ d.day) × (d.day ≤ days_in d.year d.month)
  its_day =
      let h = both (leb 1 d.day) (leb d.day (days_in d.year d.month)) its_real in
      (leb-true 1 d.day h.0, leb-true d.day (days_in d.year d.month) h.1)

  its_month : d.month ≤ 12
  its_month = (months d.year d.month (omega (arith, its_day))).1

  -- the numbers of its spelling are its own
  numbers : (fits (wide year_month_day) (spell_date d) ≡ true) × (values year_month_day (spell_date d) ≡ d.year ∷ d.month ∷ d.day ∷ [])
  numbers =
      let y : ltb d.year 100 ≡ true = lt-ltb d.year 100 (omega (arith, its_year)) in
      let m : ltb d.month 100 ≡ true = lt-ltb d.month 100 (omega (arith, its_month)) in
      let n : ltb d.day 100 ≡ true = lt-ltb d.day 100 (omega (arith, its_day, most_days d.year d.month)) in
      values_spells year_month_day (d.year ∷ d.month ∷ d.day ∷ []) (rw (y, m, n))

  pub date_back : date_of (spell_date d) ≡ d
  date_back = ap (λ (vs : List ℕ). record { year = get_or vs 0 0; month = get_or vs 1 0; day = get_or vs 2 0 }) numbers.1

  pub date_fits : date (spell_date d) ≡ true
  unfolding date
  date_fits = and_both (fits (wide year_month_day) (spell_date d)) (real (date_of (spell_date d))) numbers.0 (ap real date_back ∙ its_real)
