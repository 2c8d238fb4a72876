-- The place of a date that is none: a date goes on from each of its prefixes. Assumes nothing.
use Prim.Native.Nat.{ℕ, zero, suc, ◌+◌, ◌*◌, ◌-◌, ◌≤◌}
use mathlib.Core.Path.{◌≡◌, refl, sym, ap, ◌∙◌}
use mathlib.Core.Bool.{Bool, true, false, ◌&&◌, ◌||◌, false≢true, or-true}
use mathlib.Core.List.{List, [], ◌∷◌, ◌++◌}
use native.Mathlib.Omega.{arith}
use lib.Dec.{leb, eqb}
use lib.ListN.{length, take, drop, length-append}
use lib.Seq.{take-append_seam}
use borrow.Author.Tests.{leb-true, le-leb, eqb-true, eqb-false}
use Rattle.alphabet.specs.Text.{bytes}
use Rattle.alphabet.specs.Alphabet.{digit}
use Rattle.text.specs.Words.{Word, split}
use Rattle.text.proofs.Tests.{both}
use Rattle.shape.specs.Shape.{fits, wide}
use Rattle.shape.proofs.Numbers.{digit_range}
use Rattle.shape.proofs.Index.{fits_lengths}
use Rattle.places.specs.Place.{IsPlace}
use Rattle.places.specs.Parts.{passes}
use Rattle.places.proofs.Leaves.{passes_place}
use Rattle.other.specs.Rules.{year_month_day, date, days_in, year, month, day_of}
use Rattle.other.proofs.Dates.{months}
use Rattle.other_places.specs.Places.{filled, date_go}

-- what a date's six bytes are
record Dated (a b c d e f : ℕ) : Type 0 where
  a_digit : digit a ≡ true
  b_digit : digit b ≡ true
  c_digit : digit c ≡ true
  d_digit : digit d ≡ true
  e_digit : digit e ≡ true
  f_digit : digit f ≡ true
  one : 1 ≤ day_of (a ∷ b ∷ c ∷ d ∷ e ∷ f ∷ [])
  most : day_of (a ∷ b ∷ c ∷ d ∷ e ∷ f ∷ []) ≤ days_in (year (a ∷ b ∷ c ∷ d ∷ e ∷ f ∷ [])) (month (a ∷ b ∷ c ∷ d ∷ e ∷ f ∷ []))

dated : (a b c d e f : ℕ) → date (a ∷ b ∷ c ∷ d ∷ e ∷ f ∷ []) ≡ true → Dated a b c d e f
unfolding date
dated a b c d e f h =
    let x = both (digit a && (digit b && (digit c && (digit d && (digit e && (digit f && true)))))) _ h in
    let xa = both (digit a) _ x.0 in
    let xb = both (digit b) _ xa.1 in
    let xc = both (digit c) _ xb.1 in
    let xd = both (digit d) _ xc.1 in
    let xe = both (digit e) _ xd.1 in
    let xf = both (digit f) _ xe.1 in
    let y = both (leb 1 (day_of (a ∷ b ∷ c ∷ d ∷ e ∷ f ∷ []))) _ x.1 in
    record {
      a_digit = xa.0;
      b_digit = xb.0;
      c_digit = xc.0;
      d_digit = xd.0;
      e_digit = xe.0;
      f_digit = xf.0;
      one = leb-true 1 (day_of (a ∷ b ∷ c ∷ d ∷ e ∷ f ∷ [])) y.0;
      most = leb-true (day_of (a ∷ b ∷ c ∷ d ∷ e ∷ f ∷ [])) (days_in (year (a ∷ b ∷ c ∷ d ∷ e ∷ f ∷ [])) (month (a ∷ b ∷ c ∷ d ∷ e ∷ f ∷ []))) y.1;
    }

date_of_lem : (a b c d e f : ℕ) → digit a ≡ true → digit b ≡ true → digit c ≡ true → digit d ≡ true → digit e ≡ true → digit f ≡ true
    → 1 ≤ day_of (a ∷ b ∷ c ∷ d ∷ e ∷ f ∷ [])
    → day_of (a ∷ b ∷ c ∷ d ∷ e ∷ f ∷ []) ≤ days_in (year (a ∷ b ∷ c ∷ d ∷ e ∷ f ∷ [])) (month (a ∷ b ∷ c ∷ d ∷ e ∷ f ∷ []))
    → date (a ∷ b ∷ c ∷ d ∷ e ∷ f ∷ []) ≡ true
unfolding date
date_of_lem a b c d e f da db dc dd de df one most =
    let w = a ∷ b ∷ c ∷ d ∷ e ∷ f ∷ [] in
    rw (da, db, dc, dd, de, df, le-leb 1 (day_of w) one, le-leb (day_of w) (days_in (year w) (month w)) most)

pub date_six : (w : Word) → date w ≡ true → length w ≡ 6
unfolding date
date_six w e = fits_lengths (wide year_month_day) w (both (fits (wide year_month_day) w) _ e).0

-- a date goes on from each of its prefixes
module _ (a b c d e f : ℕ) (is-date : date (a ∷ b ∷ c ∷ d ∷ e ∷ f ∷ []) ≡ true) where
  h : Dated a b c d e f
  h = dated a b c d e f is-date

  january : (y : ℕ) → 31 ≡ days_in y 1
  unfolding days_in
  january y = refl

  november : (y : ℕ) → 30 ≡ days_in y 11
  unfolding days_in
  november y = refl

  from_one : date (a ∷ bytes "00101") ≡ true
  from_one = date_of_lem a 48 48 49 48 49 h.a_digit refl refl refl refl refl (omega arith) (omega (arith, january (year (a ∷ bytes "00101"))))

  from_two : date (a ∷ b ∷ bytes "0101") ≡ true
  from_two = date_of_lem a b 48 49 48 49 h.a_digit h.b_digit refl refl refl refl (omega arith) (omega (arith, january (year (a ∷ b ∷ bytes "0101"))))

  month_range : (1 ≤ (c - 48) * 10 + (d - 48)) × ((c - 48) * 10 + (d - 48) ≤ 12)
  month_range =
      let o = h.one in
      let m = h.most in
      let r = months (year (a ∷ b ∷ c ∷ d ∷ e ∷ f ∷ [])) (month (a ∷ b ∷ c ∷ d ∷ e ∷ f ∷ [])) (omega arith) in
      (omega (arith, r.0), omega (arith, r.1))

  in_november : date (a ∷ b ∷ bytes "1101") ≡ true
  in_november =
      date_of_lem a b 49 49 48 49 h.a_digit h.b_digit refl refl refl refl (omega arith) (omega (arith, november (year (a ∷ b ∷ bytes "1101"))))

  from_three : date (a ∷ b ∷ c ∷ bytes "101") ≡ true
  from_three = go (eqb c 48) refl
    where
      at : (x : ℕ) → c ≡ x → date (a ∷ b ∷ x ∷ bytes "101") ≡ true → date (a ∷ b ∷ c ∷ bytes "101") ≡ true
      at x q k = ap (λ (y : ℕ). date (a ∷ b ∷ y ∷ bytes "101")) q ∙ k

      go : (x : Bool) → eqb c 48 ≡ x → date (a ∷ b ∷ c ∷ bytes "101") ≡ true
      go true q = at 48 (eqb-true c 48 q) from_two
      go false q =
          let n = eqb-false c 48 q in
          let r = digit_range c h.c_digit in
          let m = month_range.1 in
          let z : c ≡ 49 = omega arith in
          at 49 z in_november

  from_four : date (a ∷ b ∷ c ∷ d ∷ bytes "01") ≡ true
  from_four =
      let o = h.one in
      let m = h.most in
      date_of_lem a b c d 48 49 h.a_digit h.b_digit h.c_digit h.d_digit refl refl (omega arith) (omega arith)

  -- the day's first digit, with 1 or with 0
  from_five : (date (a ∷ b ∷ c ∷ d ∷ e ∷ bytes "1") || (date (a ∷ b ∷ c ∷ d ∷ e ∷ bytes "0") || false)) ≡ true
  from_five = go (eqb f 48) refl
    where
      go : (x : Bool) → eqb f 48 ≡ x → (date (a ∷ b ∷ c ∷ d ∷ e ∷ bytes "1") || (date (a ∷ b ∷ c ∷ d ∷ e ∷ bytes "0") || false)) ≡ true
      go true q =
          let z : date (a ∷ b ∷ c ∷ d ∷ e ∷ 48 ∷ []) ≡ true = ap (λ (y : ℕ). date (a ∷ b ∷ c ∷ d ∷ e ∷ y ∷ [])) (sym (eqb-true f 48 q)) ∙ is-date in
          rw z (or-true (date (a ∷ b ∷ c ∷ d ∷ e ∷ 49 ∷ [])))
      go false q =
          let n = eqb-false f 48 q in
          let r = digit_range f h.f_digit in
          let o = h.one in
          let m = h.most in
          rw (date_of_lem a b c d e 49 h.a_digit h.b_digit h.c_digit h.d_digit h.e_digit refl (omega arith) (omega arith))

  six_kept : (n : ℕ) → n ≤ 6 → date_go (take n (a ∷ b ∷ c ∷ d ∷ e ∷ f ∷ [])) ≡ true
  unfolding date days_in
  six_kept zero l = refl
  six_kept (suc zero) l = rw from_one
  six_kept (suc (suc zero)) l = rw from_two
  six_kept (suc (suc (suc zero))) l = rw from_three
  six_kept (suc (suc (suc (suc zero)))) l = rw from_four
  six_kept (suc (suc (suc (suc (suc zero))))) l = from_five
  six_kept (suc (suc (suc (suc (suc (suc zero)))))) l = rw is-date
  six_kept (suc (suc (suc (suc (suc (suc (suc n))))))) l = absurd (omega arith)

take_kept : (w : Word) (n : ℕ) → n ≤ length w → date w ≡ true → date_go (take n w) ≡ true
take_kept [] n l h = absurd (omega (arith, date_six [] h))
take_kept (a ∷ []) n l h = absurd (omega (arith, date_six (a ∷ []) h))
take_kept (a ∷ b ∷ []) n l h = absurd (omega (arith, date_six (a ∷ b ∷ []) h))
take_kept (a ∷ b ∷ c ∷ []) n l h = absurd (omega (arith, date_six (a ∷ b ∷ c ∷ []) h))
take_kept (a ∷ b ∷ c ∷ d ∷ []) n l h = absurd (omega (arith, date_six (a ∷ b ∷ c ∷ d ∷ []) h))
take_kept (a ∷ b ∷ c ∷ d ∷ e ∷ []) n l h = absurd (omega (arith, date_six (a ∷ b ∷ c ∷ d ∷ e ∷ []) h))
take_kept (a ∷ b ∷ c ∷ d ∷ e ∷ f ∷ []) n l h = six_kept a b c d e f h n l
take_kept (a ∷ b ∷ c ∷ d ∷ e ∷ f ∷ g ∷ w) n l h = absurd (omega (arith, date_six (a ∷ b ∷ c ∷ d ∷ e ∷ f ∷ g ∷ w) h))

date_kept : (p t : List ℕ) → date (p ++ t) ≡ true → date_go p ≡ true
date_kept p t e =
    ap date_go (sym (take-append_seam p t)) ∙ take_kept (p ++ t) (length p) (let n = length-append p t in omega arith) e

filled_out : (f : List ℕ → Bool) (p : List ℕ) (es : List Word) → filled f p es ≡ true → (t : List ℕ) × (f (p ++ t) ≡ true)
filled_out f p [] e = absurd (false≢true e)
filled_out f p (v ∷ es) e = go (f (p ++ drop (length p) v)) refl e (filled_out f p es)
  where
    go : (x : Bool) → f (p ++ drop (length p) v) ≡ x → (x || filled f p es) ≡ true
        → (filled f p es ≡ true → (t : List ℕ) × (f (p ++ t) ≡ true)) → (t : List ℕ) × (f (p ++ t) ≡ true)
    go true q h ih = (drop (length p) v, q)
    go false q h ih = ih h

pub date_right : (s : List ℕ) → IsPlace date s (passes date_go [] s)
date_right s = passes_place date date_go (record { kept = date_kept; completed = λ p e. filled_out date p (split 32 (bytes "000101 000100")) e }) s []
