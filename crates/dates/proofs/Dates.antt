-- The word under DOF in a content of field 18 that fits: a real date, or no word. Assumes nothing.
use Prim.Native.Nat.{ℕ, ◌+◌, ◌-◌, ◌<◌}
use mathlib.Core.Path.{◌≡◌, refl, sym, ap, ◌∙◌}
use mathlib.Core.Bool.{Bool, true, false, false≢true, true≢false}
use mathlib.Core.List.Memᴰ
use mathlib.Core.List.{List, [], ◌∷◌, Memᴰ}
use mathlib.Core.Logic.{⊎_elim}
use native.Mathlib.Omega.{arith}
use lib.Dec.{ltb}
use lib.ListN.{length, take, drop}
use borrow.Author.Tests.{ltb-true, lt-ltb}
use Rattle.std.specs.Prelude.{Option, Some, None, is_some}
use Rattle.text.specs.Words.{Word, all, split, join, null}
use Rattle.text.proofs.Tests.{both, and_both}
use Rattle.shape.specs.Numbers.{value}
use Rattle.shape.specs.Shape.{fits, wide}
use Rattle.shape.proofs.Index.{fits_lengths}
use Rattle.other.specs.declared.Rule.{Rule}
use Rattle.other.specs.declared.Rule.TheVariants.{Day}
use Rattle.other.specs.Rules.{Date, base, rank_in, rule_in, word_fits, more_fits, year_month_day, year, spell_date, date}
use Rattle.other.specs.Field18.{Worded, group, items_fit, fits18, under, has_key, words_under}
use Rattle.other.proofs.Dates.{date_spelled}
use Rattle.other.proofs.ByKey.{has_item, under_item, standing_fit, no_words}
use Rattle.dates.specs.declared.Date as flight
use Rattle.dates.specs.Dates.{dof, date_in, flight_date}

-- A WORD THAT IS A DATE

pub date_long : (w : Word) → date w ≡ true → length w ≡ 6
unfolding date
date_long w d = fits_lengths (wide year_month_day) w (both (fits (wide year_month_day) w) _ d).0

pub date_some : (w : Word) → date w ≡ true → null w ≡ false
date_some w d = go w (date_long w d)
  where
    go : (v : Word) → length v ≡ 6 → null v ≡ false
    go [] l = absurd (omega arith)
    go (b ∷ v) l = refl

no_day : date [] ≡ false
unfolding date
no_day = refl

-- dates of one day are one word
abbrev day_back : Option flight.Date → Date
day_back (Some f) = record { year = f.year - 2000; month = f.month; day = f.day }
day_back None = record { year = 0; month = 0; day = 0 }

day_word : (w : Word) → date w ≡ true → spell_date (day_back (flight_date w)) ≡ w
day_word w e =
    let n : 2000 + year w - 2000 ≡ year w = omega arith in
    rw (e, n) (date_spelled w e)

pub one_date : (v w : Word) → date v ≡ true → date w ≡ true → flight_date v ≡ flight_date w → v ≡ w
one_date v w p q e = sym (day_word v p) ∙ ap (λ (f : Option flight.Date). spell_date (day_back f)) e ∙ day_word w q

-- UNDER DOF

-- the words of an item, among items that fit, are those of its key's rule
pub record Ruled (r : Rule) (i : Worded) : Type 0 where
  pub first_fits_lem : word_fits r i.first ≡ true
  pub more_fit : all (more_fits r) i.more ≡ true

-- items that fit: the first, and those behind it
pub record Fitting (last : ℕ) (i : Worded) (is : List Worded) : Type 0 where
  pub over : last < rank_in base i.key
  pub ruled : Ruled (rule_in base (rank_in base i.key)) i
  pub tail : items_fit base (rank_in base i.key) is ≡ true

pub fit_parts : (last : ℕ) (i : Worded) (is : List Worded) → items_fit base last (i ∷ is) ≡ true → Fitting last i is
fit_parts last i is e =
    let k = rank_in base i.key in
    let a = both (ltb last k) _ e in
    let b = both (word_fits (rule_in base k) i.first) _ a.1 in
    let c = both (all (more_fits (rule_in base k)) i.more) (items_fit base k is) b.1 in
    record { over = ltb-true last k a.0; ruled = record { first_fits_lem = b.0; more_fit = c.0 }; tail = c.1 }

pub fit_cons : (last : ℕ) (i : Worded) (is : List Worded) → Fitting last i is → items_fit base last (i ∷ is) ≡ true
fit_cons last i is f =
    let k = rank_in base i.key in
    and_both (ltb last k) _ (lt-ltb last k f.over)
    (and_both (word_fits (rule_in base k) i.first) _ f.ruled.first_fits_lem
    (and_both (all (more_fits (rule_in base k)) i.more) _ f.ruled.more_fit f.tail))

ruled_item : (last : ℕ) (is : List Worded) → items_fit base last is ≡ true → (i : Worded) → Memᴰ i is → Ruled (rule_in base (rank_in base i.key)) i
ruled_item last [] e i m = absurd (Memᴰ.not-nil m)
ruled_item last (j ∷ is) e i m =
    let f = fit_parts last j is e in
    ⊎_elim
    (λ (q : i ≡ j). rw q f.ruled)
    (λ n. ruled_item (rank_in base j.key) is f.tail i n)
    (Memᴰ.cases_cons m)

-- where that is DOF's, there is one date
pub dated_item : (i : Worded) → Ruled Day i → (date i.first ≡ true) × (i.more ≡ [])
dated_item i r = (r.first_fits_lem, go i.more r.more_fit)
  where
    go : (ws : List Word) → all (more_fits Day) ws ≡ true → ws ≡ []
    go [] e = refl
    go (w ∷ ws) e = absurd (false≢true e)

pub dof_day : rule_in base (rank_in base dof) ≡ Day
unfolding base
dof_day = refl

module _ (s : List ℕ) (e : fits18 s ≡ true) where
  pub dof_date : has_key s dof ≡ true → date (date_in s) ≡ true
  unfolding has_key words_under
  dof_date h =
      let is = (group (split 32 s)).grouped in
      let o = has_item dof is h in
      let i = o.item in
      let r : Ruled Day i = rw (o.of_key, dof_day) at (ruled_item 0 is (standing_fit s e) i o.one) in
      let d = dated_item i r in
      ap date
      (ap (λ (k : Word). under k is) (sym o.of_key) ∙ under_item base 0 is (standing_fit s e) i o.one
      ∙ ap (λ (ws : List Word). join 32 (i.first ∷ ws)) d.1)
      ∙ d.0

  -- a date is known exactly where field 18 has the item, and then it is a real one
  pub date_known_there : is_some (flight_date (date_in s)) ≡ has_key s dof
  date_known_there = go (has_key s dof) refl
    where
      go : (b : Bool) → has_key s dof ≡ b → is_some (flight_date (date_in s)) ≡ b
      go true q = rw (dof_date q)
      go false q = rw (no_words s dof q, no_day)

  -- so a word is a date
  pub word_date : null (date_in s) ≡ false → date (date_in s) ≡ true
  word_date n = go (has_key s dof) refl
    where
      go : (b : Bool) → has_key s dof ≡ b → date (date_in s) ≡ true
      go true q = dof_date q
      go false q = absurd (true≢false (sym (ap null (no_words s dof q)) ∙ n))

-- AS THE CODE READS IT: w is the word

pub day_none : (v w : Word) → w ≡ v → date w ≡ false → None ≡ flight_date v
day_none v w is e = rw (← is, e)

pub day_known : (v w : Word) → w ≡ v → date w ≡ true → (y mo d : ℕ)
    → y ≡ value (take 2 (drop 0 w)) → mo ≡ value (take 2 (drop 2 w)) → d ≡ value (take 2 (drop 4 w))
    → Some (record { year = 2000 + y; month = mo; day = d }) ≡ flight_date v
day_known v w is e y mo d ey emo ed = rw (ey, emo, ed, ← is, e)
