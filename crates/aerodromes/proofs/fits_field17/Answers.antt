-- `aerodromes::fits_field17` meets its contract. Assumes nothing.
use Prim.Native.Nat.{ℕ, ◌+◌}
use mathlib.Core.Path.{◌≡◌, sym, ap, ◌∙◌}
use mathlib.Core.Bool.{true}
use mathlib.Core.List.{List}
use lib.ListN.{take}
use Rattle.text.specs.Words.{Word, all, same, split, text_word}
use Rattle.text.proofs.Index.{rest}
use Rattle.shape.specs.Time.{clock_hours}
use Rattle.shape.proofs.Times.{by_time}
use Rattle.aerodromes.specs.Aerodromes.{joined}
use Rattle.aerodromes.specs.Field17.{unlisted}
use Rattle.aerodromes.proofs.Index.{landed_stop, landed_other, landed_bare, landed_place_lem}
use native.Mathlib.Omega.{arith}
use Rattle.aerodromes.proofs.fits_field17.Goals.{After-is_time_of_day, After-eq}
use Rattle.aerodromes.proofs.fits_field17.Goals as goal

tried : (c : After-is_time_of_day) → c.is_time_of_day.result ≡ joined clock_hours (take c.find-e.result c.args.s.now)
tried c =
    by_time _ c.at_clock.ensures c.is_time_of_day.ensures

first : (c : After-eq) → joined clock_hours (take c.find-e.result c.args.s.now) ≡ true
first c =
    let tried : c.is_time_of_day.result ≡ joined clock_hours (take c.find-e.result c.args.s.now) = by_time _ c.at_clock.ensures c.is_time_of_day.ensures in
    sym tried ∙ c.if-not-is_time_of_day.false

compared : (c : After-eq) → same (take 4 (take c.find-e.result c.args.s.now)) unlisted ≡ c.eq.result
unfolding unlisted
compared c =
    ap (λ (w : Word). same w unlisted) (sym c.aerodrome_of.ensures) ∙ sym c.eq.ensures

pub returns-then-not-is_time_of_day : goal.returns-then-not-is_time_of_day
returns-then-not-is_time_of_day c =
    sym (landed_stop c.args.s.now c.find-e.result c.find-e.ensures.value (sym (tried (goal.at.returns-then-not-is_time_of_day c).After-is_time_of_day)
    ∙ c.if-not-is_time_of_day.true))

pub returns-then-e-s : goal.returns-then-e-s
returns-then-e-s c =
    sym (landed_bare c.args.s.now c.find-e.result c.find-e.ensures.value (first (goal.at.returns-then-e-s c).After-eq)
    (compared (goal.at.returns-then-e-s c).After-eq ∙ c.if-eq.true) (omega arith))

pub returns-then-eq : goal.returns-then-eq
returns-then-eq c =
    c.text_words.ensures
    ∙ ap (λ (t : List ℕ). all text_word (split 32 t)) (rest c.args.s.now (c.find-e.result + 1))
    ∙ sym (landed_place_lem c.args.s.now c.find-e.result c.find-e.ensures.value (first (goal.at.returns-then-eq c).After-eq)
    (compared (goal.at.returns-then-eq c).After-eq ∙ c.if-eq.true) (omega arith))

pub returns : goal.returns
returns c =
    let f = c.find-e in
    sym (landed_other c.args.s.now c.find-e.result f.ensures.value f.ensures.lower_bound.1 (first (goal.at.returns c).After-eq)
    (compared (goal.at.returns c).After-eq ∙ c.if-eq.false))
