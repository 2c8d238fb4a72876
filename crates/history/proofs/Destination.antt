-- A new destination put into a plan's field 16: the rest of the field stays, and it fits as before. Assumes nothing.
use Prim.Native.Nat.{◌≤◌}
use mathlib.Core.Path.{◌≡◌, refl, sym, ap, ◌∙◌}
use mathlib.Core.Bool.{Bool, true, false, ◌||◌, cond}
use mathlib.Core.List.{List, [], ◌∷◌, ◌++◌, append_assoc}
use mathlib.Core.Option.{none, some, get_or}
use native.Mathlib.Omega.{arith}
use lib.Dec.{eqb}
use lib.ListN.{length, take, drop, length-append}
use lib.Seq.{take_all}
use borrow.Author.Tests.{eq-eqb, ne_eqb}
use Rattle.text.specs.Words.{Word, split, join}
use Rattle.text.proofs.Tests.{both, and_both}
use Rattle.shape.specs.Time.{elapsed_hours, spell_time, valid_time}
use Rattle.shape.proofs.Fields.{fits_spelling, spelling_fits}
use Rattle.aerodromes.specs.Aerodromes.{four_letters, valid_joined, first, others}
use Rattle.aerodromes.specs.Field16.{few_aerodromes, most_alternates, Field16Plan, valid16plan, spell16plan, fits16plan, record16plan, field16plan}
use Rattle.aerodromes.specs.Field16.{fits16, fits16entry}
use Rattle.aerodromes.proofs.Aerodromes.{four_length, cut_aerodrome, cut_joined, joined_length, joined_spelled, words_spelled}
use Rattle.aerodromes.proofs.Field16.{plan_parts, field16plan_laws}
use Rattle.kinds.specs.Kinds.{plan16}
use Rattle.force.specs.InForce.{put_in}
use Rattle.history.specs.History.{within, entered}
use Rattle.history.specs.History.Part.{destination, elapsed_and_alternates}

-- A CONTENT IN ITS FPL FORM is longer than a destination

first_in : (w : Word) (ws : List Word) → length w ≤ length (join 32 (w ∷ ws))
first_in w [] = omega arith
first_in w (v ∷ ws) = omega (arith, length-append w (32 ∷ join 32 (v ∷ ws)))

plan_long : (s : Word) → fits16plan s ≡ true → 8 ≤ length s
plan_long s e =
    let w = first (split 32 s) in
    let h = (plan_parts s e).0 in
    omega (
      arith,
      ap length (words_spelled elapsed_hours s h),
      ap (λ (v : Word). length (join 32 (v ∷ others (split 32 s)))) (joined_spelled elapsed_hours w h),
      first_in w (others (split 32 s)),
      joined_length elapsed_hours w h,
    )

-- THE PARTS after an entry of field 16: what it says of each, or as it was

module _ (w own : Word) (e : fits16entry w ≡ true) where
  pub put_destination : get_or (entered destination (some w)) (within destination own) ≡ within destination (put_in plan16 w own)
  put_destination = go (fits16 w) refl
    where
      go : (b : Bool) → fits16 w ≡ b → take 4 w ≡ take 4 (cond b (w ++ drop 4 own) w)
      go true q = take_all 4 w (omega (arith, four_length w q)) ∙ sym (cut_aerodrome w q (drop 4 own))
      go false q = refl

  pub put_behind : get_or (entered elapsed_and_alternates (some w)) (within elapsed_and_alternates own) ≡ within elapsed_and_alternates (put_in plan16 w own)
  put_behind = go (fits16 w) refl e
    where
      go : (b : Bool) → fits16 w ≡ b → (b || fits16plan w) ≡ true
          → get_or (cond (eqb (length w) 4) none (some (drop 4 w))) (drop 4 own) ≡ drop 4 (cond b (w ++ drop 4 own) w)
      go true q p = rw (eq-eqb (length w) 4 (four_length w q)) (sym (cut_joined w q (drop 4 own)))
      go false q p = rw (ne_eqb (length w) 4 (λ z. omega (arith, plan_long w p)))

-- IT FITS: the record with the new destination is valid

joined_front : (a t : Word) (ws : List Word) → join 32 ((a ++ t) ∷ ws) ≡ a ++ join 32 (t ∷ ws)
joined_front a t [] = refl
joined_front a t (v ∷ ws) = append_assoc a t (32 ∷ join 32 (v ∷ ws))

module _ (w own : Word) (q : fits16 w ≡ true) (e : fits16plan own ≡ true) where
  abbrev planned : Field16Plan
  planned = record16plan own

  abbrev redirected : Field16Plan
  redirected = record { destination = w; elapsed = planned.elapsed; alternates = planned.alternates }

  known : (valid16plan planned ≡ true) × (spell16plan planned ≡ own)
  known = fits_spelling field16plan field16plan_laws own e

  parts : (valid_joined elapsed_hours planned.destination planned.elapsed.0 ≡ true) × (few_aerodromes most_alternates planned.alternates ≡ true)
  parts = both (valid_joined elapsed_hours planned.destination planned.elapsed.0) (few_aerodromes most_alternates planned.alternates) known.0

  timed : (four_letters planned.destination ≡ true) × (valid_time elapsed_hours planned.elapsed.0 ≡ true)
  timed = both (four_letters planned.destination) (valid_time elapsed_hours planned.elapsed.0) parts.0

  still_valid : valid16plan redirected ≡ true
  still_valid =
      and_both (valid_joined elapsed_hours w planned.elapsed.0) (few_aerodromes most_alternates planned.alternates)
      (and_both (four_letters w) (valid_time elapsed_hours planned.elapsed.0) q timed.1)
      parts.1

  stays_behind : drop 4 own ≡ join 32 (spell_time planned.elapsed.0 ∷ planned.alternates)
  stays_behind =
      let a = planned.destination in
      let t = spell_time planned.elapsed.0 in
      ap (drop 4) (sym known.1 ∙ joined_front a t planned.alternates) ∙ cut_joined a timed.0 (join 32 (t ∷ planned.alternates))

  new_spelled : spell16plan redirected ≡ w ++ drop 4 own
  new_spelled = joined_front w (spell_time planned.elapsed.0) planned.alternates ∙ ap (λ (v : Word). w ++ v) (sym stays_behind)

  new_fits : fits16plan (w ++ drop 4 own) ≡ true
  new_fits = sym (ap fits16plan new_spelled) ∙ spelling_fits field16plan field16plan_laws redirected still_valid

pub put_fits : (w own : Word) → fits16entry w ≡ true → fits16plan own ≡ true → fits16plan (put_in plan16 w own) ≡ true
put_fits w own e p = go (fits16 w) refl e
  where
    go : (b : Bool) → fits16 w ≡ b → (b || fits16plan w) ≡ true → fits16plan (cond b (w ++ drop 4 own) w) ≡ true
    go true q k = new_fits w own q p
    go false q k = k
