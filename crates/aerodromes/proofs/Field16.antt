-- Field 16 is proved: alone, in its form with an elapsed time and alternates, and as an entry of a CHG. Assumes nothing.
use Prim.Native.Nat.{ℕ}
use mathlib.Core.Path.{◌≡◌, refl, sym, ap, ap₂, ◌∙◌}
use mathlib.Core.Bool.{Bool, true, false, ◌||◌, cond, or-true}
use mathlib.Core.List.{List}
use native.Mathlib.Omega.{arith}
use lib.Dec.{leb}
use lib.ListN.{length}
use Rattle.text.specs.Words.{Word, all, split, tidy_word, tidy}
use Rattle.text.proofs.Tests.{both, and_both, all_imp}
use Rattle.text.proofs.Joined.{split_one}
use Rattle.text.proofs.Tidy.{tidy_one, word_free}
use Rattle.shape.specs.Time.{elapsed_hours, elapsed_of, time_minutes}
use Rattle.shape.specs.Field.{Laws}
use Rattle.shape.proofs.Fields.{Facts, plain}
use Rattle.aerodromes.specs.Aerodromes.{four_letters, aerodrome_of, joined_of, joined, valid_joined, spell_joined, first, others}
use Rattle.aerodromes.specs.Field16.{fits16, record16, field16, few_aerodromes, most_alternates}
use Rattle.aerodromes.specs.Field16.{Field16Plan, valid16plan, spell16plan, fits16plan, record16plan, field16plan}
use Rattle.aerodromes.specs.Field16.{Field16Entry, bare, whole, valid16entry, spell16entry, fits16entry, record16entry, field16entry}
use Rattle.aerodromes.proofs.Aerodromes.{four_length, four_tidy, joined_length, joined_valid, joined_tidy, joined_aerodrome, joined_minutes, joined_fits}
use Rattle.aerodromes.proofs.Aerodromes.{tidy_words, words_spelled, first_back, others_back}

-- FIELD 16 ALONE

facts16 : Facts field16
facts16 =
    record { spelled = λ s e. refl; held = λ s e. e; taken = λ r v. v; back = λ r v. refl; tidied = λ s e. tidy_one s (four_tidy s e) }

pub field16_laws : Laws field16
field16_laws = plain field16 (λ r. refl) facts16

-- FIELD 16 IN FPL AND SPL

few_tidy : (most : ℕ) (ws : List Word) → few_aerodromes most ws ≡ true → all tidy_word ws ≡ true
few_tidy most ws e = all_imp four_letters tidy_word four_tidy ws (both (leb (length ws) most) (all four_letters ws) e).1

module _ (s : List ℕ) (e : fits16plan s ≡ true) where
  pub plan_parts : (joined elapsed_hours (first (split 32 s)) ≡ true) × (few_aerodromes most_alternates (others (split 32 s)) ≡ true)
  unfolding fits16plan
  plan_parts = both (joined elapsed_hours (first (split 32 s))) (few_aerodromes most_alternates (others (split 32 s))) e

  held16plan : valid16plan (record16plan s) ≡ true
  held16plan =
      let w = first (split 32 s) in
      and_both (valid_joined elapsed_hours (aerodrome_of w) (time_minutes (joined_of w))) (few_aerodromes most_alternates (others (split 32 s)))
      (joined_valid elapsed_hours w plan_parts.0)
      plan_parts.1

  tidied16plan : tidy s ≡ true
  tidied16plan = tidy_words s (joined_tidy elapsed_hours (first (split 32 s)) plan_parts.0) (few_tidy most_alternates (others (split 32 s)) plan_parts.1)

module _ (r : Field16Plan) (v : valid16plan r ≡ true) where
  parts : (valid_joined elapsed_hours r.destination r.elapsed.0 ≡ true) × (few_aerodromes most_alternates r.alternates ≡ true)
  parts = both (valid_joined elapsed_hours r.destination r.elapsed.0) (few_aerodromes most_alternates r.alternates) v

  first_is : first (split 32 (spell16plan r)) ≡ spell_joined r.destination r.elapsed.0
  first_is =
      first_back elapsed_hours r.destination r.elapsed.0 r.alternates (omega arith) parts.0 (few_tidy most_alternates r.alternates parts.1)

  others_are : others (split 32 (spell16plan r)) ≡ r.alternates
  others_are =
      others_back elapsed_hours r.destination r.elapsed.0 r.alternates (omega arith) parts.0 (few_tidy most_alternates r.alternates parts.1)

  taken16plan : fits16plan (spell16plan r) ≡ true
  unfolding fits16plan
  taken16plan =
      and_both (joined elapsed_hours (first (split 32 (spell16plan r)))) (few_aerodromes most_alternates (others (split 32 (spell16plan r))))
      (ap (joined elapsed_hours) first_is ∙ joined_fits elapsed_hours r.destination r.elapsed.0 (omega arith) parts.0)
      (ap (few_aerodromes most_alternates) others_are ∙ parts.1)

  back16plan : record16plan (spell16plan r) ≡ r
  back16plan =
      ap₂ (λ (w : Word) (ws : List Word). record { destination = aerodrome_of w; elapsed = elapsed_of (joined_of w); alternates = ws }) first_is others_are
      ∙ ap₂ (λ (a : Word) (n : ℕ). record { destination = a; elapsed = record { 0 = n }; alternates = r.alternates })
      (joined_aerodrome elapsed_hours r.destination r.elapsed.0 (omega arith) parts.0)
      (joined_minutes elapsed_hours r.destination r.elapsed.0 (omega arith) parts.0)

facts16plan : Facts field16plan
facts16plan =
    record {
      spelled = λ s e. words_spelled elapsed_hours s (plan_parts s e).0;
      held = held16plan;
      taken = taken16plan;
      back = back16plan;
      tidied = tidied16plan;
    }

pub field16plan_laws : Laws field16plan
field16plan_laws = plain field16plan (λ r. refl) facts16plan

-- FIELD 16 AS AN ENTRY OF A CHG

-- its two forms share no content: the first word of a plan's has eight bytes
pub plan_not_bare : (s : List ℕ) → fits16plan s ≡ true → fits16 s ≡ false
plan_not_bare s e = go (fits16 s) refl
  where
    go : (b : Bool) → fits16 s ≡ b → b ≡ false
    go true q =
        let f : first (split 32 s) ≡ s = ap first (split_one 32 s (word_free s (four_tidy s q))) in
        absurd (omega (arith, sym (ap length f) ∙ joined_length elapsed_hours (first (split 32 s)) (plan_parts s e).0, four_length s q))
    go false q = refl

module _ (s : List ℕ) where
  abbrev told : Bool → Field16Entry
  told b = cond b (bare (record16 s)) (whole (record16plan s))

  spelled16entry : fits16entry s ≡ true → spell16entry (record16entry s) ≡ s
  spelled16entry = go (fits16 s)
    where
      go : (b : Bool) → (b || fits16plan s) ≡ true → spell16entry (told b) ≡ s
      go true e = refl
      go false e = facts16plan.spelled s e

  held16entry : fits16entry s ≡ true → valid16entry (record16entry s) ≡ true
  held16entry = go (fits16 s) refl
    where
      go : (b : Bool) → fits16 s ≡ b → (b || fits16plan s) ≡ true → valid16entry (told b) ≡ true
      go true q e = q
      go false q e = facts16plan.held s e

  tidied16entry : fits16entry s ≡ true → tidy s ≡ true
  tidied16entry = go (fits16 s) refl
    where
      go : (b : Bool) → fits16 s ≡ b → (b || fits16plan s) ≡ true → tidy s ≡ true
      go true q e = facts16.tidied s q
      go false q e = facts16plan.tidied s e

taken16entry : (r : Field16Entry) → valid16entry r ≡ true → fits16entry (spell16entry r) ≡ true
taken16entry (bare r) v = rw v
taken16entry (whole r) v = rw (facts16plan.taken r v) (or-true (fits16 (spell16plan r)))

back16entry : (r : Field16Entry) → valid16entry r ≡ true → record16entry (spell16entry r) ≡ r
back16entry (bare r) v = rw v
back16entry (whole r) v = rw (plan_not_bare (spell16plan r) (facts16plan.taken r v)) (ap whole (facts16plan.back r v))

pub field16entry_laws : Laws field16entry
field16entry_laws =
    plain field16entry (λ r. refl)
    (record { spelled = spelled16entry; held = held16entry; taken = taken16entry; back = back16entry; tidied = tidied16entry })
