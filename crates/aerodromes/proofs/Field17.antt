-- Field 17 is proved. Assumes nothing.
use Prim.Native.Nat.{ℕ}
use mathlib.Core.Path.{◌≡◌, refl, ap, ap₂, ◌∙◌}
use mathlib.Core.Bool.{Bool, true, false, ◌&&◌, not, cond}
use mathlib.Core.List.{List}
use native.Mathlib.Omega.{arith}
use Rattle.text.specs.Words.{Word, all, null, same, split, text_word, tidy_word, tidy}
use Rattle.text.proofs.Tests.{both, and_both, all_imp, null-nil}
use Rattle.text.proofs.Tidy.{text_word_tidy}
use Rattle.shape.specs.Time.{clock_hours, clock_of, time_minutes}
use Rattle.shape.specs.Field.{Laws}
use Rattle.shape.proofs.Fields.{Facts, plain}
use Rattle.aerodromes.specs.Aerodromes.{aerodrome_of, joined_of, joined, valid_joined, spell_joined, first, others}
use Rattle.aerodromes.specs.Field17.{unlisted, place_fits, Field17, valid17, spell17, fits17, record17, field17}
use Rattle.aerodromes.proofs.Aerodromes.{joined_valid, joined_tidy, joined_aerodrome, joined_minutes, joined_fits}
use Rattle.aerodromes.proofs.Aerodromes.{tidy_words, words_spelled, first_back, others_back}

place_tidy : (a : Word) (ws : List Word) → place_fits a ws ≡ true → all tidy_word ws ≡ true
place_tidy a ws e = go (same a unlisted) e
  where
    go : (b : Bool) → cond b (not (null ws) && all text_word ws) (null ws) ≡ true → all tidy_word ws ≡ true
    go true q = all_imp text_word tidy_word text_word_tidy ws (both (not (null ws)) (all text_word ws) q).1
    go false q = ap (all tidy_word) (null-nil ws q)

module _ (s : List ℕ) (e : fits17 s ≡ true) where
  pub landed_parts : (joined clock_hours (first (split 32 s)) ≡ true) × (place_fits (aerodrome_of (first (split 32 s))) (others (split 32 s)) ≡ true)
  unfolding fits17
  landed_parts = both (joined clock_hours (first (split 32 s))) (place_fits (aerodrome_of (first (split 32 s))) (others (split 32 s))) e

  held17 : valid17 (record17 s) ≡ true
  held17 =
      let w = first (split 32 s) in
      and_both (valid_joined clock_hours (aerodrome_of w) (time_minutes (joined_of w))) (place_fits (aerodrome_of w) (others (split 32 s)))
      (joined_valid clock_hours w landed_parts.0)
      landed_parts.1

  tidied17 : tidy s ≡ true
  tidied17 =
      let w = first (split 32 s) in
      tidy_words s (joined_tidy clock_hours w landed_parts.0) (place_tidy (aerodrome_of w) (others (split 32 s)) landed_parts.1)

module _ (r : Field17) (v : valid17 r ≡ true) where
  parts : (valid_joined clock_hours r.aerodrome r.time.0 ≡ true) × (place_fits r.aerodrome r.place ≡ true)
  parts = both (valid_joined clock_hours r.aerodrome r.time.0) (place_fits r.aerodrome r.place) v

  first_is : first (split 32 (spell17 r)) ≡ spell_joined r.aerodrome r.time.0
  first_is = first_back clock_hours r.aerodrome r.time.0 r.place (omega arith) parts.0 (place_tidy r.aerodrome r.place parts.1)

  others_are : others (split 32 (spell17 r)) ≡ r.place
  others_are = others_back clock_hours r.aerodrome r.time.0 r.place (omega arith) parts.0 (place_tidy r.aerodrome r.place parts.1)

  aerodrome_is : aerodrome_of (spell_joined r.aerodrome r.time.0) ≡ r.aerodrome
  aerodrome_is = joined_aerodrome clock_hours r.aerodrome r.time.0 (omega arith) parts.0

  taken17 : fits17 (spell17 r) ≡ true
  unfolding fits17
  taken17 =
      and_both (joined clock_hours (first (split 32 (spell17 r)))) (place_fits (aerodrome_of (first (split 32 (spell17 r)))) (others (split 32 (spell17 r))))
      (ap (joined clock_hours) first_is ∙ joined_fits clock_hours r.aerodrome r.time.0 (omega arith) parts.0)
      (ap₂ place_fits (ap aerodrome_of first_is ∙ aerodrome_is) others_are ∙ parts.1)

  back17 : record17 (spell17 r) ≡ r
  back17 =
      ap₂ (λ (w : Word) (ws : List Word). record { aerodrome = aerodrome_of w; time = clock_of (joined_of w); place = ws }) first_is others_are
      ∙ ap₂ (λ (a : Word) (n : ℕ). record { aerodrome = a; time = record { 0 = n }; place = r.place })
      aerodrome_is
      (joined_minutes clock_hours r.aerodrome r.time.0 (omega arith) parts.0)

facts17 : Facts field17
facts17 =
    record {
      spelled = λ s e. words_spelled clock_hours s (landed_parts s e).0;
      held = held17;
      taken = taken17;
      back = back17;
      tidied = tidied17;
    }

pub field17_laws : Laws field17
field17_laws = plain field17 (λ r. refl) facts17
