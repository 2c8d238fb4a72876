-- The place of field 17 is right. Assumes nothing.
use Prim.Native.Nat.{ℕ}
use mathlib.Core.Path.{◌≡◌, refl, sym, ◌∙◌}
use mathlib.Core.Bool.{Bool, true, false, ◌&&◌, ◌||◌, not, cond, true≢false, false≢true}
use mathlib.Core.List.{List, [], ◌∷◌}
use Rattle.std.specs.Prelude.{None, Some}
use Rattle.alphabet.specs.Text.{bytes}
use Rattle.alphabet.specs.Alphabet.{text}
use Rattle.text.specs.Words.{Word, all, null, same, free, split, text_word, leading}
use Rattle.text.proofs.Index.{null-split}
use Rattle.shape.specs.Time.{clock_hours}
use Rattle.places.specs.Place.{IsPlace}
use Rattle.places.specs.Words.{ended, words_fit, content_fits, words_place}
use Rattle.places.specs.Given.{given}
use Rattle.places.proofs.Given.{given_ended, given_place}
use Rattle.places.proofs.Place.{place_of_language, no_place}
use Rattle.places.proofs.Texts.{letter_a, text_place, text_free}
use Rattle.places.proofs.Words.{none_fits, words_place_lem}
use Rattle.aerodromes.specs.Aerodromes.{joined, aerodrome_of, first, others}
use Rattle.aerodromes.specs.Field17.{unlisted, place_fits, fits17}
use Rattle.aerodromes_places.specs.declared.Arrival.{Arrival}
use Rattle.aerodromes_places.specs.declared.Arrival.TheVariants.{Start, Listed, Unlisted, Named}
use Rattle.aerodromes_places.specs.Places.{joined_place, landed, landed_place, place17}
use Rattle.aerodromes_places.proofs.Places.{joined_right, joined_free, sample_joined}

-- BY WORDS

abbrev which : Word → Arrival
which w = cond (same (aerodrome_of w) unlisted) Unlisted Listed

pub landed_right : (k : Arrival) (w : Word) → IsPlace (λ v. ended (landed.after k v)) w (landed_place k w)
landed_right Start w = given_place (joined clock_hours) which w (joined_place clock_hours w) (joined_right clock_hours w)
landed_right Listed w = no_place w
landed_right Unlisted w = given_place text_word (λ v. Named) w (leading text w) (text_place w)
landed_right Named w = given_place text_word (λ v. Named) w (leading text w) (text_place w)

landed_free : (k : Arrival) (w : Word) → ended (landed.after k w) ≡ true → free 32 w ≡ true
landed_free Start w e = joined_free clock_hours w (sym (given_ended (joined clock_hours w) (which w)) ∙ e)
landed_free Listed w e = absurd (false≢true e)
landed_free Unlisted w e = text_free w (sym (given_ended (text_word w) Named) ∙ e)
landed_free Named w e = text_free w (sym (given_ended (text_word w) Named) ∙ e)

landed_alive : (k j : Arrival) (w : Word) → landed.after k w ≡ Some j → (landed.final j || landed.goes j) ≡ true
landed_alive k Start w e = refl
landed_alive k Listed w e = refl
landed_alive k Unlisted w e = refl
landed_alive k Named w e = refl

landed_more : (k : Arrival) → landed.goes k ≡ true → (w : Word) × (j : Arrival) × (landed.after k w ≡ Some j) × (landed.final j ≡ true)
unfolding unlisted
landed_more Start e = (bytes "AAAA0000", Listed, rw (sample_joined clock_hours), refl)
landed_more Listed e = absurd (false≢true e)
landed_more Unlisted e = (65 ∷ [], Named, rw letter_a, refl)
landed_more Named e = (65 ∷ [], Named, rw letter_a, refl)

landed_closed : (k : Arrival) → landed.goes k ≡ false → (w : Word) → landed.after k w ≡ None
landed_closed Start e w = absurd (true≢false e)
landed_closed Listed e w = refl
landed_closed Unlisted e w = absurd (true≢false e)
landed_closed Named e w = absurd (true≢false e)

-- words of text
texts : (vs : List Word) → words_fit landed vs (Some Named) ≡ all text_word vs
texts [] = refl
texts (v ∷ vs) = go (text_word v) (texts vs)
  where
    go : (x : Bool) → words_fit landed vs (Some Named) ≡ all text_word vs → words_fit landed vs (given x Named) ≡ (x && all text_word vs)
    go true e = e
    go false e = none_fits landed vs

behind_zzzz : (vs : List Word) → words_fit landed vs (Some Unlisted) ≡ (not (null vs) && all text_word vs)
behind_zzzz [] = refl
behind_zzzz (v ∷ vs) = texts (v ∷ vs)

behind_other : (vs : List Word) → words_fit landed vs (Some Listed) ≡ null vs
behind_other [] = refl
behind_other (v ∷ vs) = none_fits landed vs

landed_is : (s : List ℕ) → content_fits landed Start s ≡ fits17 s
unfolding fits17
landed_is s = go (split 32 s) (null-split 32 s)
  where
    begun : (x y : Bool) (vs : List Word) → words_fit landed vs (given x (cond y Unlisted Listed)) ≡ (x && cond y (not (null vs) && all text_word vs) (null vs))
    begun true true vs = behind_zzzz vs
    begun true false vs = behind_other vs
    begun false y vs = none_fits landed vs

    go : (ws : List Word) → null ws ≡ false → words_fit landed ws (Some Start)
        ≡ (joined clock_hours (first ws) && place_fits (aerodrome_of (first ws)) (others ws))
    go [] h = absurd (true≢false h)
    go (w ∷ ws) h = begun (joined clock_hours w) (same (aerodrome_of w) unlisted) ws

pub placed17 : (s : List ℕ) → IsPlace fits17 s (place17 s)
unfolding place17
placed17 s =
    place_of_language (content_fits landed Start) fits17 landed_is s (words_place landed landed_place Start (split 32 s))
    (words_place_lem landed landed_place landed_right landed_free landed_alive landed_more landed_closed Start s)

-- FOR THE CODE

module _ (w : Word) (e : joined clock_hours w ≡ true) where
  pub first_listed : same (aerodrome_of w) (bytes "ZZZZ") ≡ false → Some Listed ≡ landed.after Start w
  unfolding unlisted
  first_listed z = rw (e, z)

  pub first_unlisted : same (aerodrome_of w) (bytes "ZZZZ") ≡ true → Some Unlisted ≡ landed.after Start w
  unfolding unlisted
  first_unlisted z = rw (e, z)
