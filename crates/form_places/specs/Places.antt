-- The place of a content that does not fit its form (document 02, request 4), for each form by its name. Assumes nothing.
use Rattle.std.specs.Prelude.{ℕ, ◌-◌, ◌≡◌, refl, Bool, List, [], ◌∷◌, ltb, get_or}
use Rattle.alphabet.specs.Text.{bytes}
use Rattle.text.specs.Words.{Word, rank}
use Rattle.shape.specs.Shape.{letters}
use Rattle.shape.specs.Time.{time_fits}
use Rattle.places.specs.Parts.{cut_place, time_place}
use Rattle.entries.specs.Entries.{any_of}
use Rattle.head_places.specs.Places.{place3, place7, place8, place9}
use Rattle.equipment.specs.Field10.{present}
use Rattle.equipment_places.specs.Places.{place10}
use Rattle.aerodromes.specs.Aerodromes.{four_letters, joined}
use Rattle.aerodromes_places.specs.Places.{place13, place16, place16plan, place16entry, place17}
use Rattle.route_places.specs.Places.{place15}
use Rattle.supplement_places.specs.Places.{place19}
use Rattle.other.specs.Rules.{base}
use Rattle.other_places.specs.Places.{place18}
use Rattle.kinds.specs.declared.Form.{Form}
use Rattle.kinds.specs.declared.Form.TheVariants.{Field3, Field7, Field8, Field9, Field10, Field13, Field13Open, Field15}
use Rattle.kinds.specs.declared.Form.TheVariants.{Field16, Field16Plan, Field17, Field18, Field19, Field22}
use Rattle.forms.specs.Field22.{labels, which_of}

-- FIELD 22: a number, `/` and the field that it names. Which numbers earlier entries have plays no part

-- the places of the eight, in the order of their numbers
abbrev pub places_named : List (List ℕ → ℕ)
places_named = place7 ∷ (place8 ∷ (place9 ∷ (place10 present ∷ (place13 ∷ (place15 ∷ (place16entry ∷ (place18 base ∷ [])))))))

abbrev pub place_named : ℕ → List ℕ → ℕ
place_named n s = get_or places_named (n - 1) (place18 base) s

abbrev pub is_number : Word → Bool
is_number w = ltb 0 (rank w labels)

-- how far the bytes before the oblique follow one of the numbers; behind a number and its oblique, the place of the field that it names
unfoldable pub place22 : List ℕ → ℕ
place22 s = cut_place 47 is_number (any_of labels) (place_named (which_of s)) s

-- EVERY FORM

abbrev pub place_in : Form → List ℕ → ℕ
place_in Field3 s = place3 s
place_in Field7 s = place7 s
place_in Field8 s = place8 s
place_in Field9 s = place9 s
place_in Field10 s = place10 present s
place_in Field13 s = place13 s
place_in Field13Open s = place13 s
place_in Field15 s = place15 s
place_in Field16 s = place16 s
place_in Field16Plan s = place16plan s
place_in Field17 s = place17 s
place_in Field18 s = place18 base s
place_in Field19 s = place19 s
place_in Field22 s = place22 s

-- EXAMPLES, computed: no number, none of the eight, no oblique, and a field behind it that does not fit

entered : (place22 [] ≡ 0) × (place22 (bytes "/IN") ≡ 0) × (place22 (bytes "123/X") ≡ 1) × (place22 (bytes "1") ≡ 1) × (place22 (bytes "8 /IN") ≡ 1)
    × (place22 (bytes "8") ≡ 1) × (place22 (bytes "8/II") ≡ 3) × (place22 (bytes "8/I") ≡ 3) × (place22 (bytes "13/EHAM2460") ≡ 8)
    × (place22 (bytes "16/EDDN0") ≡ 8) × (place22 (bytes "16/EDD1") ≡ 6) × (place22 (bytes "7/ABC12/A7780") ≡ 11)
unfolding place22 labels letters place7 place8 place16plan time_place four_letters joined time_fits
entered = (refl, refl, refl, refl, refl, refl, refl, refl, refl, refl, refl, refl)
