-- Field 15 (document 01, "15"), the points of a route: coordinates, points with bearing, and names. Assumes nothing.
use Rattle.std.specs.Prelude.{ℕ, ◌-◌, ◌≡◌, refl, Bool, true, false, ◌&&◌, not, cond, List, [], ◌∷◌, ◌++◌, leb, ltb, eqb, length, take, drop, get_or}
use Rattle.alphabet.specs.Text.{bytes}
use Rattle.alphabet.specs.Alphabet.{sign, one_of}
use Rattle.text.specs.Words.{Word, split, all, elem}
use Rattle.shape.specs.Shape.{letters, fits, wide, spells}
use Rattle.route.specs.Levels.{number_at}

-- COORDINATES

-- 99N999W: `north` is the letter N or S, `east` the letter E or W
pub record Degrees : Type 0 where
  pub latitude : ℕ
  pub north : ℕ
  pub longitude : ℕ
  pub east : ℕ

-- 9999N99999W
pub record Minutes : Type 0 where
  pub latitude : ℕ
  pub latitude_minutes : ℕ
  pub north : ℕ
  pub longitude : ℕ
  pub longitude_minutes : ℕ
  pub east : ℕ

-- their shapes: n is N or S, e is E or W
abbrev pub short : Word
short = bytes "2n3e"

abbrev pub long : Word
long = bytes "22n32e"

-- latitude at most 90 degrees, longitude at most 180
abbrev pub degrees_in_range : Degrees → Bool
degrees_in_range c = leb c.latitude 90 && leb c.longitude 180

-- at most so many degrees, minutes at most 59, and 00 at the most degrees
unfoldable pub within : ℕ → ℕ → ℕ → Bool
within most degrees minutes = leb degrees most && (leb minutes 59 && cond (eqb degrees most) (eqb minutes 0) true)

abbrev pub minutes_in_range : Minutes → Bool
minutes_in_range c = within 90 c.latitude c.latitude_minutes && within 180 c.longitude c.longitude_minutes

abbrev pub hemispheres : ℕ → ℕ → Bool
hemispheres north east = one_of north (bytes "NS") && one_of east (bytes "EW")

abbrev pub valid_degrees : Degrees → Bool
valid_degrees c = hemispheres c.north c.east && degrees_in_range c

abbrev pub valid_minutes : Minutes → Bool
valid_minutes c = hemispheres c.north c.east && minutes_in_range c

abbrev pub spell_degrees : Degrees → Word
spell_degrees c = spells short (c.latitude ∷ c.north ∷ c.longitude ∷ c.east ∷ [])

abbrev pub spell_minutes : Minutes → Word
spell_minutes c = spells long (c.latitude ∷ c.latitude_minutes ∷ c.north ∷ c.longitude ∷ c.longitude_minutes ∷ c.east ∷ [])

abbrev pub degrees_of : Word → Degrees
degrees_of w = record { latitude = number_at 0 2 w; north = get_or w 2 0; longitude = number_at 3 3 w; east = get_or w 6 0 }

abbrev pub minutes_of : Word → Minutes
minutes_of w =
    record {
      latitude = number_at 0 2 w;
      latitude_minutes = number_at 2 2 w;
      north = get_or w 4 0;
      longitude = number_at 5 3 w;
      longitude_minutes = number_at 8 2 w;
      east = get_or w 10 0;
    }

-- POINTS WITH BEARING: 2 to 5 signs, a bearing of 000 to 360 and a distance of 000 to 999

pub record Radial : Type 0 where
  pub point : Word
  pub bearing : ℕ
  pub distance : ℕ

-- bearing and distance, the last 6 bytes
abbrev pub polar : Word
polar = bytes "33"

abbrev pub signs_of : Word → Word
signs_of w = take (length w - 6) w

abbrev pub polar_of : Word → Word
polar_of w = drop (length w - 6) w

abbrev pub valid_radial : Radial → Bool
valid_radial r = (leb 2 (length r.point) && leb (length r.point) 5) && (all sign r.point && (leb r.bearing 360 && leb r.distance 999))

abbrev pub spell_radial : Radial → Word
spell_radial r = r.point ++ spells polar (r.bearing ∷ r.distance ∷ [])

abbrev pub radial_of : Word → Radial
radial_of w = record { point = signs_of w; bearing = number_at 0 3 (polar_of w); distance = number_at 3 3 (polar_of w) }

-- of a word of 8 or more bytes
unfoldable pub radial_fits : Word → Bool
radial_fits w = leb (length w) 11 && (all sign (signs_of w) && (fits (wide polar) (polar_of w) && leb (number_at 0 3 (polar_of w)) 360))

-- POINTS: a coordinate, a point with bearing, or any other name of 2 to so many signs

-- DCT, VFR and IFR are indicators, not names
unfoldable pub indicators : List Word
indicators = split 32 (bytes "DCT VFR IFR")

unfoldable pub name_fits : ℕ → Word → Bool
name_fits most w = leb 2 (length w) && (leb (length w) most && (all sign w && not (elem w indicators)))

pub data Point : Type 0 where
  in_degrees : Degrees → Point
  in_minutes : Minutes → Point
  with_bearing : Radial → Point
  named : Word → Point

-- a name is never shaped as a coordinate
unfoldable pub valid_point : ℕ → Point → Bool
valid_point most (in_degrees c) = valid_degrees c
valid_point most (in_minutes c) = valid_minutes c
valid_point most (with_bearing r) = valid_radial r
valid_point most (named w) = name_fits most w && not (fits (wide short) w)

abbrev pub spell_point : Point → Word
spell_point (in_degrees c) = spell_degrees c
spell_point (in_minutes c) = spell_minutes c
spell_point (with_bearing r) = spell_radial r
spell_point (named w) = w

-- a coordinate's shape out of range is refused
unfoldable pub point_fits : ℕ → Word → Bool
point_fits most w =
    cond (fits (wide short) w) (degrees_in_range (degrees_of w))
    (cond (fits (wide long) w) (minutes_in_range (minutes_of w))
    (cond (ltb 7 (length w)) (radial_fits w)
    (name_fits most w)))

-- a word of that shape out of range
unfoldable pub out_of_range : Word → Bool
out_of_range w = fits (wide short) w && not (degrees_in_range (degrees_of w))

abbrev pub point_of : Word → Point
point_of w =
    cond (fits (wide short) w) (in_degrees (degrees_of w))
    (cond (fits (wide long) w) (in_minutes (minutes_of w))
    (cond (ltb 7 (length w)) (with_bearing (radial_of w))
    (named w)))

-- EXAMPLES, computed

coordinates : (degrees_in_range (degrees_of (bytes "46N078W")) ≡ true) × (degrees_in_range (degrees_of (bytes "91N078W")) ≡ false)
coordinates = (refl, refl)

minutes : (minutes_in_range (minutes_of (bytes "9000N18000E")) ≡ true) × (minutes_in_range (minutes_of (bytes "9001N07805W")) ≡ false)
unfolding within
minutes = (refl, refl)

out_of_range_lem : (out_of_range (bytes "91N078W") ≡ true) × (out_of_range (bytes "46N078W") ≡ false) × (out_of_range (bytes "UPAMPA7") ≡ false)
unfolding out_of_range letters
out_of_range_lem = (refl, refl, refl)

bearings : (radial_fits (bytes "FOJ180040") ≡ true) × (radial_fits (bytes "FOJ361040") ≡ false)
unfolding radial_fits
bearings = (refl, refl)
