-- Contents of field 15 on each side of its rules, under one statement over one list, and a content with its record. Assumes nothing.
use mathlib.Core.Path.{◌≡◌, refl}
use mathlib.Core.Bool.{Bool, true, false, beq}
use mathlib.Core.List.{List, [], ◌∷◌}
use Prim.Native.String.{String}
use Rattle.alphabet.specs.Text.{bytes}
use Rattle.text.specs.Words.{all}
use Rattle.shape.specs.Shape.{letters}
use Rattle.route.specs.Levels.{cruising, plus, speed_digits, level_digits, speeds, levels, starts, changes, climbs}
use Rattle.route.specs.Points.{within, radial_fits, indicators, name_fits, in_degrees, in_minutes, with_bearing, named, valid_point, point_fits, point_of}
use Rattle.route.specs.Field15.{indicator, plain, change, climb, valid_element, pair_fits, element_fits, Field15, valid15, spell15, fits15, record15}

-- a content, and whether it fits
pub record Example : Type 0 where
  pub content : String
  pub fits : Bool

pub examples : List Example
examples =
    record { content = "N0440F310 46N078W"; fits = true }
    ∷ record { content = "N0440F310 91N078W"; fits = false }
    ∷ record { content = "N0440F310 9000N18000E"; fits = true }
    ∷ record { content = "N0440F310 9001N07805W"; fits = false }
    ∷ record { content = "N0440F310 9000N18001E"; fits = false }
    ∷ record { content = "N0440F310 FOJ180040"; fits = true }
    ∷ record { content = "N0440F310 FOJ361040"; fits = false }
    ∷ record { content = "N0440F310 12345678"; fits = true }
    ∷ record { content = "N0440F310 UPAMPA7"; fits = true }
    ∷ record { content = "N0440F310 UPAMPA78"; fits = false }
    ∷ record { content = "N0440F310 DCT PAM DCT T"; fits = true }
    ∷ record { content = "N0440F310 T"; fits = true }
    ∷ record { content = "N0440F310 T DCT"; fits = false }
    ∷ record { content = "N0440F310 DCT/N0440F310"; fits = false }
    ∷ record { content = "N0440F310 C/IFR/N0440F310PLUS"; fits = false }
    ∷ record { content = "N0440F310 DCT180040"; fits = true }
    ∷ record { content = "N0440F310 PAM/N0440F310 C/48N050W/M082F290F350 C/PAM/K0800S1200PLUS"; fits = true }
    ∷ record { content = "N0440F310 PAM/N0440VFR"; fits = false }
    ∷ record { content = "N0440F310 PAMPAM1/N0440F310"; fits = false }
    ∷ record { content = "K0830S1500 DCT"; fits = true }
    ∷ record { content = "M082VFR DCT"; fits = true }
    ∷ record { content = "M0820F310 DCT"; fits = false }
    ∷ record { content = "N0440F310"; fits = false }
    ∷ record { content = "N0440F310 "; fits = false }
    ∷ []

pub agrees : Example → Bool
agrees e = beq (fits15 (bytes e.content)) e.fits

pub examples_hold : all agrees examples ≡ true
unfolding agrees examples fits15 pair_fits speeds levels starts changes climbs within indicators name_fits radial_fits point_fits element_fits letters
examples_hold = refl

-- digits alone may be a point with bearing
pub all_digits : point_of (bytes "12345678") ≡ with_bearing (record { point = bytes "12"; bearing = 345; distance = 678 })
unfolding letters
all_digits = refl

-- one content and its record

abbrev pub sample : Field15
sample =
    record {
      speed = record { unit = 78; number = 440 };
      level = cruising (record { unit = 70; number = 310 });
      route =
          indicator (bytes "DCT")
          ∷ plain (in_degrees (record { latitude = 46; north = 78; longitude = 78; east = 87 }))
          ∷ plain (in_minutes (record { latitude = 52; latitude_minutes = 30; north = 78; longitude = 4; longitude_minutes = 5; east = 69 }))
          ∷ change (named (bytes "PAM")) (record { unit = 77; number = 82 }) (record { unit = 83; number = 1200 })
          ∷ climb (with_bearing (record { point = bytes "FOJ"; bearing = 180; distance = 40 }))
          (record { unit = 75; number = 800 }) (record { unit = 70; number = 290 }) plus
          ∷ indicator (bytes "T")
          ∷ [];
    }

pub sample_read : record15 (bytes "N0440F310 DCT 46N078W 5230N00405E PAM/M082S1200 C/FOJ180040/K0800F290PLUS T") ≡ sample
unfolding record15 speed_digits level_digits indicators letters
sample_read = refl

pub sample_valid : (valid15 sample ≡ true) × (spell15 sample ≡ bytes "N0440F310 DCT 46N078W 5230N00405E PAM/M082S1200 C/FOJ180040/K0800F290PLUS T")
unfolding valid15 valid_element valid_point name_fits within speed_digits level_digits indicators letters
sample_valid = (refl, refl)
