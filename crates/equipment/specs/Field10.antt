-- Field 10: the codes of two sides, with an oblique between them; which codes a side may have is an edition's. Assumes nothing.
use Rattle.std.specs.Prelude.{ℕ, ◌≡◌, refl, Bool, true, false, ◌&&◌, ◌||◌, not, List, [], ◌∷◌, ◌++◌, leb, length}
use Prim.Native.String.{String}
use Rattle.alphabet.specs.Text.{bytes}
use Rattle.alphabet.specs.Alphabet.{sign}
use Rattle.text.specs.Words.{Word, split, holds, before, behind, all, null, same}
use Rattle.codes.specs.Codes.{codes, concat, codes_fit, shaped}
use Rattle.shape.specs.Field.{Field}

-- AN EDITION: the codes of each side, and how many bytes a side may have

pub record Edition10 : Type 0 where
  pub left : List Word
  pub most_left : ℕ
  pub right : List Word
  pub most_right : ℕ

abbrev pub edition10 : List Word → ℕ → List Word → ℕ → Edition10
edition10 l m r n = record { left = l; most_left = m; right = r; most_right = n }

unfoldable pub present : Edition10
present =
    edition10
    (split 32 (bytes "A B C D E1 E2 E3 F G H I J1 J2 J3 J4 J5 J6 J7 K L M1 M2 M3 O P1 P2 P3 P4 P5 P6 P7 P8 P9 R S T U V W X Y Z")) 64
    (split 32 (bytes "A C E H I L P S X B1 B2 U1 U2 V1 V2 D1 G1")) 20

-- a list is sound where each code is of signs and can be cut out again
abbrev pub sound_list : List Word → Bool
sound_list list = all shaped list && all (all sign) list

unfoldable pub sound : Edition10 → Bool
sound e = sound_list e.left && sound_list e.right

-- THE RECORD: the codes of each side, in the order sent; N alone is the one code N

pub record Field10 : Type 0 where
  pub left : List Word
  pub right : List Word

abbrev pub only_n : List Word → Bool
only_n [] = false
only_n (w ∷ ws) = same w (bytes "N") && null ws

-- N alone, or one or more codes of the list, none twice, in at most so many bytes
abbrev pub side_fits : List Word → ℕ → List Word → Bool
side_fits list most ws = only_n ws || (not (null ws) && (leb (length (concat ws)) most && codes_fit list ws))

unfoldable pub valid10 : Edition10 → Field10 → Bool
valid10 e r =
    side_fits e.left e.most_left r.left
    && side_fits e.right e.most_right r.right

abbrev pub spell10 : Field10 → List ℕ
spell10 r = concat r.left ++ (47 ∷ concat r.right)

-- THE CONTENT: cut at the oblique, and each side into its codes

abbrev pub record10 : List ℕ → Field10
record10 s = record { left = codes (before 47 s); right = codes (behind 47 s) }

unfoldable pub fits10 : Edition10 → List ℕ → Bool
fits10 e s = holds 47 s && valid10 e (record10 s)

-- THE FORM, of an edition

abbrev pub field10 : Edition10 → Field
field10 e =
    record {
      Record = Field10;
      valid = valid10 e;
      spell = spell10;
      fits = fits10 e;
      record_of = record10;
      canonical = λ r. r;
    }

-- EXAMPLES, computed

abbrev fitting : String → Bool
fitting t = fits10 present (bytes t)

taken : all fitting ("SDFG/S" ∷ ("N/N" ∷ ("SDE2E3FGHIJ1J5M1RWXYP2/B1U1D1" ∷ ("N/S" ∷ [])))) ≡ true
unfolding fits10 valid10 present
taken = refl

refused :
    all (λ (t : String). not (fitting t))
    ("SE/C" ∷ ("SDS/C" ∷ ("NS/C" ∷ ("S/NC" ∷ ("S/" ∷ ("S/C/" ∷ ("/C" ∷ ("S" ∷ ("" ∷ ("S/CC" ∷ ("S /C" ∷ []))))))))))) ≡ true
unfolding fits10 valid10 present
refused = refl

-- twenty bytes behind the oblique, and twenty-one
twenty : (fitting "S/ACEHILPSB1B2U1U2V1V2" ≡ true) × (fitting "S/ACEHILPSXB1B2U1U2V1V2" ≡ false)
unfolding fits10 valid10 present
twenty = (refl, refl)

-- the codes in the order sent
cut_sides : record10 (bytes "SE3FJ1/LB1") ≡ record { left = split 32 (bytes "S E3 F J1"); right = split 32 (bytes "L B1") }
cut_sides = refl
