-- Number 10: what a plan leaves unexplained. ZZZZ in 9, 13, 16 destination and 16 alternate wants TYP, DEP, DEST and ALTN in 18, and AFIL in 13
-- wants DEP. The plan is its contents of fields 9, 13, 16 and 18. Assumes nothing.
use Rattle.std.specs.Prelude.{ℕ, ◌≡◌, refl, Bool, ◌&&◌, ◌||◌, not, cond, List, Option, None, Some, eqb}
use Rattle.alphabet.specs.Text.{bytes}
use Rattle.text.specs.Words.{Word, before, same}
use Rattle.head.specs.Field9.{aircraft}
use Rattle.aerodromes.specs.Aerodromes.{aerodrome_of}
use Rattle.aerodromes.specs.Asked.{has_alternate}
use Rattle.other.specs.Field18.{has_key}

abbrev pub unlisted : Word → Bool
unlisted w = same w (bytes "ZZZZ")

abbrev pub filed_in_flight : Word → Bool
filed_in_flight w = same w (bytes "AFIL")

-- the code is unlisted, without the key that says what stands for it
abbrev pub without_key : Word → Word → List ℕ → Bool
without_key code key eighteen = unlisted code && not (has_key eighteen key)

-- the type of aircraft without TYP
abbrev pub type_unexplained : List ℕ → List ℕ → Bool
type_unexplained nine eighteen = without_key (before 47 (aircraft nine)) (bytes "TYP") eighteen

-- the departure aerodrome without DEP
abbrev pub departure_unexplained : List ℕ → List ℕ → Bool
departure_unexplained thirteen eighteen =
    (unlisted (aerodrome_of thirteen) || filed_in_flight (aerodrome_of thirteen)) && not (has_key eighteen (bytes "DEP"))

-- the destination without DEST, or an alternate without ALTN
abbrev pub without_dest : List ℕ → List ℕ → Bool
without_dest sixteen eighteen = without_key (aerodrome_of sixteen) (bytes "DEST") eighteen

abbrev pub without_altn : List ℕ → List ℕ → Bool
without_altn sixteen eighteen = has_alternate sixteen (bytes "ZZZZ") && not (has_key eighteen (bytes "ALTN"))

abbrev pub destination_unexplained : List ℕ → List ℕ → Bool
destination_unexplained sixteen eighteen = without_dest sixteen eighteen || without_altn sixteen eighteen

-- the leftmost field that is unexplained, by its number; 0 where there is none
unfoldable pub unexplained : List ℕ → List ℕ → List ℕ → List ℕ → ℕ
unexplained nine thirteen sixteen eighteen =
    cond (type_unexplained nine eighteen) 9
    (cond (departure_unexplained thirteen eighteen) 13
    (cond (destination_unexplained sixteen eighteen) 16 0))

-- a field by its number; none by 0
abbrev pub numbered : ℕ → Option ℕ
numbered number = cond (eqb number 0) None (Some number)

-- EXAMPLES, computed

explained : (unexplained (bytes "B738/M") (bytes "EHAM0930") (bytes "EDDF0100 EDDK") (bytes "0") ≡ 0)
    × (unexplained (bytes "3ZZZZ/L") (bytes "AFIL0930") (bytes "ZZZZ0100 ZZZZ") (bytes "DEP/X DEST/Y TYP/Z ALTN/A") ≡ 0)
unfolding unexplained has_key
explained = (refl, refl)

leftmost : (unexplained (bytes "3ZZZZ/L") (bytes "ZZZZ0930") (bytes "EDDF0100") (bytes "0") ≡ 9)
    × (unexplained (bytes "B738/M") (bytes "AFIL0930") (bytes "ZZZZ0100") (bytes "RMK/DEP") ≡ 13)
    × (unexplained (bytes "B738/M") (bytes "EHAM0930") (bytes "ZZZZ0100") (bytes "ALTN/X") ≡ 16)
    × (unexplained (bytes "B738/M") (bytes "EHAM0930") (bytes "EDDF0100 ZZZZ") (bytes "DEST/X") ≡ 16)
unfolding unexplained has_key
leftmost = (refl, refl, refl, refl)
