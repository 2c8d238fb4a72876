-- The board as the code holds it: one array of 36,000 bytes, 20 places of 1,800, the first ten the first firm's; and of each place whether a strip
-- stands there, its record and its length. Assumes nothing.
use Rattle.std.specs.Prelude.{ℕ, zero, suc, ◌+◌, ◌*◌, ◌≡◌, refl, cond, List, [], ◌∷◌, ◌++◌, leb, length, take, drop, get_or, set, replicate, Option, None, Some}
use Rattle.text.specs.Lent.{front}
use Rattle.state.specs.State.{just_filed}
use Rattle.history.specs.Demand3.{Standing}
use Rattle.rooms.specs.declared.Firm.{Firm}
use Rattle.rooms.specs.declared.Firm.TheVariants.{First, Second}
use Rattle.racks.specs.declared.Flight.{Flight}

-- a flight's record and its strip's length, or none
abbrev pub Place : Type 0
Place = Option Flight

-- WHAT STANDS IN A PLACE: the first bytes of its 1,800, as many as its length says, and at most all of them

abbrev pub in_place : ℕ → ℕ
in_place n = cond (leb n 1800) n 1800

abbrev pub strip_in : Place → List ℕ → Option Standing
strip_in None bytes = None
strip_in (Some p) bytes = Some (record { strip = take (in_place p.length) bytes; held = p.held })

abbrev pub vacant : Place
vacant = None

abbrev pub held_at : List Place → ℕ → Place
held_at ps i = get_or ps i vacant

abbrev pub stands_in : List Place → List ℕ → ℕ → Option Standing
stands_in ps bytes i = strip_in (held_at ps i) (drop (1800 * i) bytes)

-- THE BOARD: ten slots from place 0 on for the first firm, ten from place 10 on for the second

abbrev pub rack_from : List Place → List ℕ → ℕ → ℕ → List (Option Standing)
rack_from ps bytes i zero = []
rack_from ps bytes i (suc n) = stands_in ps bytes i ∷ rack_from ps bytes (suc i) n

abbrev pub base : Firm → ℕ
base First = 0
base Second = 10

unfoldable pub rack_at : List Place → List ℕ → ℕ → List (Option Standing)
rack_at ps bytes i = rack_from ps bytes i 10

abbrev pub board_in : List Place → List ℕ → Firm → List (Option Standing)
board_in ps bytes f = rack_at ps bytes (base f)

-- places and bytes as the types give them
pub record Sized (ps : List Place) (bytes : List ℕ) : Type 0 where
  pub places : length ps ≡ 20
  pub room : length bytes ≡ 36000

-- A FIRM'S SLOT: its record and length as the places have them, and its strip; in a slot that is not 0 to 9 there is nothing

abbrev pub held_to : Firm → ℕ → List Place → Place
held_to f slot ps = cond (leb 10 slot) None (held_at ps (base f + slot))

abbrev pub shown_as : Option Standing → List ℕ
shown_as None = []
shown_as (Some s) = s.strip

abbrev pub shown_to : Firm → ℕ → List Place → List ℕ → List ℕ
shown_to f slot ps bytes = shown_as (get_or (board_in ps bytes f) slot None)

-- PUTTING A STRIP INTO A SLOT: it is written at the front of its place, and every other byte stays

abbrev pub part_of : List ℕ → ℕ → ℕ → List ℕ
part_of bytes i n = take (in_place n) (drop (1800 * i) bytes)

abbrev pub place_of : Standing → Place
place_of s = Some (record { held = s.held; length = length s.strip })

unfoldable pub written : ℕ → List ℕ → List ℕ → List ℕ
written i w bytes = take (1800 * i) bytes ++ front w (drop (1800 * i) bytes)

pub record Puts (f : Firm) (slot : ℕ) (s : Standing) (ps : List Place) (bytes : List ℕ) (qs : List Place) (after : List ℕ) : Type 0 where
  pub places_are : qs ≡ set ps (base f + slot) (place_of s)
  pub bytes_are : after ≡ written (base f + slot) s.strip bytes

-- EXAMPLES, computed: on an empty board nothing stands; a strip of three bytes in the second firm's slot 1, of a place that is too short for it
nothing_stands : board_in (replicate 20 vacant) [] Second ≡ replicate 10 None
unfolding rack_at
nothing_stands = refl

abbrev three_bytes : Flight
three_bytes = record { held = just_filed; length = 3 }

in_slot : (held_to Second 1 (set (replicate 20 vacant) 11 (Some three_bytes)) ≡ Some three_bytes)
    × (held_to First 1 (set (replicate 20 vacant) 11 (Some three_bytes)) ≡ None) × (held_to First 11 (replicate 20 vacant) ≡ None)
in_slot = (refl, refl, refl)

at_most_all : (in_place 1800 ≡ 1800) × (in_place 1801 ≡ 1800)
at_most_all = (refl, refl)
