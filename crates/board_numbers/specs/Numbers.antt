-- A board as 200 plain numbers, ten for each of its 20 places, the first ten places the first firm's. Assumes nothing.
--     whether a strip stands there (1, or 0), the eight numbers of its state (handed: specs/States.antt), how many bytes it takes, at most 1,800
-- Of a place in which nothing stands all ten are 0.
use Rattle.std.specs.Prelude.{ℕ, zero, suc, ◌≡◌, refl, Bool, true, false, cond, None, Some, Result, Ok, Err, List, [], ◌∷◌, ◌++◌, eqb}
use Rattle.std.specs.Prelude.{drop, get_or, set, replicate}
use Rattle.text.specs.Words.{same}
use Rattle.state.specs.State.{just_filed}
use Rattle.handed.specs.States.{state_numbers, kept, state_of}
use Rattle.racks.specs.declared.Board.{Board}
use Rattle.racks.specs.Places.{Place, vacant, held_at}

-- THE NUMBERS OF A BOARD

abbrev pub held_numbers : Place → List ℕ
held_numbers None = 0 ∷ 0 ∷ 0 ∷ 0 ∷ 0 ∷ 0 ∷ 0 ∷ 0 ∷ 0 ∷ 0 ∷ []
held_numbers (Some p) = 1 ∷ (state_numbers p.held.state ++ (p.length ∷ []))

-- those of n places from place i on
abbrev pub rows_from : List Place → ℕ → ℕ → List ℕ
rows_from ps i zero = []
rows_from ps i (suc n) = held_numbers (held_at ps i) ++ rows_from ps (suc i) n

unfoldable pub board_numbers : List Place → List ℕ
board_numbers ps = rows_from ps 0 20

-- THE BOARD THAT NUMBERS MEAN: numbers that are not those of a board are no board

-- a length that a place has no room for is dropped, and so is not found again
unfoldable pub held_of : List ℕ → Place
held_of ns = cond (eqb (get_or ns 0 0) 0) None (Some (record { held = record { state = state_of (drop 1 ns) }; length = kept 1801 (get_or ns 9 0) }))

abbrev pub places_from : ℕ → List ℕ → List Place
places_from zero ns = []
places_from (suc n) ns = held_of ns ∷ places_from n (drop 10 ns)

unfoldable pub board_of : List ℕ → List Place
board_of ns = places_from 20 ns

unfoldable pub is_board : List ℕ → Bool
is_board ns = same (board_numbers (board_of ns)) ns

-- what is handed in, and whether it is a board
abbrev pub handed_as : List ℕ → Result Board Board
handed_as ns = cond (is_board ns) (Ok (record { places = board_of ns })) (Err (record { places = board_of ns }))

-- EXAMPLES, computed: the empty board, and one with a filed strip of 75 bytes in the second firm's slot 1

abbrev pub nothing : List ℕ
nothing = replicate 200 0

-- ten numbers in the place of those of place 11
abbrev with : List ℕ → List ℕ
with row = replicate 110 0 ++ (row ++ replicate 80 0)

pub empty_board : (is_board nothing ≡ true) × (board_of nothing ≡ replicate 20 vacant)
unfolding is_board board_of held_of board_numbers
empty_board = (refl, refl)

one_strip : (board_numbers (set (replicate 20 vacant) 11 (Some (record { held = just_filed; length = 75 })))
    ≡ with (1 ∷ 0 ∷ 0 ∷ 0 ∷ 0 ∷ 0 ∷ 0 ∷ 0 ∷ 0 ∷ 75 ∷ []))
    × (is_board (with (1 ∷ 0 ∷ 0 ∷ 0 ∷ 0 ∷ 0 ∷ 0 ∷ 0 ∷ 0 ∷ 75 ∷ [])) ≡ true)
    × (is_board (with (1 ∷ 0 ∷ 0 ∷ 0 ∷ 0 ∷ 0 ∷ 0 ∷ 0 ∷ 0 ∷ 1800 ∷ [])) ≡ true)
unfolding is_board board_of held_of board_numbers
one_strip = (refl, refl, refl)

-- no board: a length of 1,801; 2 for 'stands there'; a length or a state where nothing stands; a kind 4; a number too few, a number too many
no_board : (is_board (with (1 ∷ 0 ∷ 0 ∷ 0 ∷ 0 ∷ 0 ∷ 0 ∷ 0 ∷ 0 ∷ 1801 ∷ [])) ≡ false)
    × (is_board (with (2 ∷ 0 ∷ 0 ∷ 0 ∷ 0 ∷ 0 ∷ 0 ∷ 0 ∷ 0 ∷ 75 ∷ [])) ≡ false)
    × (is_board (with (0 ∷ 0 ∷ 0 ∷ 0 ∷ 0 ∷ 0 ∷ 0 ∷ 0 ∷ 0 ∷ 75 ∷ [])) ≡ false)
    × (is_board (with (0 ∷ 3 ∷ 0 ∷ 0 ∷ 0 ∷ 0 ∷ 0 ∷ 0 ∷ 0 ∷ 0 ∷ [])) ≡ false)
    × (is_board (with (1 ∷ 4 ∷ 0 ∷ 0 ∷ 0 ∷ 0 ∷ 0 ∷ 0 ∷ 0 ∷ 75 ∷ [])) ≡ false)
    × (is_board (replicate 199 0) ≡ false) × (is_board (replicate 201 0) ≡ false)
unfolding is_board board_of held_of board_numbers
no_board = (refl, refl, refl, refl, refl, refl, refl)
