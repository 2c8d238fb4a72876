-- Calls on a board that is handed in as numbers, with its strips: what each is answered, and every number and byte afterwards. Assumes nothing.
use Rattle.std.specs.Prelude.{ℕ, ◌+◌, ◌*◌, ◌≡◌, refl, cond, List, [], ◌∷◌, ◌++◌, leb, length, Option, None, Some, Ok, Err}
use Rattle.state.specs.State.{just_filed}
use Rattle.handed.specs.States.{state_numbers}
use Rattle.rooms.specs.declared.Firm.{Firm}
use Rattle.rooms.specs.declared.Firm.TheVariants.{First, Second}
use Rattle.rooms.specs.Rooms.{firm_of, Call, Said, said}
use Rattle.racks.specs.Places.{base, board_in}
use Rattle.board.specs.House.{house}
use Rattle.board.specs.Verdict.{Verdict, Looked}
use Rattle.board.specs.Turns.{told, placed_by, lent_by, clearing, looked_to, strip_to}
use Rattle.board_numbers.specs.Numbers.{board_numbers, board_of, is_board}
use Rattle.outer.specs.Refusal.{refusal}
use Rattle.board.specs.declared.Done.TheVariants.{Cleared, Filed, Updated}

-- AN ANSWER AS NUMBERS: number, field, place, slot. What is accepted has the number 0; the slot is the one that a filing got

abbrev pub verdict_number : Verdict → ℕ
verdict_number (Ok (Filed k)) = 0
verdict_number (Ok (Updated held n)) = 0
verdict_number (Ok Cleared) = 0
verdict_number (Err r) = r.number

abbrev pub verdict_numbers : Verdict → List ℕ
verdict_numbers (Ok (Filed k)) = 0 ∷ 0 ∷ 0 ∷ k ∷ []
verdict_numbers (Ok (Updated held n)) = 0 ∷ 0 ∷ 0 ∷ 0 ∷ []
verdict_numbers (Ok Cleared) = 0 ∷ 0 ∷ 0 ∷ 0 ∷ []
verdict_numbers (Err r) = r.number ∷ r.field ∷ r.place ∷ 0 ∷ []

-- A CALL. 18 comes first, as document 02 has it; then 15, where the numbers are no board's, for without a board there is neither a slot nor room; and then
-- what the board answers. No board: nothing is changed

abbrev pub not_board : Option Firm → Verdict
not_board None = Err (refusal 18 0 0)
not_board (Some f) = Err (refusal 15 0 0)

abbrev pub said_on : Call (List ℕ) → List ℕ → List ℕ → Said house
said_on c ns bytes = said house (board_in (board_of ns) bytes) c

abbrev pub verdict_of : Call (List ℕ) → List ℕ → List ℕ → Verdict
verdict_of c ns bytes = cond (is_board ns) (told (said_on c ns bytes)) (not_board (firm_of c.by))

abbrev pub numbers_after : Call (List ℕ) → List ℕ → List ℕ → List ℕ
numbers_after c ns bytes = cond (is_board ns) (board_numbers (placed_by (firm_of c.by) (said_on c ns bytes) (board_of ns))) ns

abbrev pub bytes_after : Call (List ℕ) → List ℕ → List ℕ → List ℕ
bytes_after c ns bytes = cond (is_board ns) (lent_by (firm_of c.by) (said_on c ns bytes) bytes) bytes

-- what a call must give back and leave: its number, the answer's numbers, the board's numbers and the strips
pub record Called (c : Call (List ℕ)) (ns bytes : List ℕ) (r : ℕ) (answer after end : List ℕ) : Type 0 where
  pub number_is : r ≡ verdict_number (verdict_of c ns bytes)
  pub answer_is : answer ≡ verdict_numbers (verdict_of c ns bytes)
  pub numbers_are : after ≡ numbers_after c ns bytes
  pub bytes_are : end ≡ bytes_after c ns bytes

-- a clearing goes by no byte and leaves every one
abbrev pub Clears : ℕ → ℕ → List ℕ → ℕ → List ℕ → List ℕ → Type 0
Clears firm slot ns r answer after = (bytes : List ℕ) → Called (clearing firm slot) ns bytes r answer after bytes

-- THE LOOK at a slot: number, field, place, the eight numbers of the state, the strip's first byte in the strips, and its length

abbrev pub look_number : Looked → ℕ
look_number (Ok held) = 0
look_number (Err r) = r.number

abbrev pub look_numbers : Looked → ℕ → ℕ → List ℕ
look_numbers (Ok held) from long = 0 ∷ (0 ∷ (0 ∷ (state_numbers held.state ++ (from ∷ long ∷ []))))
look_numbers (Err r) from long = r.number ∷ r.field ∷ r.place ∷ 0 ∷ 0 ∷ 0 ∷ 0 ∷ 0 ∷ 0 ∷ 0 ∷ 0 ∷ 0 ∷ 0 ∷ []

abbrev pub not_board_look : Option Firm → Looked
not_board_look None = Err (refusal 18 0 0)
not_board_look (Some f) = Err (refusal 15 0 0)

abbrev pub look_of : ℕ → ℕ → List ℕ → Looked
look_of firm slot ns = cond (is_board ns) (looked_to (firm_of firm) slot (board_of ns)) (not_board_look (firm_of firm))

-- where a slot's place begins in the strips
abbrev pub start_of : Option Firm → ℕ → ℕ
start_of None slot = 0
start_of (Some f) slot = cond (leb 10 slot) 0 (1800 * (base f + slot))

pub record Looks (firm slot : ℕ) (ns bytes : List ℕ) (r : ℕ) (answer : List ℕ) : Type 0 where
  pub number_is : r ≡ look_number (look_of firm slot ns)
  pub answer_is : answer
      ≡ look_numbers (look_of firm slot ns) (start_of (firm_of firm) slot) (length (strip_to (firm_of firm) slot (board_of ns) bytes))

-- EXAMPLES, computed: a filing that got slot 3, a refusal; the second firm's slot 1, and its filed strip of 75 bytes
told_so : (verdict_numbers (Ok (Filed 3)) ≡ 0 ∷ 0 ∷ 0 ∷ 3 ∷ []) × (verdict_numbers (Err (refusal 7 13 16)) ≡ 7 ∷ 13 ∷ 16 ∷ 0 ∷ [])
told_so = (refl, refl)

shown_so : (start_of (Some Second) 1 ≡ 19800) × (start_of (Some First) 0 ≡ 0) × (start_of (Some First) 10 ≡ 0)
    × (look_numbers (Ok just_filed) 19800 75 ≡ 0 ∷ 0 ∷ 0 ∷ 0 ∷ 0 ∷ 0 ∷ 0 ∷ 0 ∷ 0 ∷ 0 ∷ 0 ∷ 19800 ∷ 75 ∷ [])
    × (look_numbers (Err (refusal 19 0 0)) 19800 75 ≡ 19 ∷ 0 ∷ 0 ∷ 0 ∷ 0 ∷ 0 ∷ 0 ∷ 0 ∷ 0 ∷ 0 ∷ 0 ∷ 0 ∷ 0 ∷ [])
shown_so = (refl, refl, refl, refl, refl)
