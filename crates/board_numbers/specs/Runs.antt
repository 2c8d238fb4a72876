-- What numbers can hold of a board, what is accepted, and runs of calls on numbers (proofs/Laws.antt, Zero.antt, Runs.antt). Assumes nothing.
use Rattle.std.specs.Prelude.{ℕ, ◌≤◌, ◌≡◌, Bool, true, false, None, Some, List, [], ◌∷◌, map, Ok, Err}
use Rattle.handed.specs.States.{state_numbers, state_of}
use Rattle.rooms.specs.Rooms.{Call}
use Rattle.racks.specs.Places.{Place, held_at}
use Rattle.board.specs.Verdict.{Verdict, Looked}
use Rattle.board.specs.Runs.{Plays}
use Rattle.board_numbers.specs.Numbers.{board_of, is_board}
use Rattle.board_numbers.specs.Calls.{verdict_numbers, Called}
use Rattle.board.specs.declared.Done.TheVariants.{Cleared, Filed, Updated}

-- a state that is found again from its numbers, as every sound one is, and a length that a place has room for
abbrev pub Storable : Place → Type 0
Storable None = Unit
Storable (Some p) = (state_of (state_numbers p.held.state) ≡ p.held.state) × (p.length ≤ 1800)

abbrev pub AllStorable : List Place → Type 0
AllStorable ps = (i : ℕ) → Storable (held_at ps i)

-- whether a call was accepted, and whether a look shows a strip
abbrev pub was_done : Verdict → Bool
was_done (Ok (Filed k)) = true
was_done (Ok (Updated held n)) = true
was_done (Ok Cleared) = true
was_done (Err r) = false

abbrev pub was_shown : Looked → Bool
was_shown (Ok held) = true
was_shown (Err r) = false

-- A RUN of calls on numbers, each with a result that its contract allows, and each handed the numbers and the bytes that the one before left
pub data Runs : List ℕ → List ℕ → List (Call (List ℕ)) → List (List ℕ) → List ℕ → List ℕ → Type 0 where
  done : {ns bytes : List ℕ} → Runs ns bytes [] [] ns bytes
  call : {ns bytes after mid last end : List ℕ} {c : Call (List ℕ)} {cs : List (Call (List ℕ))} {rest : List (List ℕ)} (r : ℕ) (answer : List ℕ)
      → Called c ns bytes r answer after mid → Runs after mid cs rest last end → Runs ns bytes (c ∷ cs) (answer ∷ rest) last end

-- it is a run of the board's own calls: the answers are the numbers of its verdicts, and the numbers afterwards are a board's, the one that it left
pub record AsPlayed (ps : List Place) (bytes : List ℕ) (cs : List (Call (List ℕ))) (answers : List (List ℕ)) (last end : List ℕ) : Type 0 where
  pub verdicts : List Verdict
  pub answers_are : answers ≡ map verdict_numbers verdicts
  pub still_board : is_board last ≡ true
  pub plays : Plays ps bytes cs verdicts (board_of last) end
