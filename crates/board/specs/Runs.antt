-- Runs of calls on the board as the code holds it, each with a result that the call's contract allows; and that they go as the board of Rooms.antt
-- says. Assumes nothing.
use Rattle.std.specs.Prelude.{ℕ, ◌≡◌, List, [], ◌∷◌, map, length, replicate}
use Rattle.rooms.specs.declared.Firm.{Firm}
use Rattle.rooms.specs.Rooms.{Call, Board, empty}
use Rattle.rooms.specs.Keeper.{Entry, after_all, log_of}
use Rattle.racks.specs.Places.{Place, vacant, board_in, Sized}
use Rattle.board.specs.House.{house}
use Rattle.board.specs.Verdict.{Verdict}
use Rattle.board.specs.declared.Turn.{Turn}
use Rattle.board.specs.Turns.{told, Turned}

-- a run: each turn is handed what the one before left
pub data Plays : List Place → List ℕ → List (Call (List ℕ)) → List Verdict → List Place → List ℕ → Type 0 where
  done : {ps : List Place} {bytes : List ℕ} → Plays ps bytes [] [] ps bytes
  turn : {ps qs : List Place} {bytes mid end : List ℕ} {c : Call (List ℕ)} {cs : List (Call (List ℕ))} {vs : List Verdict} (t : Turn)
      → Turned c ps bytes t mid → Plays t.board.places mid cs vs qs end → Plays ps bytes (c ∷ cs) (t.verdict ∷ vs) qs end

-- the verdicts of a run on the board
abbrev pub verdicts : Board house → List (Call (List ℕ)) → List Verdict
verdicts b cs = map (λ (e : Entry house). told e.answer) (log_of house b cs)

-- THE CODE GOES BY THE BOARD: after any run that the contracts allow, what stands and what was answered are the definition's
pub record Goes (b : Board house) (cs : List (Call (List ℕ))) (vs : List Verdict) (qs : List Place) (end : List ℕ) : Type 0 where
  pub stands_as_lem : (f : Firm) → board_in qs end f ≡ after_all house b cs f
  pub answers_as : vs ≡ verdicts b cs
  pub sized : Sized qs end

abbrev pub Faithful : Type 0
Faithful = (bytes : List ℕ) → length bytes ≡ 36000 → (cs : List (Call (List ℕ))) (vs : List Verdict) (qs : List Place) (end : List ℕ)
    → Plays (replicate 20 vacant) bytes cs vs qs end → Goes (empty house) cs vs qs end
