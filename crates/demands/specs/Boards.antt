-- One board for two handlers (document 02, request 6): all that was asked of it, `OneBoard`, with a part for each sentence. The board is that of the
-- crate rooms with the strip's own rules (board: specs/House.antt), and a run is any list of calls from the empty board. Assumes nothing.
use Rattle.std.specs.Prelude.{ℕ, ◌≡◌, List, None, Some}
use Rattle.rooms.specs.declared.Firm.{Firm}
use Rattle.rooms.specs.Rooms.{firm_of, Act, Call, Board, Said, empty, stands, said, offered_at, cleared_at}
use Rattle.rooms.specs.Rooms.Act.{file, update, clear}
use Rattle.rooms.specs.Rooms.Reply.{no_firm}
use Rattle.rooms.specs.Keeper.{Entry, keeper, after_all, log_of, view}
use Rattle.rooms.specs.Demands.{Counted, Files, Agree, journal_by}
use Rattle.board.specs.House.{house}
use Rattle.board.specs.Runs.{Faithful}
use Rattle.board.specs.Demands.{EachStrip, FilingNever, UpdatingNever, HandlersApart}

abbrev Calls : Type 0
Calls = List (Call (List ℕ))

-- the board after a run, and the run's log: each call with its answer
abbrev after : Calls → Board house
after cs = after_all house (empty house) cs

abbrev log : Calls → List (Entry house)
log cs = log_of house (empty house) cs

-- what a call by the number n is answered then
abbrev answer : Calls → ℕ → Act (List ℕ) → Said house
answer cs n a = said house (after cs) (record { by = n; does = a })

-- the accepted calls of a run alone, in their order
abbrev accepted : Calls → Calls
accepted cs = journal_by house (keeper house) (empty house) cs

pub record OneBoard : Type 0 where
  -- THE ROOM. Strips held, what is unused of each firm's 6 and what is unused of the 4, each counted from the filings and clearings that were accepted,
  -- make 16 after every run; and as many strips stand in each firm's slots as it holds by these counts
  pub counted : (cs : Calls) → Counted house (after cs) (log cs)
  -- FILING. 20 exactly when the firm holds 6 or more and none of the 4 is free; otherwise reading decides, and a plan gets the lowest empty slot
  pub files : (cs : Calls) (n : ℕ) (f : Firm) → firm_of n ≡ Some f → (m : List ℕ) → Files house f (after cs) (log cs) m (answer cs n (file m))
  -- ITS OWN STRIPS ALONE, by slots that are the firm's own: 19 where nothing stands there; otherwise the strip's own rules decide of an update, and a
  -- strip that has arrived or was cancelled is cleared, while any other gets 13
  pub updates : (cs : Calls) (n : ℕ) (f : Firm) → firm_of n ≡ Some f → (k : ℕ) (m : List ℕ)
      → answer cs n (update k m) ≡ offered_at house (stands house (after cs) f k) k m
  pub clears : (cs : Calls) (n : ℕ) (f : Firm) → firm_of n ≡ Some f → (k : ℕ) → answer cs n (clear k) ≡ cleared_at house (stands house (after cs) f k) k
  -- 18 to whoever is not 1 or 2, whatever is asked
  pub strangers : (cs : Calls) (n : ℕ) → firm_of n ≡ None → (a : Act (List ℕ)) → answer cs n a ≡ no_firm
  -- ONE FIRM AND THE OTHER. What a firm is answered goes by its own calls and, with its filings alone, by how many of the 4 the other holds then: in two
  -- runs in which these are the same (`view`), all its answers are the same and so are its strips
  pub apart : (f : Firm) (cs ds : Calls) → view house f (empty house) cs ≡ view house f (empty house) ds → Agree house (keeper house) f cs ds
  -- THE THIRD DEMAND holds of each strip from its filing to its clearing: what stands in a slot was filed there as an accepted FPL, and is what demand 3
  -- makes of it with the messages offered to it since
  pub each : EachStrip
  -- NEVER: a place has room for every strip, and what stands there is as the rules left it, so a filing never gets 11, and an update neither 11 nor 15
  pub files_never : FilingNever
  pub updates_never : UpdatingNever
  -- PLAYED AGAIN: the accepted calls of a run alone lead to the same board
  pub again : (cs : Calls) (f : Firm) → after (accepted cs) f ≡ after cs f
  -- THE CODE. In every run that the contracts of `board::file`, `update` and `clear` allow, each call handed what the one before left, from the empty
  -- board and any 36,000 bytes, the verdicts are these answers and what stands in the lent bytes is this board; so the two firms are apart there too
  pub by_code : Faithful
  pub apart_in_code : HandlersApart
