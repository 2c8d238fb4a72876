-- The walk of the program `handlers` over its input and over its journal: how bytes become lines, and the board after each. Where there is a journal, an
-- accepted call that cannot be kept leaves the board as it was. Assumes nothing.
use Rattle.std.specs.Prelude.{ℕ, ◌≡◌, refl, Bool, true, false, ◌&&◌, cond, List, [], ◌∷◌, ◌++◌, Option, Some, None, length, drop, is_ok}
use Rattle.alphabet.specs.Text.{bytes}
use Rattle.rooms.specs.Rooms.{Board, empty, said, after, Call as OnBoard}
use Rattle.racks.specs.Places.{Place, board_in, Sized}
use Rattle.board.specs.House.{house}
use Rattle.board.specs.Verdict.{Verdict}
use Rattle.board.specs.Turns.{told, filing, updating, clearing}
use Rattle.calls.specs.declared.Call.{Call}
use Rattle.calls.specs.declared.Call.TheVariants.{File, Update, Clear}
use Rattle.calls.specs.declared.Ask.{Ask}
use Rattle.calls.specs.declared.Ask.TheVariants.{Calls, Look, List as Lists}
use Rattle.calls.specs.Lines.{asked}
use Rattle.journal.specs.declared.Journal.{Journal}
use Rattle.journal.specs.declared.Journal.TheVariants.{Nowhere, At}
use Rattle.journal.specs.Lines.{Waits, fresh, lines_from, waits_then}
use Rattle.handlers.specs.declared.Played.{Played}

-- THE CALL ON THE BOARD
abbrev pub call_of : Call → List ℕ → OnBoard (List ℕ)
call_of (File firm from) line = filing firm (drop from line)
call_of (Update firm slot from) line = updating firm slot (drop from line)
call_of (Clear firm slot) line = clearing firm slot

abbrev pub accepted_as : Verdict → Bool
accepted_as v = is_ok v

-- THE BOARD AFTER A LINE: what is no call on the board leaves it

abbrev pub after_ask : Option Ask → List ℕ → Board house → Board house
after_ask (Some (Calls c)) line b = after house b (call_of c line)
after_ask (Some (Look firm slot)) line b = b
after_ask (Some (Lists firm)) line b = b
after_ask None line b = b

abbrev pub after_line : Board house → List ℕ → Board house
after_line b line = after_ask (asked line) line b

-- A LINE THAT CAN STAND IN A JOURNAL: a call that is accepted

abbrev pub accepts_ask : Option Ask → List ℕ → Board house → Bool
accepts_ask (Some (Calls c)) line b = accepted_as (told (said house b (call_of c line)))
accepts_ask (Some (Look firm slot)) line b = false
accepts_ask (Some (Lists firm)) line b = false
accepts_ask None line b = false

abbrev pub accepts_line : Board house → List ℕ → Bool
accepts_line b line = accepts_ask (asked line) line b

abbrev pub accepts : Board house → Waits → Bool
accepts b w = cond w.over false (accepts_line b w.pending)

-- LINES, one after the other; one that is too long is no call

abbrev pub after_waits : Board house → Waits → Board house
after_waits b w = cond w.over b (after_line b w.pending)

abbrev pub after_lines : Board house → List Waits → Board house
after_lines b [] = b
after_lines b (w ∷ ws) = after_lines (after_waits b w) ws

-- each a call that is accepted, on the board as it then stands
abbrev pub all_accepted : Board house → List Waits → Bool
all_accepted b [] = true
all_accepted b (w ∷ ws) = accepts b w && all_accepted (after_waits b w) ws

-- THE WALK

abbrev pub keeps : Journal → Bool
keeps Nowhere = false
keeps (At file) = true

-- what was asked for is done; or, where there is a journal, it could not be kept and the board is as it was
pub data Kept (j : Bool) (b c d : Board house) : Type 0 where
  done : d ≡ c → Kept j b c d
  not_kept : j ≡ true → d ≡ b → Kept j b c d

-- a line that has ended: one that is too long is no call
pub data Ended (j : Bool) (b : Board house) (w : Waits) (c : Board house) : Type 0 where
  taken : w.over ≡ false → Kept j b (after_line b w.pending) c → Ended j b w c
  too_long : w.over ≡ true → c ≡ b → Ended j b w c

-- lines, in the order of their coming
pub data Served (j : Bool) (b : Board house) : List Waits → Board house → Type 0 where
  none_yet : Served j b [] b
  one_more_lem : {ws : List Waits} {c d : Board house} (w : Waits) → Served j b ws c → Ended j c w d → Served j b (ws ++ (w ∷ [])) d

-- ALL THAT IS READ. What a read gives no contract says; so there are bytes, those of all reads one behind the other, and the board is that after their lines

-- of standard input; where its last line has no end, one is put behind it
pub record ServedAll (j : Bool) (b c : Board house) : Type 0 where
  pub bytes : List ℕ
  pub served : Served j b (lines_from fresh bytes) c

-- of a journal, from the empty board; every line is a call that is accepted, and so many bytes have come of one more
pub record PlayedAll (c : Board house) (torn : ℕ) : Type 0 where
  pub bytes : List ℕ
  pub board_is : c ≡ after_lines (empty house) (lines_from fresh bytes)
  pub accepted : all_accepted (empty house) (lines_from fresh bytes) ≡ true
  pub torn_is : torn ≡ length (waits_then fresh bytes).pending

-- WHAT THE CODE MUST DO, from places and bytes to places and bytes

pub record Makes (j : Journal) (call : Call) (line : List ℕ) (ps : List Place) (lent : List ℕ) (qs : List Place) (left : List ℕ) : Type 0 where
  pub board_is : Kept (keeps j) (board_in ps lent) (after house (board_in ps lent) (call_of call line)) (board_in qs left)
  pub sized : Sized qs left

pub record Takes (j : Journal) (line : List ℕ) (ps : List Place) (lent : List ℕ) (qs : List Place) (left : List ℕ) : Type 0 where
  pub board_is : Kept (keeps j) (board_in ps lent) (after_line (board_in ps lent) line) (board_in qs left)
  pub sized : Sized qs left

pub record Ends (j : Journal) (w : Waits) (ps : List Place) (lent : List ℕ) (qs : List Place) (left : List ℕ) : Type 0 where
  pub board_is : Ended (keeps j) (board_in ps lent) w (board_in qs left)
  pub sized : Sized qs left

pub record Serves (j : Journal) (ps : List Place) (lent : List ℕ) (qs : List Place) (left : List ℕ) : Type 0 where
  pub served : ServedAll (keeps j) (board_in ps lent) (board_in qs left)
  pub sized : Sized qs left

-- a line of the journal, played again, and whether to go on
pub record TakesAgain (line : List ℕ) (ps : List Place) (lent : List ℕ) (r : Played) (left : List ℕ) : Type 0 where
  pub takes : Takes Nowhere line ps lent r.board.places left
  pub going_is : r.going ≡ accepts_line (board_in ps lent) line

pub record EndsAgain (w : Waits) (ps : List Place) (lent : List ℕ) (r : Played) (left : List ℕ) : Type 0 where
  pub ends : Ends Nowhere w ps lent r.board.places left
  pub going_is : r.going ≡ accepts (board_in ps lent) w

-- the journal, played again: where it goes on, all of it was read and played
pub record PlaysAgain (r : Played) (left : List ℕ) : Type 0 where
  pub played : r.going ≡ true → PlayedAll (board_in r.board.places left) r.torn
  pub sized : Sized r.board.places left

-- THE THEOREM: without a journal the board after lines is that which the definition gives
abbrev pub ByLines : Type 0
ByLines = (b : Board house) (ws : List Waits) (c : Board house) → Served false b ws c → c ≡ after_lines b ws

-- EXAMPLE, computed
message_there : call_of (File 1 7) (bytes "1 FILE (FPL-A B)") ≡ filing 1 (bytes "(FPL-A B)")
message_there = refl
