-- What each call does to the board as the code holds it: the verdict in document 02's numbers, every place and every byte. Assumes nothing.
use Rattle.std.specs.Prelude.{ℕ, ◌+◌, ◌≡◌, Bool, List, [], length, set, Option, None, Some, Ok, Err}
use Rattle.rooms.specs.declared.Firm.{Firm}
use Rattle.rooms.specs.Rooms.{firm_of, other, Act, Call, held_in, beyond, has_room, Said, reply, said}
use Rattle.rooms.specs.Rooms.Act.{file, update, clear}
use Rattle.rooms.specs.Rooms.Reply.{filed, updated, cleared, refused, no_firm, no_slot, no_room, not_over}
use Rattle.racks.specs.Places.{Place, vacant, base, board_in, held_to, shown_to, place_of, written}
use Rattle.board.specs.House.{house}
use Rattle.board.specs.Verdict.{Verdict, Looked}
use Rattle.board.specs.declared.Turn.{Turn}
use Rattle.outer.specs.Refusal.{refusal}
use Rattle.board.specs.declared.Done.TheVariants.{Cleared, Filed, Updated}

-- THE ROOM, from the places: the bytes play no part
abbrev pub room_for : Firm → List Place → Bool
room_for f ps = has_room (held_in (board_in ps [] f)) (beyond (held_in (board_in ps [] (other f))))

-- THE VERDICT, in document 02's numbers

abbrev pub told : Said house → Verdict
told (filed k s) = Ok (Filed k)
told (updated k s) = Ok (Updated s.held (length s.strip))
told (cleared k) = Ok Cleared
told (refused w) = Err w
told no_firm = Err (refusal 18 0 0)
told no_slot = Err (refusal 19 0 0)
told no_room = Err (refusal 20 0 0)
told not_over = Err (refusal 13 0 0)

-- THE PLACES AND THE BYTES AFTERWARDS: a strip is written at the front of its place; a clearing leaves every byte, a refusal everything

abbrev pub placed : Firm → Said house → List Place → List Place
placed f (filed k s) ps = set ps (base f + k) (place_of s)
placed f (updated k s) ps = set ps (base f + k) (place_of s)
placed f (cleared k) ps = set ps (base f + k) vacant
placed f (refused w) ps = ps
placed f no_firm ps = ps
placed f no_slot ps = ps
placed f no_room ps = ps
placed f not_over ps = ps

abbrev pub lent_after : Firm → Said house → List ℕ → List ℕ
lent_after f (filed k s) bytes = written (base f + k) s.strip bytes
lent_after f (updated k s) bytes = written (base f + k) s.strip bytes
lent_after f (cleared k) bytes = bytes
lent_after f (refused w) bytes = bytes
lent_after f no_firm bytes = bytes
lent_after f no_slot bytes = bytes
lent_after f no_room bytes = bytes
lent_after f not_over bytes = bytes

abbrev pub placed_by : Option Firm → Said house → List Place → List Place
placed_by None x ps = ps
placed_by (Some f) x ps = placed f x ps

abbrev pub lent_by : Option Firm → Said house → List ℕ → List ℕ
lent_by None x bytes = bytes
lent_by (Some f) x bytes = lent_after f x bytes

-- WHAT A TURN MUST DO: by a firm, and by whatever number a caller gives for one

abbrev pub said_of : Firm → Act (List ℕ) → List Place → List ℕ → Said house
said_of f a ps bytes = reply house (board_in ps bytes f) (beyond (held_in (board_in ps bytes (other f)))) a

pub record TurnOf (f : Firm) (a : Act (List ℕ)) (ps : List Place) (bytes : List ℕ) (t : Turn) (after : List ℕ) : Type 0 where
  pub verdict_is : t.verdict ≡ told (said_of f a ps bytes)
  pub places_are : t.board.places ≡ placed f (said_of f a ps bytes) ps
  pub bytes_are : after ≡ lent_after f (said_of f a ps bytes) bytes

pub record Turned (c : Call (List ℕ)) (ps : List Place) (bytes : List ℕ) (t : Turn) (after : List ℕ) : Type 0 where
  pub verdict_is : t.verdict ≡ told (said house (board_in ps bytes) c)
  pub places_are : t.board.places ≡ placed_by (firm_of c.by) (said house (board_in ps bytes) c) ps
  pub bytes_are : after ≡ lent_by (firm_of c.by) (said house (board_in ps bytes) c) bytes

abbrev pub filing : ℕ → List ℕ → Call (List ℕ)
filing firm m = record { by = firm; does = file m }

abbrev pub updating : ℕ → ℕ → List ℕ → Call (List ℕ)
updating firm slot m = record { by = firm; does = update slot m }

abbrev pub clearing : ℕ → ℕ → Call (List ℕ)
clearing firm slot = record { by = firm; does = clear slot }

abbrev pub Files : Firm → List ℕ → List Place → List ℕ → Turn → List ℕ → Type 0
Files f m ps bytes t after = TurnOf f (file m) ps bytes t after

abbrev pub Updates : Firm → ℕ → List ℕ → List Place → List ℕ → Turn → List ℕ → Type 0
Updates f slot m ps bytes t after = TurnOf f (update slot m) ps bytes t after

-- a clearing goes by no byte and leaves every one
abbrev pub Clears : Firm → ℕ → List Place → Turn → Type 0
Clears f slot ps t = (bytes : List ℕ) → TurnOf f (clear slot) ps bytes t bytes

abbrev pub Clearing : ℕ → ℕ → List Place → Turn → Type 0
Clearing firm slot ps t = (bytes : List ℕ) → Turned (clearing firm slot) ps bytes t bytes

-- THE LOOK at a slot: 18, 19, or the record of what stands there; and the strip itself

abbrev pub looked_as : Place → Looked
looked_as None = Err (refusal 19 0 0)
looked_as (Some p) = Ok p.held

abbrev pub looked_at : Firm → ℕ → List Place → Looked
looked_at f slot ps = looked_as (held_to f slot ps)

abbrev pub looked_to : Option Firm → ℕ → List Place → Looked
looked_to None slot ps = Err (refusal 18 0 0)
looked_to (Some f) slot ps = looked_at f slot ps

abbrev pub strip_to : Option Firm → ℕ → List Place → List ℕ → List ℕ
strip_to None slot ps bytes = []
strip_to (Some f) slot ps bytes = shown_to f slot ps bytes
