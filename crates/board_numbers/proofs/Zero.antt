-- 0 IS GIVEN BACK EXACTLY WHERE A CALL IS ACCEPTED, for every refusal has a number: `call_zero` and `look_zero` are the theorems to read. Assumes nothing.
use Prim.Native.Nat.{ℕ, ◌≤◌}
use mathlib.Core.Path.{◌≡◌, refl}
use mathlib.Core.Bool.{Bool, true, false, cond}
use mathlib.Core.List.{List}
use native.Mathlib.Omega.{arith}
use lib.Dec.{eqb}
use lib.ListN.{get_or}
use borrow.Author.Tests.{ne_eqb}
use Rattle.std.specs.Prelude.{Option, None, Some, Ok, Err}
use Rattle.message.specs.Answer.{Answer}
use Rattle.message.specs.Reading.{is_plan, answer_of}
use Rattle.message.proofs.Answers.{refused-number}
use Rattle.state.specs.declared.Strip.{Strip}
use Rattle.strip.specs.Updating.{Updated as Update, update_of, out_after}
use Rattle.history.specs.Demand3.{Standing, filed_as as filed_strip, Cause}
use Rattle.history.specs.Demand3.Cause.{not_proper, not_read, not_fit, no_type, another_flight, not_allowed, unexplained, too_long, no_room_lem}
use Rattle.history.proofs.Causes.{refused_cause}
use Rattle.rooms.specs.declared.Firm.{Firm}
use Rattle.rooms.specs.Rooms.{firm_of, other, Act, Call, held_in, lowest, beyond, has_room, Rack, filed_as, updated_as, offered_at, cleared_at, reply, said_to}
use Rattle.rooms.specs.Rooms.Outcome.{takes, refuses}
use Rattle.rooms.specs.Rooms.Act.{file, update, clear}
use Rattle.rooms.specs.Rooms.Reply.{cleared, no_room, not_over}
use Rattle.racks.specs.Places.{Place, board_in, held_to}
use Rattle.board.specs.House.{filing_as, updating_as, lent, over_in, house}
use Rattle.board.specs.Verdict.{Verdict, Looked}
use Rattle.board.specs.Turns.{told, looked_as, looked_to}
use Rattle.board_numbers.specs.Numbers.{board_of, is_board}
use Rattle.board_numbers.specs.Calls.{verdict_number, not_board, said_on, verdict_of, look_number, not_board_look, look_of}
use Rattle.board_numbers.specs.Runs.{was_done, was_shown}
use Rattle.outer.specs.Refusal.{refusal}
use Rattle.board.specs.declared.Done.TheVariants.{Cleared, Filed, Updated}

-- AN UPDATE

caused : (strip : List ℕ) (s : Strip) (m : List ℕ) (room number field place : ℕ) → Cause strip s m room number field place → 1 ≤ number
caused strip s m room number field place (not_proper h) = omega arith
caused strip s m room number field place (not_read p q l) = (refused-number m 1800 number field place q).0
caused strip s m room number field place (not_fit p q) = omega arith
caused strip s m room number field place (no_type p q e) = omega arith
caused strip s m room number field place (another_flight p q e h) = omega arith
caused strip s m room number field place (not_allowed p q e h a) = omega arith
caused strip s m room number field place (unexplained k u) = omega arith
caused strip s m room number field place (too_long k u l) = omega arith
caused strip s m room number field place (no_room_lem k u l h) = omega arith

pub refused_numbered : (strip : List ℕ) (held : Strip) (m : List ℕ) (room number field place : ℕ)
    → update_of strip held m room ≡ Err (refusal number field place) → 1 ≤ number
refused_numbered strip held m room number field place e =
    caused strip held m room number field place (refused_cause strip held m room number field place e)

-- A CALL

abbrev Numbered : Verdict → Type 0
Numbered (Ok (Filed k)) = Unit
Numbered (Ok (Updated held n)) = Unit
Numbered (Ok Cleared) = Unit
Numbered (Err r) = 1 ≤ r.number

filing_numbered : (k : ℕ) (m : List ℕ) (a : Answer) → answer_of m 1800 ≡ a → Numbered (told (filed_as house (filing_as a m) k))
filing_numbered k m (Err r) e = (refused-number m 1800 r.number r.field r.place e).0
filing_numbered k m (Ok (t, n)) e = go (is_plan t)
  where
    go : (b : Bool) → Numbered (told (filed_as house (cond b (takes (filed_strip m)) (refuses (record { number = 14; field = 0; place = 0 }))) k))
    go true = tt
    go false = omega arith

updating_numbered : (k : ℕ) (s : Standing) (m : List ℕ) (u : Update) → update_of s.strip s.held m 1800 ≡ u
    → Numbered (told (updated_as house (updating_as u (out_after s.strip s.held m lent)) k))
updating_numbered k s m (Err r) e = refused_numbered s.strip s.held m 1800 r.number r.field r.place e
updating_numbered k s m (Ok (held, n)) e = tt

module _ (r : Rack house) (theirs : ℕ) where
  file_numbered : (m : List ℕ) (b : Bool) → Numbered (told (cond b (filed_as house (house.filing m) (lowest r)) no_room))
  file_numbered m true = filing_numbered (lowest r) m (answer_of m 1800) refl
  file_numbered m false = omega arith

  update_numbered : (k : ℕ) (m : List ℕ) (p : Option Standing) → Numbered (told (offered_at house p k m))
  update_numbered k m None = omega arith
  update_numbered k m (Some s) = updating_numbered k s m (update_of s.strip s.held m 1800) refl

  clear_numbered : (k : ℕ) (p : Option Standing) → Numbered (told (cleared_at house p k))
  clear_numbered k None = omega arith
  clear_numbered k (Some s) = go (over_in s.held.state)
    where
      go : (b : Bool) → Numbered (told (cond b (cleared k) not_over))
      go true = tt
      go false = omega arith

  reply_numbered : (a : Act (List ℕ)) → Numbered (told (reply house r theirs a))
  reply_numbered (file m) = file_numbered m (has_room (held_in r) theirs)
  reply_numbered (update k m) = update_numbered k m (get_or r k None)
  reply_numbered (clear k) = clear_numbered k (get_or r k None)

said_numbered : (c : Call (List ℕ)) (ns bytes : List ℕ) (w : Option Firm) → Numbered (told (said_to house w (board_in (board_of ns) bytes) c.does))
said_numbered c ns bytes None = omega arith
said_numbered c ns bytes (Some f) =
    reply_numbered (board_in (board_of ns) bytes f) (beyond (held_in (board_in (board_of ns) bytes (other f)))) c.does

none_numbered : (w : Option Firm) → Numbered (not_board w)
none_numbered None = omega arith
none_numbered (Some f) = omega arith

call_numbered : (c : Call (List ℕ)) (ns bytes : List ℕ) (b : Bool) → Numbered (cond b (told (said_on c ns bytes)) (not_board (firm_of c.by)))
call_numbered c ns bytes true = said_numbered c ns bytes (firm_of c.by)
call_numbered c ns bytes false = none_numbered (firm_of c.by)

pub call_zero : (c : Call (List ℕ)) (ns bytes : List ℕ) → eqb (verdict_number (verdict_of c ns bytes)) 0 ≡ was_done (verdict_of c ns bytes)
call_zero c ns bytes = go (verdict_of c ns bytes) (call_numbered c ns bytes (is_board ns))
  where
    go : (v : Verdict) → Numbered v → eqb (verdict_number v) 0 ≡ was_done v
    go (Ok (Filed k)) h = refl
    go (Ok (Updated held n)) h = refl
    go (Ok Cleared) h = refl
    go (Err r) h = ne_eqb r.number 0 (λ z. absurd (omega (arith, h, z)))

-- A LOOK

abbrev Told : Looked → Type 0
Told (Ok held) = Unit
Told (Err r) = 1 ≤ r.number

held_told : (h : Place) → Told (looked_as h)
held_told None = omega arith
held_told (Some p) = tt

looked_told : (w : Option Firm) (slot : ℕ) (ns : List ℕ) → Told (looked_to w slot (board_of ns))
looked_told None slot ns = omega arith
looked_told (Some f) slot ns = held_told (held_to f slot (board_of ns))

none_told : (w : Option Firm) → Told (not_board_look w)
none_told None = omega arith
none_told (Some f) = omega arith

look_told : (w : Option Firm) (slot : ℕ) (ns : List ℕ) (b : Bool) → Told (cond b (looked_to w slot (board_of ns)) (not_board_look w))
look_told w slot ns true = looked_told w slot ns
look_told w slot ns false = none_told w

pub look_zero : (firm slot : ℕ) (ns : List ℕ) → eqb (look_number (look_of firm slot ns)) 0 ≡ was_shown (look_of firm slot ns)
look_zero firm slot ns = go (look_of firm slot ns) (look_told (firm_of firm) slot ns (is_board ns))
  where
    go : (l : Looked) → Told l → eqb (look_number l) 0 ≡ was_shown l
    go (Ok held) h = refl
    go (Err r) h = ne_eqb r.number 0 (λ z. absurd (omega (arith, h, z)))
