-- RUNS: `runs_play` is the theorem to read: a run of calls on numbers is a run of the board's own calls, so all that is promised of the board holds of it;
-- what a call leaves can be handed in again. Assumes nothing.
use Prim.Native.Nat.{ℕ, zero, suc, ◌+◌, ◌≤◌}
use mathlib.Core.Path.{◌≡◌, refl, ap, subst, ◌∙◌}
use mathlib.Core.Bool.{Bool, true, false, cond}
use mathlib.Core.List.{List, [], ◌∷◌}
use native.Mathlib.Omega.{arith}
use lib.ListN.{length, get_or, set, replicate, length-set, length-take}
use Rattle.std.specs.Prelude.{Option, None, Some, Ok, Err}
use Rattle.kinds.specs.declared.MessageType.{MessageType}
use Rattle.message.specs.Answer.{Answer}
use Rattle.message.specs.Reading.{is_plan, spelling_of, answer_of}
use Rattle.message.proofs.Reached.{accepted_taken}
use Rattle.message.proofs.Plans.{plan_type}
use Rattle.strip.specs.Updating.{Updated as Update, update_of, out_after}
use Rattle.history.specs.Demand3.{Standing, filed_as as filed_strip}
use Rattle.history.proofs.Causes.{Took, Verdict, verdict, accepted_fits}
use Rattle.history.proofs.Demand3.{took_proper}
use Rattle.handed.proofs.Laws.{state_meant}
use Rattle.rooms.specs.declared.Firm.{Firm}
use Rattle.rooms.specs.Rooms.{firm_of, other, Act, Call, held_in, lowest, beyond, has_room, Rack, Said, filed_as, updated_as, offered_at, cleared_at, reply}
use Rattle.rooms.specs.Rooms.{said_to}
use Rattle.rooms.specs.Rooms.Outcome.{takes, refuses}
use Rattle.rooms.specs.Rooms.Act.{file, update, clear}
use Rattle.rooms.specs.Rooms.Reply.{filed, updated, cleared, refused, no_firm, no_slot, no_room, not_over}
use Rattle.racks.specs.Places.{Place, vacant, base, board_in, place_of}
use Rattle.board.specs.House.{filing_as, updating_as, lent, over_in, house}
use Rattle.board.specs.declared.Turn.{Turn}
use Rattle.board.specs.Turns.{told, placed, placed_by, lent_by, Turned}
use Rattle.board.specs.Runs.{Plays}
use Rattle.board.specs.Runs.Plays.{done as played, turn}
use Rattle.board_numbers.specs.Numbers.{board_numbers, board_of, is_board, nothing, empty_board}
use Rattle.board_numbers.specs.Calls.{verdict_numbers, not_board, said_on}
use Rattle.board_numbers.specs.Runs.{Storable, AllStorable, Runs, AsPlayed}
use Rattle.board_numbers.specs.Runs.Runs.{done, call}
use Rattle.board_numbers.proofs.Laws.{board_long, board_back, board_held}

-- WHAT AN ANSWER PUTS ON THE BOARD can be held as numbers

abbrev Stored : Said house → Type 0
Stored (filed k s) = Storable (place_of s)
Stored (updated k s) = Storable (place_of s)
Stored (cleared k) = Unit
Stored (refused w) = Unit
Stored no_firm = Unit
Stored no_slot = Unit
Stored no_room = Unit
Stored not_over = Unit

filing_stored : (k : ℕ) (m : List ℕ) (a : Answer) → answer_of m 1800 ≡ a → Stored (filed_as house (filing_as a m) k)
filing_stored k m (Err r) e = tt
filing_stored k m (Ok (t, n)) e = go (is_plan t) refl
  where
    go : (b : Bool) → is_plan t ≡ b → Stored (filed_as house (cond b (takes (filed_strip m)) (refuses (record { number = 14; field = 0; place = 0 }))) k)
    go true p = (refl, subst (λ (u : MessageType). length (spelling_of u m) ≤ 1800) (plan_type t p) (accepted_taken t m 1800 n e).fits)
    go false p = tt

updating_stored : (k : ℕ) (s : Standing) (m : List ℕ) (u : Update) → update_of s.strip s.held m 1800 ≡ u
    → Stored (updated_as house (updating_as u (out_after s.strip s.held m lent)) k)
updating_stored k s m (Err r) e = tt
updating_stored k s m (Ok (held, n)) e =
    let t : Took s.strip s.held m 1800 held n = subst (Verdict s.strip s.held m 1800) e (verdict s.strip s.held m 1800) in (
      state_meant held.state (took_proper s.strip s.held m 1800 held n t).held_sound,
      omega (arith, accepted_fits s.strip s.held m 1800 held n e, length-take n (out_after s.strip s.held m lent)),
    )

module _ (r : Rack house) (theirs : ℕ) where
  file_stored : (m : List ℕ) (b : Bool) → Stored (cond b (filed_as house (house.filing m) (lowest r)) no_room)
  file_stored m true = filing_stored (lowest r) m (answer_of m 1800) refl
  file_stored m false = tt

  update_stored : (k : ℕ) (m : List ℕ) (p : Option Standing) → Stored (offered_at house p k m)
  update_stored k m None = tt
  update_stored k m (Some s) = updating_stored k s m (update_of s.strip s.held m 1800) refl

  clear_stored : (k : ℕ) (p : Option Standing) → Stored (cleared_at house p k)
  clear_stored k None = tt
  clear_stored k (Some s) = go (over_in s.held.state)
    where
      go : (b : Bool) → Stored (cond b (cleared k) not_over)
      go true = tt
      go false = tt

  reply_stored : (a : Act (List ℕ)) → Stored (reply house r theirs a)
  reply_stored (file m) = file_stored m (has_room (held_in r) theirs)
  reply_stored (update k m) = update_stored k m (get_or r k None)
  reply_stored (clear k) = clear_stored k (get_or r k None)

-- ONE PLACE CHANGED

set_storable : (ps : List Place) (i : ℕ) (p : Place) → AllStorable ps → Storable p → AllStorable (set ps i p)
set_storable [] i p k s j = k j
set_storable (q ∷ ps) zero p k s zero = s
set_storable (q ∷ ps) zero p k s (suc j) = k (suc j)
set_storable (q ∷ ps) (suc i) p k s zero = k zero
set_storable (q ∷ ps) (suc i) p k s (suc j) = set_storable ps i p (λ n. k (suc n)) s j

module _ (f : Firm) (ps : List Place) where
  placed_storable : (x : Said house) → AllStorable ps → Stored x → AllStorable (placed f x ps)
  placed_storable (filed k s) a h = set_storable ps (base f + k) (place_of s) a h
  placed_storable (updated k s) a h = set_storable ps (base f + k) (place_of s) a h
  placed_storable (cleared k) a h = set_storable ps (base f + k) vacant a tt
  placed_storable (refused w) a h = a
  placed_storable no_firm a h = a
  placed_storable no_slot a h = a
  placed_storable no_room a h = a
  placed_storable not_over a h = a

  placed_long : (x : Said house) → length (placed f x ps) ≡ length ps
  placed_long (filed k s) = length-set ps (base f + k) (place_of s)
  placed_long (updated k s) = length-set ps (base f + k) (place_of s)
  placed_long (cleared k) = length-set ps (base f + k) vacant
  placed_long (refused w) = refl
  placed_long no_firm = refl
  placed_long no_slot = refl
  placed_long no_room = refl
  placed_long not_over = refl

-- ONE CALL on a board leaves a board

module _ (ps : List Place) (bytes : List ℕ) (a : Act (List ℕ)) (l : length ps ≡ 20) (s : AllStorable ps) where
  abbrev left : Option Firm → List Place
  left w = placed_by w (said_to house w (board_in ps bytes) a) ps

  left_back : (w : Option Firm) → (board_of (board_numbers (left w)) ≡ left w) × (is_board (board_numbers (left w)) ≡ true)
  left_back None = board_back ps l s
  left_back (Some f) =
      let x = reply house (board_in ps bytes f) (beyond (held_in (board_in ps bytes (other f)))) a in
      board_back (placed f x ps) (placed_long f ps x ∙ l)
      (placed_storable f ps x s (reply_stored (board_in ps bytes f) (beyond (held_in (board_in ps bytes (other f)))) a))

-- THE THEOREM
pub runs_play : {ns bytes last end : List ℕ} {cs : List (Call (List ℕ))} {answers : List (List ℕ)} → is_board ns ≡ true
    → Runs ns bytes cs answers last end → AsPlayed (board_of ns) bytes cs answers last end
runs_play b done = record { verdicts = []; answers_are = refl; still_board = b; plays = played }
runs_play {ns = ns} {bytes = bytes} {last = last} {end = end} b (call {after = after} {mid = mid} {c = c} {cs = cs} {rest = more} r answer k rest) =
    let ps = board_of ns in
    let w = firm_of c.by in
    let back = left_back ps bytes c.does (board_long ns) (board_held ns b) w in
    let v = told (said_on c ns bytes) in
    let after_is : after ≡ board_numbers (left ps bytes c.does (board_long ns) (board_held ns b) w)
    = k.numbers_are ∙ ap (λ (t : Bool). cond t (board_numbers (placed_by w (said_on c ns bytes) ps)) ns) b in
    let again = runs_play (ap is_board after_is ∙ back.1) rest in
    let t : Turn = record { board = record { places = placed_by w (said_on c ns bytes) ps }; verdict = v } in
    let turned : Turned c ps bytes t mid
    = record {
      verdict_is = refl;
      places_are = refl;
      bytes_are = k.bytes_are ∙ ap (λ (x : Bool). cond x (lent_by w (said_on c ns bytes) bytes) bytes) b;
    } in
    record {
      verdicts = v ∷ again.verdicts;
      answers_are =
          ap (λ (x : List ℕ). x ∷ more) (k.answer_is ∙ ap (λ (x : Bool). verdict_numbers (cond x v (not_board w))) b)
          ∙ ap (λ (xs : List (List ℕ)). verdict_numbers v ∷ xs) again.answers_are;
      still_board = again.still_board;
      plays =
          turn t turned
          (subst (λ (qs : List Place). Plays qs mid cs again.verdicts (board_of last) end) (ap board_of after_is ∙ back.0) again.plays);
    }

-- from the empty board, whatever bytes were lent
pub empty_runs : {bytes last end : List ℕ} {cs : List (Call (List ℕ))} {answers : List (List ℕ)} → Runs nothing bytes cs answers last end
    → AsPlayed (replicate 20 vacant) bytes cs answers last end
empty_runs {bytes = bytes} {last = last} {end = end} {cs = cs} {answers = answers} k =
    subst (λ (ps : List Place). AsPlayed ps bytes cs answers last end) empty_board.1 (runs_play empty_board.0 k)
