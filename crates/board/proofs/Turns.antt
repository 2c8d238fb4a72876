-- What the code's ways out come to: one law for each. Assumes nothing.
use Prim.Native.Nat.{ℕ, ◌+◌, ◌≤◌, ◌<◌}
use mathlib.Core.Path.{◌≡◌, refl, sym, ap, ap₂, subst, ◌∙◌}
use mathlib.Core.Bool.{Bool, true, false, cond}
use mathlib.Core.List.{List, []}
use native.Mathlib.Omega.{arith}
use lib.ListN.{length, take, drop, get_or, set}
use lib.Seq.{take_at, length-take-le}
use Rattle.std.specs.Prelude.{Option, None, Some, Ok, Err}
use Rattle.text.specs.Lent.{front}
use Rattle.kinds.specs.declared.MessageType.{MessageType}
use Rattle.kinds.specs.declared.MessageType.TheVariants.{Fpl}
use Rattle.message.specs.Answer.{Answer}
use Rattle.message.specs.Reading.{is_plan, spelling_of, answer_of, written_as, out_after}
use Rattle.message.proofs.Reached.{accepted_taken}
use Rattle.message.proofs.Plans.{plan_type}
use Rattle.state.specs.declared.Strip.{Strip}
use Rattle.strip.specs.Updating.{Updated as Update, update_of, out_after as new_after}
use Rattle.history.specs.Demand3.{Standing, filed_as as filed_strip}
use Rattle.history.proofs.Causes.{accepted_fits}
use Rattle.rooms.specs.declared.Firm.{Firm}
use Rattle.rooms.specs.Rooms.{Outcome, firm_of, other, Act, Call, held_in, lowest, beyond, has_room, Said, filed_as, updated_as, offered_at, cleared_at}
use Rattle.rooms.specs.Rooms.{said_to}
use Rattle.rooms.specs.Rooms.Outcome.{takes, refuses}
use Rattle.rooms.specs.Rooms.Act.{file, update, clear}
use Rattle.rooms.specs.Rooms.Reply.{filed, updated, cleared, refused, no_slot, no_room, not_over}
use Rattle.rooms.proofs.Racks.{lowest_inside, room_below}
use Rattle.racks.specs.declared.Flight.{Flight}
use Rattle.racks.specs.declared.Board.{Board}
use Rattle.racks.specs.Places.{Place, strip_in, vacant, base, board_in, held_to, shown_as, shown_to, Puts}
use Rattle.racks.proofs.Racks.{board_length, board_held, board_lowest}
use Rattle.racks.proofs.Slots.{there, slot_held}
use Rattle.board.specs.House.{filing_as, updating_as, lent, over_in, house}
use Rattle.board.specs.Verdict.{Verdict}
use Rattle.board.specs.declared.Turn.{Turn}
use Rattle.board.specs.Turns.{room_for, told, placed, lent_after, placed_by, lent_by, said_of, TurnOf, Turned}
use Rattle.outer.specs.declared.Refusal.{Refusal}
use Rattle.outer.specs.Refusal.{refusal}
use Rattle.board.specs.declared.Done.TheVariants.{Cleared, Filed, Updated}

-- A TURN whose answer is known

turned : (f : Firm) (a : Act (List ℕ)) (ps : List Place) (bytes : List ℕ) (t : Turn) (after : List ℕ) (x : Said house) → said_of f a ps bytes ≡ x
    → t.verdict ≡ told x → t.board.places ≡ placed f x ps → after ≡ lent_after f x bytes → TurnOf f a ps bytes t after
turned f a ps bytes t after x e v p w =
    record {
      verdict_is = v ∙ sym (ap told e);
      places_are = p ∙ sym (ap (λ (y : Said house). placed f y ps) e);
      bytes_are = w ∙ sym (ap (λ (y : Said house). lent_after f y bytes) e);
    }

-- the board is as it was, with a refusal
abbrev pub refused_turn : Board → Refusal → Turn
refused_turn b r = record { board = b; verdict = Err r }

-- FILING

-- the room, as the code asks for it
pub room_is : (f g : Firm) (ps : List Place) (theirs used held : ℕ) → g ≡ other f → theirs ≡ held_in (board_in ps [] g) → used ≡ beyond theirs
    → held ≡ held_in (board_in ps [] f) → has_room held used ≡ room_for f ps
room_is f g ps theirs used held e1 e2 e3 e4 =
    let t : used ≡ beyond (held_in (board_in ps [] (other f))) = e3 ∙ ap beyond (e2 ∙ ap (λ (x : Firm). held_in (board_in ps [] x)) e1) in
    ap₂ has_room e4 t

-- with room there is an empty slot
pub low_below : (f : Firm) (ps : List Place) → room_for f ps ≡ true → lowest (board_in ps [] f) < 10
low_below f ps e =
    omega (arith, lowest_inside (board_in ps [] f) (omega (arith, board_length ps [] f, room_below (held_in (board_in ps [] f)) _ e)), board_length ps [] f)

module _ (f : Firm) (b : Board) (bytes m : List ℕ) where
  abbrev low : ℕ
  low = lowest (board_in b.places bytes f)

  room_said : (h : Bool) → room_for f b.places ≡ h → said_of f (file m) b.places bytes ≡ cond h (filed_as house (house.filing m) low) no_room
  room_said h e =
      rw (sym (board_held b.places bytes f), sym (board_held b.places bytes (other f)), e)

  pub file_full : (t : Turn) → t ≡ refused_turn b (refusal 20 0 0) → room_for f b.places ≡ false → TurnOf f (file m) b.places bytes t bytes
  file_full t r e =
      turned f (file m) b.places bytes t bytes no_room (room_said false e) (ap (λ (u : Turn). u.verdict) r) (ap (λ (u : Turn). u.board.places) r) refl

  module _ (room : room_for f b.places ≡ true) where
    -- what reading the message gave
    read_said : (a : Answer) → answer_of m 1800 ≡ a → said_of f (file m) b.places bytes ≡ filed_as house (filing_as a m) low
    read_said a q = room_said true room ∙ ap (λ (x : Answer). filed_as house (filing_as x m) low) q

    pub file_unread : (t : Turn) (why : Refusal) → t ≡ refused_turn b why → answer_of m 1800 ≡ Err why → TurnOf f (file m) b.places bytes t bytes
    file_unread t why r q =
        turned f (file m) b.places bytes t bytes (refused why)
        (read_said (Err why) q) (ap (λ (u : Turn). u.verdict) r) (ap (λ (u : Turn). u.board.places) r) refl

    module _ (t : Turn) (u : MessageType) (n : ℕ) (q : answer_of m 1800 ≡ Ok (u, n)) where
      plan_said : (p : Bool) → is_plan u ≡ p
          → said_of f (file m) b.places bytes ≡ filed_as house (cond p (takes (filed_strip m)) (refuses (refusal 14 0 0))) low
      plan_said p h = read_said (Ok (u, n)) q ∙ rw h

      pub file_unfit : t ≡ refused_turn b (refusal 14 0 0) → is_plan u ≡ false → TurnOf f (file m) b.places bytes t bytes
      file_unfit r h =
          turned f (file m) b.places bytes t bytes (refused (refusal 14 0 0)) (plan_said false h)
          (ap (λ (v : Turn). v.verdict) r) (ap (λ (v : Turn). v.board.places) r) refl

      spelled : (start scratch : List ℕ) → is_plan u ≡ true → scratch ≡ out_after m start → length start ≡ 1800 → take n scratch ≡ spelling_of Fpl m
      unfolding out_after front
      spelled start scratch h w l =
          let z : answer_of m (length start) ≡ Ok (u, n) = rw l q in
          ap (λ (s : List ℕ). take n s) (w ∙ ap (λ (a : Answer). written_as a m start) z)
          ∙ take_at (spelling_of u m) (drop (length (spelling_of u m)) start) n (sym (accepted_taken u m (length start) n z).long)
          ∙ ap (λ (v : MessageType). spelling_of v m) (plan_type u h)

      pub file_filed : (start scratch after : List ℕ) (k : ℕ) → is_plan u ≡ true → scratch ≡ out_after m start → length start ≡ 1800
          → k ≡ lowest (board_in b.places [] f) → t.verdict ≡ Ok (Filed k)
          → Puts f k (record { strip = take n scratch; held = (filed_strip m).held }) b.places bytes t.board.places after
          → TurnOf f (file m) b.places bytes t after
      file_filed start scratch after k h w l kl v p =
          let spelt = spelled start scratch h w l in
          let slot : k ≡ low = kl ∙ board_lowest b.places bytes f in
          let q : Puts f k (filed_strip m) b.places bytes t.board.places after
          = subst (λ (s : List ℕ). Puts f k (record { strip = s; held = (filed_strip m).held }) b.places bytes t.board.places after) spelt p in
          turned f (file m) b.places bytes t after (filed k (filed_strip m)) (plan_said true h ∙ ap (λ (x : ℕ). filed x (filed_strip m)) (sym slot)) v
          q.places_are q.bytes_are

-- A SLOT

module _ (f : Firm) (slot : ℕ) (b : Board) (bytes : List ℕ) where
  abbrev stood : Option Standing
  stood = get_or (board_in b.places bytes f) slot None

  -- nothing stands there
  module _ (h : Place) (e : h ≡ held_to f slot b.places) (z : h ≡ None) where
    none_there : stood ≡ None
    none_there = slot_held f slot b.places bytes h e ∙ ap (λ (x : Place). strip_in x (there f slot b.places bytes)) z

    pub update_none : (m : List ℕ) (t : Turn) → t ≡ refused_turn b (refusal 19 0 0) → TurnOf f (update slot m) b.places bytes t bytes
    update_none m t r =
        turned f (update slot m) b.places bytes t bytes no_slot (ap (λ (p : Option Standing). offered_at house p slot m) none_there)
        (ap (λ (u : Turn). u.verdict) r) (ap (λ (u : Turn). u.board.places) r) refl

    pub clear_none : (t : Turn) → t ≡ refused_turn b (refusal 19 0 0) → TurnOf f (clear slot) b.places bytes t bytes
    clear_none t r =
        turned f (clear slot) b.places bytes t bytes no_slot (ap (λ (p : Option Standing). cleared_at house p slot) none_there)
        (ap (λ (u : Turn). u.verdict) r) (ap (λ (u : Turn). u.board.places) r) refl

  -- a flight stands there
  module _ (h : Place) (p : Flight) (e : h ≡ held_to f slot b.places) (z : h ≡ Some p) where
    abbrev held : Strip
    held = p.held

    abbrev strip : List ℕ
    strip = shown_to f slot b.places bytes

    flight_there : stood ≡ Some (record { strip = strip; held = held })
    flight_there =
        let q = slot_held f slot b.places bytes h e ∙ ap (λ (x : Place). strip_in x (there f slot b.places bytes)) z in
        q ∙ ap (λ (o : Option Standing). Some (record { strip = shown_as o; held = held })) (sym q)

    -- OFFERING
    module _ (m : List ℕ) where
      abbrev outcome : Update → Outcome Standing Refusal
      outcome u = updating_as u (new_after strip held m lent)

      offered_said : (u : Update) → update_of strip held m 1800 ≡ u → said_of f (update slot m) b.places bytes ≡ updated_as house (outcome u) slot
      offered_said u q =
          ap (λ (p : Option Standing). offered_at house p slot m) flight_there ∙ ap (λ (x : Update). updated_as house (outcome x) slot) q

      pub update_refused : (t : Turn) (why : Refusal) → t ≡ refused_turn b why → update_of strip held m 1800 ≡ Err why
          → TurnOf f (update slot m) b.places bytes t bytes
      update_refused t why r q =
          turned f (update slot m) b.places bytes t bytes (refused why)
          (offered_said (Err why) q) (ap (λ (u : Turn). u.verdict) r) (ap (λ (u : Turn). u.board.places) r) refl

      pub update_taken : (t : Turn) (after new : List ℕ) (next : Strip) (k : ℕ) → update_of strip held m 1800 ≡ Ok (next, k)
          → new ≡ new_after strip held m lent → length new ≡ 1800 → t.verdict ≡ Ok (Updated next k)
          → Puts f slot (record { strip = take k new; held = next }) b.places bytes t.board.places after
          → TurnOf f (update slot m) b.places bytes t after
      update_taken t after new next k q w l v p =
          let short : k ≤ 1800 = accepted_fits strip held m 1800 next k q in
          let s : List ℕ = take k (new_after strip held m lent) in
          let same : take k new ≡ s = ap (take k) w in
          let long : k ≡ length s = sym (length-take-le k new (omega arith)) ∙ ap length same in
          let x : Puts f slot (record { strip = s; held = next }) b.places bytes t.board.places after
          = subst (λ (y : List ℕ). Puts f slot (record { strip = y; held = next }) b.places bytes t.board.places after) same p in
          turned f (update slot m) b.places bytes t after (updated slot (record { strip = s; held = next })) (offered_said (Ok (next, k)) q)
          (v ∙ ap (λ (y : ℕ). Ok (Updated next y)) long) x.places_are x.bytes_are

    -- CLEARING
    over_said : (o : Bool) → over_in held.state ≡ o → said_of f (clear slot) b.places bytes ≡ cond o (cleared slot) not_over
    over_said o q = ap (λ (p : Option Standing). cleared_at house p slot) flight_there ∙ ap (λ (x : Bool). cond x (cleared slot) not_over) q

    pub clear_not : (t : Turn) → t ≡ refused_turn b (refusal 13 0 0) → over_in held.state ≡ false → TurnOf f (clear slot) b.places bytes t bytes
    clear_not t r q =
        turned f (clear slot) b.places bytes t bytes not_over (over_said false q)
        (ap (λ (u : Turn). u.verdict) r) (ap (λ (u : Turn). u.board.places) r) refl

    pub clear_done : (t : Turn) → over_in held.state ≡ true → t.verdict ≡ Ok Cleared → t.board.places ≡ set b.places (base f + slot) vacant
        → TurnOf f (clear slot) b.places bytes t bytes
    clear_done t q v p = turned f (clear slot) b.places bytes t bytes (cleared slot) (over_said true q) v p refl

-- BY A NUMBER

pub by_firm : (a : Act (List ℕ)) (ps : List Place) (bytes : List ℕ) (t : Turn) (after : List ℕ) (n : ℕ) (f : Firm) → firm_of n ≡ Some f
    → TurnOf f a ps bytes t after → Turned (record { by = n; does = a }) ps bytes t after
by_firm a ps bytes t after n f e k =
    record {
      verdict_is = k.verdict_is ∙ sym (ap (λ (w : Option Firm). told (said_to house w (board_in ps bytes) a)) e);
      places_are = k.places_are ∙ sym (ap (λ (w : Option Firm). placed_by w (said_to house w (board_in ps bytes) a) ps) e);
      bytes_are = k.bytes_are ∙ sym (ap (λ (w : Option Firm). lent_by w (said_to house w (board_in ps bytes) a) bytes) e);
    }

pub by_nobody : (a : Act (List ℕ)) (b : Board) (bytes : List ℕ) (t : Turn) (n : ℕ) → firm_of n ≡ None → t ≡ refused_turn b (refusal 18 0 0)
    → Turned (record { by = n; does = a }) b.places bytes t bytes
by_nobody a b bytes t n e r =
    let ps = b.places in
    record {
      verdict_is = ap (λ (u : Turn). u.verdict) r ∙ sym (ap (λ (w : Option Firm). told (said_to house w (board_in ps bytes) a)) e);
      places_are = ap (λ (u : Turn). u.board.places) r ∙ sym (ap (λ (w : Option Firm). placed_by w (said_to house w (board_in ps bytes) a) ps) e);
      bytes_are = sym (ap (λ (w : Option Firm). lent_by w (said_to house w (board_in ps bytes) a) bytes) e);
    }

-- ONE RESULT: two that a contract allows are equal

pub turned_one : (c : Call (List ℕ)) (ps : List Place) (bytes : List ℕ) (t u : Turn) (x y : List ℕ) → Turned c ps bytes t x → Turned c ps bytes u y
    → (t ≡ u) × (x ≡ y)
turned_one c ps bytes t u x y k l = (
  ap₂ (λ (v : Verdict) (qs : List Place). record { board = record { places = qs }; verdict = v }) (k.verdict_is ∙ sym l.verdict_is)
      (k.places_are ∙ sym l.places_are),
  k.bytes_are ∙ sym l.bytes_are,
)
