-- RUNS: `faithful` is the theorem to read. Each turn that a contract allows leaves on the board what the definition says. Assumes nothing.
use Prim.Native.Nat.{ℕ, ◌+◌, ◌*◌, ◌≤◌, ◌<◌}
use mathlib.Core.Path.{◌≡◌, refl, ap, subst, fun_ext, ◌∙◌}
use mathlib.Core.Bool.{Bool, true, false, cond}
use mathlib.Core.List.{List, ◌∷◌}
use native.Mathlib.Omega.{arith}
use lib.Dec.{leb}
use lib.ListN.{length, take, drop, get_or, set, replicate, length-set, length-take}
use borrow.Author.Tests.{le-leb, leb-true, leb-false}
use Rattle.std.specs.Prelude.{Option, None, Some, Ok, Err}
use Rattle.kinds.specs.declared.MessageType.{MessageType}
use Rattle.message.specs.Answer.{Answer}
use Rattle.message.specs.Reading.{is_plan, spelling_of, answer_of}
use Rattle.message.proofs.Reached.{accepted_taken}
use Rattle.strip.specs.Updating.{Updated as Update, update_of, out_after}
use Rattle.history.specs.Demand3.{Standing, filed_as as filed_strip}
use Rattle.message.proofs.Plans.{plan_type}
use Rattle.history.proofs.Causes.{accepted_fits}
use Rattle.rooms.specs.declared.Firm.{Firm}
use Rattle.rooms.specs.declared.Firm.TheVariants.{First, Second}
use Rattle.rooms.specs.Rooms.{firm_of, other, same, Act, Call, Board, held_in, lowest, beyond, has_room, Said, empty}
use Rattle.rooms.specs.Rooms.{filed_as, updated_as, offered_at, cleared_at, reply, said_to, said, put, after}
use Rattle.rooms.specs.Rooms.Outcome.{takes, refuses}
use Rattle.rooms.specs.Rooms.Act.{file, update, clear}
use Rattle.rooms.specs.Rooms.Reply.{filed, updated, cleared, refused, no_firm, no_slot, no_room, not_over}
use Rattle.rooms.proofs.Racks.{lowest_inside, room_below}
use Rattle.board.specs.House.{filing_as, updating_as, lent, over_in, house}
use Rattle.board.specs.Verdict.{Verdict}
use Rattle.board.specs.declared.Turn.{Turn}
use Rattle.racks.specs.Places.{Place, Sized, in_place, strip_in, vacant, base, rack_at, board_in, place_of, written}
use Rattle.board.specs.Turns.{told, placed, lent_after, placed_by, lent_by, Turned}
use Rattle.board.specs.Runs.{Plays, Goes, Faithful}
use Rattle.board.specs.Runs.Plays.{done, turn}
use Rattle.racks.proofs.Written.{written_length, written_there, written_other}
use Rattle.racks.proofs.Racks.{board_length, board_past, rack_with, rack_without}

-- AN ANSWER NAMES A SLOT OF THE TEN, and its strip fits a place

abbrev Proper : Said house → Type 0
Proper (filed k s) = (k < 10) × (length s.strip ≤ 1800)
Proper (updated k s) = (k < 10) × (length s.strip ≤ 1800)
Proper (cleared k) = k < 10
Proper (refused w) = Unit
Proper no_firm = Unit
Proper no_slot = Unit
Proper no_room = Unit
Proper not_over = Unit

-- what is filed
filing_proper : (k : ℕ) → k < 10 → (m : List ℕ) (a : Answer) → answer_of m 1800 ≡ a → Proper (filed_as house (filing_as a m) k)
filing_proper k h m (Err r) e = tt
filing_proper k h m (Ok (t, n)) e = go (is_plan t) refl
  where
    go : (b : Bool) → is_plan t ≡ b → Proper (filed_as house (cond b (takes (filed_strip m)) (refuses (record { number = 14; field = 0; place = 0 }))) k)
    go true p = (h, subst (λ (u : MessageType). length (spelling_of u m) ≤ 1800) (plan_type t p) (accepted_taken t m 1800 n e).fits)
    go false p = tt

-- what an update leaves
updating_proper : (k : ℕ) → k < 10 → (s : Standing) (m : List ℕ) (u : Update) → update_of s.strip s.held m 1800 ≡ u
    → Proper (updated_as house (updating_as u (out_after s.strip s.held m lent)) k)
updating_proper k h s m (Err r) e = tt
updating_proper k h s m (Ok (held, n)) e =
    (h, omega (arith, accepted_fits s.strip s.held m 1800 held n e, length-take n (out_after s.strip s.held m lent)))

module _ (ps : List Place) (bytes : List ℕ) (f : Firm) (n : ℕ) where
  file_proper : (m : List ℕ) (b : Bool) → has_room (held_in (board_in ps bytes f)) n ≡ b
      → Proper (cond b (filed_as house (house.filing m) (lowest (board_in ps bytes f))) no_room)
  file_proper m false e = tt
  file_proper m true e =
      let low = lowest_inside (board_in ps bytes f) (omega (arith, board_length ps bytes f, room_below (held_in (board_in ps bytes f)) n e)) in
      filing_proper (lowest (board_in ps bytes f)) (omega (arith, low, board_length ps bytes f)) m (answer_of m 1800) refl

  slot_inside : (k : ℕ) (s : Standing) → get_or (board_in ps bytes f) k None ≡ Some s → k < 10
  slot_inside k s e = go (leb 10 k) refl
    where
      go : (b : Bool) → leb 10 k ≡ b → k < 10
      go true q = absurd (never (board_past ps bytes f k (leb-true 10 k q)))
        where
          never : get_or (board_in ps bytes f) k None ≡ None → ⊥
          never n = let z : ◌≡◌ {A = ℕ} 0 1 = cc in omega arith
      go false q = leb-false 10 k q

  update_proper : (k : ℕ) (m : List ℕ) (p : Option Standing) → get_or (board_in ps bytes f) k None ≡ p → Proper (offered_at house p k m)
  update_proper k m None e = tt
  update_proper k m (Some s) e = updating_proper k (slot_inside k s e) s m (update_of s.strip s.held m 1800) refl

  clear_proper : (k : ℕ) (p : Option Standing) → get_or (board_in ps bytes f) k None ≡ p → Proper (cleared_at house p k)
  clear_proper k None e = tt
  clear_proper k (Some s) e = go (over_in s.held.state)
    where
      go : (b : Bool) → Proper (cond b (cleared k) not_over)
      go true = slot_inside k s e
      go false = tt

  reply_proper : (a : Act (List ℕ)) → Proper (reply house (board_in ps bytes f) n a)
  reply_proper (file m) = file_proper m (has_room (held_in (board_in ps bytes f)) n) refl
  reply_proper (update k m) = update_proper k m (get_or (board_in ps bytes f) k None) refl
  reply_proper (clear k) = clear_proper k (get_or (board_in ps bytes f) k None) refl

-- WHAT STANDS AFTER ONE PLACE WAS CHANGED

in_place_lem : (n : ℕ) → n ≤ 1800 → in_place n ≡ n
in_place_lem n h = rw (le-leb n 1800 h)

module _ (ps : List Place) (bytes : List ℕ) (z : Sized ps bytes) (k : ℕ) (less : k < 10) where
  inside : (g : Firm) → base g + k < 20
  inside First = omega arith
  inside Second = omega arith

  -- a strip in its place
  stood : (g : Firm) (s : Standing) → length s.strip ≤ 1800
      → strip_in (place_of s) (drop (1800 * (base g + k)) (written (base g + k) s.strip bytes)) ≡ Some s
  stood g s short =
      ap (λ (w : List ℕ). Some (record { strip = w; held = s.held }))
      (ap (λ (n : ℕ). take n (drop (1800 * (base g + k)) (written (base g + k) s.strip bytes))) (in_place_lem (length s.strip) short)
      ∙ written_there (base g + k) s.strip bytes short (omega (arith, inside g, z.room)))

  abbrev Changed : Firm → Place → List ℕ → Option Standing → Type 0
  Changed g p mid new = (f : Firm) → board_in (set ps (base g + k) p) mid f ≡ cond (same g f) (set (board_in ps bytes g) k new) (board_in ps bytes f)

  module _ (p : Place) (mid : List ℕ) (new : Option Standing) where
    changed : (g : Firm) → strip_in p (drop (1800 * (base g + k)) mid) ≡ new
        → ((j m : ℕ) → m ≤ 1800 → (base g + k ≡ j → ⊥) → take m (drop (1800 * j) mid) ≡ take m (drop (1800 * j) bytes)) → Changed g p mid new
    unfolding rack_at
    changed First e others First =
        rack_with ps bytes mid (0 + k) p (omega (arith, z.places)) others 0 10 k refl less ∙ ap (λ (x : Option Standing). set (rack_at ps bytes 0) k x) e
    changed First e others Second = rack_without ps bytes mid (0 + k) p (omega (arith, z.places)) others 10 10 (λ q h d. omega (arith, h, d))
    changed Second e others First = rack_without ps bytes mid (10 + k) p (omega (arith, z.places)) others 0 10 (λ q h d. omega (arith, h, d))
    changed Second e others Second =
        rack_with ps bytes mid (10 + k) p (omega (arith, z.places)) others 10 10 k refl less ∙ ap (λ (x : Option Standing). set (rack_at ps bytes 10) k x) e

  pub put_there : (g : Firm) (s : Standing) → length s.strip ≤ 1800 → Changed g (place_of s) (written (base g + k) s.strip bytes) (Some s)
  put_there g s short =
      changed (place_of s) (written (base g + k) s.strip bytes) (Some s) g (stood g s short)
      (λ j m h apart. written_other (base g + k) s.strip bytes short (omega (arith, inside g, z.room)) j m h apart)

  pub taken_away : (g : Firm) → Changed g vacant bytes None
  taken_away g = changed vacant bytes None g refl (λ j m h apart. refl)

  pub put_sized : (g : Firm) (s : Standing) → length s.strip ≤ 1800 → Sized (set ps (base g + k) (place_of s)) (written (base g + k) s.strip bytes)
  put_sized g s short =
      record {
        places = length-set ps (base g + k) (place_of s) ∙ z.places;
        room = written_length (base g + k) s.strip bytes short (omega (arith, inside g, z.room)) ∙ z.room;
      }

-- ONE TURN

pub record Left (g : Option Firm) (ps : List Place) (bytes : List ℕ) (x : Said house) (qs : List Place) (mid : List ℕ) : Type 0 where
  pub board_is : (f : Firm) → board_in qs mid f ≡ put house g (board_in ps bytes) x f
  pub sized : Sized qs mid

same_board : (g : Firm) (b : Board house) (f : Firm) → b f ≡ cond (same g f) (b g) (b f)
same_board First b First = refl
same_board First b Second = refl
same_board Second b First = refl
same_board Second b Second = refl

said_left : (g : Firm) (ps : List Place) (bytes : List ℕ) → Sized ps bytes → (x : Said house) → Proper x
    → Left (Some g) ps bytes x (placed g x ps) (lent_after g x bytes)
said_left g ps bytes z (filed k s) p = record { board_is = put_there ps bytes z k p.0 g s p.1; sized = put_sized ps bytes z k p.0 g s p.1 }
said_left g ps bytes z (updated k s) p = record { board_is = put_there ps bytes z k p.0 g s p.1; sized = put_sized ps bytes z k p.0 g s p.1 }
said_left g ps bytes z (cleared k) p =
    record { board_is = taken_away ps bytes z k p g; sized = record { places = length-set ps (base g + k) vacant ∙ z.places; room = z.room } }
said_left g ps bytes z (refused w) p = record { board_is = same_board g (board_in ps bytes); sized = z }
said_left g ps bytes z no_firm p = record { board_is = same_board g (board_in ps bytes); sized = z }
said_left g ps bytes z no_slot p = record { board_is = same_board g (board_in ps bytes); sized = z }
said_left g ps bytes z no_room p = record { board_is = same_board g (board_in ps bytes); sized = z }
said_left g ps bytes z not_over p = record { board_is = same_board g (board_in ps bytes); sized = z }

turn_left : (w : Option Firm) (ps : List Place) (bytes : List ℕ) → Sized ps bytes → (a : Act (List ℕ))
    → Left w ps bytes (said_to house w (board_in ps bytes) a) (placed_by w (said_to house w (board_in ps bytes) a) ps)
    (lent_by w (said_to house w (board_in ps bytes) a) bytes)
turn_left None ps bytes z a = record { board_is = λ f. refl; sized = z }
turn_left (Some g) ps bytes z a =
    said_left g ps bytes z (said_to house (Some g) (board_in ps bytes) a) (reply_proper ps bytes g (beyond (held_in (board_in ps bytes (other g)))) a)

pub one_turn : (c : Call (List ℕ)) (ps : List Place) (bytes : List ℕ) (t : Turn) (mid : List ℕ) → Sized ps bytes → Turned c ps bytes t mid
    → Left (firm_of c.by) ps bytes (said house (board_in ps bytes) c) t.board.places mid
one_turn c ps bytes t mid z k =
    rw (k.places_are, k.bytes_are) (turn_left (firm_of c.by) ps bytes z c.does)

-- A RUN

pub goes : {ps qs : List Place} {bytes end : List ℕ} {cs : List (Call (List ℕ))} {vs : List Verdict} → (b : Board house)
    → ((f : Firm) → board_in ps bytes f ≡ b f)
    → Sized ps bytes → Plays ps bytes cs vs qs end → Goes b cs vs qs end
goes b e z done = record { stands_as_lem = e; answers_as = refl; sized = z }
goes {ps = ps} {bytes = bytes} b e z (turn {mid = mid} {c = c} {cs = cs} {vs = vs} t k rest) =
    let x = one_turn c ps bytes t mid z k in
    let same-boards : board_in ps bytes ≡ b = fun_ext e in
    let r = goes (after house b c) (λ f. x.board_is f ∙ ap (λ (d : Board house). after house d c f) same-boards) x.sized rest in
    record {
      stands_as_lem = r.stands_as_lem;
      answers_as =
          ap (λ (v : Verdict). v ∷ vs) (k.verdict_is ∙ ap (λ (d : Board house). told (said house d c)) same-boards)
          ∙ ap (λ (l : List Verdict). told (said house b c) ∷ l) r.answers_as;
      sized = r.sized;
    }

pub nothing_yet : (bytes : List ℕ) (f : Firm) → board_in (replicate 20 vacant) bytes f ≡ empty house f
unfolding rack_at
nothing_yet bytes First = refl
nothing_yet bytes Second = refl

-- THE THEOREM
pub faithful : Faithful
faithful bytes long cs vs qs end p = goes (empty house) (nothing_yet bytes) (record { places = refl; room = long }) p
