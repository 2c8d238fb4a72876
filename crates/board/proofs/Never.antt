-- WHAT THE BOARD NEVER ANSWERS: `filing_never` and `updating_never` are the theorems to read. Assumes nothing.
use Prim.Native.Nat.{ℕ, ◌≤◌}
use mathlib.Core.Path.{◌≡◌, refl, sym, ap, ◌∙◌}
use mathlib.Core.Bool.{Bool, true, false, cond}
use mathlib.Core.List.{List, map}
use native.Mathlib.Omega.{arith}
use lib.Dec.{leb}
use borrow.Author.Tests.{leb-true, leb-false}
use Rattle.std.specs.Prelude.{Option, None, Some, Ok, Err}
use Rattle.message.specs.Answer.{Answer}
use Rattle.message.specs.Reading.{is_plan, answer_of}
use Rattle.strip.specs.Updating.{Updated, update_of, out_after}
use Rattle.history.specs.History.{spelled}
use Rattle.history.specs.Demand3.{Standing, updater, offered_all, filed_as, Cause}
use Rattle.history.specs.Demand3.Cause.{not_proper, not_read, not_fit, no_type, another_flight, not_allowed, unexplained, too_long, no_room_lem}
use Rattle.history.proofs.Late.{late_plan}
use Rattle.history.proofs.Demand3.{never_fifteen}
use Rattle.rooms.specs.declared.Firm.{Firm}
use Rattle.rooms.specs.Rooms.{firm_of, other, Call, Board, empty, stands, held_in, lowest, beyond, has_room, filed_as as filed_reply, updated_as, offered_at}
use Rattle.rooms.specs.Rooms.{said_to}
use Rattle.rooms.specs.Rooms.Outcome.{takes, refuses}
use Rattle.rooms.specs.Rooms.Act.{file, update}
use Rattle.rooms.specs.Rooms.Reply.{no_room}
use Rattle.rooms.specs.Keeper.{after_all}
use Rattle.board.specs.House.{filing_as, updating_as, lent, house}
use Rattle.board.specs.Turns.{told}
use Rattle.board.specs.Demands.{offer_of, FromFiling, FilingNever, UpdatingNever}
use Rattle.board.proofs.Demands.{each_strip}
use Rattle.outer.specs.Refusal.{refusal}
use Rattle.outer.proofs.Numbers.{refusal_same}

-- A FILING: reading refuses with 1 to 10

filing_number : (m : List ℕ) (number field place : ℕ) → answer_of m 1800 ≡ Err (refusal number field place) → number ≤ 10
filing_number m number field place e = go (leb number 9) refl
  where
    go : (b : Bool) → leb number 9 ≡ b → number ≤ 10
    go true q = omega (arith, leb-true number 9 q)
    go false q = omega (arith, (late_plan m number field place e (leb-false number 9 q)).0)

module _ (m : List ℕ) (field place : ℕ) where
  read_never : (k : ℕ) (a : Answer) → answer_of m 1800 ≡ a → told (filed_reply house (filing_as a m) k) ≡ Err (refusal 11 field place) → ⊥
  read_never k (Err r) q e =
      let n = (refusal_same r (refusal 11 field place) e).0 in
      omega (arith, n, filing_number m r.number r.field r.place q)
  read_never k (Ok (t, n)) q e = go (is_plan t) e
    where
      go : (b : Bool)
          → told (filed_reply house (cond b (takes (filed_as m)) (refuses (refusal 14 0 0))) k) ≡ Err (refusal 11 field place) → ⊥
      go true e = cc
      go false e = let z = (refusal_same (refusal 14 0 0) (refusal 11 field place) e).0 in omega arith

  room_never : (k : ℕ) (h : Bool) → told (cond h (filed_reply house (house.filing m) k) no_room) ≡ Err (refusal 11 field place) → ⊥
  room_never k true e = read_never k (answer_of m 1800) refl e
  room_never k false e = let z = (refusal_same (refusal 20 0 0) (refusal 11 field place) e).0 in omega arith

  firm_never : (b : Board house) (w : Option Firm) → told (said_to house w b (file m)) ≡ Err (refusal 11 field place) → ⊥
  firm_never b None e = let z = (refusal_same (refusal 18 0 0) (refusal 11 field place) e).0 in omega arith
  firm_never b (Some f) e = room_never (lowest (b f)) (has_room (held_in (b f)) (beyond (held_in (b (other f))))) e

-- THE THEOREM
pub filing_never : FilingNever
filing_never cs n m field place e = firm_never m field place (after_all house (empty house) cs) (firm_of n) e

-- AN UPDATE of a strip that stands on the board

module _ (f : Firm) (k : ℕ) (cs : List (Call (List ℕ))) (s : Standing) (w : FromFiling f k cs s) (m : List ℕ) (field place : ℕ) where
  abbrev current : Standing
  current = offered_all updater (filed_as w.life.filing) (map offer_of w.life.offers)

  as_offered : (number : ℕ) → update_of s.strip s.held m 1800 ≡ Err (refusal number field place)
      → update_of current.strip current.held m 1800 ≡ Err (refusal number field place)
  as_offered number e = sym (ap (λ (x : Standing). update_of x.strip x.held m 1800) w.strip_is) ∙ e

  not_fifteen : update_of s.strip s.held m 1800 ≡ Err (refusal 15 field place) → ⊥
  not_fifteen e = never_fifteen w.life.filing 1800 w.long w.read (map offer_of w.life.offers) (offer_of m) field place (as_offered 15 e)

  not_eleven : update_of s.strip s.held m 1800 ≡ Err (refusal 11 field place) → ⊥
  not_eleven e = go (w.demanded.refused_cause (offer_of m) 11 field place (as_offered 11 e)) refl
    where
      go : {n g p : ℕ} → Cause (spelled w.demanded.plan) w.demanded.held m 1800 n g p → n ≡ 11 → ⊥
      go (not_proper h) z = omega (arith, z)
      go (not_read p x l) z = omega (arith, l, z)
      go (not_fit p x) z = omega (arith, z)
      go (no_type p x y) z = omega (arith, z)
      go (another_flight p x y v) z = omega (arith, z)
      go (not_allowed p x y v a) z = omega (arith, z)
      go (unexplained k u) z = omega (arith, z)
      go (too_long k u l) z = omega (arith, z)
      go (no_room_lem k u l r) z = omega (arith, l, r)

module _ (cs : List (Call (List ℕ))) (k : ℕ) (m : List ℕ) (field place : ℕ) where
  abbrev b : Board house
  b = after_all house (empty house) cs

  -- a number that no refused update of a strip on the board has, and neither 18 nor 19
  module _ (number : ℕ) (low : number ≤ 17)
      (never : (f : Firm) (s : Standing) → FromFiling f k cs s → update_of s.strip s.held m 1800 ≡ Err (refusal number field place) → ⊥) where
    outcome_never : (f : Firm) (s : Standing) → FromFiling f k cs s → (u : Updated) → update_of s.strip s.held m 1800 ≡ u
        → told (updated_as house (updating_as u (out_after s.strip s.held m lent)) k) ≡ Err (refusal number field place) → ⊥
    outcome_never f s w (Ok (held, n)) q e = cc
    outcome_never f s w (Err r) q e = never f s w (q ∙ same)
      where
        same : ◌≡◌ {A = Updated} (Err r) (Err (refusal number field place))
        same = let is : r ≡ refusal number field place = cc in ap Err is

    slot_never : (f : Firm) (p : Option Standing) → stands house b f k ≡ p → told (offered_at house p k m) ≡ Err (refusal number field place) → ⊥
    slot_never f None q e = let z = (refusal_same (refusal 19 0 0) (refusal number field place) e).0 in omega (arith, z, low)
    slot_never f (Some s) q e = outcome_never f s (each_strip cs f k s q) (update_of s.strip s.held m 1800) refl e

    update_never : (w : Option Firm) → told (said_to house w b (update k m)) ≡ Err (refusal number field place) → ⊥
    update_never None e = let z = (refusal_same (refusal 18 0 0) (refusal number field place) e).0 in omega (arith, z, low)
    update_never (Some f) e = slot_never f (stands house b f k) refl e

-- THE THEOREM
pub updating_never : UpdatingNever
updating_never cs n k m =
    record {
      eleven = λ field place e. update_never cs k m field place 11 (omega arith) (λ f s w. not_eleven f k cs s w m field place) (firm_of n) e;
      fifteen = λ field place e. update_never cs k m field place 15 (omega arith) (λ f s w. not_fifteen f k cs s w m field place) (firm_of n) e;
    }
