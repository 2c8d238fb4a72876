-- BOARDS AND THEIR NUMBERS DETERMINE ONE ANOTHER: `board_one`, `board_back` and `board_only` are the theorems to read. And a look shows the strip: its
-- bytes stand where the answer says. Assumes nothing.
use Prim.Native.Nat.{ℕ, zero, suc, ◌+◌, ◌*◌, ◌-◌, ◌≤◌, ◌<◌}
use mathlib.Core.Path.{◌≡◌, refl, sym, ap, ap₂, subst, ◌∙◌}
use mathlib.Core.Bool.{Bool, true, false, cond}
use mathlib.Core.List.{List, [], ◌∷◌, ◌++◌}
use native.Mathlib.Omega.{arith}
use lib.Dec.{ltb, leb}
use lib.ListN.{length, take, drop, get_or, get_or-eq_default}
use lib.Seq.{drop-drop, take_at, ext_get_or}
use borrow.Author.Tests.{lt-ltb, ltb-true, leb-true, leb-false}
use Rattle.std.specs.Prelude.{Option, None, Some}
use Rattle.text.specs.Words.{same}
use Rattle.text.proofs.Tests.{same-eq, same_self}
use Rattle.state.specs.declared.State.{State}
use Rattle.state.specs.declared.State.TheVariants.{Filed, Departed, Arrived, Cancelled}
use Rattle.handed.specs.States.{state_numbers, kept, state_of}
use Rattle.handed.proofs.Laws.{state_one, state_long}
use Rattle.rooms.specs.declared.Firm.{Firm}
use Rattle.rooms.specs.Rooms.{Call}
use Rattle.racks.specs.declared.Flight.{Flight}
use Rattle.racks.specs.Places.{Place, vacant, held_at, base, in_place, strip_in, held_to, shown_as, shown_to}
use Rattle.racks.proofs.Slots.{held_past, there, slot_stands, shows_none}
use Rattle.board.specs.Turns.{strip_to}
use Rattle.board_numbers.specs.Calls.{Called, start_of, Looks}
use Rattle.board_numbers.specs.Numbers.{held_numbers, rows_from, board_numbers, held_of, places_from, board_of, is_board}
use Rattle.board_numbers.specs.Runs.{Storable, AllStorable}
use Rattle.board_numbers.proofs.Rows.{row_long, numbers_at}

-- A ROW

flight_length : (s : State) (n : ℕ) (rest : List ℕ) → get_or (1 ∷ ((state_numbers s ++ (n ∷ [])) ++ rest)) 9 0 ≡ n
flight_length Filed n rest = refl
flight_length (Departed t) n rest = refl
flight_length (Arrived (Some d) a t) n rest = refl
flight_length (Arrived None a t) n rest = refl
flight_length Cancelled n rest = refl

flight_state : (s : State) (n : ℕ) (rest : List ℕ) → state_of ((state_numbers s ++ (n ∷ [])) ++ rest) ≡ state_of (state_numbers s)
flight_state Filed n rest = refl
flight_state (Departed t) n rest = refl
flight_state (Arrived (Some d) a t) n rest = refl
flight_state (Arrived None a t) n rest = refl
flight_state Cancelled n rest = refl

abbrev flight : State → ℕ → Flight
flight s n = record { held = record { state = s }; length = n }

row_one : (h k : Place) → held_numbers h ≡ held_numbers k → h ≡ k
row_one None None e = refl
row_one None (Some p) e = let z : ◌≡◌ {A = ℕ} 0 1 = ap (λ (ns : List ℕ). get_or ns 0 0) e in absurd (omega arith)
row_one (Some p) None e = let z : ◌≡◌ {A = ℕ} 1 0 = ap (λ (ns : List ℕ). get_or ns 0 0) e in absurd (omega arith)
row_one (Some p) (Some r) e =
    let front : (s : State) (k : ℕ) → take 8 (state_numbers s ++ (k ∷ [])) ≡ state_numbers s = λ s k. take_at (state_numbers s) (k ∷ []) 8 (state_long s) in
    let a = p.held.state in
    let b = r.held.state in
    let s : a ≡ b = state_one a b (sym (front a p.length) ∙ ap (λ (ns : List ℕ). take 8 (drop 1 ns)) e ∙ front b r.length) in
    let q : (s : State) (k : ℕ) → get_or (1 ∷ (state_numbers s ++ (k ∷ []))) 9 0 ≡ k = last in
    let l : p.length ≡ r.length = sym (q a p.length) ∙ ap (λ (ns : List ℕ). get_or ns 9 0) e ∙ q b r.length in
    ap₂ (λ (x : State) (k : ℕ). Some (flight x k)) s l
  where
    last : (s : State) (k : ℕ) → get_or (1 ∷ (state_numbers s ++ (k ∷ []))) 9 0 ≡ k
    last Filed k = refl
    last (Departed t) k = refl
    last (Arrived (Some d) c t) k = refl
    last (Arrived None c t) k = refl
    last Cancelled k = refl

-- what the numbers of a flight mean
flight_read : (p : Flight) (rest : List ℕ)
    → held_of (held_numbers (Some p) ++ rest) ≡ Some (flight (state_of (state_numbers p.held.state)) (kept 1801 p.length))
unfolding held_of
flight_read p rest =
    ap₂ (λ (s : State) (k : ℕ). Some (flight s (kept 1801 k))) (flight_state p.held.state p.length rest) (flight_length p.held.state p.length rest)

short_kept : (n : ℕ) → n ≤ 1800 → kept 1801 n ≡ n
short_kept n h = rw (lt-ltb n 1801 (omega arith))

kept_short : (n : ℕ) → n ≡ kept 1801 n → n ≤ 1800
kept_short n e = go (ltb n 1801) refl e
  where
    go : (b : Bool) → ltb n 1801 ≡ b → n ≡ cond b n 0 → n ≤ 1800
    go true q e = omega (arith, ltb-true n 1801 q)
    go false q e = omega arith

held_back : (h : Place) → Storable h → (rest : List ℕ) → held_of (held_numbers h ++ rest) ≡ h
unfolding held_of
held_back None k rest = refl
held_back (Some p) k rest = flight_read p rest ∙ ap₂ (λ (s : State) (m : ℕ). Some (flight s m)) k.0 (short_kept p.length k.1)

-- and what is found again can be held
back_held : (h : Place) (rest : List ℕ) → held_of (held_numbers h ++ rest) ≡ h → Storable h
back_held None rest e = tt
back_held (Some p) rest e =
    let q : Some (flight (state_of (state_numbers p.held.state)) (kept 1801 p.length)) ≡ Some p = sym (flight_read p rest) ∙ e in
    let s : flight (state_of (state_numbers p.held.state)) (kept 1801 p.length) ≡ p = cc in
    (ap (λ (x : Flight). x.held.state) s, kept_short p.length (sym (ap (λ (x : Flight). x.length) s)))

-- THE PLACES that numbers mean, one by one

places_long : (n : ℕ) (ns : List ℕ) → length (places_from n ns) ≡ n
places_long zero ns = refl
places_long (suc n) ns = ap suc (places_long n (drop 10 ns))

places_at : (n i : ℕ) (ns : List ℕ) → i < n → held_at (places_from n ns) i ≡ held_of (drop (10 * i) ns)
places_at zero i ns h = absurd (omega arith)
places_at (suc n) zero ns h = refl
places_at (suc n) (suc i) ns h =
    let e : 10 + 10 * i ≡ 10 * suc i = omega arith in
    places_at n i (drop 10 ns) (omega arith) ∙ ap held_of (drop-drop (10 * i) 10 ns ∙ ap (λ (k : ℕ). drop k ns) e)

pub board_long : (ns : List ℕ) → length (board_of ns) ≡ 20
unfolding board_of
board_long ns = places_long 20 ns

board_at : (i : ℕ) (ns : List ℕ) → i < 20 → held_at (board_of ns) i ≡ held_of (drop (10 * i) ns)
unfolding board_of
board_at i ns h = places_at 20 i ns h

-- two lists of 20 places with the same in each are the same
same_places : (ps qs : List Place) → length ps ≡ 20 → length qs ≡ 20 → ((i : ℕ) → i < 20 → held_at ps i ≡ held_at qs i) → ps ≡ qs
same_places ps qs a b e = ext_get_or vacant ps qs (a ∙ sym b) (λ i h. e i (omega (arith, a, h)))

-- THE THEOREMS

-- two boards with the same numbers are the same
pub board_one : (ps qs : List Place) → length ps ≡ 20 → length qs ≡ 20 → board_numbers ps ≡ board_numbers qs → ps ≡ qs
board_one ps qs a b e =
    same_places ps qs a b (λ i h. row_one (held_at ps i) (held_at qs i) (sym (row ps i h) ∙ ap (λ (ns : List ℕ). take 10 (drop (10 * i) ns)) e ∙ row qs i h))
  where
    row : (rs : List Place) (i : ℕ) → i < 20 → take 10 (drop (10 * i) (board_numbers rs)) ≡ held_numbers (held_at rs i)
    row rs i h =
        ap (take 10) (numbers_at rs i h) ∙ take_at (held_numbers (held_at rs i)) (rows_from rs (suc i) (20 - suc i)) 10 (row_long (held_at rs i))

-- a board whose states and lengths can be held comes back from its numbers
pub board_back : (ps : List Place) → length ps ≡ 20 → AllStorable ps → (board_of (board_numbers ps) ≡ ps) × (is_board (board_numbers ps) ≡ true)
unfolding is_board
board_back ps l k = (back, ap (λ (qs : List Place). same (board_numbers qs) (board_numbers ps)) back ∙ same_self (board_numbers ps))
  where
    back : board_of (board_numbers ps) ≡ ps
    back =
        same_places (board_of (board_numbers ps)) ps (board_long (board_numbers ps)) l
        (λ i h. board_at i (board_numbers ps) h ∙ ap held_of (numbers_at ps i h) ∙ held_back (held_at ps i) (k i) (rows_from ps (suc i) (20 - suc i)))

-- and only from its numbers: numbers that are taken for a board are that board's own, and it can be held
pub board_only : (ns : List ℕ) → is_board ns ≡ true → board_numbers (board_of ns) ≡ ns
unfolding is_board
board_only ns e = same-eq (board_numbers (board_of ns)) ns e

pub board_held : (ns : List ℕ) → is_board ns ≡ true → AllStorable (board_of ns)
board_held ns e i = go (leb 20 i) refl
  where
    go : (b : Bool) → leb 20 i ≡ b → Storable (held_at (board_of ns) i)
    go true q =
        let z : vacant ≡ get_or (board_of ns) i vacant
        = sym (get_or-eq_default (board_of ns) vacant {n = i} (omega (arith, leb-true 20 i q, board_long ns))) in
        subst (λ (p : Place). Storable p) z tt
    go false q =
        let h = leb-false 20 i q in
        let x = held_at (board_of ns) i in
        let rest = rows_from (board_of ns) (suc i) (20 - suc i) in
        back_held x rest
        (ap held_of (sym (numbers_at (board_of ns) i h) ∙ ap (drop (10 * i)) (board_only ns e)) ∙ sym (board_at i ns h))

-- A LOOK SHOWS THE STRIP: as many bytes as it says, from where it says, are what stands in the slot

taken_long : {A : Type 0} (m : ℕ) (l : List A) → take (length (take m l)) l ≡ take m l
taken_long zero l = refl
taken_long (suc m) [] = refl
taken_long (suc m) (x ∷ l) = ap (λ (r : List _). x ∷ r) (taken_long m l)

-- what is held in a slot, and where its place begins
shown_there : (h : Place) (bytes : List ℕ) → take (length (shown_as (strip_in h bytes))) bytes ≡ shown_as (strip_in h bytes)
shown_there None bytes = refl
shown_there (Some p) bytes = taken_long (in_place p.length) bytes

pub look_shows : (w : Option Firm) (slot : ℕ) (ps : List Place) (bytes : List ℕ)
    → take (length (strip_to w slot ps bytes)) (drop (start_of w slot) bytes) ≡ strip_to w slot ps bytes
look_shows None slot ps bytes = refl
look_shows (Some f) slot ps bytes = go (leb 10 slot) refl
  where
    go : (b : Bool) → leb 10 slot ≡ b
        → take (length (shown_to f slot ps bytes)) (drop (cond b 0 (1800 * (base f + slot))) bytes) ≡ shown_to f slot ps bytes
    go true e =
        let z : [] ≡ shown_to f slot ps bytes = shows_none f slot ps bytes None (held_past f slot ps (leb-true 10 slot e)) refl in
        subst (λ (s : List ℕ). take (length s) bytes ≡ s) z refl
    go false e =
        let z : shown_to f slot ps bytes ≡ shown_as (strip_in (held_to f slot ps) (there f slot ps bytes)) = ap shown_as (slot_stands f slot ps bytes) in
        subst (λ (s : List ℕ). take (length s) (there f slot ps bytes) ≡ s) (sym z) (shown_there (held_to f slot ps) (there f slot ps bytes))

-- EACH CONTRACT ALLOWS ONE RESULT: the number that is given back, the answer's numbers, the board's numbers and every byte of the strips
pub called_one : (c : Call (List ℕ)) (ns bytes : List ℕ) (r r' : ℕ) (a a' after after' end end' : List ℕ) → Called c ns bytes r a after end
    → Called c ns bytes r' a' after' end' → (r ≡ r') × (a ≡ a') × (after ≡ after') × (end ≡ end')
called_one c ns bytes r r' a a' after after' end end' p q = (
  p.number_is ∙ sym q.number_is,
  p.answer_is ∙ sym q.answer_is,
  p.numbers_are ∙ sym q.numbers_are,
  p.bytes_are ∙ sym q.bytes_are,
)

pub looks_one : (firm slot : ℕ) (ns bytes : List ℕ) (r r' : ℕ) (a a' : List ℕ) → Looks firm slot ns bytes r a → Looks firm slot ns bytes r' a'
    → (r ≡ r') × (a ≡ a')
looks_one firm slot ns bytes r r' a a' p q = (p.number_is ∙ sym q.number_is, p.answer_is ∙ sym q.answer_is)
