-- States and their numbers determine one another: two states with the same numbers are the same, a sound state comes back from its numbers, and numbers
-- that are taken for a state are its own. Assumes nothing.
use Prim.Native.Nat.{ℕ}
use mathlib.Core.Path.{◌≡◌, refl, sym, ap, ◌∙◌}
use mathlib.Core.Bool.{Bool, true, false, cond}
use mathlib.Core.List.{List}
use native.Mathlib.Omega.{arith}
use lib.Dec.{eqb, leb}
use lib.ListN.{length, get_or}
use borrow.Author.Tests.{lt-ltb, leb-true}
use Rattle.alphabet.specs.Alphabet.{letter}
use Rattle.std.specs.Prelude.{None, Some}
use Rattle.text.specs.Words.{all, same}
use Rattle.text.proofs.Tests.{both, same-eq, same_self}
use Rattle.shape.specs.declared.Clock.{Clock}
use Rattle.aerodromes.specs.Asked.{four_bytes}
use Rattle.state.specs.declared.State.{State}
use Rattle.state.specs.declared.State.TheVariants.{Filed, Departed, Arrived, Cancelled}
use Rattle.state.specs.declared.Strip.{Strip}
use Rattle.state.specs.State.{sound_state, sound}
use Rattle.handed.specs.States.{state_numbers, minute_of, byte_of, state_of, handed_as}

abbrev state_back : List ℕ → State
state_back ns =
    cond (eqb (get_or ns 0 0) 1) (Departed (record { 0 = get_or ns 2 0 }))
    (cond (eqb (get_or ns 0 0) 2)
    (Arrived (cond (eqb (get_or ns 1 0) 0) None (Some (record { 0 = get_or ns 2 0 })))
    (record { 0 = get_or ns 3 0; 1 = get_or ns 4 0; 2 = get_or ns 5 0; 3 = get_or ns 6 0 }) (record { 0 = get_or ns 7 0 }))
    (cond (eqb (get_or ns 0 0) 3) Cancelled Filed))

state_back_lem : (s : State) → state_back (state_numbers s) ≡ s
state_back_lem Filed = refl
state_back_lem (Departed t) = refl
state_back_lem (Arrived (Some d) a t) = refl
state_back_lem (Arrived None a t) = refl
state_back_lem Cancelled = refl

pub state_one : (s t : State) → state_numbers s ≡ state_numbers t → s ≡ t
state_one s t e = sym (state_back_lem s) ∙ ap state_back e ∙ state_back_lem t

pub state_long : (s : State) → length (state_numbers s) ≡ 8
state_long Filed = refl
state_long (Departed t) = refl
state_long (Arrived (Some d) a t) = refl
state_long (Arrived None a t) = refl
state_long Cancelled = refl

-- A STATE COMES BACK from its numbers, if it is sound

minute_kept : (t : Clock) → leb t.0 1439 ≡ true → minute_of t.0 ≡ t
minute_kept t e = rw (lt-ltb t.0 65536 (omega (arith, leb-true t.0 1439 e)))

letter_kept : (b : ℕ) → letter b ≡ true → byte_of b ≡ b
letter_kept b e = rw (lt-ltb b 256 (omega (arith, leb-true b 90 (both (leb 65 b) (leb b 90) e).1)))

pub state_meant : (s : State) → sound_state s ≡ true → state_of (state_numbers s) ≡ s
state_meant Filed h = refl
state_meant (Departed t) h = ap Departed (minute_kept t h)
state_meant (Arrived (Some d) a t) h =
    let p = both (leb d.0 1439) _ h in
    let q = both (all letter (four_bytes a)) _ p.1 in
    let r = both (letter a.0) _ q.0 in
    let u = both (letter a.1) _ r.1 in
    let v = both (letter a.2) _ u.1 in
    let w = both (letter a.3) _ v.1 in
    rw (minute_kept d p.0, minute_kept t q.1, letter_kept a.0 r.0, letter_kept a.1 u.0, letter_kept a.2 v.0, letter_kept a.3 w.0)
state_meant (Arrived None a t) h =
    let q = both (all letter (four_bytes a)) _ h in
    let r = both (letter a.0) _ q.0 in
    let u = both (letter a.1) _ r.1 in
    let v = both (letter a.2) _ u.1 in
    let w = both (letter a.3) _ v.1 in
    rw (minute_kept t q.1, letter_kept a.0 r.0, letter_kept a.1 u.0, letter_kept a.2 v.0, letter_kept a.3 w.0)
state_meant Cancelled h = refl

pub handed_back : (held : Strip) → sound held ≡ true → handed_as (state_numbers held.state) ≡ Some held
unfolding handed_as
handed_back held h = rw (state_meant held.state h, same_self (state_numbers held.state))

-- and only from its numbers: numbers that are taken for a state are that state's own
pub handed_only : (ns : List ℕ) (held : Strip) → handed_as ns ≡ Some held → state_numbers held.state ≡ ns
unfolding handed_as
handed_only ns held e = go (same (state_numbers (state_of ns)) ns) refl e
  where
    go : (b : Bool) → same (state_numbers (state_of ns)) ns ≡ b → cond b (Some (record { state = state_of ns })) None ≡ Some held
        → state_numbers held.state ≡ ns
    go true a q =
        let h : record { state = state_of ns } ≡ held = cc in
        ap (λ (x : Strip). state_numbers x.state) (sym h) ∙ same-eq (state_numbers (state_of ns)) ns a
    go false a q = let z : ◌≡◌ {A = ℕ} 0 1 = cc in absurd (omega arith)
