-- What stands in a firm's slot, from what its place holds. Assumes nothing.
use Prim.Native.Nat.{ℕ, ◌+◌, ◌*◌, ◌≤◌, ◌<◌}
use mathlib.Core.Path.{◌≡◌, refl, sym, ap, ◌∙◌}
use mathlib.Core.Bool.{Bool, true, false, cond}
use mathlib.Core.List.{List, []}
use native.Mathlib.Omega.{arith}
use lib.Dec.{leb}
use lib.ListN.{drop, get_or}
use borrow.Author.Tests.{le-leb, leb-true, leb-false}
use Rattle.std.specs.Prelude.{None, Some}
use Rattle.rooms.specs.declared.Firm.{Firm}
use Rattle.racks.specs.declared.Flight.{Flight}
use Rattle.racks.specs.Places.{Place, strip_in, held_at, base, board_in, held_to, shown_as, shown_to, part_of}
use Rattle.racks.proofs.Racks.{board_at, board_past}

module _ (f : Firm) (slot : ℕ) (ps : List Place) where
  -- the slots past the ninth hold nothing
  pub held_past : 10 ≤ slot → None ≡ held_to f slot ps
  held_past h = rw (le-leb 10 slot h)

  -- where a flight stands the slot is one of the ten
  pub flight_inside : (p : Flight) → held_to f slot ps ≡ Some p → slot < 10
  flight_inside p e = go (leb 10 slot) refl e
    where
      go : (b : Bool) → leb 10 slot ≡ b → cond b None (held_at ps (base f + slot)) ≡ Some p → slot < 10
      go true q e = absurd (let z : ◌≡◌ {A = ℕ} 0 1 = cc in omega arith)
      go false q e = leb-false 10 slot q

  module _ (bytes : List ℕ) where
    abbrev pub there : List ℕ
    there = drop (1800 * (base f + slot)) bytes

    pub slot_stands : get_or (board_in ps bytes f) slot None ≡ strip_in (held_to f slot ps) there
    slot_stands = go (leb 10 slot) refl
      where
        go : (b : Bool) → leb 10 slot ≡ b → get_or (board_in ps bytes f) slot None ≡ strip_in (cond b None (held_at ps (base f + slot))) there
        go true q = board_past ps bytes f slot (leb-true 10 slot q)
        go false q = board_at ps bytes f slot (leb-false 10 slot q)

    pub slot_held : (h : Place) → h ≡ held_to f slot ps → get_or (board_in ps bytes f) slot None ≡ strip_in h there
    slot_held h e = slot_stands ∙ sym (ap (λ (x : Place). strip_in x there) e)

    -- the look at it
    pub shows_none : (h : Place) → h ≡ held_to f slot ps → h ≡ None → [] ≡ shown_to f slot ps bytes
    shows_none h e z = sym (ap shown_as (slot_held h e ∙ ap (λ (x : Place). strip_in x there) z))

    pub shows_strip : (h : Place) (p : Flight) (i : ℕ) → h ≡ held_to f slot ps → h ≡ Some p → i ≡ base f + slot
        → part_of bytes i p.length ≡ shown_to f slot ps bytes
    shows_strip h p i e z q =
        ap (λ (x : ℕ). part_of bytes x p.length) q ∙ sym (ap shown_as (slot_held h e ∙ ap (λ (x : Place). strip_in x there) z))
