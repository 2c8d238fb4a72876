-- The racks of the board as the code holds it: what stands in a slot, and a rack after one place was changed. Assumes nothing.
use Prim.Native.Nat.{ℕ, zero, suc, ◌+◌, ◌*◌, ◌≤◌, ◌<◌}
use mathlib.Core.Path.{◌≡◌, refl, sym, ap, ◌∙◌}
use mathlib.Core.Bool.{Bool, true, false, cond}
use mathlib.Core.List.{List, [], ◌∷◌}
use native.Mathlib.Omega.{arith}
use lib.Dec.{eqb, leb}
use lib.ListN.{length, take, drop, get_or, set, length-set, get_or-eq_default}
use lib.Seq.{get_or-set_same, get_or-set_other, ext_get_or}
use borrow.Author.Tests.{eqb-true, eqb-false, leb-true}
use Rattle.std.specs.Prelude.{Option, None, Some}
use Rattle.history.specs.Demand3.{Standing}
use Rattle.rooms.specs.declared.Firm.{Firm}
use Rattle.rooms.specs.declared.Firm.TheVariants.{First, Second}
use Rattle.rooms.specs.Rooms.{held_in, lowest}
use Rattle.racks.specs.Places.{Place, in_place, strip_in, vacant, held_at, stands_in, rack_from, base, rack_at, board_in}

pub rack_length : (ps : List Place) (bytes : List ℕ) (i n : ℕ) → length (rack_from ps bytes i n) ≡ n
rack_length ps bytes i zero = refl
rack_length ps bytes i (suc n) = ap suc (rack_length ps bytes (suc i) n)

-- what stands in slot k of n that begin at place i
pub rack_at_lem : (ps : List Place) (bytes : List ℕ) (i n k : ℕ) → k < n → get_or (rack_from ps bytes i n) k None ≡ stands_in ps bytes (i + k)
rack_at_lem ps bytes i zero k h = absurd (omega arith)
rack_at_lem ps bytes i (suc n) zero h = ap (stands_in ps bytes) (omega arith)
rack_at_lem ps bytes i (suc n) (suc k) h = rack_at_lem ps bytes (suc i) n k (omega arith) ∙ ap (stands_in ps bytes) (omega arith)

-- THE BYTES PLAY NO PART in how many strips stand there and which slot is the lowest empty one

held_cons : (h : Place) (a b : List ℕ) (r s : List (Option Standing)) → held_in r ≡ held_in s → held_in (strip_in h a ∷ r) ≡ held_in (strip_in h b ∷ s)
held_cons None a b r s e = e
held_cons (Some p) a b r s e = ap suc e

pub held_any : (ps : List Place) (a b : List ℕ) (i n : ℕ) → held_in (rack_from ps a i n) ≡ held_in (rack_from ps b i n)
held_any ps a b i zero = refl
held_any ps a b i (suc n) =
    held_cons (held_at ps i) (drop (1800 * i) a) (drop (1800 * i) b) (rack_from ps a (suc i) n) (rack_from ps b (suc i) n) (held_any ps a b (suc i) n)

lowest_cons : (h : Place) (a b : List ℕ) (r s : List (Option Standing)) → lowest r ≡ lowest s → lowest (strip_in h a ∷ r) ≡ lowest (strip_in h b ∷ s)
lowest_cons None a b r s e = refl
lowest_cons (Some p) a b r s e = ap suc e

pub lowest_any : (ps : List Place) (a b : List ℕ) (i n : ℕ) → lowest (rack_from ps a i n) ≡ lowest (rack_from ps b i n)
lowest_any ps a b i zero = refl
lowest_any ps a b i (suc n) =
    lowest_cons (held_at ps i) (drop (1800 * i) a) (drop (1800 * i) b) (rack_from ps a (suc i) n) (rack_from ps b (suc i) n) (lowest_any ps a b (suc i) n)

-- OF A FIRM

pub base_most : (f : Firm) → base f ≤ 10
base_most First = omega arith
base_most Second = omega arith

module _ (ps : List Place) (bytes : List ℕ) (f : Firm) where
  pub board_length : length (board_in ps bytes f) ≡ 10
  unfolding rack_at
  board_length = rack_length ps bytes (base f) 10

  pub board_at : (k : ℕ) → k < 10 → get_or (board_in ps bytes f) k None ≡ stands_in ps bytes (base f + k)
  unfolding rack_at
  board_at k h = rack_at_lem ps bytes (base f) 10 k h

  pub board_past : (k : ℕ) → 10 ≤ k → get_or (board_in ps bytes f) k None ≡ None
  board_past k h = get_or-eq_default (board_in ps bytes f) None (omega (arith, board_length))

  pub board_held : held_in (board_in ps [] f) ≡ held_in (board_in ps bytes f)
  unfolding rack_at
  board_held = held_any ps [] bytes (base f) 10

  pub board_lowest : lowest (board_in ps [] f) ≡ lowest (board_in ps bytes f)
  unfolding rack_at
  board_lowest = lowest_any ps [] bytes (base f) 10

-- AFTER ONE PLACE WAS CHANGED

pub in_place_most : (n : ℕ) → in_place n ≤ 1800
in_place_most n = go (leb n 1800) refl
  where
    go : (b : Bool) → leb n 1800 ≡ b → cond b n 1800 ≤ 1800
    go true e = leb-true n 1800 e
    go false e = omega arith

-- a place shows the same where its bytes are the same
pub shows_same : (h : Place) (a b : List ℕ) → ((m : ℕ) → m ≤ 1800 → take m a ≡ take m b) → strip_in h a ≡ strip_in h b
shows_same None a b same = refl
shows_same (Some p) a b same = ap (λ (w : List ℕ). Some (record { strip = w; held = p.held })) (same (in_place p.length) (in_place_most p.length))

module _ (ps : List Place) (bytes after : List ℕ) (i : ℕ) (p : Place) (inside : i < length ps)
    (others : (j m : ℕ) → m ≤ 1800 → (i ≡ j → ⊥) → take m (drop (1800 * j) after) ≡ take m (drop (1800 * j) bytes)) where
  -- another place
  pub other_place : (j : ℕ) → (i ≡ j → ⊥) → stands_in (set ps i p) after j ≡ stands_in ps bytes j
  other_place j apart =
      ap (λ (q : Place). strip_in q (drop (1800 * j) after)) (get_or-set_other ps i j p vacant (λ e. apart (sym e)))
      ∙ shows_same (held_at ps j) (drop (1800 * j) after) (drop (1800 * j) bytes) (λ m h. others j m h apart)

  -- the place itself
  pub this_place : stands_in (set ps i p) after i ≡ strip_in p (drop (1800 * i) after)
  this_place = ap (λ (q : Place). strip_in q (drop (1800 * i) after)) (get_or-set_same ps i p vacant inside)

  -- a rack that has the place has the change in its slot, and a rack that has it not is as it was
  pub rack_with : (from n k : ℕ) → i ≡ from + k → k < n
      → rack_from (set ps i p) after from n ≡ set (rack_from ps bytes from n) k (strip_in p (drop (1800 * i) after))
  rack_with from n k e h =
      ext_get_or None _ _ (rack_length (set ps i p) after from n ∙ sym (length-set (rack_from ps bytes from n) k _ ∙ rack_length ps bytes from n)) each
    where
      at : (q : ℕ) → q < n → (b : Bool) → eqb q k ≡ b
          → stands_in (set ps i p) after (from + q) ≡ get_or (set (rack_from ps bytes from n) k (strip_in p (drop (1800 * i) after))) q None
      at q z true c =
          let same : q ≡ k = eqb-true q k c in
          ap (stands_in (set ps i p) after) (ap (λ (x : ℕ). from + x) same ∙ sym e)
          ∙ this_place
          ∙ sym (get_or-set_same (rack_from ps bytes from n) k (strip_in p (drop (1800 * i) after)) None (omega (arith, rack_length ps bytes from n)))
          ∙ ap (λ (x : ℕ). get_or (set (rack_from ps bytes from n) k (strip_in p (drop (1800 * i) after))) x None) (sym same)
      at q z false c =
          other_place (from + q) (λ d. eqb-false q k c (omega (arith, d, e)))
          ∙ sym (rack_at_lem ps bytes from n q z)
          ∙ sym (get_or-set_other (rack_from ps bytes from n) k q (strip_in p (drop (1800 * i) after)) None (λ d. eqb-false q k c d))

      each : (q : ℕ) → q < length (rack_from (set ps i p) after from n)
          → get_or (rack_from (set ps i p) after from n) q None ≡ get_or (set (rack_from ps bytes from n) k (strip_in p (drop (1800 * i) after))) q None
      each q z =
          let y : q < n = omega (arith, rack_length (set ps i p) after from n) in
          rack_at_lem (set ps i p) after from n q y ∙ at q y (eqb q k) refl

  pub rack_without : (from n : ℕ) → ((k : ℕ) → k < n → i ≡ from + k → ⊥) → rack_from (set ps i p) after from n ≡ rack_from ps bytes from n
  rack_without from n apart = ext_get_or None _ _ (rack_length (set ps i p) after from n ∙ sym (rack_length ps bytes from n)) each
    where
      each : (q : ℕ) → q < length (rack_from (set ps i p) after from n)
          → get_or (rack_from (set ps i p) after from n) q None ≡ get_or (rack_from ps bytes from n) q None
      each q z =
          let y : q < n = omega (arith, rack_length (set ps i p) after from n) in
          rack_at_lem (set ps i p) after from n q y ∙ other_place (from + q) (apart q y) ∙ sym (rack_at_lem ps bytes from n q y)
