-- A firm's ten places, as a part of all places: how many strips stand in them, and which is the first in which none does. Assumes nothing.
use Prim.Native.Nat.{ℕ, zero, suc, ◌+◌, ◌-◌, ◌*◌, ◌≤◌}
use mathlib.Core.Path.{◌≡◌, refl, sym, ap, ap₂, ◌∙◌}
use mathlib.Core.Bool.{Bool, true, false, cond}
use mathlib.Core.List.{List, [], ◌∷◌, map}
use native.Mathlib.Omega.{arith}
use lib.Dec.{ltb}
use lib.ListN.{length, take, drop}
use Rattle.std.proofs.Math.Seq.{drop-cons}
use Rattle.std.specs.Prelude.{Option, None, Some, is_some, is_none, unwrap_or, filter}
use Rattle.std.specs.List.{position_or_len}
use Rattle.std.proofs.lemmas.Bool.{ltb-false}
use Rattle.std.proofs.lemmas.List.Recursion.{is_count_by, is_position_or_len}
use Rattle.std.proofs.lemmas.List.Sums.{length-filter, prefix_len-le-length}
use Rattle.history.specs.Demand3.{Standing}
use Rattle.rooms.specs.Rooms.{held_in, lowest}
use Rattle.racks.specs.Places.{Place, strip_in, vacant, held_at, rack_from, rack_at}

-- what stands in places without bytes
abbrev bare : List Place → List (Option Standing)
bare ps = map (λ p. strip_in p []) ps

no_bytes : (n : ℕ) → drop {A = ℕ} n [] ≡ []
no_bytes zero = refl
no_bytes (suc n) = refl

laid : (ps : List Place) (i n : ℕ) → i + n ≤ length ps → rack_from ps [] i n ≡ bare (take n (drop i ps))
laid ps i zero h = refl
laid ps i (suc n) h =
    ap₂ (λ (b : List ℕ) (r : List (Option Standing)). strip_in (held_at ps i) b ∷ r) (no_bytes (1800 * i)) (laid ps (suc i) n (omega arith))
    ∙ sym (ap (λ (l : List Place). bare (take (suc n) l)) (drop-cons ps i vacant (omega arith)))

one_held : (p : Place) (ps : List Place) → held_in (bare (p ∷ ps)) ≡ cond (is_some p) (1 + held_in (bare ps)) (held_in (bare ps))
one_held None ps = refl
one_held (Some p) ps = omega arith

one_lowest : (p : Place) (ps : List Place) → lowest (bare (p ∷ ps)) ≡ cond (is_none p) 0 (1 + lowest (bare ps))
one_lowest None ps = refl
one_lowest (Some p) ps = omega arith

unwrapped : (t : Bool) (p n : ℕ) → (t ≡ false → p ≡ n) → unwrap_or (cond t (Some p) None) n ≡ p
unwrapped true p n z = refl
unwrapped false p n z = sym (z refl)

module _ (ps : List Place) (from : ℕ) (inside : from + 10 ≤ length ps) where
  abbrev ten : List Place
  ten = take (from + 10 - from) (drop from ps)

  ten_laid : rack_at ps [] from ≡ bare ten
  unfolding rack_at
  ten_laid =
      let e : 10 ≡ from + 10 - from = omega arith in laid ps from 10 inside ∙ ap (λ (n : ℕ). bare (take n (drop from ps))) e

  pub held_counted : length (filter is_some ten) ≡ held_in (rack_at ps [] from)
  held_counted =
      length-filter is_some ten
      ∙ sym (is_count_by (λ (qs : List Place). held_in (bare qs)) is_some refl one_held ten)
      ∙ sym (ap held_in ten_laid)

  pub lowest_found : (r : Option ℕ) → r ≡ cond (ltb (position_or_len is_none ten) (length ten)) (Some (position_or_len is_none ten)) None
      → length ten ≡ 10 → unwrap_or r 10 ≡ lowest (rack_at ps [] from)
  lowest_found r e long =
      let p = position_or_len is_none ten in
      let most : p ≤ length ten = prefix_len-le-length _ ten in
      ap (λ (o : Option ℕ). unwrap_or o 10) e
      ∙ unwrapped (ltb p (length ten)) p 10 (λ z. omega (arith, most, long, ltb-false p (length ten) z))
      ∙ sym (is_position_or_len (λ (qs : List Place). lowest (bare qs)) is_none refl one_lowest ten)
      ∙ sym (ap lowest ten_laid)
