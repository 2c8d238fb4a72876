-- `equipment_places::place_field10` meets its contract. Assumes nothing.
use Prim.Native.Nat.{ℕ, ◌+◌, ◌-◌, ◌≤◌}
use mathlib.Core.Path.{◌≡◌, sym, ap, ◌∙◌}
use mathlib.Core.List.{List}
use lib.ListN.{length, take, drop}
use Rattle.text.specs.Words.{Word}
use Rattle.places.proofs.Index.{cut_none, cut_off, cut_on, behind_within}
use Rattle.equipment.specs.Field10.{present}
use Rattle.equipment_places.specs.Places.{side_of, side_place, place10}
use Rattle.equipment_places.proofs.Places.{side_within}
use native.Mathlib.Omega.{arith}
use Rattle.equipment_places.proofs.place_field10.Goals.{After-side_place-2, then-o-s-via-then-o-s, then-o-s-via-else-o-s+then-not-fits_side}
use Rattle.equipment_places.proofs.place_field10.Goals as goal

-- what is said of a list and a limit is said of those of the edition
of_edition : {R : Type 0} → (f : List Word → ℕ → List ℕ → R) → (list list' : List Word) (most most' : ℕ) → (list ≡ list') × (most ≡ most') → (w : List ℕ)
    → (r : R) → r ≡ f list most w → r ≡ f list' most' w
of_edition f list list' most most' e w r h = h ∙ (ap (λ (l : List Word). f l most w) e.0 ∙ ap (λ (n : ℕ). f list' n w) e.1)

pub returns-then-o-s : goal.returns-then-o-s
unfolding place10
returns-then-o-s c =
    let f = c.find-o in
    let told = of_edition side_place _ _ _ _ c.equipment-left.ensures.value _ _ c.side_place.ensures in
    elim c.then-o-s.branch [
      | then-o-s-via-then-o-s w ↦ (
          cut_none 47 (side_of present.left present.most_left) (side_place present.left present.most_left) (side_place present.right present.most_right)
          c.args.s.now f.result f.ensures.value c.side_place.result w.if-o-s.true told
          )
      | then-o-s-via-else-o-s+then-not-fits_side w ↦ (
          let fits = of_edition side_of _ _ _ _ c.equipment-left.ensures.value (take f.result c.args.s.now) _ w.fits_side.ensures in
          cut_off 47 (side_of present.left present.most_left) (side_place present.left present.most_left) (side_place present.right present.most_right)
          c.args.s.now f.result f.ensures.value c.side_place.result (sym fits ∙ w.if-not-fits_side.true) told
          )
    ]

told : (c : After-side_place-2)
    → c.side_place-2.result
    ≡ side_place present.right present.most_right (take (length c.args.s.now - (c.find-o.result + 1)) (drop (c.find-o.result + 1) c.args.s.now))
told c =
    of_edition side_place _ _ _ _ c.surveillance.ensures.value _ _ c.side_place-2.ensures

pub overflow_add-result-2 : goal.overflow_add-result-2
overflow_add-result-2 c =
    let s = c.args.s.now in
    let o = c.find-o.result in
    let h : o + 1 ≤ length s = omega arith in
    omega (
      arith,
      behind_within (side_place present.right present.most_right) (side_within present.right present.most_right) s (o + 1) c.side_place-2.result h
          (told (goal.at.overflow_add-result-2 c).After-side_place-2),
    )

pub returns : goal.returns
unfolding place10
returns c =
    let f = c.find-o in
    let fits = of_edition side_of _ _ _ _ c.equipment-left.ensures.value (take f.result c.args.s.now) _ c.fits_side.ensures in
    cut_on 47 (side_of present.left present.most_left) (side_place present.left present.most_left) (side_place present.right present.most_right)
    c.args.s.now f.result f.ensures.value
    c.side_place-2.result c.if-o-s.false f.ensures.lower_bound.1 (sym fits ∙ c.if-not-fits_side.false)
    (told (goal.at.returns c).After-side_place-2)
