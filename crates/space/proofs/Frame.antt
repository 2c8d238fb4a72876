-- A message in its frame: the first `(` and the last `)` stay, and the fields between them are, one by one, the reductions of those sent. Assumes nothing.
use Prim.Native.Nat.{ℕ, suc, ◌+◌, ◌-◌, ◌≤◌, ◌<◌}
use mathlib.Core.Path.{◌≡◌, refl, ap, ◌∙◌}
use mathlib.Core.Bool.{true}
use mathlib.Core.List.{List, [], ◌∷◌, ◌++◌, map}
use native.Mathlib.Omega.{arith}
use lib.ListN.{length, get_or, take, drop, length-append}
use lib.Seq.{split_at, take_at, get_or_at}
use Rattle.text.specs.Words.{split}
use Rattle.text.proofs.Index.{drop_end}
use Rattle.space.specs.Reduced.{reduced_from, reduced}
use Rattle.space.specs.Fields.{reduced_field, inner, Framed}
use Rattle.space.proofs.Bytes.{opening_solid, closing_solid, opening_opens, closing_closes}
use Rattle.space.proofs.Fields.{enclosed, field_by_field}

-- THE FIRST `(` AND THE LAST `)` STAY

pub first_stays : (m : List ℕ) → reduced (40 ∷ m) ≡ 40 ∷ reduced_from true m
unfolding reduced reduced_from
first_stays m = rw (opening_solid, opening_opens)

pub framed : (x : List ℕ) → reduced (40 ∷ (x ++ (41 ∷ []))) ≡ 40 ∷ (reduced_field x ++ (41 ∷ []))
unfolding reduced_field reduced_from
framed x = first_stays (x ++ (41 ∷ [])) ∙ ap (λ (l : List ℕ). 40 ∷ l) (enclosed 41 [] closing_solid closing_closes true x)

-- A MESSAGE IN ITS FRAME

-- it is `(`, what stands between, and `)`
pub frame : (m : List ℕ) → Framed m → m ≡ 40 ∷ (inner m ++ (41 ∷ []))
frame [] f = let h = f.long in absurd (omega arith)
frame (b ∷ t) f =
    let h : 2 ≤ suc (length t) = f.long in
    let j = suc (length t) - 2 in
    let i : suc (length t) - 1 ≡ suc j = omega arith in
    let l : j < length t = omega arith in
    let last : get_or t j 0 ≡ 41 = rw i at f.last in
    let none : drop (suc j) t ≡ [] = drop_end t (suc j) (omega arith) in
    let whole : t ≡ take j t ++ (41 ∷ []) = split_at t j 0 l ∙ cc (last, none) in
    cc f.first

module _ (x : List ℕ) where
  pub frame_inner : inner (40 ∷ (x ++ (41 ∷ []))) ≡ x
  frame_inner =
      let e : length x ≡ suc (length (x ++ (41 ∷ []))) - 2 = rw (length-append x (41 ∷ [])) (omega arith) in
      take_at x (41 ∷ []) (suc (length (x ++ (41 ∷ []))) - 2) e

  pub frame_of : Framed (40 ∷ (x ++ (41 ∷ [])))
  frame_of =
      let l : length (x ++ (41 ∷ [])) ≡ length x + 1 = length-append x (41 ∷ []) in
      let e : suc (length (x ++ (41 ∷ []))) - 1 ≡ suc (length x) = omega arith in
      record { long = omega arith; first = refl; last = rw e (get_or_at x 41 [] 0 (length x) refl) }

-- and so is its reduction, with what stands between reduced as a field
module _ (m : List ℕ) (f : Framed m) where
  pub frame_reduced : reduced m ≡ 40 ∷ (reduced_field (inner m) ++ (41 ∷ []))
  frame_reduced = ap reduced (frame m f) ∙ framed (inner m)

  pub frame_stays : Framed (reduced m)
  frame_stays = rw frame_reduced (frame_of (reduced_field (inner m)))

  pub inner_reduced : inner (reduced m) ≡ reduced_field (inner m)
  inner_reduced = rw frame_reduced (frame_inner (reduced_field (inner m)))

  -- the fields of the reduction are, one by one, the reductions of the fields as sent
  pub fields_reduced : split 45 (inner (reduced m)) ≡ map reduced_field (split 45 (inner m))
  fields_reduced = ap (split 45) inner_reduced ∙ field_by_field (inner m)
