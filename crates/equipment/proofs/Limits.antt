-- The limit of 64 bytes left of the oblique never binds in the present edition: its codes together have 64. Assumes nothing.
use Prim.Native.Nat.{ℕ, ◌+◌, ◌≤◌}
use mathlib.Core.Path.{◌≡◌, refl, sym, ap, ◌∙◌}
use mathlib.Core.Bool.{Bool, true, false, cond, ◌&&◌, ◌||◌, not, false≢true}
use mathlib.Core.List.{List, [], ◌∷◌}
use native.Mathlib.Omega.{arith}
use lib.Dec.{leb}
use lib.ListN.{length, length-append}
use borrow.Author.Tests.{le-leb, not-true}
use Rattle.text.specs.Words.{Word, null, same, elem}
use Rattle.text.proofs.Tests.{both, same-eq, same_self, and_false}
use Rattle.codes.specs.Codes.{concat, codes_fit}
use Rattle.equipment.specs.Field10.{present, only_n, side_fits}

-- a list with one place of w left out
abbrev without : Word → List Word → List Word
without w [] = []
without w (v ∷ vs) = cond (same w v) vs (v ∷ without w vs)

-- the others are still there
elem_without : (w v : Word) → same w v ≡ false → (list : List Word) → elem v list ≡ true → elem v (without w list) ≡ true
elem_without w v n [] e = e
elem_without w v n (u ∷ us) e = go (elem_without w v n us) (same w u) refl (same v u) refl e
  where
    go : (elem v us ≡ true → elem v (without w us) ≡ true)
        → (a : Bool) → same w u ≡ a → (b : Bool) → same v u ≡ b
        → cond b true (elem v us) ≡ true → elem v (cond a us (u ∷ without w us)) ≡ true
    go ih true p true q h = absurd (false≢true (sym n ∙ ap (same w) (same-eq v u q ∙ sym (same-eq w u p)) ∙ same_self w))
    go ih true p false q h = h
    go ih false p true q h = rw q
    go ih false p false q h = rw q (ih h)

-- and w's bytes are gone
length_without : (w : Word) (list : List Word) → elem w list ≡ true → length w + length (concat (without w list)) ≡ length (concat list)
length_without w [] e = absurd (false≢true e)
length_without w (u ∷ us) e = go (length_without w us) (same w u) refl e
  where
    go : (elem w us ≡ true → length w + length (concat (without w us)) ≡ length (concat us))
        → (a : Bool) → same w u ≡ a
        → cond a true (elem w us) ≡ true → length w + length (concat (cond a us (u ∷ without w us))) ≡ length (concat (u ∷ us))
    go ih true p h = let q : w ≡ u = same-eq w u p in simp length-append (omega (arith, ap length q))
    go ih false p h = let q = ih h in simp length-append (omega arith)

-- codes among which w is not are codes of the list without it
fit_without : (list : List Word) (w : Word) (ws : List Word) → elem w ws ≡ false → codes_fit list ws ≡ true → codes_fit (without w list) ws ≡ true
fit_without list w [] n e = refl
fit_without list w (v ∷ ws) n e = go (fit_without list w ws) (same w v) refl n
  where
    h : (elem v list ≡ true) × ((not (elem v ws) && codes_fit list ws) ≡ true)
    h = both (elem v list) (not (elem v ws) && codes_fit list ws) e

    k : (not (elem v ws) ≡ true) × (codes_fit list ws ≡ true)
    k = both (not (elem v ws)) (codes_fit list ws) h.1

    go : (elem w ws ≡ false → codes_fit list ws ≡ true → codes_fit (without w list) ws ≡ true)
        → (a : Bool) → same w v ≡ a → cond a true (elem w ws) ≡ false → codes_fit (without w list) (v ∷ ws) ≡ true
    go ih true p q = absurd (false≢true (sym q))
    go ih false p q = rw (elem_without w v p list h.0, k.0) (ih q k.1)

-- codes of a list, none twice, have no more bytes than all its codes together
pub fit_length : (list ws : List Word) → codes_fit list ws ≡ true → length (concat ws) ≤ length (concat list)
fit_length list [] e = omega arith
fit_length list (w ∷ ws) e =
    let h = both (elem w list) _ e in
    let k = both (not (elem w ws)) (codes_fit list ws) h.1 in
    let left_out = fit_without list w ws (not-true (elem w ws) k.0) k.1 in
    let less : length (concat ws) ≤ length (concat (without w list)) = fit_length (without w list) ws left_out in
    let with-w = length_without w list h.0 in
    simp length-append (omega arith)

-- where all codes of a list are within the limit, the limit says nothing
no_limit : (list : List Word) (most : ℕ) → length (concat list) ≤ most
    → (ws : List Word) → side_fits list most ws ≡ (only_n ws || (not (null ws) && codes_fit list ws))
no_limit list most l ws = go (codes_fit list ws) refl
  where
    go : (b : Bool) → codes_fit list ws ≡ b
        → (only_n ws || (not (null ws) && (leb (length (concat ws)) most && b))) ≡ (only_n ws || (not (null ws) && b))
    go true p =
        let k = fit_length list ws p in
        let m : length (concat ws) ≤ most = omega arith in
        rw (le-leb (length (concat ws)) most m)
    go false p = rw (and_false (leb (length (concat ws)) most) false refl)

-- THE PRESENT EDITION, left of the oblique

all_left : length (concat present.left) ≡ present.most_left
unfolding present
all_left = refl

pub left_unlimited : (ws : List Word)
    → side_fits present.left present.most_left ws ≡ (only_n ws || (not (null ws) && codes_fit present.left ws))
left_unlimited ws = no_limit present.left present.most_left (omega (arith, all_left)) ws
