-- The last field of a text, found hyphen by hyphen. Assumes nothing.
use Prim.Native.Nat.{ℕ, suc, ◌+◌, ◌-◌, ◌<◌}
use mathlib.Core.Path.{◌≡◌, refl, sym, ap, ◌∙◌}
use mathlib.Core.List.{List, [], ◌∷◌}
use native.Mathlib.Omega.{arith}
use lib.ListN.{length, take, drop, get_or}
use Rattle.text.specs.Words.{Word, split, up_to}
use Rattle.text.proofs.Index.{split_at, after_here, after_end}
use Rattle.strip.specs.Updating.{arrival}

arrival_behind : (w : Word) (l : List Word) → 0 < length l → arrival (w ∷ l) ≡ arrival l
arrival_behind w [] h = absurd (omega arith)
arrival_behind w (v ∷ l) h =
    let z : suc (suc (length l)) - 1 ≡ suc (suc (length l) - 1) = omega arith in
    ap (λ (i : ℕ). get_or (w ∷ (v ∷ l)) i []) z

module _ (s : List ℕ) (at e : ℕ) (end : e ≡ at + up_to 45 (drop at s)) (u : Word) (so_far : arrival (split 45 (drop at s)) ≡ u) where
  pub last_here : e ≡ length s → take (length s - at) (drop at s) ≡ u
  last_here h =
      let one : split 45 (drop at s) ≡ take (e - at) (drop at s) ∷ []
      = split_at 45 s at e end ∙ ap (λ (l : List Word). take (e - at) (drop at s) ∷ l) (after_end 45 s e (omega arith)) in
      ap (λ (k : ℕ). take (k - at) (drop at s)) (sym h) ∙ sym (ap arrival one) ∙ so_far

  pub last_next : e < length s → arrival (split 45 (drop (e + 1) s)) ≡ u
  last_next h =
      let more : split 45 (drop at s) ≡ take (e - at) (drop at s) ∷ split 45 (drop (e + 1) s)
      = split_at 45 s at e end ∙ ap (λ (l : List Word). take (e - at) (drop at s) ∷ l) (after_here 45 s e h) in
      let some : 0 < length (split 45 (drop (e + 1) s)) = omega (arith, ap length (split_at 45 s (e + 1) (e + 1 + up_to 45 (drop (e + 1) s)) refl)) in
      sym (arrival_behind (take (e - at) (drop at s)) (split 45 (drop (e + 1) s)) some) ∙ sym (ap arrival more) ∙ so_far
