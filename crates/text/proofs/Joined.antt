-- What cutting and joining do to one another. Assumes nothing.
use Prim.Native.Nat.{ℕ, suc}
use mathlib.Core.Path.{◌≡◌, refl, sym, ap, ◌∙◌}
use mathlib.Core.Bool.{Bool, true, false, cond, ◌&&◌, not, false≢true}
use mathlib.Core.List.{List, [], ◌∷◌, ◌++◌}
use native.Mathlib.Omega.{arith}
use lib.Dec.{ltb, eqb, leb-suc-suc}
use lib.ListN.{length, take, drop, length-append}
use lib.Seq.{take-append_seam}
use borrow.Author.Tests.{eq-eqb, eqb-true, lt-ltb, le-ltb}
use Rattle.text.specs.Words.{Word, split, onto, join, up_to, holds, before, behind, all, free}
use Rattle.text.proofs.Tests.{both}

-- PIECES, joined, are what was cut

join-onto : (c b : ℕ) (ws : List Word) → join c (onto b ws) ≡ b ∷ join c ws
join-onto c b [] = refl
join-onto c b (w ∷ []) = refl
join-onto c b (w ∷ (v ∷ ws)) = refl

gap_onto : (c b : ℕ) (ws : List Word) → join c ([] ∷ onto b ws) ≡ c ∷ join c (onto b ws)
gap_onto c b [] = refl
gap_onto c b (w ∷ ws) = refl

gap : (c : ℕ) (s : List ℕ) → join c ([] ∷ split c s) ≡ c ∷ join c (split c s)
gap c [] = refl
gap c (b ∷ s) = go (eqb b c)
  where
    go : (t : Bool) → join c ([] ∷ cond t ([] ∷ split c s) (onto b (split c s))) ≡ c ∷ join c (cond t ([] ∷ split c s) (onto b (split c s)))
    go true = refl
    go false = gap_onto c b (split c s)

pub join-split : (c : ℕ) (s : List ℕ) → join c (split c s) ≡ s
join-split c [] = refl
join-split c (b ∷ s) = go (join-split c s) (eqb b c) refl
  where
    go : join c (split c s) ≡ s → (t : Bool) → eqb b c ≡ t → join c (cond t ([] ∷ split c s) (onto b (split c s))) ≡ b ∷ s
    go ih true e = gap c s ∙ cc (eqb-true b c e)
    go ih false e = join-onto c b (split c s) ∙ ap (λ (t : List ℕ). b ∷ t) ih

-- PIECES without c, joined, are cut into themselves

pub split_one : (c : ℕ) (w : Word) → free c w ≡ true → split c w ≡ w ∷ []
split_one c [] e = refl
split_one c (b ∷ w) e = go (split_one c w) (eqb b c) e
  where
    go : (free c w ≡ true → split c w ≡ w ∷ []) → (t : Bool) → (not t && free c w) ≡ true → cond t ([] ∷ split c w) (onto b (split c w)) ≡ (b ∷ w) ∷ []
    go ih true q = absurd (false≢true q)
    go ih false q = ap (onto b) (ih q)

pub split_first : (c : ℕ) (w : Word) (t : List ℕ) → free c w ≡ true → split c (w ++ (c ∷ t)) ≡ w ∷ split c t
split_first c [] t e = rw (eq-eqb c c refl)
split_first c (b ∷ w) t e = go (split_first c w t) (eqb b c) e
  where
    go : (free c w ≡ true → split c (w ++ (c ∷ t)) ≡ w ∷ split c t)
        → (x : Bool) → (not x && free c w) ≡ true → cond x ([] ∷ split c (w ++ (c ∷ t))) (onto b (split c (w ++ (c ∷ t)))) ≡ (b ∷ w) ∷ split c t
    go ih true q = absurd (false≢true q)
    go ih false q = ap (onto b) (ih q)

pub split-join : (c : ℕ) (w : Word) (ws : List Word) → all (free c) (w ∷ ws) ≡ true → split c (join c (w ∷ ws)) ≡ w ∷ ws
split-join c w [] e = split_one c w (both (free c w) true e).0
split-join c w (v ∷ ws) e =
    let h = both (free c w) (all (free c) (v ∷ ws)) e in
    split_first c w (join c (v ∷ ws)) h.0 ∙ ap (λ (t : List Word). w ∷ t) (split-join c v ws h.1)

-- THE FIRST c

-- what stands before it, it, and what stands behind it
pub seam : (c : ℕ) (w : Word) → holds c w ≡ true → before c w ++ (c ∷ behind c w) ≡ w
seam c [] h = absurd (false≢true h)
seam c (b ∷ w) h = go (seam c w) (eqb b c) refl h
  where
    go : (holds c w ≡ true → before c w ++ (c ∷ behind c w) ≡ w)
        → (t : Bool) → eqb b c ≡ t → ltb (cond t 0 (suc (up_to c w))) (suc (length w)) ≡ true
        → take (cond t 0 (suc (up_to c w))) (b ∷ w) ++ (c ∷ drop (cond t 0 (suc (up_to c w))) w) ≡ b ∷ w
    go ih true e h = cc (eqb-true b c e)
    go ih false e h = ap (λ (t : List ℕ). b ∷ t) (ih (sym (leb-suc-suc (suc (up_to c w)) (length w)) ∙ h))

-- it is found where it stands
pub up_to_seam : (c : ℕ) (k f : Word) → free c k ≡ true → up_to c (k ++ (c ∷ f)) ≡ length k
up_to_seam c [] f e = rw (eq-eqb c c refl)
up_to_seam c (b ∷ k) f e = go (up_to_seam c k f) (eqb b c) e
  where
    go : (free c k ≡ true → up_to c (k ++ (c ∷ f)) ≡ length k)
        → (t : Bool) → (not t && free c k) ≡ true → cond t 0 (suc (up_to c (k ++ (c ∷ f)))) ≡ suc (length k)
    go ih true q = absurd (false≢true q)
    go ih false q = ap suc (ih q)

past : (c : ℕ) (k f : Word) → drop (suc (length k)) (k ++ (c ∷ f)) ≡ f
past c [] f = refl
past c (b ∷ k) f = past c k f

module _ (c : ℕ) (k f : Word) (e : free c k ≡ true) where
  pub holds_seam : holds c (k ++ (c ∷ f)) ≡ true
  holds_seam = rw (up_to_seam c k f e) (lt-ltb (length k) (length (k ++ (c ∷ f))) (simp length-append (omega arith)))

  pub before_seam : before c (k ++ (c ∷ f)) ≡ k
  before_seam = rw (up_to_seam c k f e) (take-append_seam k (c ∷ f))

  pub behind_seam : behind c (k ++ (c ∷ f)) ≡ f
  behind_seam = rw (up_to_seam c k f e) (past c k f)

-- where there is none
pub up_to-free : (c : ℕ) (w : Word) → free c w ≡ true → up_to c w ≡ length w
up_to-free c [] e = refl
up_to-free c (b ∷ w) e = go (up_to-free c w) (eqb b c) e
  where
    go : (free c w ≡ true → up_to c w ≡ length w) → (t : Bool) → (not t && free c w) ≡ true → cond t 0 (suc (up_to c w)) ≡ suc (length w)
    go ih true q = absurd (false≢true q)
    go ih false q = ap suc (ih q)

pub holds-free : (c : ℕ) (w : Word) → free c w ≡ true → holds c w ≡ false
holds-free c w e = rw (up_to-free c w e) (le-ltb (length w) (length w) (omega arith))
