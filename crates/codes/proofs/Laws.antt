-- Codes, cut and joined: at an index, and what cutting and joining do to one another. Assumes nothing.
use Prim.Native.Nat.{ℕ, suc, ◌+◌, ◌-◌, ◌<◌, ◌≤◌}
use mathlib.Core.Path.{◌≡◌, refl, sym, ap, ◌∙◌}
use mathlib.Core.Bool.{Bool, true, false, cond, ◌&&◌, not, false≢true}
use mathlib.Core.List.{List, [], ◌∷◌}
use native.Mathlib.Omega.{arith}
use lib.Dec.{eqb, leb}
use lib.ListN.{length, take, drop, get_or}
use borrow.Author.Tests.{le-leb}
use Rattle.alphabet.specs.Alphabet.{digit}
use Rattle.text.specs.Words.{Word, null, all, elem, free}
use Rattle.text.proofs.Index.{drop_here, drop_end}
use Rattle.text.proofs.Tests.{both, of_elem, all_append}
use Rattle.codes.specs.Codes.{codes, concat, codes_fit, shaped}

-- JOINED, the codes are what was cut
pub concat_codes : (s : List ℕ) → concat (codes s) ≡ s
concat_codes [] = refl
concat_codes (c ∷ []) = refl
concat_codes (c ∷ (d ∷ s)) = go (concat_codes s) (concat_codes (d ∷ s)) (digit d)
  where
    go : concat (codes s) ≡ s → concat (codes (d ∷ s)) ≡ d ∷ s
        → (b : Bool) → concat (cond b ((c ∷ (d ∷ [])) ∷ codes s) ((c ∷ []) ∷ codes (d ∷ s))) ≡ c ∷ (d ∷ s)
    go p q true = ap (λ (t : List ℕ). c ∷ (d ∷ t)) p
    go p q false = ap (λ (t : List ℕ). c ∷ t) q

-- ONE CODE AT AN INDEX, as Rattle says it of `&s[at..e]`
module _ (s : List ℕ) (at : ℕ) (h : at < length s) where
  one : at + 1 - at ≡ 1
  one = omega arith

  two : at + 1 + 1 - at ≡ 2
  two = omega arith

  pub code_last : length s ≤ at + 1 → codes (drop at s) ≡ take (at + 1 - at) (drop at s) ∷ codes (drop (at + 1) s)
  code_last l = rw (one, drop_here s at h, drop_end s (at + 1) l)

  pub code_one : at + 1 < length s → digit (get_or s (at + 1) 0) ≡ false → codes (drop at s) ≡ take (at + 1 - at) (drop at s) ∷ codes (drop (at + 1) s)
  code_one l e = rw (one, drop_here s at h, drop_here s (at + 1) l, e)

  pub code_two : at + 1 < length s → digit (get_or s (at + 1) 0) ≡ true → codes (drop at s) ≡ take (at + 1 + 1 - at) (drop at s) ∷ codes (drop (at + 1 + 1) s)
  code_two l e = rw (two, drop_here s at h, drop_here s (at + 1) l, e)

-- some codes, of some bytes
pub null_codes : (c : ℕ) (s : List ℕ) → null (codes (c ∷ s)) ≡ false
null_codes c [] = refl
null_codes c (d ∷ s) = go (digit d)
  where
    go : (b : Bool) → null (cond b ((c ∷ (d ∷ [])) ∷ codes s) ((c ∷ []) ∷ codes (d ∷ s))) ≡ false
    go true = refl
    go false = refl

pub some_codes_lem : (s : List ℕ) → not (null (codes s)) ≡ leb 1 (length s)
some_codes_lem [] = refl
some_codes_lem (c ∷ s) = ap not (null_codes c s) ∙ sym (le-leb 1 (suc (length s)) (omega arith))

-- CODES THAT CAN BE CUT OUT AGAIN

-- codes of a list of such codes are such codes
pub fit_shaped : (list : List Word) → all shaped list ≡ true → (ws : List Word) → codes_fit list ws ≡ true → all shaped ws ≡ true
fit_shaped list a [] e = refl
fit_shaped list a (w ∷ ws) e =
    let h = both (elem w list) _ e in
    rw (of_elem shaped list a w h.0) (fit_shaped list a ws (both (not (elem w ws)) _ h.1).1)

-- joined, they are cut into themselves

-- the content begins with no digit
abbrev starts : List ℕ → Bool
starts [] = true
starts (c ∷ s) = not (digit c)

one_code : (c : ℕ) (s : List ℕ) → starts s ≡ true → codes (c ∷ s) ≡ (c ∷ []) ∷ codes s
one_code c [] e = refl
one_code c (d ∷ s) e = go (digit d) e
  where
    go : (b : Bool) → not b ≡ true → cond b ((c ∷ (d ∷ [])) ∷ codes s) ((c ∷ []) ∷ codes (d ∷ s)) ≡ (c ∷ []) ∷ codes (d ∷ s)
    go true p = absurd (false≢true p)
    go false p = refl

pub starts_concat : (ws : List Word) → all shaped ws ≡ true → starts (concat ws) ≡ true
starts_concat [] e = refl
starts_concat ([] ∷ ws) e = absurd (false≢true e)
starts_concat ((c ∷ []) ∷ ws) e = (both (not (digit c)) _ (both _ (all shaped ws) e).0).0
starts_concat ((c ∷ (d ∷ [])) ∷ ws) e = (both (not (digit c)) _ (both _ _ (both _ (all shaped ws) e).0).0).0
starts_concat ((c ∷ (d ∷ (x ∷ w))) ∷ ws) e = absurd (false≢true e)

pub codes_concat : (ws : List Word) → all shaped ws ≡ true → codes (concat ws) ≡ ws
codes_concat [] e = refl
codes_concat ([] ∷ ws) e = absurd (false≢true e)
codes_concat ((c ∷ []) ∷ ws) e =
    let h = both (shaped (c ∷ [])) (all shaped ws) e in
    one_code c (concat ws) (starts_concat ws h.1) ∙ ap (λ (t : List Word). (c ∷ []) ∷ t) (codes_concat ws h.1)
codes_concat ((c ∷ (d ∷ [])) ∷ ws) e =
    let h = both (shaped (c ∷ (d ∷ []))) (all shaped ws) e in
    let p : digit d ≡ true = (both (digit d) _ (both (not (digit c) && not (eqb c 47)) (digit d && not (eqb d 47)) h.0).1).0 in
    rw p (ap (λ (t : List Word). (c ∷ (d ∷ [])) ∷ t) (codes_concat ws h.1))
codes_concat ((c ∷ (d ∷ (x ∷ w))) ∷ ws) e = absurd (false≢true e)

shaped_free : (w : Word) → shaped w ≡ true → free 47 w ≡ true
shaped_free [] e = refl
shaped_free (c ∷ []) e = rw (both (not (digit c)) _ e).1
shaped_free (c ∷ (d ∷ [])) e =
    let h = both (not (digit c) && not (eqb c 47)) (digit d && not (eqb d 47)) e in
    rw ((both (not (digit c)) _ h.0).1, (both (digit d) _ h.1).1)
shaped_free (c ∷ (d ∷ (x ∷ w))) e = absurd (false≢true e)

pub concat-free : (ws : List Word) → all shaped ws ≡ true → free 47 (concat ws) ≡ true
concat-free [] e = refl
concat-free (w ∷ ws) e =
    let h = both (shaped w) (all shaped ws) e in
    all_append _ w (concat ws) (shaped_free w h.0) (concat-free ws h.1)

-- a test that every byte of a list's codes passes is passed by every byte of codes of that list
pub fit_all_lem : (p : ℕ → Bool) (list : List Word) → all (all p) list ≡ true → (ws : List Word) → codes_fit list ws ≡ true → all p (concat ws) ≡ true
fit_all_lem p list a [] e = refl
fit_all_lem p list a (w ∷ ws) e =
    let h = both (elem w list) _ e in
    all_append p w (concat ws) (of_elem (all p) list a w h.0) (fit_all_lem p list a ws (both (not (elem w ws)) _ h.1).1)
