-- The place of codes is right, for every list of codes. Assumes nothing.
use Prim.Native.Nat.{ℕ, zero, suc, ◌+◌, ◌<◌, ◌≤◌}
use mathlib.Core.Path.{◌≡◌, refl, sym, ap, ◌∙◌, subst}
use mathlib.Core.Bool.{Bool, true, false, ◌&&◌, ◌||◌, not, cond, false≢true, or-true}
use mathlib.Core.List.{List, [], ◌∷◌, ◌++◌, append_assoc, append-nil}
use native.Mathlib.Omega.{arith}
use native.Mathlib.Nat.{not-suc-le-zero}
use lib.Dec.{leb, eqb}
use lib.ListN.{length, length-append}
use borrow.Author.Tests.{leb-true, le-leb, eqb-true, eqb-false, not-true}
use Rattle.alphabet.specs.Text.{bytes}
use Rattle.alphabet.specs.Alphabet.{digit}
use Rattle.text.specs.Words.{Word, same, elem}
use Rattle.text.proofs.Tests.{both}
use Rattle.shape.proofs.Numbers.{digit_range}
use Rattle.codes.specs.Codes.{codes, codes_fit}
use Rattle.places.specs.Place.{IsPlace}
use Rattle.places.specs.Parts.{passes}
use Rattle.places.proofs.Leaves.{passes_place}
use Rattle.code_places.specs.Codes.{some_codes, with_digit, goes_on, codes_place}

-- CUTTING: behind some bytes a code ends, or the digit behind them belongs to the last

data Ends (p t : List ℕ) : Type 0 where
  here : codes (p ++ t) ≡ codes p ++ codes t → Ends p t
  behind_digit : (d : ℕ) (u : List ℕ) → t ≡ d ∷ u → digit d ≡ true → codes (p ++ t) ≡ codes (p ++ (d ∷ [])) ++ codes u → Ends p t

-- the same with a code w in front
with : (w : Word) (p q t : List ℕ) → ((r : List ℕ) → codes (q ++ r) ≡ w ∷ codes (p ++ r)) → Ends p t → Ends q t
with w p q t e (here h) =
    let whole : codes q ≡ w ∷ codes p = ap codes (sym (append-nil q)) ∙ e [] ∙ ap (λ (l : List ℕ). w ∷ codes l) (append-nil p) in
    here (e t ∙ ap (λ (l : List Word). w ∷ l) h ∙ sym (ap (λ (l : List Word). l ++ codes t) whole))
with w p q t e (behind_digit d u z g h) =
    behind_digit d u z g (e t ∙ ap (λ (l : List Word). w ∷ l) h ∙ sym (ap (λ (l : List Word). l ++ codes u) (e (d ∷ []))))

one_code : (c : ℕ) (t : List ℕ) → Ends (c ∷ []) t
one_code c [] = here refl
one_code c (d ∷ u) = go (digit d) refl
  where
    go : (x : Bool) → digit d ≡ x → Ends (c ∷ []) (d ∷ u)
    go true e = behind_digit d u refl e (rw e)
    go false e = here (rw e)

ends : (p t : List ℕ) → Ends p t
ends [] t = here refl
ends (c ∷ []) t = one_code c t
ends (c ∷ (d ∷ p)) t = go (digit d) refl (ends p t) (ends (d ∷ p) t)
  where
    go : (x : Bool) → digit d ≡ x → Ends p t → Ends (d ∷ p) t → Ends (c ∷ (d ∷ p)) t
    go true e h k = with (c ∷ (d ∷ [])) p (c ∷ (d ∷ p)) t (λ r. rw e) h
    go false e h k = with (c ∷ []) (d ∷ p) (c ∷ (d ∷ p)) t (λ r. rw e) k

-- TESTING: codes that fit, and fewer

elem_front : (w : Word) (vs us : List Word) → elem w (vs ++ us) ≡ false → elem w vs ≡ false
elem_front w [] us e = refl
elem_front w (v ∷ vs) us e = go (same w v) (elem_front w vs us) e
  where
    go : (x : Bool) → (elem w (vs ++ us) ≡ false → elem w vs ≡ false) → cond x true (elem w (vs ++ us)) ≡ false → cond x true (elem w vs) ≡ false
    go true ih q = q
    go false ih q = ih q

fit_front : (list ws us : List Word) → codes_fit list (ws ++ us) ≡ true → codes_fit list ws ≡ true
fit_front list [] us e = refl
fit_front list (w ∷ ws) us e =
    let x = both (elem w list) (not (elem w (ws ++ us)) && codes_fit list (ws ++ us)) e in
    let y = both (not (elem w (ws ++ us))) (codes_fit list (ws ++ us)) x.1 in
    let n : elem w ws ≡ false = elem_front w ws us (not-true (elem w (ws ++ us)) y.0) in
    rw (x.0, n, fit_front list ws us y.1)

-- THE DIGITS

abbrev from : ℕ → ℕ → List ℕ
from lo zero = []
from lo (suc n) = lo ∷ from (suc lo) n

-- bytes that fit with some digit behind them
among : (f : List ℕ → Bool) (p : List ℕ) (d n lo : ℕ) → lo ≤ d → d < lo + n → f (p ++ (d ∷ [])) ≡ true → with_digit f p (from lo n) ≡ true
among f p d zero lo l h e = absurd (omega arith)
among f p d (suc n) lo l h e = go (eqb d lo) refl (among f p d n (suc lo))
  where
    go : (x : Bool) → eqb d lo ≡ x → (suc lo ≤ d → d < suc lo + n → f (p ++ (d ∷ [])) ≡ true → with_digit f p (from (suc lo) n) ≡ true)
        → (f (p ++ (lo ∷ [])) || with_digit f p (from (suc lo) n)) ≡ true
    go true q ih = rw (← eqb-true d lo q, e)
    go false q ih =
        let a : d ≡ lo → ⊥ = eqb-false d lo q in
        rw (ih (omega arith) (omega arith) e) (or-true (f (p ++ (lo ∷ []))))

-- what they fit with
with_one : (f : List ℕ → Bool) (p ds : List ℕ) → with_digit f p ds ≡ true → (t : List ℕ) × (f (p ++ t) ≡ true)
with_one f p [] e = absurd (false≢true e)
with_one f p (d ∷ ds) e = go (f (p ++ (d ∷ []))) refl e (with_one f p ds)
  where
    go : (x : Bool) → f (p ++ (d ∷ [])) ≡ x → (x || with_digit f p ds) ≡ true
        → (with_digit f p ds ≡ true → (t : List ℕ) × (f (p ++ t) ≡ true)) → (t : List ℕ) × (f (p ++ t) ≡ true)
    go true q h ih = (d ∷ [], q)
    go false q h ih = ih h

-- SOME CODES

module _ (list : List Word) (most : ℕ) where
  -- bytes in front of bytes that fit, where a code ends
  shorter : (b : ℕ) (q r : List ℕ) → codes ((b ∷ q) ++ r) ≡ codes (b ∷ q) ++ codes r
      → some_codes list most ((b ∷ q) ++ r) ≡ true → some_codes list most (b ∷ q) ≡ true
  shorter b q r c e =
      let s = (b ∷ q) ++ r in
      let x = both (leb 1 (length s)) (leb (length s) most && codes_fit list (codes s)) e in
      let y = both (leb (length s) most) (codes_fit list (codes s)) x.1 in
      let l : length s ≤ most = leb-true (length s) most y.0 in
      let n : length s ≡ length (b ∷ q) + length r = length-append (b ∷ q) r in
      let f : codes_fit list (codes (b ∷ q)) ≡ true = fit_front list (codes (b ∷ q)) (codes r) (sym (ap (codes_fit list) c) ∙ y.1) in
      rw (le-leb 1 (length (b ∷ q)) (omega arith), le-leb (length (b ∷ q)) most (omega arith), f)

  fit_on : (b : ℕ) (q t : List ℕ) → Ends (b ∷ q) t → some_codes list most ((b ∷ q) ++ t) ≡ true → goes_on list most (b ∷ q) ≡ true
  fit_on b q t (here c) e = rw (shorter b q t c e)
  fit_on b q t (behind_digit d u z g c) e =
      let w : (b ∷ q) ++ t ≡ (b ∷ (q ++ (d ∷ []))) ++ u = ap (λ (l : List ℕ). (b ∷ q) ++ l) z ∙ sym (append_assoc (b ∷ q) (d ∷ []) u) in
      let f : some_codes list most (b ∷ (q ++ (d ∷ []))) ≡ true
      = shorter b (q ++ (d ∷ [])) u (ap codes (sym w) ∙ c) (ap (some_codes list most) (sym w) ∙ e) in
      let r = digit_range d g in
      rw (among (some_codes list most) (b ∷ q) d 10 48 r.0 (omega arith) f) (or-true (some_codes list most (b ∷ q)))

  kept : (p t : List ℕ) → some_codes list most (p ++ t) ≡ true → goes_on list most p ≡ true
  kept [] t e = refl
  kept (b ∷ q) t e = fit_on b q t (ends (b ∷ q) t) e

  completed : (b : ℕ) (q : List ℕ) → goes_on list most (b ∷ q) ≡ true → (t : List ℕ) × (some_codes list most ((b ∷ q) ++ t) ≡ true)
  completed b q e = go (some_codes list most (b ∷ q)) refl e
    where
      go : (x : Bool) → some_codes list most (b ∷ q) ≡ x → (x || with_digit (some_codes list most) (b ∷ q) (bytes "0123456789")) ≡ true
          → (t : List ℕ) × (some_codes list most ((b ∷ q) ++ t) ≡ true)
      go true h e = ([], ap (some_codes list most) (append-nil (b ∷ q)) ∙ h)
      go false h e = with_one (some_codes list most) (b ∷ q) (bytes "0123456789") e

  -- THE PLACE; where no code can begin with the first byte it is 0, whether the list has codes or none
  pub codes_place_lem : (s : List ℕ) → IsPlace (some_codes list most) s (codes_place list most s)
  unfolding codes_place
  codes_place_lem [] = record { within = omega arith; before = λ k h. absurd (not-suc-le-zero h); there = λ h. absurd (not-suc-le-zero h) }
  codes_place_lem (b ∷ s) = go (goes_on list most (b ∷ [])) refl
    where
      some : goes_on list most (b ∷ []) ≡ true → (p : List ℕ) → goes_on list most p ≡ true → (t : List ℕ) × (some_codes list most (p ++ t) ≡ true)
      some e [] h = let t = completed b [] e in (b ∷ t.0, t.1)
      some e (c ∷ p) h = completed c p h

      none : goes_on list most (b ∷ []) ≡ false → (t : List ℕ) (x : Bool) → some_codes list most (b ∷ t) ≡ x → x ≡ false
      none e t true f = absurd (false≢true (sym e ∙ kept (b ∷ []) t f))
      none e t false f = refl

      at_first : goes_on list most (b ∷ []) ≡ false → passes (goes_on list most) [] (b ∷ s) ≡ 0
      at_first e = rw e

      go : (x : Bool) → goes_on list most (b ∷ []) ≡ x → IsPlace (some_codes list most) (b ∷ s) (passes (goes_on list most) [] (b ∷ s))
      go true e = passes_place (some_codes list most) (goes_on list most) (record { kept = kept; completed = some e }) (b ∷ s) []
      go false e =
          subst (IsPlace (some_codes list most) (b ∷ s)) (sym (at_first e))
          (record {
            within = omega arith;
            before = λ k h. absurd (not-suc-le-zero h);
            there = λ h t. none e t (some_codes list most (b ∷ t)) refl;
          })
