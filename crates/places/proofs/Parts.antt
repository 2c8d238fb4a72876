-- The place of a form from the places of its parts, shown right. Assumes nothing.
use Prim.Native.Nat.{ℕ, zero, suc, ◌+◌, ◌-◌, ◌<◌, ◌≤◌}
use mathlib.Core.Path.{◌≡◌, refl, sym, ap, ◌∙◌, subst}
use mathlib.Core.Bool.{Bool, true, false, ◌&&◌, not, cond, and-false}
use mathlib.Core.List.{List, [], ◌∷◌, ◌++◌, append_assoc}
use native.Mathlib.Omega.{arith}
use native.Mathlib.Nat.{zero-add}
use lib.Dec.{ltb}
use lib.ListN.{length, take, drop, length-append}
use lib.Seq.{take-append_seam, drop-append_seam}
use borrow.Author.Tests.{ltb-true, ltb-false, not-true}
use Rattle.text.specs.Words.{all, leading}
use Rattle.text.proofs.Tests.{both, and_both, all_append}
use Rattle.places.specs.Place.{IsPlace, Hopeful, Hopeless}
use Rattle.places.specs.Parts.{then_fits, then_place}

-- CUTTING at the first byte that is not of the set

abbrev pub stops : (ℕ → Bool) → List ℕ → Bool
stops p [] = true
stops p (b ∷ t) = not (p b)

module _ (p : ℕ → Bool) where
  pub front_cut : (a r : List ℕ) → all p a ≡ true → stops p r ≡ true → leading p (a ++ r) ≡ length a
  front_cut [] [] e h = refl
  front_cut [] (b ∷ r) e h = rw (not-true (p b) h)
  front_cut (x ∷ a) r e h = let q = both (p x) (all p a) e in rw (q.0, front_cut a r q.1 h)

  pub record Cut (s : List ℕ) : Type 0 where
    pub a : List ℕ
    pub r : List ℕ
    pub whole : s ≡ a ++ r
    pub inside : all p a ≡ true
    pub stop : stops p r ≡ true

  pub cut : (s : List ℕ) → Cut s
  cut [] = record { a = []; r = []; whole = refl; inside = refl; stop = refl }
  cut (b ∷ s) = go (p b) refl (cut s)
    where
      go : (c : Bool) → p b ≡ c → Cut s → Cut (b ∷ s)
      go true e h = record { a = b ∷ h.a; r = h.r; whole = ap (λ (l : List ℕ). b ∷ l) h.whole; inside = rw (e, h.inside); stop = h.stop }
      go false e h = record { a = []; r = b ∷ s; whole = refl; inside = refl; stop = rw e }

  pub then_at : (f g : List ℕ → Bool) (a r : List ℕ) → all p a ≡ true → stops p r ≡ true → then_fits p f g (a ++ r) ≡ (f a && g r)
  then_at f g a r e h = rw (front_cut a r e h, take-append_seam a r, drop-append_seam a r)

  pub all_take : (n : ℕ) (a : List ℕ) → all p a ≡ true → all p (take n a) ≡ true
  all_take zero a e = refl
  all_take (suc n) [] e = refl
  all_take (suc n) (x ∷ a) e = let q = both (p x) (all p a) e in rw (q.0, all_take n a q.1)

pub take_in : (k : ℕ) (a r : List ℕ) → k < length a → take (suc k) (a ++ r) ≡ take (suc k) a
take_in k [] r h = absurd (omega arith)
take_in zero (x ∷ a) r h = refl
take_in (suc k) (x ∷ a) r h = ap (λ (l : List ℕ). x ∷ l) (take_in k a r (omega arith))

pub take_beyond : (j : ℕ) (a r : List ℕ) → take (suc (length a + j)) (a ++ r) ≡ a ++ take (suc j) r
take_beyond j [] r = rw (zero-add j)
take_beyond j (x ∷ a) r =
    let e : suc (length a) + j ≡ suc (length a + j) = omega arith in
    rw e (ap (λ (l : List ℕ). x ∷ l) (take_beyond j a r))

pub take_rest : (k : ℕ) (a : List ℕ) → take (suc k) a ++ drop (suc k) a ≡ a
take_rest k [] = refl
take_rest zero (x ∷ a) = refl
take_rest (suc k) (x ∷ a) = ap (λ (l : List ℕ). x ∷ l) (take_rest k a)

-- ONE PART BEHIND ANOTHER

module _ (p : ℕ → Bool) (f g : List ℕ → Bool) (pf pg : List ℕ → ℕ)
    (f-right : (s : List ℕ) → IsPlace f s (pf s))
    (g-right : (s : List ℕ) → IsPlace g s (pg s))
    (f-inside : (w : List ℕ) → f w ≡ true → all p w ≡ true)
    (g-stops : (w : List ℕ) → g w ≡ true → stops p w ≡ true)
    (e : List ℕ) (ge : g e ≡ true) where
  -- a prefix of f's part goes on by what completes f, and e
  on_f : (a r : List ℕ) (k : ℕ) → k < length a → Hopeful f a k → Hopeful (then_fits p f g) (a ++ r) k
  on_f a r k l h = (
    h.0 ++ e,
    ap (λ (w : List ℕ). then_fits p f g (w ++ (h.0 ++ e))) (take_in k a r l)
        ∙ ap (then_fits p f g) (sym (append_assoc (take (suc k) a) h.0 e))
        ∙ then_at p f g (take (suc k) a ++ h.0) e (f-inside (take (suc k) a ++ h.0) h.1) (g-stops e ge)
        ∙ and_both (f (take (suc k) a ++ h.0)) (g e) h.1 ge,
  )

  off_f : (a r : List ℕ) (k : ℕ) → all p a ≡ true → k < length a → Hopeless f a k → Hopeless (then_fits p f g) (a ++ r) k
  off_f a r k i l n t =
      let c = cut p t in
      ap (λ (w : List ℕ). then_fits p f g (w ++ t)) (take_in k a r l)
      ∙ ap (λ (w : List ℕ). then_fits p f g (take (suc k) a ++ w)) c.whole
      ∙ ap (then_fits p f g) (sym (append_assoc (take (suc k) a) c.a c.r))
      ∙ then_at p f g (take (suc k) a ++ c.a) c.r (all_append p (take (suc k) a) c.a (all_take p (suc k) a i) c.inside) c.stop
      ∙ ap (λ (b : Bool). b && g c.r) (n c.a)

  on_g : (a r : List ℕ) (k : ℕ) → all p a ≡ true → stops p r ≡ true → f a ≡ true → k < length a + pg r → 0 < length r → Hopeful (then_fits p f g) (a ++ r) k
  on_g a r k i st fa l some = go (ltb k (length a)) refl
    where
      begins : (r t : List ℕ) (j : ℕ) → 0 < length r → stops p r ≡ true → stops p (take (suc j) r ++ t) ≡ true
      begins [] t j h q = absurd (omega arith)
      begins (b ∷ r) t j h q = q

      beyond : (j : ℕ) → k ≡ length a + j → j < pg r → Hopeful (then_fits p f g) (a ++ r) k
      beyond j ke jl =
          let h = (g-right r).before j jl in (
            h.0,
            ap (λ (n : ℕ). then_fits p f g (take (suc n) (a ++ r) ++ h.0)) ke
                ∙ ap (λ (w : List ℕ). then_fits p f g (w ++ h.0)) (take_beyond j a r)
                ∙ ap (then_fits p f g) (append_assoc a (take (suc j) r) h.0)
                ∙ then_at p f g a (take (suc j) r ++ h.0) i (begins r h.0 j some st)
                ∙ and_both (f a) (g (take (suc j) r ++ h.0)) fa h.1,
          )

      go : (b : Bool) → ltb k (length a) ≡ b → Hopeful (then_fits p f g) (a ++ r) k
      go true q = (
        drop (suc k) a ++ e,
        ap (λ (w : List ℕ). then_fits p f g (w ++ (drop (suc k) a ++ e))) (take_in k a r (ltb-true k (length a) q))
            ∙ ap (then_fits p f g) (sym (append_assoc (take (suc k) a) (drop (suc k) a) e) ∙ ap (λ (w : List ℕ). w ++ e) (take_rest k a))
            ∙ then_at p f g a e i (g-stops e ge)
            ∙ and_both (f a) (g e) fa ge,
      )
      go false q =
          let m : length a ≤ k = ltb-false k (length a) q in
          beyond (k - length a) (omega arith) (omega arith)

  off_g : (a r : List ℕ) → all p a ≡ true → stops p r ≡ true → 0 < length r → pg r < length r → Hopeless (then_fits p f g) (a ++ r) (length a + pg r)
  off_g a [] i st some l t = absurd (omega arith)
  off_g a (b ∷ r) i st some l t =
      ap (λ (w : List ℕ). then_fits p f g (w ++ t)) (take_beyond (pg (b ∷ r)) a (b ∷ r))
      ∙ ap (then_fits p f g) (append_assoc a (take (suc (pg (b ∷ r))) (b ∷ r)) t)
      ∙ then_at p f g a (take (suc (pg (b ∷ r))) (b ∷ r) ++ t) i st
      ∙ ap (λ (x : Bool). f a && x) ((g-right (b ∷ r)).there l t)
      ∙ and-false (f a)

  -- a part of f that does not fit, and the byte behind it
  off_cut : (a : List ℕ) (b : ℕ) (r : List ℕ) → all p a ≡ true → stops p (b ∷ r) ≡ true → f a ≡ false → Hopeless (then_fits p f g) (a ++ (b ∷ r)) (length a)
  off_cut a b r i st fa t =
      let z : length a ≡ length a + 0 = omega arith in
      ap (λ (n : ℕ). then_fits p f g (take (suc n) (a ++ (b ∷ r)) ++ t)) z
      ∙ ap (λ (w : List ℕ). then_fits p f g (w ++ t)) (take_beyond 0 a (b ∷ r))
      ∙ ap (then_fits p f g) (append_assoc a (b ∷ []) t)
      ∙ then_at p f g a (b ∷ t) i st
      ∙ ap (λ (x : Bool). x && g (b ∷ t)) fa

  at_cut : (a r : List ℕ) → all p a ≡ true → stops p r ≡ true → (c d : Bool) → ltb (length a) (length (a ++ r)) ≡ c → f a ≡ d
      → IsPlace (then_fits p f g) (a ++ r) (cond (c && d) (length a + pg r) (pf a))
  at_cut a r i st true true ce de =
      let l : length a < length (a ++ r) = ltb-true (length a) (length (a ++ r)) ce in
      let m : length (a ++ r) ≡ length a + length r = length-append a r in
      let w = (g-right r).within in
      record {
        within = omega arith;
        before = λ k h. on_g a r k i st de h (omega arith);
        there = λ h. off_g a r i st (omega arith) (omega arith);
      }
  at_cut a r i st true false ce de =
      let l : length a < length (a ++ r) = ltb-true (length a) (length (a ++ r)) ce in
      let w = (f-right a).within in
      record {
        within = omega arith;
        before = λ k h. on_f a r k (omega arith) ((f-right a).before k h);
        there = λ h. go (ltb (pf a) (length a)) refl;
      }
    where
      last : (r : List ℕ) → stops p r ≡ true → length a < length (a ++ r) → pf a ≡ length a → Hopeless (then_fits p f g) (a ++ r) (pf a)
      last [] q l n = let m : length (a ++ []) ≡ length a + 0 = length-append a [] in absurd (omega arith)
      last (b ∷ r) q l n = subst (λ (j : ℕ). Hopeless (then_fits p f g) (a ++ (b ∷ r)) j) (sym n) (off_cut a b r i q de)

      go : (b : Bool) → ltb (pf a) (length a) ≡ b → Hopeless (then_fits p f g) (a ++ r) (pf a)
      go true q = let n : pf a < length a = ltb-true (pf a) (length a) q in off_f a r (pf a) i n ((f-right a).there n)
      go false q =
          let n : length a ≤ pf a = ltb-false (pf a) (length a) q in
          let w = (f-right a).within in
          last r st (ltb-true (length a) (length (a ++ r)) ce) (omega arith)
  at_cut a r i st false d ce de =
      let l : length (a ++ r) ≤ length a = ltb-false (length a) (length (a ++ r)) ce in
      let w = (f-right a).within in
      let m : length (a ++ r) ≡ length a + length r = length-append a r in
      record {
        within = omega arith;
        before = λ k h. on_f a r k (omega arith) ((f-right a).before k h);
        there = λ h. off_f a r (pf a) i (omega arith) ((f-right a).there (omega arith));
      }

  at_whole : (s : List ℕ) → Cut p s → IsPlace (then_fits p f g) s (then_place p f pf pg s)
  at_whole s c = subst (λ (t : List ℕ). IsPlace (then_fits p f g) t (then_place p f pf pg t)) (sym c.whole) here
    where
      here : IsPlace (then_fits p f g) (c.a ++ c.r) (then_place p f pf pg (c.a ++ c.r))
      here =
          rw (front_cut p c.a c.r c.inside c.stop, take-append_seam c.a c.r, drop-append_seam c.a c.r)
          (at_cut c.a c.r c.inside c.stop _ _ refl refl)

  pub then_place_lem : (s : List ℕ) → IsPlace (then_fits p f g) s (then_place p f pf pg s)
  then_place_lem s = at_whole s (cut p s)
