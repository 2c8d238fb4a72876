-- The place is unique and depends on the language alone. Assumes nothing.
use Prim.Native.Nat.{ℕ, zero, suc, ◌<◌, ◌≤◌}
use mathlib.Core.Path.{◌≡◌, refl, sym, ap, ◌∙◌, subst, fun_ext}
use mathlib.Core.Bool.{Bool, true, false, ◌||◌, cond, or-true, or-false, false≢true, true≢false}
use mathlib.Core.List.{List, [], ◌∷◌, ◌++◌, append_assoc}
use native.Mathlib.Omega.{arith}
use native.Mathlib.Nat.{not-suc-le-zero}
use lib.Dec.{leb}
use lib.ListN.{length, take, drop}
use borrow.Author.Tests.{leb-true, leb-false}
use Rattle.places.specs.Place.{IsPlace, Hopeful, Hopeless}
use Rattle.places.specs.Parts.{larger}
use Rattle.places.proofs.Larger.{larger_by}

no_both : (fits : List ℕ → Bool) (s : List ℕ) (k : ℕ) → Hopeful fits s k → Hopeless fits s k → ⊥
no_both fits s k h n = false≢true (sym (n h.0) ∙ h.1)

not_less : (fits : List ℕ → Bool) (s : List ℕ) (p q : ℕ) → IsPlace fits s p → IsPlace fits s q → p < q → ⊥
not_less fits s p q a b h = no_both fits s p (b.before p h) (a.there (lt-le h b.within))
  where
    lt-le : p < q → q ≤ length s → p < length s
    lt-le x y = omega arith

-- THE PLACE IS UNIQUE
pub place_unique : (fits : List ℕ → Bool) (s : List ℕ) (p q : ℕ) → IsPlace fits s p → IsPlace fits s q → p ≡ q
place_unique fits s p q a b =
    let m : p < q → ⊥ = not_less fits s p q a b in
    let n : q < p → ⊥ = not_less fits s q p b a in
    omega arith

-- AND DEPENDS ON THE LANGUAGE ALONE
pub place_of_language : (f g : List ℕ → Bool) → ((s : List ℕ) → f s ≡ g s) → (s : List ℕ) (p : ℕ) → IsPlace f s p → IsPlace g s p
place_of_language f g e s p a = subst (λ (h : List ℕ → Bool). IsPlace h s p) (fun_ext e) a

-- no content at all
pub no_place : (s : List ℕ) → IsPlace (λ t. false) s 0
no_place s = record { within = omega arith; before = λ k h. absurd (not-suc-le-zero h); there = λ h t. refl }

-- ONE OF TWO FORMS: the larger of the two places

-- behind a hopeless place all are hopeless
later : (f : List ℕ → Bool) (s : List ℕ) (p k : ℕ) → p ≤ k → Hopeless f s p → Hopeless f s k
later f s p k h n t = ap f (cut s p k h t) ∙ n (drop (suc p) (take (suc k) s) ++ t)
  where
    cut : (s : List ℕ) (p k : ℕ) → p ≤ k → (t : List ℕ) → take (suc k) s ++ t ≡ take (suc p) s ++ (drop (suc p) (take (suc k) s) ++ t)
    cut [] p k h t = refl
    cut (x ∷ s) zero k h t = refl
    cut (x ∷ s) (suc p) zero h t = absurd (omega arith)
    cut (x ∷ s) (suc p) (suc k) h t = ap (λ (l : List ℕ). x ∷ l) (cut s p k (omega arith) t)

pub either_place : (f g : List ℕ → Bool) (s : List ℕ) (p q : ℕ) → IsPlace f s p → IsPlace g s q → IsPlace (λ t. f t || g t) s (larger p q)
either_place f g s p q a b = subst (IsPlace (λ t. f t || g t) s) (larger_by p q) (go (leb p q) refl)
  where
    left : (k : ℕ) → Hopeful f s k → Hopeful (λ t. f t || g t) s k
    left k h = (h.0, rw h.1)

    right : (k : ℕ) → Hopeful g s k → Hopeful (λ t. f t || g t) s k
    right k h = (h.0, rw h.1 (or-true (f (take (suc k) s ++ h.0))))

    neither : (k : ℕ) → Hopeless f s k → Hopeless g s k → Hopeless (λ t. f t || g t) s k
    neither k m n t = rw (m t) (n t)

    go : (c : Bool) → leb p q ≡ c → IsPlace (λ t. f t || g t) s (cond c q p)
    go true e =
        let l : p ≤ q = leb-true p q e in
        record { within = b.within; before = λ k h. right k (b.before k h); there = λ h. neither q (later f s p q l (a.there (omega arith))) (b.there h) }
    go false e =
        let l : q < p = leb-false p q e in
        record {
          within =
              a.within;
          before = λ k h. left k (a.before k h);
          there = λ h. neither p (a.there h) (later g s q p (omega arith) (b.there (omega arith)));
        }

-- A FORM BETWEEN TWO that have the same place, and one whose contents all go on to another's

pub sandwich : (h f g : List ℕ → Bool) → ((w : List ℕ) → h w ≡ true → f w ≡ true) → ((w : List ℕ) → f w ≡ true → g w ≡ true)
    → (s : List ℕ) (p : ℕ) → IsPlace h s p → IsPlace g s p → IsPlace f s p
sandwich h f g i j s p a b =
    record {
      within = a.within;
      before = λ k l. let t = a.before k l in (t.0, i (take (suc k) s ++ t.0) t.1);
      there = λ l t. off l t (f (take (suc p) s ++ t)) refl;
    }
  where
    off : p < length s → (t : List ℕ) (x : Bool) → f (take (suc p) s ++ t) ≡ x → x ≡ false
    off l t true e = absurd (true≢false (sym (j (take (suc p) s ++ t) e) ∙ b.there l t))
    off l t false e = refl

pub absorbed : (f g : List ℕ → Bool) → ((w : List ℕ) → f w ≡ true → (t : List ℕ) × (g (w ++ t) ≡ true))
    → (s : List ℕ) (p : ℕ) → IsPlace g s p → IsPlace (λ w. f w || g w) s p
absorbed f g i s p a =
    record {
      within = a.within;
      before = λ k l. let t = a.before k l in (t.0, rw t.1 (or-true (f (take (suc k) s ++ t.0))));
      there = λ l t. rw (a.there l t) (or-false (f (take (suc p) s ++ t)) ∙ off l t (f (take (suc p) s ++ t)) refl);
    }
  where
    off : p < length s → (t : List ℕ) (x : Bool) → f (take (suc p) s ++ t) ≡ x → x ≡ false
    off l t true e =
        let m = i (take (suc p) s ++ t) e in
        absurd (true≢false (sym m.1 ∙ ap g (append_assoc (take (suc p) s) t m.0) ∙ a.there l (t ++ m.0)))
    off l t false e = refl
