-- The places of a first byte, a run, a shape, a list of shapes, and of prefixes that a test lets pass. Assumes nothing.
use Prim.Native.Nat.{ℕ, zero, suc, ◌+◌, ◌-◌, ◌<◌, ◌≤◌}
use mathlib.Core.Path.{◌≡◌, refl, sym, ap, ◌∙◌, subst}
use mathlib.Core.Bool.{Bool, true, false, ◌&&◌, ◌||◌, cond, false≢true}
use mathlib.Core.List.{List, [], ◌∷◌, ◌++◌, append_assoc}
use native.Mathlib.Omega.{arith}
use native.Mathlib.Nat.{not-suc-le-zero, le_of_suc-le-suc}
use lib.Dec.{leb}
use lib.ListN.{length, take, length-append}
use lib.Seq.{length-take-le}
use borrow.Author.Tests.{leb-true, leb-false, le-leb, lt-leb}
use Rattle.text.specs.Words.{Word, all, null, leading}
use Rattle.text.proofs.Tests.{both, and_both, and_false, all_append}
use Rattle.shape.specs.Shape.{in_class, fits, any}
use Rattle.places.specs.Place.{IsPlace, Hopeful, Hopeless}
use Rattle.places.specs.Parts.{larger, first_fits, first_place, no_more, run_fits, run_place, along, farthest, sample, sampled, passes}
use Rattle.places.proofs.Given.{or_cond}
use Rattle.places.proofs.Larger.{larger_first, larger_under, smaller_by}
use Rattle.places.proofs.Place.{place_of_language, no_place, either_place}

-- NOTHING MORE

pub nil_place : (s : List ℕ) → IsPlace null s (no_more s)
nil_place [] = record { within = omega arith; before = λ k h. absurd (not-suc-le-zero h); there = λ h. absurd (not-suc-le-zero h) }
nil_place (b ∷ s) = record { within = omega arith; before = λ k h. absurd (not-suc-le-zero h); there = λ h t. refl }

-- or something: the place is that of the something
pub maybe_place : (f : List ℕ → Bool) (s : List ℕ) (p : ℕ) → IsPlace f s p → IsPlace (λ w. null w || f w) s p
maybe_place f s p a = subst (IsPlace (λ w. null w || f w) s) (larger_first p) (either_place null f s 0 p (nil_place s) a)

-- nothing more, on a condition
pub nil_if_place : (c : Bool) (s : List ℕ) → IsPlace (λ w. c && null w) s (no_more s)
nil_if_place true s = nil_place s
nil_if_place false s = no_place s

-- A FIRST BYTE: what follows it need have a place only behind the bytes that may stand there

pub first_place_lem : (q : ℕ → Bool) (f : ℕ → List ℕ → Bool) (pf : ℕ → List ℕ → ℕ)
    → ((b : ℕ) → q b ≡ true → (s : List ℕ) → IsPlace (f b) s (pf b s))
    → ((b : ℕ) → q b ≡ true → (t : List ℕ) × (f b t ≡ true))
    → (s : List ℕ) → IsPlace (first_fits q f) s (first_place q pf s)
first_place_lem q f pf right some [] = record { within = omega arith; before = λ k h. absurd (not-suc-le-zero h); there = λ h. absurd (not-suc-le-zero h) }
first_place_lem q f pf right some (b ∷ s) = go (q b) refl
  where
    here : q b ≡ true → (k : ℕ) → k < suc (pf b s) → Hopeful (first_fits q f) (b ∷ s) k
    here e zero h = let t = some b e in (t.0, and_both (q b) (f b t.0) e t.1)
    here e (suc k) h = let t = (right b e s).before k (le_of_suc-le-suc h) in (t.0, and_both (q b) (f b (take (suc k) s ++ t.0)) e t.1)

    go : (c : Bool) → q b ≡ c → IsPlace (first_fits q f) (b ∷ s) (cond c (suc (pf b s)) 0)
    go true e =
        record {
          within = let w = (right b e s).within in omega arith;
          before = here e;
          there = λ h t. and_false (q b) (f b (take (suc (pf b s)) s ++ t)) ((right b e s).there (le_of_suc-le-suc h) t);
        }
    go false e = record { within = omega arith; before = λ k h. absurd (not-suc-le-zero h); there = λ h t. rw e }

-- A RUN

abbrev pub fill : ℕ → ℕ → List ℕ
fill b zero = []
fill b (suc n) = b ∷ fill b n

fill_length : (b n : ℕ) → length (fill b n) ≡ n
fill_length b zero = refl
fill_length b (suc n) = ap suc (fill_length b n)

fill_all : (p : ℕ → Bool) (b n : ℕ) → p b ≡ true → all p (fill b n) ≡ true
fill_all p b zero e = refl
fill_all p b (suc n) e = rw (e, fill_all p b n e)

pub front_le : (p : ℕ → Bool) (s : List ℕ) → leading p s ≤ length s
front_le p [] = omega arith
front_le p (b ∷ s) = go (p b) (front_le p s)
  where
    go : (c : Bool) → leading p s ≤ length s → cond c (suc (leading p s)) 0 ≤ suc (length s)
    go true h = omega arith
    go false h = omega arith

pub front_all : (p : ℕ → Bool) (s : List ℕ) (n : ℕ) → n ≤ leading p s → all p (take n s) ≡ true
front_all p s zero h = refl
front_all p [] (suc n) h = refl
front_all p (b ∷ s) (suc n) h = go (front_all p s n) (p b) refl h
  where
    go : (n ≤ leading p s → all p (take n s) ≡ true) → (c : Bool) → p b ≡ c → suc n ≤ cond c (suc (leading p s)) 0 → (p b && all p (take n s)) ≡ true
    go ih true e l = rw (e, ih (le_of_suc-le-suc l))
    go ih false e l = absurd (not-suc-le-zero l)

-- bytes that are all of a set are in front
pub all_front : (p : ℕ → Bool) (n : ℕ) (s : List ℕ) → n ≤ length s → all p (take n s) ≡ true → n ≤ leading p s
all_front p zero s l e = omega arith
all_front p (suc n) [] l e = absurd (not-suc-le-zero l)
all_front p (suc n) (b ∷ s) l e =
    let h = both (p b) (all p (take n s)) e in
    let i = all_front p n s (le_of_suc-le-suc l) h.1 in
    rw h.0 (suc-le i)
  where
    suc-le : n ≤ leading p s → suc n ≤ suc (leading p s)
    suc-le i = omega arith

front_off : (p : ℕ → Bool) (s : List ℕ) → leading p s < length s → (t : List ℕ) → all p (take (suc (leading p s)) s ++ t) ≡ false
front_off p [] h t = absurd (not-suc-le-zero h)
front_off p (b ∷ s) h t = go (λ l. front_off p s l t) (p b) refl h
  where
    go : (leading p s < length s → all p (take (suc (leading p s)) s ++ t) ≡ false) → (c : Bool) → p b ≡ c → cond c (suc (leading p s)) 0 < suc (length s)
        → all p (take (suc (cond c (suc (leading p s)) 0)) (b ∷ s) ++ t) ≡ false
    go ih true e l = and_false (p b) (all p (take (suc (leading p s)) s ++ t)) (ih (le_of_suc-le-suc l))
    go ih false e l = rw e

module _ (least most : ℕ) (p : ℕ → Bool) (l : least ≤ most) (b : ℕ) (e : p b ≡ true) where
  run_on : (s : List ℕ) (k : ℕ) → suc k ≤ most → suc k ≤ leading p s → Hopeful (run_fits least most p) s k
  run_on s k m h =
      let t = fill b (least - suc k) in
      let w = take (suc k) s ++ t in
      let n : length w ≡ suc k + (least - suc k) =
      length-append (take (suc k) s) t ∙ (let a =
      length-take-le (suc k) s (let x = front_le p s in omega arith) in let c = fill_length b (least - suc k) in omega arith) in (
        t,
        and_both (leb least (length w)) (leb (length w) most && all p w) (le-leb least (length w) (omega arith))
            (and_both (leb (length w) most) (all p w) (le-leb (length w) most (omega arith))
            (all_append p (take (suc k) s) t (front_all p s (suc k) h) (fill_all p b (least - suc k) e))),
      )

  run_off : (s : List ℕ) → leading p s < length s → Hopeless (run_fits least most p) s (leading p s)
  run_off s h t =
      let w = take (suc (leading p s)) s ++ t in
      and_false (leb least (length w)) (leb (length w) most && all p w) (and_false (leb (length w) most) (all p w) (front_off p s h t))

  run_over : (s : List ℕ) → most < length s → Hopeless (run_fits least most p) s most
  run_over s h t =
      let w = take (suc most) s ++ t in
      let n : most < length w = (let a = length-append (take (suc most) s) t in let c = length-take-le (suc most) s h in omega arith) in
      and_false (leb least (length w)) (leb (length w) most && all p w) (rw (lt-leb (length w) most n))

  pub run_place_lem : (s : List ℕ) → IsPlace (run_fits least most p) s (run_place most p s)
  run_place_lem s = subst (IsPlace (run_fits least most p) s) (smaller_by most (leading p s)) (go (leb most (leading p s)) refl)
    where
      go : (c : Bool) → leb most (leading p s) ≡ c → IsPlace (run_fits least most p) s (cond c most (leading p s))
      go true q =
          let m : most ≤ leading p s = leb-true most (leading p s) q in
          record { within = (let x = front_le p s in omega arith); before = λ k h. run_on s k h (omega arith); there = run_over s }
      go false q =
          let m : leading p s < most = leb-false most (leading p s) q in
          record { within = front_le p s; before = λ k h. run_on s k (omega arith) h; there = run_off s }

-- a place before that of a run is before the greatest length and before the first byte that is not of the set
module _ (p : ℕ → Bool) (s : List ℕ) (most k : ℕ) where
  pub run_below : k < run_place most p s → (k < most) × (k < leading p s)
  run_below h = (omega arith, omega arith)

  pub run_above : k < most → k < leading p s → k < run_place most p s
  run_above h i = omega arith

-- A SHAPE, AND A LIST OF SHAPES

pub along_place : (t e : Word) → fits t e ≡ true → (s : List ℕ) → IsPlace (fits t) s (along t s)
along_place [] e h [] = record { within = omega arith; before = λ k l. absurd (not-suc-le-zero l); there = λ l. absurd (not-suc-le-zero l) }
along_place [] e h (b ∷ s) = record { within = omega arith; before = λ k l. absurd (not-suc-le-zero l); there = λ l t. refl }
along_place (x ∷ ts) [] h s = absurd (false≢true h)
along_place (x ∷ ts) (y ∷ e) h [] = record { within = omega arith; before = λ k l. absurd (not-suc-le-zero l); there = λ l. absurd (not-suc-le-zero l) }
along_place (x ∷ ts) (y ∷ e) h (b ∷ s) = go (in_class x b) refl (along_place ts e tail s)
  where
    tail : fits ts e ≡ true
    tail = (both (in_class x y) (fits ts e) h).1

    here : in_class x b ≡ true → IsPlace (fits ts) s (along ts s) → (k : ℕ) → k < suc (along ts s) → Hopeful (fits (x ∷ ts)) (b ∷ s) k
    here q ih zero l = (e, and_both (in_class x b) (fits ts e) q tail)
    here q ih (suc k) l = let t = ih.before k (le_of_suc-le-suc l) in (t.0, and_both (in_class x b) (fits ts (take (suc k) s ++ t.0)) q t.1)

    go : (c : Bool) → in_class x b ≡ c → IsPlace (fits ts) s (along ts s) → IsPlace (fits (x ∷ ts)) (b ∷ s) (cond c (suc (along ts s)) 0)
    go true q ih =
        record {
          within = let w = ih.within in omega arith;
          before = here q ih;
          there = λ l t. and_false (in_class x b) (fits ts (take (suc (along ts s)) s ++ t)) (ih.there (le_of_suc-le-suc l) t);
        }
    go false q ih = record { within = omega arith; before = λ k l. absurd (not-suc-le-zero l); there = λ l t. rw q }

pub any_place : (ts : List Word) → sampled ts ≡ true → (s : List ℕ) → IsPlace (any ts) s (farthest ts s)
any_place [] h s = no_place s
any_place (t ∷ ts) h s =
    let g = both (fits t (sample t)) (sampled ts) h in
    place_of_language (λ w. fits t w || any ts w) (any (t ∷ ts)) (λ w. or_cond (fits t w) (any ts w)) s (larger (along t s) (farthest ts s))
    (either_place (fits t) (any ts) s (along t s) (farthest ts s) (along_place t (sample t) g.0 s) (any_place ts g.1 s))

pub along_le : (t w : Word) → along t w ≤ length w
along_le [] w = omega arith
along_le (t ∷ ts) [] = omega arith
along_le (t ∷ ts) (b ∷ w) = go (in_class t b) (along_le ts w)
  where
    go : (x : Bool) → along ts w ≤ length w → cond x (suc (along ts w)) 0 ≤ suc (length w)
    go true h = omega arith
    go false h = omega arith

pub farthest_le : (ts : List Word) (w : Word) → farthest ts w ≤ length w
farthest_le [] w = omega arith
farthest_le (t ∷ ts) w = larger_under (along t w) (farthest ts w) (length w) (along_le t w) (farthest_le ts w)

-- PREFIXES: a test that says which of them can be completed

pub record Viable (fit viable : List ℕ → Bool) : Type 0 where
  pub kept : (p t : List ℕ) → fit (p ++ t) ≡ true → viable p ≡ true
  pub completed : (p : List ℕ) → viable p ≡ true → (t : List ℕ) × (fit (p ++ t) ≡ true)

pub passes_place : (fit viable : List ℕ → Bool) → Viable fit viable → (s p : List ℕ) → IsPlace (λ t. fit (p ++ t)) s (passes viable p s)
passes_place fit viable v [] p = record { within = omega arith; before = λ k h. absurd (not-suc-le-zero h); there = λ h. absurd (not-suc-le-zero h) }
passes_place fit viable v (b ∷ s) p = go (viable q) refl (passes_place fit viable v s q)
  where
    q : List ℕ
    q = p ++ (b ∷ [])

    shift : (t : List ℕ) → q ++ t ≡ p ++ (b ∷ t)
    shift t = append_assoc p (b ∷ []) t

    here : viable q ≡ true → IsPlace (λ t. fit (q ++ t)) s (passes viable q s) → (k : ℕ) → k < suc (passes viable q s) → Hopeful (λ t. fit (p ++ t)) (b ∷ s) k
    here e ih zero h = let t = v.completed q e in (t.0, ap fit (sym (shift t.0)) ∙ t.1)
    here e ih (suc k) h = let t = ih.before k (le_of_suc-le-suc h) in (t.0, ap fit (sym (shift (take (suc k) s ++ t.0))) ∙ t.1)

    off : viable q ≡ false → (t : List ℕ) (c : Bool) → fit (p ++ (b ∷ t)) ≡ c → c ≡ false
    off e t true f = absurd (false≢true (sym e ∙ v.kept q t (ap fit (shift t) ∙ f)))
    off e t false f = refl

    go : (c : Bool) → viable q ≡ c → IsPlace (λ t. fit (q ++ t)) s (passes viable q s)
        → IsPlace (λ t. fit (p ++ t)) (b ∷ s) (cond c (suc (passes viable q s)) 0)
    go true e ih =
        record {
          within = let w = ih.within in omega arith;
          before = here e ih;
          there = λ h t. ap fit (sym (shift (take (suc (passes viable q s)) s ++ t))) ∙ ih.there (le_of_suc-le-suc h) t;
        }
    go false e ih = record { within = omega arith; before = λ k h. absurd (not-suc-le-zero h); there = λ h t. off e t (fit (p ++ (b ∷ t))) refl }
