-- Parts of a word, whose records and spellings determine one another, and how a part at the front of a word goes with one behind it. Assumes nothing.
use Prim.Native.Nat.{◌-◌}
use mathlib.Core.Path.{◌≡◌, refl, sym, ap, ap₂, ◌∙◌}
use mathlib.Core.Bool.{Bool, true, false, cond, ◌&&◌, false≢true}
use mathlib.Core.List.{List, [], ◌∷◌, ◌++◌, append_assoc, append-nil}
use lib.ListN.{length, take, drop, take-append-drop}
use Rattle.alphabet.specs.Alphabet.{digit}
use Rattle.text.specs.Words.{Word}
use Rattle.text.proofs.Tests.{both, and_both}
use Rattle.shape.specs.Shape.{in_class, fits, copies, wide, wides, any}
use Rattle.route.specs.Levels.{each, prefixed}

-- WHAT IS SHOWN OF A PART: of its words that fit, the record read from each, the record's spelling, and which records are valid
pub record Part (A : Type 0) (fits : Word → Bool) (of : Word → A) (spell : A → Word) (valid : A → Bool) : Type 0 where
  pub spelled : (w : Word) → fits w ≡ true → spell (of w) ≡ w
  pub held : (w : Word) → fits w ≡ true → valid (of w) ≡ true
  pub taken : (x : A) → valid x ≡ true → fits (spell x) ≡ true
  pub back : (x : A) → valid x ≡ true → of (spell x) ≡ x

-- the same of a part at the front of a word, of one of a list of shapes, and what is past it
pub record Front (A : Type 0) (ts : List Word) (of : Word → A) (past : Word → Word) (spell : A → Word) (valid : A → Bool) : Type 0 where
  pub spelled : (v t : Word) → any (wides ts) v ≡ true → spell (of (v ++ t)) ≡ v
  pub held : (v t : Word) → any (wides ts) v ≡ true → valid (of (v ++ t)) ≡ true
  pub left : (v t : Word) → any (wides ts) v ≡ true → past (v ++ t) ≡ t
  pub taken : (x : A) → valid x ≡ true → any (wides ts) (spell x) ≡ true
  pub back : (x : A) (t : Word) → valid x ≡ true → of (spell x ++ t) ≡ x

-- SHAPES ONE BEHIND THE OTHER

later : (b : Bool) (x : Bool) → x ≡ true → cond b true x ≡ true
later true x e = refl
later false x e = e

wide_append : (t u : Word) → wide (t ++ u) ≡ wide t ++ wide u
wide_append [] u = refl
wide_append (x ∷ t) u = rw (wide_append t u) (sym (append_assoc (cond (digit x) (copies (x - 48)) (x ∷ [])) (wide t) (wide u)))

fits_cut : (t u w : Word) → fits (t ++ u) w ≡ true → (fits t (take (length t) w) ≡ true) × (fits u (drop (length t) w) ≡ true)
fits_cut [] u w e = (refl, e)
fits_cut (x ∷ t) u [] e = absurd (false≢true e)
fits_cut (x ∷ t) u (b ∷ w) e =
    let h = both (in_class x b) (fits (t ++ u) w) e in
    let i = fits_cut t u w h.1 in
    (and_both (in_class x b) (fits t (take (length t) w)) h.0 i.0, i.1)

fits_join : (t u v w : Word) → fits t v ≡ true → fits u w ≡ true → fits (t ++ u) (v ++ w) ≡ true
fits_join [] u [] w e f = f
fits_join [] u (b ∷ v) w e f = absurd (false≢true e)
fits_join (x ∷ t) u [] w e f = absurd (false≢true e)
fits_join (x ∷ t) u (b ∷ v) w e f =
    let h = both (in_class x b) (fits t v) e in
    and_both (in_class x b) (fits (t ++ u) (v ++ w)) h.0 (fits_join t u v w h.1 f)

pub any_append : (ts us : List Word) (w : Word) → any (wides (ts ++ us)) w ≡ cond (any (wides ts) w) true (any (wides us) w)
any_append [] us w = refl
any_append (t ∷ ts) us w = go (any_append ts us w) (fits (wide t) w)
  where
    go : any (wides (ts ++ us)) w ≡ cond (any (wides ts) w) true (any (wides us) w)
        → (b : Bool) → cond b true (any (wides (ts ++ us)) w) ≡ cond (cond b true (any (wides ts) w)) true (any (wides us) w)
    go ih true = refl
    go ih false = ih

-- a word of one of the shapes with one of the others behind it, cut between them
pub record CutAt (ts us : List Word) (w : Word) : Type 0 where
  pub front : Word
  pub rest : Word
  pub whole : front ++ rest ≡ w
  pub first : any (wides ts) front ≡ true
  pub second : any (wides us) rest ≡ true

prefixed_cut : (t : Word) (us : List Word) (w : Word) → any (wides (prefixed t us)) w ≡ true
    → (fits (wide t) (take (length (wide t)) w) ≡ true) × (any (wides us) (drop (length (wide t)) w) ≡ true)
prefixed_cut t [] w e = absurd (false≢true e)
prefixed_cut t (u ∷ us) w e = go (prefixed_cut t us w) (fits (wide (t ++ u)) w) refl e
  where
    go : (any (wides (prefixed t us)) w ≡ true → (fits (wide t) (take (length (wide t)) w) ≡ true) × (any (wides us) (drop (length (wide t)) w) ≡ true))
        → (b : Bool) → fits (wide (t ++ u)) w ≡ b → cond b true (any (wides (prefixed t us)) w) ≡ true
        → (fits (wide t) (take (length (wide t)) w) ≡ true) × (any (wides (u ∷ us)) (drop (length (wide t)) w) ≡ true)
    go ih true p q =
        let h = fits_cut (wide t) (wide u) w (rw (wide_append t u) at p) in
        (h.0, ap (λ (b : Bool). cond b true (any (wides us) (drop (length (wide t)) w))) h.1)
    go ih false p q = let h = ih q in (h.0, later (fits (wide u) (drop (length (wide t)) w)) _ h.1)

pub each_cut : (ts us : List Word) (w : Word) → any (wides (each ts us)) w ≡ true → CutAt ts us w
each_cut [] us w e = absurd (false≢true e)
each_cut (t ∷ ts) us w e = go (each_cut ts us w) (any (wides (prefixed t us)) w) refl (sym (any_append (prefixed t us) (each ts us) w) ∙ e)
  where
    go : (any (wides (each ts us)) w ≡ true → CutAt ts us w)
        → (b : Bool) → any (wides (prefixed t us)) w ≡ b → cond b true (any (wides (each ts us)) w) ≡ true → CutAt (t ∷ ts) us w
    go ih true p q =
        let h = prefixed_cut t us w p in
        let n = length (wide t) in
        record {
          front = take n w;
          rest = drop n w;
          whole = take-append-drop n w;
          first = ap (λ (b : Bool). cond b true (any (wides ts) (take n w))) h.0;
          second = h.1;
        }
    go ih false p q =
        let c = ih q in
        record {
          front = c.front;
          rest = c.rest;
          whole = c.whole;
          first = later (fits (wide t) c.front) _ c.first;
          second = c.second;
        }

prefixed_join : (t : Word) (us : List Word) (v w : Word) → fits (wide t) v ≡ true → any (wides us) w ≡ true → any (wides (prefixed t us)) (v ++ w) ≡ true
prefixed_join t [] v w e f = f
prefixed_join t (u ∷ us) v w e f = go (prefixed_join t us v w e) (fits (wide u) w) refl f
  where
    go : (any (wides us) w ≡ true → any (wides (prefixed t us)) (v ++ w) ≡ true)
        → (b : Bool) → fits (wide u) w ≡ b → cond b true (any (wides us) w) ≡ true
        → cond (fits (wide (t ++ u)) (v ++ w)) true (any (wides (prefixed t us)) (v ++ w)) ≡ true
    go ih true p q = rw (wide_append t u, fits_join (wide t) (wide u) v w e p)
    go ih false p q = later (fits (wide (t ++ u)) (v ++ w)) _ (ih q)

pub each_join : (ts us : List Word) (v w : Word) → any (wides ts) v ≡ true → any (wides us) w ≡ true → any (wides (each ts us)) (v ++ w) ≡ true
each_join [] us v w e f = absurd (false≢true e)
each_join (t ∷ ts) us v w e f = any_append (prefixed t us) (each ts us) (v ++ w) ∙ go (each_join ts us v w) (fits (wide t) v) refl e
  where
    go : (any (wides ts) v ≡ true → any (wides us) w ≡ true → any (wides (each ts us)) (v ++ w) ≡ true)
        → (b : Bool) → fits (wide t) v ≡ b → cond b true (any (wides ts) v) ≡ true
        → cond (any (wides (prefixed t us)) (v ++ w)) true (any (wides (each ts us)) (v ++ w)) ≡ true
    go ih true p q = rw (prefixed_join t us v w p f)
    go ih false p q = later (any (wides (prefixed t us)) (v ++ w)) _ (ih q f)

-- A PART AT THE FRONT, alone and with another behind it

module _ (A : Type 0) (ts : List Word) (of : Word → A) (past : Word → Word) (spell : A → Word) (valid : A → Bool) (f : Front A ts of past spell valid) where
  pub alone : Part A (any (wides ts)) of spell valid
  alone =
      record {
        spelled = λ w e. ap (λ (v : Word). spell (of v)) (sym (append-nil w)) ∙ f.spelled w [] e;
        held = λ w e. ap (λ (v : Word). valid (of v)) (sym (append-nil w)) ∙ f.held w [] e;
        taken = f.taken;
        back = λ x e. ap of (sym (append-nil (spell x))) ∙ f.back x [] e;
      }

  module _ (B : Type 0) (us : List Word) (of' : Word → B) (spell' : B → Word) (valid' : B → Bool) (g : Part B (any (wides us)) of' spell' valid') where
    abbrev both_of : Word → A × B
    both_of w = (of w, of' (past w))

    abbrev both_spell : A × B → Word
    both_spell x = spell x.0 ++ spell' x.1

    abbrev both_valid : A × B → Bool
    both_valid x = valid x.0 && valid' x.1

    then_spelled : (w : Word) → CutAt ts us w → both_spell (both_of w) ≡ w
    then_spelled w c =
        let l = ap past (sym c.whole) ∙ f.left c.front c.rest c.first in
        ap₂ (λ (v t : Word). v ++ t)
        (ap (λ (v : Word). spell (of v)) (sym c.whole) ∙ f.spelled c.front c.rest c.first)
        (ap (λ (v : Word). spell' (of' v)) l ∙ g.spelled c.rest c.second)
        ∙ c.whole

    then_held : (w : Word) → CutAt ts us w → both_valid (both_of w) ≡ true
    then_held w c =
        let l = ap past (sym c.whole) ∙ f.left c.front c.rest c.first in
        and_both (valid (of w)) (valid' (of' (past w)))
        (ap (λ (v : Word). valid (of v)) (sym c.whole) ∙ f.held c.front c.rest c.first)
        (ap (λ (v : Word). valid' (of' v)) l ∙ g.held c.rest c.second)

    pub then : Part (A × B) (any (wides (each ts us))) both_of both_spell both_valid
    then =
        record {
          spelled = λ w e. then_spelled w (each_cut ts us w e);
          held = λ w e. then_held w (each_cut ts us w e);
          taken = λ x e.
              let h = both (valid x.0) (valid' x.1) e in
              each_join ts us (spell x.0) (spell' x.1) (f.taken x.0 h.0) (g.taken x.1 h.1);
          back = λ x e.
              let h = both (valid x.0) (valid' x.1) e in
              let l = f.left (spell x.0) (spell' x.1) (f.taken x.0 h.0) in
              ap₂ (λ (a : A) (b : B). (a, b)) (f.back x.0 (spell' x.1) h.0) (ap of' l ∙ g.back x.1 h.1);
        }
