-- A speed or a level at the front of a word ends where its letter says, and behind it stands what the shapes have behind theirs. Assumes nothing.
use Prim.Native.Nat.{ℕ, suc, ◌+◌, ◌-◌, ◌<◌, ◌≤◌}
use Rattle.std.specs.Prelude.{Option, Some, None, MatchOption}
use Rattle.std.specs.List.{slice_get}
use borrow.Author.Rules.{rules}
use mathlib.Core.Path.{◌≡◌, refl, sym, ap, ◌∙◌}
use mathlib.Core.Bool.{Bool, true, false, cond, ◌&&◌, false≢true, true≢false, and-false}
use mathlib.Core.List.{List, [], ◌∷◌, ◌++◌, append-nil}
use native.Mathlib.Omega.{arith}
use native.Mathlib.Numerals.{add-one}
use lib.Dec.{ltb, eqb}
use lib.ListN.{length, take, drop, length-append, length-drop, take-append-drop}
use lib.Seq.{take_at, drop_at, take_all, length-take-le}
use borrow.Author.Tests.{ltb-true, lt-ltb, le-ltb, eqb-true, eqb-false, eq-eqb, ne_eqb}
use Rattle.alphabet.specs.Text.{bytes}
use Rattle.alphabet.specs.Alphabet.{digit}
use Rattle.text.specs.Words.{Word, all, same}
use Rattle.text.proofs.Tests.{both}
use Rattle.shape.specs.Shape.{fits, wide, wides, any}
use Rattle.route.specs.Levels.{speed_digits, level_digits, letter_of, speeds, levels, each, starts, changes, climbs}
use Rattle.route.specs.Fronts.{begins, unit_end, speed_end, level_end}
use Rattle.route.proofs.Parts.{each_cut, each_join, any_append}
use Rattle.route.proofs.Levels.{Due, speed_none, level_none, speed_due, speed_made, level_due, level_made, vfr_itself, plus_itself}

-- two tests that imply one another
alike : (a b : Bool) → (a ≡ true → b ≡ true) → (b ≡ true → a ≡ true) → a ≡ b
alike true b f g = sym (f refl)
alike false true f g = g refl
alike false false f g = refl

-- a test that implies one that fails
fails : (a b : Bool) → (a ≡ true → b ≡ true) → b ≡ false → a ≡ false
fails true b f e = absurd (true≢false (sym (f refl) ∙ e))
fails false b f e = refl

-- A BYTE AND n DIGITS AT THE FRONT

record Begun (n : ℕ) (w : Word) : Type 0 where
  some : 0 < n
  room : n < length w
  digits : all digit (take n (drop 1 w)) ≡ true

begun : (n : ℕ) (w : Word) → begins n w ≡ true → Begun n w
unfolding begins
begun n w e =
    let h = both (ltb 0 n) (ltb n (length w) && all digit (take n (drop 1 w))) e in
    let i = both (ltb n (length w)) (all digit (take n (drop 1 w))) h.1 in
    record { some = ltb-true 0 n h.0; room = ltb-true n (length w) i.0; digits = i.1 }

begins_of : (n : ℕ) (w : Word) → Begun n w → begins n w ≡ true
unfolding begins
begins_of n w h = rw (lt-ltb 0 n h.some, lt-ltb n (length w) h.room) h.digits

module _ (n : ℕ) (w : Word) (v : ℕ) (at : v ≡ unit_end n w) where
  end_none : v ≡ 0 → begins n w ≡ false
  unfolding unit_end
  end_none z = go (begins n w) at
    where
      go : (b : Bool) → v ≡ cond b (suc n) 0 → b ≡ false
      go true e = absurd (omega arith)
      go false e = refl

  end_some : (v ≡ 0 → ⊥) → (begins n w ≡ true) × (v ≡ suc n)
  unfolding unit_end
  end_some z = go (begins n w) at
    where
      go : (b : Bool) → v ≡ cond b (suc n) 0 → (b ≡ true) × (v ≡ suc n)
      go true e = (refl, e)
      go false e = absurd (z e)

-- as the code finds it

module _ (n : ℕ) (w : Word) where
  pub unit_none : n ≡ 0 → unit_end n w ≡ 0
  unfolding unit_end begins
  unit_none h = rw (le-ltb 0 n (omega arith))

  pub unit_short : length w ≤ n → unit_end n w ≡ 0
  unfolding unit_end begins
  unit_short h = rw (le-ltb n (length w) h, and-false (ltb 0 n))

  module _ (some : 0 < n) (room : n < length w) where
    begins_digits : begins n w ≡ all digit (take n (drop 1 w))
    unfolding begins
    begins_digits = rw (lt-ltb 0 n some, lt-ltb n (length w) room)

    pub unit_other : all digit (take n (drop 1 w)) ≡ false → unit_end n w ≡ 0
    unfolding unit_end
    unit_other e = rw (begins_digits, e)

    pub unit_here : all digit (take n (drop 1 w)) ≡ true → unit_end n w ≡ n + 1
    unfolding unit_end
    unit_here e = rw (begins_digits, e) (sym (add-one n))

pub unit_inside : (n : ℕ) (w : Word) → unit_end n w ≤ length w
unfolding unit_end
unit_inside n w = go (begins n w) refl
  where
    go : (b : Bool) → begins n w ≡ b → cond b (suc n) 0 ≤ length w
    go true e = omega (arith, (begun n w e).room)
    go false e = omega arith

-- what stands behind, if there is something, and what is told of it
pub told_of : {T G N Q : Type 0} {S P : T → Type 0} (r : Option T) → MatchOption r N S → MatchOption r Q P → (N → Q → G) → ((t : T) → S t → P t → G) → G
told_of None n q f g = f n q
told_of (Some t) s p f g = g t s p

-- where a letter says how many digits are due, and where a byte is no letter

pub first_none : (w : Word) → slice_get w 0 ≡ None → length w ≡ 0
first_none [] e = refl
first_none (b ∷ w) e = absurd (search rules)

pub first_some : (w : Word) (b : ℕ) → slice_get w 0 ≡ Some b → letter_of w ≡ b
first_some [] b e = absurd (search rules)
first_some (x ∷ w) b e = search rules

pub no_speed_letter : (u : ℕ) → (u ≡ 75 → ⊥) → (u ≡ 78 → ⊥) → (u ≡ 77 → ⊥) → speed_digits u ≡ 0
unfolding speed_digits
no_speed_letter u k n m = rw (ne_eqb u 75 k, ne_eqb u 78 n, ne_eqb u 77 m)

pub no_level_letter : (u : ℕ) → (u ≡ 70 → ⊥) → (u ≡ 65 → ⊥) → (u ≡ 83 → ⊥) → (u ≡ 77 → ⊥) → level_digits u ≡ 0
unfolding level_digits
no_level_letter u f a s m = rw (ne_eqb u 70 f, ne_eqb u 65 a, ne_eqb u 83 s, ne_eqb u 77 m)

-- A LIST OF SHAPES, each of a letter and as many digits as are due behind it

module _ (size : ℕ → ℕ) (ts : List Word) (none : any (wides ts) [] ≡ false)
    (due : (b : ℕ) (d : Word) → any (wides ts) (b ∷ d) ≡ true → Due (size b) d)
    (made : (b : ℕ) (d : Word) → Due (size b) d → any (wides ts) (b ∷ d) ≡ true) where
  abbrev begun_by : Word → Bool
  begun_by w = begins (size (letter_of w)) w

  abbrev past : Word → Word
  past w = drop (suc (size (letter_of w))) w

  begun_cut : (v t : Word) → any (wides ts) v ≡ true → (begun_by (v ++ t) ≡ true) × (past (v ++ t) ≡ t)
  begun_cut [] t e = absurd (false≢true (sym none ∙ e))
  begun_cut (b ∷ d) t e =
      let h = due b d e in
      let l = h.size in
      let r : size b < length (b ∷ d ++ t) = simp length-append (omega arith) in
      let k : all digit (take (size b) (d ++ t)) ≡ true = rw (take_at d t (size b) l) h.digits in
      (begins_of (size b) (b ∷ d ++ t) (record { some = h.some; room = r; digits = k }), drop_at d t (size b) l)

  -- of a word of one of them, which ends there
  whole_due : (w : Word) → begun_by w ≡ true → length w ≡ suc (size (letter_of w)) → any (wides ts) w ≡ true
  whole_due [] e l = absurd (omega arith)
  whole_due (b ∷ d) e l =
      let h = begun (size b) (b ∷ d) e in
      let n : length d ≡ size b = omega arith in
      let k : take (size b) d ≡ d = take_all (size b) d (omega arith) in
      made b d (record { some = h.some; size = n; digits = rw k at h.digits })

  front_due : (w : Word) → begun_by w ≡ true → any (wides ts) (take (suc (size (letter_of w))) w) ≡ true
  front_due [] e = let r = (begun (size 0) [] e).room in absurd (omega arith)
  front_due (b ∷ d) e =
      let h = begun (size b) (b ∷ d) e in
      let r = h.room in
      made b (take (size b) d) (record { some = h.some; size = length-take-le (size b) d (omega arith); digits = h.digits })

  whole_length : (w : Word) → any (wides ts) w ≡ true → length w ≡ suc (size (letter_of w))
  whole_length [] e = absurd (false≢true (sym none ∙ e))
  whole_length (b ∷ d) e = ap suc (due b d e).size

  each_begun : (us : List Word) (w : Word) → any (wides (each ts us)) w ≡ true → (begun_by w ≡ true) × (any (wides us) (past w) ≡ true)
  each_begun us w e =
      let c = each_cut ts us w e in
      let h = begun_cut c.front c.rest c.first in
      (ap begun_by (sym c.whole) ∙ h.0, ap (any (wides us)) (ap past (sym c.whole) ∙ h.1) ∙ c.second)

  each_made : (us : List Word) (w : Word) → begun_by w ≡ true → any (wides us) (past w) ≡ true → any (wides (each ts us)) w ≡ true
  each_made us w e f =
      let m = suc (size (letter_of w)) in
      ap (any (wides (each ts us))) (sym (take-append-drop m w)) ∙ each_join ts us (take m w) (drop m w) (front_due w e) f

  -- where the code says that it ends
  module _ (w : Word) (v : ℕ) (at : v ≡ unit_end (size (letter_of w)) w) where
    pub alone_none : v ≡ 0 → any (wides ts) w ≡ false
    alone_none z =
        fails (any (wides ts) w) (begun_by w)
        (λ e. ap begun_by (sym (append-nil w)) ∙ (begun_cut w [] e).0)
        (end_none (size (letter_of w)) w v at z)

    pub alone_some : (v ≡ 0 → ⊥) → any (wides ts) w ≡ eqb v (length w)
    alone_some z =
        let h = end_some (size (letter_of w)) w v at z in
        alike (any (wides ts) w) (eqb v (length w))
        (λ e. eq-eqb v (length w) (h.1 ∙ sym (whole_length w e)))
        (λ e. whole_due w h.0 (sym (eqb-true v (length w) e) ∙ h.1))

    pub front_none : (us : List Word) → v ≡ 0 → any (wides (each ts us)) w ≡ false
    front_none us z = fails (any (wides (each ts us)) w) (begun_by w) (λ e. (each_begun us w e).0) (end_none (size (letter_of w)) w v at z)

    pub front_some : (us : List Word) → (v ≡ 0 → ⊥) → any (wides (each ts us)) w ≡ any (wides us) (drop v w)
    front_some us z =
        let h = end_some (size (letter_of w)) w v at z in
        alike (any (wides (each ts us)) w) (any (wides us) (past w)) (λ e. (each_begun us w e).1) (each_made us w h.0)
        ∙ ap (λ (k : ℕ). any (wides us) (drop k w)) (sym h.1)

-- SPEEDS AND LEVELS

module _ (w : Word) (v : ℕ) (at : v ≡ level_end w) where
  pub no_level : v ≡ 0 → any (wides levels) w ≡ false
  no_level = alone_none level_digits levels level_none level_due level_made w v at

  pub level_whole : (v ≡ 0 → ⊥) → any (wides levels) w ≡ eqb v (length w)
  level_whole = alone_some level_digits levels level_none level_due level_made w v at

-- what stands behind the level of a level is empty
pub level_all : (w t : Word) → 0 < level_end w → t ≡ drop (level_end w) w → any (wides levels) w ≡ eqb (length t) 0
level_all w t z e =
    let n : length t ≡ length w - level_end w = ap length e ∙ length-drop (level_end w) w in
    let l : level_end w ≤ length w = unit_inside (level_digits (letter_of w)) w in
    level_whole w (level_end w) refl (λ n. omega (arith, z)) ∙ go (eqb (level_end w) (length w)) refl n l
  where
    go : (b : Bool) → eqb (level_end w) (length w) ≡ b → length t ≡ length w - level_end w → level_end w ≤ length w → b ≡ eqb (length t) 0
    go true q n l = sym (eq-eqb (length t) 0 (omega (arith, eqb-true (level_end w) (length w) q)))
    go false q n l = sym (ne_eqb (length t) 0 (λ y. eqb-false (level_end w) (length w) q (omega arith)))

-- a level or another word
or_word_lem : (k : Word) → ((w : Word) → fits (wide k) w ≡ same w k) → (w : Word)
    → any (wides (levels ++ (k ∷ []))) w ≡ cond (any (wides levels) w) true (same w k)
or_word_lem k itself w = any_append levels (k ∷ []) w ∙ ap (cond (any (wides levels) w) true) (go (fits (wide k) w) ∙ itself w)
  where
    go : (b : Bool) → cond b true false ≡ b
    go true = refl
    go false = refl

module _ (w : Word) (v : ℕ) (at : v ≡ speed_end w) where
  behind_none : (us : List Word) → v ≡ 0 → any (wides (each speeds us)) w ≡ false
  behind_none = front_none speed_digits speeds speed_none speed_due speed_made w v at

  behind_speed : (us : List Word) → (v ≡ 0 → ⊥) → any (wides (each speeds us)) w ≡ any (wides us) (drop v w)
  behind_speed = front_some speed_digits speeds speed_none speed_due speed_made w v at

  pub no_start : v ≡ 0 → any (wides starts) w ≡ false
  unfolding starts
  no_start = behind_none (levels ++ (bytes "VFR" ∷ []))

  pub no_change : v ≡ 0 → any (wides changes) w ≡ false
  unfolding changes
  no_change = behind_none levels

  pub no_climb : v ≡ 0 → any (wides climbs) w ≡ false
  unfolding climbs
  no_climb = behind_none (each levels (levels ++ (bytes "PLUS" ∷ [])))

  -- t is what stands behind the speed
  module _ (t : Word) (is : t ≡ drop v w) (z : v ≡ 0 → ⊥) where
    behind : (us : List Word) → any (wides (each speeds us)) w ≡ any (wides us) t
    behind us = behind_speed us z ∙ ap (any (wides us)) (sym is)

    pub start_behind : any (wides starts) w ≡ cond (any (wides levels) t) true (same t (bytes "VFR"))
    unfolding starts
    start_behind = behind (levels ++ (bytes "VFR" ∷ [])) ∙ or_word_lem (bytes "VFR") vfr_itself t

    pub change_behind : any (wides changes) w ≡ any (wides levels) t
    unfolding changes
    change_behind = behind levels

    -- whose level ends at l
    module _ (l : ℕ) (end : l ≡ level_end t) where
      pub climb_none : l ≡ 0 → any (wides climbs) w ≡ false
      unfolding climbs
      climb_none e =
          behind (each levels (levels ++ (bytes "PLUS" ∷ [])))
          ∙ front_none level_digits levels level_none level_due level_made t l end (levels ++ (bytes "PLUS" ∷ [])) e

      -- and u behind it
      pub climb_behind : (u : Word) → u ≡ drop l t → (l ≡ 0 → ⊥) → any (wides climbs) w ≡ cond (any (wides levels) u) true (same u (bytes "PLUS"))
      unfolding climbs
      climb_behind u iu e =
          behind (each levels (levels ++ (bytes "PLUS" ∷ [])))
          ∙ front_some level_digits levels level_none level_due level_made t l end (levels ++ (bytes "PLUS" ∷ [])) e
          ∙ ap (any (wides (levels ++ (bytes "PLUS" ∷ [])))) (sym iu)
          ∙ or_word_lem (bytes "PLUS") plus_itself u
