-- What ties the definitions, which go by structure, to code that walks an index: of each, where it stops, the next step and the end.
-- Assumes nothing.
use Prim.Native.Nat.{ℕ, zero, suc, ◌+◌, ◌-◌, ◌*◌, ◌/◌, ◌<◌, ◌≤◌}
use mathlib.Core.Path.{◌≡◌, refl, sym, ap, ◌∙◌}
use mathlib.Core.Bool.{Bool, true, false, cond, not, ◌&&◌, false≢true, and_assoc, and-true}
use mathlib.Core.List.{List, [], ◌∷◌}
use native.Mathlib.Omega.{arith}
use native.Mathlib.Numerals.{add-one}
use native.Mathlib.Nat.{add_comm, zero-mul, suc-mul, div-le_self, le-div_iff_mul-le, div-lt_iff_lt-mul}
use lib.Dec.{leb, eqb, leb-suc-suc}
use lib.ListN.{length, take, drop, get_or, drop_of_length-le, length-drop}
use lib.Seq.{drop-cons, drop-drop, take_all, length-take-le}
use Rattle.std.proofs.lemmas.List.{get_or-take, get_or-drop}
use lib.Arith.{lt_of_le-ne}
use borrow.Author.Tests.{eq-eqb, eqb-true, ne_eqb, lt-ltb, le-ltb, le-leb, lt-leb, leb-false, not-true}
use Rattle.text.specs.Words.{Word, split, onto, after, up_to, holds, before, behind, leading, all, free, null, same, rank_from, first_cells, cells}
use Rattle.std.specs.List.{list_all, zip}
use Rattle.text.specs.Places.{Stepped}
use Rattle.text.proofs.Tests.{both}

pub drop_here : (s : List ℕ) (i : ℕ) → i < length s → drop i s ≡ get_or s i 0 ∷ drop (i + 1) s
drop_here s i h = rw (add-one, drop-cons s i 0)

pub drop_end : (s : List ℕ) (i : ℕ) → length s ≤ i → drop i s ≡ []
drop_end s i h = drop_of_length-le s h

-- what Rattle says of `&w[i..]`
pub rest : (w : List ℕ) (i : ℕ) → take (length w - i) (drop i w) ≡ drop i w
rest w i = take_all (length w - i) (drop i w) (simp length-drop (omega arith))

-- UP TO A BYTE

pub up_to-le : (c : ℕ) (s : List ℕ) → up_to c s ≤ length s
up_to-le c [] = omega arith
up_to-le c (b ∷ s) = go (up_to-le c s) (eqb b c)
  where
    go : up_to c s ≤ length s → (t : Bool) → cond t 0 (suc (up_to c s)) ≤ suc (length s)
    go ih true = omega arith
    go ih false = omega arith

pub find_here : (c : ℕ) (s : List ℕ) (i : ℕ) → i < length s → get_or s i 0 ≡ c → up_to c (drop i s) ≡ 0
find_here c s i h e = rw (drop_here s i h, eq-eqb (get_or s i 0) c e)

pub find_next : (c : ℕ) (s : List ℕ) (i : ℕ) → i < length s → (get_or s i 0 ≡ c → ⊥) → up_to c (drop i s) ≡ suc (up_to c (drop (i + 1) s))
find_next c s i h e = rw (drop_here s i h, ne_eqb (get_or s i 0) c e)

pub find_end : (c : ℕ) (s : List ℕ) (i : ℕ) → length s ≤ i → up_to c (drop i s) ≡ 0
find_end c s i h = rw (drop_end s i h)

-- what stands at the first c
pub at_up_to : (c : ℕ) (s : List ℕ) → up_to c s < length s → get_or s (up_to c s) 0 ≡ c
at_up_to c [] h = absurd (omega arith)
at_up_to c (b ∷ s) h = go (at_up_to c s) (eqb b c) refl h
  where
    go : (up_to c s < length s → get_or s (up_to c s) 0 ≡ c)
        → (u : Bool) → eqb b c ≡ u → cond u 0 (suc (up_to c s)) < suc (length s) → get_or (b ∷ s) (cond u 0 (suc (up_to c s))) 0 ≡ c
    go ih true f h = eqb-true b c f
    go ih false f h = ih (omega arith)

-- n bytes that are not c are passed at once
pub over_free : (c n : ℕ) (s : List ℕ) → n ≤ length s → free c (take n s) ≡ true → up_to c s ≡ n + up_to c (drop n s)
over_free c zero s h e = omega arith
over_free c (suc n) [] h e = absurd (omega arith)
over_free c (suc n) (b ∷ s) h e =
    let t = both (not (eqb b c)) (free c (take n s)) e in
    rw (not-true (eqb b c) t.0) (omega (arith, over_free c n s (omega arith) t.1))

-- so the next c from i on is the next from e on
pub find_part : (c : ℕ) (s : List ℕ) (i e : ℕ) → i ≤ e → e ≤ length s → free c (take (e - i) (drop i s)) ≡ true
    → i + up_to c (drop i s) ≡ e + up_to c (drop e s)
find_part c s i e l h f =
    let k : i + (e - i) ≡ e = omega arith in
    let d = drop-drop (e - i) i s ∙ ap (λ (j : ℕ). drop j s) k in
    omega (arith, over_free c (e - i) (drop i s) (omega (arith, length-drop i s)) f, ap (up_to c) d)

pub find_block : (c : ℕ) (s : List ℕ) (i : ℕ) → 16 ≤ length s - i → free c (take (i + 16 - i) (drop i s)) ≡ true
    → up_to c (drop i s) ≡ 16 + up_to c (drop (i + 16) s)
find_block c s i h e = omega (arith, find_part c s i (i + 16) (omega arith) (omega arith) e)

-- EVERY BYTE

-- the same, gathered: `fine` says it of the bytes before i
pub gather_next : (p : ℕ → Bool) (s : List ℕ) (i : ℕ) (fine : Bool) → i < length s
    → (fine && p (get_or s i 0)) && all p (drop (i + 1) s) ≡ fine && all p (drop i s)
gather_next p s i fine h = rw (drop_here s i h) (and_assoc fine (p (get_or s i 0)) (all p (drop (i + 1) s)))

pub gather_end : (p : ℕ → Bool) (s : List ℕ) (i : ℕ) (fine : Bool) → length s ≤ i → fine ≡ fine && all p (drop i s)
gather_end p s i fine h = rw (drop_end s i h) (sym (and-true fine))

-- THE BYTES AT THE FRONT THAT PASS A TEST

pub all-leading : (p : ℕ → Bool) (s : List ℕ) → all p (take (leading p s) s) ≡ true
all-leading p [] = refl
all-leading p (b ∷ s) = go (all-leading p s) (p b) refl
  where
    go : all p (take (leading p s) s) ≡ true → (t : Bool) → p b ≡ t → all p (take (cond t (suc (leading p s)) 0) (b ∷ s)) ≡ true
    go ih true e = rw e ih
    go ih false e = refl

module _ (p : ℕ → Bool) where
  pub leading-take : (n : ℕ) (s : List ℕ) → leading p s < n → leading p (take n s) ≡ leading p s
  leading-take zero s h = absurd (omega arith)
  leading-take (suc n) [] h = refl
  leading-take (suc n) (b ∷ s) h = go (leading-take n s) (p b) h
    where
      go : (leading p s < n → leading p (take n s) ≡ leading p s)
          → (t : Bool) → cond t (suc (leading p s)) 0 < suc n → cond t (suc (leading p (take n s))) 0 ≡ cond t (suc (leading p s)) 0
      go ih true h = ap suc (ih (omega arith))
      go ih false h = refl

  -- a byte that does not pass it stands behind them
  module _ (c : ℕ) (other : p c ≡ false) where
    pub up_to-leading : (s : List ℕ) → up_to c s ≡ leading p s + up_to c (drop (leading p s) s)
    up_to-leading [] = refl
    up_to-leading (b ∷ s) = go (up_to-leading s) (p b) refl (eqb b c) refl
      where
        go : up_to c s ≡ leading p s + up_to c (drop (leading p s) s)
            → (t : Bool) → p b ≡ t → (u : Bool) → eqb b c ≡ u
            → cond u 0 (suc (up_to c s)) ≡ cond t (suc (leading p s)) 0 + up_to c (drop (cond t (suc (leading p s)) 0) (b ∷ s))
        go ih true e true f = absurd (false≢true (sym other ∙ ap p (sym (eqb-true b c f)) ∙ e))
        go ih true e false f = omega (arith, ih)
        go ih false e true f = rw f
        go ih false e false f = rw f (omega arith)

    -- where all bytes before c pass it, c is what ends them
    pub leading-before : (s : List ℕ) → all p (before c s) ≡ true → leading p s ≡ up_to c s
    leading-before [] e = refl
    leading-before (b ∷ s) e = go (leading-before s) (eqb b c) refl e
      where
        go : (all p (before c s) ≡ true → leading p s ≡ up_to c s)
            → (u : Bool) → eqb b c ≡ u → all p (take (cond u 0 (suc (up_to c s))) (b ∷ s)) ≡ true → cond (p b) (suc (leading p s)) 0
            ≡ cond u 0 (suc (up_to c s))
        go ih true f e = rw (ap p (eqb-true b c f) ∙ other)
        go ih false f e = let h = both (p b) (all p (before c s)) e in rw h.0 (ap suc (ih h.1))

-- EQUAL BYTES

pub same_end : (s t : List ℕ) (i : ℕ) → length s ≤ i → length t ≤ i → same (drop i s) (drop i t) ≡ true
same_end s t i h k = rw (drop_end s i h, drop_end t i k)

-- PIECES

-- the first piece, and the pieces behind it
pub split_cut : (c : ℕ) (s : List ℕ) → split c s ≡ take (up_to c s) s ∷ after c (drop (up_to c s) s)
split_cut c [] = refl
split_cut c (b ∷ s) = go (split_cut c s) (eqb b c)
  where
    go : split c s ≡ take (up_to c s) s ∷ after c (drop (up_to c s) s)
        → (t : Bool) → let k = cond t 0 (suc (up_to c s)) in
        cond t ([] ∷ split c s) (onto b (split c s)) ≡ take k (b ∷ s) ∷ after c (drop k (b ∷ s))
    go ih true = refl
    go ih false = ap (onto b) ih

-- so there is one at least
pub null-split : (c : ℕ) (s : List ℕ) → null (split c s) ≡ false
null-split c s = ap null (split_cut c s)

-- the pieces from `at` on are the bytes up to e, where the next c stands or the text ends, and the pieces behind
pub split_at : (c : ℕ) (s : List ℕ) (at e : ℕ) → e ≡ at + up_to c (drop at s) → split c (drop at s) ≡ take (e - at) (drop at s) ∷ after c (drop e s)
split_at c s at e h =
    let n : e - at ≡ up_to c (drop at s) = omega arith in
    rw (n, h, ← drop-drop (up_to c (drop at s)) at s) (split_cut c (drop at s))

pub after_here : (c : ℕ) (s : List ℕ) (e : ℕ) → e < length s → after c (drop e s) ≡ split c (drop (e + 1) s)
after_here c s e h = ap (after c) (drop_here s e h)

pub after_end : (c : ℕ) (s : List ℕ) (e : ℕ) → length s ≤ e → after c (drop e s) ≡ []
after_end c s e h = ap (after c) (drop_end s e h)

-- the piece that a cursor is at, and where a step takes it

module _ (c : ℕ) (s : List ℕ) (at e : ℕ) (end : e ≡ at + up_to c (drop at s)) where
  pub piece : take (e - at) (drop at s) ≡ before c (drop at s)
  piece = let n : e - at ≡ up_to c (drop at s) = omega arith in rw n

  over_end : drop (e + 1) s ≡ behind c (drop at s)
  over_end =
      let n : e + 1 ≡ at + suc (up_to c (drop at s)) = omega arith in
      rw n (sym (drop-drop (suc (up_to c (drop at s))) at s))

  pub stepped : at ≤ length s → e < length s → Stepped c s at (e + 1)
  stepped l h = record { inside = omega arith; over = over_end; further = λ k. omega arith }

  pub stepped_end : at ≤ length s → e ≤ length s → length s ≤ e → Stepped c s at e
  stepped_end l m h =
      let z : length s ≤ e + 1 = omega arith in
      record { inside = m; over = drop_end s e h ∙ sym (drop_end s (e + 1) z) ∙ over_end; further = λ k. omega arith }

-- THE FIRST c, where `find` from 0 says it is

module _ (c : ℕ) (s : List ℕ) (o : ℕ) (end : o ≡ 0 + up_to c s) where
  place : up_to c s ≡ o
  place = omega arith

  pub found_none : o ≡ length s → holds c s ≡ false
  found_none h = rw place (le-ltb o (length s) (omega arith))

  pub found : (o ≡ length s → ⊥) → o ≤ length s → holds c s ≡ true
  found ne le = rw place (lt-ltb o (length s) (lt_of_le-ne le ne))

  pub found_before : take o s ≡ before c s
  found_before = rw place

  pub found_behind : drop (o + 1) s ≡ behind c s
  found_behind = rw (place, add-one o)

-- A WORD AMONG THOSE OF A LIST

module _ (k : ℕ) (w : Word) (s : List ℕ) (at e : ℕ) (end : e ≡ at + up_to 32 (drop at s)) where
  pub rank_found : same w (take (e - at) (drop at s)) ≡ true → rank_from k w (split 32 (drop at s)) ≡ k
  rank_found h = rw (split_at 32 s at e end, h)

  pub rank_last : same w (take (e - at) (drop at s)) ≡ false → length s ≤ e → rank_from k w (split 32 (drop at s)) ≡ 0
  rank_last h l = rw (split_at 32 s at e end, h, after_end 32 s e l)

  pub rank_next : same w (take (e - at) (drop at s)) ≡ false → e < length s
      → rank_from k w (split 32 (drop at s)) ≡ rank_from (k + 1) w (split 32 (drop (e + 1) s))
  rank_next h l = rw (split_at 32 s at e end, h, after_here 32 s e l, add-one k)

-- A WORD IN A LIST IN CELLS

pub first_none : (w : Word) (d : ℕ) → length w ≡ 0 → get_or w 0 d ≡ d
first_none [] d e = refl
first_none (x ∷ w) d e = absurd (omega arith)

pub first_some : (w : Word) (d : ℕ) → (length w ≡ 0 → ⊥) → get_or w 0 0 ≡ get_or w 0 d
first_some [] d n = absurd (n refl)
first_some (x ∷ w) d n = refl

-- a cell that begins otherwise does not hold the word
pub other_cell : (w cell : Word) → 0 < length cell → (get_or cell 0 0 ≡ get_or w 0 32 → ⊥) → same w (before 32 cell) ≡ false
other_cell w [] h n = absurd (omega arith)
other_cell [] (c ∷ cell) h n = rw (ne_eqb c 32 n)
other_cell (x ∷ w) (c ∷ cell) h n = go (eqb c 32)
  where
    go : (t : Bool) → same (x ∷ w) (take (cond t 0 (suc (up_to 32 cell))) (c ∷ cell)) ≡ false
    go true = refl
    go false = rw (ne_eqb x c (λ e. n (sym e)))

-- a cell holds a word that it begins with, if a space or the cell's end follows and none is among the word's bytes
abbrev pub fills : ℕ × ℕ → Bool
fills p = eqb p.0 p.1 && not (eqb p.1 32)

pub cell_holds : (w cell : Word) → same w (before 32 cell)
    ≡ (leb (length w) (length cell) && (list_all fills (zip w cell) && eqb (get_or cell (length w) 32) 32))
cell_holds [] [] = refl
cell_holds [] (c ∷ cell) = rw (le-leb 0 (suc (length cell)) (omega arith)) (go (eqb c 32))
  where
    go : (t : Bool) → same [] (take (cond t 0 (suc (up_to 32 cell))) (c ∷ cell)) ≡ t
    go true = refl
    go false = refl
cell_holds (x ∷ w) [] = rw (lt-leb (suc (length w)) 0 (omega arith))
cell_holds (x ∷ w) (c ∷ cell) = go (eqb c 32) (cell_holds w cell)
  where
    r' : Bool
    r' = leb (suc (length w)) (suc (length cell))

    a : Bool
    a = list_all fills (zip w cell)

    g : Bool
    g = eqb (get_or cell (length w) 32) 32

    none : (r e : Bool) → false ≡ (r && (((e && false) && a) && g))
    none true true = refl
    none true false = refl
    none false e = refl

    next : (r e : Bool) → (e && (r && (a && g))) ≡ (r && (((e && true) && a) && g))
    next true true = refl
    next true false = refl
    next false true = refl
    next false false = refl

    go : (t : Bool) → same w (before 32 cell) ≡ (leb (length w) (length cell) && (a && g))
        → same (x ∷ w) (take (cond t 0 (suc (up_to 32 cell))) (c ∷ cell)) ≡ (r' && (((eqb x c && not t) && a) && g))
    go true ih = none r' (eqb x c)
    go false ih = rw (ih, leb-suc-suc (length w) (length cell)) (next (leb (length w) (length cell)) (eqb x c))

-- the words of the cells from the k-th on, which begins at `at`
abbrev pub cells_from : ℕ → ℕ → ℕ → List ℕ → List Word
cells_from k n at s = first_cells (length s + 1 - k) n (drop at s)

pub all-cells : (n : ℕ) (s : List ℕ) → cells n s ≡ cells_from 1 n 0 s
all-cells n s = let m : length s ≡ length s + 1 - 1 = omega arith in ap (λ (m : ℕ). first_cells m n s) m

drop_first : (k m n : ℕ) (s : List ℕ) → 0 < n → drop k (first_cells m n s) ≡ first_cells (m - k) n (drop (k * n) s)
drop_first zero m n s h = let e : m - 0 ≡ m = omega arith in rw (e, zero-mul n)
drop_first (suc k) zero n s h = let e : 0 - suc k ≡ 0 = omega arith in rw e
drop_first (suc k) (suc m) n s h = go (drop_first k m n (drop n s) h) (leb n (length s)) refl
  where
    e : suc m - suc k ≡ m - k
    e = omega arith

    rest_of : drop (suc k * n) s ≡ drop (k * n) (drop n s)
    rest_of = ap (λ (i : ℕ). drop i s) (suc-mul k n ∙ add_comm (k * n) n) ∙ sym (drop-drop (k * n) n s)

    none : (j : ℕ) → first_cells j n [] ≡ []
    none zero = refl
    none (suc j) = rw (lt-leb n 0 h)

    go : drop k (first_cells m n (drop n s)) ≡ first_cells (m - k) n (drop (k * n) (drop n s)) → (b : Bool) → leb n (length s) ≡ b
        → drop (suc k) (cond b (before 32 (take n s) ∷ first_cells m n (drop n s)) []) ≡ first_cells (suc m - suc k) n (drop (suc k * n) s)
    go ih true q = rw (e, rest_of) ih
    go ih false q =
        let l : length s ≤ n = omega (arith, leb-false n (length s) q) in
        rw (rest_of, drop_end s n l, drop_end [] (k * n) (omega arith)) (sym (none (suc m - suc k)))

-- those behind the first k
pub drop_cells : (k n : ℕ) (s : List ℕ) → 0 < n → drop k (cells n s) ≡ cells_from (k + 1) n (k * n) s
drop_cells k n s h =
    let e : length s - k ≡ length s + 1 - (k + 1) = omega arith in
    drop_first k (length s) n s h ∙ ap (λ (m : ℕ). first_cells m n (drop (k * n) s)) e

pub next_place : (k n : ℕ) → (k + 1) * n ≡ k * n + n
next_place k n = rw (add-one k) (suc-mul k n)

module _ (k n : ℕ) (s : List ℕ) (h : 0 < n) where
  -- a cell stands behind the first k, or none
  pub cell_inside : k < length s / n → (k < length s) × (k * n + n ≤ length s)
  cell_inside l =
      let m : k + 1 ≤ length s / n = omega arith in
      (omega (arith, div-le_self (length s) n), omega (arith, (le-div_iff_mul-le h).0 m, next_place k n))

  pub cells_over : length s / n ≤ k → length s - k * n < n
  cells_over l = let m : length s / n < k + 1 = omega arith in omega (arith, (div-lt_iff_lt-mul h).0 m, next_place k n)

module _ (k n at : ℕ) (w : Word) (s : List ℕ) where
  -- whether the cell here, as Rattle says it of `&s[at..at + n]`, holds the word
  abbrev pub held : Bool
  held = same w (before 32 (take (at + n - at) (drop at s)))

  cell_here : k ≤ length s → n ≤ length s - at
      → cells_from k n at s ≡ before 32 (take (at + n - at) (drop at s)) ∷ cells_from (k + 1) n (at + n) s
  cell_here h l =
      let m : length s + 1 - k ≡ suc (length s + 1 - (k + 1)) = omega arith in
      let w : at + n - at ≡ n = omega arith in
      rw (m, w, length-drop, le-leb n (length s - at) l, drop-drop n at s)

  pub cell_found : k ≤ length s → n ≤ length s - at → held ≡ true → rank_from k w (cells_from k n at s) ≡ k
  cell_found h l e = rw (cell_here h l, e)

  pub cell_next : k ≤ length s → n ≤ length s - at → held ≡ false
      → rank_from k w (cells_from k n at s) ≡ rank_from (k + 1) w (cells_from (k + 1) n (at + n) s)
  cell_next h l e = rw (cell_here h l, e, add-one k)

  -- what begins otherwise is not held
  pub not_begun : 0 < n → n ≤ length s - at → (get_or s at 0 ≡ get_or w 0 32 → ⊥) → held ≡ false
  not_begun h l d =
      let m : at + n - at ≡ n = omega arith in
      let e : get_or (take (at + n - at) (drop at s)) 0 0 ≡ get_or s at 0
      = ap (λ (j : ℕ). get_or (take j (drop at s)) 0 0) m ∙ get_or-take n (drop at s) 0 0 h ∙ get_or-drop at s 0 0
      ∙ (let z : at + 0 ≡ at = omega arith in ap (λ (j : ℕ). get_or s j 0) z) in
      other_cell w (take (at + n - at) (drop at s)) (rw m (omega (arith, length-take-le n (drop at s) (rw length-drop l), h))) (λ q. d (sym e ∙ q))

  pub no_cell : length s - at < n → rank_from k w (cells_from k n at s) ≡ 0
  no_cell l = go (length s + 1 - k)
    where
      go : (m : ℕ) → rank_from k w (first_cells m n (drop at s)) ≡ 0
      go zero = refl
      go (suc m) = rw (length-drop, lt-leb n (length s - at) l)
