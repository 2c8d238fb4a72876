-- A list in cells of two bytes, by structure and at an index: which cell holds a code, and which can be passed by. Assumes nothing.
use Prim.Native.Nat.{ℕ, zero, suc, ◌+◌, ◌-◌, ◌*◌, ◌<◌, ◌≤◌}
use mathlib.Core.Path.{◌≡◌, refl, sym, ap, ◌∙◌}
use mathlib.Core.Bool.{Bool, true, false, cond, not}
use mathlib.Core.List.{List, [], ◌∷◌}
use native.Mathlib.Omega.{arith}
use native.Mathlib.Numerals.{add-one}
use lib.Dec.{eqb, leb}
use lib.ListN.{length, take, drop, get_or, length-drop}
use borrow.Author.Tests.{eq-eqb, ne_eqb, eqb-true, eqb-false, le-leb, leb-true, not-true}
use Rattle.alphabet.specs.Alphabet.{digit, letter}
use Rattle.text.specs.Words.{Word, up_to, before, same, rank, rank_from, first_cells, cells}
use Rattle.text.proofs.Index.{drop_here, drop_end, other_cell}
use Rattle.text.proofs.Tests.{both, other, same_self, same_other}
use Rattle.codes.specs.Codes.{codes, none_begins, index_from, is_index}

-- THE WORDS OF THE CELLS

abbrev pub pairs : List ℕ → List Word
pairs [] = []
pairs (x ∷ []) = []
pairs (x ∷ (y ∷ s)) = before 32 (x ∷ (y ∷ [])) ∷ pairs s

first_pairs : (m : ℕ) (s : List ℕ) → length s ≤ m → first_cells m 2 s ≡ pairs s
first_pairs zero [] h = refl
first_pairs zero (x ∷ s) h = absurd (omega arith)
first_pairs (suc m) [] h = refl
first_pairs (suc m) (x ∷ []) h = refl
first_pairs (suc m) (x ∷ (y ∷ s)) h =
    let l : length s ≤ m = omega arith in
    rw (le-leb 2 (suc (suc (length s))) (omega arith), first_pairs m s l)

pub cells_pairs : (s : List ℕ) → cells 2 s ≡ pairs s
cells_pairs s = first_pairs (length s) s (omega arith)

short_pairs : (s : List ℕ) → length s ≤ 1 → pairs s ≡ []
short_pairs [] h = refl
short_pairs (x ∷ []) h = refl
short_pairs (x ∷ (y ∷ s)) h = absurd (omega arith)

-- A WORD LOOKED FOR from the cell at i on

module _ (w : Word) (k : ℕ) (s : List ℕ) (i : ℕ) where
  abbrev held_here : Bool
  held_here = same w (before 32 (get_or s i 0 ∷ (get_or s (i + 1) 0 ∷ [])))

  pairs_here : i + 1 < length s → pairs (drop i s) ≡ before 32 (get_or s i 0 ∷ (get_or s (i + 1) 0 ∷ [])) ∷ pairs (drop (i + 2) s)
  pairs_here h =
      let l : i < length s = omega arith in
      let z : i + 2 ≡ i + 1 + 1 = omega arith in
      rw (z, drop_here s i l, drop_here s (i + 1) h)

  pub here : i + 1 < length s → held_here ≡ true → rank_from (k + 1) w (pairs (drop i s)) ≡ k + 1
  here h e = rw (pairs_here h, e)

  pub further : i + 1 < length s → held_here ≡ false → rank_from (k + 1) w (pairs (drop i s)) ≡ rank_from (k + 1 + 1) w (pairs (drop (i + 2) s))
  further h e = rw (pairs_here h, e, add-one (k + 1))

  pub nowhere : length s ≤ i + 1 → rank_from (k + 1) w (pairs (drop i s)) ≡ 0
  nowhere h = ap (rank_from (k + 1) w) (short_pairs (drop i s) (simp length-drop (omega arith)))

-- words that begin otherwise are passed by
skip : (w : Word) (f k : ℕ) (ws : List Word) → none_begins (get_or w 0 0) (take f ws) ≡ true → rank_from k w ws ≡ rank_from (k + f) w (drop f ws)
skip w zero k ws h = let z : k + 0 ≡ k = omega arith in rw z
skip w (suc f) k [] h = refl
skip w (suc f) k (v ∷ ws) h =
    let e = both (not (eqb (get_or v 0 0) (get_or w 0 0))) _ h in
    let n : k + suc f ≡ suc k + f = omega arith in
    let o : same w v ≡ false
    = same_other w v (λ p. eqb-false (get_or v 0 0) (get_or w 0 0) (not-true _ e.0) (ap (λ (u : Word). get_or u 0 0) (sym p))) in
    rw (o, n) (skip w f (suc k) ws e.1)

drop_pairs : (f : ℕ) (s : List ℕ) → drop f (pairs s) ≡ pairs (drop (2 * f) s)
drop_pairs zero s = refl
drop_pairs (suc f) [] = ap pairs (sym (drop_end [] (2 * suc f) (omega arith)))
drop_pairs (suc f) (x ∷ []) = ap pairs (sym (drop_end (x ∷ []) (2 * suc f) (omega arith)))
drop_pairs (suc f) (x ∷ (y ∷ s)) = let z : 2 * suc f ≡ suc (suc (2 * f)) = omega arith in rw z (drop_pairs f s)

-- A CELL of the bytes b and c

half : (c y : ℕ) → (y ≡ c → ⊥) → same (take (up_to 32 (c ∷ [])) (c ∷ [])) (take (up_to 32 (y ∷ [])) (y ∷ [])) ≡ false
half c y n = go (eqb c 32) refl (eqb y 32) refl
  where
    go : (p : Bool) → eqb c 32 ≡ p → (q : Bool) → eqb y 32 ≡ q → same (take (cond p 0 1) (c ∷ [])) (take (cond q 0 1) (y ∷ [])) ≡ false
    go true p true q = absurd (n (eqb-true y 32 q ∙ sym (eqb-true c 32 p)))
    go true p false q = refl
    go false p true q = refl
    go false p false q = rw (ne_eqb c y (λ e. n (sym e)))

module _ (b c : ℕ) (n : b ≡ 32 → ⊥) where
  abbrev cell : Word
  cell = before 32 (b ∷ (c ∷ []))

  lead : get_or cell 0 32 ≡ b
  lead = rw (ne_eqb b 32 n)

  pub cell_other : (x y : ℕ) → (x ≡ b → ⊥) → same cell (before 32 (x ∷ (y ∷ []))) ≡ false
  cell_other x y m = other_cell cell (x ∷ (y ∷ [])) (omega arith) (λ e. m (e ∙ lead))

  pub cell_half : (x y : ℕ) → x ≡ b → (y ≡ c → ⊥) → same cell (before 32 (x ∷ (y ∷ []))) ≡ false
  cell_half x y e m = rw (e, ne_eqb b 32 n, eq-eqb b b refl) (half c y m)

  pub cell_same : (x y : ℕ) → x ≡ b → y ≡ c → same cell (before 32 (x ∷ (y ∷ []))) ≡ true
  cell_same x y e f = rw (e, f) (same_self cell)

-- ONE CODE

pub code_alone : (t : List ℕ) (w : Word) (ws : List Word) → codes t ≡ w ∷ ws → codes w ≡ w ∷ []
code_alone [] w ws e = absurd (let z : ◌≡◌ {A = ℕ} 0 1 = cc in omega arith)
code_alone (c ∷ []) w ws e = let p : w ≡ c ∷ [] = cc in rw p
code_alone (c ∷ (d ∷ s)) w ws e = go (digit d) refl e
  where
    go : (b : Bool) → digit d ≡ b → cond b ((c ∷ (d ∷ [])) ∷ codes s) ((c ∷ []) ∷ codes (d ∷ s)) ≡ w ∷ ws → codes w ≡ w ∷ []
    go true q e = let p : w ≡ c ∷ (d ∷ []) = cc in rw (p, q)
    go false q e = let p : w ≡ c ∷ [] = cc in rw p

-- a code is a byte, or a byte and a digit
data Code : Word → Type 0 where
  one : (c : ℕ) → Code (c ∷ [])
  two : (c d : ℕ) → digit d ≡ true → Code (c ∷ (d ∷ []))

code_shape : (w : Word) → codes w ≡ w ∷ [] → Code w
code_shape [] e = absurd (let z : ◌≡◌ {A = ℕ} 0 1 = cc in omega arith)
code_shape (c ∷ []) e = one c
code_shape (c ∷ (d ∷ [])) e = go (digit d) refl e
  where
    go : (b : Bool) → digit d ≡ b → cond b ((c ∷ (d ∷ [])) ∷ []) ((c ∷ []) ∷ ((d ∷ []) ∷ [])) ≡ (c ∷ (d ∷ [])) ∷ [] → Code (c ∷ (d ∷ []))
    go true q e = two c d q
    go false q e = absurd (let z : ◌≡◌ {A = ℕ} 0 1 = cc in omega arith)
code_shape (c ∷ (d ∷ (x ∷ w))) e = go (digit d) e
  where
    go : (b : Bool) → cond b ((c ∷ (d ∷ [])) ∷ codes (x ∷ w)) ((c ∷ []) ∷ codes (d ∷ (x ∷ w))) ≡ (c ∷ (d ∷ (x ∷ w))) ∷ [] → Code (c ∷ (d ∷ (x ∷ w)))
    go true e = absurd (let z : ◌≡◌ {A = ℕ} 0 1 = cc in omega arith)
    go false e = absurd (let z : ◌≡◌ {A = ℕ} 0 1 = cc in omega arith)

-- no cell's word begins with a space
no_space : (w : Word) → get_or w 0 0 ≡ 32 → (k : ℕ) (s : List ℕ) → rank_from k w (pairs s) ≡ 0
no_space w e k [] = refl
no_space w e k (x ∷ []) = refl
no_space [] e k (x ∷ (y ∷ s)) = absurd (omega arith)
no_space (c ∷ w) e k (x ∷ (y ∷ s)) = go (no_space (c ∷ w) e (suc k) s) (eqb x 32) refl
  where
    go : rank_from (suc k) (c ∷ w) (pairs s) ≡ 0
        → (q : Bool) → eqb x 32 ≡ q
        → cond (same (c ∷ w) (take (cond q 0 (suc (up_to 32 (y ∷ [])))) (x ∷ (y ∷ [])))) k (rank_from (suc k) (c ∷ w) (pairs s)) ≡ 0
    go ih true q = ih
    go ih false q = rw (ne_eqb c x (λ p. eqb-false x 32 q (sym p ∙ e))) ih

-- ITS RANK, by an index of the list

module _ (w : Word) (e : codes w ≡ w ∷ []) where
  pub code_some : 0 < length w
  code_some = go (code_shape w e)
    where
      go : {v : Word} → Code v → 0 < length v
      go (one c) = omega arith
      go (two c d q) = omega arith

  pub rank_space : get_or w 0 0 ≡ 32 → (list : List ℕ) → rank w (cells 2 list) ≡ 0
  rank_space z list = ap (rank w) (cells_pairs list) ∙ no_space w z 1 list

  -- it is the word of the cell of its byte and a space, or of its two bytes
  cell_is : (get_or w 0 0 ≡ 32 → ⊥) → before 32 (get_or w 0 0 ∷ (get_or w 1 32 ∷ [])) ≡ w
  cell_is n = go (code_shape w e) n
    where
      go : {v : Word} → Code v → (get_or v 0 0 ≡ 32 → ⊥) → before 32 (get_or v 0 0 ∷ (get_or v 1 32 ∷ [])) ≡ v
      go (one c) n = rw (ne_eqb c 32 n)
      go (two c d q) n = rw (ne_eqb c 32 n, not-true (eqb d 32) (other digit 32 refl d q))

  pub rank-behind : (get_or w 0 0 ≡ 32 → ⊥) → (list : List ℕ) (f c : ℕ) → none_begins (get_or w 0 0) (take f (cells 2 list)) ≡ true → c ≡ get_or w 1 32
      → rank_from (f + 1) (before 32 (get_or w 0 0 ∷ (c ∷ []))) (cells 2 (drop (2 * f) list)) ≡ rank w (cells 2 list)
  rank-behind n list f c passed q =
      let z : f + 1 ≡ 1 + f = omega arith in
      ap (λ (d : ℕ). rank_from (f + 1) (before 32 (get_or w 0 0 ∷ (d ∷ []))) (cells 2 (drop (2 * f) list))) q
      ∙ ap (λ (v : Word). rank_from (f + 1) v (cells 2 (drop (2 * f) list))) (cell_is n)
      ∙ ap (rank_from (f + 1) w) (cells_pairs (drop (2 * f) list) ∙ sym (drop_pairs f list) ∙ ap (drop f) (sym (cells_pairs list)))
      ∙ ap (λ (k : ℕ). rank_from k w (drop f (cells 2 list))) z
      ∙ sym (skip w f 1 (cells 2 list) passed)

-- WHAT AN INDEX SAYS of one letter

index_at : (b : ℕ) (first : List ℕ) (list : List Word) → index_from b first list ≡ true → (i : ℕ) → none_begins (b + i) (take (get_or first i 0) list) ≡ true
index_at b [] list e i = refl
index_at b (n ∷ first) list e zero =
    let z : b + 0 ≡ b = omega arith in
    rw z (both (none_begins b (take n list)) (index_from (suc b) first list) e).0
index_at b (n ∷ first) list e (suc i) =
    let z : b + suc i ≡ suc b + i = omega arith in
    rw z (index_at (suc b) first list (both (none_begins b (take n list)) (index_from (suc b) first list) e).1 i)

pub letter_bounds : (b : ℕ) → letter b ≡ true → (65 ≤ b) × (b ≤ 90)
letter_bounds b l = let h = both (leb 65 b) (leb b 90) l in (leb-true 65 b h.0, leb-true b 90 h.1)

pub index_letter : (first : List ℕ) (list : List Word) → is_index first list ≡ true
    → (b i f : ℕ) → letter b ≡ true → i ≡ b - 65 → f ≡ get_or first i 0 → none_begins b (take f list) ≡ true
index_letter first list e b i f l p q =
    let h = letter_bounds b l in
    let z : b ≡ 65 + i = omega arith in
    rw (z, q) (index_at 65 first list e i)

pub letter_no_space : (b : ℕ) → letter b ≡ true → b ≡ 32 → ⊥
letter_no_space b l = eqb-false b 32 (not-true _ (other letter 32 refl b l))
