-- A board's numbers, row by row: writing them and reading them, place by place. Assumes nothing.
use Prim.Native.Nat.{ℕ, zero, suc, ◌+◌, ◌*◌, ◌-◌, ◌≤◌, ◌<◌}
use mathlib.Core.Path.{◌≡◌, refl, sym, ap, ap₂, ◌∙◌}
use mathlib.Core.List.{List, [], ◌∷◌, ◌++◌, append-nil}
use native.Mathlib.Numerals.{add-one}
use native.Mathlib.Omega.{arith}
use lib.ListN.{length, take, drop, get_or, set, length-append, length-drop, drop_of_length-le}
use lib.Seq.{take_all, drop-drop, drop-append_seam, take-suc-set, append_snoc, length-take-le}
use Rattle.std.specs.Prelude.{None, Some}
use Rattle.text.specs.Lent.{front}
use Rattle.text.proofs.Lent.{lent, next_out}
use borrow.Author.Tests.{eq-eqb, ne_eqb}
use Rattle.state.specs.declared.State.{State}
use Rattle.state.specs.declared.State.TheVariants.{Filed, Departed, Arrived, Cancelled}
use Rattle.handed.specs.States.{state_numbers, kept, state_of}
use Rattle.handed.proofs.Steps.{state_laid}
use Rattle.racks.specs.Places.{Place, held_at}
use Rattle.board_numbers.specs.Numbers.{held_numbers, rows_from, board_numbers, held_of, places_from, board_of}

-- A ROW has ten numbers

flight_long : (s : State) (n : ℕ) → length (1 ∷ (state_numbers s ++ (n ∷ []))) ≡ 10
flight_long Filed n = refl
flight_long (Departed t) n = refl
flight_long (Arrived (Some d) a t) n = refl
flight_long (Arrived None a t) n = refl
flight_long Cancelled n = refl

pub row_long : (h : Place) → length (held_numbers h) ≡ 10
row_long None = refl
row_long (Some p) = flight_long p.held.state p.length

pub rows_long : (ps : List Place) (i n : ℕ) → length (rows_from ps i n) ≡ 10 * n
rows_long ps i zero = refl
rows_long ps i (suc n) = length-append (held_numbers (held_at ps i)) (rows_from ps (suc i) n) ∙ omega (arith, row_long (held_at ps i), rows_long ps (suc i) n)

pub numbers_long : (ps : List Place) → length (board_numbers ps) ≡ 200
unfolding board_numbers
numbers_long ps = rows_long ps 0 20

-- a place's row, number by number
pub row_laid : (s : State) (n : ℕ) (e : List ℕ) → e ≡ state_numbers s
    → 1 ∷ get_or e 0 0 ∷ get_or e 1 0 ∷ get_or e 2 0 ∷ get_or e 3 0 ∷ get_or e 4 0 ∷ get_or e 5 0 ∷ get_or e 6 0 ∷ get_or e 7 0 ∷ n ∷ []
    ≡ 1 ∷ (state_numbers s ++ (n ∷ []))
row_laid s n e q = ap (λ (l : List ℕ). 1 ∷ (l ++ (n ∷ []))) (state_laid s e q)

-- WRITING: what is due from place i on

pub behind_row : (h : Place) (k : ℕ) (rest : List ℕ) → drop (10 + k) (held_numbers h ++ rest) ≡ drop k rest
behind_row h k rest =
    ap (λ (n : ℕ). drop (n + k) (held_numbers h ++ rest)) (sym (row_long h))
    ∙ sym (drop-drop k (length (held_numbers h)) (held_numbers h ++ rest))
    ∙ ap (drop k) (drop-append_seam (held_numbers h) rest)

rows_at : (ps : List Place) (j n i k : ℕ) → i < n → k ≡ j + i
    → drop (10 * i) (rows_from ps j n) ≡ held_numbers (held_at ps k) ++ rows_from ps (suc k) (n - suc i)
rows_at ps j zero i k h e = absurd (omega arith)
rows_at ps j (suc n) zero k h e =
    let a : j ≡ k = omega arith in
    let b : n ≡ suc n - 1 = omega arith in
    ap₂ (λ (x y : ℕ). held_numbers (held_at ps x) ++ rows_from ps (suc x) y) a b
rows_at ps j (suc n) (suc i) k h e =
    let a : 10 * suc i ≡ 10 + 10 * i = omega arith in
    let b : n - suc i ≡ suc n - suc (suc i) = omega arith in
    ap (λ (m : ℕ). drop m (rows_from ps j (suc n))) a
    ∙ behind_row (held_at ps j) (10 * i) (rows_from ps (suc j) n)
    ∙ rows_at ps (suc j) n i k (omega arith) (omega arith)
    ∙ ap (λ (x : ℕ). held_numbers (held_at ps k) ++ rows_from ps (suc k) x) b

pub numbers_at : (ps : List Place) (i : ℕ) → i < 20
    → drop (10 * i) (board_numbers ps) ≡ held_numbers (held_at ps i) ++ rows_from ps (suc i) (20 - suc i)
unfolding board_numbers
numbers_at ps i h = rows_at ps 0 20 i i h (omega arith)

-- out with the first o of the board's numbers, and the rest as it was
abbrev pub so_far : List Place → List ℕ → ℕ → List ℕ
so_far ps out₀ o = take o (board_numbers ps) ++ drop o out₀

so_far_long : (ps : List Place) (out₀ : List ℕ) (o : ℕ) → o ≤ 200 → length out₀ ≡ 200 → length (so_far ps out₀ o) ≡ 200
so_far_long ps out₀ o h l =
    length-append (take o (board_numbers ps)) (drop o out₀)
    ∙ omega (arith, length-take-le o (board_numbers ps) (omega (arith, numbers_long ps)), length-drop o out₀)

-- a row more is written
module _ (ps : List Place) (out₀ out row ys : List ℕ) (i : ℕ) (h : i < 20) (l : length out₀ ≡ 200) (e : out ≡ so_far ps out₀ (10 * i))
    (r : row ≡ held_numbers (held_at ps i)) (y : ys ≡ front row (take (length out - 10 * i) (drop (10 * i) out))) where
  abbrev new : List ℕ
  new = take (10 * i) out ++ (ys ++ drop (length out - 10 * i) (drop (10 * i) out))

  pub row_written : new ≡ so_far ps out₀ (10 * (i + 1))
  row_written =
      let d = numbers_at ps i h ∙ ap (λ (x : List ℕ). x ++ rows_from ps (suc i) (20 - suc i)) (sym r) in
      let k : 10 * i + length row ≡ 10 * (i + 1) = omega (arith, ap length r, row_long (held_at ps i)) in
      lent out row (10 * i) ys y
      ∙ next_out (board_numbers ps) out₀ out (10 * i) e (omega (arith, numbers_long ps)) row (rows_from ps (suc i) (20 - suc i)) d
      ∙ ap (so_far ps out₀) k

  pub written_long : length new ≡ 200
  written_long = ap length row_written ∙ so_far_long ps out₀ (10 * (i + 1)) (omega arith) l

pub all_written : (ps : List Place) (out₀ out : List ℕ) (o : ℕ) → out ≡ so_far ps out₀ o → o ≡ 200 → length out₀ ≡ 200 → out ≡ board_numbers ps
all_written ps out₀ out o e q l =
    e
    ∙ ap₂ (λ (x y : List ℕ). x ++ y) (take_all o (board_numbers ps) (omega (arith, q, numbers_long ps))) (drop_of_length-le out₀ {i = o} (omega (arith, l, q)))
    ∙ append-nil (board_numbers ps)

-- READING: the places that the rows from place i on mean

unfoldable pub ahead : List ℕ → ℕ → List Place
ahead ns i = places_from (20 - i) (drop (10 * i) ns)

pub ahead_first : (ns : List ℕ) → ahead ns 0 ≡ board_of ns
unfolding ahead board_of
ahead_first ns = refl

pub ahead_next : (ns : List ℕ) (i : ℕ) → i < 20 → ahead ns i ≡ held_of (drop (10 * i) ns) ∷ ahead ns (i + 1)
unfolding ahead
ahead_next ns i h =
    let e : 20 - i ≡ suc (20 - (i + 1)) = omega arith in
    let k : 10 * i + 10 ≡ 10 * (i + 1) = omega arith in
    let x = drop (10 * i) ns in
    ap (λ (m : ℕ). places_from m x) e
    ∙ ap (λ (l : List ℕ). held_of x ∷ places_from (20 - (i + 1)) l) (drop-drop 10 (10 * i) ns ∙ ap (λ (m : ℕ). drop m ns) k)

pub ahead_none : (ns : List ℕ) (i : ℕ) → 20 ≤ i → ahead ns i ≡ []
unfolding ahead
ahead_none ns i h =
    let e : 20 - i ≡ 0 = omega arith in
    ap (λ (m : ℕ). places_from m (drop (10 * i) ns)) e

-- a place more is there
pub place_put : (ps : List Place) (i : ℕ) (p : Place) (rest whole : List Place) → i < length ps → take i ps ++ (p ∷ rest) ≡ whole
    → take (i + 1) (set ps i p) ++ rest ≡ whole
place_put ps i p rest whole h e =
    ap (λ (k : ℕ). take k (set ps i p) ++ rest) (add-one i)
    ∙ ap (λ (l : List Place). l ++ rest) (take-suc-set ps i p h)
    ∙ append_snoc (take i ps) p rest
    ∙ e

pub all_read : (ps : List Place) (i : ℕ) (ns : List ℕ) → length ps ≡ 20 → 20 ≤ i → take i ps ++ ahead ns i ≡ board_of ns → ps ≡ board_of ns
all_read ps i ns l h e =
    sym (append-nil ps)
    ∙ ap₂ (λ (x y : List Place). x ++ y) (sym (take_all i ps (omega (arith, l)))) (sym (ahead_none ns i h))
    ∙ e

-- A PLACE, by its ten numbers

state_behind : (ns : List ℕ)
    → state_of (get_or ns 1 0 ∷ get_or ns 2 0 ∷ get_or ns 3 0 ∷ get_or ns 4 0 ∷ get_or ns 5 0 ∷ get_or ns 6 0 ∷ get_or ns 7 0 ∷ get_or ns 8 0 ∷ [])
    ≡ state_of (drop 1 ns)
state_behind [] = refl
state_behind (n ∷ ns) = refl

module _ (ns : List ℕ) where
  pub none_held : get_or ns 0 0 ≡ 0 → None ≡ held_of ns
  unfolding held_of
  none_held e = rw (eq-eqb (get_or ns 0 0) 0 e)

  pub one_held : (get_or ns 0 0 ≡ 0 → ⊥) → (s : State) (n : ℕ)
      → s ≡ state_of (get_or ns 1 0 ∷ get_or ns 2 0 ∷ get_or ns 3 0 ∷ get_or ns 4 0 ∷ get_or ns 5 0 ∷ get_or ns 6 0 ∷ get_or ns 7 0 ∷ get_or ns 8 0 ∷ [])
      → n ≡ kept 1801 (get_or ns 9 0) → Some (record { held = record { state = s }; length = n }) ≡ held_of ns
  unfolding held_of
  one_held z s n es en =
      rw (ne_eqb (get_or ns 0 0) 0 z, en)
      (ap (λ (t : State). Some (record { held = record { state = t }; length = kept 1801 (get_or ns 9 0) })) (es ∙ state_behind ns))
