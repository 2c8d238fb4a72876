-- A message is its own reduction exactly where each of its bytes stays as it is. Assumes nothing.
use Prim.Native.Nat.{ℕ, zero, suc, ◌+◌, ◌-◌, ◌<◌, ◌≤◌}
use mathlib.Core.Path.{◌≡◌, refl, sym, ◌∙◌}
use mathlib.Core.Bool.{Bool, true, false, cond, not, ◌&&◌, ◌||◌, or-true, false≢true}
use mathlib.Core.List.{List, [], ◌∷◌}
use native.Mathlib.Omega.{arith}
use lib.Dec.{ltb, leb, eqb}
use lib.Arith.{lt_of_le-ne}
use lib.ListN.{length, take, drop, get_or, length-drop}
use lib.Seq.{drop-drop, get_or-drop}
use borrow.Author.Tests.{eq-eqb, ne_eqb, eqb-true, eqb-false, ltb-false, leb-false, not-true}
use Rattle.alphabet.specs.Alphabet.{white}
use Rattle.text.specs.Words.{same}
use Rattle.text.specs.Pairs.{all_pairs}
use Rattle.text.proofs.Tests.{both, and_false, same_lengths}
use Rattle.text.proofs.Index.{drop_here, drop_end, rest}
use Rattle.space.specs.Reduced.{opens, closes, stands_for_run, reduced_from, reduced}
use Rattle.space.specs.Stays.{stays, all_stay, regular, all_regular}
use Rattle.space.proofs.Bytes.{space_white}
use Rattle.space.proofs.Index.{not_before_white}
use Rattle.space.proofs.Reduced.{shorter}

-- ITS OWN REDUCTION

-- the byte before them tells where a run at the front is just after `(` or `-`
abbrev pub Told : ℕ → Bool → List ℕ → Type 0
Told p a m = 0 < length m → white (get_or m 0 0) ≡ true → opens p ≡ a

-- a byte that stands for its run has no white space behind it
pub told_behind : (b : ℕ) (a : Bool) (m : List ℕ) → stands_for_run a m ≡ true → Told b a m
told_behind b a m s h w = absurd (false≢true (sym (not_before_white m a 0 h w) ∙ s))

-- one byte before the rest: it is white space or not, it stands for its run or not, it is a space or not
one_byte : (p b : ℕ) (a : Bool) (m : List ℕ) (w s e : Bool) → white b ≡ w → stands_for_run a m ≡ s → eqb b 32 ≡ e → (white b ≡ true → opens p ≡ a)
    → same (reduced_from (opens b) m) m ≡ all_stay b m → (Told b a m → same (reduced_from a m) m ≡ all_stay b m)
    → same (reduced_from a (b ∷ m)) (b ∷ m) ≡ all_stay p (b ∷ m)
unfolding reduced_from all_stay
one_byte p b a m false s e ew es ee o solid run = rw (ew, eq-eqb b b refl) solid
one_byte p b a m true true true ew es ee o solid run =
    rw (ew, es, o ew, es, ee, eq-eqb 32 b (sym (eqb-true b 32 ee))) (run (told_behind b a m es))
one_byte p b a m true true false ew es ee o solid run =
    rw (ew, es, ee, ne_eqb 32 b (λ q. eqb-false b 32 ee (sym q)))
one_byte p b a m true false e ew es ee o solid run =
    let l : length (reduced_from a m) ≤ length m = shorter a m in
    rw (ew, es, same_lengths (reduced_from a m) (b ∷ m) (λ q. omega arith), o ew, es, and_false (eqb b 32) false refl)

all_stay_lem : (p : ℕ) (a : Bool) (m : List ℕ) → Told p a m → same (reduced_from a m) m ≡ all_stay p m
unfolding reduced_from all_stay
all_stay_lem p a [] t = refl
all_stay_lem p a (b ∷ m) t =
    one_byte p b a m (white b) (stands_for_run a m) (eqb b 32) refl refl refl (t (omega arith)) (all_stay_lem b (opens b) m (λ h w. refl)) (all_stay_lem b a m)

pub own_reduction : (m : List ℕ) → same (reduced m) m ≡ all_stay 0 m
unfolding reduced opens
own_reduction m = all_stay_lem 0 false m (λ h w. refl)

-- ONE BYTE

pub space_stays : (p b : ℕ) (m : List ℕ) (r : Bool) → b ≡ 32 → r ≡ stands_for_run (opens p) m → r ≡ stays p b m
space_stays p b m r e t = rw (e, space_white) t

pub other_stays : (p b : ℕ) (m : List ℕ) (w : Bool) → (b ≡ 32 → ⊥) → w ≡ white b → not w ≡ stays p b m
other_stays p b m w n t = rw (t, ne_eqb b 32 n) (same_choice (white b))
  where
    same_choice : (x : Bool) → not x ≡ cond x false true
    same_choice true = refl
    same_choice false = refl

-- WALKING

module _ (m : List ℕ) (p i : ℕ) where
  -- what is behind byte i, as Rattle says it of `&m[i + 1..]`
  abbrev stays_here : Bool
  stays_here = stays p (get_or m i 0) (take (length m - (i + 1)) (drop (i + 1) m))

  pub stay_stop : i < length m → stays_here ≡ false → all_stay p (drop i m) ≡ false
  unfolding all_stay
  stay_stop h e = rw (drop_here m i h) (rw (rw (rest m (i + 1)) at e))

  pub stay_next : i < length m → stays_here ≡ true → all_stay p (drop i m) ≡ all_stay (get_or m i 0) (drop (i + 1) m)
  unfolding all_stay
  stay_next h e = rw (drop_here m i h) (rw (rw (rest m (i + 1)) at e))

  pub stay_end : length m ≤ i → all_stay p (drop i m) ≡ true
  unfolding all_stay
  stay_end h = rw (drop_end m i h)

-- REGULAR BYTES

either_of_two : (x a b : Bool) → ((x || a) || b) ≡ (x || cond a true (cond b true false))
either_of_two true a b = refl
either_of_two false true b = refl
either_of_two false false true = refl
either_of_two false false false = refl

-- as the code tests it
pub regular_is : (b c : ℕ) → not (ltb b 32 || (eqb b 32 && ((leb c 32 || eqb c 45) || eqb c 41))) ≡ regular b c
unfolding closes
regular_is b c = rw (either_of_two (leb c 32) (eqb c 45) (eqb c 41))

-- a byte above the space in the code is no white space
solid_over : (b : ℕ) → 32 < b → white b ≡ false
unfolding white
solid_over b h = rw (ne_eqb b 32 (λ e. omega arith), ne_eqb b 13 (λ e. omega arith), ne_eqb b 10 (λ e. omega arith))

neither : (x y : Bool) → (x || y) ≡ false → (x ≡ false) × (y ≡ false)
neither true y e = absurd (false≢true (sym e))
neither false y e = (refl, e)

pub regular_stays : (a : Bool) (b c : ℕ) (s : List ℕ) → regular b c ≡ true → cond (white b) (eqb b 32 && stands_for_run a (c ∷ s)) true ≡ true
unfolding stands_for_run
regular_stays a b c s e = go (eqb b 32) refl h.1
  where
    h : (ltb b 32 ≡ false) × ((eqb b 32 && (leb c 32 || closes c)) ≡ false)
    h = neither (ltb b 32) (eqb b 32 && (leb c 32 || closes c)) (not-true _ e)

    go : (t : Bool) → eqb b 32 ≡ t → (t && (leb c 32 || closes c)) ≡ false → cond (white b) (eqb b 32 && stands_for_run a (c ∷ s)) true ≡ true
    go true q d =
        let k = neither (leb c 32) (closes c) d in
        rw (eqb-true b 32 q, space_white, solid_over c (leb-false c 32 k.0), k.1) (or-true a)
    go false q d =
        let l : 32 ≤ b = ltb-false b 32 h.0 in
        let n = eqb-false b 32 q in
        rw (solid_over b (lt_of_le-ne l (λ z. n (sym z))))

-- regular bytes stay
pub block_stays : (n p : ℕ) (m : List ℕ) → n < length m → all_regular (take (suc n) m) ≡ true → all_stay p m ≡ all_stay (get_or (p ∷ m) n 0) (drop n m)
unfolding all_stay all_pairs
block_stays zero p m h e = refl
block_stays (suc n) p [] h e = absurd (omega arith)
block_stays (suc n) p (b ∷ []) h e = absurd (omega arith)
block_stays (suc n) p (b ∷ (c ∷ s)) h e =
    let t = both (regular b c) (all_regular (c ∷ take n s)) e in
    rw (regular_stays (opens p) b c s t.0) (block_stays n b (c ∷ s) (omega arith) t.1)

-- WALKING BY BLOCKS of 16 bytes

module _ (m : List ℕ) (p i : ℕ) where
  pub stay_block : 16 < length m - i → all_regular (take (i + 16 + 1 - i) (drop i m)) ≡ true
      → all_stay p (drop i m) ≡ all_stay (get_or m (i + 16 - 1) 0) (drop (i + 16) m)
  stay_block h e =
      let n : i + 16 + 1 - i ≡ 17 = omega arith in
      let k : i + 16 - 1 ≡ i + 15 = omega arith in
      let l : 16 < length (drop i m) = rw length-drop h in
      rw (k, ← get_or-drop i m 15 0, ← drop-drop 16 i m) (block_stays 16 p (drop i m) l (rw n at e))

  pub stay_rest : (r : Bool) → r ≡ all_stay p (take (length m - i) (drop i m)) → all_stay p (drop i m) ≡ all_stay 0 m → r ≡ same (reduced m) m
  stay_rest r e q = e ∙ rw (rest m i) (q ∙ sym (own_reduction m))
