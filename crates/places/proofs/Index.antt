-- The places of parts, one byte at an index. Assumes nothing.
use Prim.Native.Nat.{ℕ, zero, suc, ◌+◌, ◌-◌, ◌<◌, ◌≤◌}
use mathlib.Core.Path.{◌≡◌, refl, sym, ap, ◌∙◌}
use mathlib.Core.Bool.{Bool, true, false, cond, and-false, true≢false}
use Rattle.std.specs.Prelude.{Some, None}
use mathlib.Core.List.{List, [], ◌∷◌, ◌++◌}
use lib.Dec.{ltb}
use lib.ListN.{length, take, drop, get_or, length-drop}
use native.Mathlib.Omega.{arith}
use Rattle.text.specs.Words.{Word, null, split, up_to, holds, behind, leading}
use native.Mathlib.Nat.{not-suc-le-zero, add-zero}
use Rattle.places.proofs.Larger.{smaller_by}
use lib.Dec.{leb}
use borrow.Author.Tests.{lt-ltb, le-ltb, lt-leb, le-leb}
use Rattle.text.proofs.Index.{drop_here, drop_end, rest, split_at, after_here, after_end, null-split, found, found_none, found_before, found_behind}
use Rattle.places.specs.Words.{Words, onward, words_place}
use Rattle.std.specs.List.{prefix_len, zip}
use Rattle.places.specs.Parts.{along_by, run_place, no_more, fixed_place, cut_place, then_place, passes}

-- FOLLOWING, over the pairs of bytes at one place
pub along_zipped : (m : ℕ → ℕ → Bool) (t w : Word) → prefix_len (λ (p : ℕ × ℕ). m p.0 p.1) (zip t w) ≡ along_by m t w
along_zipped m [] w = refl
along_zipped m (x ∷ t) [] = refl
along_zipped m (x ∷ t) (b ∷ w) = go (m x b) (along_zipped m t w)
  where
    go : (c : Bool) → prefix_len (λ (p : ℕ × ℕ). m p.0 p.1) (zip t w) ≡ along_by m t w
        → cond c (1 + prefix_len (λ (p : ℕ × ℕ). m p.0 p.1) (zip t w)) 0 ≡ cond c (suc (along_by m t w)) 0
    go true e = omega arith
    go false e = refl

-- WHAT STANDS BEHIND i, and a place in it

pub behind_within : (pg : List ℕ → ℕ) → ((w : List ℕ) → pg w ≤ length w) → (s : List ℕ) (i r : ℕ) → i ≤ length s → r ≡ pg (take (length s - i) (drop i s))
    → i + r ≤ length s
behind_within pg b s i r h e =
    let x : r ≡ pg (drop i s) = e ∙ ap pg (rest s i) in
    let y : pg (drop i s) ≤ length (drop i s) = b (drop i s) in
    let z : length (drop i s) ≡ length s - i = length-drop i s in
    omega arith

-- CUT AT THE FIRST c, where `find` from 0 says it is

module _ (c : ℕ) (f : List ℕ → Bool) (pf pg : List ℕ → ℕ) (s : List ℕ) (o : ℕ) (end : o ≡ 0 + up_to c s) where
  pub cut_none : (r : ℕ) → o ≡ length s → r ≡ pf (take o s) → r ≡ cut_place c f pf pg s
  cut_none r h e = rw (found_none c s o end h, ← found_before c s o end) e

  pub cut_off : (r : ℕ) → f (take o s) ≡ false → r ≡ pf (take o s) → r ≡ cut_place c f pf pg s
  cut_off r h e = rw (← found_before c s o end, h, and-false (holds c s)) e

  pub cut_on : (r : ℕ) → (o ≡ length s → ⊥) → o ≤ length s → f (take o s) ≡ true → r ≡ pg (take (length s - (o + 1)) (drop (o + 1) s))
      → o + 1 + r ≡ cut_place c f pf pg s
  cut_on r n l h e =
      let x : r ≡ pg (behind c s) = e ∙ ap pg (rest s (o + 1) ∙ found_behind c s o end) in
      let y : up_to c s ≡ o = omega arith in
      rw (found c s o end n l, ← found_before c s o end, h) (omega arith)

-- ONE PART BEHIND ANOTHER, where n bytes in front are of the set

module _ (p : ℕ → Bool) (f : List ℕ → Bool) (pf pg : List ℕ → ℕ) (s : List ℕ) (n : ℕ) (end : n ≡ leading p s) where
  pub then_none : (r : ℕ) → n ≡ length s → r ≡ pf (take n s) → r ≡ then_place p f pf pg s
  then_none r h e = rw (← end, le-ltb n (length s) (omega arith)) e

  pub then_off : (r : ℕ) → f (take n s) ≡ false → r ≡ pf (take n s) → r ≡ then_place p f pf pg s
  then_off r h e = rw (← end, h, and-false (ltb n (length s))) e

  pub then_on : (r : ℕ) → n < length s → f (take n s) ≡ true → r ≡ pg (take (length s - n) (drop n s)) → n + r ≡ then_place p f pf pg s
  then_on r l h e = rw (← end, lt-ltb n (length s) l, h) (ap (λ (k : ℕ). n + k) (e ∙ ap pg (rest s n)))

-- WORDS, at an index: the word at `at` ends at e

module _ (W : Words) (pw : W.K → Word → ℕ) (k : W.K) (s : List ℕ) (at e : ℕ) (end : e ≡ at + up_to 32 (drop at s)) where
  abbrev word : Word
  word = take (e - at) (drop at s)

  abbrev place : ℕ
  place = words_place W pw k (split 32 (drop at s))

  two_words : (w : Word) (ws : List Word) → null ws ≡ false
      → words_place W pw k (w ∷ ws) ≡ onward W (W.after k w) (pw k w) (length w) (λ j. words_place W pw j ws)
  two_words w [] h = absurd (true≢false h)
  two_words w (v ∷ ws) h = refl

  cut_here : e < length s → place ≡ onward W (W.after k word) (pw k word) (length word) (λ j. words_place W pw j (split 32 (drop (e + 1) s)))
  cut_here l = rw (split_at 32 s at e end, after_here 32 s e l) (two_words word (split 32 (drop (e + 1) s)) (null-split 32 (drop (e + 1) s)))

  pub words_last : length s ≤ e → place ≡ pw k word
  words_last l = rw (split_at 32 s at e end, after_end 32 s e l)

  pub words_stuck : e < length s → W.after k word ≡ None → place ≡ pw k word
  words_stuck l h = cut_here l ∙ rw h

  pub words_end : (j : W.K) → e < length s → W.after k word ≡ Some j → W.goes j ≡ false → place ≡ length word
  words_end j l h g = cut_here l ∙ rw (h, g)

  pub words_next : (j : W.K) → e < length s → W.after k word ≡ Some j → W.goes j ≡ true
      → place ≡ suc (length word) + words_place W pw j (split 32 (drop (e + 1) s))
  words_next j l h g = cut_here l ∙ rw (h, g)

-- SO MANY BYTES OF A SET

module _ (p : ℕ → Bool) (n : ℕ) (pg : List ℕ → ℕ) (s : List ℕ) (m : ℕ) (end : m ≡ leading p s) where
  pub fixed_short : m < n → m ≡ fixed_place p n pg s
  fixed_short h = rw (← end, lt-leb n m h)

  pub fixed_whole : (r : ℕ) → n ≤ m → r ≡ pg (take (length s - n) (drop n s)) → n + r ≡ fixed_place p n pg s
  fixed_whole r h e = rw (← end, le-leb n m h) (ap (λ (k : ℕ). n + k) (e ∙ ap pg (rest s n)))

-- and nothing behind them
pub fixed_run : (p : ℕ → Bool) (n : ℕ) (s : List ℕ) → run_place n p s ≡ fixed_place p n no_more s
fixed_run p n s = sym (smaller_by n (leading p s)) ∙ ap (λ (k : ℕ). cond (leb n (leading p s)) k (leading p s)) (sym (add-zero n))

-- PREFIXES

take_one : (s : List ℕ) (i : ℕ) → i < length s → take (i + 1) s ≡ take i s ++ (get_or s i 0 ∷ [])
take_one s i h = let z : i + 1 ≡ suc i = omega arith in rw z (go s i h)
  where
    go : (s : List ℕ) (i : ℕ) → i < length s → take (suc i) s ≡ take i s ++ (get_or s i 0 ∷ [])
    go [] i h = absurd (not-suc-le-zero h)
    go (b ∷ s) zero h = refl
    go (b ∷ s) (suc i) h = ap (λ (t : List ℕ). b ∷ t) (go s i (omega arith))

module _ (v : List ℕ → Bool) (s : List ℕ) (i : ℕ) where
  pub passes_stop : i < length s → v (take (i + 1) s) ≡ false → passes v (take i s) (drop i s) ≡ 0
  passes_stop h e = rw (drop_here s i h, ap v (sym (take_one s i h)) ∙ e)

  pub passes_next : i < length s → v (take (i + 1) s) ≡ true → passes v (take i s) (drop i s) ≡ suc (passes v (take (i + 1) s) (drop (i + 1) s))
  passes_next h e = rw (drop_here s i h, ← take_one s i h, e)

  pub passes_end : length s ≤ i → passes v (take i s) (drop i s) ≡ 0
  passes_end h = rw (drop_end s i h)
