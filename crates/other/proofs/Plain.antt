-- Text words told byte by byte, a block of bytes at a time, and passed at once. Assumes nothing.
use Prim.Native.Nat.{ℕ, zero, suc, ◌+◌, ◌-◌, ◌<◌, ◌≤◌}
use mathlib.Core.Path.{◌≡◌, refl, sym, ap, ◌∙◌}
use mathlib.Core.Bool.{Bool, true, false, cond, ◌&&◌, ◌||◌, not, false≢true}
use mathlib.Core.List.{List, [], ◌∷◌, ◌++◌}
use native.Mathlib.Omega.{arith}
use Rattle.std.specs.Prelude.{Option, Some, None, reverse}
use Rattle.std.specs.List.{position_or_len}
use Rattle.std.proofs.lemmas.List.{length-reverse, get_or-reverse, get_or-take}
use borrow.Author.Rules.{rules}
use lib.Dec.{leb, ltb, eqb}
use lib.ListN.{length, take, drop, get_or, length-drop}
use lib.Seq.{drop-drop, get_or-drop, length-take-le}
use borrow.Author.Tests.{eq-eqb, eqb-true, eqb-false, ltb-true, ltb-false, not-true}
use Rattle.alphabet.specs.Alphabet.{text, in_alphabet, white}
use Rattle.alphabet.proofs.Every.{agree}
use Rattle.text.specs.Words.{Word, split, onto, after, up_to, all, null, text_word}
use Rattle.text.specs.Pairs.{all_pairs}
use Rattle.text.proofs.Index.{find_here, split_cut, null-split}
use Rattle.text.proofs.Tests.{both, and_both}
use Rattle.other.specs.Rules.{Edition18, rule_in, word_fits, single, more_fits}
use Rattle.other.specs.Field18.{fit_more}
use Rattle.other.specs.Plain.{plain, all_plain}
use Rattle.other.proofs.Texts.{word_text}
use Rattle.other.proofs.Runs.{no_space, ends_space, more_plain}

-- A BYTE

-- a byte of a text word, as the code tests it with no branch
abbrev flat : ℕ → Bool
flat b =
    ((leb 65 b && leb b 90) || (((leb 43 b && leb b 58) && not (eqb b 45)) && not (eqb b 47))) || ((eqb b 63 || eqb b 61) || eqb b 39)

text_flat : (b : ℕ) → b < 256 → flat b ≡ text b
unfolding text in_alphabet white
text_flat = agree flat text tt

pub plain_is : (b c : ℕ) → b < 256 → (flat b || (eqb b 32 && not (eqb c 32))) ≡ plain b c
plain_is b c h = ap (λ (t : Bool). t || (eqb b 32 && not (eqb c 32))) (text_flat b h)

-- BLOCKS: one more behind those before, and fewer bytes of them

plain_on : (n m k : ℕ) (t : List ℕ) → k ≡ n + m → n < length t → all_plain (take (suc n) t) ≡ true → all_plain (take (suc m) (drop n t)) ≡ true
    → all_plain (take (suc k) t) ≡ true
unfolding all_pairs
plain_on zero m k t q h e f = let z : k ≡ m = omega arith in rw z f
plain_on (suc n) m zero t q h e f = absurd (omega arith)
plain_on (suc n) m (suc k) [] q h e f = absurd (omega arith)
plain_on (suc n) m (suc k) (b ∷ []) q h e f = absurd (omega arith)
plain_on (suc n) m (suc k) (b ∷ (c ∷ t)) q h e f =
    let g = both (plain b c) (all_plain (c ∷ take n t)) e in
    and_both (plain b c) _ g.0 (plain_on n m k (c ∷ t) (omega arith) (omega arith) g.1 f)

plain_front : (n m : ℕ) (t : List ℕ) → n ≤ m → all_plain (take m t) ≡ true → all_plain (take n t) ≡ true
unfolding all_pairs
plain_front zero m t h e = refl
plain_front (suc n) zero t h e = absurd (omega arith)
plain_front (suc n) (suc m) [] h e = refl
plain_front (suc zero) (suc m) (b ∷ t) h e = refl
plain_front (suc (suc n)) (suc zero) (b ∷ t) h e = absurd (omega arith)
plain_front (suc (suc n)) (suc (suc m)) (b ∷ []) h e = refl
plain_front (suc (suc n)) (suc (suc m)) (b ∷ (c ∷ t)) h e =
    let g = both (plain b c) (all_plain (c ∷ take m t)) e in
    and_both (plain b c) _ g.0 (plain_front (suc n) (suc m) (c ∷ t) (omega arith) g.1)

-- WORDS

-- text words, but that the first may have no byte
abbrev loose : List Word → Bool
loose [] = true
loose (w ∷ ws) = all text w && all text_word ws

loose_onto : (b : ℕ) (ws : List Word) → text b ≡ true → loose ws ≡ true → loose (onto b ws) ≡ true
loose_onto b [] t e = rw t
loose_onto b (w ∷ ws) t e = rw t e

onto_words : (b : ℕ) (ws : List Word) → loose (onto b ws) ≡ true → all text_word (onto b ws) ≡ true
onto_words b [] e = e
onto_words b (w ∷ ws) e = e

-- the first has one where its place begins with another byte than a space
strict : (n c : ℕ) (u : List ℕ) → eqb c 32 ≡ false → get_or (c ∷ u) n 0 ≡ 32 → loose (split 32 (take n (c ∷ u))) ≡ true
    → all text_word (split 32 (take n (c ∷ u))) ≡ true
strict zero c u n e l = absurd (eqb-false c 32 n e)
strict (suc k) c u n e l = rw n (onto_words c (split 32 (take k u)) (rw n at l))

-- plain bytes up to a space at n
plain_loose : (n : ℕ) (u : List ℕ) → n < length u → get_or u n 0 ≡ 32 → all_plain (take (suc n) u) ≡ true → loose (split 32 (take n u)) ≡ true
unfolding all_pairs
plain_loose zero u h e p = refl
plain_loose (suc n) [] h e p = absurd (omega arith)
plain_loose (suc n) (b ∷ []) h e p = absurd (omega arith)
plain_loose (suc n) (b ∷ (c ∷ u)) h e p =
    let g = both (plain b c) (all_plain (c ∷ take n u)) p in
    go (plain_loose n (c ∷ u) (omega arith) e g.1) (text b) refl (eqb b 32) refl (eqb c 32) refl g.0
  where
    go : loose (split 32 (take n (c ∷ u))) ≡ true → (t : Bool) → text b ≡ t → (x : Bool) → eqb b 32 ≡ x → (y : Bool) → eqb c 32 ≡ y
        → (t || (x && not y)) ≡ true
        → loose (cond x ([] ∷ split 32 (take n (c ∷ u))) (onto b (split 32 (take n (c ∷ u))))) ≡ true
    go ih true t true x y q w = absurd (false≢true (sym no_space ∙ ap text (sym (eqb-true b 32 x)) ∙ t))
    go ih true t false x y q w = loose_onto b (split 32 (take n (c ∷ u))) t ih
    go ih false t true x true q w = absurd (false≢true w)
    go ih false t true x false q w = strict n c u q e ih
    go ih false t false x y q w = absurd (false≢true w)

plain_words : (n : ℕ) (t : List ℕ) → n < length t → get_or t 0 0 ≡ 32 → get_or t n 0 ≡ 32 → all_plain (take (suc n) t) ≡ true
    → all text_word (after 32 (take n t)) ≡ true
unfolding all_pairs
plain_words zero t h z e p = refl
plain_words (suc n) [] h z e p = absurd (omega arith)
plain_words (suc n) (b ∷ []) h z e p = absurd (omega arith)
plain_words (suc n) (b ∷ (c ∷ u)) h z e p =
    let g = both (plain b c) (all_plain (c ∷ take n u)) p in
    let q : not (eqb c 32) ≡ true = rw (z, no_space) at g.0 in
    strict n c u (not-true (eqb c 32) q) e (plain_loose n (c ∷ u) (omega arith) e g.1)

-- WORDS THAT FIT ARE PASSED

onto-append : (b : ℕ) (ws vs : List Word) → null ws ≡ false → onto b (ws ++ vs) ≡ onto b ws ++ vs
onto-append b [] vs e = absurd (false≢true (sym e))
onto-append b (w ∷ ws) vs e = refl

split-append : (n : ℕ) (u : List ℕ) → up_to 32 (drop n u) ≡ 0 → split 32 u ≡ split 32 (take n u) ++ after 32 (drop n u)
split-append zero u z = rw z at (split_cut 32 u)
split-append (suc n) [] z = refl
split-append (suc n) (b ∷ u) z = go (split-append n u z) (eqb b 32)
  where
    go : split 32 u ≡ split 32 (take n u) ++ after 32 (drop n u)
        → (t : Bool) → cond t ([] ∷ split 32 u) (onto b (split 32 u))
        ≡ cond t ([] ∷ split 32 (take n u)) (onto b (split 32 (take n u))) ++ after 32 (drop n u)
    go ih true = ap (λ (ws : List Word). [] ∷ ws) ih
    go ih false = ap (onto b) ih ∙ onto-append b (split 32 (take n u)) (after 32 (drop n u)) (null-split 32 (take n u))

after-append : (n : ℕ) (t : List ℕ) → up_to 32 (drop n t) ≡ 0 → after 32 t ≡ after 32 (take n t) ++ after 32 (drop n t)
after-append zero t z = refl
after-append (suc n) [] z = refl
after-append (suc n) (b ∷ t) z = split-append n t z

fit_over : (ed : Edition18) (k : ℕ) (ws vs : List Word) → all (more_fits (rule_in ed k)) ws ≡ true → fit_more ed k (ws ++ vs) ≡ fit_more ed k vs
fit_over ed k [] vs e = refl
fit_over ed k (w ∷ ws) vs e =
    let r = rule_in ed k in
    let g = both (more_fits r w) (all (more_fits r) ws) e in
    let t = word_text r w (both (not (single r)) (word_fits r w) g.0).1 in
    more_plain ed k w (ws ++ vs) (both (not (null w)) (all text w) t).1 ∙ ap (λ (b : Bool). b && fit_more ed k (ws ++ vs)) g.0 ∙ fit_over ed k ws vs g.1

-- AT AN INDEX

module _ (s : List ℕ) (from : ℕ) where
  pub plain_none : all_plain (take (from + 1 - from) (drop from s)) ≡ true
  unfolding all_pairs
  plain_none = let n : from + 1 - from ≡ 1 = omega arith in rw n (first (drop from s))
    where
      first : (t : List ℕ) → all_plain (take 1 t) ≡ true
      first [] = refl
      first (b ∷ t) = refl

  pub plain_block : (i : ℕ) → from ≤ i → 16 < length s - i → all_plain (take (i + 1 - from) (drop from s)) ≡ true
      → all_plain (take (i + 16 + 1 - i) (drop i s)) ≡ true → all_plain (take (i + 16 + 1 - from) (drop from s)) ≡ true
  plain_block i l h e f =
      let a : i + 1 - from ≡ suc (i - from) = omega arith in
      let b : i + 16 + 1 - i ≡ suc 16 = omega arith in
      let c : i + 16 + 1 - from ≡ suc (i - from + 16) = omega arith in
      let d : from + (i - from) ≡ i = omega arith in
      let g : drop (i - from) (drop from s) ≡ drop i s = drop-drop (i - from) from s ∙ ap (λ (j : ℕ). drop j s) d in
      let m : i - from < length (drop from s) = simp length-drop (omega arith) in
      rw c (plain_on (i - from) 16 (i - from + 16) (drop from s) refl m (rw a at e) (rw g (rw b at f)))

  words_between : (to r : ℕ) → from ≤ r → r ≤ to → r < length s → get_or s from 0 ≡ 32 → get_or s r 0 ≡ 32
      → all_plain (take (to + 1 - from) (drop from s)) ≡ true → all text_word (after 32 (take (r - from) (drop from s))) ≡ true
  words_between to r l m h z e p =
      let n : suc (r - from) ≤ to + 1 - from = omega arith in
      let d : from + (r - from) ≡ r = omega arith in
      let f : from + 0 ≡ from = omega arith in
      let i : r - from < length (drop from s) = simp length-drop (omega arith) in
      plain_words (r - from) (drop from s) i (get_or-drop from s 0 0 ∙ ap (λ (j : ℕ). get_or s j 0) f ∙ z)
      (get_or-drop from s (r - from) 0 ∙ ap (λ (j : ℕ). get_or s j 0) d ∙ e)
      (plain_front (suc (r - from)) (to + 1 - from) (drop from s) n p)

  -- from where a word ends to the last space before `to`, up to which all bytes are plain
  pub past_words : (to r : ℕ) → from ≤ length s → up_to 32 (drop from s) ≡ 0 → all_plain (take (to + 1 - from) (drop from s)) ≡ true
      → (from < to → to < length s) → from ≤ r → r ≤ to → (from < r → get_or s r 0 ≡ 32)
      → (all text_word (after 32 (take (r - from) (drop from s))) ≡ true) × ((from ≤ r) × (r ≤ length s) × (up_to 32 (drop r s) ≡ 0))
  past_words to r le z p in-s l m e = go (ltb from r) refl
    where
      go : (b : Bool) → ltb from r ≡ b
          → (all text_word (after 32 (take (r - from) (drop from s))) ≡ true) × ((from ≤ r) × (r ≤ length s) × (up_to 32 (drop r s) ≡ 0))
      go true q =
          let g : from < r = ltb-true from r q in
          let k : from < to = omega arith in
          let h : r < length s = omega (arith, in-s k) in
          let i : from < length s = omega arith in
          let here = eqb-true (get_or s from 0) 32 (ends_space s from i ∙ eq-eqb (up_to 32 (drop from s)) 0 z) in
          (words_between to r l m h here (e g) p, (l, omega arith, find_here 32 s r h (e g)))
      go false q =
          let h : r ≤ from = ltb-false from r q in
          let n : r - from ≡ 0 = omega arith in
          let d : r ≡ from = omega arith in
          (rw n, (l, omega arith, rw d z))

  pub more_over : (r : ℕ) (ed : Edition18) (k : ℕ) → from ≤ r → up_to 32 (drop r s) ≡ 0
      → all (more_fits (rule_in ed k)) (after 32 (take (r - from) (drop from s))) ≡ true
      → fit_more ed k (after 32 (drop from s)) ≡ fit_more ed k (after 32 (drop r s))
  more_over r ed k l z e =
      let d : from + (r - from) ≡ r = omega arith in
      let g : drop (r - from) (drop from s) ≡ drop r s = drop-drop (r - from) from s ∙ ap (λ (j : ℕ). drop j s) d in
      ap (fit_more ed k) (after-append (r - from) (drop from s) (rw g z) ∙ ap (λ (t : List ℕ). after 32 (take (r - from) (drop from s)) ++ after 32 t) g)
      ∙ fit_over ed k (after 32 (take (r - from) (drop from s))) (after 32 (drop r s)) e

-- WHAT `position` FINDS passes the test

pub found_passes : (p : ℕ → Bool) (xs : List ℕ) → position_or_len p xs < length xs → p (get_or xs (position_or_len p xs) 0) ≡ true
found_passes p [] l = absurd (omega (arith, l))
found_passes p (x ∷ xs) l = go (p x) refl l (λ k. found_passes p xs k)
  where
    go : (b : Bool) → p x ≡ b → cond (not b) (1 + position_or_len p xs) 0 < length (x ∷ xs)
        → (position_or_len p xs < length xs → p (get_or xs (position_or_len p xs) 0) ≡ true)
        → p (get_or (x ∷ xs) (cond (not b) (1 + position_or_len p xs) 0) 0) ≡ true
    go true e l f = e
    go false e l f =
        let n : 1 + position_or_len p xs ≡ suc (position_or_len p xs) = omega arith in
        ap (λ (m : ℕ). p (get_or (x ∷ xs) m 0)) n ∙ f (omega (arith, l))

-- from the end of a part of s
pub found_back : (s : List ℕ) (from to k : ℕ) → from ≤ to → to ≤ length s → (r : Option ℕ)
    → let back = reverse (take (to - from) (drop from s)) in
    r ≡ cond (ltb (position_or_len (λ b. eqb b 32) back) (length back)) (Some (position_or_len (λ b. eqb b 32) back)) None
    → r ≡ Some k → (k < to - from) × (get_or s (to - 1 - k) 0 ≡ 32)
found_back s from to k l m r h e = go (ltb p (length back)) refl (sym e ∙ h)
  where
    part : List ℕ
    part = take (to - from) (drop from s)

    back : List ℕ
    back = reverse part

    p : ℕ
    p = position_or_len (λ b. eqb b 32) back

    go : (t : Bool) → ltb p (length back) ≡ t → Some k ≡ cond t (Some p) None → (k < to - from) × (get_or s (to - 1 - k) 0 ≡ 32)
    go true f q =
        let n : length part ≡ to - from = length-take-le (to - from) (drop from s) (omega (arith, length-drop from s)) in
        let b : p < length back = ltb-true p (length back) f in
        let g : p < length part = omega (arith, b, length-reverse part) in
        let z : k ≡ p = search rules in
        let passed = eqb-true (get_or back p 0) 32 (found_passes (λ b. eqb b 32) back b) in
        let at : get_or part (length part - 1 - p) 0 ≡ 32 = sym (get_or-reverse part p 0 g) ∙ passed in
        let i : length part - 1 - p < to - from = omega (arith, n, g) in
        let j : from + (length part - 1 - p) ≡ to - 1 - k = omega (arith, n, g, z) in
        let there : get_or s (from + (length part - 1 - p)) 0 ≡ 32 =
        sym (get_or-drop from s (length part - 1 - p) 0) ∙ sym (get_or-take (to - from) (drop from s) (length part - 1 - p) 0 i) ∙ at in
        (omega (arith, n, g, z), ap (λ (x : ℕ). get_or s x 0) (sym j) ∙ there)
    go false f q = absurd (search rules)
