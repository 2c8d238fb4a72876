-- What holds of a content that takes a date whether it fits or not: how long it is, and which bytes it has. Assumes nothing.
use Prim.Native.Nat.{ℕ, suc, ◌+◌, ◌≤◌}
use mathlib.Core.Path.{◌≡◌, refl, sym, ap, ◌∙◌}
use mathlib.Core.Bool.{Bool, true, false, cond, not, true≢false}
use mathlib.Core.List.{List, [], ◌∷◌, ◌++◌}
use native.Mathlib.Omega.{arith}
use lib.Dec.{eqb}
use lib.ListN.{length, length-append}
use Rattle.alphabet.specs.Text.{bytes}
use Rattle.text.specs.Words.{Word, split, onto, join, up_to, holds, before, behind, all, null, same, elem, free}
use Rattle.text.proofs.Tests.{both, and_both, all_append, all_drop, same-eq}
use Rattle.text.proofs.Joined.{join-split, seam}
use Rattle.other.specs.Rules.{date}
use Rattle.other.specs.Field18.{Worded, spelt, group, from_key, first_words, under, words_under}
use Rattle.other.proofs.Field18.{spelt_group}
use Rattle.dates.specs.Dates.{dof, date_in, dated, key_in, keys_behind, placed, with_date}
use Rattle.dates.proofs.Dates.{date_long}
use Rattle.dates.proofs.Items.{item_of}

-- HOW LONG IT IS

long_more : (w : Word) (ws : List Word) → length (join 32 (w ∷ ws)) ≤ length w + suc (length (join 32 ws))
long_more w [] = omega arith
long_more w (v ∷ ws) = omega (arith, length-append w (32 ∷ join 32 (v ∷ ws)))

long_join : (x w : Word) (ws : List Word) → length (join 32 (x ∷ ws)) ≤ length (join 32 (w ∷ ws)) + length x
long_join x w [] = omega arith
long_join x w (v ∷ ws) = omega (arith, length-append x (32 ∷ join 32 (v ∷ ws)), length-append w (32 ∷ join 32 (v ∷ ws)))

placed_long : (x : Word) (ws : List Word) → length (join 32 (placed x ws)) ≤ length (join 32 ws) + suc (length x)
placed_long x [] = omega arith
placed_long x (w ∷ ws) = go (placed_long x ws) (same (key_in w) dof) (elem (key_in w) keys_behind)
  where
    behind : (vs : List Word) → length (join 32 (placed x vs)) ≤ length (join 32 vs) + suc (length x)
        → length (join 32 (w ∷ placed x vs)) ≤ length (join 32 (w ∷ vs)) + suc (length x)
    behind [] ih = omega (arith, length-append w (32 ∷ x))
    behind (v ∷ vs) ih = omega (arith, long_more w (placed x (v ∷ vs)), length-append w (32 ∷ join 32 (v ∷ vs)))

    go : length (join 32 (placed x ws)) ≤ length (join 32 ws) + suc (length x) → (a b : Bool)
        → length (join 32 (cond a (x ∷ ws) (cond b (x ∷ (w ∷ ws)) (w ∷ placed x ws)))) ≤ length (join 32 (w ∷ ws)) + suc (length x)
    go ih true b = omega (arith, long_join x w ws)
    go ih false true = omega (arith, long_more x (w ∷ ws))
    go ih false false = behind ws ih

pub with_long : (d : Word) (s : List ℕ) → length (with_date d s) ≤ length s + (length d + 5)
unfolding with_date
with_long d s = go (same s (bytes "0"))
  where
    go : (b : Bool) → length (cond b (dated d) (join 32 (placed (dated d) (split 32 s)))) ≤ length s + (length d + 5)
    go true = omega arith
    go false = omega (arith, placed_long (dated d) (split 32 s), ap length (join-split 32 s))

pub with_eleven : (d : Word) → date d ≡ true → (s : List ℕ) → length (with_date d s) ≤ length s + 11
with_eleven d v s = omega (arith, with_long d s, date_long d v)

-- a date is shorter than a content that it stands in, by its key and oblique
long_tail : (w : Word) (ws : List Word) → length (join 32 ws) ≤ length (join 32 (w ∷ ws))
long_tail w [] = omega arith
long_tail w (v ∷ ws) = omega (arith, length-append w (32 ∷ join 32 (v ∷ ws)))

long_front : (w : Word) (vs ws : List Word) → length (join 32 (w ∷ vs)) ≤ length (join 32 (w ∷ (vs ++ ws)))
long_front w [] ws = long_first ws
  where
    long_first : (us : List Word) → length w ≤ length (join 32 (w ∷ us))
    long_first [] = omega arith
    long_first (u ∷ us) = omega (arith, length-append w (32 ∷ join 32 (u ∷ us)))
long_front w (v ∷ vs) ws =
    omega (arith, long_front v vs ws, length-append w (32 ∷ join 32 (v ∷ vs)), length-append w (32 ∷ join 32 (v ∷ (vs ++ ws))))

long_word : (n : ℕ) (v w : Word) (ws : List Word) → length w ≡ n + length v → length (join 32 (w ∷ ws)) ≡ n + length (join 32 (v ∷ ws))
long_word n v w [] h = h
long_word n v w (u ∷ ws) h = omega (arith, length-append w (32 ∷ join 32 (u ∷ ws)), length-append v (32 ∷ join 32 (u ∷ ws)))

dated_words : (ws : List Word) → null (under dof (group ws).grouped) ≡ false → 4 + length (under dof (group ws).grouped) ≤ length (join 32 ws)
dated_words [] n = absurd (true≢false n)
dated_words (w ∷ ws) n = go (dated_words ws) (holds 47 w) refl n
  where
    here : holds 47 w ≡ true → same (before 47 w) dof ≡ true → 4 + length (join 32 (behind 47 w ∷ (group ws).loose)) ≤ length (join 32 (w ∷ ws))
    here h k =
        let l : length w ≡ 4 + length (behind 47 w)
        = omega (arith, ap length (sym (seam 47 w h) ∙ ap (λ (v : Word). v ++ (47 ∷ behind 47 w)) (same-eq (before 47 w) dof k))) in
        omega (
          arith,
          long_word 4 (behind 47 w) w ws l,
          long_front (behind 47 w) (group ws).loose (spelt (group ws).grouped),
          ap (λ (vs : List Word). length (join 32 (behind 47 w ∷ vs))) (spelt_group ws),
        )

    choose : (null (under dof (group ws).grouped) ≡ false → 4 + length (under dof (group ws).grouped) ≤ length (join 32 ws))
        → holds 47 w ≡ true → (b : Bool) → same (before 47 w) dof ≡ b
        → null (first_words (cond b (item_of w ws ∷ (group ws).grouped) (from_key dof (group ws).grouped))) ≡ false
        → 4 + length (first_words (cond b (item_of w ws ∷ (group ws).grouped) (from_key dof (group ws).grouped))) ≤ length (join 32 (w ∷ ws))
    choose ih h true k m = here h k
    choose ih h false k m = omega (arith, ih m, long_tail w ws)

    go : (null (under dof (group ws).grouped) ≡ false → 4 + length (under dof (group ws).grouped) ≤ length (join 32 ws))
        → (b : Bool) → holds 47 w ≡ b → null (under dof (group (w ∷ ws)).grouped) ≡ false
        → 4 + length (under dof (group (w ∷ ws)).grouped) ≤ length (join 32 (w ∷ ws))
    go ih true h m = rw h (choose ih h (same (before 47 w) dof) refl (rw h at m))
    go ih false h m = rw h (omega (arith, ih (rw h at m), long_tail w ws))

pub date_shorter : (t : List ℕ) → null (date_in t) ≡ false → 4 + length (date_in t) ≤ length t
unfolding words_under
date_shorter t n = omega (arith, dated_words (split 32 t) n, ap length (join-split 32 t))

-- so a content that takes another's date is longer by no more than the other and a byte
pub with_room : (s t : List ℕ) → null (date_in t) ≡ false → length (with_date (date_in t) s) ≤ length s + suc (length t)
with_room s t n = omega (arith, with_long (date_in t) s, date_shorter t n)

-- WHICH BYTES IT HAS: a test that the space, DOF and the oblique pass

module _ (p : ℕ → Bool) (space : p 32 ≡ true) where
  all-onto : (b : ℕ) → p b ≡ true → (ws : List Word) → all (all p) ws ≡ true → all (all p) (onto b ws) ≡ true
  all-onto b h [] e = rw h
  all-onto b h (w ∷ ws) e = rw h e

  all_split : (s : List ℕ) → all p s ≡ true → all (all p) (split 32 s) ≡ true
  all_split [] e = refl
  all_split (b ∷ s) e = let h = both (p b) (all p s) e in go (all_split s h.1) h.0 (eqb b 32)
    where
      go : all (all p) (split 32 s) ≡ true → p b ≡ true → (t : Bool) → all (all p) (cond t ([] ∷ split 32 s) (onto b (split 32 s))) ≡ true
      go ih h true = ih
      go ih h false = all-onto b h (split 32 s) ih

  all_join : (ws : List Word) → all (all p) ws ≡ true → all p (join 32 ws) ≡ true
  all_join [] e = refl
  all_join (w ∷ []) e = (both (all p w) true e).0
  all_join (w ∷ (v ∷ ws)) e =
      let h = both (all p w) (all (all p) (v ∷ ws)) e in
      all_append p w (32 ∷ join 32 (v ∷ ws)) h.0 (and_both (p 32) _ space (all_join (v ∷ ws) h.1))

  all_placed : (x : Word) → all p x ≡ true → (ws : List Word) → all (all p) ws ≡ true → all (all p) (placed x ws) ≡ true
  all_placed x h [] e = rw h
  all_placed x h (w ∷ ws) e = go (all_placed x h ws (both (all p w) _ e).1) (same (key_in w) dof) (elem (key_in w) keys_behind)
    where
      go : all (all p) (placed x ws) ≡ true → (a b : Bool) → all (all p) (cond a (x ∷ ws) (cond b (x ∷ (w ∷ ws)) (w ∷ placed x ws))) ≡ true
      go ih true b = and_both (all p x) _ h (both (all p w) _ e).1
      go ih false true = and_both (all p x) _ h e
      go ih false false = and_both (all p w) _ (both (all p w) _ e).0 ih

  pub with_all : all p (bytes "DOF/") ≡ true → (d : Word) → all p d ≡ true → (s : List ℕ) → all p s ≡ true → all p (with_date d s) ≡ true
  unfolding with_date
  with_all h d e s f = go (same s (bytes "0"))
    where
      item : all p (dated d) ≡ true
      item = all_append p (bytes "DOF/") d h e

      go : (b : Bool) → all p (cond b (dated d) (join 32 (placed (dated d) (split 32 s)))) ≡ true
      go true = item
      go false = all_join (placed (dated d) (split 32 s)) (all_placed (dated d) item (split 32 s) (all_split s f))

  -- an item's words have them if the content has
  abbrev words_pass : Worded → Bool
  words_pass i = all (all p) (i.first ∷ i.more)

  all_grouped : (ws : List Word) → all (all p) ws ≡ true → (all (all p) (group ws).loose ≡ true) × (all words_pass (group ws).grouped ≡ true)
  all_grouped [] e = (refl, refl)
  all_grouped (w ∷ ws) e = let h = both (all p w) _ e in go (all_grouped ws h.1) h.0 (holds 47 w) refl
    where
      go : (all (all p) (group ws).loose ≡ true) × (all words_pass (group ws).grouped ≡ true) → all p w ≡ true → (b : Bool) → holds 47 w ≡ b
          → (all (all p) (group (w ∷ ws)).loose ≡ true) × (all words_pass (group (w ∷ ws)).grouped ≡ true)
      go ih h true q = rw q (refl, and_both (words_pass (item_of w ws)) _ (and_both (all p (behind 47 w)) _ (all_drop p (suc (up_to 47 w)) w h) ih.0) ih.1)
      go ih h false q = rw q (and_both (all p w) _ h ih.0, ih.1)

  all_under : (key : Word) (is : List Worded) → all words_pass is ≡ true → all p (under key is) ≡ true
  all_under key [] e = refl
  all_under key (i ∷ is) e = let h = both (words_pass i) (all words_pass is) e in go (all_under key is h.1) h.0 (same i.key key)
    where
      go : all p (under key is) ≡ true → words_pass i ≡ true → (b : Bool) → all p (first_words (cond b (i ∷ is) (from_key key is))) ≡ true
      go ih h true = all_join (i.first ∷ i.more) h
      go ih h false = ih

  pub date_all : (s : List ℕ) → all p s ≡ true → all p (date_in s) ≡ true
  unfolding words_under
  date_all s e = all_under dof (group (split 32 s)).grouped (all_grouped (split 32 s) (all_split s e)).1

-- no hyphen comes in
pub with_free : (d : Word) → free 45 d ≡ true → (s : List ℕ) → free 45 s ≡ true → free 45 (with_date d s) ≡ true
with_free = with_all (λ b. not (eqb b 45)) refl refl

pub date_free : (s : List ℕ) → free 45 s ≡ true → free 45 (date_in s) ≡ true
date_free = date_all (λ b. not (eqb b 45)) refl
