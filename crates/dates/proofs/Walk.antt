-- Where a date goes in a content, found word by word from an index. Assumes nothing.
use Prim.Native.Nat.{ℕ, ◌+◌, ◌-◌, ◌<◌, ◌≤◌}
use mathlib.Core.Path.{◌≡◌, refl, sym, ap, ◌∙◌}
use mathlib.Core.Bool.{Bool, true, false, cond, true≢false}
use mathlib.Core.List.{List, [], ◌∷◌, ◌++◌, append_assoc, append-nil}
use native.Mathlib.Omega.{arith}
use lib.Dec.{ltb}
use lib.ListN.{length, take, drop, get_or, length-drop}
use lib.Seq.{take-add, take_all}
use borrow.Author.Tests.{ltb-true, ltb-false}
use Rattle.alphabet.specs.Text.{bytes}
use Rattle.text.specs.Words.{Word, split, join, after, up_to, null, same, elem}
use Rattle.text.proofs.Index.{drop_end, rest, null-split, split_at, after_here, after_end}
use Rattle.text.proofs.Joined.{join-split}
use Rattle.other.proofs.Keys.{space_at}
use Rattle.dates.proofs.Pieces.{ends, piece_is, more_left, none_left}
use Rattle.dates.specs.declared.Place.TheVariants.{Instead, Before, Last}
use Rattle.dates.specs.Dates.{dof, dated, key_in, keys_behind, placed, with_date, DatePlace}

-- WORDS JOINED: behind a first, some more

pub join_more : (w : Word) (ws : List Word) → null ws ≡ false → join 32 (w ∷ ws) ≡ w ++ (32 ∷ join 32 ws)
join_more w [] n = absurd (true≢false n)
join_more w (v ∷ ws) n = refl

pub placed_some : (x : Word) (ws : List Word) → null (placed x ws) ≡ false
placed_some x [] = refl
placed_some x (w ∷ ws) = go (same (key_in w) dof) (elem (key_in w) keys_behind)
  where
    go : (a b : Bool) → null (cond a (x ∷ ws) (cond b (x ∷ (w ∷ ws)) (w ∷ placed x ws))) ≡ false
    go true b = refl
    go false true = refl
    go false false = refl

join_words : (x : Word) (s : List ℕ) → join 32 (x ∷ split 32 s) ≡ x ++ (32 ∷ s)
join_words x s = join_more x (split 32 s) (null-split 32 s) ∙ ap (λ (t : List ℕ). x ++ (32 ∷ t)) (join-split 32 s)

-- FROM AN INDEX ON: what stands before it stays, and the item goes somewhere behind it

abbrev from : Word → List ℕ → ℕ → List ℕ
from x s at = take at s ++ join 32 (placed x (split 32 (drop at s)))

-- every date goes somewhere behind `at`
pub record Ahead (s : List ℕ) (at : ℕ) : Type 0 where
  pub inside : at ≤ length s
  pub every : (d : Word) → with_date d s ≡ from (dated d) s at

pub ahead_first : (s : List ℕ) → same s (bytes "0") ≡ false → Ahead s 0
unfolding with_date
ahead_first s e = record { inside = omega arith; every = λ d. rw e }

-- `0` gives way
pub place_nothing : (s : List ℕ) → same s (bytes "0") ≡ true → DatePlace s (Instead 0 (length s))
unfolding with_date
place_nothing s e =
    record {
      inside = (omega arith, omega arith);
      every = λ d. rw (e, drop_end s (length s) (omega arith)) (append-nil (dated d));
    }

some_words : (s : List ℕ) → 0 < length (split 32 s)
some_words s = omega (arith, ap length (split_at 32 s 0 (0 + up_to 32 s) refl))

module _ (s : List ℕ) (at e : ℕ) (h : Ahead s at) (end : e ≡ at + up_to 32 (drop at s)) where
  abbrev word : Word
  word = take (e - at) (drop at s)

  words_are : split 32 (drop at s) ≡ word ∷ after 32 (drop e s)
  words_are = split_at 32 s at e end

  -- the words behind the word, behind another
  joined_behind : (x : Word) → e ≤ length s → join 32 (x ∷ after 32 (drop e s)) ≡ x ++ drop e s
  joined_behind x l = go (drop e s) refl
    where
      go : (t : List ℕ) → drop e s ≡ t → join 32 (x ∷ after 32 t) ≡ x ++ t
      go [] q = sym (append-nil x)
      go (b ∷ t) q =
          let m : e < length s = omega (arith, ap length q, length-drop e s) in
          let z : b ∷ t ≡ 32 ∷ drop (e + 1) s = sym q ∙ space_at s at e end m in
          ap (λ (u : List ℕ). join 32 (x ∷ after 32 u)) z ∙ join_words x (drop (e + 1) s) ∙ ap (λ (u : List ℕ). x ++ u) (sym z)

  pub place_instead : e ≤ length s → same (key_in word) dof ≡ true → DatePlace s (Instead at e)
  place_instead l q =
      record {
        inside = (h.inside, l);
        every = λ d.
            ap (λ (t : List ℕ). take at s ++ t) (sym (joined_behind (dated d) l))
            ∙ sym (h.every d ∙ rw (words_are, q));
      }

  module _ (q : same (key_in word) dof ≡ false) where
    pub place_before : elem (key_in word) keys_behind ≡ true → DatePlace s (Before at)
    place_before b =
        record {
          inside = h.inside;
          every = λ d.
              ap (λ (t : List ℕ). take at s ++ t) (sym (join_words (dated d) (drop at s)) ∙ ap (λ (ws : List Word). join 32 (dated d ∷ ws)) words_are)
              ∙ sym (h.every d ∙ rw (words_are, q, b));
        }

    module _ (b : elem (key_in word) keys_behind ≡ false) where
      -- the word stays, and the item goes behind it
      over : (x : Word) → from x s at ≡ (take at s ++ word) ++ (32 ∷ join 32 (placed x (after 32 (drop e s))))
      over x =
          rw (words_are, q, b)
          (ap (λ (t : List ℕ). take at s ++ t) (join_more word (placed x (after 32 (drop e s))) (placed_some x (after 32 (drop e s))))
          ∙ sym (append_assoc (take at s) word _))

      up_to_lem : take at s ++ word ≡ take e s
      up_to_lem = let n : e ≡ at + (e - at) = omega arith in sym (ap (λ (k : ℕ). take k s) n ∙ take-add at (e - at) s)

      pub place_last : length s ≤ e → DatePlace s Last
      place_last l =
          record {
            inside = tt;
            every = λ d.
                sym (h.every d ∙ over (dated d)
                ∙ rw (up_to_lem, take_all e s l, after_end 32 s e l));
          }

      pub ahead_next : e < length s → Ahead s (e + 1)
      ahead_next l =
          record {
            inside = omega arith;
            every = λ d. h.every d ∙ over (dated d) ∙ next (dated d);
          }
        where
          next : (x : Word) → (take at s ++ word) ++ (32 ∷ join 32 (placed x (after 32 (drop e s)))) ≡ from x s (e + 1)
          next x =
              rw (up_to_lem, after_here 32 s e l, take-add e 1 s, space_at s at e end l)
              (sym (append_assoc (take e s) (32 ∷ []) _))

-- WORD BY WORD: before the n-th word, which begins at `at`, and behind the last

pub record Turn (s : List ℕ) (n at : ℕ) : Type 0 where
  pub more : n < length (split 32 s) → (drop n (split 32 s) ≡ split 32 (drop at s)) × Ahead s at
  pub none : length (split 32 s) ≤ n → DatePlace s Last

pub turn_first : (s : List ℕ) → same s (bytes "0") ≡ false → Turn s 0 0
turn_first s e =
    record {
      more = λ h. (refl, ahead_first s e);
      none = λ h. absurd (omega (arith, some_words s));
    }

module _ {s : List ℕ} {n at : ℕ} (t : Turn s n at) (w : Word) (turn : (n < length (split 32 s)) × (w ≡ get_or (split 32 s) n w)) where
  ahead : Ahead s at
  ahead = (t.more turn.0).1

  left : drop n (split 32 s) ≡ split 32 (drop at s)
  left = (t.more turn.0).0

  end : (at + length w ≡ at + up_to 32 (drop at s)) × (at + length w ≤ length s)
  end = ends 32 s (split 32 s) n at ahead.inside left w turn

  pub word_inside : at + length w ≤ length s
  word_inside = end.1

  word_is : w ≡ take (at + length w - at) (drop at s)
  word_is = piece_is 32 s (split 32 s) n at ahead.inside left w turn

  pub turn_instead : same (key_in w) dof ≡ true → DatePlace s (Instead at (at + length w))
  turn_instead q = place_instead s at (at + length w) ahead end.0 end.1 (ap (λ (v : Word). same (key_in v) dof) (sym word_is) ∙ q)

  module _ (q : same (key_in w) dof ≡ false) where
    other_key : same (key_in (take (at + length w - at) (drop at s))) dof ≡ false
    other_key = ap (λ (v : Word). same (key_in v) dof) (sym word_is) ∙ q

    pub turn_before : elem (key_in w) keys_behind ≡ true → DatePlace s (Before at)
    turn_before b = place_before s at (at + length w) ahead end.0 other_key (ap (λ (v : Word). elem (key_in v) keys_behind) (sym word_is) ∙ b)

    pub turn_next : elem (key_in w) keys_behind ≡ false → Turn s (n + 1) (at + length w + 1)
    turn_next b = go (ltb (at + length w) (length s)) refl
      where
        not_behind : elem (key_in (take (at + length w - at) (drop at s))) keys_behind ≡ false
        not_behind = ap (λ (v : Word). elem (key_in v) keys_behind) (sym word_is) ∙ b

        go : (r : Bool) → ltb (at + length w) (length s) ≡ r → Turn s (n + 1) (at + length w + 1)
        go true r =
            let l = ltb-true _ _ r in
            let rest = more_left 32 s (split 32 s) n at ahead.inside left w turn l in
            record {
              more = λ h. (rest, ahead_next s at (at + length w) ahead end.0 other_key not_behind l);
              none = λ h. absurd (omega (arith, ap length rest, length-drop (n + 1) (split 32 s), some_words (drop (at + length w + 1) s)));
            }
        go false r =
            let l = ltb-false _ _ r in
            let rest = none_left 32 s (split 32 s) n at ahead.inside left w turn l in
            record {
              more = λ h. absurd (omega (arith, ap length rest, length-drop (n + 1) (split 32 s)));
              none = λ h. place_last s at (at + length w) ahead end.0 other_key not_behind l;
            }

-- AS IT IS WRITTEN: what stands before the item, the item's beginning, the date, and what follows it

module _ (s d : List ℕ) where
  led : (h u t : List ℕ) → ((h ++ u) ++ d) ++ t ≡ h ++ ((u ++ d) ++ t)
  led h u t = ap (λ (v : List ℕ). v ++ t) (append_assoc h u d) ∙ append_assoc h (u ++ d) t

  pub written_instead : (from to : ℕ) → DatePlace s (Instead from to)
      → ((take from s ++ bytes "DOF/") ++ d) ++ take (length s - to) (drop to s) ≡ with_date d s
  written_instead from to p =
      ap (λ (t : List ℕ). ((take from s ++ bytes "DOF/") ++ d) ++ t) (rest s to) ∙ led (take from s) (bytes "DOF/") (drop to s) ∙ p.every d

  pub written_before : (at : ℕ) → DatePlace s (Before at)
      → ((take at s ++ bytes "DOF/") ++ d) ++ (32 ∷ take (length s - at) (drop at s)) ≡ with_date d s
  written_before at p =
      ap (λ (t : List ℕ). ((take at s ++ bytes "DOF/") ++ d) ++ (32 ∷ t)) (rest s at) ∙ led (take at s) (bytes "DOF/") (32 ∷ drop at s) ∙ p.every d

  pub written_last : DatePlace s Last → ((s ++ bytes " DOF/") ++ d) ++ [] ≡ with_date d s
  written_last p = append-nil _ ∙ append_assoc s (bytes " DOF/") d ∙ p.every d
