-- The item of a key, and where its words end, at an index. Assumes nothing.
use Prim.Native.Nat.{ℕ, zero, suc, ◌+◌, ◌-◌, ◌<◌, ◌≤◌}
use mathlib.Core.Path.{◌≡◌, refl, sym, ap}
use mathlib.Core.Bool.{Bool, true, false, cond}
use mathlib.Core.List.{List, [], ◌∷◌, ◌++◌, append_assoc, append-nil}
use native.Mathlib.Omega.{arith}
use lib.Dec.{eqb}
use lib.ListN.{length, take, drop, length-drop}
use lib.Seq.{drop-drop, length-take-le, take-add}
use borrow.Author.Tests.{eqb-true, ne_eqb, lt-ltb, le-ltb}
use Rattle.text.specs.Words.{Word, split, join, after, up_to, holds, before, behind, same}
use Rattle.text.proofs.Index.{split_at, up_to-le, after_here, after_end, split_cut}
use Rattle.other.specs.Field18.{Worded, group, from_key, under, words_from, has_key, words_under, Found}

-- THE FIRST ITEM OF A KEY

-- the items from the key's on, where b says whether the first word begins an item
abbrev from_word : Bool → Word → Word → List Word → List Worded
from_word b key w ws =
    let item : Worded = record { key = before 47 w; first = behind 47 w; more = (group ws).loose } in
    cond b (cond (same item.key key) (item ∷ (group ws).grouped) (from_key key (group ws).grouped)) (from_key key (group ws).grouped)

from_step : (key w : Word) (ws : List Word) → from_key key (group (w ∷ ws)).grouped ≡ from_word (holds 47 w) key w ws
from_step key w ws = go (holds 47 w) refl
  where
    go : (b : Bool) → holds 47 w ≡ b → from_key key (group (w ∷ ws)).grouped ≡ from_word b key w ws
    go true e = rw e
    go false e = rw e

-- the pieces from within the first piece on
split_within : (c : ℕ) (s : List ℕ) (k : ℕ) → k ≤ up_to c s → split c (drop k s) ≡ drop k (take (up_to c s) s) ∷ after c (drop (up_to c s) s)
split_within c s zero h = split_cut c s
split_within c [] (suc k) h = absurd (omega arith)
split_within c (b ∷ s) (suc k) h = go (split_within c s k) (eqb b c) h
  where
    go : (k ≤ up_to c s → split c (drop k s) ≡ drop k (take (up_to c s) s) ∷ after c (drop (up_to c s) s))
        → (t : Bool) → suc k ≤ cond t 0 (suc (up_to c s))
        → split c (drop k s) ≡ drop (suc k) (take (cond t 0 (suc (up_to c s))) (b ∷ s)) ∷ after c (drop (cond t 0 (suc (up_to c s))) (b ∷ s))
    go ih true h = absurd (omega arith)
    go ih false h = ih (omega arith)

module _ (key s : List ℕ) (at e : ℕ) (end : e ≡ at + up_to 32 (drop at s)) (o : ℕ) (cut : o ≡ 0 + up_to 47 (take (e - at) (drop at s))) where
  cut'' : o ≡ up_to 47 (take (e - at) (drop at s))
  cut'' = omega arith

  long : length (take (e - at) (drop at s)) ≡ e - at
  long = length-take-le (e - at) (drop at s) (omega (arith, up_to-le 32 (drop at s)))

  -- the item of the key is here
  module _ (h : o < length (take (e - at) (drop at s))) (q : same (take o (take (e - at) (drop at s))) key ≡ true) where
    from_here : from_key key (group (split 32 (drop at s))).grouped
        ≡ record { key = take o (take (e - at) (drop at s)); first = drop (suc o) (take (e - at) (drop at s)); more = (group (after 32 (drop e s))).loose }
        ∷ (group (after 32 (drop e s))).grouped
    from_here =
        rw (
          split_at 32 s at e end,
          from_step key (take (e - at) (drop at s)) (after 32 (drop e s)),
          ← cut'',
          lt-ltb o (length (take (e - at) (drop at s))) h,
          q,
        )

    within : split 32 (drop (at + o + 1) s) ≡ drop (suc o) (take (e - at) (drop at s)) ∷ after 32 (drop e s)
    within =
        let n : e - at ≡ up_to 32 (drop at s) = omega arith in
        let m : at + o + 1 ≡ at + suc o = omega arith in
        let l : suc o ≤ up_to 32 (drop at s) = omega (arith, long) in
        rw (m, n, end, ← drop-drop (suc o) at s, ← drop-drop (up_to 32 (drop at s)) at s) (split_within 32 (drop at s) (suc o) l)

    words_here : words_from (split 32 (drop (at + o + 1) s)) ≡ under key (group (split 32 (drop at s))).grouped
    words_here = rw (within, from_here)

    pub found_here : e ≤ length s → from_key key (group (split 32 s)).grouped ≡ from_key key (group (split 32 (drop at s))).grouped → Found s key (at + o + 1)
    unfolding has_key words_under
    found_here l inv =
        let z : eqb (at + o + 1) 0 ≡ false = ne_eqb (at + o + 1) 0 (λ q. omega arith) in
        record { inside = omega (arith, long); there = rw (z, inv, from_here); words = rw (z, inv) words_here }

  pub from_other : o < length (take (e - at) (drop at s)) → same (take o (take (e - at) (drop at s))) key ≡ false
      → from_key key (group (split 32 (drop at s))).grouped ≡ from_key key (group (after 32 (drop e s))).grouped
  from_other h q =
      rw (
        split_at 32 s at e end,
        from_step key (take (e - at) (drop at s)) (after 32 (drop e s)),
        ← cut'',
        lt-ltb o (length (take (e - at) (drop at s))) h,
        q,
      )

  pub from_plain : length (take (e - at) (drop at s)) ≤ o
      → from_key key (group (split 32 (drop at s))).grouped ≡ from_key key (group (after 32 (drop e s))).grouped
  from_plain h =
      rw (
        split_at 32 s at e end,
        from_step key (take (e - at) (drop at s)) (after 32 (drop e s)),
        ← cut'',
        le-ltb o (length (take (e - at) (drop at s))) h,
      )

pub found_none : (key s : List ℕ) → from_key key (group (split 32 s)).grouped ≡ [] → Found s key 0
unfolding has_key words_under
found_none key s e = record { inside = omega arith; there = rw e; words = rw e }

-- WHERE ITS WORDS END

-- words behind a word that has ended, each with its space
abbrev spaced : List Word → List ℕ
spaced [] = []
spaced (w ∷ ws) = 32 ∷ (w ++ spaced ws)

join_spaced : (w : Word) (ws : List Word) → join 32 (w ∷ ws) ≡ w ++ spaced ws
join_spaced w [] = sym (append-nil w)
join_spaced w (v ∷ ws) = ap (λ (t : List ℕ). w ++ (32 ∷ t)) (join_spaced v ws)

-- the further words of an item, of which a word has ended before t
abbrev pub further : List ℕ → List ℕ
further t = spaced (group (after 32 t)).loose

-- a piece ends at c, or at the end
pub stands : (c : ℕ) (s : List ℕ) → up_to c s < length s → drop (up_to c s) s ≡ c ∷ drop (suc (up_to c s)) s
stands c [] h = absurd (omega arith)
stands c (b ∷ s) h = go (stands c s) (eqb b c) refl h
  where
    go : (up_to c s < length s → drop (up_to c s) s ≡ c ∷ drop (suc (up_to c s)) s)
        → (t : Bool) → eqb b c ≡ t → cond t 0 (suc (up_to c s)) < suc (length s)
        → drop (cond t 0 (suc (up_to c s))) (b ∷ s) ≡ c ∷ drop (cond t 0 (suc (up_to c s))) s
    go ih true q h = cc (eqb-true b c q)
    go ih false q h = ih (omega arith)

module _ (s : List ℕ) (at e : ℕ) (end : e ≡ at + up_to 32 (drop at s)) where
  pub space_at : e < length s → drop e s ≡ 32 ∷ drop (e + 1) s
  space_at h =
      let n : e + 1 ≡ at + suc (up_to 32 (drop at s)) = omega arith in
      let l : up_to 32 (drop at s) < length (drop at s) = rw length-drop (omega arith) in
      rw (n, end, ← drop-drop (up_to 32 (drop at s)) at s, ← drop-drop (suc (up_to 32 (drop at s))) at s) (stands 32 (drop at s) l)

  pub end_first : take (e - at) (drop at s) ++ further (drop e s) ≡ words_from (split 32 (drop at s))
  end_first = rw (split_at 32 s at e end) (sym (join_spaced (take (e - at) (drop at s)) (group (after 32 (drop e s))).loose))

-- no further word at the end, and none where the next word holds an oblique
pub end_last : (s : List ℕ) (e : ℕ) → length s ≤ e → further (drop e s) ≡ []
end_last s e h = rw (after_end 32 s e h)

module _ (s : List ℕ) (e next : ℕ) (h : e < length s) (end : next ≡ e + 1 + up_to 32 (drop (e + 1) s))
    (o : ℕ) (cut : o ≡ 0 + up_to 47 (take (next - (e + 1)) (drop (e + 1) s))) where
  cut''' : o ≡ up_to 47 (take (next - (e + 1)) (drop (e + 1) s))
  cut''' = omega arith

  pub end_item : o < length (take (next - (e + 1)) (drop (e + 1) s)) → further (drop e s) ≡ []
  end_item l = rw (after_here 32 s e h, split_at 32 s (e + 1) next end, ← cut''', lt-ltb o (length (take (next - (e + 1)) (drop (e + 1) s))) l)

  further_word : length (take (next - (e + 1)) (drop (e + 1) s)) ≤ o
      → further (drop e s) ≡ 32 ∷ (take (next - (e + 1)) (drop (e + 1) s) ++ further (drop next s))
  further_word l = rw (after_here 32 s e h, split_at 32 s (e + 1) next end, ← cut''', le-ltb o (length (take (next - (e + 1)) (drop (e + 1) s))) l)

  pub end_word : (at : ℕ) → at ≤ e → drop e s ≡ 32 ∷ drop (e + 1) s → length (take (next - (e + 1)) (drop (e + 1) s)) ≤ o
      → take (e - at) (drop at s) ++ further (drop e s) ≡ take (next - at) (drop at s) ++ further (drop next s)
  end_word at m sp l =
      let n : next - at ≡ e - at + suc (next - (e + 1)) = omega arith in
      let b : at + (e - at) ≡ e = omega arith in
      rw (further_word l, n, take-add (e - at) (suc (next - (e + 1))) (drop at s), drop-drop (e - at) at s, b, sp)
      (sym (append_assoc (take (e - at) (drop at s)) (32 ∷ take (next - (e + 1)) (drop (e + 1) s)) (further (drop next s))))
