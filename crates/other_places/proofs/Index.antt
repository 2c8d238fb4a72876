-- The places of field 18 at an index, for the code. Assumes nothing.
use Prim.Native.Nat.{ℕ, zero, suc, ◌+◌, ◌-◌, ◌/◌, ◌<◌, ◌≤◌}
use mathlib.Core.Path.{◌≡◌, refl, sym, ap, ◌∙◌}
use mathlib.Core.Bool.{Bool, true, false, ◌&&◌, cond}
use mathlib.Core.List.{List, [], ◌∷◌, ◌++◌, append-nil}
use Rattle.std.specs.Prelude.{Some, None}
use native.Mathlib.Omega.{arith}
use lib.Dec.{leb, ltb}
use lib.ListN.{length, take, drop, length-append, length-drop, drop_of_length-le}
use lib.Seq.{drop-drop}
use borrow.Author.Tests.{lt-ltb, le-ltb, leb-true, leb-false, le-leb, lt-leb}
use Rattle.alphabet.specs.Alphabet.{sign}
use Rattle.text.specs.Words.{Word, all, before, up_to, first_cells, cells}
use Rattle.text.specs.Lent.{front as put}
use Rattle.text.proofs.Index.{rest, cells_from, found, found_none, found_before, found_behind}
use Rattle.text.proofs.Tests.{both}
use Rattle.shape.specs.Time.{elapsed_hours}
use Rattle.places.specs.Parts.{larger, fixed_place, time_place}
use Rattle.places.specs.Given.{given}
use Rattle.entries.specs.Entries.{Entry, entry_place, entries_place}
use Rattle.places.proofs.Larger.{larger_assoc, larger_none}
use Rattle.other.specs.declared.Rule.{Rule}
use Rattle.other.specs.Rules.{Edition18, rank_in, rule_in, word_fits, more_fits, date, distinct, sound_keys}
use Rattle.other_places.specs.Places.{signs_time, rule_place, keyed, later_keys, later_place, items, items_word}
use Rattle.other_places.proofs.Dates.{date_six}
use Rattle.other_places.proofs.Rules.{rule_right}
use Rattle.other_places.proofs.Places.{word_right}

-- DOF

pub date_over : (p v : Word) → 6 < length p → date (p ++ v) ≡ false
date_over p v h = go (date (p ++ v)) refl
  where
    go : (x : Bool) → date (p ++ v) ≡ x → x ≡ false
    go true e = let n = length-append p v in let m = date_six (p ++ v) e in absurd (omega arith)
    go false e = refl

-- what a list holds with v and then p written to its front
pub held_two : (p v out l m : List ℕ) → length v ≡ length out → l ≡ put v out → m ≡ put p l → m ≡ p ++ drop (length p) v
unfolding put
held_two p v out l m h e f = rw (f, e, h, drop_of_length-le out {i = length out} (omega arith), append-nil v)

-- EET, DLE

pub timed_next : (n : ℕ) (w : Word) → signs_time (n + 1) w ≡ larger (fixed_place sign (n + 2) (time_place elapsed_hours) w) (signs_time n w)
timed_next n w =
    let a : n + 1 ≡ suc n = omega arith in
    let b : n + 2 ≡ suc (suc n) = omega arith in
    rw (a, b)

pub rule_within : (r : Rule) (w : Word) → rule_place r w ≤ length w
rule_within r w = (rule_right r w).within

-- THE KEYS, in cells of four bytes

module _ (ed : Edition18) (k j at best : ℕ) (w keys : List ℕ) where
  abbrev cell : Word
  cell = before 32 (take (at + 4 - at) (drop at keys))

  cell_here : j ≤ length keys → 4 ≤ length keys - at → cells_from j 4 at keys ≡ cell ∷ cells_from (j + 1) 4 (at + 4) keys
  cell_here h l =
      let m : length keys + 1 - j ≡ suc (length keys + 1 - (j + 1)) = omega arith in
      let v : at + 4 - at ≡ 4 = omega arith in
      rw (m, v, length-drop, le-leb 4 (length keys - at) l, drop-drop 4 at keys)

  no_cell : length keys - at < 4 → cells_from j 4 at keys ≡ []
  no_cell l = go (length keys + 1 - j)
    where
      go : (m : ℕ) → first_cells m 4 (drop at keys) ≡ []
      go zero = refl
      go (suc m) = rw (length-drop, lt-leb 4 (length keys - at) l)

  pub keys_next : j ≤ length keys → 4 ≤ length keys - at
      → larger best (entries_place (later_keys ed k j (cells_from j 4 at keys)) w)
      ≡ larger (larger best (later_place ed k j cell w)) (entries_place (later_keys ed k (j + 1) (cells_from (j + 1) 4 (at + 4) keys)) w)
  keys_next h l =
      let z : suc j ≡ j + 1 = omega arith in
      ap (λ vs. larger best (entries_place (later_keys ed k j vs) w)) (cell_here h l)
      ∙ ap (λ (m : ℕ). larger best (entries_place (cond (ltb k j) (keyed cell (rule_in ed j) ∷ later m) (later m)) w)) z
      ∙ go (ltb k j)
    where
      -- the keys behind this one, m the rank of the first
      later : ℕ → List Entry
      later m = later_keys ed k m (cells_from (j + 1) 4 (at + 4) keys)

      go : (x : Bool)
          → larger best (entries_place (cond x (keyed cell (rule_in ed j) ∷ later (j + 1)) (later (j + 1))) w)
          ≡ larger (larger best (cond x (entry_place (keyed cell (rule_in ed j)) w) 0)) (entries_place (later (j + 1)) w)
      go true = sym (larger_assoc best (entry_place (keyed cell (rule_in ed j)) w) (entries_place (later (j + 1)) w))
      go false = ap (λ (b : ℕ). larger b (entries_place (later (j + 1)) w)) (sym (larger_none best))

  pub keys_end : length keys - at < 4 → larger best (entries_place (later_keys ed k j (cells_from j 4 at keys)) w) ≡ best
  keys_end l = ap (λ vs. larger best (entries_place (later_keys ed k j vs) w)) (no_cell l) ∙ larger_none best

-- how many there are
pub count_cells : (s : List ℕ) → length (cells 4 s) ≡ length s / 4
count_cells s = go (length s) s (omega arith)
  where
    go : (m : ℕ) (s : List ℕ) → length s ≤ m → length (first_cells m 4 s) ≡ length s / 4
    go zero s h = omega arith
    go (suc m) s h = pick (leb 4 (length s)) refl (go m (drop 4 s))
      where
        pick : (x : Bool) → leb 4 (length s) ≡ x → (length (drop 4 s) ≤ m → length (first_cells m 4 (drop 4 s)) ≡ length (drop 4 s) / 4)
            → length (cond x (before 32 (take 4 s) ∷ first_cells m 4 (drop 4 s)) []) ≡ length s / 4
        pick true q ih =
            let l : 4 ≤ length s = leb-true 4 (length s) q in
            let d : length (drop 4 s) ≡ length s - 4 = length-drop 4 s in
            let e = ih (omega arith) in
            omega arith
        pick false q ih = let l : length s < 4 = leb-false 4 (length s) q in omega arith

-- THE KEY THAT A WORD BELONGS TO: o is where its first oblique stands

module _ (ed : Edition18) (k : ℕ) (w : Word) where
  module _ (o : ℕ) (end : o ≡ 0 + up_to 47 w) where
    pub ranked_first : o ≡ length w → k ≡ 0 → None ≡ (items ed).after k w
    ranked_first h z = rw (found_none 47 w o end h, le-ltb 0 k (omega arith))

    pub ranked_more : o ≡ length w → (k ≡ 0 → ⊥) → more_fits (rule_in ed k) w ≡ true → Some k ≡ (items ed).after k w
    ranked_more h z e = rw (found_none 47 w o end h, lt-ltb 0 k (omega arith), e)

    pub ranked_off : o ≡ length w → (k ≡ 0 → ⊥) → more_fits (rule_in ed k) w ≡ false → None ≡ (items ed).after k w
    ranked_off h z e = rw (found_none 47 w o end h, lt-ltb 0 k (omega arith), e)

    module _ (ne : o ≡ length w → ⊥) (le : o ≤ length w) (r : ℕ) (key : r ≡ rank_in ed (take o w)) where
      cut_item : (items ed).after k w ≡ given (ltb k r && word_fits (rule_in ed r) (drop (o + 1) w)) r
      cut_item = rw (found 47 w o end ne le, ← found_before 47 w o end, ← found_behind 47 w o end, ← key)

      pub ranked_early : r ≤ k → None ≡ (items ed).after k w
      ranked_early h = sym (cut_item ∙ rw (le-ltb k r h))

      pub ranked_not : k < r → word_fits (rule_in ed r) (take (length w - (o + 1)) (drop (o + 1) w)) ≡ false → None ≡ (items ed).after k w
      ranked_not h e = sym (cut_item ∙ rw (lt-ltb k r h, ap (word_fits (rule_in ed r)) (sym (rest w (o + 1))) ∙ e))

      pub ranked_key : k < r → word_fits (rule_in ed r) (take (length w - (o + 1)) (drop (o + 1) w)) ≡ true → Some r ≡ (items ed).after k w
      ranked_key h e = sym (cut_item ∙ rw (lt-ltb k r h, ap (word_fits (rule_in ed r)) (sym (rest w (o + 1))) ∙ e))

-- a word's place is in it
pub item_within : (ed : Edition18) → sound_keys ed ≡ true → (k : ℕ) (w : Word) → items_word ed k w ≤ length w
unfolding sound_keys
item_within ed h k w = let q = both (all (all sign) ed.keys) (distinct ed.keys) h in (word_right ed q.0 q.1 k w).within
