-- Where the fields of a text end, gathered field by field: the first j are known, and field j begins at `at`. Assumes nothing.
use Prim.Native.Nat.{ℕ, ◌+◌, ◌≤◌, ◌<◌}
use mathlib.Core.Path.{◌≡◌, refl, sym, ap, ◌∙◌}
use mathlib.Core.List.{List}
use native.Mathlib.Omega.{arith}
use lib.ListN.{length, drop, get_or, set, length-set}
use lib.Seq.{get_or-set_same, get_or-set_other}
use borrow.Author.Count.{below_more}
use Rattle.text.specs.Words.{split, up_to, after}
use Rattle.text.proofs.Index.{split_at, after_here, after_end}
use Rattle.kinds.specs.Kinds.{most_fields}
use Rattle.message.specs.Ends.{start_in, EndAt, Ends}
use Rattle.message.proofs.Ends.{some_field, start_next, start_set}

pub record Gathered (s ends : List ℕ) (at j : ℕ) : Type 0 where
  pub inside : at ≤ length s
  pub long : length ends ≡ most_fields
  pub few : length (split 45 s) ≤ most_fields
  pub start : at ≡ start_in ends j
  pub left : length (split 45 s) ≡ j + length (split 45 (drop at s))
  pub known : (i : ℕ) → i < j → EndAt s (start_in ends i) (get_or ends i 0)

pub gather_starts : (s ends : List ℕ) → length ends ≡ most_fields → length (split 45 s) ≤ most_fields → Gathered s ends 0 0
gather_starts s ends long few =
    record { inside = omega arith; long = long; few = few; start = refl; left = omega arith; known = λ i h. absurd (omega arith) }

module _ (s ends : List ℕ) (at j : ℕ) (g : Gathered s ends at j) where
  pub gather_room : j < most_fields
  gather_room = omega (arith, g.left, g.few, some_field (drop at s))

  module _ (e : ℕ) (end : e ≡ at + up_to 45 (drop at s)) (within : e ≤ length s) where
    parts : length (split 45 (drop at s)) ≡ 1 + length (after 45 (drop e s))
    parts = omega (arith, ap length (split_at 45 s at e end))

    set_same : get_or (set ends j e) j 0 ≡ e
    set_same = get_or-set_same ends j e 0 (omega (arith, gather_room, g.long))

    here : EndAt s (start_in (set ends j e) j) (get_or (set ends j e) j 0)
    here = rw (set_same, start_set ends j e j (omega arith), ← g.start) (record { end = end; inside = within })

    earlier : (i : ℕ) → i < j → EndAt s (start_in (set ends j e) i) (get_or (set ends j e) i 0)
    earlier i h =
        let l : i ≤ j = omega arith in
        rw (start_set ends j e i l, get_or-set_other ends j i e 0 (λ z. omega arith)) (g.known i h)

    so_far : (i : ℕ) → i < j + 1 → EndAt s (start_in (set ends j e) i) (get_or (set ends j e) i 0)
    so_far = below_more (λ (i : ℕ). EndAt s (start_in (set ends j e) i) (get_or (set ends j e) i 0)) j earlier here

    pub gather_next : e < length s → Gathered s (set ends j e) (e + 1) (j + 1)
    gather_next h =
        record {
          inside = omega arith;
          long = length-set ends j e ∙ g.long;
          few = g.few;
          start = ap (λ (x : ℕ). x + 1) (sym set_same) ∙ start_next (set ends j e) j;
          left = omega (arith, g.left, parts, ap length (after_here 45 s e h));
          known = so_far;
        }

    pub gather_all : length s ≤ e → Ends s (set ends j e)
    gather_all h =
        let all : length (split 45 s) ≡ j + 1 = omega (arith, g.left, parts, ap length (after_end 45 s e h)) in
        record {
          few = g.few;
          known = λ i l. so_far i (omega arith);
        }
