-- Marks of the codes that came before, by their ranks in a list. Assumes nothing.
use Prim.Native.Nat.{ℕ, zero, suc, ◌-◌, ◌<◌, ◌≤◌}
use mathlib.Core.Path.{◌≡◌, refl, sym, ap, ◌∙◌}
use mathlib.Core.Bool.{Bool, true, false, cond, ◌&&◌, not}
use mathlib.Core.List.{List, [], ◌∷◌}
use native.Mathlib.Omega.{arith}
use lib.Dec.{eqb}
use lib.ListN.{length, get_or, set}
use lib.Seq.{get_or-set_same, get_or-set_other}
use borrow.Author.Tests.{eqb-true, eqb-false, eq-eqb, ne_eqb, not-true}
use Rattle.text.specs.Words.{Word, all, same, elem, rank_from, rank}
use Rattle.text.proofs.Tests.{both, and_false, same-eq, same_self, same_other, rank-elem}
use Rattle.codes.specs.Codes.{codes_fit}

-- A RANK belongs to one word: the word that stands there in the list

pub ranked : (k : ℕ) (w : Word) (vs : List Word) → (rank_from k w vs ≡ 0 → ⊥) → (k ≤ rank_from k w vs) × (get_or vs (rank_from k w vs - k) [] ≡ w)
ranked k w [] h = absurd (h refl)
ranked k w (v ∷ vs) h = go (ranked (suc k) w vs) (same w v) refl h
  where
    go : ((rank_from (suc k) w vs ≡ 0 → ⊥) → (suc k ≤ rank_from (suc k) w vs) × (get_or vs (rank_from (suc k) w vs - suc k) [] ≡ w))
        → (b : Bool) → same w v ≡ b → (cond b k (rank_from (suc k) w vs) ≡ 0 → ⊥)
        → (k ≤ cond b k (rank_from (suc k) w vs)) × (get_or (v ∷ vs) (cond b k (rank_from (suc k) w vs) - k) [] ≡ w)
    go ih true e n = let z : k - k ≡ 0 = omega arith in (omega arith, rw z (sym (same-eq w v e)))
    go ih false e n =
        let l = (ih n).0 in
        let z : rank_from (suc k) w vs - k ≡ suc (rank_from (suc k) w vs - suc k) = omega arith in
        (omega arith, rw z (ih n).1)

one_rank : (w v : Word) (vs : List Word) → (rank w vs ≡ 0 → ⊥) → rank v vs ≡ rank w vs → v ≡ w
one_rank w v vs h e = sym (ranked 1 v vs (λ z. h (sym e ∙ z))).1 ∙ ap (λ (i : ℕ). get_or vs (i - 1) []) e ∙ (ranked 1 w vs h).1

-- NONE of the codes is marked

abbrev fresh : List Bool → List Word → List Word → Bool
fresh seen list ws = all (λ w. not (get_or seen (rank w list) false)) ws

none_marked : (seen : List Bool) → all not seen ≡ true → (k : ℕ) → get_or seen k false ≡ false
none_marked [] e k = refl
none_marked (b ∷ seen) e zero = not-true b (both (not b) (all not seen) e).0
none_marked (b ∷ seen) e (suc k) = none_marked seen (both (not b) (all not seen) e).1 k

all_fresh : (seen : List Bool) → all not seen ≡ true → (list ws : List Word) → fresh seen list ws ≡ true
all_fresh seen e list [] = refl
all_fresh seen e list (w ∷ ws) = rw (none_marked seen e (rank w list)) (all_fresh seen e list ws)

-- A MARK more: the codes behind are not the code marked

and_true : (a : Bool) → a ≡ (a && true)
and_true true = refl
and_true false = refl

apart : (a b c d : Bool) → ((a && not b) && (c && not d)) ≡ ((a && c) && not (cond b true d))
apart false b c d = refl
apart true true c d = sym (and_false c false refl)
apart true false c d = refl

and_assoc : (a b c : Bool) → (a && (b && c)) ≡ ((a && b) && c)
and_assoc true b c = refl
and_assoc false b c = refl

module _ (seen : List Bool) (list : List Word) (w : Word) (h : rank w list ≡ 0 → ⊥) (l : rank w list < length seen) where
  mark_one : (v : Word) → not (get_or (set seen (rank w list) true) (rank v list) false) ≡ (not (get_or seen (rank v list) false) && not (same w v))
  mark_one v = go (eqb (rank v list) (rank w list)) refl
    where
      go : (b : Bool) → eqb (rank v list) (rank w list) ≡ b
          → not (get_or (set seen (rank w list) true) (rank v list) false) ≡ (not (get_or seen (rank v list) false) && not (same w v))
      go true p =
          let e = eqb-true (rank v list) (rank w list) p in
          let q : same w v ≡ true = ap (same w) (one_rank w v list h e) ∙ same_self w in
          rw (e, get_or-set_same seen (rank w list) true false l) (sym (and_false (not (get_or seen (rank w list) false)) (not (same w v)) (ap not q)))
      go false p =
          let n = eqb-false (rank v list) (rank w list) p in
          let q : same w v ≡ false = same_other w v (λ e. n (ap (λ (x : Word). rank x list) (sym e))) in
          rw (get_or-set_other seen (rank w list) (rank v list) true false n, q) (and_true (not (get_or seen (rank v list) false)))

  mark : (ws : List Word) → fresh (set seen (rank w list) true) list ws ≡ (fresh seen list ws && not (elem w ws))
  mark [] = refl
  mark (v ∷ ws) = rw (mark_one v, mark ws) (apart (not (get_or seen (rank v list) false)) (same w v) (fresh seen list ws) (elem w ws))

-- ONE TURN, at a code w with the codes ws behind it

-- what is asked of the codes from here on, when those of the ranks marked came before
unfoldable pub rest : List Bool → List Word → List Word → Bool
rest seen list ws = fresh seen list ws && codes_fit list ws

pub rest_starts : (seen : List Bool) → all not seen ≡ true → (list ws : List Word) → codes_fit list ws ≡ rest seen list ws
unfolding rest
rest_starts seen e list ws = ap (λ (b : Bool). b && codes_fit list ws) (sym (all_fresh seen e list ws))

unmarked : (seen : List Bool) (k : ℕ) → length seen ≤ k → get_or seen k false ≡ false
unmarked [] k h = refl
unmarked (b ∷ seen) zero h = absurd (omega arith)
unmarked (b ∷ seen) (suc k) h = unmarked seen k (omega arith)

module _ (whole : Bool) (seen : List Bool) (list here : List Word) (w : Word) (ws : List Word) (r : ℕ)
    (so_far : whole ≡ rest seen list here) (cut : here ≡ w ∷ ws) (is-rank : r ≡ rank w list) where
  turn : whole ≡ rest seen list (w ∷ ws)
  turn = so_far ∙ ap (rest seen list) cut

  is_elem : elem w list ≡ not (eqb r 0)
  is_elem = sym (rank-elem 1 w list (omega arith)) ∙ ap (λ (k : ℕ). not (eqb k 0)) (sym is-rank)

  pub not_listed : r ≡ 0 → false ≡ whole
  unfolding rest
  not_listed z = sym (turn ∙ and_false (fresh seen list (w ∷ ws)) (codes_fit list (w ∷ ws)) (rw (is_elem, eq-eqb r 0 z)))

  pub seen_before : get_or seen r false ≡ true → false ≡ whole
  unfolding rest
  seen_before e = sym (turn ∙ rw (← is-rank, e))

  module _ (n : r ≡ 0 → ⊥) where
    listed : elem w list ≡ true
    listed = is_elem ∙ ap not (ne_eqb r 0 n)

    pub marked : r < length seen → get_or seen r false ≡ false → whole ≡ rest (set seen r true) list ws
    unfolding rest
    marked l e =
        let m : fresh (set seen r true) list ws ≡ (fresh seen list ws && not (elem w ws))
        = rw is-rank (mark seen list w (λ z. n (is-rank ∙ z)) (omega arith) ws) in
        turn ∙ rw (← is-rank, e, listed, m) (and_assoc (fresh seen list ws) (not (elem w ws)) (codes_fit list ws))

    pub comes_again : elem w ws ≡ true → false ≡ whole
    unfolding rest
    comes_again e = sym (turn ∙ and_false (fresh seen list (w ∷ ws)) (codes_fit list (w ∷ ws)) (rw (listed, e)))

    pub comes_once : length seen ≤ r → elem w ws ≡ false → whole ≡ rest seen list ws
    unfolding rest
    comes_once l e = turn ∙ rw (← is-rank, unmarked seen r l, listed, e)
