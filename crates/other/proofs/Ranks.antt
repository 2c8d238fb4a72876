-- The place of a key among those behind the last one: where no two keys are equal it is the key's place. Assumes nothing.
use Prim.Native.Nat.{ℕ, zero, suc, ◌+◌, ◌<◌, ◌≤◌}
use mathlib.Core.Path.{◌≡◌, refl, sym, ap, ◌∙◌}
use mathlib.Core.Bool.{Bool, true, false, cond, not, false≢true}
use mathlib.Core.List.{List, [], ◌∷◌}
use Rattle.std.specs.Prelude.{Option, Some, None}
use native.Mathlib.Omega.{arith}
use lib.ListN.{drop}
use borrow.Author.Tests.{ne_eqb, not-true}
use Rattle.alphabet.specs.Alphabet.{sign}
use Rattle.text.specs.Words.{Word, all, same, elem, rank_from, rank_given}
use Rattle.text.proofs.Tests.{both, same-eq, rank-elem, ranked_is}
use Rattle.codes.proofs.Marks.{ranked}
use Rattle.other.specs.Rules.{Edition18, rank_in, distinct, sound_keys}

-- AMONG SOME WORDS, counted from j: looked for behind the first n, the count goes on from m

none_behind : (n j m : ℕ) (w : Word) (vs : List Word) → 0 < j → m ≡ n + j → rank_from m w (drop n vs) ≡ 0 → rank_from j w vs < m
none_behind zero j m w vs h q e = let z : m ≡ j = omega arith in let f : rank_from j w vs ≡ 0 = rw z at e in omega arith
none_behind (suc n) j m w [] h q e = omega arith
none_behind (suc n) j m w (v ∷ vs) h q e = go (same w v) (none_behind n (suc j) m w vs (omega arith) (omega arith) e)
  where
    go : (b : Bool) → rank_from (suc j) w vs < m → cond b j (rank_from (suc j) w vs) < m
    go true ih = omega arith
    go false ih = ih

elem-behind : (n : ℕ) (w : Word) (vs : List Word) → elem w (drop n vs) ≡ true → elem w vs ≡ true
elem-behind zero w vs e = e
elem-behind (suc n) w [] e = e
elem-behind (suc n) w (v ∷ vs) e = go (same w v) (elem-behind n w vs e)
  where
    go : (b : Bool) → elem w vs ≡ true → cond b true (elem w vs) ≡ true
    go true ih = refl
    go false ih = ih

some_behind : (n j m : ℕ) (w : Word) (vs : List Word) → 0 < j → m ≡ n + j → distinct vs ≡ true → (rank_from m w (drop n vs) ≡ 0 → ⊥)
    → rank_from m w (drop n vs) ≡ rank_from j w vs
some_behind zero j m w vs h q d e = let z : m ≡ j = omega arith in rw z
some_behind (suc n) j m w [] h q d e = refl
some_behind (suc n) j m w (v ∷ vs) h q d e = go (same w v) refl (some_behind n (suc j) m w vs (omega arith) (omega arith) apart.1 e)
  where
    apart : (not (elem v vs) ≡ true) × (distinct vs ≡ true)
    apart = both (not (elem v vs)) (distinct vs) d

    -- it stands behind, so it is not the word here
    behind : elem w vs ≡ true
    behind = elem-behind n w vs (sym (rank-elem m w (drop n vs) (omega arith)) ∙ ap not (ne_eqb (rank_from m w (drop n vs)) 0 e))

    go : (b : Bool) → same w v ≡ b → rank_from m w (drop n vs) ≡ rank_from (suc j) w vs → rank_from m w (drop n vs) ≡ cond b j (rank_from (suc j) w vs)
    go true t ih =
        absurd (false≢true (sym (not-true (elem v vs) apart.0) ∙ ap (λ (u : Word). elem u vs) (sym (same-eq w v t)) ∙ behind))
    go false t ih = ih

-- A KEY behind the one at place `last`

module _ (ed : Edition18) (sound : sound_keys ed ≡ true) where
  pub signs_only : all (all sign) ed.keys ≡ true
  unfolding sound_keys
  signs_only = (both (all (all sign) ed.keys) (distinct ed.keys) sound).0

  all_distinct : distinct ed.keys ≡ true
  unfolding sound_keys
  all_distinct = (both (all (all sign) ed.keys) (distinct ed.keys) sound).1

  module _ (last : ℕ) (key : Word) (r : Option ℕ) (found : r ≡ rank_given (rank_from (last + 1) key (drop last ed.keys))) where
    pub not_later : r ≡ None → rank_in ed key ≤ last
    not_later z = omega (arith, none_behind last 1 (last + 1) key ed.keys (omega arith) refl (rw z at (ranked_is _ _ found)))

    pub later : (k : ℕ) → r ≡ Some k → (k ≡ rank_in ed key) × (last < k)
    later k e =
        let f : (0 < k) × (rank_from (last + 1) key (drop last ed.keys) ≡ k) = rw e at (ranked_is _ _ found) in
        let some : rank_from (last + 1) key (drop last ed.keys) ≡ 0 → ⊥ = λ z. omega (arith, f.0, f.1) in (
          sym f.1 ∙ some_behind last 1 (last + 1) key ed.keys (omega arith) refl all_distinct some,
          omega (arith, f.1, (ranked (last + 1) key (drop last ed.keys) some).0),
        )
