-- A side as bytes against a side as codes, and a content cut at its oblique: what the code tests. Assumes nothing.
use Prim.Native.Nat.{ℕ, ◌+◌, ◌≤◌}
use mathlib.Core.Path.{◌≡◌, refl}
use mathlib.Core.Bool.{Bool, true, false, cond, ◌&&◌, ◌||◌}
use mathlib.Core.List.{List, [], ◌∷◌}
use native.Mathlib.Omega.{arith}
use native.Mathlib.Numerals.{add-one}
use lib.Dec.{leb, eqb}
use lib.ListN.{length, take, drop}
use lib.Arith.{lt_of_le-ne}
use borrow.Author.Tests.{lt-ltb, le-ltb}
use Rattle.alphabet.specs.Text.{bytes}
use Rattle.alphabet.specs.Alphabet.{digit}
use Rattle.text.specs.Words.{Word, up_to, same}
use Rattle.codes.specs.Codes.{codes, codes_fit}
use Rattle.codes.proofs.Laws.{concat_codes, null_codes, some_codes_lem}
use Rattle.equipment.specs.Field10.{Edition10, only_n, side_fits, valid10, fits10}

-- A SIDE

-- the bytes are N exactly where the codes are N alone
only_N : (s : List ℕ) → only_n (codes s) ≡ same s (bytes "N")
only_N [] = refl
only_N (c ∷ []) = go (eqb c 78)
  where
    go : (a : Bool) → ((a && true) && true) ≡ (a && true)
    go true = refl
    go false = refl
only_N (c ∷ (d ∷ s)) = go (eqb c 78) refl (digit d)
  where
    go : (a : Bool) → eqb c 78 ≡ a → (b : Bool) → only_n (cond b ((c ∷ (d ∷ [])) ∷ codes s) ((c ∷ []) ∷ codes (d ∷ s))) ≡ (a && false)
    go true e true = rw e
    go true e false = rw (e, null_codes d s)
    go false e true = rw e
    go false e false = rw e

pub side_bytes : (list : List Word) (most : ℕ) (s : List ℕ)
    → side_fits list most (codes s) ≡ (same s (bytes "N") || (leb 1 (length s) && (leb (length s) most && codes_fit list (codes s))))
side_bytes list most s = rw (only_N s, some_codes_lem s, concat_codes s)

-- A CONTENT, its first oblique at o

module _ (e : Edition10) (s : List ℕ) (o : ℕ) (found : o ≡ 0 + up_to 47 s) where
  at_o : o ≡ up_to 47 s
  at_o = omega arith

  pub no_oblique : o ≡ length s → fits10 e s ≡ false
  unfolding fits10
  no_oblique h = rw (← at_o, le-ltb o (length s) (omega arith))

  pub at_oblique : (o ≡ length s → ⊥) → o ≤ length s
      → fits10 e s
      ≡ (side_fits e.left e.most_left (codes (take o s))
      && side_fits e.right e.most_right (codes (drop (o + 1) s)))
  unfolding fits10 valid10
  at_oblique ne le = rw (← at_o, lt-ltb o (length s) (lt_of_le-ne le ne), add-one o)
