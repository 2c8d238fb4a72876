-- The letters of a set that stand in a word, and how a word is rewritten. Assumes nothing.
use Prim.Native.Nat.{ℕ, ◌+◌, ◌<◌, ◌≤◌}
use mathlib.Core.Path.{◌≡◌, refl, sym, ap, ◌∙◌}
use mathlib.Core.Bool.{Bool, true, false, cond, false≢true}
use Rattle.std.specs.List.{filter, position_or_len}
use Rattle.std.specs.Prelude.{suc, Option, Some, None}
use Rattle.std.proofs.lemmas.List.Recursion.{is_position_or_len}
use mathlib.Core.List.{List, [], ◌∷◌, ◌++◌}
use native.Mathlib.Omega.{arith}
use lib.Dec.{eqb, ltb}
use lib.ListN.{length, take, drop, get_or, set, length-append, length-drop}
use lib.Seq.{length-take-le}
use borrow.Author.Rules.{rules}
use borrow.Author.Tests.{ltb-true, eqb-true}
use Rattle.alphabet.specs.Alphabet.{one_of}
use Rattle.text.specs.Words.{Word, up_to, holds}
use Rattle.text.specs.Lent.{front}
use Rattle.text.proofs.Index.{drop_here}
use Rattle.supplement.specs.declared.Stage.{Stage}
use Rattle.supplement.specs.declared.Stage.TheVariants.{Start, Endurance, Persons, Radio, Survival, Lights, JacketRadio, Number, Capacity, Colours}
use Rattle.supplement.specs.declared.Stage.TheVariants.{Aircraft, Remarks, Pilot, Refused}
use Rattle.canonical.specs.Canonical.{sorted}
use Rattle.canonical.specs.Rewriting.{letters, changed, up_to_oblique, rewrite}
use Rattle.canonical.proofs.Orders.{sorted_shorter}
use Rattle.canonical.proofs.Counts.{stripped_shorter}

-- LETTERS OF A SET that stand in a word

module _ (set : List ℕ) (w : Word) (i : ℕ) (h : i < length set) where
  pub sorted_take : one_of (get_or set i 0) w ≡ true → sorted (drop i set) w ≡ get_or set i 0 ∷ sorted (drop (i + 1) set) w
  sorted_take e = rw (drop_here set i h, e)

  pub sorted_skip : one_of (get_or set i 0) w ≡ false → sorted (drop i set) w ≡ sorted (drop (i + 1) set) w
  sorted_skip e = rw (drop_here set i h, e)

pub sorted_filtered : (set : List ℕ) (w : Word) → sorted set w ≡ filter (λ b. one_of b w) set
sorted_filtered [] w = refl
sorted_filtered (b ∷ set) w = ap (λ (v : Word). cond (one_of b w) (b ∷ v) v) (sorted_filtered set w)

-- REWRITING

-- r is where `position` found the first oblique
module _ (w : Word) (r : Option ℕ)
    (found : r ≡ cond (ltb (position_or_len (λ b. eqb b 47) w) (length w)) (Some (position_or_len (λ b. eqb b 47) w)) None) where
  first : up_to 47 w ≡ position_or_len (λ b. eqb b 47) w
  first = is_position_or_len (up_to 47) (λ b. eqb b 47) refl (λ b t. ap (λ (n : ℕ). cond (eqb b 47) 0 n) (omega arith)) w

  placed : r ≡ cond (holds 47 w) (Some (up_to 47 w)) None
  placed = rw first found

  pub oblique_some : (o : ℕ) → r ≡ Some o → (o + 1 ≡ up_to_oblique w) × (o < length w)
  oblique_some o e = go (holds 47 w) refl (sym e ∙ placed)
    where
      go : (t : Bool) → holds 47 w ≡ t → Some o ≡ cond t (Some (up_to 47 w)) None → (o + 1 ≡ cond t (suc (up_to 47 w)) 0) × (o < length w)
      go true h q = let p : o ≡ up_to 47 w = search rules in (omega arith, omega (arith, ltb-true (up_to 47 w) (length w) h))
      go false h q = absurd (search rules)

  pub oblique_none : r ≡ None → 0 ≡ up_to_oblique w
  oblique_none e = go (holds 47 w) (sym e ∙ placed)
    where
      go : (t : Bool) → None ≡ cond t (Some (up_to 47 w)) None → 0 ≡ cond t (suc (up_to 47 w)) 0
      go true q = absurd (search rules)
      go false q = refl

pub changed_shorter : (stage : Stage) (w : Word) → length (changed stage w) ≤ length w
changed_shorter Start w = omega arith
changed_shorter Endurance w = omega arith
changed_shorter Persons w = stripped_shorter w
changed_shorter Radio w = sorted_shorter letters refl w
changed_shorter Survival w = sorted_shorter letters refl w
changed_shorter Lights w = sorted_shorter letters refl w
changed_shorter JacketRadio w = sorted_shorter letters refl w
changed_shorter Number w = stripped_shorter w
changed_shorter Capacity w = stripped_shorter w
changed_shorter Colours w = omega arith
changed_shorter Aircraft w = omega arith
changed_shorter Remarks w = omega arith
changed_shorter Pilot w = omega arith
changed_shorter Refused w = omega arith

-- a word is what stands up to its oblique, and what is changed behind it
module _ (stage : Stage) (w : Word) (o : ℕ) (e : o ≡ up_to_oblique w) (h : o ≤ length w) where
  pub rewrite_parts : rewrite stage w ≡ take o w ++ changed stage (drop o w)
  unfolding rewrite
  rewrite_parts = rw (← e)

  pub rewrite_length : length (rewrite stage w) ≡ o + length (changed stage (drop o w))
  rewrite_length = ap length rewrite_parts ∙ length-append (take o w) _ ∙ ap (λ (n : ℕ). n + length (changed stage (drop o w))) (length-take-le o w h)

  pub rewrite_shorter : length (rewrite stage w) ≤ length w
  rewrite_shorter = omega (arith, rewrite_length, changed_shorter stage (drop o w), length-drop o w)

-- a word with a key: its first two bytes are stored one by one

pub two_bytes : (w : Word) → eqb (get_or w 1 0) 47 ≡ true → take 2 w ≡ get_or w 0 0 ∷ (47 ∷ [])
two_bytes [] e = absurd (false≢true e)
two_bytes (b ∷ []) e = absurd (false≢true e)
two_bytes (b ∷ (c ∷ w)) e = ap (λ (x : ℕ). b ∷ (x ∷ [])) (eqb-true c 47 e)

pub stored_two : (out : List ℕ) (a b : ℕ) → 2 ≤ length out → set (set out 0 a) 1 b ≡ front (a ∷ (b ∷ [])) out
unfolding front
stored_two [] a b h = absurd (omega arith)
stored_two (x ∷ []) a b h = absurd (omega arith)
stored_two (x ∷ (y ∷ out)) a b h = refl
