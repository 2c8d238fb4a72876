-- A message in its frame is Good exactly when a walk over what stands between comes to the end. Assumes nothing.
use Prim.Native.Nat.{ℕ, suc, ◌≤◌}
use mathlib.Core.Path.{◌≡◌, refl, sym, ap, ◌∙◌}
use mathlib.Core.Bool.{Bool, true, false, cond, ◌&&◌, false≢true}
use mathlib.Core.List.{List, [], ◌∷◌, ◌++◌}
use lib.Dec.{eqb, eqb-zero-suc, eqb-suc-suc}
use lib.ListN.{length}
use Rattle.alphabet.specs.Alphabet.{white, in_alphabet, inner_byte, inner_bytes}
use Rattle.text.specs.Words.{Word, all}
use Rattle.text.proofs.Tests.{both, and_both, all_imp, all_append}
use Rattle.space.specs.Fields.{inner, Framed}
use Rattle.space.proofs.Frame.{frame}
use Rattle.outer.specs.Outer.{outer, no_paren, Passed}
use Rattle.outer.specs.Refusal.{Checked}
use Rattle.outer.proofs.Good.{good_passed, passed_good}
use Rattle.std.specs.Prelude.{Ok, Err, is_ok}

-- GOOD OR NOT

pub is_ok_lem : (o : Checked) → is_ok o ≡ true → o ≡ Ok tt
is_ok_lem (Ok u) e = refl
is_ok_lem (Err r) e = absurd (false≢true e)

pub not_passed : (m : List ℕ) → (Passed m → ⊥) → false ≡ is_ok (outer m)
not_passed m n = go (outer m) refl
  where
    go : (o : Checked) → outer m ≡ o → false ≡ is_ok o
    go (Ok u) e = absurd (n (good_passed m e))
    go (Err r) e = refl

-- BYTES THAT MAY STAND BETWEEN

-- the walk comes to the end exactly where each byte may
to_the_end : (s : Word) → eqb (inner_bytes s) (length s) ≡ all inner_byte s
to_the_end [] = refl
to_the_end (b ∷ s) = go (to_the_end s) (inner_byte b)
  where
    go : eqb (inner_bytes s) (length s) ≡ all inner_byte s → (t : Bool) → eqb (cond t (suc (inner_bytes s)) 0) (suc (length s)) ≡ (t && all inner_byte s)
    go ih true = eqb-suc-suc (inner_bytes s) (length s) ∙ ih
    go ih false = eqb-zero-suc (length s)

each_part : (b : ℕ) → inner_byte b ≡ true → (in_alphabet b ≡ true) × (no_paren b ≡ true)
unfolding inner_byte
each_part b e = both (in_alphabet b) (no_paren b) e

all_parts : (s : Word) → all in_alphabet s ≡ true → all no_paren s ≡ true → all inner_byte s ≡ true
unfolding inner_byte
all_parts [] p q = refl
all_parts (b ∷ s) p q =
    let k = both (in_alphabet b) (all in_alphabet s) p in
    let l = both (no_paren b) (all no_paren s) q in
    and_both (in_alphabet b && no_paren b) (all inner_byte s) (and_both (in_alphabet b) (no_paren b) k.0 l.0) (all_parts s k.1 l.1)

front : (v w : Word) → all in_alphabet (v ++ w) ≡ true → all in_alphabet v ≡ true
front [] w e = refl
front (b ∷ v) w e = let h = both (in_alphabet b) (all in_alphabet (v ++ w)) e in and_both (in_alphabet b) (all in_alphabet v) h.0 (front v w h.1)

framed_letters : (x : Word) → all in_alphabet x ≡ true → all in_alphabet (40 ∷ (x ++ (41 ∷ []))) ≡ true
unfolding in_alphabet white
framed_letters x e = all_append in_alphabet x (41 ∷ []) e refl

-- A MESSAGE IN ITS FRAME

module _ (m : List ℕ) (short : length m ≤ 1800) (framed : Framed m) where
  inner_passed : all inner_byte (inner m) ≡ true → Passed m
  inner_passed e =
      record {
        short = short;
        framed = framed;
        between = all_imp inner_byte no_paren (λ b i. (each_part b i).1) (inner m) e;
        letters = ap (all in_alphabet) (frame m framed) ∙ framed_letters (inner m) (all_imp inner_byte in_alphabet (λ b i. (each_part b i).0) (inner m) e);
      }

  passed_inner : Passed m → all inner_byte (inner m) ≡ true
  passed_inner p =
      let l = both (in_alphabet 40) (all in_alphabet (inner m ++ (41 ∷ []))) (sym (ap (all in_alphabet) (frame m framed)) ∙ p.letters) in
      all_parts (inner m) (front (inner m) (41 ∷ []) l.1) p.between

  inner_good : all inner_byte (inner m) ≡ is_ok (outer m)
  inner_good = go (all inner_byte (inner m)) refl
    where
      go : (t : Bool) → all inner_byte (inner m) ≡ t → t ≡ is_ok (outer m)
      go true e = sym (ap is_ok (passed_good m (inner_passed e)))
      go false e = not_passed m (λ p. false≢true (sym e ∙ passed_inner p))

  -- s is what the code takes for what stands between
  pub walked : (s : Word) (n : ℕ) → s ≡ inner m → n ≡ inner_bytes s → eqb n (length s) ≡ is_ok (outer m)
  walked s n e k = ap (λ (i : ℕ). eqb i (length s)) k ∙ to_the_end s ∙ ap (all inner_byte) e ∙ inner_good
