-- The parts of a line, and words that are not a verb. Assumes nothing.
use Rattle.std.proofs.Common.{arith, ℕ, ◌+◌, ◌-◌, ◌≡◌, ◌≤◌, Bool, true, false, length, drop, take, List, Option, Some, None, take_all}
use Rattle.std.specs.Prelude.{suc, refl, cond, eqb}
use Rattle.std.specs.List.{position_or_len, list_all}
use borrow.Author.Tests.{ne_eqb, le-ltb}
use Rattle.alphabet.specs.Alphabet.{digit}
use lib.Dec.{ltb}
use mathlib.Core.Path.{ap, sym, ◌∙◌}
use Rattle.std.proofs.lemmas.Option.{cond_some}
use Rattle.std.proofs.lemmas.Bool.{ltb-false}
use Rattle.std.proofs.lemmas.List.Recursion.{is_position_or_len}
use Rattle.text.specs.Words.{up_to, before, holds}
use Rattle.text.proofs.Index.{rest}
use Rattle.text.proofs.Iterated.{all_listed}
use Rattle.calls.specs.Lines.{rest_of, number_in}

-- WHAT `position` FINDS is the place of the first space

up_to_position : (s : List ℕ) → up_to 32 s ≡ position_or_len (λ b. eqb b 32) s
up_to_position s =
    is_position_or_len (up_to 32) (λ b. eqb b 32) refl
    (λ b t. let one : suc (up_to 32 t) ≡ 1 + up_to 32 t = omega arith in ap (λ n. cond (eqb b 32) 0 n) one) s

none_given : {A : Type 0} (t : Bool) (x : A) → cond t (Some x) None ≡ None → t ≡ false
none_given true x e = grind arith
none_given false x e = refl

module _ (s : List ℕ) (r : Option ℕ)
    (f : r ≡ cond (ltb (position_or_len (λ b. eqb b 32) s) (length s)) (Some (position_or_len (λ b. eqb b 32) s)) None) where
  pub found_space : (e : ℕ) → r ≡ Some e → (take e s ≡ before 32 s) × (Some (take (length s - (e + 1)) (drop (e + 1) s)) ≡ rest_of s)
  found_space e q =
      let w = cond_some _ _ _ (sym f ∙ q) in
      let at : e ≡ up_to 32 s = sym w.1 ∙ sym (up_to_position s) in
      let there : holds 32 s ≡ true = ap (λ k. ltb k (length s)) (up_to_position s) ∙ w.0 in
      let next : e + 1 ≡ suc (up_to 32 s) = omega (arith, at) in
      (ap (λ k. take k s) at, rw there (ap Some (rest s (e + 1) ∙ ap (λ k. drop k s) next)))

  pub no_space : r ≡ None → (s ≡ before 32 s) × (None ≡ rest_of s)
  no_space q =
      let p : ltb (up_to 32 s) (length s) ≡ false = ap (λ k. ltb k (length s)) (up_to_position s) ∙ none_given _ _ (sym f ∙ q) in
      (sym (take_all (up_to 32 s) s (ltb-false _ _ p)), rw p refl)

-- A NUMBER of more digits than one

pub many : (w : List ℕ) (r : Bool) → r ≡ list_all digit w → r ≡ true → 2 ≤ length w → Some 10 ≡ number_in w
many w r e q h = rw (sym (all_listed digit w) ∙ (sym e ∙ q), le-ltb (length w) 1 (omega (arith, h)), ne_eqb (length w) 1 (λ z. omega (arith, h, z))) refl
