-- Tests that agree, tests joined with or, and what is known on a condition. Assumes nothing.
use Prim.Native.Nat.{ℕ}
use mathlib.Core.Path.{◌≡◌, refl, sym, ap}
use mathlib.Core.Bool.{Bool, true, false, ◌||◌, cond, false≢true}
use Rattle.std.specs.Prelude.{Some}
use mathlib.Core.List.{List}
use Rattle.places.specs.Place.{IsPlace}
use Rattle.places.specs.Words.{ended}
use Rattle.places.specs.Given.{given}
use Rattle.places.proofs.Place.{place_of_language}

pub iff : (a b : Bool) → (a ≡ true → b ≡ true) → (b ≡ true → a ≡ true) → a ≡ b
iff true b f g = sym (f refl)
iff false true f g = g refl
iff false false f g = refl

pub or_cond : (a b : Bool) → (a || b) ≡ cond a true b
or_cond true b = refl
or_cond false b = refl

pub given_ended : {A : Type 0} (b : Bool) (k : A) → ended (given b k) ≡ b
given_ended true k = refl
given_ended false k = refl

pub given_some : {A : Type 0} (b : Bool) (k j : A) → given b k ≡ Some j → (b ≡ true) × (k ≡ j)
given_some true k j e = (refl, cc)
given_some false k j e = absurd (false≢true (ap ended e))

pub given_place : {A : Type 0} (f : List ℕ → Bool) (k : List ℕ → A) (s : List ℕ) (p : ℕ) → IsPlace f s p → IsPlace (λ w. ended (given (f w) (k w))) s p
given_place f k s p a = place_of_language f (λ w. ended (given (f w) (k w))) (λ w. sym (given_ended (f w) (k w))) s p a
