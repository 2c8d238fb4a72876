-- The places of so many bytes of a set, and of a time. Assumes nothing.
use Prim.Native.Nat.{ℕ, zero, suc, ◌+◌, ◌*◌, ◌-◌, ◌≤◌}
use mathlib.Core.Path.{◌≡◌, refl, sym, ap, ◌∙◌, subst}
use mathlib.Core.Bool.{Bool, true, false, ◌&&◌, cond, and-false}
use mathlib.Core.List.{List, [], ◌∷◌, ◌++◌}
use native.Mathlib.Omega.{arith}
use native.Mathlib.Nat.{suc-add, zero-add}
use lib.Dec.{leb, leb-suc-suc}
use lib.ListN.{length, drop}
use borrow.Author.Tests.{leb-true, le-leb, lt-leb}
use Rattle.alphabet.specs.Alphabet.{digit}
use Rattle.text.specs.Words.{Word, null, leading}
use Rattle.text.proofs.Tests.{both}
use Rattle.shape.specs.Shape.{wide}
use Rattle.shape.specs.Time.{hours_minutes, hours, minutes, time_fits}
use Rattle.shape.proofs.Numbers.{digit_range, range_digit}
use Rattle.shape.proofs.Index.{fits_other}
use Rattle.places.specs.Place.{IsPlace}
use Rattle.places.specs.Parts.{first_fits, first_place, no_more, fixed_fits, fixed_place, tens, units, sixty, minutes_place, time_place}
use Rattle.places.proofs.Given.{iff}
use Rattle.places.proofs.Place.{place_of_language}
use Rattle.places.proofs.Leaves.{nil_place, first_place_lem, fill}

-- SO MANY BYTES

module _ (p : ℕ → Bool) (g : List ℕ → Bool) (pg : List ℕ → ℕ) where
  -- byte by byte
  abbrev stepped : ℕ → List ℕ → ℕ
  stepped zero s = pg s
  stepped (suc n) s = first_place p (λ a. stepped n) s

  stepped_is : (n : ℕ) (s : List ℕ) → ((s : List ℕ) → IsPlace g s (pg s)) → stepped n s ≡ fixed_place p n pg s
  stepped_is zero s h = sym (rw (le-leb 0 (leading p s) (omega arith)) (zero-add (pg s)))
  stepped_is (suc n) [] h = sym (rw (lt-leb (suc n) 0 (omega arith)))
  stepped_is (suc n) (b ∷ s) h = go (p b) (stepped_is n s h)
    where
      inner : (x : Bool) → suc (cond x (n + pg (drop n s)) (leading p s)) ≡ cond x (suc n + pg (drop n s)) (suc (leading p s))
      inner true = sym (suc-add n (pg (drop n s)))
      inner false = refl

      go : (x : Bool) → stepped n s ≡ fixed_place p n pg s
          → cond x (suc (stepped n s)) 0 ≡ cond (leb (suc n) (cond x (suc (leading p s)) 0)) (suc n + pg (drop n s)) (cond x (suc (leading p s)) 0)
      go true e = ap suc e ∙ rw (leb-suc-suc n (leading p s)) (inner (leb n (leading p s)))
      go false e = sym (rw (lt-leb (suc n) 0 (omega arith)))

  module _ (right : (s : List ℕ) → IsPlace g s (pg s)) (e : List ℕ) (ge : g e ≡ true) (b : ℕ) (pb : p b ≡ true) where
    some_fixed : (n : ℕ) → fixed_fits p n g (fill b n ++ e) ≡ true
    some_fixed zero = ge
    some_fixed (suc n) = rw (pb, some_fixed n)

    stepped_place : (n : ℕ) (s : List ℕ) → IsPlace (fixed_fits p n g) s (stepped n s)
    stepped_place zero s = right s
    stepped_place (suc n) s = first_place_lem p (λ a. fixed_fits p n g) (λ a. stepped n) (λ a h. stepped_place n) (λ a h. (fill b n ++ e, some_fixed n)) s

    pub fixed_place_lem : (n : ℕ) (s : List ℕ) → IsPlace (fixed_fits p n g) s (fixed_place p n pg s)
    fixed_place_lem n s = subst (IsPlace (fixed_fits p n g) s) (stepped_is n s right) (stepped_place n s)

-- A TIME

module _ (most : ℕ) where
  abbrev last_fit : List ℕ → Bool
  last_fit = first_fits sixty (λ c. first_fits digit (λ d. null))

  abbrev time_bytes : List ℕ → Bool
  time_bytes = first_fits (tens most) (λ a. first_fits (units most a) (λ b. last_fit))

  pub last_right : (s : List ℕ) → IsPlace last_fit s (minutes_place s)
  last_right =
      first_place_lem sixty (λ c. first_fits digit (λ d. null)) (λ c. first_place digit (λ d. no_more))
      (λ c h. first_place_lem digit (λ d. null) (λ d. no_more) (λ d h. nil_place) (λ d h. ([], refl))) (λ c h. (48 ∷ [], refl))

  bytes_right : (s : List ℕ) → IsPlace time_bytes s (time_place most s)
  unfolding time_place
  bytes_right =
      first_place_lem (tens most) (λ a. first_fits (units most a) (λ b. last_fit)) (λ a. first_place (units most a) (λ b. minutes_place))
      (λ a h. first_place_lem (units most a) (λ b. last_fit) (λ b. minutes_place) (λ b h. last_right) (λ b h. (48 ∷ 48 ∷ [], refl)))
      (λ a h. (
        48 ∷ 48 ∷ 48 ∷ [],
        let l : (a - 48) * 10 ≤ most = leb-true ((a - 48) * 10) most (both (digit a) (leb ((a - 48) * 10) most) h).1 in
            rw (le-leb ((a - 48) * 10 + 0) most (omega arith)),
      ))

  other : (w : Word) → (length w ≡ 4 → ⊥) → time_fits most w ≡ false
  unfolding time_fits
  other w h = rw (fits_other (wide hours_minutes) w (λ e. h (sym e)))

  four : (a b c d : ℕ) → time_bytes (a ∷ b ∷ c ∷ d ∷ []) ≡ time_fits most (a ∷ b ∷ c ∷ d ∷ [])
  unfolding time_fits
  four a b c d = iff (time_bytes (a ∷ b ∷ c ∷ d ∷ [])) (time_fits most (a ∷ b ∷ c ∷ d ∷ [])) to from
    where
      to : time_bytes (a ∷ b ∷ c ∷ d ∷ []) ≡ true → time_fits most (a ∷ b ∷ c ∷ d ∷ []) ≡ true
      to h =
          let x = both (tens most a) (units most a b && last_fit (c ∷ d ∷ [])) h in
          let y = both (units most a b) (last_fit (c ∷ d ∷ [])) x.1 in
          let z = both (sixty c) (digit d && true) y.1 in
          let ab = both (digit b) (leb ((a - 48) * 10 + (b - 48)) most) y.0 in
          let cc' = both (leb 48 c) (leb c 53) z.0 in
          let l : (a - 48) * 10 + (b - 48) ≤ most = leb-true ((a - 48) * 10 + (b - 48)) most ab.1 in
          let c1 : 48 ≤ c = leb-true 48 c cc'.0 in
          let c2 : c ≤ 53 = leb-true c 53 cc'.1 in
          let d1 = digit_range d (both (digit d) true z.1).0 in
          rw (
            (both (digit a) (leb ((a - 48) * 10) most) x.0).0,
            ab.0,
            range_digit c c1 (omega arith),
            (both (digit d) true z.1).0,
            le-leb (hours (a ∷ b ∷ c ∷ d ∷ [])) most (omega arith),
            le-leb (minutes (a ∷ b ∷ c ∷ d ∷ [])) 59 (omega arith),
          )

      from : time_fits most (a ∷ b ∷ c ∷ d ∷ []) ≡ true → time_bytes (a ∷ b ∷ c ∷ d ∷ []) ≡ true
      from h =
          let f = both (digit a && (digit b && (digit c && (digit d && true)))) _ h in
          let x = both (digit a) (digit b && (digit c && (digit d && true))) f.0 in
          let y = both (digit b) (digit c && (digit d && true)) x.1 in
          let z = both (digit c) (digit d && true) y.1 in
          let u = both (digit d) true z.1 in
          let m = both (leb (hours (a ∷ b ∷ c ∷ d ∷ [])) most) (leb (minutes (a ∷ b ∷ c ∷ d ∷ [])) 59) f.1 in
          let l : hours (a ∷ b ∷ c ∷ d ∷ []) ≤ most = leb-true (hours (a ∷ b ∷ c ∷ d ∷ [])) most m.0 in
          let k : minutes (a ∷ b ∷ c ∷ d ∷ []) ≤ 59 = leb-true (minutes (a ∷ b ∷ c ∷ d ∷ [])) 59 m.1 in
          let c1 = digit_range c z.0 in
          let d1 = digit_range d u.0 in
          rw (
            x.0,
            y.0,
            u.0,
            le-leb ((a - 48) * 10) most (omega arith),
            le-leb ((a - 48) * 10 + (b - 48)) most (omega arith),
            le-leb 48 c (omega arith),
            le-leb c 53 (omega arith),
          )

  time_is : (w : List ℕ) → time_bytes w ≡ time_fits most w
  time_is [] = sym (other [] (λ e. omega arith))
  time_is (a ∷ []) = and-false (tens most a) ∙ sym (other (a ∷ []) (λ e. omega arith))
  time_is (a ∷ b ∷ []) =
      ap (λ (x : Bool). tens most a && x) (and-false (units most a b)) ∙ and-false (tens most a) ∙ sym (other (a ∷ b ∷ []) (λ e. omega arith))
  time_is (a ∷ b ∷ c ∷ []) =
      ap (λ (x : Bool). tens most a && (units most a b && x)) (and-false (sixty c))
      ∙ ap (λ (x : Bool). tens most a && x) (and-false (units most a b)) ∙ and-false (tens most a) ∙ sym (other (a ∷ b ∷ c ∷ []) (λ e. omega arith))
  time_is (a ∷ b ∷ c ∷ d ∷ []) = four a b c d
  time_is (a ∷ b ∷ c ∷ d ∷ x ∷ w) =
      ap (λ (x : Bool). tens most a && (units most a b && (sixty c && x))) (and-false (digit d))
      ∙ ap (λ (x : Bool). tens most a && (units most a b && x)) (and-false (sixty c))
      ∙ ap (λ (x : Bool). tens most a && x) (and-false (units most a b)) ∙ and-false (tens most a) ∙ sym (other (a ∷ b ∷ c ∷ d ∷ x ∷ w) (λ e. omega arith))

  pub time_place_lem : (s : List ℕ) → IsPlace (time_fits most) s (time_place most s)
  time_place_lem s = place_of_language time_bytes (time_fits most) time_is s (time_place most s) (bytes_right s)

pub time_within : (most : ℕ) (w : Word) → time_place most w ≤ length w
time_within most w = (time_place_lem most w).within
