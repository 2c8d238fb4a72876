-- The first byte and the last as sent, from those left after the reduction. Assumes nothing.
use Prim.Native.Nat.{ℕ, suc, ◌-◌, ◌<◌}
use mathlib.Core.Path.{◌≡◌, refl, sym, ap, ◌∙◌}
use mathlib.Core.Bool.{Bool, true, false, cond, ◌||◌, false≢true}
use mathlib.Core.List.{List, [], ◌∷◌, ◌++◌}
use native.Mathlib.Omega.{arith}
use lib.ListN.{length, get_or}
use Rattle.alphabet.specs.Alphabet.{white}
use Rattle.space.specs.Reduced.{opens, closes, stands_for_run, kept, reduced_from}
use Rattle.space.proofs.Bytes.{space_white}

-- THE FIRST: a byte that is no white space and closes nothing, where it is the first left, was sent first

-- m is b and a rest that is reduced to y
abbrev pub Begins : ℕ → List ℕ → List ℕ → Type 0
Begins b y m = (t : List ℕ) × (m ≡ b ∷ t) × (reduced_from (opens b) t ≡ y)

or_true : (k : Bool) → (k || true) ≡ true
or_true true = refl
or_true false = refl

module _ (b : ℕ) (y : List ℕ) (solid : white b ≡ false) (inside : closes b ≡ false) where
  -- a run just before it counts
  run_counts : (a : Bool) (m : List ℕ) → Begins b y m → stands_for_run a m ≡ true
  unfolding stands_for_run
  run_counts a m h = ap (stands_for_run a) h.1 ∙ rw (solid, inside) (or_true a)

  first_step : (a : Bool) (c : ℕ) (m : List ℕ) (w s : Bool) → white c ≡ w → stands_for_run a m ≡ s → (reduced_from a m ≡ b ∷ y → Begins b y m)
      → kept w s c (reduced_from (cond w a (opens c)) m) ≡ b ∷ y → Begins b y (c ∷ m)
  first_step a c m true true ew es ih e =
      let i : b ≡ 32 = cc in
      absurd (false≢true (sym solid ∙ ap white i ∙ space_white))
  first_step a c m true false ew es ih e = absurd (false≢true (sym es ∙ run_counts a m (ih e)))
  first_step a c m false s ew es ih e =
      let i : c ≡ b = cc in
      (m, cc, cc)

  pub first_sent : (a : Bool) (m : List ℕ) → reduced_from a m ≡ b ∷ y → Begins b y m
  unfolding reduced_from
  first_sent a [] e = let z : ◌≡◌ {A = ℕ} 0 1 = cc in absurd (omega arith)
  first_sent a (c ∷ m) e = first_step a c m (white c) (stands_for_run a m) refl refl (first_sent a m) e

-- `(` closes nothing
pub opening_inside : closes 40 ≡ false
unfolding closes
opening_inside = refl

-- THE LAST: the last byte left is the last sent, white space as a space

-- the last byte, d where there is none
abbrev last_of : ℕ → List ℕ → ℕ
last_of d [] = d
last_of d (b ∷ m) = last_of b m

abbrev blank : ℕ → ℕ
blank b = cond (white b) 32 b

-- a run at the end counts
end_counts : (a : Bool) → stands_for_run a [] ≡ true
unfolding stands_for_run
end_counts a = refl

last_step : (a : Bool) (d c : ℕ) (m : List ℕ) (w s : Bool) → white c ≡ w → stands_for_run a m ≡ s
    → ((a : Bool) (d : ℕ) → last_of (blank d) (reduced_from a m) ≡ blank (last_of d m))
    → last_of (blank d) (kept w s c (reduced_from (cond w a (opens c)) m)) ≡ blank (last_of c m)
last_step a d c m true true ew es ih = rw ew at (ih a c)
last_step a d c m true false ew es ih = ih a d ∙ ap blank (go m es)
  where
    go : (m : List ℕ) → stands_for_run a m ≡ false → last_of d m ≡ last_of c m
    go [] e = absurd (false≢true (sym e ∙ end_counts a))
    go (b ∷ m) e = refl
last_step a d c m false s ew es ih = rw ew at (ih (opens c) c)

last_from : (a : Bool) (d : ℕ) (m : List ℕ) → last_of (blank d) (reduced_from a m) ≡ blank (last_of d m)
unfolding reduced_from
last_from a d [] = refl
last_from a d (c ∷ m) = last_step a d c m (white c) (stands_for_run a m) refl refl (λ a d. last_from a d m)

last_byte : (d : ℕ) (x : List ℕ) (b : ℕ) → last_of d (x ++ (b ∷ [])) ≡ b
last_byte d [] b = refl
last_byte d (c ∷ x) b = last_byte c x b

last_place : (d : ℕ) (m : List ℕ) → 0 < length m → get_or m (length m - 1) 0 ≡ last_of d m
last_place d [] h = absurd (omega arith)
last_place d (b ∷ []) h = refl
last_place d (b ∷ (c ∷ m)) h =
    let i : suc (suc (length m)) - 1 ≡ suc (suc (length m) - 1) = omega arith in
    rw i (last_place b (c ∷ m) (omega arith))

unblank : (b c : ℕ) → white c ≡ false → blank b ≡ c → b ≡ c
unblank b c solid e = go (white b) e
  where
    go : (w : Bool) → cond w 32 b ≡ c → b ≡ c
    go true e = absurd (false≢true (sym solid ∙ ap white (sym e) ∙ space_white))
    go false e = e

-- so a byte that is no white space, where it is the last left, was sent last
pub last_sent : (a : Bool) (m x : List ℕ) (b : ℕ) → white b ≡ false → 0 < length m → reduced_from a m ≡ x ++ (b ∷ []) → get_or m (length m - 1) 0 ≡ b
last_sent a m x b solid h e =
    last_place b m h ∙ unblank (last_of b m) b solid (sym (last_from a b m) ∙ ap (last_of (blank b)) e ∙ last_byte (blank b) x b)
