-- What is asked of a content that fits is what its record holds. Assumes nothing.
use Prim.Native.Nat.{ℕ, ◌+◌, ◌≤◌}
use mathlib.Core.Path.{◌≡◌, refl, sym, ap, ◌∙◌}
use mathlib.Core.Bool.{true}
use mathlib.Core.List.{List, [], ◌∷◌, ◌++◌}
use native.Mathlib.Omega.{arith}
use lib.ListN.{length, take, drop, length-take, length-drop, take-append-drop}
use lib.Seq.{take_all, take_at, take-append-le, drop-append-le}
use Rattle.std.specs.Prelude.{Some}
use Rattle.alphabet.specs.Alphabet.{letter}
use Rattle.text.specs.Words.{Word, all, elem, split, up_to}
use Rattle.shape.specs.Time.{clock_hours, elapsed_hours, time_fits, clock_fits, clock_of, clock_read, elapsed_read}
use Rattle.shape.proofs.Times.{time_length}
use Rattle.aerodromes.specs.Aerodromes.{four_letters, aerodrome_of, joined_of, joined, first}
use Rattle.aerodromes.specs.Field13.{fits13, record13, fits13open, record13open, clock_or_none, clock_if_any}
use Rattle.aerodromes.specs.Field16.{fits16, record16, fits16plan, record16plan}
use Rattle.aerodromes.specs.Field17.{fits17, record17}
use Rattle.aerodromes.specs.declared.Aerodrome.{Aerodrome}
use Rattle.aerodromes.specs.Asked.{clock_at, elapsed_at, has_alternate, aerodrome_in, four_bytes, is_letters}
use Rattle.aerodromes.proofs.Aerodromes.{four_length, four_letters_lem, joined_four, joined_time, joined_length}
use Rattle.aerodromes.proofs.Index.{first_at, clock_short}
use Rattle.aerodromes.proofs.Field13.{open_parts}
use Rattle.aerodromes.proofs.Field16.{plan_parts}
use Rattle.aerodromes.proofs.Field17.{landed_parts}

-- THE FIRST FOUR BYTES

-- what is asked of a content whose record's aerodrome, or destination, is a
pub record Named (s : List ℕ) (a : Word) : Type 0 where
  -- its first four bytes are a
  pub in_front_lem : aerodrome_of s ≡ a
  -- and so are those of the aerodrome that is made of it, which are letters
  pub four : four_bytes (aerodrome_in s) ≡ a
  pub lettered : is_letters (aerodrome_in s) ≡ true

pub four_bytes_lem : (s : List ℕ) → 4 ≤ length s → four_bytes (aerodrome_in s) ≡ aerodrome_of s
four_bytes_lem [] h = absurd (omega arith)
four_bytes_lem (b ∷ []) h = absurd (omega arith)
four_bytes_lem (b ∷ (c ∷ [])) h = absurd (omega arith)
four_bytes_lem (b ∷ (c ∷ (d ∷ []))) h = absurd (omega arith)
four_bytes_lem (b ∷ (c ∷ (d ∷ (e ∷ s)))) h = refl

-- four bytes are letters exactly where they may stand as an aerodrome
pub letters_four : (a : Aerodrome) → is_letters a ≡ four_letters (four_bytes a)
unfolding four_letters
letters_four a = refl

named : (s : List ℕ) (a : Word) → aerodrome_of s ≡ a → four_letters a ≡ true → Named s a
named s a p e =
    let n : length (take 4 s) ≡ 4 = ap length p ∙ four_length a e in
    let b : four_bytes (aerodrome_in s) ≡ a = four_bytes_lem s (omega (arith, length-take 4 s)) ∙ p in
    record { in_front_lem = p; four = b; lettered = ap (all letter) b ∙ four_letters_lem a e }

-- A FIRST WORD THAT IS AN AERODROME AND A TIME stands at the front of the content

whole : (s : List ℕ) → first (split 32 s) ++ drop (0 + up_to 32 s) s ≡ s
whole s = ap (λ (w : Word). w ++ drop (0 + up_to 32 s) s) (first_at s (0 + up_to 32 s) refl) ∙ take-append-drop (0 + up_to 32 s) s

module _ (most : ℕ) (s : List ℕ) (e : joined most (first (split 32 s)) ≡ true) where
  long : 4 ≤ length (first (split 32 s))
  long = omega (arith, joined_length most (first (split 32 s)) e)

  time_there : time_fits most (joined_of (first (split 32 s))) ≡ true
  time_there = joined_time most (first (split 32 s)) e

  front_aerodrome : aerodrome_of s ≡ aerodrome_of (first (split 32 s))
  front_aerodrome = sym (ap aerodrome_of (whole s)) ∙ take-append-le 4 (first (split 32 s)) (drop (0 + up_to 32 s) s) long

  front_joined : take 4 (joined_of s) ≡ joined_of (first (split 32 s))
  front_joined =
      sym (ap (λ (t : List ℕ). take 4 (drop 4 t)) (whole s))
      ∙ ap (take 4) (drop-append-le 4 (first (split 32 s)) (drop (0 + up_to 32 s) s) long)
      ∙ take_at (joined_of (first (split 32 s))) (drop (0 + up_to 32 s) s) 4 (time_length most (joined_of (first (split 32 s))) time_there)

-- THE AERODROME of each form

pub named13 : (s : List ℕ) → fits13 s ≡ true → Named s (record13 s).aerodrome
named13 s e = named s (aerodrome_of s) refl (joined_four clock_hours s e)

pub named13open : (s : List ℕ) → fits13open s ≡ true → Named s (record13open s).aerodrome
named13open s e = named s (aerodrome_of s) refl (open_parts s e).0

pub named16 : (s : List ℕ) → fits16 s ≡ true → Named s (record16 s).destination
named16 s e = named s s (take_all 4 s (omega (arith, four_length s e))) e

pub named16plan : (s : List ℕ) → fits16plan s ≡ true → Named s (record16plan s).destination
named16plan s e =
    let t = (plan_parts s e).0 in
    named s (aerodrome_of (first (split 32 s))) (front_aerodrome elapsed_hours s t) (joined_four elapsed_hours (first (split 32 s)) t)

pub named17 : (s : List ℕ) → fits17 s ≡ true → Named s (record17 s).aerodrome
named17 s e =
    let t = (landed_parts s e).0 in
    named s (aerodrome_of (first (split 32 s))) (front_aerodrome clock_hours s t) (joined_four clock_hours (first (split 32 s)) t)

-- THE TIME OF DAY

clock_is : (s : List ℕ) (w : Word) → take 4 (joined_of s) ≡ w → clock_fits w ≡ true → clock_at s ≡ Some (clock_of w)
clock_is s w p e = ap clock_read p ∙ rw e

clock_whole : (s : List ℕ) → clock_fits (joined_of s) ≡ true → clock_at s ≡ Some (clock_of (joined_of s))
clock_whole s e = clock_is s (joined_of s) (take_all 4 (joined_of s) (omega (arith, time_length clock_hours (joined_of s) e))) e

pub clock13 : (s : List ℕ) → fits13 s ≡ true → clock_at s ≡ Some (record13 s).time
clock13 s e = clock_whole s (joined_time clock_hours s e)

pub clock13open : (s : List ℕ) → fits13open s ≡ true → clock_at s ≡ (record13open s).time
clock13open s e = go (joined_of s) refl (open_parts s e).1
  where
    go : (w : Word) → joined_of s ≡ w → clock_or_none w ≡ true → clock_at s ≡ clock_if_any w
    go [] q h = clock_short s (omega (arith, sym (length-drop 4 s) ∙ ap length q))
    go (b ∷ w) q h =
        clock_is s (b ∷ w) (ap (take 4) q ∙ take_all 4 (b ∷ w) (omega (arith, time_length clock_hours (b ∷ w) h))) h

pub clock17 : (s : List ℕ) → fits17 s ≡ true → clock_at s ≡ Some (record17 s).time
clock17 s e =
    let t = (landed_parts s e).0 in
    clock_is s (joined_of (first (split 32 s))) (front_joined clock_hours s t) (joined_time clock_hours (first (split 32 s)) t)

-- THE ELAPSED TIME

pub elapsed16plan : (s : List ℕ) → fits16plan s ≡ true → elapsed_at s ≡ Some (record16plan s).elapsed
elapsed16plan s e =
    let t = (plan_parts s e).0 in
    ap elapsed_read (front_joined elapsed_hours s t) ∙ rw (time_there elapsed_hours s t)

-- THE ALTERNATES

pub alternate16plan : (s : List ℕ) (name : Word) → fits16plan s ≡ true → has_alternate s name ≡ elem name (record16plan s).alternates
alternate16plan s name e = refl
