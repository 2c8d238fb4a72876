-- When two records of field 19 say the same (document 01, "19."): the same items; of a count its number counts, of a letter set its letters, of all else
-- what was sent. The canonical record is not named here. Assumes nothing.
use Rattle.std.specs.Prelude.{ℕ, ◌≡◌, refl, Bool, true, List, [], ◌∷◌}
use Rattle.std.proofs.Common.{ap, arith}
use Rattle.std.proofs.Math.Option.{none, some}
use Rattle.alphabet.specs.Text.{bytes}
use Rattle.alphabet.specs.Alphabet.{one_of}
use Rattle.text.specs.Words.{Word, all}
use Rattle.shape.specs.declared.Elapsed.{Elapsed}
use Rattle.supplement.specs.Field19.{Count, Part, endurance, persons, radio, survival, jackets, dinghies, aircraft, remarks, pilot, Field19}
use Rattle.supplement.specs.Field19.{keyed, valid19, record19}

-- each letter of one is one of the other
abbrev pub SameLetters : Word → Word → Type 0
SameLetters v w = (all (λ b. one_of b w) v ≡ true) × (all (λ b. one_of b v) w ≡ true)

abbrev pub SameCount : Count → Count → Type 0
SameCount c d = c.number ≡ d.number

pub data SamePart : Part → Part → Type 0 where
  same_endurance : {t u : Elapsed} → t ≡ u → SamePart (endurance t) (endurance u)
  same_persons : {c d : Count} → SameCount c d → SamePart (persons c) (persons d)
  same_radio : {v w : Word} → SameLetters v w → SamePart (radio v) (radio w)
  same_survival : {v w : Word} → SameLetters v w → SamePart (survival v) (survival w)
  -- life jackets, without radio and with it
  same_lights : {v w : Word} → SameLetters v w → SamePart (jackets v none) (jackets w none)
  same_jackets : {v w x y : Word} → SameLetters v w → SameLetters x y → SamePart (jackets v (some x)) (jackets w (some y))
  -- dinghies, without number and capacity and with them
  same_colours : {c d : Bool} {vs ws : List Word} → c ≡ d → vs ≡ ws → SamePart (dinghies none c vs) (dinghies none d ws)
  same_dinghies : {p q : Count × Count} {c d : Bool} {vs ws : List Word} → SameCount p.0 q.0 → SameCount p.1 q.1 → c ≡ d → vs ≡ ws
      → SamePart (dinghies (some p) c vs) (dinghies (some q) d ws)
  same_aircraft : {vs ws : List Word} → vs ≡ ws → SamePart (aircraft vs) (aircraft ws)
  same_remarks : {vs ws : List Word} → vs ≡ ws → SamePart (remarks vs) (remarks ws)
  same_pilot : {vs ws : List Word} → vs ≡ ws → SamePart (pilot vs) (pilot ws)

pub data Same19 : Field19 → Field19 → Type 0 where
  same_none : Same19 [] []
  same_more : {p q : Part} {ps qs : Field19} → SamePart p q → Same19 ps qs → Same19 (p ∷ ps) (q ∷ qs)

-- WHAT A CANONICAL RECORD KEEPS: valid records have one canonical record exactly where they say the same
pub record Keeps (canonical : Field19 → Field19) : Type 0 where
  pub apart : (r q : Field19) → valid19 r ≡ true → valid19 q ≡ true → canonical r ≡ canonical q → Same19 r q
  pub together : (r q : Field19) → valid19 r ≡ true → valid19 q ≡ true → Same19 r q → canonical r ≡ canonical q

-- EXAMPLES, computed

-- two contents that fit say the same
abbrev Alike : List ℕ → List ℕ → Type 0
Alike s t = Same19 (record19 s) (record19 t)

alike_counts : Alike (bytes "P/006") (bytes "P/6") × Alike (bytes "D/02 014 C ORANGE") (bytes "D/2 14 C ORANGE") × Alike (bytes "P/000") (bytes "P/0")
unfolding record19 keyed
alike_counts =
    (same_more (same_persons refl) same_none, same_more (same_dinghies refl refl refl refl) same_none, same_more (same_persons refl) same_none)

alike_letters : Alike (bytes "R/EVU") (bytes "R/UVE") × Alike (bytes "S/JP") (bytes "S/PJ") × Alike (bytes "J/FL VU C/SMITH") (bytes "J/LF UV C/SMITH")
unfolding record19 keyed
alike_letters = (
  same_more (same_radio (refl, refl)) same_none,
  same_more (same_survival (refl, refl)) same_none,
  same_more (same_jackets (refl, refl) (refl, refl)) (same_more (same_pilot refl) same_none),
)

other_time : Alike (bytes "E/0745") (bytes "E/0746") → ⊥
unfolding record19 keyed
other_time (same_more (same_endurance e) s) = let m = ap (λ (t : Elapsed). t.0) e in omega arith

other_count : Alike (bytes "P/06") (bytes "P/60") → ⊥
unfolding record19 keyed
other_count (same_more (same_persons e) s) = omega arith
