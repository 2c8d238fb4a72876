-- The places of fields 7, 8 and 9 are right. Assumes nothing.
use Prim.Native.Nat.{ℕ, suc, ◌≤◌}
use mathlib.Core.Path.{◌≡◌, refl, ap, ◌∙◌, subst}
use mathlib.Core.Bool.{Bool, true, false, ◌&&◌, ◌||◌, not, cond, beq, false≢true, and-true, and-false, or-true}
use mathlib.Core.List.{List, [], ◌∷◌}
use native.Mathlib.Omega.{arith}
use lib.Dec.{leb, eqb, leb-suc-suc}
use lib.ListN.{length, take, get_or}
use borrow.Author.Tests.{ne_eqb, leb-true, leb-false, lt-leb}
use Rattle.alphabet.specs.Text.{bytes}
use Rattle.alphabet.specs.Alphabet.{letter, digit, sign}
use Rattle.text.specs.Words.{all, null, free, up_to, holds, before, behind, leading}
use Rattle.text.proofs.Tests.{both, all-free}
use Rattle.shape.specs.Shape.{fits, letters}
use Rattle.places.specs.Place.{IsPlace}
use Rattle.places.specs.Parts.{between, first_fits, first_place, no_more, run_fits, run_place, along, then_fits, then_place}
use Rattle.places.proofs.Larger.{larger_first}
use Rattle.places.proofs.Place.{place_of_language, either_place}
use Rattle.places.proofs.Parts.{stops, then_place_lem}
use Rattle.places.proofs.Leaves.{nil_place, nil_if_place, maybe_place, first_place_lem, run_place_lem, along_place, front_all}
use Rattle.places.proofs.Cuts.{cut_place_lem, may_place}
use Rattle.head.specs.Runs.{lead}
use Rattle.head.specs.Field7.{identification_fits, fits7}
use Rattle.head.specs.Field8.{rules_fit, flight_fits, fits8}
use Rattle.head.specs.Field9.{type_fits, wake_fits, is_wake, count_fits, aircraft_fits, fits9}
use Rattle.head_places.specs.Places.{place7, place8, count_place, type_place, wake_place, aircraft_place, place9}

-- FIELD 7

run_free : (least most : ℕ) (w : List ℕ) → run_fits least most sign w ≡ true → free 47 w ≡ true
run_free least most w e =
    all-free sign 47 refl w (both (leb (length w) most) (all sign w) (both (leb least (length w)) (leb (length w) most && all sign w) e).1).1

pub placed7 : (s : List ℕ) → IsPlace fits7 s (place7 s)
unfolding fits7 place7 letters
placed7 =
    may_place 47 identification_fits (fits (bytes "Aoooo")) (run_place 7 sign) (along (bytes "Aoooo"))
    (run_place_lem 2 7 sign (omega arith) 65 refl) (along_place (bytes "Aoooo") (bytes "A0000") refl) (run_free 2 7) (bytes "A0000") refl

-- FIELD 8

two_bytes : List ℕ → Bool
two_bytes s = first_fits rules_fit (λ a w. null w || first_fits flight_fits (λ b. null) w) s

eight : (s : List ℕ) → two_bytes s ≡ fits8 s
unfolding fits8 two_bytes
eight [] = refl
eight (a ∷ []) = and-true (rules_fit a)
eight (a ∷ (b ∷ [])) = ap (λ (x : Bool). rules_fit a && x) (and-true (flight_fits b))
eight (a ∷ (b ∷ (c ∷ s))) = ap (λ (x : Bool). rules_fit a && x) (and-false (flight_fits b)) ∙ and-false (rules_fit a)

pub placed8 : (s : List ℕ) → IsPlace fits8 s (place8 s)
unfolding place8 two_bytes
placed8 s =
    place_of_language two_bytes fits8 eight s (first_place rules_fit (λ a. first_place flight_fits (λ b. no_more)) s)
    (first_place_lem rules_fit (λ a w. null w || first_fits flight_fits (λ b. null) w) (λ a. first_place flight_fits (λ b. no_more))
    (λ a e w. maybe_place (first_fits flight_fits (λ b. null)) w (first_place flight_fits (λ b. no_more) w)
    (first_place_lem flight_fits (λ b. null) (λ b. no_more) (λ b e. nil_place) (λ b e. ([], refl)) w))
    (λ a e. ([], refl)) s)

-- FIELD 9

-- the wake
wake : (w : List ℕ) → first_fits wake_fits (λ a. null) w ≡ is_wake w
wake [] = refl
wake (b ∷ []) = and-true (wake_fits b)
wake (b ∷ (c ∷ w)) = rw (ne_eqb (suc (suc (length w))) 1 (omega arith)) (and-false (wake_fits b))

wake_right : (s : List ℕ) → IsPlace is_wake s (wake_place s)
wake_right s =
    place_of_language (first_fits wake_fits (λ a. null)) is_wake wake s (wake_place s)
    (first_place_lem wake_fits (λ a. null) (λ a. no_more) (λ a e. nil_place) (λ a e. ([], refl)) s)

-- the type
type : (w : List ℕ) → first_fits letter (λ a. run_fits 1 3 sign) w ≡ type_fits w
type [] = refl
type (b ∷ w) = rw (leb-suc-suc 1 (length w), leb-suc-suc (length w) 3) (go (letter b) (leb 1 (length w)) (leb (length w) 3) (all sign w) refl)
  where
    go : (x y z u : Bool) → letter b ≡ x → (x && (y && (z && u))) ≡ (y && (z && (x && ((x || digit b) && u))))
    go true true z u e = refl
    go true false z u e = refl
    go false true true u e = refl
    go false true false u e = refl
    go false false z u e = refl

type_right : (s : List ℕ) → IsPlace type_fits s (type_place s)
type_right s =
    place_of_language (first_fits letter (λ a. run_fits 1 3 sign)) type_fits type s (type_place s)
    (first_place_lem letter (λ a. run_fits 1 3 sign) (λ a. run_place 3 sign) (λ a e. run_place_lem 1 3 sign (omega arith) 65 refl) (λ a e. (65 ∷ [], refl)) s)

type_free : (w : List ℕ) → type_fits w ≡ true → free 47 w ≡ true
type_free w e =
    let a = both (leb 2 (length w)) (leb (length w) 4 && (letter (get_or w 0 0) && all sign w)) e in
    let b = both (leb (length w) 4) (letter (get_or w 0 0) && all sign w) a.1 in
    all-free sign 47 refl w (both (letter (get_or w 0 0)) (all sign w) b.1).1

aircraft_right : (s : List ℕ) → IsPlace aircraft_fits s (aircraft_place s)
unfolding aircraft_fits aircraft_place
aircraft_right = cut_place_lem 47 type_fits is_wake type_place wake_place type_right wake_right type_free (72 ∷ []) refl

-- how many: digits, and none or 2 to 99
abbrev few : List ℕ → Bool
few w = all digit w && count_fits w

abbrev second : ℕ → List ℕ → Bool
second a w = (leb 50 a && null w) || first_fits digit (λ b. null) w

count : (w : List ℕ) → (null w || first_fits (between 49 57) second w) ≡ few w
unfolding count_fits
count [] = refl
count (a ∷ []) = go (leb 50 a) refl (leb 49 a) refl (leb 48 a) refl (leb a 57)
  where
    go : (x : Bool) → leb 50 a ≡ x → (y : Bool) → leb 49 a ≡ y → (z : Bool) → leb 48 a ≡ z → (u : Bool)
        → ((y && u) && ((x && true) || false)) ≡ (((z && u) && true) && x)
    go true e true f true g true = refl
    go true e true f true g false = refl
    go true e true f false g u = let h = leb-true 50 a e in let k = leb-false 48 a g in absurd (omega arith)
    go true e false f z g u = let h = leb-true 50 a e in let k = leb-false 49 a f in absurd (omega arith)
    go false e true f true g true = refl
    go false e true f true g false = refl
    go false e true f false g true = refl
    go false e true f false g false = refl
    go false e false f true g true = refl
    go false e false f true g false = refl
    go false e false f false g u = refl
count (a ∷ (b ∷ [])) = go (leb 49 a) refl (leb 48 a) refl (leb a 57) (leb 50 a) (digit b)
  where
    go : (y : Bool) → leb 49 a ≡ y → (z : Bool) → leb 48 a ≡ z → (u x d : Bool)
        → ((y && u) && ((x && false) || (d && true))) ≡ (((z && u) && (d && true)) && y)
    go true f true g true true true = refl
    go true f true g true true false = refl
    go true f true g true false true = refl
    go true f true g true false false = refl
    go true f true g false x d = refl
    go true f false g u x d = let h = leb-true 49 a f in let k = leb-false 48 a g in absurd (omega arith)
    go false f true g true x true = refl
    go false f true g true x false = refl
    go false f true g false x d = refl
    go false f false g u x d = refl
count (a ∷ (b ∷ (c ∷ w))) = go (between 49 57 a) (leb 50 a) (digit b) (all digit (a ∷ (b ∷ (c ∷ w))))
  where
    go : (y x d z : Bool) → (y && ((x && false) || (d && false))) ≡ (z && false)
    go true true true true = refl
    go true true true false = refl
    go true true false true = refl
    go true true false false = refl
    go true false true true = refl
    go true false true false = refl
    go true false false true = refl
    go true false false false = refl
    go false x d true = refl
    go false x d false = refl

count_right : (s : List ℕ) → IsPlace few s (count_place s)
count_right s =
    place_of_language (λ w. null w || first_fits (between 49 57) second w) few count s (count_place s)
    (maybe_place (first_fits (between 49 57) second) s (count_place s)
    (first_place_lem (between 49 57) second (λ a. first_place digit (λ b. no_more)) more (λ a e. (48 ∷ [], or-true (leb 50 a && false))) s))
  where
    more : (a : ℕ) → between 49 57 a ≡ true → (w : List ℕ) → IsPlace (second a) w (first_place digit (λ b. no_more) w)
    more a e w =
        let n = first_place digit (λ b. no_more) w in
        subst (IsPlace (second a) w) (larger_first n)
        (either_place (λ v. leb 50 a && null v) (first_fits digit (λ b. null)) w 0 n (nil_if_place (leb 50 a) w)
        (first_place_lem digit (λ b. null) (λ b. no_more) (λ b e. nil_place) (λ b e. ([], refl)) w))

-- what stands behind the digits begins with none
begins : (w : List ℕ) → aircraft_fits w ≡ true → stops digit w ≡ true
unfolding aircraft_fits
begins [] e = refl
begins (b ∷ w) e =
    let h = both (holds 47 (b ∷ w)) (type_fits (before 47 (b ∷ w)) && is_wake (behind 47 (b ∷ w))) e in
    let t = (both (type_fits (before 47 (b ∷ w))) (is_wake (behind 47 (b ∷ w))) h.1).0 in
    go (eqb b 47) refl t
  where
    go : (x : Bool) → eqb b 47 ≡ x → type_fits (take (cond x 0 (suc (up_to 47 w))) (b ∷ w)) ≡ true → not (digit b) ≡ true
    go true e t = absurd (false≢true t)
    go false e t =
        let v = b ∷ take (up_to 47 w) w in
        let x = both (leb 2 (length v)) (leb (length v) 4 && (letter b && all sign v)) t in
        let y = both (leb (length v) 4) (letter b && all sign v) x.1 in
        let z = (both (letter b) (all sign v) y.1).0 in
        let l : 65 ≤ b = leb-true 65 b (both (leb 65 b) (leb b 90) z).0 in
        rw (lt-leb b 57 (omega arith), and-false (leb 48 b))

one : aircraft_fits (bytes "AA/H") ≡ true
unfolding aircraft_fits
one = refl

-- places within a content

pub code_within : (w : List ℕ) → along (bytes "Aoooo") w ≤ length w
unfolding letters
code_within w = (along_place (bytes "Aoooo") (bytes "A0000") refl w).within

pub run_within : (w : List ℕ) → run_place 3 sign w ≤ length w
run_within w = (run_place_lem 1 3 sign (omega arith) 65 refl w).within

pub wake_within : (w : List ℕ) → wake_place w ≤ length w
wake_within w = (wake_right w).within

pub aircraft_within : (w : List ℕ) → aircraft_place w ≤ length w
aircraft_within w = (aircraft_right w).within

pub digits_front : (s : List ℕ) → lead true s ≡ leading digit s
digits_front [] = refl
digits_front (b ∷ s) = go (digit b) (digits_front s)
  where
    go : (x : Bool) → lead true s ≡ leading digit s → cond (beq x true) (suc (lead true s)) 0 ≡ cond x (suc (leading digit s)) 0
    go true e = ap suc e
    go false e = refl

nine : (s : List ℕ) → then_fits digit few aircraft_fits s ≡ fits9 s
unfolding fits9
nine s = rw (digits_front s, front_all digit s (leading digit s) (omega arith))

pub placed9 : (s : List ℕ) → IsPlace fits9 s (place9 s)
unfolding place9
placed9 s =
    place_of_language (then_fits digit few aircraft_fits) fits9 nine s (place9 s)
    (subst (IsPlace (then_fits digit few aircraft_fits) s) same
    (then_place_lem digit few aircraft_fits count_place aircraft_place count_right aircraft_right (λ w e. (both (all digit w) (count_fits w) e).0) begins
    (bytes "AA/H") one s))
  where
    same : then_place digit few count_place aircraft_place s ≡ then_place digit count_fits count_place aircraft_place s
    same = rw (front_all digit s (leading digit s) (omega arith))
