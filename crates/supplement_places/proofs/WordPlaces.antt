-- The place in a word of field 19 is right, by what was read before it. Assumes nothing.
use Prim.Native.Nat.{ℕ, suc, ◌≤◌}
use mathlib.Core.Path.{◌≡◌, refl, sym, ap, ◌∙◌, subst}
use mathlib.Core.Bool.{Bool, true, false, ◌&&◌, ◌||◌, not, cond, true≢false}
use mathlib.Core.List.{List, [], ◌∷◌, ◌++◌, append-nil}
use native.Mathlib.Omega.{arith}
use lib.Dec.{leb, ltb, eqb}
use lib.ListN.{length}
use borrow.Author.Tests.{le-leb, le-ltb, eqb-true, not-true}
use Rattle.alphabet.specs.Text.{bytes}
use Rattle.alphabet.specs.Alphabet.{letter, digit, text, in_alphabet, white, one_of}
use Rattle.text.specs.Words.{Word, same, text_word, leading}
use Rattle.text.proofs.Tests.{both, and_both}
use Rattle.shape.specs.Time.{time_fits, elapsed_fits, elapsed_hours}
use Rattle.places.specs.Place.{IsPlace}
use Rattle.places.specs.Parts.{larger, first_fits, first_place, run_place}
use Rattle.places.proofs.Place.{place_of_language, no_place, either_place}
use Rattle.places.proofs.Leaves.{first_place_lem, run_place_lem, passes_place}
use Rattle.places.proofs.Fixed.{time_place_lem}
use Rattle.places.proofs.Larger.{larger_first, larger_second}
use Rattle.places.proofs.Texts.{many_place, text_place}
use Rattle.entries.specs.Entries.{matched}
use Rattle.entries.proofs.Entries.{label_place_lem, same_swap}
use Rattle.supplement.specs.Field19.{Key, E, P, R, S, J, D, A, N, C, Other, by_letter, place, count, letters_fit, some_of, colour, cover}
use Rattle.supplement.specs.Field19.{radio_letters, survival_letters, light_letters, jacket_radio_letters}
use Rattle.supplement.specs.declared.Stage.{Stage}
use Rattle.supplement.specs.declared.Stage.TheVariants.{Start, Endurance, Persons, Radio, Survival, Lights, JacketRadio, Number, Capacity, Colours}
use Rattle.supplement.specs.declared.Stage.TheVariants.{Aircraft, Remarks, Pilot, Refused}
use Rattle.supplement.specs.Walk.{past, shaded, first, further}
use Rattle.supplement_places.specs.Places.{letters_place, first_word_place, further_place, comes, oblique, item_place, stands}

-- A COLOUR

colour_right : (s : List ℕ) → IsPlace colour s (leading letter s)
colour_right = many_place 2 letter 65 refl

-- LETTERS OF A SET, none twice

one_front : (b : ℕ) (p t : List ℕ) → one_of b (p ++ t) ≡ false → one_of b p ≡ false
one_front b [] t h = refl
one_front b (x ∷ p) t h = go (eqb b x) (one_front b p t) h
  where
    go : (c : Bool) → (one_of b (p ++ t) ≡ false → one_of b p ≡ false) → cond c true (one_of b (p ++ t)) ≡ false → cond c true (one_of b p) ≡ false
    go true ih q = absurd (true≢false q)
    go false ih q = ih q

letters_front : (set p t : List ℕ) → letters_fit set (p ++ t) ≡ true → letters_fit set p ≡ true
letters_front set [] t h = refl
letters_front set (b ∷ p) t h =
    let g = both (one_of b set) (not (one_of b (p ++ t)) && letters_fit set (p ++ t)) h in
    let f = both (not (one_of b (p ++ t))) (letters_fit set (p ++ t)) g.1 in
    rw (g.0, one_front b p t (not-true (one_of b (p ++ t)) f.0)) (letters_front set p t f.1)

letters_done : (set : List ℕ) (x : ℕ) → some_of set (x ∷ []) ≡ true → (p : List ℕ) → letters_fit set p ≡ true
    → (t : List ℕ) × (some_of set (p ++ t) ≡ true)
letters_done set x e [] h = (x ∷ [], e)
letters_done set x e (b ∷ p) h = (
  [],
  ap (some_of set) (append-nil (b ∷ p)) ∙ and_both (leb 1 (length (b ∷ p))) (letters_fit set (b ∷ p)) (le-leb 1 (length (b ∷ p)) (omega arith)) h,
)

letters_right : (set : List ℕ) (x : ℕ) → some_of set (x ∷ []) ≡ true → (s : List ℕ) → IsPlace (some_of set) s (letters_place set s)
letters_right set x e s =
    passes_place (some_of set) (letters_fit set)
    (record { kept = λ p t h. letters_front set p t (both (leb 1 (length (p ++ t))) (letters_fit set (p ++ t)) h).1; completed = letters_done set x e })
    s []

-- THE COVER, or a colour

cover_within : (s : List ℕ) → larger (matched cover s) (leading letter s) ≡ leading letter s
cover_within [] = refl
cover_within (b ∷ s) = go (eqb 67 b) refl
  where
    go : (x : Bool) → eqb 67 b ≡ x → larger (cond x 1 0) (leading letter (b ∷ s)) ≡ leading letter (b ∷ s)
    go true q =
        subst (λ (c : ℕ). larger 1 (leading letter (c ∷ s)) ≡ leading letter (c ∷ s)) (eqb-true 67 b q)
        (larger_second 1 (suc (leading letter s)) (omega arith))
    go false q = larger_first (leading letter (b ∷ s))

pub shaded_is : (w : Word) → (same cover w || colour w) ≡ stands (shaded w)
shaded_is w = rw (same_swap cover w) (go (same w cover) (colour w))
  where
    go : (x y : Bool) → (x || y) ≡ stands (cond x Colours (cond y Colours Refused))
    go true y = refl
    go false true = refl
    go false false = refl

shade_right : (s : List ℕ) → IsPlace (λ w. stands (shaded w)) s (leading letter s)
shade_right s =
    subst (IsPlace (λ w. stands (shaded w)) s) (cover_within s)
    (place_of_language (λ w. same cover w || colour w) (λ w. stands (shaded w)) shaded_is s (larger (matched cover s) (leading letter s))
    (either_place (same cover) colour s (matched cover s) (leading letter s) (label_place_lem cover s) (colour_right s)))

-- THE FIRST WORD OF AN ITEM

-- a test that decides for a stage
pub stands_taken : (stage : Stage) → stands stage ≡ true → (b : Bool) → stands (cond b stage Refused) ≡ b
stands_taken stage h true = h
stands_taken stage h false = refl

taken_right : (stage : Stage) → stands stage ≡ true → (p : Word → Bool) (s : List ℕ) (n : ℕ) → IsPlace p s n
    → IsPlace (λ w. stands (cond (p w) stage Refused)) s n
taken_right stage h p s n = place_of_language p (λ w. stands (cond (p w) stage Refused)) (λ w. sym (stands_taken stage h (p w))) s n

count_right : (most : ℕ) → 1 ≤ most → (s : List ℕ) → IsPlace (count most) s (run_place most digit s)
count_right most h = run_place_lem 1 most digit h 48 refl

dinghies_right : (s : List ℕ) → IsPlace (λ w. stands (first D w)) s (first_word_place D s)
dinghies_right s =
    place_of_language (λ w. count 2 w || stands (shaded w)) (λ w. stands (first D w)) (λ w. go w (count 2 w)) s (first_word_place D s)
    (either_place (count 2) (λ w. stands (shaded w)) s (run_place 2 digit s) (leading letter s) (count_right 2 (omega arith) s) (shade_right s))
  where
    go : (w : Word) (x : Bool) → (x || stands (shaded w)) ≡ stands (cond x Number (shaded w))
    go w true = refl
    go w false = refl

pub key_right : (k : Key) (s : List ℕ) → IsPlace (λ w. stands (first k w)) s (first_word_place k s)
key_right E s = taken_right Endurance refl elapsed_fits s (first_word_place E s) (time_place_lem elapsed_hours s)
key_right P s = taken_right Persons refl (count 3) s (first_word_place P s) (count_right 3 (omega arith) s)
key_right R s = taken_right Radio refl (some_of radio_letters) s (first_word_place R s) (letters_right radio_letters 85 refl s)
key_right S s = taken_right Survival refl (some_of survival_letters) s (first_word_place S s) (letters_right survival_letters 80 refl s)
key_right J s = taken_right Lights refl (some_of light_letters) s (first_word_place J s) (letters_right light_letters 76 refl s)
key_right D s = dinghies_right s
key_right A s = taken_right Aircraft refl text_word s (leading text s) (text_place s)
key_right N s = taken_right Remarks refl text_word s (leading text s) (text_place s)
key_right C s = taken_right Pilot refl text_word s (leading text s) (text_place s)
key_right Other s = no_place s

-- and a word of each
key_one : (least : ℕ) (k : Key) → ltb least (place k) ≡ true → (w : Word) × (stands (first k w) ≡ true)
unfolding time_fits text in_alphabet white
key_one least E h = (bytes "0000", refl)
key_one least P h = (bytes "0", refl)
key_one least R h = (bytes "U", refl)
key_one least S h = (bytes "P", refl)
key_one least J h = (bytes "L", refl)
key_one least D h = (bytes "C", refl)
key_one least A h = (bytes "A", refl)
key_one least N h = (bytes "A", refl)
key_one least C h = (bytes "A", refl)
key_one least Other h = absurd (true≢false (sym h ∙ le-ltb least 0 (omega arith)))

-- A FURTHER WORD

pub further_right : (stage : Stage) (s : List ℕ) → IsPlace (λ w. stands (further stage w)) s (further_place stage s)
further_right Start s = no_place s
further_right Endurance s = no_place s
further_right Persons s = no_place s
further_right Radio s = no_place s
further_right Survival s = no_place s
further_right Lights s = taken_right JacketRadio refl (some_of jacket_radio_letters) s (further_place Lights s) (letters_right jacket_radio_letters 85 refl s)
further_right JacketRadio s = no_place s
further_right Number s = taken_right Capacity refl (count 3) s (further_place Number s) (count_right 3 (omega arith) s)
further_right Capacity s = shade_right s
further_right Colours s = taken_right Colours refl colour s (leading letter s) (colour_right s)
further_right Aircraft s = taken_right Aircraft refl text_word s (leading text s) (text_place s)
further_right Remarks s = taken_right Remarks refl text_word s (leading text s) (text_place s)
further_right Pilot s = taken_right Pilot refl text_word s (leading text s) (text_place s)
further_right Refused s = no_place s

-- A WORD THAT BEGINS AN ITEM

abbrev pub begins : Stage → Word → Bool
begins stage w = first_fits (comes stage) (λ b. first_fits oblique (λ o v. stands (first (by_letter b) v))) w

pub begins_right : (stage : Stage) (s : List ℕ) → IsPlace (begins stage) s (item_place stage s)
begins_right stage =
    first_place_lem (comes stage) (λ b. first_fits oblique (λ o v. stands (first (by_letter b) v)))
    (λ b. first_place oblique (λ o. first_word_place (by_letter b)))
    (λ b h. first_place_lem oblique (λ o v. stands (first (by_letter b) v)) (λ o. first_word_place (by_letter b)) (λ o q. key_right (by_letter b))
    (λ o q. key_one (past stage) (by_letter b) h))
    (λ b h. let t = key_one (past stage) (by_letter b) h in (47 ∷ t.0, t.1))
