-- The place of field 15 is right. Assumes nothing.
use Prim.Native.Nat.{ℕ, ◌+◌, ◌≤◌}
use mathlib.Core.Path.{◌≡◌, refl, sym, ap, ◌∙◌}
use mathlib.Core.Bool.{Bool, true, false, ◌&&◌, ◌||◌, not, cond, false≢true, true≢false, or-false}
use mathlib.Core.List.{List, [], ◌∷◌}
use Rattle.std.specs.Prelude.{None, Some}
use native.Mathlib.Numerals.{add-one}
use lib.Dec.{eqb}
use lib.ListN.{length, drop}
use borrow.Author.Tests.{ltb-true, ltb-false}
use Rattle.alphabet.specs.Text.{bytes}
use Rattle.text.specs.Words.{Word, split, null, free, same, elem, holds, before, behind, up_to, after}
use Rattle.text.proofs.Tests.{same-eq}
use Rattle.text.proofs.Index.{split_cut, after_here, after_end, null-split}
use Rattle.text.proofs.Joined.{holds-free}
use Rattle.text.proofs.Tidy.{word_free}
use Rattle.shape.specs.Shape.{letters, fits, wides, any}
use Rattle.places.specs.Place.{IsPlace}
use Rattle.places.specs.Parts.{larger, along, farthest, cut_place, sampled}
use Rattle.places.specs.Words.{ended, words_fit as fit_words, content_fits}
use Rattle.places.proofs.Place.{place_of_language, no_place, either_place}
use Rattle.places.proofs.Leaves.{along_place, any_place}
use Rattle.places.proofs.Cuts.{cut_place_lem}
use Rattle.places.proofs.Words.{none_fits, words_place_lem}
use Rattle.route.specs.Levels.{speeds, levels, starts, changes, climbs}
use Rattle.route.specs.Points.{indicators, name_fits, point_fits}
use Rattle.route.specs.Field15.{pair_fits, word_fits, element_fits, route_fits, words_fit, fits15}
use Rattle.point_places.specs.Points.{point_place, plain_place}
use Rattle.route_places.specs.Places.{pair_place, is_c, climb_place, element_place, next_word, route, word_place, route_place, place15}
use Rattle.route.proofs.Points.{known}
use Rattle.route.proofs.RouteWords.{known_free, indicator_free, element_tidy, start_tidy}
use Rattle.point_places.proofs.Points.{point_right, plain_right, plain_fits}

-- THE LISTS OF SHAPES

starts_sampled : sampled (wides starts) ≡ true
unfolding starts speeds levels letters
starts_sampled = refl

changes_sampled : sampled (wides changes) ≡ true
unfolding changes speeds levels letters
changes_sampled = refl

climbs_sampled : sampled (wides climbs) ≡ true
unfolding climbs speeds levels letters
climbs_sampled = refl

-- A POINT AND ONE OF A LIST OF SHAPES

point_free : (w : Word) → point_fits 5 w ≡ true → free 47 w ≡ true
point_free w e = known_free w (known 5 w e)

pair_right : (ts : List Word) → sampled ts ≡ true → (v : Word) → any ts v ≡ true → (s : List ℕ) → IsPlace (pair_fits ts) s (pair_place ts s)
unfolding pair_fits
pair_right ts h v e = cut_place_lem 47 (point_fits 5) (any ts) point_place (farthest ts) point_right (any_place ts h) point_free v e

a_change : any (wides changes) (bytes "K0000F000") ≡ true
unfolding changes speeds levels letters
a_change = refl

a_climb : any (wides climbs) (bytes "K0000F000F000") ≡ true
unfolding climbs speeds levels letters
a_climb = refl

-- C, AN OBLIQUE AND A CLIMB

c_is : (w : Word) → fits (bytes "C") w ≡ is_c w
unfolding letters
c_is [] = refl
c_is (b ∷ []) = go (eqb b 67)
  where
    go : (x : Bool) → (cond x true false && true) ≡ (x && true)
    go true = refl
    go false = refl
c_is (b ∷ (c ∷ w)) = go (eqb b 67)
  where
    go : (x : Bool) → (cond x true false && false) ≡ (x && false)
    go true = refl
    go false = refl

c_right : (s : List ℕ) → IsPlace is_c s (along (bytes "C") s)
c_right s = place_of_language (fits (bytes "C")) is_c c_is s (along (bytes "C") s) (along_place (bytes "C") (bytes "C") c_fits s)
  where
    c_fits : fits (bytes "C") (bytes "C") ≡ true
    c_fits = c_is (bytes "C")

c_free : (w : Word) → is_c w ≡ true → free 47 w ≡ true
c_free w e = ap (free 47) (same-eq w (bytes "C") e)

abbrev climb_fits : Word → Bool
climb_fits w = holds 47 w && (is_c (before 47 w) && pair_fits (wides climbs) (behind 47 w))

a_pair : pair_fits (wides climbs) (bytes "AA/K0000F000F000") ≡ true
unfolding pair_fits point_fits name_fits indicators climbs speeds levels letters
a_pair = refl

pub climb_right : (s : List ℕ) → IsPlace climb_fits s (climb_place s)
unfolding climb_place
climb_right =
    cut_place_lem 47 is_c (pair_fits (wides climbs)) (along (bytes "C")) (pair_place (wides climbs)) c_right
    (pair_right (wides climbs) climbs_sampled (bytes "K0000F000F000") a_climb) c_free (bytes "AA/K0000F000F000") a_pair

-- ANY WORD

no_c : point_fits 5 (bytes "C") ≡ false
unfolding point_fits name_fits letters
no_c = refl

plain_free : (w : Word) → plain_fits w ≡ true → free 47 w ≡ true
plain_free w = first (same w (bytes "T")) refl
  where
    second : (x : Bool) → elem w indicators ≡ x → cond x true (point_fits 7 w) ≡ true → free 47 w ≡ true
    second true i e = indicator_free w i
    second false i e = known_free w (known 7 w e)

    first : (x : Bool) → same w (bytes "T") ≡ x → cond x true (cond (elem w indicators) true (point_fits 7 w)) ≡ true → free 47 w ≡ true
    first true s e = ap (free 47) (same-eq w (bytes "T") s)
    first false s e = second (elem w indicators) refl e

element_is : (w : Word) → (plain_fits w || (pair_fits (wides changes) w || climb_fits w)) ≡ element_fits true w
unfolding element_fits pair_fits
element_is w = first (holds 47 w) refl
  where
    no_plain : holds 47 w ≡ true → (x : Bool) → plain_fits w ≡ x → x ≡ false
    no_plain h true e = absurd (true≢false (sym h ∙ holds-free 47 w (plain_free w e)))
    no_plain h false e = refl

    second : (x : Bool) → is_c (before 47 w) ≡ x
        → ((point_fits 5 (before 47 w) && any (wides changes) (behind 47 w)) || (x && pair_fits (wides climbs) (behind 47 w)))
        ≡ cond x (pair_fits (wides climbs) (behind 47 w)) (point_fits 5 (before 47 w) && any (wides changes) (behind 47 w))
    second true c =
        ap (λ (x : Bool). (x && any (wides changes) (behind 47 w)) || pair_fits (wides climbs) (behind 47 w))
        (ap (point_fits 5) (same-eq (before 47 w) (bytes "C") c) ∙ no_c)
    second false c = or-false (point_fits 5 (before 47 w) && any (wides changes) (behind 47 w))

    first : (x : Bool) → holds 47 w ≡ x
        → (plain_fits w || ((x && (point_fits 5 (before 47 w) && any (wides changes) (behind 47 w))) ||
        (x && (is_c (before 47 w) && pair_fits (wides climbs) (behind 47 w)))))
        ≡ cond x (cond (is_c (before 47 w)) (pair_fits (wides climbs) (behind 47 w)) (x && (point_fits 5 (before 47 w) && any (wides changes) (behind 47 w))))
        (word_fits true w)
    first true h =
        ap (λ (y : Bool). y || ((point_fits 5 (before 47 w) && any (wides changes) (behind 47 w)) ||
        (is_c (before 47 w) && pair_fits (wides climbs) (behind 47 w)))) (no_plain h (plain_fits w) refl)
        ∙ second (is_c (before 47 w)) refl
    first false h = or-false (plain_fits w)

pub element_right : (s : List ℕ) → IsPlace (element_fits true) s (element_place s)
unfolding element_place
element_right s =
    place_of_language (λ w. plain_fits w || (pair_fits (wides changes) w || climb_fits w)) (element_fits true) element_is s
    (larger (plain_place s) (larger (pair_place (wides changes) s) (climb_place s)))
    (either_place plain_fits (λ w. pair_fits (wides changes) w || climb_fits w) s (plain_place s) (larger (pair_place (wides changes) s) (climb_place s))
    (plain_right s)
    (either_place (pair_fits (wides changes)) climb_fits s (pair_place (wides changes) s) (climb_place s)
    (pair_right (wides changes) changes_sampled (bytes "K0000F000") a_change s) (climb_right s)))

-- T ends the words; every other word fits whether it is the last or not

t_fits : (last : Bool) (w : Word) → same w (bytes "T") ≡ true → element_fits last w ≡ last
unfolding element_fits
t_fits last w s = rw (ap (holds 47) (same-eq w (bytes "T") s), s)

other_fits : (last : Bool) (w : Word) → same w (bytes "T") ≡ false → element_fits last w ≡ element_fits false w
unfolding element_fits
other_fits last w s = rw s

next_ended : (w : Word) → ended (next_word w) ≡ element_fits true w
next_ended w = go (same w (bytes "T")) refl
  where
    yes : (b : Bool) → ended (cond b (Some false) None) ≡ b
    yes true = refl
    yes false = refl

    go : (x : Bool) → same w (bytes "T") ≡ x → ended (cond x (Some true) (cond (element_fits false w) (Some false) None)) ≡ element_fits true w
    go true e = sym (t_fits true w e)
    go false e = yes (element_fits false w) ∙ sym (other_fits true w e)

-- THE WORDS

pub word_right : (k : Bool) (w : Word) → IsPlace (λ v. ended (route.after k v)) w (word_place k w)
word_right true w = no_place w
word_right false w = place_of_language (element_fits true) (λ v. ended (next_word v)) (λ v. sym (next_ended v)) w (element_place w) (element_right w)

route_free : (k : Bool) (w : Word) → ended (route.after k w) ≡ true → free 32 w ≡ true
route_free true w e = absurd (false≢true e)
route_free false w e = word_free w (element_tidy true w (sym (next_ended w) ∙ e))

a_word : next_word (bytes "AA") ≡ Some false
unfolding element_fits point_fits name_fits indicators letters
a_word = refl

route_more : (k : Bool) → route.goes k ≡ true → (w : Word) × (j : Bool) × (route.after k w ≡ Some j) × (route.final j ≡ true)
route_more true e = absurd (false≢true e)
route_more false e = (bytes "AA", false, a_word, refl)

route_closed : (k : Bool) → route.goes k ≡ false → (w : Word) → route.after k w ≡ None
route_closed true e w = refl
route_closed false e w = absurd (true≢false e)

pub words_right : (s : List ℕ) → IsPlace (content_fits route false) s (route_place s)
unfolding route_place
words_right = words_place_lem route word_place word_right route_free (λ k j w e. refl) route_more route_closed false

-- as field 15 has them

closed_fits : (ws : List Word) → fit_words route ws (Some true) ≡ (null ws && route_fits ws)
closed_fits [] = refl
closed_fits (w ∷ ws) = none_fits route ws

words_is : (ws : List Word) → fit_words route ws (Some false) ≡ route_fits ws
words_is [] = refl
words_is (w ∷ ws) = first (same w (bytes "T")) refl (words_is ws)
  where
    second : (x : Bool) → fit_words route ws (Some false) ≡ route_fits ws → fit_words route ws (cond x (Some false) None) ≡ (x && route_fits ws)
    second true ih = ih
    second false ih = none_fits route ws

    first : (x : Bool) → same w (bytes "T") ≡ x → fit_words route ws (Some false) ≡ route_fits ws
        → fit_words route ws (cond x (Some true) (cond (element_fits false w) (Some false) None)) ≡ (element_fits (null ws) w && route_fits ws)
    first true e ih = closed_fits ws ∙ ap (λ (b : Bool). b && route_fits ws) (sym (t_fits (null ws) w e))
    first false e ih = second (element_fits false w) ih ∙ ap (λ (b : Bool). b && route_fits ws) (sym (other_fits (null ws) w e))

-- FIELD 15

fifteen : (s : List ℕ) → (holds 32 s && (any (wides starts) (before 32 s) && content_fits route false (behind 32 s))) ≡ fits15 s
unfolding fits15
fifteen s = sym (ap words_fit (split_cut 32 s) ∙ go (holds 32 s) refl)
  where
    one : (x : Bool) → (x && (not true && true)) ≡ false
    one true = refl
    one false = refl

    go : (x : Bool) → holds 32 s ≡ x
        → words_fit (before 32 s ∷ after 32 (drop (up_to 32 s) s)) ≡ (x && (any (wides starts) (before 32 s) && content_fits route false (behind 32 s)))
    go true h =
        rw (
          after_here 32 s (up_to 32 s) (ltb-true (up_to 32 s) (length s) h),
          null-split 32 (drop (up_to 32 s + 1) s),
          add-one (up_to 32 s),
          words_is
              (split 32 (behind 32 s)),
        )
    go false h = rw (after_end 32 s (up_to 32 s) (ltb-false (up_to 32 s) (length s) h)) (one (any (wides starts) (before 32 s)))

start_free : (w : Word) → any (wides starts) w ≡ true → free 32 w ≡ true
start_free w e = word_free w (start_tidy w e)

one_word : content_fits route false (bytes "AA") ≡ true
one_word = ap (fit_words route []) a_word

pub placed15 : (s : List ℕ) → IsPlace fits15 s (place15 s)
unfolding place15
placed15 s =
    place_of_language (λ t. holds 32 t && (any (wides starts) (before 32 t) && content_fits route false (behind 32 t))) fits15 fifteen s
    (cut_place 32 (any (wides starts)) (farthest (wides starts)) route_place s)
    (cut_place_lem 32 (any (wides starts)) (content_fits route false) (farthest (wides starts)) route_place
    (any_place (wides starts) starts_sampled) words_right start_free
    (bytes "AA") one_word s)

-- FOR THE CODE

pub climbs_within : (w : Word) → pair_place (wides climbs) w ≤ length w
climbs_within w = (pair_right (wides climbs) climbs_sampled (bytes "K0000F000F000") a_climb w).within
