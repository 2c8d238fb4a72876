-- The place of a point of field 15, and of a word with no oblique, is right. Assumes nothing.
use Prim.Native.Nat.{ℕ, zero, suc, ◌+◌, ◌-◌, ◌<◌, ◌≤◌}
use mathlib.Core.Path.{◌≡◌, refl, sym, ap, ap₂, ◌∙◌}
use mathlib.Core.Bool.{Bool, true, false, ◌&&◌, ◌||◌, not, cond, false≢true, true≢false, or-true, or-false, or_assoc, not-not}
use mathlib.Core.List.{List, [], ◌∷◌, ◌++◌, append-nil}
use native.Mathlib.Omega.{arith}
use lib.Dec.{leb, ltb, eqb, leb-suc-suc}
use lib.ListN.{length, take, drop, length-append, length-drop, take-append-drop}
use lib.Seq.{length-take-le, take_all}
use borrow.Author.Tests.{leb-true, leb-false, le-leb, lt-leb, ltb-true, lt-ltb, le-ltb, eqb-true, eq-eqb}
use Rattle.alphabet.specs.Text.{bytes}
use Rattle.alphabet.specs.Alphabet.{sign}
use Rattle.text.specs.Words.{Word, all, same, elem, leading}
use Rattle.text.proofs.Tests.{both, and_both, and_false, same-eq, of_elem}
use Rattle.shape.specs.Numbers.{value}
use Rattle.shape.specs.Shape.{letters, fits, wide}
use Rattle.shape.proofs.Index.{fits_lengths, fits_other}
use Rattle.places.specs.Place.{IsPlace, Hopeful}
use Rattle.places.specs.Parts.{larger, run_fits, run_place}
use Rattle.places.proofs.Given.{iff}
use Rattle.places.proofs.Place.{place_of_language, either_place, sandwich, absorbed}
use Rattle.places.proofs.Leaves.{run_place_lem, run_below, run_above, front_le, front_all, all_front}
use Rattle.route.specs.Points.{short, long, polar, degrees_in_range, degrees_of, minutes_in_range, minutes_of, signs_of, polar_of, radial_fits}
use Rattle.route.specs.Points.{indicators}
use Rattle.route.specs.Points.{name_fits, point_fits}
use Rattle.route.specs.Levels.{number_at}
use Rattle.route.specs.Points.{out_of_range}
use Rattle.point_places.specs.Rows.{row_fits, any_row, rows_place, rows_sampled}
use Rattle.point_places.specs.Points.{short_rows, long_rows, polar_rows, bearing_rows, beyond_rows, point_place, name_place, plain_place}
use Rattle.point_places.proofs.Rows.{rows_place_lem, rows_append, each_or, polar_is, short_is, long_is}
use Rattle.route.proofs.Points.{bearing_parts, no_long, short_signs, three_letters, no_indicator}

-- COORDINATES AND POINTS WITH BEARING, by their rows

short_sampled : rows_sampled short_rows ≡ true
unfolding short_rows letters
short_sampled = refl

beyond_sampled : rows_sampled beyond_rows ≡ true
unfolding beyond_rows long_rows bearing_rows letters
beyond_sampled = refl

short_right : (s : List ℕ) → IsPlace (any_row short_rows) s (rows_place short_rows s)
short_right = rows_place_lem short_rows short_sampled

beyond_right : (s : List ℕ) → IsPlace (any_row beyond_rows) s (rows_place beyond_rows s)
beyond_right = rows_place_lem beyond_rows beyond_sampled

-- so many signs
abbrev signs : ℕ → Word
signs zero = []
signs (suc n) = 120 ∷ signs n

signs_are : (n : ℕ) (w : Word) → row_fits (signs n) (take n w) ≡ (leb n (length w) && all sign (take n w))
signs_are zero w = sym (rw (le-leb 0 (length w) (omega arith)))
signs_are (suc n) [] = sym (rw (lt-leb (suc n) 0 (omega arith)))
signs_are (suc n) (b ∷ w) =
    rw (leb-suc-suc n (length w)) (ap (λ (x : Bool). sign b && x) (signs_are n w) ∙ go (sign b) (leb n (length w)) (all sign (take n w)))
  where
    go : (x l a : Bool) → (x && (l && a)) ≡ (l && (x && a))
    go true l a = refl
    go false true a = refl
    go false false a = refl

abbrev radial : ℕ → Word → Bool
radial n w = row_fits (signs n) (take n w) && any_row polar_rows (drop n w)

bearing_or : (w : Word) → any_row bearing_rows w ≡ (radial 2 w || (radial 3 w || (radial 4 w || (radial 5 w || false))))
unfolding bearing_rows
bearing_or w =
    each_or (signs 2) (signs 3 ∷ (signs 4 ∷ (signs 5 ∷ []))) polar_rows w
    ∙ ap (λ (x : Bool). radial 2 w || x) (each_or (signs 3) (signs 4 ∷ (signs 5 ∷ [])) polar_rows w)
    ∙ ap (λ (x : Bool). radial 2 w || (radial 3 w || x)) (each_or (signs 4) (signs 5 ∷ []) polar_rows w)
    ∙ ap (λ (x : Bool). radial 2 w || (radial 3 w || (radial 4 w || x))) (each_or (signs 5) [] polar_rows w)

radial_to : (n : ℕ) → 2 ≤ n → n ≤ 5 → (w : Word) → radial n w ≡ true → (ltb 7 (length w) && radial_fits w) ≡ true
unfolding radial_fits
radial_to n least most w e =
    let a = both (row_fits (signs n) (take n w)) (any_row polar_rows (drop n w)) e in
    let b = both (leb n (length w)) (all sign (take n w)) (sym (signs_are n w) ∙ a.0) in
    let c = both (fits (wide polar) (drop n w)) (leb (value (take 3 (drop n w))) 360) (sym (polar_is (drop n w)) ∙ a.1) in
    let l = leb-true n (length w) b.0 in
    let six : length (drop n w) ≡ 6 = fits_lengths (wide polar) (drop n w) c.0 in
    let d = length-drop n w in
    let k : length w - 6 ≡ n = omega arith in
    rw (lt-ltb 7 (length w) (omega arith), le-leb (length w) 11 (omega arith), k, b.1, c.0, c.1)

radial_from : (n : ℕ) (w : Word) → length w ≡ n + 6 → radial_fits w ≡ true → radial n w ≡ true
radial_from n w l e =
    let r = bearing_parts w e in
    let k : length w - 6 ≡ n = omega arith in
    and_both (row_fits (signs n) (take n w)) (any_row polar_rows (drop n w))
    (signs_are n w ∙ and_both (leb n (length w)) (all sign (take n w)) (le-leb n (length w) (omega arith))
    (ap (λ (i : ℕ). all sign (take i w)) (sym k) ∙ r.signs))
    (polar_is (drop n w) ∙ ap (λ (i : ℕ). fits (wide polar) (drop i w) && leb (value (take 3 (drop i w))) 360) (sym k)
    ∙ and_both (fits (wide polar) (polar_of w)) (leb (number_at 0 3 (polar_of w)) 360) r.shape r.circle)

bearing_is : (w : Word) → any_row bearing_rows w ≡ (ltb 7 (length w) && radial_fits w)
bearing_is w = bearing_or w ∙ iff (radial 2 w || (radial 3 w || (radial 4 w || (radial 5 w || false)))) (ltb 7 (length w) && radial_fits w) to from
  where
    to : (radial 2 w || (radial 3 w || (radial 4 w || (radial 5 w || false)))) ≡ true → (ltb 7 (length w) && radial_fits w) ≡ true
    to e = first (radial 2 w) refl (radial 3 w) refl (radial 4 w) refl (radial 5 w) refl e
      where
        first : (a : Bool) → radial 2 w ≡ a → (b : Bool) → radial 3 w ≡ b → (c : Bool) → radial 4 w ≡ c → (d : Bool) → radial 5 w ≡ d
            → (a || (b || (c || (d || false)))) ≡ true → (ltb 7 (length w) && radial_fits w) ≡ true
        first true p b q c r d s h = radial_to 2 (omega arith) (omega arith) w p
        first false p true q c r d s h = radial_to 3 (omega arith) (omega arith) w q
        first false p false q true r d s h = radial_to 4 (omega arith) (omega arith) w r
        first false p false q false r true s h = radial_to 5 (omega arith) (omega arith) w s
        first false p false q false r false s h = absurd (false≢true h)

    from : (ltb 7 (length w) && radial_fits w) ≡ true → (radial 2 w || (radial 3 w || (radial 4 w || (radial 5 w || false)))) ≡ true
    from e = go (eqb (length w) 8) refl (eqb (length w) 9) refl (eqb (length w) 10) refl
      where
        h : (ltb 7 (length w) ≡ true) × (radial_fits w ≡ true)
        h = both (ltb 7 (length w)) (radial_fits w) e

        l : 7 < length w
        l = ltb-true 7 (length w) h.0

        m : length w ≤ 11
        m = (bearing_parts w h.1).size

        apart : (m n : ℕ) → eqb m n ≡ false → m ≡ n → ⊥
        apart m n e q = true≢false (sym (eq-eqb m n q) ∙ e)

        go : (a : Bool) → eqb (length w) 8 ≡ a → (b : Bool) → eqb (length w) 9 ≡ b → (c : Bool) → eqb (length w) 10 ≡ c
            → (radial 2 w || (radial 3 w || (radial 4 w || (radial 5 w || false)))) ≡ true
        go true p b q c r = rw (radial_from 2 w (eqb-true (length w) 8 p) h.1)
        go false p true q c r = rw (radial_from 3 w (eqb-true (length w) 9 q) h.1) (or-true (radial 2 w))
        go false p false q true r =
            rw (radial_from 4 w (eqb-true (length w) 10 r) h.1) (ap (λ (x : Bool). radial 2 w || x) (or-true (radial 3 w)) ∙ or-true (radial 2 w))
        go false p false q false r =
            let x = apart (length w) 8 p in
            let y = apart (length w) 9 q in
            let z = apart (length w) 10 r in
            let i = l in
            let j = m in
            let n : length w ≡ 5 + 6 = omega arith in
            rw (radial_from 5 w n h.1)
            (ap (λ (x : Bool). radial 2 w || (radial 3 w || x)) (or-true (radial 4 w))
            ∙ ap (λ (x : Bool). radial 2 w || x) (or-true (radial 3 w)) ∙ or-true (radial 2 w))

-- WHAT IS LONGER THAN A NAME, AND WHAT IS SHORTER

beyond_is : (w : Word) → any_row beyond_rows w ≡ ((fits (wide long) w && minutes_in_range (minutes_of w)) || (ltb 7 (length w) && radial_fits w))
unfolding beyond_rows
beyond_is w = rows_append long_rows bearing_rows w ∙ ap₂ ◌||◌ (long_is w) (bearing_is w)

-- what is shorter: a coordinate in degrees, or a name
abbrev shorter : ℕ → Word → Bool
shorter most w = cond (fits (wide short) w) (degrees_in_range (degrees_of w)) (name_fits most w)

long_name : (most : ℕ) (w : Word) → most < length w → name_fits most w ≡ false
unfolding name_fits
long_name most w l = rw (lt-leb (length w) most l) (and_false (leb 2 (length w)) false refl)

long_no_bearing : (w : Word) → fits (wide long) w ≡ true → radial_fits w ≡ false
long_no_bearing w e = go (radial_fits w) refl
  where
    go : (x : Bool) → radial_fits w ≡ x → x ≡ false
    go true r =
        let b = bearing_parts w r in
        absurd (true≢false (sym e ∙ ap (fits (wide long)) (sym (take-append-drop (length w - 6) w)) ∙ no_long (signs_of w) (polar_of w) b.shape))
    go false r = refl

pub point_is : (most : ℕ) → most ≤ 7 → (w : Word) → point_fits most w ≡ (shorter most w || any_row beyond_rows w)
unfolding point_fits
point_is most m w = sym (rw (beyond_is w) (first (fits (wide short) w) refl))
  where
    third : (x : Bool) → ltb 7 (length w) ≡ x → (name_fits most w || ((false && minutes_in_range (minutes_of w)) || (x && radial_fits w)))
        ≡ cond x (radial_fits w) (name_fits most w)
    third true e = let l = ltb-true 7 (length w) e in rw (long_name most w (omega arith))
    third false e = or-false (name_fits most w)

    second : (x : Bool) → fits (wide long) w ≡ x
        → (name_fits most w || ((x && minutes_in_range (minutes_of w)) || (ltb 7 (length w) && radial_fits w)))
        ≡ cond x (minutes_in_range (minutes_of w)) (cond (ltb 7 (length w)) (radial_fits w) (name_fits most w))
    second true e =
        let l : length w ≡ 11 = fits_lengths (wide long) w e in
        rw (long_name most w (omega arith), long_no_bearing w e, and_false (ltb 7 (length w)) false refl) (or-false (minutes_in_range (minutes_of w)))
    second false e = third (ltb 7 (length w)) refl

    first : (x : Bool) → fits (wide short) w ≡ x
        → (cond x (degrees_in_range (degrees_of w)) (name_fits most w) || ((fits (wide long) w && minutes_in_range (minutes_of w)) ||
        (ltb 7 (length w) && radial_fits w)))
        ≡ cond x (degrees_in_range (degrees_of w)) (cond (fits (wide long) w) (minutes_in_range (minutes_of w))
        (cond (ltb 7 (length w)) (radial_fits w) (name_fits most w)))
    first true e =
        let l : length w ≡ 7 = fits_lengths (wide short) w e in
        rw (fits_other (wide long) w (λ q. omega arith), le-ltb 7 (length w) (omega arith)) (or-false (degrees_in_range (degrees_of w)))
    first false e = second (fits (wide long) w) refl

-- A POINT BEFORE AN OBLIQUE

-- a name of at most 5 signs: any 5 signs are one
name_right : (s : List ℕ) → IsPlace (name_fits 5) s (run_place 5 sign s)
unfolding name_fits
name_right s =
    sandwich (run_fits 5 5 sign) (name_fits 5) (run_fits 2 5 sign) five few s (run_place 5 sign s)
    (run_place_lem 5 5 sign (omega arith) 65 refl s) (run_place_lem 2 5 sign (omega arith) 65 refl s)
  where
    five : (w : List ℕ) → run_fits 5 5 sign w ≡ true → name_fits 5 w ≡ true
    five w e =
        let a = both (leb 5 (length w)) (leb (length w) 5 && all sign w) e in
        let b = both (leb (length w) 5) (all sign w) a.1 in
        let l = leb-true 5 (length w) a.0 in
        rw (le-leb 2 (length w) (omega arith), b.0, b.1, no_indicator w (λ h. omega arith))

    few : (w : List ℕ) → name_fits 5 w ≡ true → run_fits 2 5 sign w ≡ true
    few w e =
        let a = both (leb 2 (length w)) (leb (length w) 5 && (all sign w && not (elem w indicators))) e in
        let b = both (leb (length w) 5) (all sign w && not (elem w indicators)) a.1 in
        let c = both (all sign w) (not (elem w indicators)) b.1 in
        rw (a.0, b.0, c.0)

shorter_is : (w : Word) → (name_fits 5 w || any_row short_rows w) ≡ shorter 5 w
shorter_is w = rw (short_is w) (go (fits (wide short) w) refl)
  where
    go : (x : Bool) → fits (wide short) w ≡ x → (name_fits 5 w || (x && degrees_in_range (degrees_of w))) ≡ cond x (degrees_in_range (degrees_of w))
        (name_fits 5 w)
    go true e = let l : length w ≡ 7 = fits_lengths (wide short) w e in rw (long_name 5 w (omega arith))
    go false e = or-false (name_fits 5 w)

pub point_right : (s : List ℕ) → IsPlace (point_fits 5) s (point_place s)
unfolding point_place
point_right s =
    place_of_language (λ w. name_fits 5 w || (any_row short_rows w || any_row beyond_rows w)) (point_fits 5) same_language s
    (larger (run_place 5 sign s) (larger (rows_place short_rows s) (rows_place beyond_rows s)))
    (either_place (name_fits 5) (λ w. any_row short_rows w || any_row beyond_rows w) s (run_place 5 sign s)
    (larger (rows_place short_rows s) (rows_place beyond_rows s))
    (name_right s)
    (either_place (any_row short_rows) (any_row beyond_rows) s (rows_place short_rows s) (rows_place beyond_rows s) (short_right s) (beyond_right s)))
  where
    same_language : (w : List ℕ) → (name_fits 5 w || (any_row short_rows w || any_row beyond_rows w)) ≡ point_fits 5 w
    same_language w =
        sym (or_assoc (name_fits 5 w) (any_row short_rows w) (any_row beyond_rows w))
        ∙ ap (λ (x : Bool). x || any_row beyond_rows w) (shorter_is w)
        ∙ sym (point_is 5 (omega arith) w)

-- A WORD WITH NO OBLIQUE: 2 to 7 signs that are no coordinate out of range

abbrev signs7 : Word → Bool
signs7 w = run_fits 2 7 sign w && not (out_of_range w)

few_signs : (w : List ℕ) → run_fits 2 6 sign w ≡ true → signs7 w ≡ true
unfolding out_of_range
few_signs w e =
    let a = both (leb 2 (length w)) (leb (length w) 6 && all sign w) e in
    let b = both (leb (length w) 6) (all sign w) a.1 in
    let l = leb-true (length w) 6 b.0 in
    rw (a.0, le-leb (length w) 7 (omega arith), b.1, fits_other (wide short) w (λ q. omega arith))

-- up to six signs go on
six_on : (s : List ℕ) (k : ℕ) → k < 6 → k < leading sign s → Hopeful signs7 s k
six_on s k h i =
    let t = (run_place_lem 2 6 sign (omega arith) 65 refl s).before k (run_above sign s 6 k h i) in
    (t.0, few_signs (take (suc k) s ++ t.0) t.1)

range_parts : (w : Word) → out_of_range w ≡ true → (length w ≡ 7) × (all sign w ≡ true)
unfolding out_of_range
range_parts w e =
    let f = (both (fits (wide short) w) (not (degrees_in_range (degrees_of w))) e).0 in
    (fits_lengths (wide short) w f, short_signs w f)

pub signs_right : (s : List ℕ) → IsPlace signs7 s (name_place s)
unfolding name_place
signs_right s = go (out_of_range (take 7 s)) refl
  where
    long_off : (w t : List ℕ) → length w ≡ 7 → (length t ≡ 0 → ⊥) → signs7 (w ++ t) ≡ false
    long_off w t l n =
        let m = length-append w t in
        rw (lt-leb (length (w ++ t)) 7 (omega arith), and_false (leb 2 (length (w ++ t))) false refl)

    refused : out_of_range (take 7 s) ≡ true → (t : List ℕ) → signs7 (take 7 s ++ t) ≡ false
    refused e [] = rw (append-nil (take 7 s), e) (and_false (run_fits 2 7 sign (take 7 s)) false refl)
    refused e (b ∷ t) = long_off (take 7 s) (b ∷ t) (range_parts (take 7 s) e).0 (λ n. omega arith)

    whole : out_of_range (take 7 s) ≡ false → 7 ≤ leading sign s → signs7 (take 7 s) ≡ true
    whole e l =
        let i = front_le sign s in
        let n : length (take 7 s) ≡ 7 = length-take-le 7 s (omega arith) in
        rw (e, n, front_all sign s 7 l)

    go : (x : Bool) → out_of_range (take 7 s) ≡ x → IsPlace signs7 s (cond x 6 (run_place 7 sign s))
    go true e =
        let r = range_parts (take 7 s) e in
        let m : 7 ≤ length s = long_enough r.0 in
        let f : 7 ≤ leading sign s = all_front sign 7 s m r.1 in
        record { within = omega arith; before = λ k h. six_on s k h (omega arith); there = λ h. refused e }
      where
        long_enough : length (take 7 s) ≡ 7 → 7 ≤ length s
        long_enough q = pick (leb 7 (length s)) refl
          where
            pick : (x : Bool) → leb 7 (length s) ≡ x → 7 ≤ length s
            pick true z = leb-true 7 (length s) z
            pick false z =
                let y = leb-false 7 (length s) z in let u : length (take 7 s) ≡ length s = ap length (take_all 7 s (omega arith)) in absurd (omega arith)
    go false e =
        record {
          within = (run_place_lem 2 7 sign (omega arith) 65 refl s).within;
          before = λ k h. let b = run_below sign s 7 k h in on k b.0 b.1 (eqb k 6) refl;
          there = λ h t. rw ((run_place_lem 2 7 sign (omega arith) 65 refl s).there h t);
        }
      where
        on : (k : ℕ) → k < 7 → k < leading sign s → (x : Bool) → eqb k 6 ≡ x → Hopeful signs7 s k
        on k h i true q =
            let z : k ≡ 6 = eqb-true k 6 q in
            ([], ap (λ (n : ℕ). signs7 (take (suc n) s ++ [])) z ∙ ap signs7 (append-nil (take 7 s)) ∙ whole e (omega arith))
        on k h i false q =
            let z : k ≡ 6 → ⊥ = λ g. true≢false (sym (eq-eqb k 6 g) ∙ q) in
            six_on s k (omega arith) i

-- indicators and names together are the signs
indicators_signs : (w : Word) → elem w indicators ≡ true → all sign w ≡ true
unfolding indicators
indicators_signs w e = of_elem (all sign) indicators refl w e

signs_is : (w : Word) → (elem w indicators || shorter 7 w) ≡ signs7 w
unfolding out_of_range name_fits
signs_is w = first (elem w indicators) refl
  where
    third : (a b c : Bool) → (a && (b && (c && true))) ≡ ((a && (b && c)) && true)
    third true true true = refl
    third true true false = refl
    third true false c = refl
    third false b c = refl

    second : elem w indicators ≡ false → (x : Bool) → fits (wide short) w ≡ x
        → cond x (degrees_in_range (degrees_of w)) (name_fits 7 w) ≡ (run_fits 2 7 sign w && not (x && not (degrees_in_range (degrees_of w))))
    second i true e =
        let l : length w ≡ 7 = fits_lengths (wide short) w e in
        rw (le-leb 2 (length w) (omega arith), le-leb (length w) 7 (omega arith), short_signs w e) (sym (not-not (degrees_in_range (degrees_of w))))
    second i false e = rw i (third (leb 2 (length w)) (leb (length w) 7) (all sign w))

    first : (x : Bool) → elem w indicators ≡ x → (x || shorter 7 w)
        ≡ (run_fits 2 7 sign w && not (fits (wide short) w && not (degrees_in_range (degrees_of w))))
    first true i =
        let l : length w ≡ 3 = three_letters w i in
        sym (rw (le-leb 2 (length w) (omega arith), le-leb (length w) 7 (omega arith), indicators_signs w i, fits_other (wide short) w (λ q. omega arith)))
    first false i = second i (fits (wide short) w) refl

-- T, an indicator or a point of at most 7 signs
abbrev pub plain_fits : Word → Bool
plain_fits w = cond (same w (bytes "T")) true (cond (elem w indicators) true (point_fits 7 w))

plain_is : (w : Word) → (same w (bytes "T") || (signs7 w || any_row beyond_rows w)) ≡ plain_fits w
plain_is w =
    ap (λ (x : Bool). same w (bytes "T") || (x || any_row beyond_rows w)) (sym (signs_is w))
    ∙ go (same w (bytes "T")) (elem w indicators) (shorter 7 w) (any_row beyond_rows w)
    ∙ ap (λ (x : Bool). cond (same w (bytes "T")) true (cond (elem w indicators) true x)) (sym (point_is 7 (omega arith) w))
  where
    go : (a b c d : Bool) → (a || ((b || c) || d)) ≡ cond a true (cond b true (c || d))
    go true b c d = refl
    go false true c d = refl
    go false false c d = refl

two_letters : signs7 (bytes "TA") ≡ true
unfolding out_of_range
two_letters = refl

pub plain_right : (s : List ℕ) → IsPlace plain_fits s (plain_place s)
unfolding plain_place
plain_right s =
    place_of_language (λ w. same w (bytes "T") || (signs7 w || any_row beyond_rows w)) plain_fits plain_is s (larger (name_place s) (rows_place beyond_rows s))
    (absorbed (λ w. same w (bytes "T")) (λ w. signs7 w || any_row beyond_rows w) goes s (larger (name_place s) (rows_place beyond_rows s))
    (either_place signs7 (any_row beyond_rows) s (name_place s) (rows_place beyond_rows s) (signs_right s) (beyond_right s)))
  where
    goes : (w : List ℕ) → same w (bytes "T") ≡ true → (t : List ℕ) × ((signs7 (w ++ t) || any_row beyond_rows (w ++ t)) ≡ true)
    goes w e = (
      bytes "A",
      ap (λ (v : List ℕ). signs7 (v ++ bytes "A") || any_row beyond_rows (v ++ bytes "A")) (same-eq w (bytes "T") e) ∙ ap
          (λ (x : Bool). x || any_row beyond_rows (bytes "TA")) two_letters,
    )
