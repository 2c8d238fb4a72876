-- How far the bytes of a number go, whatever follows them. Assumes nothing.
use Prim.Native.Nat.{ℕ, suc, ◌+◌, ◌-◌, ◌<◌, ◌≤◌}
use mathlib.Core.Path.{◌≡◌, refl, sym, ap, ◌∙◌, subst}
use mathlib.Core.Bool.{true, false}
use mathlib.Core.List.{List}
use native.Mathlib.Omega.{arith}
use native.Mathlib.Nat.{add-zero}
use lib.ListN.{length, take, drop, get_or}
use lib.Seq.{drop-drop, length-take-le}
use borrow.Author.Tests.{eq-eqb, ne_eqb}
use Rattle.alphabet.specs.Alphabet.{letter, digit}
use Rattle.text.specs.Words.{Word, leading}
use Rattle.text.proofs.Index.{rest, drop_here, drop_end}
use Rattle.places.specs.Parts.{no_more, run_place, fixed_place}
use Rattle.std.specs.Prelude.{Ok, Err}
use Rattle.places.proofs.Leaves.{run_place_lem}
use Rattle.places.proofs.Larger.{smaller_by}
use Rattle.places.proofs.Texts.{word_length}
use Rattle.places.proofs.Index.{then_none, then_off, then_on, fixed_short, fixed_whole}
use Rattle.head.specs.Field3.{unit}
use Rattle.head_places.specs.Places.{Reaches, unit_then, oblique_then, to_digits, number_then, numbers_place}

pub stuck_within : (w : Word) (n r : ℕ) → n ≤ length w → r ≡ run_place 4 letter (take n w) → r ≤ length w
stuck_within w n r h e =
    let l : length (take n w) ≡ n = length-take-le n w h in
    let m = (run_place_lem 1 4 letter (omega arith) 65 refl (take n w)).within in
    omega arith

pub digits_within : (w : Word) → run_place 3 digit w ≤ length w
digits_within w = (run_place_lem 1 3 digit (omega arith) 48 refl w).within

-- 1 TO 4 LETTERS, n of which are in front

module _ (w : Word) (n : ℕ) (end : n ≡ leading letter w) (in_w : n ≤ length w) where
  pub unit_none : (r : ℕ) → n ≡ length w → r ≡ run_place 4 letter (take n w) → Reaches unit_then w (Err r)
  unit_none r h e = (stuck_within w n r in_w e, λ pg. sym (then_none letter unit (run_place 4 letter) pg w n end r h e))

  pub unit_off : (r : ℕ) → unit (take n w) ≡ false → r ≡ run_place 4 letter (take n w) → Reaches unit_then w (Err r)
  unit_off r h e = (stuck_within w n r in_w e, λ pg. sym (then_off letter unit (run_place 4 letter) pg w n end r h e))

  pub unit_on : n < length w → unit (take n w) ≡ true → Reaches unit_then w (Ok n)
  unit_on l h = (in_w, λ pg. sym (then_on letter unit (run_place 4 letter) pg w n end (pg (drop n w)) l h (ap pg (sym (rest w n)))))

-- TO THE DIGITS

pub letters_stuck : (w : Word) (at : ℕ) → Reaches unit_then w (Err at) → Reaches to_digits w (Err at)
letters_stuck w at r = (r.0, λ pg. r.1 (oblique_then pg))

module _ (w : Word) (at : ℕ) (r : Reaches unit_then w (Ok at)) where
  goes : (pg : List ℕ → ℕ) → to_digits pg w ≡ at + oblique_then pg (drop at w)
  goes pg = r.1 (oblique_then pg)

  pub oblique_none : length w ≤ at → Reaches to_digits w (Err at)
  oblique_none l = (r.0, λ pg. goes pg ∙ rw (drop_end w at l) (add-zero at))

  pub oblique_off : at < length w → (get_or w at 0 ≡ 47 → ⊥) → Reaches to_digits w (Err at)
  oblique_off l n = (r.0, λ pg. goes pg ∙ rw (drop_here w at l, ne_eqb (get_or w at 0) 47 n) (add-zero at))

  module _ (l : at < length w) (e : get_or w at 0 ≡ 47) (m : ℕ) where
    abbrev more : Word
    more = take (length w - (at + 1)) (drop (at + 1) w)

    inside : m ≤ length more → at + 1 + m ≤ length w
    inside h = let k = word_length w (at + 1) (length w) (omega arith) (omega arith) in omega arith

    on : (pg : List ℕ → ℕ) → to_digits pg w ≡ at + suc (unit_then pg (drop (at + 1) w))
    on pg = goes pg ∙ rw (drop_here w at l, eq-eqb (get_or w at 0) 47 e)

    pub oblique_on : Reaches unit_then more (Ok m) → Reaches to_digits w (Ok (at + 1 + m))
    oblique_on q = (
      inside q.0,
      λ pg.
          let x : unit_then pg (drop (at + 1) w) ≡ m + pg (drop m (drop (at + 1) w)) =
          subst (λ (u : Word). unit_then pg u ≡ m + pg (drop m u)) (rest w (at + 1)) (q.1 pg) in
          let y : pg (drop m (drop (at + 1) w)) ≡ pg (drop (at + 1 + m) w) = ap pg (drop-drop m (at + 1) w) in
          omega (arith, on pg, x, y),
    )

    pub oblique_stuck : Reaches unit_then more (Err m) → Reaches to_digits w (Err (at + 1 + m))
    oblique_stuck q = (
      inside q.0,
      λ pg.
          let x : unit_then pg (drop (at + 1) w) ≡ m = subst (λ (u : Word). unit_then pg u ≡ m) (rest w (at + 1)) (q.1 pg) in
          omega (arith, on pg, x),
    )

-- A LAST NUMBER, AND ONE THAT ANOTHER MAY FOLLOW, where the letters reach `at`

pub number_stuck : (w : Word) (at : ℕ) → Reaches to_digits w (Err at) → (pg : List ℕ → ℕ) → at ≡ number_then pg w
number_stuck w at r pg = sym (r.1 (fixed_place digit 3 pg))

module _ (w : Word) (at : ℕ) (r : Reaches to_digits w (Ok at)) where
  pub last_on : (k : ℕ) → k ≡ run_place 3 digit (take (length w - at) (drop at w)) → at + k ≡ number_then no_more w
  last_on k e =
      ap (λ (j : ℕ). at + j) (e ∙ ap (run_place 3 digit) (rest w at) ∙ sym (smaller_by 3 (leading digit (drop at w))))
      ∙ sym (r.1 (fixed_place digit 3 no_more))

  module _ (n : ℕ) (end : n ≡ leading digit (take (length w - at) (drop at w))) where
    pub first_short : n < 3 → at + n ≡ numbers_place w
    first_short l =
        let x = fixed_short digit 3 (number_then no_more) (drop at w) n (end ∙ ap (leading digit) (rest w at)) l in
        ap (λ (j : ℕ). at + j) x ∙ sym (r.1 (fixed_place digit 3 (number_then no_more)))

    pub first_on : (k : ℕ) → 3 ≤ n → k ≡ number_then no_more (take (length w - (at + 3)) (drop (at + 3) w)) → at + 3 + k ≡ numbers_place w
    first_on k l e =
        let v = drop at w in
        let q = e ∙ ap (number_then no_more) (rest w (at + 3) ∙ sym (drop-drop 3 at w) ∙ sym (rest v 3)) in
        let x = fixed_whole digit 3 (number_then no_more) v n (end ∙ ap (leading digit) (rest w at)) k l q in
        let y : at + 3 + k ≡ at + (3 + k) = omega arith in
        y ∙ ap (λ (j : ℕ). at + j) x ∙ sym (r.1 (fixed_place digit 3 (number_then no_more)))
