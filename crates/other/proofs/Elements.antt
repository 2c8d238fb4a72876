-- A word under a key and the element that it is determine one another, by every rule. Assumes nothing.
use Prim.Native.Nat.{ℕ, zero, suc, ◌+◌, ◌-◌, ◌≤◌}
use mathlib.Core.Path.{◌≡◌, refl, sym, ap, ap₂, ◌∙◌}
use mathlib.Core.Bool.{Bool, true, ◌&&◌}
use mathlib.Core.List.{List, [], ◌∷◌, ◌++◌}
use native.Mathlib.Omega.{arith}
use lib.Dec.{leb}
use lib.ListN.{length, take, drop, take-append-drop, length-append}
use lib.Seq.{length-take-le, take-append_seam, drop-append_seam}
use borrow.Author.Tests.{eqb-true, leb-true, le-leb}
use Rattle.alphabet.specs.Alphabet.{digit, sign}
use Rattle.text.specs.Words.{Word, all}
use Rattle.text.proofs.Tests.{both, and_both, all_imp, all_append}
use Rattle.text.proofs.Tidy.{digit_sign}
use Rattle.shape.specs.Time.{elapsed_hours, elapsed_fits, elapsed_of, spell_elapsed, valid_elapsed}
use Rattle.shape.specs.declared.Elapsed.{Elapsed}
use Rattle.shape.proofs.Times.{time_exact, time_valid, time_fits_lem, time_minutes_lem, time_digits}
use Rattle.codes.specs.Codes.{codes, concat, codes_fit, shaped}
use Rattle.codes.proofs.Laws.{concat_codes, codes_concat, fit_shaped}
use Rattle.other.specs.declared.Rule.{Rule}
use Rattle.other.specs.declared.Rule.TheVariants.{Status, Approvals, Day, Timed, Selcal, Address, Free}
use Rattle.other.specs.Rules.{approvals as approval_codes, approved_codes, approved, timed as timed_word, word_fits, mark, rule_of, same_rule}
use Rattle.other.specs.Elements.{Element, status, approvals, day, timed, selcal, address, free, spell_element}
use Rattle.other.specs.Elements.{rule_for, valid_signs, holds_valid, valid_element, element_of}
use Rattle.other.proofs.Dates.{date_spelled, date_valid, date_back, date_fits}

-- RULES BY THEIR MARKS

mark_back : (r : Rule) → rule_of (mark r) ≡ r
mark_back Status = refl
mark_back Approvals = refl
mark_back Day = refl
mark_back Timed = refl
mark_back Selcal = refl
mark_back Address = refl
mark_back Free = refl

same_rule_lem : (r q : Rule) → same_rule r q ≡ true → r ≡ q
same_rule_lem r q e = sym (mark_back r) ∙ ap rule_of (eqb-true (mark r) (mark q) e) ∙ mark_back q

-- CODES

approvals_shaped : all shaped approval_codes ≡ true
unfolding approval_codes
approvals_shaped = refl

codes_valid : (w : Word) → approved w ≡ true → approved_codes (codes w) ≡ true
unfolding approved
codes_valid w e = e

codes_back : (ws : List Word) → approved_codes ws ≡ true → codes (concat ws) ≡ ws
codes_back ws e = codes_concat ws (fit_shaped approval_codes approvals_shaped ws (both (codes_fit approval_codes ws) _ e).0)

codes_fit_lem : (ws : List Word) → approved_codes ws ≡ true → approved (concat ws) ≡ true
unfolding approved
codes_fit_lem ws e = ap approved_codes (codes_back ws e) ∙ e

-- SIGNS WITH AN ELAPSED TIME

all_take : (p : ℕ → Bool) (n : ℕ) (w : Word) → all p w ≡ true → all p (take n w) ≡ true
all_take p zero w e = refl
all_take p (suc n) [] e = refl
all_take p (suc n) (b ∷ w) e =
    let h = both (p b) (all p w) e in
    and_both (p b) (all p (take n w)) h.0 (all_take p n w h.1)

-- what a word is that is signs and a time
record Parts (w : Word) : Type 0 where
  least : 6 ≤ length w
  most : length w ≤ 15
  signs : all sign w ≡ true
  time : elapsed_fits (drop (length w - 4) w) ≡ true

parts : (w : Word) → timed_word w ≡ true → Parts w
unfolding timed_word
parts w e =
    let a = both (leb 6 (length w)) _ e in
    let b = both (leb (length w) 15) _ a.1 in
    let c = both (all sign w) (elapsed_fits (drop (length w - 4) w)) b.1 in
    record { least = leb-true 6 (length w) a.0; most = leb-true (length w) 15 b.0; signs = c.0; time = c.1 }

of_parts : (w : Word) → Parts w → timed_word w ≡ true
unfolding timed_word
of_parts w p =
    and_both (leb 6 (length w)) _ (le-leb 6 (length w) p.least)
    (and_both (leb (length w) 15) _ (le-leb (length w) 15 p.most) (and_both (all sign w) _ p.signs p.time))

module _ (w : Word) (e : timed_word w ≡ true) where
  abbrev signs_in : Word
  signs_in = take (length w - 4) w

  abbrev time_in : Word
  time_in = drop (length w - 4) w

  timed_spelled : signs_in ++ spell_elapsed (elapsed_of time_in) ≡ w
  timed_spelled = ap (λ (v : Word). signs_in ++ v) (time_exact elapsed_hours time_in (parts w e).time) ∙ take-append-drop (length w - 4) w

  timed_valid : (valid_signs signs_in && valid_elapsed (elapsed_of time_in)) ≡ true
  timed_valid =
      let p = parts w e in
      let n : length signs_in ≡ length w - 4 = length-take-le (length w - 4) w (omega arith) in
      and_both (valid_signs signs_in) _
      (and_both (leb 2 (length signs_in)) _ (le-leb 2 (length signs_in) (omega (arith, p.least)))
      (and_both (leb (length signs_in) 11) _ (le-leb (length signs_in) 11 (omega (arith, p.most))) (all_take sign (length w - 4) w p.signs)))
      (time_valid elapsed_hours time_in p.time)

module _ (w : Word) (t : Elapsed) (v : (valid_signs w && valid_elapsed t) ≡ true) where
  its_time : valid_elapsed t ≡ true
  its_time = (both (valid_signs w) (valid_elapsed t) v).1

  its_signs : (2 ≤ length w) × (length w ≤ 11) × (all sign w ≡ true)
  its_signs =
      let a = both (leb 2 (length w)) _ (both (valid_signs w) (valid_elapsed t) v).0 in
      let b = both (leb (length w) 11) (all sign w) a.1 in
      (leb-true 2 (length w) a.0, leb-true (length w) 11 b.0, b.1)

  abbrev whole : Word
  whole = w ++ spell_elapsed t

  long : length whole ≡ length w + 4
  long = length-append w (spell_elapsed t)

  seam : length whole - 4 ≡ length w
  seam = omega (arith, long)

  first_part : take (length whole - 4) whole ≡ w
  first_part = ap (λ (n : ℕ). take n whole) seam ∙ take-append_seam w (spell_elapsed t)

  last_part : drop (length whole - 4) whole ≡ spell_elapsed t
  last_part = ap (λ (n : ℕ). drop n whole) seam ∙ drop-append_seam w (spell_elapsed t)

  time_fitting : elapsed_fits (spell_elapsed t) ≡ true
  time_fitting = time_fits_lem elapsed_hours t.0 (omega arith) its_time

  timed_fits : timed_word whole ≡ true
  timed_fits =
      of_parts whole
      (record {
        least = omega (arith, long, its_signs.0);
        most = omega (arith, long, its_signs.1);
        signs =
            all_append sign w (spell_elapsed t) its_signs.2
            (all_imp digit sign digit_sign (spell_elapsed t) (time_digits elapsed_hours (spell_elapsed t) time_fitting));
        time = ap elapsed_fits last_part ∙ time_fitting;
      })

  timed_back : element_of Timed whole ≡ timed w t
  timed_back = ap₂ timed first_part (ap elapsed_of last_part ∙ ap (λ (n : ℕ). record { 0 = n }) (time_minutes_lem elapsed_hours t.0 (omega arith) its_time))

-- A WORD AND ITS ELEMENT

pub word_spelled : (r : Rule) (w : Word) → word_fits r w ≡ true → spell_element (element_of r w) ≡ w
word_spelled Status w e = refl
word_spelled Approvals w e = concat_codes w
word_spelled Day w e = date_spelled w e
word_spelled Timed w e = timed_spelled w e
word_spelled Selcal w e = refl
word_spelled Address w e = refl
word_spelled Free w e = refl

pub word_valid : (r : Rule) (w : Word) → word_fits r w ≡ true → valid_element r (element_of r w) ≡ true
word_valid Status w e = e
word_valid Approvals w e = codes_valid w e
word_valid Day w e = date_valid w e
word_valid Timed w e = timed_valid w e
word_valid Selcal w e = e
word_valid Address w e = e
word_valid Free w e = e

-- AN ELEMENT AND ITS WORD

own_fits : (e : Element) → holds_valid e ≡ true → word_fits (rule_for e) (spell_element e) ≡ true
own_fits (status w) v = v
own_fits (approvals ws) v = codes_fit_lem ws v
own_fits (day d) v = date_fits d v
own_fits (timed w t) v = timed_fits w t v
own_fits (selcal w) v = v
own_fits (address w) v = v
own_fits (free w) v = v

own_back : (e : Element) → holds_valid e ≡ true → element_of (rule_for e) (spell_element e) ≡ e
own_back (status w) v = refl
own_back (approvals ws) v = ap approvals (codes_back ws v)
own_back (day d) v = ap day (date_back d v)
own_back (timed w t) v = timed_back w t v
own_back (selcal w) v = refl
own_back (address w) v = refl
own_back (free w) v = refl

module _ (r : Rule) (e : Element) (v : valid_element r e ≡ true) where
  own : (same_rule r (rule_for e) ≡ true) × (holds_valid e ≡ true)
  own = both (same_rule r (rule_for e)) (holds_valid e) v

  pub element_fits_lem : word_fits r (spell_element e) ≡ true
  element_fits_lem = ap (λ (q : Rule). word_fits q (spell_element e)) (same_rule_lem r (rule_for e) own.0) ∙ own_fits e own.1

  pub element_back : element_of r (spell_element e) ≡ e
  element_back = ap (λ (q : Rule). element_of q (spell_element e)) (same_rule_lem r (rule_for e) own.0) ∙ own_back e own.1
