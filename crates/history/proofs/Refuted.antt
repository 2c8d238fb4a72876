-- Updaters that the third demand stops: one that refuses all, one that does nothing, one that copies the strip, one that applies only the first
-- entry, one that applies only the first message, one that matches against the plan after the change, one by which a DEP overwrites the off-block
-- time, one that searches the text; with a destination alone one that drops elapsed time and alternates, and one that passes it by; of dates one that
-- compares a DLA's, one that puts it behind the last item, and one that takes a CHG's from its entry. Assumes nothing.
use Prim.Native.Nat.{ℕ}
use mathlib.Core.Path.{◌≡◌, refl, sym, ap, subst, fun_ext, ◌∙◌}
use mathlib.Core.Bool.{Bool, true, false, false≢true}
use mathlib.Core.List.{List, [], ◌∷◌}
use native.Mathlib.Omega.{arith}
use lib.ListN.{length, get_or, replicate}
use Rattle.sent.specs.Sent.{contents}
use Rattle.kinds.specs.declared.MessageType.TheVariants.{Fpl}
use Rattle.message.specs.Reading.{spelling_of, fault_in, count_as, answer_of}
use Rattle.state.specs.declared.Strip.{Strip}
use Rattle.state.specs.State.{just_filed}
use Rattle.opening.specs.Opening.{canonical_plan, opening_of}
use Rattle.strip.specs.Updating.{Updated, offered_as, update_of, out_after}
use Rattle.amending.specs.Amended.{new_strip}
use Rattle.history.specs.History.{plan_in, spelled, given, plan_by}
use Rattle.history.specs.Demand3.{Updater, Offer, offered_all, log_all, answered, Cause, filed_as, Meets}
use Rattle.history.specs.Slips.{refuses_all, does_nothing, copies, first_entry, first_message, matches_after, dep_overwrites, searches}
use Rattle.history.specs.Slips.{drops_alternates, ignores_bare, compares_delay, dates_last, entry_dates}
use Rattle.history.specs.Eighteen.{date_told, other_items, eighteen}
use Rattle.history.proofs.Causes.{cause_refused}
use Rattle.history.proofs.Latest.{left_latest}
use Rattle.history.proofs.Examples.{filing, change, filing_read, dated_filing, dated_read}
use Rattle.alphabet.specs.Text.{bytes}
use Rattle.alphabet.specs.Alphabet.{text, in_alphabet, white}
use Rattle.text.specs.Lent.{front}
use Rattle.shape.specs.Shape.{letters}
use Rattle.shape.specs.Time.{time_fits}
use Rattle.space.specs.Reduced.{opens, closes, stands_for_run, reduced_from, reduced}
use Rattle.space.specs.Hyphens.{hyphens}
use Rattle.outer.specs.Outer.{parens_from, parens, letters_from, outer}
use Rattle.head.specs.Field3.{types, fits3, numbers_fit}
use Rattle.head.specs.Field7.{fits7}
use Rattle.head.specs.Field8.{fits8}
use Rattle.head.specs.Field9.{fits9, count_fits, aircraft_fits}
use Rattle.equipment.specs.Field10.{fits10, valid10, present}
use Rattle.aerodromes.specs.Aerodromes.{four_letters, joined}
use Rattle.aerodromes.specs.Field16.{fits16plan}
use Rattle.route.specs.Levels.{speed_digits, level_digits, speeds, levels, starts, changes}
use Rattle.route.specs.Points.{within, radial_fits, indicators, name_fits, point_fits}
use Rattle.route.specs.Field15.{pair_fits, element_fits, fits15}
use Rattle.other.specs.Rules.{base, date, days_in}
use Rattle.other.specs.Field18.{fits_in, has_key, words_under}
use Rattle.dates.specs.Dates.{keys_behind, with_date}
use Rattle.kinds.specs.Kinds.{plan_forms, brief_forms, forms_of, types_read, type_ranked, type_named}
use Rattle.forms.specs.Field22.{labels, fits22, fault22}
use Rattle.plan.specs.Unexplained.{unexplained}
use Rattle.force.specs.InForce.{named_by}
use Rattle.std.specs.Prelude.{Ok, Err}
use Rattle.outer.specs.Refusal.{refusal}

-- WHAT AN UPDATER THAT MEETS THE DEMAND DOES

module _ (U : Updater) (h : Meets U) (m : List ℕ) (room n : ℕ) (e : answer_of m room ≡ Ok (Fpl, n)) (run : List Offer) where
  -- its strip is the history's
  pub meets_strip : (offered_all U (filed_as m) run).strip ≡ spelled (plan_by (plan_in (contents m)) (log_all U (filed_as m) [] run))
  meets_strip =
      let d = h m room n e run in
      d.strip_is ∙ ap spelled (fun_ext (λ f. left_latest (given f) (plan_in (contents m) f) (log_all U (filed_as m) [] run) (d.plan f) (d.parts f)))

  -- and it refuses only what the update refuses
  pub meets_refused : (o : Offer) (number field place : ℕ) → answered U (offered_all U (filed_as m) run) o ≡ Err (refusal number field place)
      → update_of (offered_all U (filed_as m) run).strip (offered_all U (filed_as m) run).held o.bytes (length o.lent) ≡ Err (refusal number field place)
  meets_refused o number field place q =
      let d = h m room n e run in
      let b = offered_all U (filed_as m) run in
      cause_refused b.strip b.held o.bytes (length o.lent) number field place
      (subst (λ (w : List ℕ). Cause w b.held o.bytes (length o.lent) number field place) (sym d.strip_is)
      (subst (λ (x : Strip). Cause (spelled d.plan) x o.bytes (length o.lent) number field place) (sym d.held_is)
      (d.refused_cause o number field place q)))

abbrev pub accepts : Updated → Bool
accepts (Ok (held, n)) = true
accepts (Err r) = false

-- OFFERS to document 01's strip

abbrev changing : Offer
changing = record { bytes = change; lent = replicate 75 0 }

abbrev again : Offer
again = record { bytes = bytes "(CHG-ABC12-EHAM0930-EDDF-0-8/VS)"; lent = replicate 75 0 }

-- ONE THAT REFUSES ALL

change_taken : accepts (update_of (filed_as filing).strip just_filed change 75) ≡ true
unfolding answer_of count_as fault_in spelling_of outer parens parens_from letters_from in_alphabet white text reduced reduced_from stands_for_run opens closes
    hyphens type_named type_ranked types_read types forms_of plan_forms brief_forms fits3 numbers_fit fits7 fits8 fits9 count_fits aircraft_fits fits10
    valid10 present fits16plan fits15 starts speeds levels speed_digits level_digits element_fits letters within radial_fits indicators name_fits
    point_fits four_letters joined time_fits fits_in unexplained has_key labels fits22 fault22 canonical_plan opening_of offered_as update_of named_by
    new_strip out_after
    front words_under date_told other_items eighteen
change_taken = refl

pub refuses_all_fails : (number field place : ℕ) → Meets (refuses_all number field place) → ⊥
refuses_all_fails number field place h =
    let q = meets_refused (refuses_all number field place) h filing 1800 75 filing_read [] changing number field place refl in
    false≢true (sym (ap accepts q) ∙ change_taken)

-- ONE THAT DOES NOTHING

nothing_left : get_or (offered_all does_nothing (filed_as filing) (changing ∷ [])).strip 0 0 ≡ 0
unfolding answer_of count_as fault_in spelling_of outer parens parens_from letters_from in_alphabet white text reduced reduced_from stands_for_run opens closes
    hyphens type_named type_ranked types_read types forms_of plan_forms brief_forms fits3 numbers_fit fits7 fits8 fits9 count_fits aircraft_fits fits10
    valid10 present fits16plan fits15 starts speeds levels speed_digits level_digits element_fits letters within radial_fits indicators name_fits
    point_fits four_letters joined time_fits fits_in unexplained has_key labels fits22 fault22 canonical_plan opening_of offered_as update_of named_by
    new_strip out_after
    front words_under date_told other_items eighteen
nothing_left = refl

pub does_nothing_fails : Meets does_nothing → ⊥
does_nothing_fails h =
    let z : ◌≡◌ {A = ℕ} 0 40 = sym nothing_left ∙ ap (λ (w : List ℕ). get_or w 0 0) (h filing 1800 75 filing_read (changing ∷ [])).strip_is in
    omega arith

-- ONE THAT COPIES THE STRIP: byte 12 is the second letter of field 8

copied_byte : (get_or (offered_all copies (filed_as filing) (changing ∷ [])).strip 12 0 ≡ 83)
    × (get_or (spelled (plan_by (plan_in (contents filing)) (log_all copies (filed_as filing) [] (changing ∷ [])))) 12 0 ≡ 78)
unfolding answer_of count_as fault_in spelling_of outer parens parens_from letters_from in_alphabet white text reduced reduced_from stands_for_run opens closes
    hyphens type_named type_ranked types_read types forms_of plan_forms brief_forms fits3 numbers_fit fits7 fits8 fits9 count_fits aircraft_fits fits10
    valid10 present fits16plan fits15 starts speeds levels speed_digits level_digits element_fits letters within radial_fits indicators name_fits
    point_fits four_letters joined time_fits fits_in unexplained has_key labels fits22 fault22 canonical_plan opening_of offered_as update_of named_by
    new_strip out_after
    front words_under date_told other_items eighteen
copied_byte = (refl, refl)

pub copies_fails : Meets copies → ⊥
copies_fails h =
    let q = ap (λ (w : List ℕ). get_or w 12 0) (meets_strip copies h filing 1800 75 filing_read (changing ∷ [])) in
    let z : ◌≡◌ {A = ℕ} 83 78 = sym copied_byte.0 ∙ q ∙ copied_byte.1 in
    omega arith

-- ONE THAT APPLIES ONLY THE FIRST ENTRY

entry_byte : (get_or (offered_all first_entry (filed_as filing) (changing ∷ [])).strip 12 0 ≡ 83)
    × (get_or (spelled (plan_by (plan_in (contents filing)) (log_all first_entry (filed_as filing) [] (changing ∷ [])))) 12 0 ≡ 78)
unfolding answer_of count_as fault_in spelling_of outer parens parens_from letters_from in_alphabet white text reduced reduced_from stands_for_run opens closes
    hyphens type_named type_ranked types_read types forms_of plan_forms brief_forms fits3 numbers_fit fits7 fits8 fits9 count_fits aircraft_fits fits10
    valid10 present fits16plan fits15 starts speeds levels speed_digits level_digits element_fits letters within radial_fits indicators name_fits
    point_fits four_letters joined time_fits fits_in unexplained has_key labels fits22 fault22 canonical_plan opening_of offered_as update_of named_by
    new_strip out_after
    front words_under date_told other_items eighteen
entry_byte = (refl, refl)

pub first_entry_fails : Meets first_entry → ⊥
first_entry_fails h =
    let q = ap (λ (w : List ℕ). get_or w 12 0) (meets_strip first_entry h filing 1800 75 filing_read (changing ∷ [])) in
    let z : ◌≡◌ {A = ℕ} 83 78 = sym entry_byte.0 ∙ q ∙ entry_byte.1 in
    omega arith

-- ONE THAT APPLIES ONLY THE FIRST MESSAGE: byte 11 is the first letter of field 8

message_byte : (get_or (offered_all (first_message filing) (filed_as filing) (changing ∷ again ∷ [])).strip 11 0 ≡ 73)
    × (get_or (spelled (plan_by (plan_in (contents filing)) (log_all (first_message filing) (filed_as filing) [] (changing ∷ again ∷ [])))) 11 0 ≡ 86)
unfolding answer_of count_as fault_in spelling_of outer parens parens_from letters_from in_alphabet white text reduced reduced_from stands_for_run opens closes
    hyphens type_named type_ranked types_read types forms_of plan_forms brief_forms fits3 numbers_fit fits7 fits8 fits9 count_fits aircraft_fits fits10
    valid10 present fits16plan fits15 starts speeds levels speed_digits level_digits element_fits letters within radial_fits indicators name_fits
    point_fits four_letters joined time_fits fits_in unexplained has_key labels fits22 fault22 canonical_plan opening_of offered_as update_of named_by
    new_strip out_after
    front words_under date_told other_items eighteen
message_byte = (refl, refl)

pub first_message_fails : Meets (first_message filing) → ⊥
first_message_fails h =
    let q = ap (λ (w : List ℕ). get_or w 11 0) (meets_strip (first_message filing) h filing 1800 75 filing_read (changing ∷ again ∷ [])) in
    let z : ◌≡◌ {A = ℕ} 73 86 = sym message_byte.0 ∙ q ∙ message_byte.1 in
    omega arith

-- ONE THAT MATCHES AGAINST THE PLAN AFTER THE CHANGE: it refuses a CHG that sets field 13

abbrev retiming : Offer
retiming = record { bytes = bytes "(CHG-ABC12-EHAM0930-EDDF-0-13/EHAM1000)"; lent = replicate 75 0 }

retiming_taken : (accepts (update_of (filed_as filing).strip just_filed retiming.bytes 75) ≡ true)
    × (answered matches_after (filed_as filing) retiming ≡ Err (refusal 12 0 0))
unfolding answer_of count_as fault_in spelling_of outer parens parens_from letters_from in_alphabet white text reduced reduced_from stands_for_run opens closes
    hyphens type_named type_ranked types_read types forms_of plan_forms brief_forms fits3 numbers_fit fits7 fits8 fits9 count_fits aircraft_fits fits10
    valid10 present fits16plan fits15 starts speeds levels speed_digits level_digits element_fits letters within radial_fits indicators name_fits
    point_fits four_letters joined time_fits fits_in unexplained has_key labels fits22 fault22 canonical_plan opening_of offered_as update_of named_by
    new_strip out_after
    front words_under date_told other_items eighteen
retiming_taken = (refl, refl)

pub matches_after_fails : Meets matches_after → ⊥
matches_after_fails h =
    let q = meets_refused matches_after h filing 1800 75 filing_read [] retiming 12 0 0 retiming_taken.1 in
    false≢true (sym (ap accepts q) ∙ retiming_taken.0)

-- ONE BY WHICH A DEP OVERWRITES THE OFF-BLOCK TIME: byte 34 is the third digit of the time in field 13

abbrev departing : Offer
departing = record { bytes = bytes "(DEP-ABC12-EHAM0941-EDDF-0)"; lent = replicate 75 0 }

time_byte : (get_or (offered_all dep_overwrites (filed_as filing) (departing ∷ [])).strip 34 0 ≡ 52)
    × (get_or (spelled (plan_by (plan_in (contents filing)) (log_all dep_overwrites (filed_as filing) [] (departing ∷ [])))) 34 0 ≡ 51)
unfolding answer_of count_as fault_in spelling_of outer parens parens_from letters_from in_alphabet white text reduced reduced_from stands_for_run opens closes
    hyphens type_named type_ranked types_read types forms_of plan_forms brief_forms fits3 numbers_fit fits7 fits8 fits9 count_fits aircraft_fits fits10
    valid10 present fits16plan fits15 starts speeds levels speed_digits level_digits element_fits letters within radial_fits indicators name_fits
    point_fits four_letters joined time_fits fits_in unexplained has_key labels fits22 fault22 canonical_plan opening_of offered_as update_of named_by
    new_strip out_after
    front words_under date_told other_items eighteen
time_byte = (refl, refl)

pub dep_overwrites_fails : Meets dep_overwrites → ⊥
dep_overwrites_fails h =
    let q = ap (λ (w : List ℕ). get_or w 34 0) (meets_strip dep_overwrites h filing 1800 75 filing_read (departing ∷ [])) in
    let z : ◌≡◌ {A = ℕ} 52 51 = sym time_byte.0 ∙ q ∙ time_byte.1 in
    omega arith

-- ONE THAT SEARCHES THE TEXT: it finds a field 9 in a route. Byte 14 is the first of field 9

abbrev rerouting : Offer
rerouting = record { bytes = bytes "(CHG-ABC12-EHAM0930-EDDF-0-15/N0440F310 FOJ180049/N0440F290 DCT)"; lent = replicate 100 0 }

found_byte : (get_or (offered_all searches (filed_as filing) (rerouting ∷ [])).strip 14 0 ≡ 78)
    × (get_or (spelled (plan_by (plan_in (contents filing)) (log_all searches (filed_as filing) [] (rerouting ∷ [])))) 14 0 ≡ 66)
unfolding answer_of count_as fault_in spelling_of outer parens parens_from letters_from in_alphabet white text reduced reduced_from stands_for_run opens closes
    hyphens type_named type_ranked types_read types forms_of plan_forms brief_forms fits3 numbers_fit fits7 fits8 fits9 count_fits aircraft_fits fits10
    valid10 present fits16plan fits15 starts speeds levels speed_digits level_digits element_fits letters within radial_fits indicators name_fits
    point_fits four_letters joined time_fits fits_in unexplained has_key labels fits22 fault22 canonical_plan opening_of offered_as update_of named_by
    new_strip out_after
    front words_under date_told other_items eighteen
    pair_fits changes
found_byte = (refl, refl)

pub searches_fails : Meets searches → ⊥
searches_fails h =
    let q = ap (λ (w : List ℕ). get_or w 14 0) (meets_strip searches h filing 1800 75 filing_read (rerouting ∷ [])) in
    let z : ◌≡◌ {A = ℕ} 78 66 = sym found_byte.0 ∙ q ∙ found_byte.1 in
    omega arith

-- OF A DESTINATION ALONE: byte 63 is the first digit of the elapsed time, byte 62 the last letter of the destination

abbrev diverting : Offer
diverting = record { bytes = bytes "(CHG-ABC12-EHAM0930-EDDF-0-16/EDDN)"; lent = replicate 75 0 }

-- ONE THAT DROPS ELAPSED TIME AND ALTERNATES with it

dropped_byte : (get_or (offered_all drops_alternates (filed_as filing) (diverting ∷ [])).strip 63 0 ≡ 45)
    × (get_or (spelled (plan_by (plan_in (contents filing)) (log_all drops_alternates (filed_as filing) [] (diverting ∷ [])))) 63 0 ≡ 48)
unfolding answer_of count_as fault_in spelling_of outer parens parens_from letters_from in_alphabet white text reduced reduced_from stands_for_run opens closes
    hyphens type_named type_ranked types_read types forms_of plan_forms brief_forms fits3 numbers_fit fits7 fits8 fits9 count_fits aircraft_fits fits10
    valid10 present fits16plan fits15 starts speeds levels speed_digits level_digits element_fits letters within radial_fits indicators name_fits
    point_fits four_letters joined time_fits fits_in unexplained has_key labels fits22 fault22 canonical_plan opening_of offered_as update_of named_by
    new_strip out_after
    front words_under date_told other_items eighteen
dropped_byte = (refl, refl)

pub drops_alternates_fails : Meets drops_alternates → ⊥
drops_alternates_fails h =
    let q = ap (λ (w : List ℕ). get_or w 63 0) (meets_strip drops_alternates h filing 1800 75 filing_read (diverting ∷ [])) in
    let z : ◌≡◌ {A = ℕ} 45 48 = sym dropped_byte.0 ∙ q ∙ dropped_byte.1 in
    omega arith

-- ONE THAT PASSES IT BY

ignored_byte : (get_or (offered_all ignores_bare (filed_as filing) (diverting ∷ [])).strip 62 0 ≡ 70)
    × (get_or (spelled (plan_by (plan_in (contents filing)) (log_all ignores_bare (filed_as filing) [] (diverting ∷ [])))) 62 0 ≡ 78)
unfolding answer_of count_as fault_in spelling_of outer parens parens_from letters_from in_alphabet white text reduced reduced_from stands_for_run opens closes
    hyphens type_named type_ranked types_read types forms_of plan_forms brief_forms fits3 numbers_fit fits7 fits8 fits9 count_fits aircraft_fits fits10
    valid10 present fits16plan fits15 starts speeds levels speed_digits level_digits element_fits letters within radial_fits indicators name_fits
    point_fits four_letters joined time_fits fits_in unexplained has_key labels fits22 fault22 canonical_plan opening_of offered_as update_of named_by
    new_strip out_after
    front words_under date_told other_items eighteen
ignored_byte = (refl, refl)

pub ignores_bare_fails : Meets ignores_bare → ⊥
ignores_bare_fails h =
    let q = ap (λ (w : List ℕ). get_or w 62 0) (meets_strip ignores_bare h filing 1800 75 filing_read (diverting ∷ [])) in
    let z : ◌≡◌ {A = ℕ} 70 78 = sym ignored_byte.0 ∙ q ∙ ignored_byte.1 in
    omega arith

-- OF DATES, on a strip of 29 February

abbrev late : Offer
late = record { bytes = bytes "(DLA-ABC12-EHAM1015-EDDF-DOF/240301)"; lent = replicate 94 0 }

-- ONE THAT COMPARES A DLA'S DATE

late_taken : (accepts (update_of (filed_as dated_filing).strip just_filed late.bytes 94) ≡ true)
    × (answered compares_delay (filed_as dated_filing) late ≡ Err (refusal 12 0 0))
unfolding answer_of count_as fault_in spelling_of outer parens parens_from letters_from in_alphabet white text reduced reduced_from stands_for_run opens closes
    hyphens type_named type_ranked types_read types forms_of plan_forms brief_forms fits3 numbers_fit fits7 fits8 fits9 count_fits aircraft_fits fits10
    valid10 present fits16plan fits15 starts speeds levels speed_digits level_digits element_fits letters within radial_fits indicators name_fits
    point_fits four_letters joined time_fits fits_in unexplained has_key labels fits22 fault22 canonical_plan opening_of offered_as update_of named_by
    new_strip out_after
    front words_under date_told other_items eighteen with_date keys_behind base date days_in
late_taken = (refl, refl)

pub compares_delay_fails : Meets compares_delay → ⊥
compares_delay_fails h =
    let q = meets_refused compares_delay h dated_filing 1800 94 dated_read [] late 12 0 0 late_taken.1 in
    false≢true (sym (ap accepts q) ∙ late_taken.0)

-- ONE THAT PUTS THE DATE BEHIND THE LAST ITEM: byte 73 is the first of field 18

last_byte : (get_or (offered_all dates_last (filed_as dated_filing) (late ∷ [])).strip 73 0 ≡ 82)
    × (get_or (spelled (plan_by (plan_in (contents dated_filing)) (log_all dates_last (filed_as dated_filing) [] (late ∷ [])))) 73 0 ≡ 68)
unfolding answer_of count_as fault_in spelling_of outer parens parens_from letters_from in_alphabet white text reduced reduced_from stands_for_run opens closes
    hyphens type_named type_ranked types_read types forms_of plan_forms brief_forms fits3 numbers_fit fits7 fits8 fits9 count_fits aircraft_fits fits10
    valid10 present fits16plan fits15 starts speeds levels speed_digits level_digits element_fits letters within radial_fits indicators name_fits
    point_fits four_letters joined time_fits fits_in unexplained has_key labels fits22 fault22 canonical_plan opening_of offered_as update_of named_by
    new_strip out_after
    front words_under date_told other_items eighteen with_date keys_behind base date days_in
last_byte = (refl, refl)

pub dates_last_fails : Meets dates_last → ⊥
dates_last_fails h =
    let q = ap (λ (w : List ℕ). get_or w 73 0) (meets_strip dates_last h dated_filing 1800 94 dated_read (late ∷ [])) in
    let z : ◌≡◌ {A = ℕ} 82 68 = sym last_byte.0 ∙ q ∙ last_byte.1 in
    omega arith

-- ONE THAT TAKES A CHG'S DATE FROM ITS ENTRY

abbrev renaming : Offer
renaming = record { bytes = bytes "(CHG-ABC12-EHAM0930-EDDF-0-18/DOF/240301)"; lent = replicate 94 0 }

renaming_taken : (accepts (update_of (filed_as dated_filing).strip just_filed renaming.bytes 94) ≡ true)
    × (answered entry_dates (filed_as dated_filing) renaming ≡ Err (refusal 12 0 0))
unfolding answer_of count_as fault_in spelling_of outer parens parens_from letters_from in_alphabet white text reduced reduced_from stands_for_run opens closes
    hyphens type_named type_ranked types_read types forms_of plan_forms brief_forms fits3 numbers_fit fits7 fits8 fits9 count_fits aircraft_fits fits10
    valid10 present fits16plan fits15 starts speeds levels speed_digits level_digits element_fits letters within radial_fits indicators name_fits
    point_fits four_letters joined time_fits fits_in unexplained has_key labels fits22 fault22 canonical_plan opening_of offered_as update_of named_by
    new_strip out_after
    front words_under date_told other_items eighteen with_date keys_behind base date days_in
renaming_taken = (refl, refl)

pub entry_dates_fails : Meets entry_dates → ⊥
entry_dates_fails h =
    let q = meets_refused entry_dates h dated_filing 1800 94 dated_read [] renaming 12 0 0 renaming_taken.1 in
    false≢true (sym (ap accepts q) ∙ renaming_taken.0)
