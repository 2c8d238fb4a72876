-- Every example of the list holds: one statement, which is computed. Assumes nothing.
use mathlib.Core.Path.{refl}
use mathlib.Core.List.{List, [], ◌∷◌, ◌++◌}
use lib.ListN.{take, drop}
use Rattle.alphabet.specs.Alphabet.{text, in_alphabet, white}
use Rattle.shape.specs.Shape.{letters}
use Rattle.shape.specs.Time.{time_fits}
use Rattle.head.specs.Field7.{fits7}
use Rattle.head.specs.Field8.{fits8}
use Rattle.head.specs.Field9.{fits9, count_fits, aircraft_fits}
use Rattle.equipment.specs.Field10.{fits10, valid10, present}
use Rattle.aerodromes.specs.Aerodromes.{four_letters, joined}
use Rattle.aerodromes.specs.Field16.{fits16plan}
use Rattle.aerodromes.specs.Field17.{fits17, unlisted}
use Rattle.route.specs.Levels.{speed_digits, level_digits, speeds, levels, starts, changes, climbs}
use Rattle.route.specs.Points.{within, radial_fits, indicators, name_fits, point_fits}
use Rattle.route.specs.Field15.{pair_fits, element_fits, fits15, record15}
use Rattle.other.specs.Rules.{statuses, approvals, approved, days_in, date, timed as timed_word, hexadecimal, base}
use Rattle.other.specs.Field18.{fits_in, has_key, words_under}
use Rattle.dates.specs.Dates.{keys_behind, with_date}
use Rattle.supplement.specs.Field19.{fits19, keyed}
use Rattle.head.specs.Field3.{types, fits3, numbers_fit}
use Rattle.space.specs.Reduced.{opens, closes, stands_for_run, reduced_from, reduced}
use Rattle.space.specs.Hyphens.{hyphens, up_to_hyphen, place_of_hyphen, behind_hyphen}
use Rattle.space.specs.Places.{sent_from, sent_place}
use Rattle.places.specs.Parts.{time_place}
use Rattle.outer.specs.Outer.{parens_from, parens, letters_from, outer}
use Rattle.kinds.specs.Kinds.{plan_forms, brief_forms, forms_of, form_at, types_read, type_ranked, type_named}
use Rattle.forms.specs.Field22.{labels, fits22, fault22}
use Rattle.plan.specs.Unexplained.{unexplained}
use Rattle.message.specs.Reading.{place_of7, spelling_of, fault_in, count_as, answer_of}
use Rattle.text.specs.Lent.{front}
use Rattle.force.specs.InForce.{named_by, named_at}
use Rattle.opening.specs.Opening.{canonical_plan, opening_of}
use Rattle.amending.specs.Amended.{new_strip}
use Rattle.strip.specs.Updating.{offered_as, update_of, out_after}
use Rattle.asked.specs.Asking.{type_as, asked_of}
use Rattle.demands.specs.Examples.{Example, AllHold, of_fields, of_elapsed, of_messages, of_strips, of_destinations, OfDates, examples}

-- two lists joined
both_hold : (xs ys : List Example) → AllHold xs → AllHold ys → AllHold (xs ++ ys)
both_hold [] ys h k = k
both_hold (x ∷ xs) ys h k = (h.0, both_hold xs ys h.1 k)

fields_hold : AllHold of_fields
unfolding text in_alphabet white letters time_fits fits7 fits9 count_fits aircraft_fits fits10 valid10 present four_letters joined fits17 unlisted speed_digits
    level_digits speeds levels starts changes climbs within radial_fits indicators name_fits point_fits pair_fits element_fits fits15 statuses approvals
    approved days_in date timed_word hexadecimal base fits_in record15
fields_hold =
    both_hold (take 11 of_fields) (drop 11 of_fields)
    (refl, (refl, (refl, (refl, ((refl, refl), (refl, ((refl, refl), (refl, ((refl, refl), (refl, (refl, tt)))))))))))
    (refl, (refl, (refl, (refl, (refl, (refl, (refl, (refl, (refl, (refl, tt))))))))))

elapsed_hold : AllHold of_elapsed
unfolding fits16plan joined four_letters time_fits fits_in base timed_word letters fits19 keyed
elapsed_hold = (refl, (refl, (refl, (refl, (refl, (refl, tt))))))

messages_hold : AllHold of_messages
unfolding answer_of place_of7 sent_place sent_from behind_hyphen time_place count_as fault_in spelling_of outer parens parens_from letters_from in_alphabet
    white
    reduced reduced_from stands_for_run opens closes hyphens
    up_to_hyphen place_of_hyphen type_named type_ranked types_read types forms_of brief_forms form_at fits3 numbers_fit fits7 four_letters joined time_fits
    fits_in
messages_hold = ((refl, refl), (refl, (refl, (refl, (refl, tt)))))

strips_hold : AllHold of_strips
unfolding answer_of count_as fault_in spelling_of outer parens parens_from letters_from in_alphabet white text reduced reduced_from stands_for_run opens closes
    hyphens type_named type_ranked types_read types forms_of plan_forms brief_forms fits3 numbers_fit fits7 fits8 fits9 count_fits aircraft_fits fits10
    valid10 present fits16plan fits15 starts speeds levels speed_digits level_digits element_fits letters within radial_fits indicators name_fits
    point_fits four_letters joined time_fits fits_in unexplained has_key labels fits22 fault22 canonical_plan opening_of offered_as new_strip update_of
    out_after front
    named_by named_at behind_hyphen type_as asked_of words_under
strips_hold = ((refl, refl), (refl, (refl, tt)))

destinations_hold : AllHold of_destinations
unfolding answer_of count_as fault_in spelling_of outer parens parens_from letters_from in_alphabet white text reduced reduced_from stands_for_run opens closes
    hyphens type_named type_ranked types_read types forms_of plan_forms brief_forms fits3 numbers_fit fits7 fits8 fits9 count_fits aircraft_fits fits10
    valid10 present fits16plan fits15 starts speeds levels speed_digits level_digits element_fits letters within radial_fits indicators name_fits
    point_fits four_letters joined time_fits fits_in unexplained has_key labels fits22 fault22 canonical_plan opening_of offered_as new_strip update_of
    out_after front
    named_by named_at behind_hyphen type_as asked_of words_under form_at place_of_hyphen up_to_hyphen
destinations_hold = (refl, (refl, (refl, ((refl, refl), (refl, ((refl, refl), (refl, (refl, (refl, tt)))))))))

dates_hold : AllHold OfDates
unfolding answer_of count_as fault_in spelling_of outer parens parens_from letters_from in_alphabet white text reduced reduced_from stands_for_run opens closes
    hyphens type_named type_ranked types_read types forms_of plan_forms brief_forms fits3 numbers_fit fits7 fits8 fits9 count_fits aircraft_fits fits10
    valid10 present fits16plan fits15 starts speeds levels speed_digits level_digits element_fits letters within radial_fits indicators name_fits
    point_fits four_letters joined time_fits fits_in unexplained has_key labels fits22 fault22 canonical_plan opening_of offered_as new_strip update_of
    out_after front
    named_by named_at behind_hyphen type_as asked_of words_under with_date keys_behind base date days_in
dates_hold = ((refl, refl), ((refl, refl), ((refl, refl), (refl, ((refl, refl), (refl, tt))))))

pub examples_hold : AllHold examples
examples_hold =
    let later = of_destinations ++ OfDates in
    let strips = of_strips ++ later in
    both_hold of_fields (of_elapsed ++ (of_messages ++ strips)) fields_hold
    (both_hold of_elapsed (of_messages ++ strips) elapsed_hold
    (both_hold of_messages strips messages_hold
    (both_hold of_strips later strips_hold (both_hold of_destinations OfDates destinations_hold dates_hold))))
