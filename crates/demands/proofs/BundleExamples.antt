-- A bundle and its entries one by one, computed: singles that are all accepted; why each must be; an updater that does not pass. Assumes nothing.
use Prim.Native.Nat.{ℕ}
use Prim.Native.String.{String}
use mathlib.Core.Path.{◌≡◌, refl, sym, ap, subst, ◌∙◌}
use mathlib.Core.List.{[], ◌∷◌}
use native.Mathlib.Omega.{arith}
use lib.ListN.{get_or, replicate}
use Rattle.alphabet.specs.Text.{bytes}
use Rattle.alphabet.specs.Alphabet.{text, in_alphabet, white}
use Rattle.text.specs.Lent.{front}
use Rattle.shape.specs.Shape.{letters}
use Rattle.shape.specs.Time.{time_fits}
use Rattle.head.specs.Field3.{types, fits3, numbers_fit}
use Rattle.head.specs.Field7.{fits7}
use Rattle.head.specs.Field8.{fits8}
use Rattle.head.specs.Field9.{fits9, count_fits, aircraft_fits}
use Rattle.equipment.specs.Field10.{fits10, valid10, present}
use Rattle.aerodromes.specs.Aerodromes.{four_letters, joined}
use Rattle.aerodromes.specs.Field16.{fits16plan}
use Rattle.route.specs.Levels.{speed_digits, level_digits, speeds, levels, starts}
use Rattle.route.specs.Points.{within, radial_fits, indicators, name_fits, point_fits}
use Rattle.route.specs.Field15.{element_fits, fits15}
use Rattle.other.specs.Rules.{base}
use Rattle.other.specs.Field18.{fits_in, has_key, words_under}
use Rattle.space.specs.Reduced.{opens, closes, stands_for_run, reduced_from, reduced}
use Rattle.space.specs.Hyphens.{hyphens}
use Rattle.outer.specs.Outer.{parens_from, parens, letters_from, outer}
use Rattle.kinds.specs.Kinds.{plan_forms, brief_forms, forms_of, types_read, type_ranked, type_named}
use Rattle.forms.specs.Field22.{labels, fits22, fault22}
use Rattle.plan.specs.Unexplained.{unexplained}
use Rattle.message.specs.Reading.{spelling_of, fault_in, count_as, answer_of}
use Rattle.force.specs.InForce.{named_by}
use Rattle.force.specs.InForce.Reordered.{empty, keep, swap}
use Rattle.state.specs.State.{just_filed}
use Rattle.opening.specs.Opening.{canonical_plan, opening_of}
use Rattle.amending.specs.Amended.{new_strip}
use Rattle.strip.specs.Updating.{offered_as, update_of, out_after}
use Rattle.history.specs.Demand3.{updater, Standing, Offer, answered, offered, offered_all}
use Rattle.history.specs.Slips.{first_entry}
use Rattle.demands.specs.Examples.{AllHold}
use Rattle.demands.specs.Turns.{standing, offer}
use Rattle.demands.specs.Bundles.{Accepts, OneByOne, none_left, and_then, SameOneByOne, of_unlisted, of_heads}
use Rattle.demands.proofs.Bundles.{one_by_one}
use Rattle.std.specs.Prelude.{Err}
use Rattle.outer.specs.Refusal.{refusal}

pub unlisted_hold : AllHold of_unlisted
unfolding answer_of count_as fault_in spelling_of outer parens parens_from letters_from in_alphabet white text reduced reduced_from stands_for_run opens closes
    hyphens type_named type_ranked types_read types forms_of plan_forms brief_forms fits3 numbers_fit fits7 fits8 fits9 count_fits aircraft_fits fits10
    valid10 present fits16plan fits15 starts speeds levels speed_digits level_digits element_fits letters within radial_fits indicators name_fits
    point_fits four_letters joined time_fits fits_in base unexplained has_key words_under labels fits22 fault22 canonical_plan opening_of offered_as new_strip
    update_of out_after front named_by
unlisted_hold = ((refl, refl), ((refl, refl), ((refl, refl), (refl, tt))))

pub heads_hold : AllHold of_heads
unfolding answer_of count_as fault_in spelling_of outer parens parens_from letters_from in_alphabet white text reduced reduced_from stands_for_run opens closes
    hyphens type_named type_ranked types_read types forms_of plan_forms brief_forms fits3 numbers_fit fits7 fits8 fits9 count_fits aircraft_fits fits10
    valid10 present fits16plan fits15 starts speeds levels speed_digits level_digits element_fits letters within radial_fits indicators name_fits
    point_fits four_letters joined time_fits fits_in unexplained has_key words_under labels fits22 fault22 canonical_plan opening_of offered_as new_strip
    update_of out_after front named_by
heads_hold = ((refl, refl), ((refl, refl), ((refl, refl), ((refl, refl), (refl, tt)))))

-- DOCUMENT 01'S STRIP, and messages offered to it with room for the new strip

abbrev plan : String → Standing
plan s = standing (bytes s) just_filed

abbrev sent : String → Offer
sent m = offer (bytes m) (replicate 80 0)

abbrev filed : Standing
filed = plan "(FPL-ABC12-IS-B738/M-SDFG/S-EHAM0930-N0440F310 DCT PAM DCT-EDDF0100 EDDK-0)"

-- ALL ACCEPTED: the explanation first, with another field 18 of its own and white space; the end is the bundle's

abbrev bundle : Offer
bundle = sent "(CHG-ABC12-EHAM0930-EDDF-0-9/ZZZZ/M-18/TYP/X)"

abbrev explanation : Offer
explanation = sent "(CHG-ABC12 -EHAM0930-EDDF-RMK/HANDED IN-18/TYP/X )"

abbrev aircraft : Offer
aircraft = sent "(CHG-ABC12-EHAM0930-EDDF-0-9/ZZZZ/M)"

abbrev explained : Standing
explained = plan "(FPL-ABC12-IS-B738/M-SDFG/S-EHAM0930-N0440F310 DCT PAM DCT-EDDF0100 EDDK-TYP/X)"

bundle_taken : Accepts updater filed bundle (bytes "9/ZZZZ/M" ∷ (bytes "18/TYP/X" ∷ []))
unfolding answer_of count_as fault_in spelling_of outer parens parens_from letters_from in_alphabet white text reduced reduced_from stands_for_run opens closes
    hyphens type_named type_ranked types_read types forms_of plan_forms brief_forms fits3 numbers_fit fits7 fits8 fits9 count_fits aircraft_fits fits10
    valid10 present fits16plan fits15 starts speeds levels speed_digits level_digits element_fits letters within radial_fits indicators name_fits
    point_fits four_letters joined time_fits fits_in base unexplained has_key words_under labels fits22 fault22 canonical_plan opening_of offered_as new_strip
    update_of out_after front named_by
bundle_taken = record { long = 45; read = refl; entries_are = refl; held = just_filed; written = 79; accepted = refl }

singles_taken : Accepts updater filed explanation (bytes "18/TYP/X" ∷ []) × (offered updater filed explanation ≡ explained)
    × Accepts updater explained aircraft (bytes "9/ZZZZ/M" ∷ [])
unfolding answer_of count_as fault_in spelling_of outer parens parens_from letters_from in_alphabet white text reduced reduced_from stands_for_run opens closes
    hyphens type_named type_ranked types_read types forms_of plan_forms brief_forms fits3 numbers_fit fits7 fits8 fits9 count_fits aircraft_fits fits10
    valid10 present fits16plan fits15 starts speeds levels speed_digits level_digits element_fits letters within radial_fits indicators name_fits
    point_fits four_letters joined time_fits fits_in base unexplained has_key words_under labels fits22 fault22 canonical_plan opening_of offered_as new_strip
    update_of out_after front named_by
singles_taken = (
  record { long = 48; read = refl; entries_are = refl; held = just_filed; written = 79; accepted = refl },
  refl,
  record { long = 36; read = refl; entries_are = refl; held = just_filed; written = 79; accepted = refl },
)

explained_first : OneByOne updater filed (explanation ∷ (aircraft ∷ [])) (bytes "18/TYP/X" ∷ (bytes "9/ZZZZ/M" ∷ []))
explained_first =
    let later = subst (λ (b : Standing). Accepts updater b aircraft (bytes "9/ZZZZ/M" ∷ [])) (sym singles_taken.1) singles_taken.2 in
    and_then singles_taken.0 (and_then later none_left)

pub same_end : offered_all updater filed (explanation ∷ (aircraft ∷ [])) ≡ offered updater filed bundle
same_end =
    one_by_one filed bundle (bytes "9/ZZZZ/M" ∷ (bytes "18/TYP/X" ∷ [])) bundle_taken (bytes "18/TYP/X" ∷ (bytes "9/ZZZZ/M" ∷ []))
    (swap (bytes "9/ZZZZ/M") (bytes "18/TYP/X")) (explanation ∷ (aircraft ∷ [])) explained_first

-- WHY EACH MUST BE ACCEPTED: with the ZZZZ first, which is refused, the end is another. Byte 14 is the first of field 9

aircraft_refused : (answered updater filed aircraft ≡ Err (refusal 10 9 0)) × (offered updater filed aircraft ≡ filed)
    × (get_or (offered updater filed bundle).strip 14 0 ≡ 90)
unfolding answer_of count_as fault_in spelling_of outer parens parens_from letters_from in_alphabet white text reduced reduced_from stands_for_run opens closes
    hyphens type_named type_ranked types_read types forms_of plan_forms brief_forms fits3 numbers_fit fits7 fits8 fits9 count_fits aircraft_fits fits10
    valid10 present fits16plan fits15 starts speeds levels speed_digits level_digits element_fits letters within radial_fits indicators name_fits
    point_fits four_letters joined time_fits fits_in base unexplained has_key words_under labels fits22 fault22 canonical_plan opening_of offered_as new_strip
    update_of out_after front named_by
aircraft_refused = (refl, refl, refl)

pub acceptance_needed : offered_all updater filed (aircraft ∷ (explanation ∷ [])) ≡ offered updater filed bundle → ⊥
acceptance_needed h =
    let first = ap (λ (b : Standing). offered updater b explanation) aircraft_refused.1 ∙ singles_taken.1 in
    let z : ◌≡◌ {A = ℕ} 66 90 = ap (λ (b : Standing). get_or b.strip 14 0) (sym first ∙ h) ∙ aircraft_refused.2 in
    omega arith

-- ONE THAT DOES NOT PASS: it applies the first entry of a message alone. Byte 12 is the second of field 8

abbrev two : Offer
two = sent "(CHG-ABC12-EHAM0930-EDDF-0-9/B39M/M-8/IN)"

abbrev first : Offer
first = sent "(CHG-ABC12-EHAM0930-EDDF-0-9/B39M/M)"

abbrev second : Offer
second = sent "(CHG-ABC12-EHAM0930-EDDF-0-8/IN)"

abbrev half : Standing
half = plan "(FPL-ABC12-IS-B39M/M-SDFG/S-EHAM0930-N0440F310 DCT PAM DCT-EDDF0100 EDDK-0)"

two_taken : Accepts first_entry filed two (bytes "9/B39M/M" ∷ (bytes "8/IN" ∷ [])) × (offered first_entry filed two ≡ half)
unfolding answer_of count_as fault_in spelling_of outer parens parens_from letters_from in_alphabet white text reduced reduced_from stands_for_run opens closes
    hyphens type_named type_ranked types_read types forms_of plan_forms brief_forms fits3 numbers_fit fits7 fits8 fits9 count_fits aircraft_fits fits10
    valid10 present fits16plan fits15 starts speeds levels speed_digits level_digits element_fits letters within radial_fits indicators name_fits
    point_fits four_letters joined time_fits fits_in unexplained has_key words_under labels fits22 fault22 canonical_plan opening_of offered_as new_strip
    update_of out_after front named_by
two_taken = (record { long = 41; read = refl; entries_are = refl; held = just_filed; written = 75; accepted = refl }, refl)

both_taken : Accepts first_entry filed first (bytes "9/B39M/M" ∷ []) × (offered first_entry filed first ≡ half)
    × Accepts first_entry half second (bytes "8/IN" ∷ []) × (get_or (offered first_entry half second).strip 12 0 ≡ 78)
unfolding answer_of count_as fault_in spelling_of outer parens parens_from letters_from in_alphabet white text reduced reduced_from stands_for_run opens closes
    hyphens type_named type_ranked types_read types forms_of plan_forms brief_forms fits3 numbers_fit fits7 fits8 fits9 count_fits aircraft_fits fits10
    valid10 present fits16plan fits15 starts speeds levels speed_digits level_digits element_fits letters within radial_fits indicators name_fits
    point_fits four_letters joined time_fits fits_in unexplained has_key words_under labels fits22 fault22 canonical_plan opening_of offered_as new_strip
    update_of out_after front named_by
both_taken = (
  record { long = 36; read = refl; entries_are = refl; held = just_filed; written = 75; accepted = refl },
  refl,
  record { long = 32; read = refl; entries_are = refl; held = just_filed; written = 75; accepted = refl },
  refl,
)

pub first_entry_apart : SameOneByOne first_entry → ⊥
first_entry_apart h =
    let es = bytes "9/B39M/M" ∷ (bytes "8/IN" ∷ []) in
    let later = subst (λ (b : Standing). Accepts first_entry b second (bytes "8/IN" ∷ [])) (sym both_taken.1) both_taken.2 in
    let end =
    h filed two es two_taken.0 es (keep (bytes "9/B39M/M") (keep (bytes "8/IN") empty)) (first ∷ (second ∷ []))
    (and_then both_taken.0 (and_then later none_left)) in
    let last = ap (λ (b : Standing). offered first_entry b second) (sym both_taken.1) in
    let z : ◌≡◌ {A = ℕ} 78 83 = sym both_taken.3 ∙ ap (λ (b : Standing). get_or b.strip 12 0) (last ∙ end ∙ two_taken.1) in
    omega arith
