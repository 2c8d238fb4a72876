-- Reading needs no more room than the message has bytes, an update no more than strip and message together; and both bounds are met.
-- Assumes nothing.
use Prim.Native.Nat.{ℕ, ◌+◌, ◌-◌, ◌<◌, ◌≤◌}
use mathlib.Core.Path.{◌≡◌, refl, sym, ap, ◌∙◌, subst}
use mathlib.Core.List.{List}
use native.Mathlib.Omega.{arith}
use lib.ListN.{length, drop, length-take}
use Rattle.alphabet.specs.Text.{bytes}
use Rattle.alphabet.specs.Alphabet.{text, in_alphabet, white}
use Rattle.shape.specs.Shape.{letters}
use Rattle.shape.specs.Time.{time_fits}
use Rattle.head.specs.Field3.{types, fits3, numbers_fit}
use Rattle.head.specs.Field7.{fits7}
use Rattle.head.specs.Field8.{fits8}
use Rattle.head.specs.Field9.{fits9, count_fits, aircraft_fits}
use Rattle.equipment.specs.Field10.{fits10, valid10, present}
use Rattle.aerodromes.specs.Aerodromes.{four_letters, joined}
use Rattle.aerodromes.specs.Field16.{fits16plan}
use Rattle.route.specs.Levels.{speed_digits, level_digits, speeds, levels, starts}
use Rattle.route.specs.Points.{within, radial_fits, indicators, name_fits, point_fits}
use Rattle.route.specs.Field15.{element_fits, fits15}
use Rattle.other.specs.Field18.{fits_in, has_key, words_under}
use Rattle.plan.specs.Unexplained.{unexplained}
use Rattle.forms.specs.Field22.{labels, fits22, fault22}
use Rattle.force.specs.InForce.{named_by}
use Rattle.space.specs.Reduced.{opens, closes, stands_for_run, reduced_from, reduced}
use Rattle.space.specs.Hyphens.{hyphens}
use Rattle.text.specs.Words.{Word}
use Rattle.space.specs.Fields.{inner}
use Rattle.outer.specs.Outer.{most, parens_from, parens, letters_from, outer}
use Rattle.sent.specs.Sent.{message_of, contents}
use Rattle.kinds.specs.declared.MessageType.{MessageType}
use Rattle.kinds.specs.declared.MessageType.TheVariants.{Fpl}
use Rattle.kinds.specs.Kinds.{role_of, plan_forms, brief_forms, forms_of, types_read, type_ranked, type_named}
use Rattle.message.specs.Reading.{spelling_of, fault_in, count_as, answer_of}
use Rattle.message.proofs.Reached.{accepted_taken}
use Rattle.message.proofs.Valid.{fitting_length}
use Rattle.lines.proofs.Rooms.{enough, most_enough, spelling_short}
use Rattle.state.specs.declared.Strip.{Strip}
use Rattle.state.specs.State.{just_filed}
use Rattle.opening.specs.Opening.{text_said, canonical_plan, opening_of}
use Rattle.opening.proofs.Steps.{spelling_two}
use Rattle.amending.specs.Amended.{new_strip}
use Rattle.amending.proofs.Room.{new_room}
use Rattle.strip.specs.Updating.{offered_as, update_of}
use Rattle.history.specs.History.{spelled}
use Rattle.history.specs.Demand3.{Passes, Cause, amended_on}
use Rattle.history.specs.Demand3.Cause.{not_proper, not_read, not_fit, no_type, another_flight, not_allowed}
use Rattle.history.specs.Demand3.Cause.{unexplained as left_unexplained, too_long, no_room_lem}
use Rattle.history.proofs.Late.{late_plan}
use Rattle.history.proofs.Strip.{proper_stripped, plan_contents}
use Rattle.history.proofs.Causes.{Took, Verdict, amended_on_lem, verdict, refused_cause}
use Rattle.demands.specs.Rooms.{ReadingNeeds, UpdateNeeds}
use Rattle.std.specs.Prelude.{Ok, Err}
use Rattle.outer.specs.Refusal.{refusal}

-- READING

-- a message that is read has a spelling no longer than it
read_short : (m : List ℕ) (room : ℕ) (t : MessageType) (n : ℕ) → answer_of m room ≡ Ok (t, n) → (n ≡ length (spelling_of t m)) × (n ≤ length m)
read_short m room t n e =
    let k = accepted_taken t m room n e in
    (k.long, omega (arith, spelling_short m k.reached.good t, k.long))

-- with 1,800 bytes lent 11 is not an answer: behind 9 there is only 10
never_most : (m : List ℕ) (field place : ℕ) → answer_of m most ≡ Err (refusal 11 field place) → ⊥
never_most m field place e = let z = (late_plan m 11 field place e (omega arith)).0 in omega arith

pub reading_needs : (m : List ℕ) (room : ℕ) → ReadingNeeds m room
reading_needs m room =
    record {
      spelling = λ t n e. (read_short m room t n e).1;
      lent_message = λ h field place e. never_most m field place (sym (enough m room h) ∙ e);
      lent_most = λ h field place e. never_most m field place (sym (most_enough m room h) ∙ e);
    }

-- AN UPDATE

inner_long : (s : List ℕ) → length (inner s) ≤ length s - 2
inner_long s = omega (arith, length-take (length s - 2) (drop 1 s))

module _ (strip : List ℕ) (held : Strip) (m : List ℕ) (room : ℕ) where
  -- the amended plan of a message that passes
  new_short : Passes strip held m → length (spelled (amended_on strip m)) ≤ length strip + length m
  unfolding new_strip
  new_short k =
      let p = proper_stripped strip held k.proper in
      let nine = ap length (plan_contents strip p) ∙ fitting_length Fpl 9 (contents strip) p.fits in
      let new = ap (λ (cs : List Word). length (message_of cs)) (amended_on_lem strip held m room k.proper k.type k.long k.read k.fit) in
      let said = read_short m most k.type k.long k.read in
      let two = spelling_two m most k.type k.long k.read in
      omega (
        arith,
        new,
        new_room (inner strip) (text_said k.type m) (role_of k.type) nine,
        inner_long strip,
        inner_long (spelling_of k.type m),
        said.0,
        said.1,
      )

  -- 11 has one cause
  no_room_left : (number field place : ℕ) → Cause strip held m room number field place → number ≡ 11
      → (room < most) × (room < length strip + length m)
  no_room_left number field place (not_proper h) e = absurd (omega arith)
  no_room_left number field place (not_read p q l) e = absurd (omega arith)
  no_room_left number field place (not_fit p q) e = absurd (omega arith)
  no_room_left number field place (no_type p q f) e = absurd (omega arith)
  no_room_left number field place (another_flight p q f h) e = absurd (omega arith)
  no_room_left number field place (not_allowed p q f h a) e = absurd (omega arith)
  no_room_left number field place (left_unexplained k u) e = absurd (omega arith)
  no_room_left number field place (too_long k u l) e = absurd (omega arith)
  no_room_left number field place (no_room_lem k u l r) e = let n = new_short k in (omega arith, omega arith)

  taken_short : (next : Strip) (n : ℕ) → update_of strip held m room ≡ Ok (next, n) → n ≤ length strip + length m
  taken_short next n e =
      let t : Took strip held m room next n = subst (Verdict strip held m room) e (verdict strip held m room) in
      omega (arith, t.long, new_short t.passes)

  left : (field place : ℕ) → update_of strip held m room ≡ Err (refusal 11 field place) → (room < most) × (room < length strip + length m)
  left field place e = no_room_left 11 field place (refused_cause strip held m room 11 field place e) refl

  pub update_needs : UpdateNeeds strip held m room
  update_needs =
      record {
        spelling = taken_short;
        lent_both = λ h field place e. let k = left field place e in omega arith;
        lent_most = λ h field place e. let k = left field place e in omega arith;
      }

-- NO LESS WILL DO: a spelling just as long as its message, and an update that needs more than the strip's bytes, computed

read_tight : answer_of (bytes "(CNL-ABC12-EHAM0930-EDDF-0)") 26 ≡ Err (refusal 11 0 0)
unfolding answer_of count_as fault_in spelling_of outer parens parens_from letters_from in_alphabet white reduced reduced_from stands_for_run opens closes
    hyphens type_named type_ranked types_read types forms_of brief_forms fits3 numbers_fit fits7 four_letters joined time_fits fits_in
read_tight = refl

abbrev filed : List ℕ
filed = bytes "(FPL-ABC12-IS-B738/M-SDFG/S-EHAM0930-N0440F310 DCT PAM DCT-EDDF0100 EDDK-0)"

update_tight : update_of filed just_filed (bytes "(CHG-ABC12-EHAM0930-EDDF-0-9/2B738/M)") (length filed) ≡ Err (refusal 11 0 0)
unfolding answer_of count_as fault_in spelling_of outer parens parens_from letters_from in_alphabet white text reduced reduced_from stands_for_run opens closes
    hyphens type_named type_ranked types_read types forms_of plan_forms brief_forms fits3 numbers_fit fits7 fits8 fits9 count_fits aircraft_fits fits10
    valid10 present fits16plan fits15 starts speeds levels speed_digits level_digits element_fits letters within radial_fits indicators name_fits
    point_fits four_letters joined time_fits fits_in unexplained has_key words_under labels fits22 fault22 canonical_plan opening_of offered_as new_strip
    update_of named_by
update_tight = refl
