-- The fields in force (document 01, "The strip"): what a CHG has in place of a plan's fields, where it stands, and what its entries make of the plan.
-- A plan and a CHG are given by their texts, which stand between the parentheses. The fields that an entry can name have ranks 1 to 8, and the plan's
-- field of rank k is its k-th, counted from 0: the field of rank 0 is field 3, which no entry names. Assumes nothing.
use Rattle.std.specs.Prelude.{ℕ, zero, suc, ◌+◌, ◌-◌, ◌≤◌, ◌≡◌, refl, Bool, true, false, ◌&&◌, cond, List, [], ◌∷◌, ◌++◌, map, ltb, eqb, length, take, drop}
use Rattle.std.specs.Prelude.{get_or, set, Some, None}
use Rattle.std.specs.Prelude as rust
use Rattle.std.specs.Borrow.{Bor}
use Rattle.std.proofs.Math.Option
use Rattle.std.proofs.Math.Option.{Option, none, some}
use Rattle.alphabet.specs.Text.{bytes}
use Rattle.text.specs.Words.{Word, split, behind, all}
use Rattle.space.specs.Hyphens.{behind_hyphen}
use Rattle.sent.specs.Sent.{message_of}
use Rattle.aerodromes.specs.Aerodromes.{four_letters}
use Rattle.aerodromes.specs.Field16.{fits16}
use Rattle.kinds.specs.Kinds.{plan7, plan16, first_entry}
use Rattle.forms.specs.Field22.{labels, which_of}
use Rattle.force.specs.declared.Entries.{Entries}
use Rattle.force.specs.declared.Span.{Span}

-- THE ENTRIES of a CHG stand behind its fields 3, 7, 13, 16 and 18

abbrev pub entries_of : List ℕ → List Word
entries_of chg = drop first_entry (split 45 chg)

-- those of the bytes that are left, if any are left: behind the last entry none are
abbrev pub pieces_of_rest : rust.Option (Bor (List ℕ)) → List Word
pieces_of_rest None = []
pieces_of_rest (Some text) = split 45 text.now

-- the entries that are still to come
abbrev pub entries_left : Entries → List Word
entries_left e = pieces_of_rest e.left

-- the content behind the oblique of the first entry that names the field of rank k
abbrev pub lookup : ℕ → List Word → Option Word
lookup k [] = none
lookup k (e ∷ es) = cond (eqb (which_of e) k) (some (behind 47 e)) (lookup k es)

-- what a CHG has for the field of rank k
unfoldable pub named_by : List ℕ → ℕ → Option Word
named_by chg k = cond (eqb k 0) none (lookup k (entries_of chg))

-- THE FIELD IN FORCE: as the CHG has it if it names the field, otherwise as the plan has it

abbrev pub field_at : List ℕ → ℕ → Word
field_at s j = get_or (split 45 s) j []

abbrev pub in_force : List ℕ → List ℕ → ℕ → Word
in_force plan chg k = Option.get_or (named_by chg k) (field_at plan k)

-- WHERE IT STANDS

-- field j of a text begins so many bytes on; at the end where there are fewer fields
abbrev pub place_of : List ℕ → ℕ → ℕ
place_of s j = length s - length (behind_hyphen j s)

-- the place of that content, in entries that begin at `at`: behind the oblique, and at the entry's end where it has none
abbrev pub lookup_at : ℕ → ℕ → List Word → Option ℕ
lookup_at k at [] = none
lookup_at k at (e ∷ es) = cond (eqb (which_of e) k) (some (at + (length e - length (behind 47 e)))) (lookup_at k (at + suc (length e)) es)

unfoldable pub named_at : List ℕ → ℕ → Option ℕ
named_at chg k = cond (eqb k 0) none (lookup_at k (place_of chg first_entry) (entries_of chg))

-- the entries begin at this place
abbrev pub AtEntries : List ℕ → ℕ → Type 0
AtEntries chg at = (at ≤ length chg) × (drop at chg ≡ behind_hyphen first_entry chg)

-- what finding an entry gives: the ends of its content
abbrev pub FoundIn : List ℕ → ℕ → rust.Option Span → Type 0
FoundIn chg k (Some s) =
    (s.from ≤ s.to) × (s.to ≤ length chg) × (named_by chg k ≡ some (take (s.to - s.from) (drop s.from chg))) × (named_at chg k ≡ some s.from)
FoundIn chg k None = (named_by chg k ≡ none) × (named_at chg k ≡ none)

-- THE AMENDED PLAN: an entry's content stands in the place of the plan's own; four letters alone for field 16 are a new destination, and what stands
-- behind the plan's own destination stays (document 02, request 2)

-- a destination alone, for the field of rank k
abbrev pub bare : ℕ → Word → Bool
bare k c = eqb k plan16 && fits16 c

-- the plan's own field of rank k with such a content put in
abbrev pub put_in : ℕ → Word → Word → Word
put_in k c own = cond (bare k c) (c ++ drop 4 own) c

-- and with what is had for it, if anything is
abbrev pub changed_by : ℕ → Option Word → Word → Word
changed_by k none own = own
changed_by k (some c) own = put_in k c own

-- n fields from the j-th on
abbrev pub fields_from : (ℕ → Word) → ℕ → ℕ → List Word
fields_from f j zero = []
fields_from f j (suc n) = f j ∷ fields_from f (suc j) n

-- the nine fields of the amended plan
abbrev pub amended_by : List ℕ → List ℕ → List Word
amended_by plan chg = fields_from (λ k. changed_by k (named_by chg k) (field_at plan k)) 0 9

-- ONE ENTRY AFTER THE OTHER

-- the fields with one entry's content put in, and with that of each
abbrev pub replaced : List Word → Word → List Word
replaced cs e = set cs (which_of e) (put_in (which_of e) (behind 47 e) (get_or cs (which_of e) []))

abbrev pub replaced_by : List Word → List Word → List Word
replaced_by cs [] = cs
replaced_by cs (e ∷ es) = replaced_by (replaced cs e) es

-- the same entries in another order
pub data Reordered : List Word → List Word → Type 0 where
  empty : Reordered [] []
  keep : (e : Word) {es fs : List Word} → Reordered es fs → Reordered (e ∷ es) (e ∷ fs)
  swap : (e f : Word) {es : List Word} → Reordered (e ∷ (f ∷ es)) (f ∷ (e ∷ es))
  join : {es fs gs : List Word} → Reordered es fs → Reordered fs gs → Reordered es gs

-- the ranks of the fields that entries name; each names one of the eight
abbrev pub ranks_of : List Word → List ℕ
ranks_of es = map which_of es

abbrev pub all_named : List Word → Bool
all_named es = all (λ e. ltb 0 (which_of e)) es

-- EXAMPLES, computed

abbrev plan : List ℕ
plan = bytes "FPL-ABC12-IS-B738/M-SDFG/S-EHAM0930-N0440F310 DCT PAM DCT-EDDF0100 EDDK-0"

abbrev chg : List ℕ
chg = bytes "CHG-ABC12-EHAM0930-EDDF-0-9/B39M/M-8/IN"

amended : message_of (amended_by plan chg) ≡ bytes "(FPL-ABC12-IN-B39M/M-SDFG/S-EHAM0930-N0440F310 DCT PAM DCT-EDDF0100 EDDK-0)"
unfolding named_by labels
amended = refl

-- a destination alone: elapsed time and alternates keep their bytes. Four letters are none for field 7, nor is a whole field 16
put_in_lem : (bare plan16 (bytes "EDDN") ≡ true) × (bare plan16 (bytes "EDDN0100") ≡ false) × (bare plan7 (bytes "EDDN") ≡ false)
    × (put_in plan16 (bytes "EDDN") (bytes "EDDF0100 EDDK") ≡ bytes "EDDN0100 EDDK")
    × (put_in plan16 (bytes "EDDN0200") (bytes "EDDF0100 EDDK") ≡ bytes "EDDN0200")
    × (put_in plan7 (bytes "EDDN") (bytes "ABC12/A7777") ≡ bytes "EDDN")
unfolding four_letters
put_in_lem = (refl, refl, refl, refl, refl, refl)

abbrev rerouted : List ℕ
rerouted = bytes "CHG-ABC12-EHAM0930-EDDF-0-16/EDDN-8/IN"

new_destination : message_of (amended_by plan rerouted) ≡ bytes "(FPL-ABC12-IN-B738/M-SDFG/S-EHAM0930-N0440F310 DCT PAM DCT-EDDN0100 EDDK-0)"
unfolding named_by labels four_letters
new_destination = refl

-- one entry after the other gives the same
one_by_one : (replaced_by (split 45 plan) (entries_of chg) ≡ amended_by plan chg)
    × (replaced_by (split 45 plan) (entries_of rerouted) ≡ amended_by plan rerouted)
unfolding named_by labels four_letters
one_by_one = (refl, refl)

in_force_lem : (in_force plan chg 3 ≡ bytes "B39M/M") × (in_force plan chg 4 ≡ bytes "SDFG/S") × (in_force plan chg 0 ≡ bytes "FPL")
    × (in_force plan chg 9 ≡ [])
unfolding named_by labels
in_force_lem = (refl, refl, refl, refl)

placed : (named_at chg 3 ≡ some 28) × (drop 28 chg ≡ bytes "B39M/M-8/IN") × (named_at chg 4 ≡ none) × (place_of plan 4 ≡ 20)
unfolding named_at behind_hyphen labels
placed = (refl, refl, refl, refl)

-- a number in a remark names no field, and the CHG's own field 18 is not the plan's
abbrev remarked : List ℕ
remarked = bytes "FPL-ABC12-IS-B738/M-SDFG/S-EHAM0930-N0440F310 DCT-EDDF0100-RMK/9 B738"

remarks : (in_force remarked (bytes "CHG-ABC12-EHAM0930-EDDF-RMK/9 B39M-8/IN") 3 ≡ bytes "B738/M")
    × (in_force remarked (bytes "CHG-ABC12-EHAM0930-EDDF-RMK/9 B39M-8/IN") 8 ≡ bytes "RMK/9 B738")
    × (in_force remarked (bytes "CHG-ABC12-EHAM0930-EDDF-0-18/RMK/9 B39M") 3 ≡ bytes "B738/M")
    × (in_force remarked (bytes "CHG-ABC12-EHAM0930-EDDF-0-18/RMK/9 B39M") 8 ≡ bytes "RMK/9 B39M")
unfolding named_by labels
remarks = (refl, refl, refl, refl)
