-- Updaters that must not pass (document 01, "Examples on each side" and "How far each contract reaches"; document 02). But for its slip each does as the
-- update does. Assumes nothing.
use Rattle.std.specs.Prelude.{ℕ, zero, suc, Bool, true, false, ◌&&◌, cond, List, [], ◌∷◌, ◌++◌, eqb, length, take, drop, get_or, set, Ok, Err}
use Rattle.std.proofs.Math.Option
use Rattle.std.proofs.Math.Option.{Option, none, some}
use Rattle.alphabet.specs.Text.{bytes}
use Rattle.text.specs.Words.{Word, split, null, same, before}
use Rattle.text.specs.Lent.{front}
use Rattle.space.specs.Fields.{inner}
use Rattle.outer.specs.Outer.{most}
use Rattle.sent.specs.Sent.{message_of, contents}
use Rattle.kinds.specs.declared.Role.{Role}
use Rattle.kinds.specs.declared.Role.TheVariants.{Files, Changes, Delays, Cancels, Departs, Arrives, Neither}
use Rattle.aerodromes.specs.Field16.{fits16}
use Rattle.dates.specs.Dates.{date_in, dated}
use Rattle.kinds.specs.Kinds.{role_of, plan16, plan18, brief18, first_entry as entries_from}
use Rattle.forms.specs.Field22.{label_of}
use Rattle.message.specs.Reading.{answer_of}
use Rattle.force.specs.InForce.{named_by, field_at, fields_from}
use Rattle.strip.specs.Updating.{Updated, other_day, differences, differs, update_of, type_read, out_after}
use Rattle.opening.specs.Opening.{text_said}
use Rattle.amending.specs.Amended.{content_of, amended, new_strip}
use Rattle.history.specs.Eighteen.{other_items}
use Rattle.history.specs.History.{entry_of}
use Rattle.history.specs.Demand3.{Updater}
use Rattle.outer.specs.Refusal.{refusal}

-- one that refuses all, with whatever number, field and place
abbrev pub refuses_all : ℕ → ℕ → ℕ → Updater
refuses_all number field place = record { answer = λ strip held m out. Err (refusal number field place); output = λ strip held m out. out }

-- one that does nothing: it writes nothing, whatever it answers
abbrev pub does_nothing : Updater
does_nothing = record { answer = λ strip held m out. update_of strip held m (length out); output = λ strip held m out. out }

-- one that copies the strip and calls it amended
abbrev pub copied_as : Updated → List ℕ → Updated
copied_as (Ok (held, n)) strip = Ok (held, length strip)
copied_as (Err r) strip = Err r

abbrev pub copy_as : Updated → List ℕ → List ℕ → List ℕ
copy_as (Ok (held, n)) strip out = front strip out
copy_as (Err r) strip out = out

abbrev pub copies : Updater
copies =
    record {
      answer = λ strip held m out. copied_as (update_of strip held m (length out)) strip;
      output = λ strip held m out. copy_as (update_of strip held m (length out)) strip out;
    }

-- one that applies only the first entry: it leaves off what stands behind a message's sixth field
abbrev pub first_six : List ℕ → List ℕ
first_six m = message_of (take 6 (contents m))

abbrev pub first_entry : Updater
first_entry =
    record {
      answer = λ strip held m out. update_of strip held (first_six m) (length out);
      output = λ strip held m out. out_after strip held (first_six m) out;
    }

-- one that applies only the first message of a run: once the strip is no longer as filed it copies it
abbrev pub first_message : List ℕ → Updater
first_message filed =
    record {
      answer = λ strip held m out. cond (same strip filed) (update_of strip held m (length out)) (copied_as (update_of strip held m (length out)) strip);
      output = λ strip held m out. cond (same strip filed) (out_after strip held m out) (copy_as (update_of strip held m (length out)) strip out);
    }

-- one that matches a message against the plan as it is after the change
abbrev pub matches_after : Updater
matches_after =
    record {
      answer = λ strip held m out.
          let t = type_read (answer_of m most) in
          let found = differences (role_of t) (amended (role_of t) (inner strip) (text_said t m)) (split 45 (text_said t m)) in
          cond (differs found) (Err (refusal 12 0 0)) (update_of strip held m (length out));
      output = λ strip held m out.
          let t = type_read (answer_of m most) in
          let found = differences (role_of t) (amended (role_of t) (inner strip) (text_said t m)) (split 45 (text_said t m)) in
          cond (differs found) out (out_after strip held m out);
    }

-- one by which a DEP overwrites the off-block time, as a DLA does
abbrev pub as_delay : Role → Role
as_delay Departs = Delays
as_delay Files = Files
as_delay Changes = Changes
as_delay Delays = Delays
as_delay Cancels = Cancels
as_delay Arrives = Arrives
as_delay Neither = Neither

abbrev pub dep_overwrites : Updater
dep_overwrites =
    record {
      answer = λ strip held m out. update_of strip held m (length out);
      output = λ strip held m out.
          let t = type_read (answer_of m most) in
          copy_as (update_of strip held m (length out)) (new_strip (as_delay (role_of t)) (inner strip) (text_said t m)) out;
    }

-- one that finds a field by searching the text of the message for its number and an oblique
abbrev pub find_text : Word → List ℕ → Option Word
find_text w [] = none
find_text w (b ∷ s) = cond (same (take (length w) (b ∷ s)) w) (some (before 45 (drop (length w) (b ∷ s)))) (find_text w s)

abbrev pub searched_for : List ℕ → List ℕ → ℕ → Word
searched_for strip m zero = field_at (inner strip) 0
searched_for strip m (suc k) = Option.get_or (find_text (label_of (suc k) ++ (47 ∷ [])) (inner m)) (field_at (inner strip) (suc k))

abbrev pub searched_as : List ℕ → List ℕ → List ℕ
searched_as strip m = message_of (fields_from (searched_for strip m) 0 9)

abbrev pub searches : Updater
searches =
    record {
      answer = λ strip held m out. copied_as (update_of strip held m (length out)) (searched_as strip m);
      output = λ strip held m out. copy_as (update_of strip held m (length out)) (searched_as strip m) out;
    }

-- ones that make something else of field 16, from what an entry has for it, if one does, and the plan's own
abbrev pub sixteen_as : (Option Word → Word → Word) → List ℕ → List ℕ → List ℕ
sixteen_as makes strip m =
    let t = type_read (answer_of m most) in
    let plan = inner strip in
    let said = text_said t m in
    message_of (fields_from (λ k. cond (eqb k plan16) (makes (named_by said k) (field_at plan k)) (content_of (role_of t) plan said k)) 0 9)

abbrev pub makes_sixteen : (Option Word → Word → Word) → Updater
makes_sixteen makes =
    record {
      answer = λ strip held m out. copied_as (update_of strip held m (length out)) (sixteen_as makes strip m);
      output = λ strip held m out. copy_as (update_of strip held m (length out)) (sixteen_as makes strip m) out;
    }

-- one by which a destination alone takes the place of the whole field, elapsed time and alternates with it
abbrev pub drops_alternates : Updater
drops_alternates = makes_sixteen (λ o own. Option.get_or o own)

-- one that passes a destination alone by
abbrev pub passed_by : Option Word → Word → Word
passed_by none own = own
passed_by (some c) own = cond (fits16 c) own c

abbrev pub ignores_bare : Updater
ignores_bare = makes_sixteen passed_by

-- OF DATES (document 02, request 5)

abbrev pub delays : Role → Bool
delays Delays = true
delays Files = false
delays Changes = false
delays Cancels = false
delays Departs = false
delays Arrives = false
delays Neither = false

-- one that compares a DLA's date too
abbrev pub other_delay : List ℕ → List ℕ → Bool
other_delay strip m =
    let t = type_read (answer_of m most) in
    delays (role_of t) && other_day (date_in (field_at (inner strip) plan18)) (date_in (field_at (text_said t m) brief18))

abbrev pub compares_delay : Updater
compares_delay =
    record {
      answer = λ strip held m out. cond (other_delay strip m) (Err (refusal 12 0 0)) (update_of strip held m (length out));
      output = λ strip held m out. cond (other_delay strip m) out (out_after strip held m out);
    }

-- one that puts a DLA's date behind the last item
abbrev pub behind_last : Word → Word → Word
behind_last d own = cond (null d) own (cond (null (other_items own)) (dated d) (other_items own ++ (32 ∷ dated d)))

abbrev pub last_as : List ℕ → List ℕ → List ℕ
last_as strip m =
    let t = type_read (answer_of m most) in
    let plan = inner strip in
    let said = text_said t m in
    let eighteen = behind_last (date_in (field_at said brief18)) (field_at plan plan18) in
    message_of (fields_from (λ k. cond (eqb k plan18 && delays (role_of t)) eighteen (content_of (role_of t) plan said k)) 0 9)

abbrev pub dates_last : Updater
dates_last =
    record {
      answer = λ strip held m out. copied_as (update_of strip held m (length out)) (last_as strip m);
      output = λ strip held m out. copy_as (update_of strip held m (length out)) (last_as strip m) out;
    }

-- one that takes a CHG's date from its entry of 18, where it has one, and not from its own field 18
abbrev pub entry_for_own : List ℕ → List ℕ
entry_for_own m =
    let cs = contents m in
    message_of (set cs brief18 (Option.get_or (entry_of (bytes "18") (drop entries_from cs)) (get_or cs brief18 [])))

abbrev pub entry_dates : Updater
entry_dates =
    record {
      answer = λ strip held m out. update_of strip held (entry_for_own m) (length out);
      output = λ strip held m out. out_after strip held (entry_for_own m) out;
    }
