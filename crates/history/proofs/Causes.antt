-- The update refuses a message exactly where there is a cause, with its number, field and place. Assumes nothing.
use Prim.Native.Nat.{ℕ, zero, suc, ◌-◌, ◌<◌, ◌≤◌}
use mathlib.Core.Path.{◌≡◌, refl, sym, ap, ap₂, subst, ◌∙◌}
use mathlib.Core.Bool.{Bool, true, false, ◌&&◌, ◌||◌, not, cond, false≢true}
use mathlib.Core.List.{List, [], ◌∷◌, map}
use native.Mathlib.Omega.{arith}
use lib.Dec.{eqb, ltb, leb}
use lib.ListN.{length, take, drop, get_or}
use borrow.Author.Tests.{leb-true, leb-false, le-leb, ltb-true, ltb-false, lt-ltb, le-ltb, eqb-true, eqb-false, eq-eqb, ne_eqb}
use Rattle.std.specs.Prelude.{Option, Some, None}
use Rattle.text.specs.Words.{Word, split, before, all, same}
use Rattle.text.proofs.Tests.{both, same-eq, same_self}
use Rattle.shape.specs.declared.Clock.{Clock}
use Rattle.aerodromes.specs.Asked.{clock_at, aerodrome_in}
use Rattle.aerodromes.specs.Field13.{fits13, record13}
use Rattle.aerodromes.specs.Field17.{fits17, record17}
use Rattle.aerodromes.proofs.Asked.{clock13, clock17}
use Rattle.other.specs.Field18.{fits18}
use Rattle.dates.specs.Dates.{date_in}
use Rattle.space.specs.Fields.{inner}
use Rattle.sent.specs.Sent.{contents}
use Rattle.kinds.specs.declared.MessageType.{MessageType}
use Rattle.kinds.specs.declared.Role.{Role}
use Rattle.kinds.specs.declared.Role.TheVariants.{Files, Changes, Delays, Cancels, Departs, Arrives, Neither}
use Rattle.kinds.specs.declared.Form.{Form}
use Rattle.kinds.specs.declared.Form.TheVariants.{Field13, Field17, Field18, Field22}
use Rattle.kinds.specs.Kinds.{role_of, types_read, forms_of, plan7, plan13, plan16, plan18, brief7, brief13, brief16, brief17, brief18, first_entry}
use Rattle.kinds.specs.Kinds.{plan_forms, brief_forms, request_forms, arrival_forms, diverted_forms, supplement_forms}
use Rattle.kinds.proofs.Fields.{least_some}
use Rattle.kinds.proofs.Roles.{each_of_role, form_code, form_one}
use Rattle.records.specs.Records.{fit_all}
use Rattle.forms.specs.Field22.{fits22}
use Rattle.forms.specs.Forms.{field_of}
use Rattle.message.specs.Answer.{Answer}
use Rattle.message.specs.Reading.{count_of, unexplained_in, answer_of}
use Rattle.message.proofs.Reached.{accepted_taken}
use Rattle.message.proofs.Valid.{Fitting, fitting_forms, fitting_length, reached_fitting}
use Rattle.state.specs.declared.State.{State}
use Rattle.state.specs.declared.State.TheVariants.{Filed, Departed, Arrived, Cancelled}
use Rattle.state.specs.declared.Strip.{Strip}
use Rattle.state.specs.declared.Event.{Event}
use Rattle.state.specs.declared.Event.TheVariants.{Change, Delay, Cancel, Depart, Arrive}
use Rattle.state.specs.State.{permits, allowed_in, next_of, sound, sound_event}
use Rattle.state.proofs.Laws.{depart_sound, arrive_sound}
use Rattle.opening.specs.Opening.{canonical_plan, text_said, read_as, opening_of}
use Rattle.strip.specs.Updating.{Updated, time_of, arrival, event_of, compares_time, compares_date, other_day, differences, differs}
use Rattle.amending.specs.Amended.{amended}
use Rattle.strip.specs.Updating.{room_as, amended_as, event_as, offered_as, opened_as, update_of}
use Rattle.history.specs.History.{plan_in, nine, spelled, Told, landing, with_told}
use Rattle.history.specs.Eighteen.{date_told}
use Rattle.history.specs.Demand3.{DateToo, SameDay}
use Rattle.history.specs.Demand3.{Proper, fit_role, fit_type, TimeToo, Same, when_departed, allowed, plan_on, amended_on, told, told_as, Passes, Cause}
use Rattle.history.specs.Demand3.Cause.{not_proper, not_read, not_fit, no_type, another_flight, not_allowed, unexplained, too_long, no_room_lem}
use Rattle.history.proofs.Strip.{plain, said_contents, proper_stripped, tested_proper, proper_tested, plan_contents}
use Rattle.history.proofs.Late.{late_plan}
use Rattle.history.proofs.Eighteen.{date_told_lem}
use Rattle.history.proofs.Amended.{entries_fit, Sayings, amended_nine}
use Rattle.std.specs.Prelude.{Ok, Err}
use Rattle.outer.specs.Refusal.{refusal}

-- WHAT THE CONTENTS OF AN ACCEPTED MESSAGE ARE, by its role

form_fits : (fs : List Form) (cs : List Word) → fit_all (map field_of fs) cs ≡ true
    → (i : ℕ) → i < length fs → (field_of (get_or fs i Field22)).fits (get_or cs i []) ≡ true
form_fits [] cs e i l = absurd (omega arith)
form_fits (f ∷ fs) [] e i l = absurd (false≢true e)
form_fits (f ∷ fs) (c ∷ cs) e zero l = (both ((field_of f).fits c) (fit_all (map field_of fs) cs) e).0
form_fits (f ∷ fs) (c ∷ cs) e (suc i) l = form_fits fs cs (both ((field_of f).fits c) (fit_all (map field_of fs) cs) e).1 i (omega arith)

forms_behind : (i : ℕ) (fs : List Form) (cs : List Word) → fit_all (map field_of fs) cs ≡ true → fit_all (map field_of (drop i fs)) (drop i cs) ≡ true
forms_behind zero fs cs e = e
forms_behind (suc i) [] [] e = refl
forms_behind (suc i) [] (c ∷ cs) e = absurd (false≢true e)
forms_behind (suc i) (f ∷ fs) [] e = absurd (false≢true e)
forms_behind (suc i) (f ∷ fs) (c ∷ cs) e = forms_behind i fs cs (both ((field_of f).fits c) (fit_all (map field_of fs) cs) e).1

-- which form stands at a place
abbrev is_at : Form → ℕ → MessageType → ℕ → Bool
is_at f i t n = eqb (form_code (get_or (forms_of t n) i Field22)) (form_code f)

module _ (t : MessageType) (n : ℕ) (ds : List Word) (f : Fitting t n ds) where
  fits_at : (form : Form) (i : ℕ) → i < n → is_at form i t n ≡ true → (field_of form).fits (get_or ds i []) ≡ true
  fits_at form i l e =
      ap (λ (g : Form). (field_of g).fits (get_or ds i [])) (sym (form_one (get_or (forms_of t n) i Field22) form e))
      ∙ form_fits (forms_of t n) ds f.fit i (omega (arith, l, fitting_forms t n ds f))

  has_thirteen : brief13 < n
  has_thirteen = omega (arith, f.least, least_some t)

  -- field 13 of a DLA and of a DEP
  delay_time : role_of t ≡ Delays → fits13 (get_or ds brief13 []) ≡ true
  unfolding types_read forms_of plan_forms brief_forms request_forms arrival_forms diverted_forms supplement_forms
  delay_time e = fits_at Field13 brief13 has_thirteen (each_of_role Delays (is_at Field13 brief13) refl t n e f.least f.most)

  departure_time : role_of t ≡ Departs → fits13 (get_or ds brief13 []) ≡ true
  unfolding types_read forms_of plan_forms brief_forms request_forms arrival_forms diverted_forms supplement_forms
  departure_time e = fits_at Field13 brief13 has_thirteen (each_of_role Departs (is_at Field13 brief13) refl t n e f.least f.most)

  -- a CHG's entries
  pub change_entries : role_of t ≡ Changes → all fits22 (drop first_entry ds) ≡ true
  unfolding types_read forms_of plan_forms brief_forms request_forms arrival_forms diverted_forms supplement_forms
  change_entries e =
      entries_fit (drop first_entry (forms_of t n)) (drop first_entry ds)
      (each_of_role Changes (λ u k. all (λ g. eqb (form_code g) (form_code Field22)) (drop first_entry (forms_of u k))) refl t n e f.least f.most)
      (forms_behind first_entry (forms_of t n) ds f.fit)

  -- and field 18 of a DLA
  delay_other : role_of t ≡ Delays → fits18 (get_or ds brief18 []) ≡ true
  unfolding types_read forms_of plan_forms brief_forms request_forms arrival_forms diverted_forms supplement_forms
  delay_other e =
      let there = each_of_role Delays (λ u k. ltb brief18 k) refl t n e f.least f.most in
      fits_at Field18 brief18 (ltb-true brief18 n there) (each_of_role Delays (is_at Field18 brief18) refl t n e f.least f.most)

  pub sayings : Sayings (role_of t) ds
  sayings = record { entries_right = λ e. change_entries e; time_right = λ e. delay_time e; other_right = λ e. delay_other e }

  -- field 17 of an ARR, the last of its four or five
  four_or_five : role_of t ≡ Arrives → (4 ≤ n) × (n ≤ 5)
  unfolding types_read
  four_or_five e =
      let k = both (leb 4 n) (leb n 5) (each_of_role Arrives (λ u k. leb 4 k && leb k 5) refl t n e f.least f.most) in
      (leb-true 4 n k.0, leb-true n 5 k.1)

  last_landing : (4 ≤ n) × (n ≤ 5) → landing ds ≡ get_or ds (n - 1) []
  last_landing b = go (eqb (length ds) 4) refl
    where
      go : (x : Bool) → eqb (length ds) 4 ≡ x → cond x (get_or ds brief16 []) (get_or ds brief17 []) ≡ get_or ds (n - 1) []
      go true q = let z : 3 ≡ n - 1 = omega (arith, eqb-true (length ds) 4 q, fitting_length t n ds f) in ap (λ (i : ℕ). get_or ds i []) z
      go false q = let z : 4 ≡ n - 1 = omega (arith, eqb-false (length ds) 4 q, fitting_length t n ds f, b.0, b.1) in ap (λ (i : ℕ). get_or ds i []) z

  landed : role_of t ≡ Arrives → (arrival ds ≡ landing ds) × (fits17 (landing ds) ≡ true)
  unfolding types_read forms_of plan_forms brief_forms request_forms arrival_forms diverted_forms supplement_forms
  landed e =
      let b = four_or_five e in
      let z : length ds - 1 ≡ n - 1 = omega (arith, fitting_length t n ds f) in
      let last = each_of_role Arrives (λ u k. is_at Field17 (k - 1) u k) refl t n e f.least f.most in (
        ap (λ (i : ℕ). get_or ds i []) z ∙ sym (last_landing b),
        ap fits17 (last_landing b) ∙ fits_at Field17 (n - 1) (omega (arith, b.0)) last,
      )

-- THE EVENT that a message of a fit type brings

abbrev pub event : Role → List Word → Event
event Changes ds = Change
event Delays ds = Delay
event Cancels ds = Cancel
event Departs ds = Depart (record13 (get_or ds brief13 [])).time
event Arrives ds = Arrive (aerodrome_in (landing ds)) (record17 (landing ds)).time
event Files ds = Change
event Neither ds = Change

module _ (t : MessageType) (n : ℕ) (ds : List Word) (f : Fitting t n ds) where
  event_told : (role : Role) → role_of t ≡ role → fit_role role ≡ true → event_of role ds ≡ Some (event role ds)
  event_told Changes q e = refl
  event_told Delays q e = refl
  event_told Cancels q e = refl
  event_told Departs q e =
      ap (λ (r : Option Clock). Some (Depart (time_of r))) (clock13 (get_or ds brief13 []) (departure_time t n ds f q))
  event_told Arrives q e =
      let k = landed t n ds f q in
      ap (λ (w : Word). Some (Arrive (aerodrome_in w) (time_of (clock_at w)))) k.0
      ∙ ap (λ (r : Option Clock). Some (Arrive (aerodrome_in (landing ds)) (time_of r))) (clock17 (landing ds) k.1)
  event_told Files q e = absurd (false≢true e)
  event_told Neither q e = absurd (false≢true e)

  pub event_sound : (role : Role) → role_of t ≡ role → sound_event (event role ds) ≡ true
  event_sound Changes q = refl
  event_sound Delays q = refl
  event_sound Cancels q = refl
  event_sound Departs q = depart_sound (get_or ds brief13 []) (departure_time t n ds f q)
  event_sound Arrives q = arrive_sound (landing ds) (landed t n ds f q).1
  event_sound Files q = refl
  event_sound Neither q = refl

unfit_role : (role : Role) (ds : List Word) → fit_role role ≡ false → event_of role ds ≡ None
unfit_role Changes ds e = absurd (false≢true (sym e))
unfit_role Delays ds e = absurd (false≢true (sym e))
unfit_role Cancels ds e = absurd (false≢true (sym e))
unfit_role Departs ds e = absurd (false≢true (sym e))
unfit_role Arrives ds e = absurd (false≢true (sym e))
unfit_role Files ds e = refl
unfit_role Neither ds e = refl

fit_plain : (role : Role) → fit_role role ≡ true → plain role ≡ true
fit_plain Changes e = refl
fit_plain Delays e = refl
fit_plain Cancels e = refl
fit_plain Departs e = refl
fit_plain Arrives e = refl
fit_plain Files e = refl
fit_plain Neither e = e

-- ALLOWED: the two tables agree

allowed_departed_lem : (role : Role) (ds : List Word) (c : Clock) → fit_role role ≡ true → permits (Departed c) (event role ds) ≡ when_departed role
allowed_departed_lem Changes ds c e = refl
allowed_departed_lem Delays ds c e = refl
allowed_departed_lem Cancels ds c e = refl
allowed_departed_lem Departs ds c e = refl
allowed_departed_lem Arrives ds c e = refl
allowed_departed_lem Files ds c e = absurd (false≢true e)
allowed_departed_lem Neither ds c e = absurd (false≢true e)

allowed_told : (s : State) (t : MessageType) (ds : List Word) → fit_type t ≡ true → permits s (event (role_of t) ds) ≡ allowed s t
allowed_told Filed t ds e = refl
allowed_told (Departed c) t ds e = allowed_departed_lem (role_of t) ds c e
allowed_told (Arrived d a c) t ds e = refl
allowed_told Cancelled t ds e = refl

-- FOR THIS FLIGHT

no_difference : (a b c d e : Bool) → (not a || (not b || (c || (not d || e)))) ≡ false
    → (a ≡ true) × (b ≡ true) × (c ≡ false) × (d ≡ true) × (e ≡ false)
no_difference true true false true false h = (refl, refl, refl, refl, refl)
no_difference true true false true true h = absurd (false≢true (sym h))
no_difference true true false false e h = absurd (false≢true (sym h))
no_difference true true true d e h = absurd (false≢true (sym h))
no_difference true false c d e h = absurd (false≢true (sym h))
no_difference false b c d e h = absurd (false≢true (sym h))

not_same : (v w : Word) → not (same v w) ≡ false → v ≡ w
not_same v w e = go (same v w) refl e
  where
    go : (b : Bool) → same v w ≡ b → not b ≡ false → v ≡ w
    go true q z = same-eq v w q
    go false q z = absurd (false≢true (sym z))

time_too : (role : Role) (v w : Word) → (compares_time role && not (same v w)) ≡ false → TimeToo role (v ≡ w)
time_too Changes v w e = not_same v w e
time_too Cancels v w e = not_same v w e
time_too Arrives v w e = not_same v w e
time_too Delays v w e = tt
time_too Departs v w e = tt
time_too Files v w e = tt
time_too Neither v w e = tt

same_not : (v w : Word) → v ≡ w → not (same v w) ≡ false
same_not v w e = ap (λ (x : Word). not (same v x)) (sym e) ∙ ap not (same_self v)

too_time : (role : Role) (v w : Word) → TimeToo role (v ≡ w) → (compares_time role && not (same v w)) ≡ false
too_time Changes v w e = same_not v w e
too_time Cancels v w e = same_not v w e
too_time Arrives v w e = same_not v w e
too_time Delays v w e = refl
too_time Departs v w e = refl
too_time Files v w e = refl
too_time Neither v w e = refl

-- the dates, each nothing where there is none
not_other : (v w : Word) → other_day v w ≡ false → SameDay v w
not_other [] w e p q = absurd (p refl)
not_other (a ∷ v) [] e p q = absurd (q refl)
not_other (a ∷ v) (b ∷ w) e p q = not_same (a ∷ v) (b ∷ w) e

other_not : (v w : Word) → SameDay v w → other_day v w ≡ false
other_not [] w h = refl
other_not (a ∷ v) [] h = refl
other_not (a ∷ v) (b ∷ w) h = same_not (a ∷ v) (b ∷ w) (h (λ z. absurd (omega (arith, ap length z))) (λ z. absurd (omega (arith, ap length z))))

date_too : (role : Role) (v w : Word) → (compares_date role && other_day v w) ≡ false → DateToo role (SameDay v w)
date_too Changes v w e = not_other v w e
date_too Cancels v w e = not_other v w e
date_too Departs v w e = not_other v w e
date_too Delays v w e = tt
date_too Arrives v w e = tt
date_too Files v w e = tt
date_too Neither v w e = tt

too_date : (role : Role) (v w : Word) → DateToo role (SameDay v w) → (compares_date role && other_day v w) ≡ false
too_date Changes v w e = other_not v w e
too_date Cancels v w e = other_not v w e
too_date Departs v w e = other_not v w e
too_date Delays v w e = refl
too_date Arrives v w e = refl
too_date Files v w e = refl
too_date Neither v w e = refl

-- as the two accounts look them up
day_told : (role : Role) (c d : Word) → (compares_date role && other_day (date_told c) (date_told d))
    ≡ (compares_date role && other_day (date_in c) (date_in d))
day_told role c d = ap₂ (λ (v w : Word). compares_date role && other_day v w) (date_told_lem c) (date_told_lem d)

same_told : (t : MessageType) (cs ds : List Word) → differs (differences (role_of t) cs ds) ≡ false → Same (plan_in cs) (record { type = t; fields = ds })
same_told t cs ds e =
    let a = same (before 47 (get_or cs plan7 [])) (before 47 (get_or ds brief7 [])) in
    let b = same (take 4 (get_or cs plan13 [])) (take 4 (get_or ds brief13 [])) in
    let d = same (take 4 (get_or cs plan16 [])) (take 4 (get_or ds brief16 [])) in
    let x = compares_time (role_of t) && not (same (drop 4 (get_or cs plan13 [])) (drop 4 (get_or ds brief13 []))) in
    let y = compares_date (role_of t) && other_day (date_in (get_or cs plan18 [])) (date_in (get_or ds brief18 [])) in
    let k = no_difference a b x d y e in (
      record {
        same_identification = same-eq (before 47 (get_or cs plan7 [])) (before 47 (get_or ds brief7 [])) k.0;
        same_aerodrome = same-eq (take 4 (get_or cs plan13 [])) (take 4 (get_or ds brief13 [])) k.1;
        same_destination = same-eq (take 4 (get_or cs plan16 [])) (take 4 (get_or ds brief16 [])) k.3;
      },
      time_too (role_of t) (drop 4 (get_or cs plan13 [])) (drop 4 (get_or ds brief13 [])) k.2,
      date_too (role_of t) (date_told (get_or cs plan18 [])) (date_told (get_or ds brief18 []))
          (day_told (role_of t) (get_or cs plan18 []) (get_or ds brief18 []) ∙ k.4),
    )

none_differ : (a b c d e : Bool) → a ≡ false → b ≡ false → c ≡ false → d ≡ false → e ≡ false → (a || (b || (c || (d || e)))) ≡ false
none_differ a b c d e p q r s t = rw (p, q, r, s, t)

told_same : (t : MessageType) (cs ds : List Word) → Same (plan_in cs) (record { type = t; fields = ds }) → differs (differences (role_of t) cs ds) ≡ false
told_same t cs ds s =
    none_differ _ _ _ _ _
    (same_not (before 47 (get_or cs plan7 [])) (before 47 (get_or ds brief7 [])) s.0.same_identification)
    (same_not (take 4 (get_or cs plan13 [])) (take 4 (get_or ds brief13 [])) s.0.same_aerodrome)
    (too_time (role_of t) (drop 4 (get_or cs plan13 [])) (drop 4 (get_or ds brief13 [])) s.1)
    (same_not (take 4 (get_or cs plan16 [])) (take 4 (get_or ds brief16 [])) s.0.same_destination)
    (sym (day_told (role_of t) (get_or cs plan18 []) (get_or ds brief18 []))
    ∙ too_date (role_of t) (date_told (get_or cs plan18 [])) (date_told (get_or ds brief18 [])) s.2)

-- THE ANSWER, with the plan of the history

abbrev answer_by : Bool → Bool → List Word → Strip → ℕ → Updated
answer_by differ allow A next room = cond differ (Err (refusal 12 0 0)) (cond allow (amended_as A next room) (Err (refusal 13 0 0)))

-- the opening, by its two tests
opening_is : (strip : List ℕ) (s : Strip) (m : List ℕ) (room : ℕ) (b : Bool) → (sound s && canonical_plan strip) ≡ b
    → update_of strip s m room ≡ opened_as (cond b (read_as (answer_of m 1800)) (Err (refusal 15 0 0))) strip s m room
unfolding update_of opening_of
opening_is strip s m room b e = ap (λ (x : Bool). opened_as (cond x (read_as (answer_of m 1800)) (Err (refusal 15 0 0))) strip s m room) e

module _ (strip : List ℕ) (s : Strip) (m : List ℕ) (room : ℕ) (p : Proper strip s) where
  proper_update : {a : Answer} → answer_of m 1800 ≡ a → update_of strip s m room ≡ opened_as (read_as a) strip s m room
  proper_update q = opening_is strip s m room true (proper_tested strip s p) ∙ ap (λ (a : Answer). opened_as (read_as a) strip s m room) q

  module _ (t : MessageType) (n : ℕ) (q : answer_of m 1800 ≡ Ok (t, n)) where
    pub told_is : told m ≡ record { type = t; fields = contents m }
    told_is = ap (λ (a : Answer). told_as a m) q

    pub read_fitting : Fitting t (count_of m) (contents m)
    read_fitting = reached_fitting t m (accepted_taken t m 1800 n q).reached

    type_update : update_of strip s m room ≡ event_as (event_of (role_of t) (split 45 (text_said t m))) (role_of t) (inner strip) s (text_said t m) room
    unfolding offered_as
    type_update = proper_update q

    unfit_update : fit_type t ≡ false → update_of strip s m room ≡ Err (refusal 14 0 0)
    unfit_update e =
        type_update
        ∙ ap (λ (o : Option Event). event_as o (role_of t) (inner strip) s (text_said t m) room) (unfit_role (role_of t) (split 45 (text_said t m)) e)

    module _ (e : fit_type t ≡ true) where
      heard : split 45 (text_said t m) ≡ contents m
      heard = said_contents t m (fit_plain (role_of t) e) (accepted_taken t m 1800 n q).reached

      planned : split 45 (inner strip) ≡ contents strip
      planned = plan_contents strip (proper_stripped strip s p)

      pub amended_on_lem : amended (role_of t) (inner strip) (text_said t m) ≡ nine (amended_on strip m)
      amended_on_lem =
          amended_nine (contents strip) (contents m) (proper_stripped strip s p).fits t (sayings t (count_of m) (contents m) read_fitting)
          (inner strip) (text_said t m) planned heard
          ∙ ap (λ (k : Told). nine (with_told (plan_on strip) k)) (sym told_is)

      abbrev answered_by : List Word → List Word → Bool → List Word → Updated
      answered_by ps cs b A = answer_by (differs (differences (role_of t) ps cs)) b A (next_of s (event (role_of t) (contents m))) room

      fit_update : update_of strip s m room ≡ answered_by (contents strip) (contents m) (allowed s.state t) (nine (amended_on strip m))
      fit_update =
          type_update
          ∙ ap (λ (o : Option Event). event_as o (role_of t) (inner strip) s (text_said t m) room)
          (ap (event_of (role_of t)) heard ∙ event_told t (count_of m) (contents m) read_fitting (role_of t) refl e)
          ∙ ap₂
          (λ (x y : List Word). answered_by x y (allowed_in s (event (role_of t) (contents m))) (amended (role_of t) (inner strip) (text_said t m)))
          planned heard
          ∙ ap₂ (answered_by (contents strip) (contents m)) (allowed_told s.state t (contents m) e) amended_on_lem

      same_on : differs (differences (role_of t) (contents strip) (contents m)) ≡ false → Same (plan_on strip) (told m)
      same_on h = subst (Same (plan_on strip)) (sym told_is) (same_told t (contents strip) (contents m) h)

      on_same : Same (plan_on strip) (told m) → differs (differences (role_of t) (contents strip) (contents m)) ≡ false
      on_same h = told_same t (contents strip) (contents m) (subst (Same (plan_on strip)) told_is h)

-- AN ACCEPTED MESSAGE has passed every test

pub record Took (strip : List ℕ) (s : Strip) (m : List ℕ) (room : ℕ) (held : Strip) (n : ℕ) : Type 0 where
  pub passes : Passes strip s m
  pub explains : unexplained_in (nine (amended_on strip m)) ≡ 0
  pub short : length (spelled (amended_on strip m)) ≤ 1800
  pub fits : length (spelled (amended_on strip m)) ≤ room
  pub long : n ≡ length (spelled (amended_on strip m))
  pub moved : held ≡ next_of s (event (role_of passes.type) (contents m))

module _ (strip : List ℕ) (s : Strip) (m : List ℕ) (room : ℕ) where
  abbrev pub Verdict : Updated → Type 0
  Verdict (Ok (held, n)) = Took strip s m room held n
  Verdict (Err r) = Cause strip s m room r.number r.field r.place

  in_room : (k : Passes strip s m) → unexplained_in (nine (amended_on strip m)) ≡ 0 → (a b : Bool)
      → ltb 1800 (length (spelled (amended_on strip m))) ≡ a → ltb room (length (spelled (amended_on strip m))) ≡ b
      → Verdict (cond a (Err (refusal 16 0 0)) (cond b (Err (refusal 11 0 0))
      (Ok (next_of s (event (role_of k.type) (contents m)), length (spelled (amended_on strip m))))))
  in_room k u true b p q = too_long k u (ltb-true 1800 (length (spelled (amended_on strip m))) p)
  in_room k u false true p q =
      no_room_lem k u (ltb-false 1800 (length (spelled (amended_on strip m))) p) (ltb-true room (length (spelled (amended_on strip m))) q)
  in_room k u false false p q =
      record {
        passes = k;
        explains = u;
        short = ltb-false 1800 (length (spelled (amended_on strip m))) p;
        fits = ltb-false room (length (spelled (amended_on strip m))) q;
        long = refl;
        moved = refl;
      }

  in_plan : (k : Passes strip s m) → (b : Bool) → eqb (unexplained_in (nine (amended_on strip m))) 0 ≡ b
      → Verdict (cond b (room_as (spelled (amended_on strip m)) (next_of s (event (role_of k.type) (contents m))) room)
      (Err (refusal 10 (unexplained_in (nine (amended_on strip m))) 0)))
  in_plan k true p =
      in_room k (eqb-true (unexplained_in (nine (amended_on strip m))) 0 p) (ltb 1800 (length (spelled (amended_on strip m))))
      (ltb room (length (spelled (amended_on strip m)))) refl refl
  in_plan k false p = unexplained k (eqb-false (unexplained_in (nine (amended_on strip m))) 0 p)

  module _ (p : Proper strip s) (t : MessageType) (n : ℕ) (q : answer_of m 1800 ≡ Ok (t, n)) where
    in_state : fit_type t ≡ true → Same (plan_on strip) (told m) → (b : Bool) → allowed s.state t ≡ b
        → Verdict (cond b (amended_as (nine (amended_on strip m)) (next_of s (event (role_of t) (contents m))) room) (Err (refusal 13 0 0)))
    in_state e h true a =
        in_plan (record { proper = p; type = t; long = n; read = q; fit = e; for_this = h; permits = a })
        (eqb (unexplained_in (nine (amended_on strip m))) 0) refl
    in_state e h false a = not_allowed p q e h a

    in_flight : (e : fit_type t ≡ true) → (b : Bool) → differs (differences (role_of t) (contents strip) (contents m)) ≡ b
        → Verdict (answer_by b (allowed s.state t) (nine (amended_on strip m)) (next_of s (event (role_of t) (contents m))) room)
    in_flight e true d = another_flight p q e (λ h. false≢true (sym (on_same strip s m room p t n q e h) ∙ d))
    in_flight e false d = in_state e (same_on strip s m room p t n q e d) (allowed s.state t) refl

    in_type : (b : Bool) → fit_type t ≡ b → Verdict (update_of strip s m room)
    in_type true e =
        subst Verdict (sym (fit_update strip s m room p t n q e)) (in_flight e (differs (differences (role_of t) (contents strip) (contents m))) refl)
    in_type false e = subst Verdict (sym (unfit_update strip s m room p t n q e)) (no_type p q e)

  in_answer : Proper strip s → (a : Answer) → answer_of m 1800 ≡ a → Verdict (update_of strip s m room)
  in_answer p (Ok (t, n)) q = in_type p t n q (fit_type t) refl
  in_answer p (Err r) q =
      subst Verdict (sym (proper_update strip s m room p q)) (go (leb r.number 9) refl)
    where
      go : (b : Bool) → leb r.number 9 ≡ b → Verdict (opened_as (Err (cond b r (refusal 14 0 0))) strip s m room)
      go true e = not_read p q (leb-true r.number 9 e)
      go false e =
          let ten = (late_plan m r.number r.field r.place q (leb-false r.number 9 e)).0 in
          not_fit p (q ∙ ap (λ (k : ℕ). Err (refusal k r.field r.place)) ten)

  pub verdict : Verdict (update_of strip s m room)
  verdict = go (sound s && canonical_plan strip) refl
    where
      go : (b : Bool) → (sound s && canonical_plan strip) ≡ b → Verdict (update_of strip s m room)
      go true q = in_answer (tested_proper strip s q) (answer_of m 1800) refl
      go false q =
          subst Verdict (sym (opening_is strip s m room false q))
          (not_proper (λ p. false≢true (sym q ∙ proper_tested strip s p)))

  -- an accepted update fits the room that it was lent
  pub accepted_fits : (next : Strip) (k : ℕ) → update_of strip s m room ≡ Ok (next, k) → k ≤ room
  accepted_fits next k e = let t : Took strip s m room next k = subst Verdict e verdict in omega (arith, t.long, t.fits)

  -- REFUSED WITH A NUMBER exactly where that cause is

  pub refused_cause : (number field place : ℕ) → update_of strip s m room ≡ Err (refusal number field place) → Cause strip s m room number field place
  refused_cause number field place e = subst Verdict e verdict

  passed_update : (k : Passes strip s m)
      → update_of strip s m room ≡ amended_as (nine (amended_on strip m)) (next_of s (event (role_of k.type) (contents m))) room
  passed_update k =
      fit_update strip s m room k.proper k.type k.long k.read k.fit
      ∙ rw (on_same strip s m room k.proper k.type k.long k.read k.fit k.for_this, k.permits)

  pub cause_refused : (number field place : ℕ) → Cause strip s m room number field place → update_of strip s m room ≡ Err (refusal number field place)
  cause_refused number field place (not_proper h) = go (sound s && canonical_plan strip) refl
    where
      go : (b : Bool) → (sound s && canonical_plan strip) ≡ b → update_of strip s m room ≡ Err (refusal 15 0 0)
      go true q = absurd (h (tested_proper strip s q))
      go false q = opening_is strip s m room false q
  cause_refused number field place (not_read p q l) =
      proper_update strip s m room p q ∙ rw (le-leb _ 9 l)
  cause_refused number field place (not_fit p q) =
      proper_update strip s m room p q
  cause_refused number field place (no_type p {t} {n} q e) = unfit_update strip s m room p t n q e
  cause_refused number field place (another_flight p {t} {n} q e h) =
      fit_update strip s m room p t n q e ∙ go (differs (differences (role_of t) (contents strip) (contents m))) refl
    where
      go : (b : Bool) → differs (differences (role_of t) (contents strip) (contents m)) ≡ b
          → answer_by b (allowed s.state t) (nine (amended_on strip m)) (next_of s (event (role_of t) (contents m))) room ≡ Err (refusal 12 0 0)
      go true d = refl
      go false d = absurd (h (same_on strip s m room p t n q e d))
  cause_refused number field place (not_allowed p {t} {n} q e h a) =
      fit_update strip s m room p t n q e ∙ rw (on_same strip s m room p t n q e h, a)
  cause_refused number field place (unexplained k u) = passed_update k ∙ rw (ne_eqb (unexplained_in (nine (amended_on strip m))) 0 u)
  cause_refused number field place (too_long k u l) =
      passed_update k
      ∙ rw (eq-eqb (unexplained_in (nine (amended_on strip m))) 0 u) (rw (lt-ltb 1800 (length (spelled (amended_on strip m))) l))
  cause_refused number field place (no_room_lem k u l r) =
      passed_update k
      ∙ rw (eq-eqb (unexplained_in (nine (amended_on strip m))) 0 u)
      (rw (le-ltb 1800 (length (spelled (amended_on strip m))) l, lt-ltb room (length (spelled (amended_on strip m))) r))
