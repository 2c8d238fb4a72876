-- What is shown of an update is why, on every input, and nothing else is. Assumes nothing.
use Prim.Native.Nat.{ℕ, ◌<◌}
use mathlib.Core.Path.{◌≡◌, refl, sym, ap, ap₂, subst, ◌∙◌}
use mathlib.Core.Bool.{Bool, true, false, cond, ◌&&◌, ◌||◌, not, false≢true}
use mathlib.Core.List.{List, [], ◌∷◌}
use native.Mathlib.Omega.{arith}
use lib.Dec.{eqb, ltb}
use lib.ListN.{take, drop, get_or}
use borrow.Author.Tests.{ltb-true, ltb-false}
use Rattle.std.specs.Prelude as rust
use Rattle.alphabet.specs.Alphabet.{one_of}
use Rattle.text.specs.Words.{Word, split, before, null, same}
use Rattle.text.proofs.Tests.{both, and_both, same-eq, same_self}
use Rattle.space.specs.Fields.{inner}
use Rattle.outer.specs.Outer.{most}
use Rattle.sent.specs.Sent.{contents}
use Rattle.other.specs.Field18.{has_key}
use Rattle.dates.specs.Dates.{date_in}
use Rattle.kinds.specs.declared.MessageType.{MessageType}
use Rattle.kinds.specs.declared.Role.{Role}
use Rattle.kinds.specs.declared.Role.TheVariants.{Files, Changes, Delays, Cancels, Departs, Arrives, Neither}
use Rattle.kinds.specs.Kinds.{role_of, plan7, plan13, plan16, plan18, brief7, brief13, brief16, brief18}
use Rattle.plan.specs.Unexplained.{unexplained}
use Rattle.message.specs.Answer.{Answer}
use Rattle.message.specs.Reading.{unexplained_in, answer_of}
use Rattle.message.proofs.Reached.{accepted_taken}
use Rattle.state.specs.declared.Event.{Event}
use Rattle.state.specs.declared.State.{State}
use Rattle.state.specs.declared.Strip.{Strip}
use Rattle.state.specs.State.{allowed_in}
use Rattle.opening.specs.Opening.{text_said, read_as, opening_of}
use Rattle.amending.specs.Amended.{amended}
use Rattle.strip.specs.declared.Differences.{Differences}
use Rattle.strip.specs.Updating.{event_of, compares_time, compares_date, other_day, differences, differs, update_of}
use Rattle.causes.specs.declared.Key.{Key}
use Rattle.causes.specs.declared.Key.TheVariants.{Typ, Dep, Dest, Altn}
use Rattle.causes.specs.declared.Cause.{Cause as Shown}
use Rattle.causes.specs.declared.Cause.TheVariants.{NothingMore, Another, Missing, Forbidden}
use Rattle.causes.specs.Causes.{key_for, event_cause, offered_cause, opened_cause, cause_of, field_for, shows_nothing, Agree}
use Rattle.causes.proofs.Agreed.{agrees}
use Rattle.history.specs.Eighteen.{date_told}
use Rattle.history.specs.History.{Plan, plan_in, nine, Told}
use Rattle.history.specs.Demand3.{fit_role, TimeToo, Same, allowed, plan_on, amended_on, told, told_as, Passes, Cause}
use Rattle.history.specs.Demand3.Cause.{not_proper, not_read, not_fit, no_type, another_flight, not_allowed as forbidden-there}
use Rattle.history.specs.Demand3.Cause.{unexplained as left_unexplained, too_long, no_room_lem}
use Rattle.history.proofs.Eighteen.{date_told_lem}
use Rattle.history.proofs.Strip.{plain, said_contents, proper_stripped, proper_tested, plan_contents}
use Rattle.history.proofs.Causes.{told_is, amended_on_lem, refused_cause, cause_refused}
use Rattle.demands.specs.Whys.{Sorted, OfEach, OfDates, TheSet, name_of, wants, rank_of, Lacks, Heard, Why}
use Rattle.demands.specs.Whys.Why.{differing, not_allowed, lacking, no_more}
use Rattle.std.specs.Prelude.{Err}
use Rattle.outer.specs.Refusal.{refusal}

-- THE SET

sorted : (v w : Word) → Sorted OfEach (not (same v w)) v w
sorted v w =
    record {
      unequal = λ e q. false≢true (sym (ap not (ap (same v) (sym q) ∙ same_self v)) ∙ e);
      equal = λ e. go (same v w) refl e;
      compared = λ e. absurd e;
    }
  where
    go : (b : Bool) → same v w ≡ b → not b ≡ false → v ≡ w
    go true q e = same-eq v w q
    go false q e = absurd (false≢true (sym e))

-- a value that is not compared
beside : (v w : Word) → Sorted (λ P. Unit) false v w
beside v w = record { unequal = λ e q. false≢true e; equal = λ e. tt; compared = λ e. refl }

sorted_time : (role : Role) (v w : Word) → Sorted (TimeToo role) (compares_time role && not (same v w)) v w
sorted_time Changes v w = sorted v w
sorted_time Cancels v w = sorted v w
sorted_time Arrives v w = sorted v w
sorted_time Delays v w = beside v w
sorted_time Departs v w = beside v w
sorted_time Files v w = beside v w
sorted_time Neither v w = beside v w

-- the dates, where both carry one
some_byte : (x : ℕ) (v : Word) → x ∷ v ≡ [] → ⊥
some_byte x v e = false≢true (ap null e)

sorted_day : (v w : Word) → Sorted (λ P. (v ≡ [] → ⊥) → (w ≡ [] → ⊥) → P) (other_day v w) v w
sorted_day [] w = record { unequal = λ e q. false≢true e; equal = λ e a b. absurd (a refl); compared = λ e. refl }
sorted_day (x ∷ v) [] = record { unequal = λ e q. false≢true e; equal = λ e a b. absurd (b refl); compared = λ e. refl }
sorted_day (x ∷ v) (y ∷ w) =
    let s = sorted (x ∷ v) (y ∷ w) in
    record { unequal = s.unequal; equal = λ e a b. s.equal e; compared = λ e. absurd (e (some_byte x v) (some_byte y w)) }

sorted_date : (role : Role) (v w : Word) → Sorted (OfDates role v w) (compares_date role && other_day v w) v w
sorted_date Changes v w = sorted_day v w
sorted_date Cancels v w = sorted_day v w
sorted_date Departs v w = sorted_day v w
sorted_date Delays v w = beside v w
sorted_date Arrives v w = beside v w
sorted_date Files v w = beside v w
sorted_date Neither v w = beside v w

date_told_sorted : (role : Role) (c d : Word)
    → Sorted (OfDates role (date_told c) (date_told d)) (compares_date role && other_day (date_in c) (date_in d)) (date_told c) (date_told d)
date_told_sorted role c d =
    subst (λ (b : Bool). Sorted (OfDates role (date_told c) (date_told d)) b (date_told c) (date_told d))
    (ap₂ (λ (v w : Word). compares_date role && other_day v w) (date_told_lem c) (date_told_lem d)) (sorted_date role (date_told c) (date_told d))

the_set : (t : MessageType) (ps cs : List Word) → TheSet (plan_in ps) (record { type = t; fields = cs }) (differences (role_of t) ps cs)
the_set t ps cs =
    record {
      identification_sorted = sorted (before 47 (get_or ps plan7 [])) (before 47 (get_or cs brief7 []));
      aerodrome_sorted = sorted (take 4 (get_or ps plan13 [])) (take 4 (get_or cs brief13 []));
      time_sorted = sorted_time (role_of t) (drop 4 (get_or ps plan13 [])) (drop 4 (get_or cs brief13 []));
      destination_sorted = sorted (take 4 (get_or ps plan16 [])) (take 4 (get_or cs brief16 []));
      date_sorted = date_told_sorted (role_of t) (get_or ps plan18 []) (get_or cs brief18 []);
    }

-- there is one such set

-- what is asked of a value, of what it would follow from
abbrev Passing : (Type 0 → Type 0) → Type 1
Passing asks = (P Q : Type 0) → (P → Q) → asks P → asks Q

of_each : Passing OfEach
of_each P Q f p = f p

time_passing : (role : Role) → Passing (TimeToo role)
time_passing Changes P Q f p = f p
time_passing Cancels P Q f p = f p
time_passing Arrives P Q f p = f p
time_passing Delays P Q f p = tt
time_passing Departs P Q f p = tt
time_passing Files P Q f p = tt
time_passing Neither P Q f p = tt

date_passing : (role : Role) (v w : Word) → Passing (OfDates role v w)
date_passing Changes v w P Q f p = λ a b. f (p a b)
date_passing Cancels v w P Q f p = λ a b. f (p a b)
date_passing Departs v w P Q f p = λ a b. f (p a b)
date_passing Delays v w P Q f p = tt
date_passing Arrives v w P Q f p = tt
date_passing Files v w P Q f p = tt
date_passing Neither v w P Q f p = tt

sorted_one : {asks : Type 0 → Type 0} → Passing asks → (a b : Bool) (v w : Word) → Sorted asks a v w → Sorted asks b v w → a ≡ b
sorted_one f true true v w s z = refl
sorted_one f false false v w s z = refl
sorted_one f true false v w s z = s.compared (f (v ≡ w) ⊥ (s.unequal refl) (z.equal refl))
sorted_one f false true v w s z = sym (z.compared (f (v ≡ w) ⊥ (z.unequal refl) (s.equal refl)))

abbrev set_of : Bool → Bool → Bool → Bool → Bool → Differences
set_of i a t f d = record { identification = i; aerodrome = a; time = t; destination = f; date = d }

set_one : (p : Plan) (m : Told) (d e : Differences) → TheSet p m d → TheSet p m e → d ≡ e
set_one p m d e s z =
    ap₂ (λ (i a : Bool). set_of i a d.time d.destination d.date)
    (sorted_one of_each _ _ _ _ s.identification_sorted z.identification_sorted)
    (sorted_one of_each _ _ _ _ s.aerodrome_sorted z.aerodrome_sorted)
    ∙ ap₂ (λ (t f : Bool). set_of e.identification e.aerodrome t f d.date)
    (sorted_one (time_passing (role_of m.type)) _ _ _ _ s.time_sorted z.time_sorted)
    (sorted_one of_each _ _ _ _ s.destination_sorted z.destination_sorted)
    ∙ ap (λ (b : Bool). set_of e.identification e.aerodrome e.time e.destination b)
    (sorted_one (date_passing (role_of m.type) _ _) _ _ _ _ s.date_sorted z.date_sorted)

-- THE KEY

abbrev lacks : List Word → Key → Bool
lacks cs k = wants cs k && not (has_key (get_or cs plan18 []) (name_of k))

-- the field that is unexplained, by the four tests
abbrev field_by : Bool → Bool → Bool → Bool → ℕ
field_by a b c d = cond a 9 (cond b 13 (cond (c || d) 16 0))

abbrev key_by : Bool → Bool → Bool → Bool → Key
key_by a b c d = cond (eqb (field_by a b c d) 9) Typ (cond (eqb (field_by a b c d) 13) Dep (cond c Dest Altn))

not_true : (b : Bool) → not b ≡ true → b ≡ false
not_true true e = absurd (false≢true e)
not_true false e = refl

lacked : (cs : List Word) (key : Key) → lacks cs key ≡ true → ((k : Key) → rank_of k < rank_of key → lacks cs k ≡ false) → Lacks cs key
lacked cs key e none =
    let k = both (wants cs key) (not (has_key (get_or cs plan18 []) (name_of key))) e in
    record { wanted = k.0; absent = not_true (has_key (get_or cs plan18 []) (name_of key)) k.1; first = none }

-- the key that is shown
key_lacks : (cs : List Word) → (unexplained_in cs ≡ 0 → ⊥) → Lacks cs (key_for (unexplained_in cs) cs)
unfolding unexplained
key_lacks cs = go (lacks cs Typ) (lacks cs Dep) (lacks cs Dest) (lacks cs Altn) refl refl refl refl
  where
    go : (a b c d : Bool) → lacks cs Typ ≡ a → lacks cs Dep ≡ b → lacks cs Dest ≡ c → lacks cs Altn ≡ d
        → (field_by a b c d ≡ 0 → ⊥) → Lacks cs (key_by a b c d)
    go true b c d p q r s n = lacked cs Typ p (λ k l. absurd (before_first k l))
      where
        before_first : (k : Key) → rank_of k < 1 → ⊥
        before_first Typ l = omega arith
        before_first Dep l = omega arith
        before_first Dest l = omega arith
        before_first Altn l = omega arith
    go false true c d p q r s n = lacked cs Dep q none
      where
        none : (k : Key) → rank_of k < 2 → lacks cs k ≡ false
        none Typ l = p
        none Dep l = absurd (omega arith)
        none Dest l = absurd (omega arith)
        none Altn l = absurd (omega arith)
    go false false true d p q r s n = lacked cs Dest r none
      where
        none : (k : Key) → rank_of k < 3 → lacks cs k ≡ false
        none Typ l = p
        none Dep l = q
        none Dest l = absurd (omega arith)
        none Altn l = absurd (omega arith)
    go false false false true p q r s n = lacked cs Altn s none
      where
        none : (k : Key) → rank_of k < 4 → lacks cs k ≡ false
        none Typ l = p
        none Dep l = q
        none Dest l = r
        none Altn l = absurd (omega arith)
    go false false false false p q r s n = absurd (n refl)

-- a plan that lacks one leaves a field unexplained
lacks_field : (cs : List Word) (key : Key) → lacks cs key ≡ true → unexplained_in cs ≡ 0 → ⊥
unfolding unexplained
lacks_field cs key e z = go key (lacks cs Typ) (lacks cs Dep) (lacks cs Dest) (lacks cs Altn) refl refl refl refl e z
  where
    go : (k : Key) (a b c d : Bool) → lacks cs Typ ≡ a → lacks cs Dep ≡ b → lacks cs Dest ≡ c → lacks cs Altn ≡ d
        → lacks cs k ≡ true → field_by a b c d ≡ 0 → ⊥
    go k true b c d p q r s h n = omega arith
    go k false true c d p q r s h n = omega arith
    go k false false true d p q r s h n = omega arith
    go k false false false true p q r s h n = omega arith
    go Typ false false false false p q r s h n = false≢true (sym p ∙ h)
    go Dep false false false false p q r s h n = false≢true (sym q ∙ h)
    go Dest false false false false p q r s h n = false≢true (sym r ∙ h)
    go Altn false false false false p q r s h n = false≢true (sym s ∙ h)

lacks_true : (cs : List Word) (key : Key) → Lacks cs key → lacks cs key ≡ true
lacks_true cs key l = and_both (wants cs key) (not (has_key (get_or cs plan18 []) (name_of key))) l.wanted (ap not l.absent)

-- there is one such key

abbrev key_of : ℕ → Key
key_of n = cond (eqb n 1) Typ (cond (eqb n 2) Dep (cond (eqb n 3) Dest Altn))

ranked : (k : Key) → key_of (rank_of k) ≡ k
ranked Typ = refl
ranked Dep = refl
ranked Dest = refl
ranked Altn = refl

key_one : (cs : List Word) (j k : Key) → Lacks cs j → Lacks cs k → j ≡ k
key_one cs j k l n = sym (ranked j) ∙ ap key_of even ∙ ranked k
  where
    earlier : (a b : Key) → Lacks cs a → Lacks cs b → rank_of a < rank_of b → ⊥
    earlier a b x y h = false≢true (sym (y.first a h) ∙ lacks_true cs a x)

    even : rank_of j ≡ rank_of k
    even = go (ltb (rank_of j) (rank_of k)) refl (ltb (rank_of k) (rank_of j)) refl
      where
        go : (a : Bool) → ltb (rank_of j) (rank_of k) ≡ a → (b : Bool) → ltb (rank_of k) (rank_of j) ≡ b → rank_of j ≡ rank_of k
        go true p b q = absurd (earlier j k l n (ltb-true (rank_of j) (rank_of k) p))
        go false p true q = absurd (earlier k j n l (ltb-true (rank_of k) (rank_of j) q))
        go false p false q = omega (arith, ltb-false (rank_of j) (rank_of k) p, ltb-false (rank_of k) (rank_of j) q)

-- WHAT THE CAUSE OF A MESSAGE IS MADE FROM: the differences, and the amended plan

abbrev From : Differences → List Word → Shown → Type 0
From found cs NothingMore = Unit
From found cs (Another d) = d ≡ found
From found cs (Missing key) = key ≡ key_for (unexplained_in cs) cs
From found cs (Forbidden state) = Unit

module _ (role : Role) (plan : List ℕ) (held : Strip) (said : List ℕ) where
  abbrev compared : Differences
  compared = differences role (split 45 plan) (split 45 said)

  offered_from : From compared (amended role plan said) (offered_cause role plan held said)
  unfolding offered_cause
  offered_from = go (event_of role (split 45 said))
    where
      in_plan : (b : Bool) → From compared (amended role plan said)
          (cond b NothingMore (Missing (key_for (unexplained_in (amended role plan said)) (amended role plan said))))
      in_plan true = tt
      in_plan false = refl

      by_tests : (a b : Bool) → From compared (amended role plan said)
          (cond a (Another compared)
          (cond b (cond (eqb (unexplained_in (amended role plan said)) 0) NothingMore
          (Missing (key_for (unexplained_in (amended role plan said)) (amended role plan said)))) (Forbidden held.state)))
      by_tests true b = refl
      by_tests false true = in_plan (eqb (unexplained_in (amended role plan said)) 0)
      by_tests false false = tt

      go : (o : rust.Option Event) → From compared (amended role plan said) (event_cause o role plan held said)
      go rust.None = tt
      go (rust.Some e) = by_tests (differs compared) (allowed_in held e)

fit_plain : (role : Role) → fit_role role ≡ true → plain role ≡ true
fit_plain Changes e = refl
fit_plain Delays e = refl
fit_plain Cancels e = refl
fit_plain Departs e = refl
fit_plain Arrives e = refl
fit_plain Files e = refl
fit_plain Neither e = e

module _ (strip : List ℕ) (held : Strip) (m : List ℕ) where
  abbrev shown : Shown
  shown = cause_of strip held m

  module _ (h : Heard strip held m) where
    abbrev role : Role
    role = role_of h.type

    heard_cause : shown ≡ offered_cause role (inner strip) held (text_said h.type m)
    unfolding cause_of opening_of
    heard_cause =
        ap (λ (b : Bool). opened_cause (cond b (read_as (answer_of m most)) (Err (refusal 15 0 0))) strip held m) (proper_tested strip held h.proper)
        ∙ ap (λ (a : Answer). opened_cause (read_as a) strip held m) h.read

    heard_contents : split 45 (text_said h.type m) ≡ contents m
    heard_contents = said_contents h.type m (fit_plain role h.fit) (accepted_taken h.type m most h.long h.read).reached

    plan_heard : split 45 (inner strip) ≡ contents strip
    plan_heard = plan_contents strip (proper_stripped strip held h.proper)

    -- with the plan and the message as the history has them
    shown_from : (c : Shown) → shown ≡ c → From (differences role (contents strip) (contents m)) (nine (amended_on strip m)) c
    shown_from c e =
        subst (From (differences role (contents strip) (contents m)) (nine (amended_on strip m))) (sym heard_cause ∙ e)
        (subst (λ (cs : List Word). From (differences role (contents strip) (contents m)) cs (offered_cause role (inner strip) held (text_said h.type m)))
        (amended_on_lem strip held m most h.proper h.type h.long h.read h.fit)
        (subst (λ (d : Differences).
        From d (amended role (inner strip) (text_said h.type m)) (offered_cause role (inner strip) held (text_said h.type m)))
        (ap₂ (differences role) plan_heard heard_contents) (offered_from role (inner strip) held (text_said h.type m))))

    set_shown : (d : Differences) → shown ≡ Another d → TheSet (plan_on strip) (told m) d
    set_shown d e =
        subst (λ (k : Told). TheSet (plan_on strip) k d) (sym (told_is strip held m most h.proper h.type h.long h.read))
        (subst (TheSet (plan_on strip) (record { type = h.type; fields = contents m })) (sym (shown_from (Another d) e))
        (the_set h.type (contents strip) (contents m)))

-- THE CAUSES OF THE HISTORY, by their numbers

module _ (strip : List ℕ) (held : Strip) (m : List ℕ) where
  pub record Twelve : Type 0 where
    pub heard : Heard strip held m
    pub other : Same (plan_on strip) (told m) → ⊥

  by_twelve : (room number field place : ℕ) → Cause strip held m room number field place → number ≡ 12 → Twelve
  by_twelve room number field place (not_proper h) e = absurd (omega arith)
  by_twelve room number field place (not_read p q l) e = absurd (omega arith)
  by_twelve room number field place (not_fit p q) e = absurd (omega arith)
  by_twelve room number field place (no_type p q f) e = absurd (omega arith)
  by_twelve room number field place (another_flight p {t} {n} q f h) e =
      record { heard = record { proper = p; type = t; long = n; read = q; fit = f }; other = h }
  by_twelve room number field place (forbidden-there p q f h a) e = absurd (omega arith)
  by_twelve room number field place (left_unexplained k u) e = absurd (omega arith)
  by_twelve room number field place (too_long k u l) e = absurd (omega arith)
  by_twelve room number field place (no_room_lem k u l r) e = absurd (omega arith)

  by_thirteen : (room number field place : ℕ) → Cause strip held m room number field place → number ≡ 13 → Why strip held m (Forbidden held.state)
  by_thirteen room number field place (not_proper h) e = absurd (omega arith)
  by_thirteen room number field place (not_read p q l) e = absurd (omega arith)
  by_thirteen room number field place (not_fit p q) e = absurd (omega arith)
  by_thirteen room number field place (no_type p q f) e = absurd (omega arith)
  by_thirteen room number field place (another_flight p q f h) e = absurd (omega arith)
  by_thirteen room number field place (forbidden-there p {t} {n} q f h a) e = not_allowed (record { proper = p; type = t; long = n; read = q; fit = f }) h a
  by_thirteen room number field place (left_unexplained k u) e = absurd (omega arith)
  by_thirteen room number field place (too_long k u l) e = absurd (omega arith)
  by_thirteen room number field place (no_room_lem k u l r) e = absurd (omega arith)

  pub record Ten : Type 0 where
    pub passes : Passes strip held m
    pub left_so : unexplained_in (nine (amended_on strip m)) ≡ 0 → ⊥

  by_ten : (room number field place : ℕ) → Cause strip held m room number field place → number ≡ 10 → Ten
  by_ten room number field place (not_proper h) e = absurd (omega arith)
  by_ten room number field place (not_read p q l) e = absurd (omega arith)
  by_ten room number field place (not_fit p q) e = absurd (omega arith)
  by_ten room number field place (no_type p q f) e = absurd (omega arith)
  by_ten room number field place (another_flight p q f h) e = absurd (omega arith)
  by_ten room number field place (forbidden-there p q f h a) e = absurd (omega arith)
  by_ten room number field place (left_unexplained k u) e = record { passes = k; left_so = u }
  by_ten room number field place (too_long k u l) e = absurd (omega arith)
  by_ten room number field place (no_room_lem k u l r) e = absurd (omega arith)

abbrev heard_of : {strip : List ℕ} {held : Strip} {m : List ℕ} → Passes strip held m → Heard strip held m
heard_of k = record { proper = k.proper; type = k.type; long = k.long; read = k.read; fit = k.fit }

-- ON EVERY INPUT

module _ (strip : List ℕ) (held : Strip) (m : List ℕ) where
  pub why : Why strip held m (cause_of strip held m)
  why = go (cause_of strip held m) refl (agrees strip held m most)
    where
      go : (c : Shown) → cause_of strip held m ≡ c → Agree held c (update_of strip held m most) → Why strip held m c
      go NothingMore e a = no_more none
        where
          silent : (room number field place : ℕ) → update_of strip held m room ≡ Err (refusal number field place) → one_of number (10 ∷ 12 ∷ 13 ∷ []) ≡ true → ⊥
          silent room number field place u l =
              let s : shows_nothing (Err (refusal number field place)) ≡ true
              = subst (λ (c : Shown). Agree held c (Err (refusal number field place))) e (subst (Agree held (cause_of strip held m)) u
              (agrees strip held m room)) in
              false≢true (sym (ap (λ (b : Bool). cond b false true) l) ∙ s)

          none : (room number field place : ℕ) → Cause strip held m room number field place → one_of number (10 ∷ 12 ∷ 13 ∷ []) ≡ true → ⊥
          none room number field place c l = silent room number field place (cause_refused strip held m room number field place c) l
      go (Another d) e a =
          let k = by_twelve strip held m most 12 0 0 (refused_cause strip held m most 12 0 0 a.0) refl in
          differing k.heard k.other (set_shown strip held m k.heard d e)
      go (Missing key) e a =
          let k = by_ten strip held m most 10 (field_for key) 0 (refused_cause strip held m most 10 (field_for key) 0 a) refl in
          lacking k.passes (subst (Lacks (nine (amended_on strip m))) (sym (shown_from strip held m (heard_of k.passes) (Missing key) e))
          (key_lacks (nine (amended_on strip m)) k.left_so))
      go (Forbidden state) e a =
          subst (λ (s : State). Why strip held m (Forbidden s)) (sym a.1)
          (by_thirteen strip held m most 13 0 0 (refused_cause strip held m most 13 0 0 a.0) refl)

-- AND NOTHING ELSE IS SHOWN

module _ (strip : List ℕ) (held : Strip) (m : List ℕ) where
  type_one : (h k : Heard strip held m) → h.type ≡ k.type
  type_one h k = ap (λ (a : Answer). (told_as a m).type) (sym h.read ∙ k.read)

  -- what 13 and 10 ask of the state
  both_ways : (h : Heard strip held m) → allowed held.state h.type ≡ false → Passes strip held m → ⊥
  both_ways h a k = false≢true (sym a ∙ ap (allowed held.state) (type_one h (heard_of k)) ∙ k.permits)

  abbrev None : Type 0
  None = (room number field place : ℕ) → Cause strip held m room number field place → one_of number (10 ∷ 12 ∷ 13 ∷ []) ≡ true → ⊥

  not_twelve : None → (h : Heard strip held m) → (Same (plan_on strip) (told m) → ⊥) → ⊥
  not_twelve f h n = f 0 12 0 0 (another_flight h.proper h.read h.fit n) refl

  not_thirteen : None → (h : Heard strip held m) → Same (plan_on strip) (told m) → allowed held.state h.type ≡ false → ⊥
  not_thirteen f h s a = f 0 13 0 0 (forbidden-there h.proper h.read h.fit s a) refl

  not_ten : None → Passes strip held m → (key : Key) → Lacks (nine (amended_on strip m)) key → ⊥
  not_ten f k key l =
      let cs = nine (amended_on strip m) in
      f 0 10 (unexplained_in cs) 0 (left_unexplained k (lacks_field cs key (lacks_true cs key l))) refl

  pub why_one : {c e : Shown} → Why strip held m c → Why strip held m e → c ≡ e
  why_one (differing h n {d} s) (differing k o {d = e} z) = ap Another (set_one (plan_on strip) (told m) d e s z)
  why_one (differing h n s) (not_allowed k o a) = absurd (n o)
  why_one (differing h n s) (lacking k l) = absurd (n k.for_this)
  why_one (differing h n s) (no_more f) = absurd (not_twelve f h n)
  why_one (not_allowed h s a) (differing k n z) = absurd (n s)
  why_one (not_allowed h s a) (not_allowed k z b) = refl
  why_one (not_allowed h s a) (lacking k l) = absurd (both_ways h a k)
  why_one (not_allowed h s a) (no_more f) = absurd (not_thirteen f h s a)
  why_one (lacking k l) (differing h n s) = absurd (n k.for_this)
  why_one (lacking k l) (not_allowed h s a) = absurd (both_ways h a k)
  why_one (lacking k {key = a} l) (lacking j {key = b} n) = ap Missing (key_one (nine (amended_on strip m)) a b l n)
  why_one (lacking k {key} l) (no_more f) = absurd (not_ten f k key l)
  why_one (no_more f) (differing h n s) = absurd (not_twelve f h n)
  why_one (no_more f) (not_allowed h s a) = absurd (not_thirteen f h s a)
  why_one (no_more f) (lacking k {key} l) = absurd (not_ten f k key l)
  why_one (no_more f) (no_more g) = refl

  -- the call shows it exactly where it is so
  pub only_why : (c : Shown) → Why strip held m c → cause_of strip held m ≡ c
  only_why c w = why_one (why strip held m) w

  -- what the contract of `causes::cause_of` says is enough
  pub cause_shows : (c : Shown) → c ≡ cause_of strip held m → Why strip held m c
  cause_shows c e = subst (Why strip held m) (sym e) (why strip held m)
