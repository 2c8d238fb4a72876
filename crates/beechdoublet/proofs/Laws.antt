-- Numbers lose nothing: two answers or two states with the same numbers are the same, and a state comes back from its numbers. The number 0 is
-- an acceptance's alone. Assumes nothing.
use Prim.Native.Nat.{ℕ, ◌-◌, ◌≤◌}
use mathlib.Core.Path.{◌≡◌, refl, sym, ap, ap₂, subst, ◌∙◌}
use mathlib.Core.Bool.{Bool, true, false, ◌&&◌, cond}
use mathlib.Core.List.{List}
use mathlib.Core.Option as maybe
use mathlib.Core.Option.{none, some}
use native.Mathlib.Omega.{arith}
use lib.Dec.{eqb, ltb, leb}
use lib.ListN.{length, drop, get_or}
use borrow.Author.Tests.{ne_eqb, lt-ltb, le-ltb, ltb-true, ltb-false, leb-true}
use Rattle.std.specs.Prelude.{Option, Some, None, Ok, Err}
use Rattle.kinds.specs.declared.MessageType.{MessageType}
use Rattle.kinds.specs.declared.MessageType.TheVariants.{Fpl}
use Rattle.kinds.specs.declared.Role.TheVariants.{Changes}
use Rattle.kinds.specs.Kinds.{name_of, types_read}
use Rattle.kinds.proofs.Names.{name_one, each}
use Rattle.message.specs.Answer.{Answer}
use Rattle.message.specs.Reading.{is_plan, spelling_of, answer_of, out_after}
use Rattle.message.proofs.Answers.{refused-number}
use Rattle.state.specs.declared.State.{State}
use Rattle.text.specs.Words.{holds, split, same}
use Rattle.space.specs.Fields.{inner}
use Rattle.outer.specs.Outer.{most}
use Rattle.text.proofs.Tests.{same-eq}
use Rattle.state.specs.State.{sound}
use Rattle.state.specs.declared.Strip.{Strip}
use Rattle.strip.specs.Updating.{Updated, differences, differs, update_of}
use Rattle.opening.specs.Opening.{canonical_plan, read_as, opening_of}
use Rattle.force.specs.InForce.{named_by, named_at}
use Rattle.history.proofs.Causes.{Took, Verdict, verdict}
use Rattle.history.proofs.Demand3.{took_proper}
use Rattle.asked.specs.Asking.{Asked, rank_of, stands_in, stands_as, field_as, is_bare, bare_as, flight_as, is_change, type_as, opened_as, asked_of}
use Rattle.parts.specs.Parts.{Part, Planned}
use Rattle.dates.specs.declared.Date.{Date}
use Rattle.parts.specs.declared.PlanParts.{PlanParts}
use Rattle.parts.specs.Parts.{taken_as, taken_of, span_at, numbers_in, rank_in, field_in, field_as as numbered_as, field_of, plan_of, planned_as, planned_of}
use Rattle.beechdoublet.specs.Numbers.{type_number, read_number, read_numbers, update_number, update_numbers, asked_number, asked_numbers, field_told}
use Rattle.beechdoublet.specs.Numbers.{asked_whole, part_number, part_numbers, part_whole, date_numbers, parts_numbers, plan_number, plan_numbers}
use Rattle.handed.specs.States.{byte_of, handed_as}
use Rattle.handed.proofs.Laws.{state_one, handed_back}
use Rattle.board_numbers.proofs.Zero.{refused_numbered}
use Rattle.beechdoublet.specs.Handed.{update_as, state_as, asked_as}
use Rattle.beechdoublet.specs.Laws.{was_read, was_taken, was_shown, Numbered, Told, was_given, Given, was_planned, NumberedPlan}
use Rattle.std.specs.Prelude.{Result}
use Rattle.outer.specs.declared.Refusal.{Refusal}
use Rattle.outer.specs.Refusal.{refusal}
use Rattle.asked.specs.declared.Place.TheVariants.{InChange, InStrip}

-- refusals of equal numbers, fields and places are equal
err_one : {A : Type 0} (r q : Refusal) → r.number ≡ q.number → r.field ≡ q.field → r.place ≡ q.place → ◌≡◌ {A = Result A Refusal} (Err r) (Err q)
err_one r q n f p =
    ap (λ (x : ℕ). Err (refusal x r.field r.place)) n ∙ ap (λ (x : ℕ). Err (refusal q.number x r.place)) f ∙ ap (λ (x : ℕ). Err (refusal q.number q.field x)) p

-- THE TYPES

abbrev type_of : ℕ → MessageType
type_of n = get_or types_read (n - 1) Fpl

type_back : (t : MessageType) → type_of (type_number t) ≡ t
unfolding types_read
type_back t = name_one _ t (same-eq _ _ (each (λ u. same (name_of (type_of (type_number u))) (name_of u)) refl t))

pub type_one : (t u : MessageType) → type_number t ≡ type_number u → t ≡ u
type_one t u e = sym (type_back t) ∙ ap type_of e ∙ type_back u

type_some : (t : MessageType) → 1 ≤ type_number t
unfolding types_read
type_some t = leb-true 1 (type_number t) (each (λ u. leb 1 (type_number u)) refl t)

-- READING

pub read_one : (a b : Answer) → read_numbers a ≡ read_numbers b → a ≡ b
read_one (Ok (t, n)) (Ok (u, k)) e =
    let p : type_number t ≡ type_number u = cc in
    let q : t ≡ u = type_one t u p in
    let r : n ≡ k = cc in
    ap (λ (x : MessageType). Ok (x, n)) q ∙ ap (λ (x : ℕ). Ok (u, x)) r
read_one (Ok (t, n)) (Err r) e = let p : type_number t ≡ 0 = cc in absurd (omega (arith, type_some t))
read_one (Err r) (Ok (u, k)) e = let p : type_number u ≡ 0 = cc in absurd (omega (arith, type_some u))
read_one (Err r) (Err r') e = let n : r.number ≡ r'.number = cc in let f : r.field ≡ r'.field = cc in let p : r.place ≡ r'.place = cc in err_one r r' n f p

-- 0 is given back exactly where the message is accepted
pub read_zero : (m : List ℕ) (room : ℕ) → eqb (read_number (answer_of m room)) 0 ≡ was_read (answer_of m room)
read_zero m room = go (answer_of m room) refl
  where
    go : (a : Answer) → answer_of m room ≡ a → eqb (read_number a) 0 ≡ was_read a
    go (Ok (t, n)) e = refl
    go (Err r) e = ne_eqb r.number 0 (λ z. absurd (omega (arith, (refused-number m room r.number r.field r.place e).0)))

-- AN UPDATE

-- a refusal has a number
pub update_numbered : (h : Option Strip) (strip m : List ℕ) (room : ℕ) → Numbered (update_as h strip m room)
update_numbered None strip m room = omega arith
update_numbered (Some held) strip m room = go (update_of strip held m room) refl
  where
    go : (u : Updated) → update_of strip held m room ≡ u → Numbered u
    go (Ok (next, n)) e = tt
    go (Err r) e = refused_numbered strip held m room r.number r.field r.place e

-- 0 is given back exactly where the message is accepted
pub update_zero : (h : Option Strip) (strip m : List ℕ) (room : ℕ) → eqb (update_number (update_as h strip m room)) 0 ≡ was_taken (update_as h strip m room)
update_zero h strip m room = go (update_as h strip m room) (update_numbered h strip m room)
  where
    go : (u : Updated) → Numbered u → eqb (update_number u) 0 ≡ was_taken u
    go (Ok (next, n)) k = refl
    go (Err r) k = ne_eqb r.number 0 (λ z. absurd (omega arith))

-- the answer's numbers and the state's tell which answer it was
pub update_one : (ns : List ℕ) (u v : Updated) → Numbered u → Numbered v → update_numbers u ≡ update_numbers v → state_as u ns ≡ state_as v ns → u ≡ v
update_one ns (Ok (a, n)) (Ok (b, k)) hu hv e f =
    let p : a.state ≡ b.state = state_one a.state b.state f in
    let q : n ≡ k = cc in
    ap (λ (s : State). Ok (record { state = s }, n)) p ∙ ap (λ (n : ℕ). Ok (b, n)) q
update_one ns (Ok (a, n)) (Err r) hu hv e f = let z : r.number ≡ 0 = cc in absurd (omega (arith, hv))
update_one ns (Err r) (Ok (b, k)) hu hv e f = let z : r.number ≡ 0 = cc in absurd (omega (arith, hu))
update_one ns (Err r) (Err r') hu hv e h =
    let n : r.number ≡ r'.number = cc in
    let f : r.field ≡ r'.field = cc in
    let p : r.place ≡ r'.place = cc in
    err_one r r' n f p

-- what an accepted message leaves can be handed in again
pub next_handed : (ns strip m : List ℕ) (room : ℕ) (held next : Strip) (n : ℕ) → update_of strip held m room ≡ Ok (next, n)
    → handed_as (state_as (update_of strip held m room) ns) ≡ Some next
next_handed ns strip m room held next n e =
    let k : Took strip held m room next n = subst (Verdict strip held m room) e (verdict strip held m room) in
    ap (λ (u : Updated). handed_as (state_as u ns)) e
    ∙ handed_back next (took_proper strip held m room next n k).held_sound

-- THE FIELD IN FORCE

pub asked_one : (a b : Asked) → asked_numbers a ≡ asked_numbers b → a ≡ b
asked_one (Ok (InStrip from to)) (Ok (InStrip from' to')) e = cc
asked_one (Ok (InStrip from to)) (Ok (InChange from' to')) e = let z : ◌≡◌ {A = ℕ} 1 2 = cc in absurd (omega arith)
asked_one (Ok (InStrip from to)) (Err r) e = let z : ◌≡◌ {A = ℕ} 1 0 = cc in absurd (omega arith)
asked_one (Ok (InChange from to)) (Ok (InStrip from' to')) e = let z : ◌≡◌ {A = ℕ} 2 1 = cc in absurd (omega arith)
asked_one (Ok (InChange from to)) (Ok (InChange from' to')) e = cc
asked_one (Ok (InChange from to)) (Err r) e = let z : ◌≡◌ {A = ℕ} 2 0 = cc in absurd (omega arith)
asked_one (Err r) (Ok (InStrip from to)) e = cc
asked_one (Err r) (Ok (InChange from to)) e = let z : ◌≡◌ {A = ℕ} 0 2 = cc in absurd (omega arith)
asked_one (Err r) (Err r') e = let n : r.number ≡ r'.number = cc in let f : r.field ≡ r'.field = cc in let p : r.place ≡ r'.place = cc in err_one r r' n f p

-- an 8 for the number asked has it as its field, over 255 too
told_whole : (asked : ℕ) → field_told asked 8 (byte_of asked) ≡ asked
told_whole asked = go (ltb asked 256) refl
  where
    go : (b : Bool) → ltb asked 256 ≡ b → field_told asked 8 (byte_of asked) ≡ asked
    go true e = rw (e, le-ltb 255 asked (omega (arith, ltb-true asked 256 e)))
    go false e = rw (e, lt-ltb 255 asked (omega (arith, ltb-false asked 256 e)))

pub asked_whole_lem : (asked : ℕ) → asked_whole asked (Err (refusal 8 (byte_of asked) 0)) ≡ Err (refusal 8 asked 0)
asked_whole_lem asked = ap (λ (k : ℕ). Err (refusal 8 k 0)) (told_whole asked)

place_told : (o : maybe.Option ℕ) (plan said : List ℕ) (k : ℕ) → Told (stands_in o plan said k)
place_told (some at) plan said k = tt
place_told none plan said k = tt

field_told_lem : (plan said : List ℕ) (number : ℕ) → Told (field_as plan said number)
field_told_lem plan said number = go (eqb (rank_of number) 0)
  where
    go : (b : Bool) → Told (cond b (Err (refusal 8 number 0)) (stands_as plan said (rank_of number)))
    go true = omega arith
    go false = place_told (named_at said (rank_of number)) plan said (rank_of number)

bare_told : (plan said : List ℕ) (number : ℕ) → Told (bare_as plan said number)
bare_told plan said number = go (is_bare (rank_of number) (named_by said (rank_of number)))
  where
    go : (b : Bool) → Told (cond b (Err (refusal 17 0 0)) (field_as plan said number))
    go true = omega arith
    go false = field_told_lem plan said number

flight_told : (plan said : List ℕ) (number : ℕ) → Told (flight_as plan said number)
flight_told plan said number = go (differs (differences Changes (split 45 plan) (split 45 said)))
  where
    go : (b : Bool) → Told (cond b (Err (refusal 12 0 0)) (bare_as plan said number))
    go true = omega arith
    go false = bare_told plan said number

type_told : (t : MessageType) (spelled strip chg : List ℕ) (number : ℕ) → Told (type_as t spelled strip chg number)
unfolding type_as
type_told t spelled strip chg number = go (is_change t) (same spelled chg)
  where
    go : (a b : Bool) → Told (cond a (cond b (flight_as (inner strip) (inner chg) number) (Err (refusal 17 0 0))) (Err (refusal 14 0 0)))
    go true true = flight_told (inner strip) (inner chg) number
    go true false = omega arith
    go false b = omega arith

read_told : (strip chg : List ℕ) (number : ℕ) (a : Answer) → answer_of chg most ≡ a → Told (opened_as (read_as a) strip chg number)
read_told strip chg number (Ok (t, n)) e = type_told t (spelling_of t chg) strip chg number
read_told strip chg number (Err r) e = pick (leb r.number 9)
  where
    pick : (b : Bool) → Told (opened_as (Err (cond b r (refusal 14 0 0))) strip chg number)
    pick true = (refused-number chg most r.number r.field r.place e).0
    pick false = omega arith

pub asked_told : (h : Option Strip) (strip chg : List ℕ) (number : ℕ) → Told (asked_as h strip chg number)
unfolding asked_of opening_of
asked_told None strip chg number = omega arith
asked_told (Some held) strip chg number = go (sound held && canonical_plan strip)
  where
    go : (b : Bool) → Told (opened_as (cond b (read_as (answer_of chg most)) (Err (refusal 15 0 0))) strip chg (byte_of number))
    go true = read_told strip chg (byte_of number) (answer_of chg most) refl
    go false = omega arith

-- 0 is given back exactly where the field is shown
pub asked_zero : (h : Option Strip) (strip chg : List ℕ) (number : ℕ)
    → eqb (asked_number (asked_as h strip chg number)) 0 ≡ was_shown (asked_as h strip chg number)
asked_zero h strip chg number = go (asked_as h strip chg number) (asked_told h strip chg number)
  where
    go : (a : Asked) → Told a → eqb (asked_number a) 0 ≡ was_shown a
    go (Ok (InStrip from to)) k = refl
    go (Ok (InChange from to)) k = refl
    go (Err r) k = ne_eqb r.number 0 (λ z. absurd (omega arith))

-- A FIELD BY ITS NUMBER

pub part_one : (a b : Part) → part_numbers a ≡ part_numbers b → a ≡ b
part_one (Ok s) (Ok u) e =
    let f : s.from ≡ u.from = cc in
    let t : s.to ≡ u.to = cc in
    ap₂ (λ (x y : ℕ). Ok (record { from = x; to = y })) f t
part_one (Ok s) (Err r) e = let z : ◌≡◌ {A = ℕ} 1 0 = cc in absurd (omega arith)
part_one (Err r) (Ok s) e = cc
part_one (Err r) (Err r') e = let n : r.number ≡ r'.number = cc in let f : r.field ≡ r'.field = cc in let p : r.place ≡ r'.place = cc in err_one r r' n f p

-- an 8 for the number asked has it as its field, over 255 too
pub part_whole_lem : (asked : ℕ) → part_whole asked (Err (refusal 8 (byte_of asked) 0)) ≡ Err (refusal 8 asked 0)
part_whole_lem asked = ap (λ (k : ℕ). Err (refusal 8 k 0)) (told_whole asked)

pub part_given : (m : List ℕ) (n : ℕ) → Given (field_of m n)
unfolding field_of field_in taken_of
part_given m n = go (answer_of m most) refl
  where
    there : (t : MessageType) (b : Bool) → Given (cond b (Ok (span_at m (rank_in t m n))) (Err (refusal 8 n 0)))
    there t true = tt
    there t false = omega arith

    own : (t : MessageType) (b : Bool) → Given (cond b (field_in t m n) (Err (refusal 17 0 0)))
    own t true = there t (holds n (numbers_in t m))
    own t false = omega arith

    go : (a : Answer) → answer_of m most ≡ a → Given (numbered_as (taken_as a m) m n)
    go (Ok (t, k)) e = own t (same (spelling_of t m) m)
    go (Err r) e = (refused-number m most r.number r.field r.place e).0

-- 0 is given back exactly where the field is given
pub part_zero : (m : List ℕ) (n : ℕ) → eqb (part_number (field_of m n)) 0 ≡ was_given (field_of m n)
part_zero m n = go (field_of m n) (part_given m n)
  where
    go : (a : Part) → Given a → eqb (part_number a) 0 ≡ was_given a
    go (Ok s) k = refl
    go (Err r) k = ne_eqb r.number 0 (λ z. absurd (omega arith))

-- THE PARTS OF A PLAN

date_one : (a b : Option Date) → date_numbers a ≡ date_numbers b → a ≡ b
date_one (Some d) (Some f) e =
    ap (λ (ns : List ℕ). Some (record { year = get_or ns 1 0; month = get_or ns 2 0; day = get_or ns 3 0 })) e
date_one (Some d) None e = let z : ◌≡◌ {A = ℕ} 1 0 = cc in absurd (omega arith)
date_one None (Some d) e = let z : ◌≡◌ {A = ℕ} 0 1 = cc in absurd (omega arith)
date_one None None e = refl

-- the parts that a row of numbers has
abbrev parts_back : List ℕ → Option Date → PlanParts
parts_back ns d =
    record {
      identification = record { from = get_or ns 3 0; to = get_or ns 4 0 };
      aircraft = record { count = get_or ns 5 0; kind = record { from = get_or ns 6 0; to = get_or ns 7 0 } };
      departure = record { aerodrome = get_or ns 8 0; time = record { 0 = get_or ns 9 0 } };
      destination =
          record {
            aerodrome = get_or ns 10 0;
            elapsed = record { 0 = get_or ns 11 0 };
            alternates = get_or ns 12 0;
            first = get_or ns 13 0;
            second = get_or ns 14 0;
          };
      date = d;
    }

parts_one : (p q : PlanParts) → parts_numbers p ≡ parts_numbers q → p ≡ q
parts_one p q e = ap₂ parts_back e (date_one p.date q.date (ap (drop 15) e))

pub plan_one : (a b : Planned) → NumberedPlan a → NumberedPlan b → plan_numbers a ≡ plan_numbers b → a ≡ b
plan_one (Ok p) (Ok q) ha hb e = ap Ok (parts_one p q e)
plan_one (Ok p) (Err r) ha hb e = let z : r.number ≡ 0 = cc in absurd (omega (arith, hb))
plan_one (Err r) (Ok q) ha hb e = let z : r.number ≡ 0 = cc in absurd (omega (arith, ha))
plan_one (Err r) (Err r') ha hb e =
    let n : r.number ≡ r'.number = cc in
    let f : r.field ≡ r'.field = cc in
    let p : r.place ≡ r'.place = cc in
    err_one r r' n f p

pub plan_numbered : (m : List ℕ) → NumberedPlan (planned_of m)
unfolding planned_of taken_of
plan_numbered m = go (answer_of m most) refl
  where
    pick : (a b : Bool) → NumberedPlan (cond a (cond b (Ok (plan_of m)) (Err (refusal 17 0 0))) (Err (refusal 14 0 0)))
    pick true true = tt
    pick true false = omega arith
    pick false b = omega arith

    go : (a : Answer) → answer_of m most ≡ a → NumberedPlan (planned_as (taken_as a m) m)
    go (Ok (t, k)) e = pick (is_plan t) (same (spelling_of t m) m)
    go (Err r) e = (refused-number m most r.number r.field r.place e).0

-- 0 is given back exactly where the parts are told
pub plan_zero : (m : List ℕ) → eqb (plan_number (planned_of m)) 0 ≡ was_planned (planned_of m)
plan_zero m = go (planned_of m) (plan_numbered m)
  where
    go : (a : Planned) → NumberedPlan a → eqb (plan_number a) 0 ≡ was_planned a
    go (Ok p) k = refl
    go (Err r) k = ne_eqb r.number 0 (λ z. absurd (omega arith))

-- EACH CONTRACT ALLOWS ONE RESULT: the number that is given back, the answer's numbers, the state's numbers and the output; that of
-- `beechdoublet_sound` is an equation

pub read_determined : (m out : List ℕ) (r r' : ℕ) (a a' o o' : List ℕ)
    → (r ≡ read_number (answer_of m (length out))) × (a ≡ read_numbers (answer_of m (length out))) × (o ≡ out_after m out)
    → (r' ≡ read_number (answer_of m (length out))) × (a' ≡ read_numbers (answer_of m (length out))) × (o' ≡ out_after m out)
    → (r ≡ r') × (a ≡ a') × (o ≡ o')
read_determined m out r r' a a' o o' p q = (p.0 ∙ sym q.0, p.1 ∙ sym q.1, p.2 ∙ sym q.2)

pub update_determined : (u : Updated) (ns out : List ℕ) (r r' : ℕ) (a a' s s' o o' : List ℕ)
    → (r ≡ update_number u) × (a ≡ update_numbers u) × (s ≡ state_as u ns) × (o ≡ out)
    → (r' ≡ update_number u) × (a' ≡ update_numbers u) × (s' ≡ state_as u ns) × (o' ≡ out)
    → (r ≡ r') × (a ≡ a') × (s ≡ s') × (o ≡ o')
update_determined u ns out r r' a a' s s' o o' p q = (p.0 ∙ sym q.0, p.1 ∙ sym q.1, p.2 ∙ sym q.2, p.3 ∙ sym q.3)

pub asked_determined : (asked : ℕ) (x : Asked) (more : Type 0) (r r' : ℕ) (a a' : List ℕ)
    → (r ≡ asked_number x) × (a ≡ asked_numbers (asked_whole asked x)) × more
    → (r' ≡ asked_number x) × (a' ≡ asked_numbers (asked_whole asked x)) × more → (r ≡ r') × (a ≡ a')
asked_determined asked x more r r' a a' p q = (p.0 ∙ sym q.0, p.1 ∙ sym q.1)

-- `beechdoublet_field` and `beechdoublet_plan`, of what is given back, the answer's numbers and more
pub part_determined : (asked : ℕ) (x : Part) (more : Type 0) (r r' : ℕ) (a a' : List ℕ)
    → (r ≡ part_number x) × (a ≡ part_numbers (part_whole asked x)) × more
    → (r' ≡ part_number x) × (a' ≡ part_numbers (part_whole asked x)) × more → (r ≡ r') × (a ≡ a')
part_determined asked x more r r' a a' p q = (p.0 ∙ sym q.0, p.1 ∙ sym q.1)

pub plan_determined : (x : Planned) (more : Type 0) (r r' : ℕ) (a a' : List ℕ)
    → (r ≡ plan_number x) × (a ≡ plan_numbers x) × more → (r' ≡ plan_number x) × (a' ≡ plan_numbers x) × more → (r ≡ r') × (a ≡ a')
plan_determined x more r r' a a' p q = (p.0 ∙ sym q.0, p.1 ∙ sym q.1)
