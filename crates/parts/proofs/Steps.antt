-- The steps of the code: the place of a number among a type's fields, each answer, and what a field's content is. Assumes nothing.
use Prim.Native.Nat.{ℕ, zero, suc, ◌+◌, ◌-◌, ◌<◌, ◌≤◌}
use mathlib.Core.Path.{◌≡◌, refl, sym, ap, ap₂, ◌∙◌}
use mathlib.Core.Bool.{Bool, true, false, cond, false≢true}
use mathlib.Core.List.{List, [], ◌∷◌, map}
use native.Mathlib.Omega.{arith}
use lib.Dec.{ltb, leb}
use lib.ListN.{length, take, drop, get_or, length-map}
use lib.Seq.{length-take-le}
use borrow.Author.Tests.{lt-ltb, le-ltb, leb-true}
use Rattle.std.specs.Prelude.{Option}
use Rattle.text.specs.Words.{Word, up_to, before}
use Rattle.text.proofs.Index.{find_here, find_next, find_end, up_to-le}
use Rattle.text.proofs.Tests.{both}
use Rattle.shape.specs.declared.Elapsed.{Elapsed}
use Rattle.outer.specs.Outer.{most}
use Rattle.sent.specs.Sent.{contents}
use Rattle.head.specs.Runs.{lead}
use Rattle.head.specs.Field7.{record7}
use Rattle.head.specs.Field9.{number, aircraft, count_of as count_of9, fits9, record9}
use Rattle.aerodromes.specs.Field13.{fits13, record13}
use Rattle.aerodromes.specs.Field16.{fits16plan, record16plan}
use Rattle.dates.specs.declared.Date.{Date}
use Rattle.dates.specs.Dates.{date_in, flight_date}
use Rattle.kinds.specs.declared.MessageType.{MessageType}
use Rattle.kinds.specs.declared.MessageType.TheVariants.{Fpl}
use Rattle.kinds.specs.declared.Form.{Form}
use Rattle.kinds.specs.declared.Form.TheVariants.{Field22}
use Rattle.kinds.specs.Kinds.{least_of, greatest_of, forms_of, form_at, number_of, types_read, plan_forms, plan7, plan9, plan13, plan16, plan18}
use Rattle.kinds.proofs.Names.{each}
use Rattle.kinds.proofs.Fields.{forms_length}
use Rattle.records.specs.Records.{fit_all}
use Rattle.forms.specs.Forms.{field_of as form_of}
use Rattle.message.specs.Reading.{count_of}
use Rattle.force.specs.declared.Span.{Span}
use Rattle.parts.specs.declared.Aircraft.{Aircraft}
use Rattle.parts.specs.declared.OffBlock.{OffBlock}
use Rattle.parts.specs.declared.Destination.{Destination}
use Rattle.parts.specs.Parts.{Own, content_in, span_at, numbers_in, rank_in, field_in, span_of, aircraft_as, off_block_as, destination_as, plan_of}
use Rattle.parts.proofs.Own.{field_holds}
use Rattle.parts.proofs.Fields.{alternates_long, alternates_few}
use Rattle.std.specs.Prelude.{Ok, Err}
use Rattle.outer.specs.Refusal.{refusal}

-- THE PLACE OF A NUMBER among the numbers of some fields

pub number_at : (fs : List Form) (j : ℕ) → j < length fs → get_or (map number_of fs) j 0 ≡ number_of (get_or fs j Field22)
number_at [] j h = absurd (omega arith)
number_at (f ∷ fs) zero h = refl
number_at (f ∷ fs) (suc j) h = number_at fs j (omega arith)

module _ (t : MessageType) (count : ℕ) (least : least_of t ≤ count) (greatest : count ≤ greatest_of t) where
  abbrev numbers : List ℕ
  numbers = map number_of (forms_of t count)

  pub numbers_long : length numbers ≡ count
  numbers_long = length-map (forms_of t count) number_of ∙ forms_length t count least greatest

  -- the number of field j, which the code finds by its form
  module _ (n j : ℕ) (inside : j < count) (f : Form) (is : f ≡ form_at t count j) (k : ℕ) (of : k ≡ number_of f) where
    pub number_is : get_or numbers j 0 ≡ k
    unfolding form_at
    number_is = number_at (forms_of t count) j (omega (arith, forms_length t count least greatest)) ∙ sym (of ∙ ap number_of is)

    pub rank_here : k ≡ n → up_to n (drop j numbers) ≡ 0
    rank_here e = find_here n numbers j (omega (arith, numbers_long)) (number_is ∙ e)

    pub rank_next : (k ≡ n → ⊥) → up_to n (drop j numbers) ≡ suc (up_to n (drop (j + 1) numbers))
    rank_next e = find_next n numbers j (omega (arith, numbers_long)) (λ q. e (sym number_is ∙ q))

  pub rank_end : (n j : ℕ) → count ≤ j → up_to n (drop j numbers) ≡ 0
  rank_end n j h = find_end n numbers j (omega (arith, numbers_long))

-- no type has more fields than thirteen
pub thirteen_most : (t : MessageType) → greatest_of t ≤ 13
unfolding types_read
thirteen_most t = leb-true (greatest_of t) 13 (each (λ u. leb (greatest_of u) 13) refl t)

-- A FIELD BY ITS NUMBER, of a message that is its own spelling: j is the place that the code finds

module _ (t : MessageType) (m : List ℕ) (n : ℕ) (o : Own t m) (j : ℕ) (at : j ≡ rank_in t m n) where
  long : length (numbers_in t m) ≡ count_of m
  long = numbers_long t (count_of m) o.least o.greatest

  by_place : (b : Bool) → ltb (rank_in t m n) (length (numbers_in t m)) ≡ b → field_in t m n ≡ cond b (Ok (span_at m (rank_in t m n))) (Err (refusal 8 n 0))
  unfolding field_in
  by_place b e = ap (λ (x : Bool). cond x (Ok (span_at m (rank_in t m n))) (Err (refusal 8 n 0))) e

  pub none_there : j ≡ count_of m → Err (refusal 8 n 0) ≡ field_in t m n
  none_there e = sym (by_place false (le-ltb (rank_in t m n) (length (numbers_in t m)) (omega (arith, long))))

  pub one_there : (j ≡ count_of m → ⊥) → (s : Span) → s ≡ span_at m j → Ok s ≡ field_in t m n
  one_there e s is =
      let l : rank_in t m n < length (numbers_in t m) = omega (arith, long, up_to-le n (numbers_in t m), e) in
      ap Ok (is ∙ ap (span_at m) at) ∙ sym (by_place true (lt-ltb (rank_in t m n) (length (numbers_in t m)) l))

-- A CONTENT OF A PLAN: field j's, which stands where the code finds it

module _ (t : MessageType) (m : List ℕ) (o : Own t m) (j : ℕ) (s : Span) (is : s ≡ span_at m j) where
  pub span_bounds : (s.from ≤ s.to) × (s.to ≤ length m)
  span_bounds = let h = field_holds m o.two o.stays j in rw is (h.ordered, h.inside)

  pub from_short : s.from ≤ most
  from_short = omega (arith, span_bounds.0, span_bounds.1, o.short)

  pub content_there : (w : Word) → w ≡ take (s.to - s.from) (drop s.from m) → w ≡ content_in m j
  content_there w e = e ∙ ap (λ (x : Span). take (x.to - x.from) (drop x.from m)) is ∙ (field_holds m o.two o.stays j).there

  pub content_short : (w : Word) → w ≡ take (s.to - s.from) (drop s.from m) → length w ≤ most
  content_short w e = omega (arith, ap length (content_there w e), ap (λ (x : Span). x.to) is, span_bounds.1, o.short)

-- each content fits its form

pub form_fits : (fs : List Form) (cs : List Word) → fit_all (map form_of fs) cs ≡ true → (j : ℕ) → j < length fs
    → (form_of (get_or fs j Field22)).fits (get_or cs j []) ≡ true
form_fits [] cs e j l = absurd (omega arith)
form_fits (f ∷ fs) [] e j l = absurd (false≢true e)
form_fits (f ∷ fs) (c ∷ cs) e zero l = (both ((form_of f).fits c) (fit_all (map form_of fs) cs) e).0
form_fits (f ∷ fs) (c ∷ cs) e (suc j) l = form_fits fs cs (both ((form_of f).fits c) (fit_all (map form_of fs) cs) e).1 j (omega arith)

module _ (m : List ℕ) (o : Own Fpl m) where
  pub nine_fits : fits9 (content_in m plan9) ≡ true
  unfolding forms_of plan_forms
  nine_fits = form_fits (forms_of Fpl (count_of m)) (contents m) o.fit plan9 (omega arith)

  pub thirteen_fits : fits13 (content_in m plan13) ≡ true
  unfolding forms_of plan_forms
  thirteen_fits = form_fits (forms_of Fpl (count_of m)) (contents m) o.fit plan13 (omega arith)

  pub sixteen_fits : fits16plan (content_in m plan16) ≡ true
  unfolding forms_of plan_forms
  sixteen_fits = form_fits (forms_of Fpl (count_of m)) (contents m) o.fit plan16 (omega arith)

-- FIELD 9: d digits, and a type behind them

pub aircraft_is : (from : ℕ) (s : List ℕ) (d : ℕ) → d ≡ lead true s → d ≤ length s → (n : ℕ) → n ≡ count_of9 (take d s)
    → (w : Word) → w ≡ before 47 (aircraft s) → record { count = n; kind = record { from = from + d; to = from + d + length w } } ≡ aircraft_as from s
aircraft_is from s d e l n en w ew =
    let z : length (number s) ≡ d = ap (λ (k : ℕ). length (take k s)) (sym e) ∙ length-take-le d s l in
    let c : n ≡ (record9 s).count = en ∙ ap (λ (k : ℕ). count_of9 (take k s)) e in
    rw (z, ← c, ← ew)

-- FIELD 16, by its length

module _ (from : ℕ) (s : List ℕ) (e : fits16plan s ≡ true) (t : Elapsed) (is : t ≡ (record16plan s).elapsed) where
  pub no_alternate : length s < 13 → record { aerodrome = from; elapsed = t; alternates = 0; first = 0; second = 0 } ≡ destination_as from (record16plan s)
  no_alternate l =
      let z : length (record16plan s).alternates ≡ 0 = omega (arith, alternates_long s e) in
      rw (is, z)

  pub one_alternate : 13 ≤ length s → length s < 18
      → record { aerodrome = from; elapsed = t; alternates = 1; first = from + 9; second = 0 } ≡ destination_as from (record16plan s)
  one_alternate l g =
      let z : length (record16plan s).alternates ≡ 1 = omega (arith, alternates_long s e) in
      rw (is, z)

  pub two_alternates : 18 ≤ length s
      → record { aerodrome = from; elapsed = t; alternates = 2; first = from + 9; second = from + 14 } ≡ destination_as from (record16plan s)
  two_alternates l =
      let z : length (record16plan s).alternates ≡ 2 = omega (arith, alternates_long s e, alternates_few s e) in
      rw (is, z)

-- THE PARTS OF A PLAN, each from the place and the content that the code finds

module _ (m : List ℕ) (s : Span) (w : Word) where
  pub identification_is : s ≡ span_at m plan7 → w ≡ content_in m plan7 → span_of s.from (record7 w).identification ≡ (plan_of m).identification
  unfolding plan_of
  identification_is e f = ap₂ (λ (x : Span) (v : Word). span_of x.from (record7 v).identification) e f

  pub aircraft_at : s ≡ span_at m plan9 → w ≡ content_in m plan9 → aircraft_as s.from w ≡ (plan_of m).aircraft
  unfolding plan_of
  aircraft_at e f = ap₂ (λ (x : Span) (v : Word). aircraft_as x.from v) e f

  pub off_block_at : s ≡ span_at m plan13 → w ≡ content_in m plan13 → off_block_as s.from (record13 w) ≡ (plan_of m).departure
  unfolding plan_of
  off_block_at e f = ap₂ (λ (x : Span) (v : Word). off_block_as x.from (record13 v)) e f

  pub destination_at : s ≡ span_at m plan16 → w ≡ content_in m plan16 → destination_as s.from (record16plan w) ≡ (plan_of m).destination
  unfolding plan_of
  destination_at e f = ap₂ (λ (x : Span) (v : Word). destination_as x.from (record16plan v)) e f

pub date_at : (m : List ℕ) (w : Word) → w ≡ content_in m plan18 → flight_date (date_in w) ≡ (plan_of m).date
unfolding plan_of
date_at m w f = ap (λ (v : Word). flight_date (date_in v)) f

pub plan_is : (m : List ℕ) (i : Span) (a : Aircraft) (b : OffBlock) (d : Destination) (t : Option Date)
    → i ≡ (plan_of m).identification → a ≡ (plan_of m).aircraft → b ≡ (plan_of m).departure → d ≡ (plan_of m).destination → t ≡ (plan_of m).date
    → record { identification = i; aircraft = a; departure = b; destination = d; date = t } ≡ plan_of m
plan_is m i a b d t ei ea eb ed et = rw (ei, ea, eb, ed, et)
