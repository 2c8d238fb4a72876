-- At the places that are given back stand the content that was asked for, and the words of the records of a plan's fields. Assumes nothing.
use Prim.Native.Nat.{ℕ, zero, suc, ◌+◌, ◌*◌, ◌-◌, ◌<◌, ◌≤◌}
use mathlib.Core.Path.{◌≡◌, refl, sym, ap, subst, ◌∙◌}
use mathlib.Core.Bool.{Bool, true, false, cond}
use mathlib.Core.List.{List, [], ◌∷◌}
use native.Mathlib.Omega.{arith}
use lib.Dec.{eqb, ltb}
use lib.ListN.{length, take, drop, get_or, length-take, length-drop}
use lib.Seq.{take-take, drop-drop}
use borrow.Author.Tests.{lt-ltb, ltb-true, eqb-true, eqb-false}
use Rattle.text.specs.Words.{Word, up_to, before, holds}
use Rattle.shape.specs.Time.{clock_hours}
use Rattle.head.specs.Runs.{lead}
use Rattle.head.specs.Field9.{number, record9}
use Rattle.aerodromes.specs.Field13.{record13}
use Rattle.aerodromes.specs.Field16.{record16plan}
use Rattle.aerodromes.proofs.Aerodromes.{joined_length}
use Rattle.aerodromes.proofs.Asked.{named16plan}
use Rattle.sent.specs.Sent.{contents}
use Rattle.kinds.specs.declared.MessageType.{MessageType}
use Rattle.kinds.specs.declared.MessageType.TheVariants.{Fpl}
use Rattle.kinds.specs.Kinds.{forms_of, form_at, plan7, plan9, plan13, plan16}
use Rattle.kinds.proofs.Fields.{forms_length}
use Rattle.message.specs.Reading.{count_of, is_plan}
use Rattle.message.proofs.Plans.{plan_type}
use Rattle.force.proofs.Walk.{drop-take}
use Rattle.force.specs.declared.Span.{Span}
use Rattle.parts.specs.Parts.{Taken, taken_of, Own, content_in, field_from, span_of, span_at, numbers_in, rank_in, field_in, field_as, field_of, asked_by}
use Rattle.parts.specs.Parts.{content_asked, plan_of, planned_as, planned_of}
use Rattle.parts.specs.Shown.{Holds, Shows, four, ShowsPlan, FieldTold}
use Rattle.parts.proofs.Own.{taken_own, field_holds}
use Rattle.parts.proofs.Fields.{alternates_long, alternate_at}
use Rattle.parts.proofs.Steps.{number_at, numbers_long, form_fits, thirteen_fits, sixteen_fits}
use Rattle.std.specs.Prelude.{Ok, Err}
use Rattle.outer.specs.Refusal.{refusal}

-- A FIELD

pub field_shown : (m : List ℕ) (n : ℕ) → Shows (field_of m n) m (content_asked m n)
unfolding field_of field_in
field_shown m n = go (taken_of m) refl
  where
    pick : (t : MessageType) → Own t m → (b : Bool) → Shows (cond b (Ok (span_at m (rank_in t m n))) (Err (refusal 8 n 0))) m (content_in m (rank_in t m n))
    pick t o true = field_holds m o.two o.stays (rank_in t m n)
    pick t o false = tt

    go : (k : Taken) → taken_of m ≡ k → Shows (field_as k m n) m (asked_by k m n)
    go (Ok (t, true)) q = pick t (taken_own m t q) (holds n (numbers_in t m))
    go (Ok (t, false)) q = tt
    go (Err r) q = tt

-- it is the first of its number

first_of : (c : ℕ) (xs : List ℕ) → up_to c xs < length xs → (get_or xs (up_to c xs) 0 ≡ c) × ((i : ℕ) → i < up_to c xs → get_or xs i 0 ≡ c → ⊥)
first_of c [] h = absurd (omega arith)
first_of c (x ∷ xs) h = go (first_of c xs) (eqb x c) refl h
  where
    First : ℕ → Type 0
    First k = (get_or (x ∷ xs) k 0 ≡ c) × ((i : ℕ) → i < k → get_or (x ∷ xs) i 0 ≡ c → ⊥)

    earlier : eqb x c ≡ false → ((i : ℕ) → i < up_to c xs → get_or xs i 0 ≡ c → ⊥) → (i : ℕ) → i < suc (up_to c xs) → get_or (x ∷ xs) i 0 ≡ c → ⊥
    earlier e ih zero l = eqb-false x c e
    earlier e ih (suc i) l = ih i (omega arith)

    go : (up_to c xs < length xs → (get_or xs (up_to c xs) 0 ≡ c) × ((i : ℕ) → i < up_to c xs → get_or xs i 0 ≡ c → ⊥))
        → (b : Bool) → eqb x c ≡ b → cond b 0 (suc (up_to c xs)) < suc (length xs) → First (cond b 0 (suc (up_to c xs)))
    go ih true e l = (eqb-true x c e, λ i k. absurd (omega arith))
    go ih false e l = let f = ih (omega arith) in (f.0, earlier e f.1)

module _ (m : List ℕ) (n : ℕ) (s : Span) (t : MessageType) (q : taken_of m ≡ Ok (t, true)) where
  own : Own t m
  own = taken_own m t q

  field_at_lem : rank_in t m n < length (numbers_in t m) → s ≡ span_at m (rank_in t m n) → FieldTold m n s
  unfolding form_at
  field_at_lem l is =
      let o = own in
      let f = first_of n (numbers_in t m) l in
      let long = numbers_long t (count_of m) o.least o.greatest in
      let forms = forms_length t (count_of m) o.least o.greatest in
      record {
        type = t;
        taken = q;
        place = rank_in t m n;
        inside = omega arith;
        numbered = sym (number_at (forms_of t (count_of m)) (rank_in t m n) (omega arith)) ∙ f.0;
        first = λ i k e. f.1 i k (number_at (forms_of t (count_of m)) i (omega arith) ∙ e);
        fits = form_fits (forms_of t (count_of m)) (contents m) o.fit (rank_in t m n) (omega arith);
        there = subst (λ (x : Span). Holds m x (content_in m (rank_in t m n))) (sym is) (field_holds m o.two o.stays (rank_in t m n));
      }

pub field_told_lem : (m : List ℕ) (n : ℕ) (s : Span) → field_of m n ≡ Ok s → FieldTold m n s
unfolding field_of field_in
field_told_lem m n s e = go (taken_of m) refl e
  where
    pick : (t : MessageType) → taken_of m ≡ Ok (t, true) → (b : Bool) → ltb (rank_in t m n) (length (numbers_in t m)) ≡ b
        → cond b (Ok (span_at m (rank_in t m n))) (Err (refusal 8 n 0)) ≡ Ok s → FieldTold m n s
    pick t q true l p = let is : s ≡ span_at m (rank_in t m n) = cc in field_at_lem m n s t q (ltb-true (rank_in t m n) (length (numbers_in t m)) l) is
    pick t q false l p = cc

    go : (k : Taken) → taken_of m ≡ k → field_as k m n ≡ Ok s → FieldTold m n s
    go (Ok (t, true)) q p = pick t q (ltb (rank_in t m n) (length (numbers_in t m))) refl p
    go (Ok (t, false)) q p = cc
    go (Err r) q p = cc

-- A PART OF A CONTENT, which begins at a place of the message

module _ (m : List ℕ) (from : ℕ) (s : List ℕ) (h : Holds m (span_of from s) s) where
  pub part_holds : (i k : ℕ) (w : Word) → i + k ≤ length s → take k (drop i s) ≡ w → Holds m (record { from = from + i; to = from + i + k }) w
  part_holds i k w l e =
      let n : from + i + k - (from + i) ≡ k = omega arith in
      let z : from + length s - from ≡ length s = omega arith in
      let j : i ≤ length s = omega arith in
      let c : take k (drop i (take (length s) (drop from m))) ≡ take k (drop i (drop from m))
      = ap (take k) (drop-take i (length s) (drop from m) j) ∙ take-take k (length s - i) (drop i (drop from m)) (omega arith) in
      record {
        ordered = omega arith;
        inside = omega (arith, h.inside);
        there =
            ap (λ (x : ℕ). take x (drop (from + i) m)) n
            ∙ ap (take k) (sym (drop-drop i from m))
            ∙ sym c
            ∙ ap (λ (x : ℕ). take k (drop i (take x (drop from m)))) (sym z)
            ∙ ap (λ (x : List ℕ). take k (drop i x)) h.there
            ∙ e;
      }

  pub first_holds : (k : ℕ) (w : Word) → k ≤ length s → take k s ≡ w → Holds m (record { from = from; to = from + k }) w
  first_holds k w l e = let z : from + 0 ≡ from = omega arith in rw z at (part_holds 0 k w (omega arith) e)

-- as much as was taken is taken, and dropped, again
take_taken : (n : ℕ) (s : List ℕ) → take (length (take n s)) s ≡ take n s
take_taken zero s = refl
take_taken (suc n) [] = refl
take_taken (suc n) (b ∷ s) = ap (λ (t : List ℕ). b ∷ t) (take_taken n s)

drop_taken : (n : ℕ) (s : List ℕ) → drop (length (take n s)) s ≡ drop n s
drop_taken zero s = refl
drop_taken (suc n) [] = refl
drop_taken (suc n) (b ∷ s) = drop_taken n s

-- THE PARTS OF A PLAN

module _ (m : List ℕ) (o : Own Fpl m) where
  at : (j : ℕ) → Holds m (span_of (field_from m j) (content_in m j)) (content_in m j)
  at j = field_holds m o.two o.stays j

  identified : Holds m (span_of (field_from m plan7) (before 47 (content_in m plan7))) (before 47 (content_in m plan7))
  identified =
      let s = content_in m plan7 in
      first_holds m (field_from m plan7) s (at plan7) (length (before 47 s)) (before 47 s)
      (omega (arith, length-take (up_to 47 s) s)) (take_taken (up_to 47 s) s)

  typed : Holds m (span_of (field_from m plan9 + length (number (content_in m plan9))) (record9 (content_in m plan9)).type) (record9 (content_in m plan9)).type
  typed =
      let s = content_in m plan9 in
      let n = lead true s in
      let u = up_to 47 (drop n s) in
      part_holds m (field_from m plan9) s (at plan9) (length (take n s)) (length (take u (drop n s))) (take u (drop n s))
      (omega (arith, length-take n s, length-take u (drop n s), length-drop n s))
      (ap (take (length (take u (drop n s)))) (drop_taken n s) ∙ take_taken u (drop n s))

  departs : Holds m (four (field_from m plan13)) (record13 (content_in m plan13)).aerodrome
  departs =
      let s = content_in m plan13 in
      first_holds m (field_from m plan13) s (at plan13) 4 (take 4 s) (omega (arith, joined_length clock_hours s (thirteen_fits m o))) refl

  bound : Holds m (four (field_from m plan16)) (record16plan (content_in m plan16)).destination
  bound =
      let s = content_in m plan16 in
      let e = sixteen_fits m o in
      first_holds m (field_from m plan16) s (at plan16) 4 (record16plan s).destination
      (omega (arith, alternates_long s e)) (named16plan s e).in_front_lem

  alternate : (i : ℕ) → i < length (record16plan (content_in m plan16)).alternates
      → Holds m (four (field_from m plan16 + (8 + (5 * i + 1)))) (get_or (record16plan (content_in m plan16)).alternates i [])
  alternate i l =
      let s = content_in m plan16 in
      let e = sixteen_fits m o in
      part_holds m (field_from m plan16) s (at plan16) (8 + (5 * i + 1)) 4 (get_or (record16plan s).alternates i [])
      (omega (arith, alternates_long s e)) (alternate_at s e i l)

  pub parts_shown : ShowsPlan (Ok (plan_of m)) m
  unfolding plan_of
  parts_shown =
      let n = length (record16plan (content_in m plan16)).alternates in
      record {
        identification = identified;
        count = refl;
        kind = typed;
        departure = departs;
        time = refl;
        destination = bound;
        elapsed = refl;
        alternates = refl;
        first = λ h. rw (lt-ltb 0 n (omega arith)) (alternate 0 (omega arith));
        second = λ h. rw (lt-ltb 1 n (omega arith)) (alternate 1 (omega arith));
      }

pub plan_shown : (m : List ℕ) → ShowsPlan (planned_of m) m
unfolding planned_of
plan_shown m = go (taken_of m) refl
  where
    pick : (t : MessageType) → Own t m → (b : Bool) → is_plan t ≡ b → ShowsPlan (cond b (Ok (plan_of m)) (Err (refusal 14 0 0))) m
    pick t o true p = parts_shown m (rw (plan_type t p) at o)
    pick t o false p = tt

    other : (b : Bool) → ShowsPlan (cond b (Err (refusal 17 0 0)) (Err (refusal 14 0 0))) m
    other true = tt
    other false = tt

    go : (k : Taken) → taken_of m ≡ k → ShowsPlan (planned_as k m) m
    go (Ok (t, true)) q = pick t (taken_own m t q) (is_plan t) refl
    go (Ok (t, false)) q = other (is_plan t)
    go (Err r) q = tt
