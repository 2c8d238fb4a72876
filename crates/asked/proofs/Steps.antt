-- The answers to a question for a field in force, as the code comes to them, and the bytes at the place given back. Assumes nothing.
use Prim.Native.Nat.{ℕ, suc, ◌+◌, ◌-◌, ◌≤◌}
use mathlib.Core.Path.{◌≡◌, sym, ap, ap₂, subst, ◌∙◌}
use mathlib.Core.Bool.{Bool, true, false, cond}
use mathlib.Core.List.{List}
use mathlib.Core.Option.{Option}
use native.Mathlib.Omega.{arith}
use lib.Dec.{eqb}
use lib.ListN.{length, take, drop, length-drop}
use lib.Seq.{length-take-le, drop-drop, take-take}
use borrow.Author.Tests.{eq-eqb, ne_eqb}
use Rattle.std.specs.Prelude.{Some, None}
use Rattle.text.specs.Words.{Word, split, same, up_to}
use Rattle.text.proofs.Tests.{same-eq}
use Rattle.space.specs.Fields.{inner}
use Rattle.space.specs.Hyphens.{behind_hyphen}
use Rattle.kinds.specs.declared.MessageType.{MessageType}
use Rattle.kinds.specs.declared.Role.TheVariants.{Changes}
use Rattle.message.specs.Reading.{spelling_of}
use Rattle.state.specs.declared.Strip.{Strip}
use Rattle.message.specs.Answer.{Answer}
use Rattle.opening.specs.Opening.{opening_of}
use Rattle.force.specs.declared.Span.{Span}
use Rattle.force.specs.InForce.{in_force, named_by, bare, place_of, FoundIn}
use Rattle.force.proofs.Walk.{in_chg, in_plan, place_at, drop-take}
use Rattle.strip.specs.Updating.{differences, differs}
use Rattle.asked.specs.Asking.{Asked}
use Rattle.asked.specs.Asking.{rank_of, stands_in, stands_as, field_as, is_bare, bare_as, flight_as, is_change, type_as, opened_as, asked_of, shown, StandsAt}
use Rattle.asked.specs.Parts.{PartOf, PartBehind, Shows, ShowsText}
use Rattle.std.specs.Prelude.{Ok, Err}
use Rattle.outer.specs.Refusal.{refusal}
use Rattle.asked.specs.declared.Place.TheVariants.{InChange, InStrip}

-- WHERE IT STANDS, from the texts

module _ (plan said : List ℕ) (k : ℕ) where
  abbrev pub Stood : Asked → Type 0
  Stood r = (r ≡ stands_as plan said k) × ShowsText r plan said (in_force plan said k)

  one_less : (s : List ℕ) (from to : ℕ) → from ≤ to → to ≤ length s → take (to - from) (drop from s) ≡ in_force plan said k
      → PartBehind s (from + 1) (to + 1) (in_force plan said k)
  one_less s from to l b c =
      let f : from + 1 - 1 ≡ from = omega arith in
      let n : to + 1 - (from + 1) ≡ to - from = omega arith in
      (omega arith, omega (arith, l), omega (arith, b), ap₂ (λ (i j : ℕ). take i (drop j s)) n f ∙ c)

  long : (s : List ℕ) (from to : ℕ) → from ≤ to → to ≤ length s → take (to - from) (drop from s) ≡ in_force plan said k
      → length (in_force plan said k) ≡ to - from
  long s from to l b c = sym (ap length c) ∙ length-take-le (to - from) (drop from s) (omega (arith, l, b, length-drop from s))

  pub in_change : (s : Span) → FoundIn said k (Some s) → Stood (Ok (InChange (s.from + 1) (s.to + 1)))
  in_change s h =
      let c = in_chg plan said k s h in
      let f : suc s.from ≡ s.from + 1 = omega arith in
      let t : suc s.from + length (in_force plan said k) ≡ s.to + 1 = omega (arith, h.0, long said s.from s.to h.0 h.1 c) in
      (sym (ap (λ (o : Option ℕ). stands_in o plan said k) h.3 ∙ ap₂ (λ (x y : ℕ). Ok (InChange x y)) f t), one_less said s.from s.to h.0 h.1 c)

  pub in_strip : (at e : ℕ) → FoundIn said k None → at ≤ length plan → drop at plan ≡ behind_hyphen k plan
      → e ≡ at + up_to 45 (drop at plan) → at ≤ e → e ≤ length plan → Stood (Ok (InStrip (at + 1) (e + 1)))
  in_strip at e h l d end ae el =
      let c = in_plan plan said k at e h d end in
      let f : suc (place_of plan k) ≡ at + 1 = omega (arith, place_at k at plan l d) in
      let t : suc (place_of plan k) + length (in_force plan said k) ≡ e + 1 = omega (arith, place_at k at plan l d, ae, long plan at e ae el c) in
      (sym (ap (λ (o : Option ℕ). stands_in o plan said k) h.1 ∙ ap₂ (λ (x y : ℕ). Ok (InStrip x y)) f t), one_less plan at e ae el c)

-- A DESTINATION ALONE, in the CHG's text

module _ (said : List ℕ) (k : ℕ) where
  pub bare_there : (s : Span) → FoundIn said k (Some s) → bare k (take (s.to - s.from) (drop s.from said)) ≡ is_bare k (named_by said k)
  bare_there s h = sym (ap (is_bare k) h.2)

  pub bare_nowhere : FoundIn said k None → false ≡ is_bare k (named_by said k)
  bare_nowhere h = sym (ap (is_bare k) h.0)

-- 12, 17 AND 8

module _ (plan said : List ℕ) (number : ℕ) where
  abbrev pub Told : Asked → Type 0
  Told r = (r ≡ flight_as plan said number) × ShowsText r plan said (in_force plan said (rank_of number))

  by_differences : (b : Bool) → differs (differences Changes (split 45 plan) (split 45 said)) ≡ b
      → flight_as plan said number ≡ cond b (Err (refusal 12 0 0)) (bare_as plan said number)
  by_differences b e = ap (λ (x : Bool). cond x (Err (refusal 12 0 0)) (bare_as plan said number)) e

  pub other_flight : differs (differences Changes (split 45 plan) (split 45 said)) ≡ true → Told (Err (refusal 12 0 0))
  other_flight e = (sym (by_differences true e), tt)

  module _ (same-flight : differs (differences Changes (split 45 plan) (split 45 said)) ≡ false) (k : ℕ) (rank : k ≡ rank_of number) where
    by_bare : (b : Bool) → is_bare k (named_by said k) ≡ b → flight_as plan said number ≡ cond b (Err (refusal 17 0 0)) (field_as plan said number)
    by_bare b e =
        by_differences false same-flight
        ∙ ap (λ (i : ℕ). cond (is_bare i (named_by said i)) (Err (refusal 17 0 0)) (field_as plan said number)) (sym rank)
        ∙ ap (λ (x : Bool). cond x (Err (refusal 17 0 0)) (field_as plan said number)) e

    pub neither_whole : is_bare k (named_by said k) ≡ true → Told (Err (refusal 17 0 0))
    neither_whole e = (sym (by_bare true e), tt)

    module _ (whole : is_bare k (named_by said k) ≡ false) where
      pub not_named : k ≡ 0 → Told (Err (refusal 8 number 0))
      not_named z = (sym (by_bare false whole ∙ rw (eq-eqb (rank_of number) 0 (sym rank ∙ z))), tt)

      pub asked_for : (k ≡ 0 → ⊥) → (r : Asked) → Stood plan said k r → Told r
      asked_for z r h =
          let n : eqb (rank_of number) 0 ≡ false = ne_eqb (rank_of number) 0 (λ q. z (rank ∙ q)) in (
            h.0 ∙ ap (stands_as plan said) rank ∙ sym (by_bare false whole ∙ rw n),
            subst (λ (i : ℕ). ShowsText r plan said (in_force plan said i)) rank h.1,
          )

-- FROM THE TEXTS TO THE MESSAGES

inner_part : (s : List ℕ) (from to : ℕ) (w : Word) → 2 ≤ length s → PartBehind (inner s) from to w → PartOf s from to w
inner_part s from to w two h =
    let l : length (inner s) ≡ length s - 2 = length-take-le (length s - 2) (drop 1 s) (omega (arith, length-drop 1 s)) in
    let b : to ≤ length s - 1 = omega (arith, h.2, l, two) in
    let f : 1 + (from - 1) ≡ from = omega (arith, h.0) in (
      h.1,
      omega (arith, b),
      ap (λ (i : ℕ). take (to - from) (drop i s)) (sym f)
          ∙ ap (take (to - from)) (sym (drop-drop (from - 1) 1 s))
          ∙ sym (take-take (to - from) (length s - 2 - (from - 1)) (drop (from - 1) (drop 1 s)) (omega (arith, h.0, h.1, b, two)))
          ∙ ap (take (to - from)) (sym (drop-take (from - 1) (length s - 2) (drop 1 s) (omega (arith, h.0, h.1, b, two))))
          ∙ h.3,
    )

module _ (strip chg : List ℕ) (w : Word) (two : 2 ≤ length strip) (two' : 2 ≤ length chg) where
  shows : (r : Asked) → ShowsText r (inner strip) (inner chg) w → Shows r strip chg w
  shows (Ok (InStrip from to)) h = inner_part strip from to w two h
  shows (Ok (InChange from to)) h = inner_part chg from to w two' h
  shows (Err r) h = tt

-- 14 AND 17

pub same_long : (a b : List ℕ) → same a b ≡ true → length a ≡ length b
same_long a b e = ap length (same-eq a b e)

module _ (t : MessageType) (spelled strip chg : List ℕ) (number : ℕ) where
  abbrev pub Answered : Asked → Type 0
  Answered r = (r ≡ type_as t spelled strip chg number) × Shows r strip chg (in_force (inner strip) (inner chg) (rank_of number))

  pub no_change : is_change t ≡ false → Answered (Err (refusal 14 0 0))
  unfolding type_as
  no_change e = (sym (rw e), tt)

  module _ (change : is_change t ≡ true) where
    pub not_spelled : same spelled chg ≡ false → Answered (Err (refusal 17 0 0))
    unfolding type_as
    not_spelled e = (sym (rw (change, e)), tt)

    pub spelled_so : same spelled chg ≡ true → 2 ≤ length spelled → 2 ≤ length strip
        → (p s : List ℕ) → p ≡ inner strip → s ≡ inner chg → (r : Asked) → Told p s number r → Answered r
    unfolding type_as
    spelled_so e two two' p s ep es r h =
        let c : spelled ≡ chg = same-eq spelled chg e in (
          h.0 ∙ ap₂ (λ (x y : List ℕ). flight_as x y number) ep es ∙ sym (rw (change, e)),
          shows strip chg (in_force (inner strip) (inner chg) (rank_of number)) two' (omega (arith, two, ap length c)) r
              (subst (λ (x : List ℕ). ShowsText r x (inner chg) (in_force x (inner chg) (rank_of number))) ep
              (subst (λ (y : List ℕ). ShowsText r p y (in_force p y (rank_of number))) es h.1)),
        )

-- THE OPENING

module _ (strip : List ℕ) (held : Strip) (chg : List ℕ) (number : ℕ) where
  abbrev pub Whole : Asked → Type 0
  Whole r = (r ≡ asked_of strip held chg number) × Shows r strip chg (in_force (inner strip) (inner chg) (rank_of number))

  by_opening : (o : Answer) → opening_of strip held chg ≡ o → asked_of strip held chg number ≡ opened_as o strip chg number
  unfolding asked_of
  by_opening o e = ap (λ (x : Answer). opened_as x strip chg number) e

  pub not_opened : (n field place : ℕ) → opening_of strip held chg ≡ Err (refusal n field place) → Whole (Err (refusal n field place))
  not_opened n field place e = (sym (by_opening (Err (refusal n field place)) e), tt)

  pub was_opened : (t : MessageType) (n : ℕ) → opening_of strip held chg ≡ Ok (t, n) → (spelled : List ℕ) → spelled ≡ spelling_of t chg
      → (r : Asked) → Answered t spelled strip chg number r → Whole r
  was_opened t n e spelled s r h = (h.0 ∙ ap (λ (x : List ℕ). type_as t x strip chg number) s ∙ sym (by_opening (Ok (t, n)) e), h.1)

-- THE PART SHOWN

module _ (strip : List ℕ) (held : Strip) (chg : List ℕ) (number : ℕ) {a r : Asked} (whole : Whole strip held chg number a) (is : a ≡ r) where
  answer_is : asked_of strip held chg number ≡ r
  answer_is = sym whole.0 ∙ is

  pub shows_so : Shows r strip chg (in_force (inner strip) (inner chg) (rank_of number))
  shows_so = subst (λ (x : Asked). Shows x strip chg (in_force (inner strip) (inner chg) (rank_of number))) is whole.1

  pub part_shown : {A : Type 0} (sb : A) (sp : ℕ) (cb : A) (cp : ℕ) (w : Word) (block : A) (place : ℕ)
      → w ≡ shown r strip chg number → StandsAt r sb sp cb cp block place
      → (w ≡ shown (asked_of strip held chg number) strip chg number) × StandsAt (asked_of strip held chg number) sb sp cb cp block place
  part_shown sb sp cb cp w block place b p = (
    b ∙ ap (λ (x : Asked). shown x strip chg number) (sym answer_is),
    subst (λ (x : Asked). StandsAt x sb sp cb cp block place) (sym answer_is) p,
  )
