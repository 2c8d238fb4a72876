-- The answers, as the code comes to them. Assumes nothing.
use Prim.Native.Nat.{ℕ}
use mathlib.Core.Path.{◌≡◌, refl, sym, ap, subst, ◌∙◌}
use mathlib.Core.Bool.{Bool, true, false}
use mathlib.Core.List.{List}
use Rattle.text.specs.Words.{same}
use Rattle.outer.specs.Outer.{most}
use Rattle.kinds.specs.declared.MessageType.{MessageType}
use Rattle.message.specs.Answer.{Answer}
use Rattle.message.specs.Reading.{is_plan, spelling_of, answer_of}
use Rattle.parts.specs.Parts.{Part, Planned, Taken, taken_as, taken_of, field_in, field_as, field_of, content_asked, plan_of, planned_as, planned_of}
use Rattle.parts.specs.declared.PlanParts.{PlanParts}
use Rattle.parts.specs.Shown.{Shows, ShowsPlan}
use Rattle.parts.proofs.Shown.{field_shown, plan_shown}
use Rattle.std.specs.Prelude.{Ok, Err}
use Rattle.outer.specs.Refusal.{refusal}

-- HOW A MESSAGE IS TAKEN

module _ (m : List ℕ) where
  pub not_taken : (n field place : ℕ) → answer_of m most ≡ Err (refusal n field place) → Err (refusal n field place) ≡ taken_of m
  unfolding taken_of
  not_taken n field place e = sym (ap (λ (a : Answer). taken_as a m) e)

  pub was-taken : (t : MessageType) (n : ℕ) → answer_of m most ≡ Ok (t, n) → (w : List ℕ) → w ≡ spelling_of t m
      → (b : Bool) → b ≡ same w m → Ok (t, b) ≡ taken_of m
  unfolding taken_of
  was-taken t n e w is b own = ap (λ (b : Bool). Ok (t, b)) (own ∙ ap (λ (v : List ℕ). same v m) is) ∙ sym (ap (λ (a : Answer). taken_as a m) e)

-- A FIELD

module _ (m : List ℕ) (n : ℕ) where
  abbrev pub FieldWhole : Part → Type 0
  FieldWhole r = (r ≡ field_of m n) × Shows r m (content_asked m n)

  field-whole : (k : Taken) → taken_of m ≡ k → (r : Part) → r ≡ field_as k m n → FieldWhole r
  unfolding field_of
  field-whole k e r is =
      let a : r ≡ field_of m n = is ∙ sym (ap (λ (x : Taken). field_as x m n) e) in
      (a, subst (λ (x : Part). Shows x m (content_asked m n)) (sym a) (field_shown m n))

  pub field-refused : (number field place : ℕ) → taken_of m ≡ Err (refusal number field place) → FieldWhole (Err (refusal number field place))
  field-refused number field place e = field-whole (Err (refusal number field place)) e (Err (refusal number field place)) refl

  module _ (t : MessageType) (own : Bool) (e : taken_of m ≡ Ok (t, own)) where
    pub field-other : own ≡ false → FieldWhole (Err (refusal 17 0 0))
    field-other b = field-whole (Ok (t, own)) e (Err (refusal 17 0 0)) (rw b)

    pub field-given : own ≡ true → (r : Part) → r ≡ field_in t m n → FieldWhole r
    field-given b r is = field-whole (Ok (t, own)) e r (is ∙ rw b)

-- THE PARTS OF A PLAN

module _ (t : MessageType) (own : Bool) (m : List ℕ) where
  pub plan-other : is_plan t ≡ false → Err (refusal 14 0 0) ≡ planned_as (Ok (t, own)) m
  plan-other p = rw p

  pub plan-respelled : is_plan t ≡ true → own ≡ false → Err (refusal 17 0 0) ≡ planned_as (Ok (t, own)) m
  plan-respelled p b = rw (p, b)

  pub plan_given : is_plan t ≡ true → own ≡ true → (r : PlanParts) → r ≡ plan_of m → Ok r ≡ planned_as (Ok (t, own)) m
  plan_given p b r is = rw (p, b, is)

pub plan-whole : (m : List ℕ) (k : Taken) → taken_of m ≡ k → (r : Planned) → r ≡ planned_as k m → (r ≡ planned_of m) × ShowsPlan r m
unfolding planned_of
plan-whole m k e r is =
    let a : r ≡ planned_of m = is ∙ sym (ap (λ (x : Taken). planned_as x m) e) in
    (a, subst (λ (x : Planned). ShowsPlan x m) (sym a) (plan_shown m))
