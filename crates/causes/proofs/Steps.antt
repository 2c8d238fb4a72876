-- The ways to a cause, one law for each. Assumes nothing.
use Prim.Native.Nat.{ℕ}
use mathlib.Core.Path.{◌≡◌, refl, sym, ap, ◌∙◌}
use mathlib.Core.Bool.{Bool, true, false, cond}
use mathlib.Core.List.{List, []}
use lib.ListN.{get_or}
use borrow.Author.Tests.{eq-eqb, ne_eqb}
use Rattle.std.specs.Prelude.{Option, Some, None}
use Rattle.text.specs.Words.{Word, split}
use Rattle.space.specs.Fields.{inner}
use Rattle.kinds.specs.declared.MessageType.{MessageType}
use Rattle.kinds.specs.declared.Role.{Role}
use Rattle.kinds.specs.Kinds.{role_of, plan16, plan18}
use Rattle.plan.specs.Unexplained.{without_dest}
use Rattle.message.specs.Reading.{unexplained_in}
use Rattle.state.specs.declared.Event.{Event}
use Rattle.state.specs.declared.Strip.{Strip}
use Rattle.state.specs.State.{allowed_in}
use Rattle.message.specs.Answer.{Answer}
use Rattle.opening.specs.Opening.{text_said, opening_of}
use Rattle.amending.specs.Amended.{amended}
use Rattle.strip.specs.declared.Differences.{Differences}
use Rattle.strip.specs.Updating.{event_of, differences, differs}
use Rattle.causes.specs.declared.Key.{Key}
use Rattle.causes.specs.declared.Key.TheVariants.{Typ, Dep, Dest, Altn}
use Rattle.causes.specs.declared.Cause.{Cause}
use Rattle.causes.specs.declared.Cause.TheVariants.{NothingMore, Another, Missing, Forbidden}
use Rattle.causes.specs.Causes.{key_for, amended_cause, event_cause, offered_cause, opened_cause, cause_of}
use Rattle.std.specs.Prelude.{Ok, Err}
use Rattle.outer.specs.Refusal.{refusal}

-- THE KEY

module _ (field : ℕ) (cs : List Word) where
  pub of_type : field ≡ 9 → Typ ≡ key_for field cs
  of_type e = rw (eq-eqb field 9 e)

  module _ (not-nine : field ≡ 9 → ⊥) where
    pub of_departure : field ≡ 13 → Dep ≡ key_for field cs
    of_departure e = rw (ne_eqb field 9 not-nine, eq-eqb field 13 e)

    module _ (not_thirteen : field ≡ 13 → ⊥) where
      pub of_destination : without_dest (get_or cs plan16 []) (get_or cs plan18 []) ≡ true → Dest ≡ key_for field cs
      of_destination e = rw (ne_eqb field 9 not-nine, ne_eqb field 13 not_thirteen, e)

      pub of_alternate : without_dest (get_or cs plan16 []) (get_or cs plan18 []) ≡ false → Altn ≡ key_for field cs
      of_alternate e = rw (ne_eqb field 9 not-nine, ne_eqb field 13 not_thirteen, e)

-- THE AMENDED PLAN

module _ (cs : List Word) (field : ℕ) (is : field ≡ unexplained_in cs) where
  pub explained : field ≡ 0 → NothingMore ≡ amended_cause cs
  explained e = rw (eq-eqb (unexplained_in cs) 0 (sym is ∙ e))

  pub unexplained : (field ≡ 0 → ⊥) → (key : Key) → key ≡ key_for field cs → Missing key ≡ amended_cause cs
  unexplained ne key k = ap Missing (k ∙ ap (λ (f : ℕ). key_for f cs) is) ∙ sym (rw (ne_eqb (unexplained_in cs) 0 (λ e. ne (is ∙ e))))

-- THE MESSAGE

module _ (role : Role) (plan : List ℕ) (held : Strip) (said : List ℕ) where
  abbrev found : Differences
  found = differences role (split 45 plan) (split 45 said)

  pub unfit : event_of role (split 45 said) ≡ None → NothingMore ≡ offered_cause role plan held said
  unfolding offered_cause
  unfit e = sym (ap (λ (o : Option Event). event_cause o role plan held said) e)

  module _ (e : Event) (says : event_of role (split 45 said) ≡ Some e) where
    said_so : (a b : Bool) → differs found ≡ a → allowed_in held e ≡ b
        → offered_cause role plan held said ≡ cond a (Another found) (cond b (amended_cause (amended role plan said)) (Forbidden held.state))
    unfolding offered_cause
    said_so a b p q = ap (λ (o : Option Event). event_cause o role plan held said) says ∙ rw (p, q)

    pub differing : (d : Differences) → d ≡ found → differs d ≡ true → Another d ≡ offered_cause role plan held said
    differing d is h = ap Another is ∙ sym (said_so true (allowed_in held e) (sym (ap differs is) ∙ h) refl)

    module _ (d : Differences) (is : d ≡ found) (none : differs d ≡ false) where
      pub forbidden : allowed_in held e ≡ false → Forbidden held.state ≡ offered_cause role plan held said
      forbidden h = sym (said_so false false (sym (ap differs is) ∙ none) h)

      pub allowed : allowed_in held e ≡ true → (c : Cause) → c ≡ amended_cause (amended role plan said) → c ≡ offered_cause role plan held said
      allowed h c k = k ∙ sym (said_so false true (sym (ap differs is) ∙ none) h)

-- THE OPENING

module _ (strip : List ℕ) (held : Strip) (m : List ℕ) where
  pub not_opened : (number field place : ℕ) → opening_of strip held m ≡ Err (refusal number field place) → NothingMore ≡ cause_of strip held m
  unfolding cause_of
  not_opened number field place e = sym (ap (λ (o : Answer). opened_cause o strip held m) e)

  pub was_opened : (t : MessageType) (n : ℕ) → opening_of strip held m ≡ Ok (t, n) → (role : Role) → role ≡ role_of t
      → (plan said : List ℕ) → plan ≡ inner strip → said ≡ text_said t m → (c : Cause) → c ≡ offered_cause role plan held said → c ≡ cause_of strip held m
  unfolding cause_of
  was_opened t n e role r plan said p s c k =
      k ∙ ap (λ (x : Role). offered_cause x plan held said) r ∙ ap (λ (x : List ℕ). offered_cause (role_of t) x held said) p
      ∙ ap (λ (x : List ℕ). offered_cause (role_of t) (inner strip) held x) s
      ∙ sym (ap (λ (o : Answer). opened_cause o strip held m) e)
