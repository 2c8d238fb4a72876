-- The cause agrees with the update's answer, on every input and whatever room is lent. Assumes nothing.
use Prim.Native.Nat.{ℕ, ◌≤◌}
use mathlib.Core.Path.{◌≡◌, refl, sym, ap}
use mathlib.Core.Bool.{Bool, true, false, cond, ◌&&◌, ◌||◌}
use mathlib.Core.List.{List, []}
use native.Mathlib.Omega.{arith}
use lib.Dec.{leb, eqb, ltb}
use lib.ListN.{length, get_or}
use borrow.Author.Tests.{leb-true, eqb-false, ne_eqb}
use Rattle.std.specs.Prelude.{Option, Some, None}
use Rattle.text.specs.Words.{Word, split}
use Rattle.space.specs.Fields.{inner}
use Rattle.outer.specs.Outer.{most}
use Rattle.sent.specs.Sent.{message_of}
use Rattle.plan.specs.Unexplained.{type_unexplained, departure_unexplained, without_dest, without_altn, unexplained}
use Rattle.kinds.specs.declared.Role.{Role}
use Rattle.kinds.specs.Kinds.{role_of, plan9, plan13, plan16, plan18}
use Rattle.message.specs.Answer.{Answer}
use Rattle.message.specs.Reading.{unexplained_in, answer_of}
use Rattle.state.specs.declared.Event.{Event}
use Rattle.state.specs.declared.Strip.{Strip}
use Rattle.state.specs.State.{sound, allowed_in, next_of}
use Rattle.opening.specs.Opening.{text_said, canonical_plan, read_as, opening_of}
use Rattle.amending.specs.Amended.{amended}
use Rattle.strip.specs.Updating.{event_of, differences, differs, room_as, amended_as, event_as, offered_as, opened_as, update_of}
use Rattle.causes.specs.declared.Key.TheVariants.{Typ, Dep, Dest, Altn}
use Rattle.causes.specs.declared.Cause.TheVariants.{NothingMore, Another, Missing, Forbidden}
use Rattle.causes.specs.Causes.{key_for, amended_cause, event_cause, offered_cause, opened_cause, cause_of, field_for, shows_nothing, Agree}
use Rattle.std.specs.Prelude.{Ok, Err}
use Rattle.outer.specs.declared.Refusal.{Refusal}
use Rattle.outer.specs.Refusal.{refusal}

-- the field that is unexplained, by the four tests
abbrev named : Bool → Bool → Bool → Bool → ℕ
named a b c d = cond a 9 (cond b 13 (cond (c || d) 16 0))

-- the field of a key is that one
key_field : (cs : List Word) → (unexplained_in cs ≡ 0 → ⊥) → field_for (key_for (unexplained_in cs) cs) ≡ unexplained_in cs
unfolding unexplained
key_field cs =
    go (type_unexplained (get_or cs plan9 []) (get_or cs plan18 [])) (departure_unexplained (get_or cs plan13 []) (get_or cs plan18 []))
    (without_dest (get_or cs plan16 []) (get_or cs plan18 [])) (without_altn (get_or cs plan16 []) (get_or cs plan18 []))
  where
    go : (a b c d : Bool) → (named a b c d ≡ 0 → ⊥)
        → field_for (cond (eqb (named a b c d) 9) Typ (cond (eqb (named a b c d) 13) Dep (cond c Dest Altn))) ≡ named a b c d
    go true b c d n = refl
    go false true c d n = refl
    go false false true d n = refl
    go false false false true n = refl
    go false false false false n = absurd (n refl)

-- what the amended plan gives
module _ (held next : Strip) (room : ℕ) where
  room_agrees : (new : List ℕ) → Agree held NothingMore (room_as new next room)
  room_agrees new = go (ltb most (length new)) (ltb room (length new))
    where
      go : (a b : Bool) → shows_nothing (cond a (Err (refusal 16 0 0)) (cond b (Err (refusal 11 0 0)) (Ok (next, length new)))) ≡ true
      go true b = refl
      go false true = refl
      go false false = refl

  amended_agrees : (cs : List Word) → Agree held (amended_cause cs) (amended_as cs next room)
  amended_agrees cs = go (eqb (unexplained_in cs) 0) refl
    where
      go : (b : Bool) → eqb (unexplained_in cs) 0 ≡ b
          → Agree held (cond b NothingMore (Missing (key_for (unexplained_in cs) cs)))
          (cond b (room_as (message_of cs) next room) (Err (refusal 10 (unexplained_in cs) 0)))
      go true e = room_agrees (message_of cs)
      go false e = ap (λ (f : ℕ). Err (refusal 10 f 0)) (sym (key_field cs (eqb-false (unexplained_in cs) 0 e)))

module _ (held : Strip) (room : ℕ) where
  offered_agrees : (role : Role) (plan said : List ℕ) → Agree held (offered_cause role plan held said) (offered_as role plan held said room)
  unfolding offered_cause offered_as
  offered_agrees role plan said = go (event_of role (split 45 said))
    where
      go : (o : Option Event) → Agree held (event_cause o role plan held said) (event_as o role plan held said room)
      go None = refl
      go (Some e) = told (differs (differences role (split 45 plan) (split 45 said))) refl (allowed_in held e)
        where
          told : (a : Bool) → differs (differences role (split 45 plan) (split 45 said)) ≡ a → (b : Bool)
              → Agree held
              (cond a (Another (differences role (split 45 plan) (split 45 said))) (cond b (amended_cause (amended role plan said)) (Forbidden held.state)))
              (cond a (Err (refusal 12 0 0)) (cond b (amended_as (amended role plan said) (next_of held e) room) (Err (refusal 13 0 0))))
          told true d b = (refl, d)
          told false d true = amended_agrees held (next_of held e) room (amended role plan said)
          told false d false = (refl, refl)

-- numbers 1 to 9 show nothing
small : (number field place : ℕ) → number ≤ 9 → shows_nothing (Err (refusal number field place)) ≡ true
small number field place h =
    rw (ne_eqb number 10 (λ e. omega arith), ne_eqb number 12 (λ e. omega arith), ne_eqb number 13 (λ e. omega arith))

-- ON EVERY INPUT
pub agrees : (strip : List ℕ) (held : Strip) (m : List ℕ) (room : ℕ) → Agree held (cause_of strip held m) (update_of strip held m room)
unfolding cause_of update_of opening_of
agrees strip held m room = go (sound held && canonical_plan strip) (answer_of m most)
  where
    not_read : (r : Refusal) (b : Bool) → leb r.number 9 ≡ b → shows_nothing (Err (cond b r (refusal 14 0 0))) ≡ true
    not_read r true e = small r.number r.field r.place (leb-true r.number 9 e)
    not_read r false e = refl

    go : (b : Bool) (a : Answer)
        → Agree held (opened_cause (cond b (read_as a) (Err (refusal 15 0 0))) strip held m) (opened_as (cond b (read_as a) (Err
        (refusal 15 0 0))) strip held m room)
    go false a = refl
    go true (Ok (t, n)) = offered_agrees held room (role_of t) (inner strip) (text_said t m)
    go true (Err r) = not_read r (leb r.number 9) refl
