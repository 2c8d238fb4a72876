-- Why an update is refused (document 02, request 8): for 12 what differs, for 10 the missing key, for 13 the state found; other numbers, and an
-- accepted update, show nothing more. The room lent plays no part. Assumes nothing.
use Rattle.std.specs.Prelude.{ℕ, ◌≡◌, refl, Bool, true, false, cond, List, [], ◌∷◌, eqb, get_or, Option, Some, None, Ok, Err}
use Rattle.alphabet.specs.Text.{bytes}
use Rattle.alphabet.specs.Alphabet.{one_of}
use Rattle.text.specs.Words.{Word, split}
use Rattle.space.specs.Fields.{inner}
use Rattle.aerodromes.specs.Aerodromes.{four_letters}
use Rattle.other.specs.Field18.{has_key, words_under}
use Rattle.kinds.specs.declared.MessageType.TheVariants.{Chg, Dla, Dep}
use Rattle.kinds.specs.declared.Role.{Role}
use Rattle.kinds.specs.Kinds.{role_of, plan16, plan18}
use Rattle.plan.specs.Unexplained.{without_dest, unexplained}
use Rattle.message.specs.Reading.{unexplained_in}
use Rattle.forms.specs.Field22.{labels}
use Rattle.force.specs.InForce.{named_by}
use Rattle.state.specs.declared.Event.{Event}
use Rattle.state.specs.declared.State.TheVariants.{Departed}
use Rattle.state.specs.declared.Strip.{Strip}
use Rattle.state.specs.State.{just_filed, allowed_in}
use Rattle.message.specs.Answer.{Answer}
use Rattle.opening.specs.Opening.{text_said, opening_of}
use Rattle.amending.specs.Amended.{amended}
use Rattle.strip.specs.Updating.{Updated, event_of, differences, differs}
use Rattle.causes.specs.declared.Key.{Key}
use Rattle.causes.specs.declared.Key.TheVariants.{Typ, Dep as DepKey, Dest, Altn}
use Rattle.causes.specs.declared.Cause.{Cause}
use Rattle.causes.specs.declared.Cause.TheVariants.{NothingMore, Another, Missing, Forbidden}
use Rattle.outer.specs.Refusal.{refusal}

-- 10: the key that the field named wants in 18; of 16, DEST before ALTN

abbrev pub key_for : ℕ → List Word → Key
key_for field cs =
    cond (eqb field 9) Typ
    (cond (eqb field 13) DepKey
    (cond (without_dest (get_or cs plan16 []) (get_or cs plan18 [])) Dest Altn))

abbrev pub amended_cause : List Word → Cause
amended_cause cs = cond (eqb (unexplained_in cs) 0) NothingMore (Missing (key_for (unexplained_in cs) cs))

-- 12: what differs; 13: the state found
abbrev pub event_cause : Option Event → Role → List ℕ → Strip → List ℕ → Cause
event_cause None role plan held said = NothingMore
event_cause (Some e) role plan held said =
    cond (differs (differences role (split 45 plan) (split 45 said))) (Another (differences role (split 45 plan) (split 45 said)))
    (cond (allowed_in held e) (amended_cause (amended role plan said))
    (Forbidden held.state))

unfoldable pub offered_cause : Role → List ℕ → Strip → List ℕ → Cause
offered_cause role plan held said = event_cause (event_of role (split 45 said)) role plan held said

abbrev pub opened_cause : Answer → List ℕ → Strip → List ℕ → Cause
opened_cause (Err r) strip held m = NothingMore
opened_cause (Ok (t, n)) strip held m = offered_cause (role_of t) (inner strip) held (text_said t m)

unfoldable pub cause_of : List ℕ → Strip → List ℕ → Cause
cause_of strip held m = opened_cause (opening_of strip held m) strip held m

-- A CAUSE AND AN ANSWER that agree, of a strip with this record: each shows what its number asks for, and no other number shows a cause

-- the field that wants a key
abbrev pub field_for : Key → ℕ
field_for Typ = 9
field_for DepKey = 13
field_for Dest = 16
field_for Altn = 16

abbrev pub shows_nothing : Updated → Bool
shows_nothing (Ok (next, n)) = true
shows_nothing (Err r) = cond (one_of r.number (10 ∷ 12 ∷ 13 ∷ [])) false true

abbrev pub Agree : Strip → Cause → Updated → Type 0
Agree held NothingMore answer = shows_nothing answer ≡ true
Agree held (Another d) answer = (answer ≡ Err (refusal 12 0 0)) × (differs d ≡ true)
Agree held (Missing key) answer = answer ≡ Err (refusal 10 (field_for key) 0)
Agree held (Forbidden state) answer = (answer ≡ Err (refusal 13 0 0)) × (state ≡ held.state)

-- EXAMPLES, computed

abbrev filed : List ℕ
filed = bytes "FPL-ABC12-IS-B738/M-SDFG/S-EHAM0930-N0440F310 DCT PAM DCT-EDDF0100 EDDK-0"

abbrev day_filed : List ℕ
day_filed = bytes "FPL-ABC12-IS-B738/M-SDFG/S-EHAM0930-N0440F310 DCT PAM DCT-EDDF0100 EDDK-DOF/240229"

abbrev gone : Strip
gone = record { state = Departed (record { 0 = 621 }) }

compared : offered_cause (role_of Chg) filed just_filed (bytes "CHG-ABC12-EHAM0931-EDDK-0-8/IN")
    ≡ Another (record { identification = false; aerodrome = false; time = true; destination = true; date = false })
unfolding offered_cause words_under
compared = refl

-- another day, where both carry a date
dated : offered_cause (role_of Dep) day_filed just_filed (bytes "DEP-ABC12-EHAM0941-EDDF-DOF/240301")
    ≡ Another (record { identification = false; aerodrome = false; time = false; destination = false; date = true })
unfolding offered_cause words_under
dated = refl

missing : (offered_cause (role_of Chg) filed just_filed (bytes "CHG-ABC12-EHAM0930-EDDF-0-16/ZZZZ0100 ZZZZ") ≡ Missing Dest)
    × (offered_cause (role_of Chg) filed just_filed (bytes "CHG-ABC12-EHAM0930-EDDF-0-16/ZZZZ0100 ZZZZ-18/DEST/X") ≡ Missing Altn)
    × (offered_cause (role_of Chg) filed just_filed (bytes "CHG-ABC12-EHAM0930-EDDF-0-9/ZZZZ/M") ≡ Missing Typ)
    × (offered_cause (role_of Chg) filed just_filed (bytes "CHG-ABC12-EHAM0930-EDDF-0-13/AFIL0930") ≡ Missing DepKey)
unfolding offered_cause named_by labels four_letters unexplained has_key words_under
missing = (refl, refl, refl, refl)

-- what differs comes before the state, and the state before the plan
found : (offered_cause (role_of Dla) filed gone (bytes "DLA-ABC12-EHAM1015-EDDF-0") ≡ Forbidden gone.state)
    × (offered_cause (role_of Dep) filed just_filed (bytes "DEP-ABC12-EHAM0941-EDDF-0") ≡ NothingMore)
unfolding offered_cause unexplained has_key words_under
found = (refl, refl)
