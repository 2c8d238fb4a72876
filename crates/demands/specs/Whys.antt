-- Why an update is refused (document 02, request 8), in the words of the history and of its causes (history: specs/Demand3.antt): what the set of 12
-- holds, which key 10 misses, and which state 13 found. It names nothing of the update. Assumes nothing.
use Rattle.std.specs.Prelude.{ℕ, ◌<◌, ◌≡◌, refl, Bool, true, false, ◌&&◌, ◌||◌, not, List, [], ◌∷◌, take, drop, get_or, Ok}
use Rattle.alphabet.specs.Text.{bytes}
use Rattle.alphabet.specs.Alphabet.{one_of}
use Rattle.text.specs.Words.{Word, split, before}
use Rattle.outer.specs.Outer.{most}
use Rattle.head.specs.Field9.{aircraft}
use Rattle.aerodromes.specs.Aerodromes.{aerodrome_of}
use Rattle.aerodromes.specs.Asked.{has_alternate}
use Rattle.other.specs.Field18.{has_key}
use Rattle.kinds.specs.declared.MessageType.{MessageType}
use Rattle.kinds.specs.declared.Role.{Role}
use Rattle.kinds.specs.Kinds.{role_of, plan9, plan13, plan16, plan18, brief7, brief13, brief16, brief18}
use Rattle.plan.specs.Unexplained.{unlisted, filed_in_flight}
use Rattle.message.specs.Reading.{answer_of}
use Rattle.state.specs.declared.Strip.{Strip}
use Rattle.strip.specs.declared.Differences.{Differences}
use Rattle.causes.specs.declared.Key.{Key}
use Rattle.causes.specs.declared.Key.TheVariants.{Typ, Dep, Dest, Altn}
use Rattle.causes.specs.declared.Cause.{Cause as Shown}
use Rattle.causes.specs.declared.Cause.TheVariants.{NothingMore, Another, Missing, Forbidden}
use Rattle.history.specs.Eighteen.{date_told}
use Rattle.history.specs.History.{Plan, nine, Told}
use Rattle.history.specs.History.Part.{identification, aerodrome, off_block, destination, date}
use Rattle.history.specs.Demand3.{Proper, fit_type, TimeToo, DateToo, Same, allowed, plan_on, amended_on, told, Passes, Cause}

-- 12: THE SET OF WHAT DIFFERS

-- a value's place in the set; `asks` puts its question of a message type that compares the value, and none of the others
pub record Sorted (asks : Type 0 → Type 0) (in_set : Bool) (ours theirs : List ℕ) : Type 0 where
  -- in the set: it differs from the strip's
  pub unequal : in_set ≡ true → ours ≡ theirs → ⊥
  -- outside: it is equal, if it is compared
  pub equal : in_set ≡ false → asks (ours ≡ theirs)
  -- what is not compared is outside
  pub compared : asks ⊥ → in_set ≡ false

abbrev pub OfEach : Type 0 → Type 0
OfEach question = question

-- of dates, each nothing where there is none: where both carry one
abbrev pub OfDates : Role → Word → Word → Type 0 → Type 0
OfDates role ours theirs question = DateToo role ((ours ≡ [] → ⊥) → (theirs ≡ [] → ⊥) → question)

pub record TheSet (p : Plan) (m : Told) (d : Differences) : Type 0 where
  pub identification_sorted : Sorted OfEach d.identification (before 47 (p identification)) (before 47 (get_or m.fields brief7 []))
  pub aerodrome_sorted : Sorted OfEach d.aerodrome (p aerodrome) (take 4 (get_or m.fields brief13 []))
  pub time_sorted : Sorted (TimeToo (role_of m.type)) d.time (p off_block) (drop 4 (get_or m.fields brief13 []))
  pub destination_sorted : Sorted OfEach d.destination (p destination) (take 4 (get_or m.fields brief16 []))
  pub date_sorted :
      Sorted (OfDates (role_of m.type) (p date) (date_told (get_or m.fields brief18 []))) d.date (p date) (date_told (get_or m.fields brief18 []))

-- 10: THE MISSING KEY, of a plan's nine contents

abbrev pub name_of : Key → Word
name_of Typ = bytes "TYP"
name_of Dep = bytes "DEP"
name_of Dest = bytes "DEST"
name_of Altn = bytes "ALTN"

-- the field that wants it holds ZZZZ: 9 as its type, 13 as its aerodrome, where AFIL wants it too, 16 as its destination or as an alternate
abbrev pub wants : List Word → Key → Bool
wants cs Typ = unlisted (before 47 (aircraft (get_or cs plan9 [])))
wants cs Dep = unlisted (aerodrome_of (get_or cs plan13 [])) || filed_in_flight (aerodrome_of (get_or cs plan13 []))
wants cs Dest = unlisted (aerodrome_of (get_or cs plan16 []))
wants cs Altn = has_alternate (get_or cs plan16 []) (bytes "ZZZZ")

-- in this order
abbrev pub rank_of : Key → ℕ
rank_of Typ = 1
rank_of Dep = 2
rank_of Dest = 3
rank_of Altn = 4

-- it is wanted, field 18 does not have it, and no key before it is both
pub record Lacks (cs : List Word) (key : Key) : Type 0 where
  pub wanted : wants cs key ≡ true
  pub absent : has_key (get_or cs plan18 []) (name_of key) ≡ false
  pub first : (k : Key) → rank_of k < rank_of key → (wants cs k && not (has_key (get_or cs plan18 []) (name_of k))) ≡ false

-- WHAT IS SHOWN

-- a message that is read, of a type that is fit: 15, 1 to 9 and 14 are passed
pub record Heard (strip : List ℕ) (held : Strip) (m : List ℕ) : Type 0 where
  pub proper : Proper strip held
  pub type : MessageType
  pub long : ℕ
  pub read : answer_of m most ≡ Ok (type, long)
  pub fit : fit_type type ≡ true

-- of an update of a strip, beside its answer
pub data Why (strip : List ℕ) (held : Strip) (m : List ℕ) : Shown → Type 0 where
  -- 12: something that is compared differs
  differing : Heard strip held m → (Same (plan_on strip) (told m) → ⊥) → {d : Differences} → TheSet (plan_on strip) (told m) d → Why strip held m (Another d)
  -- 13: the strip's state, which does not allow it
  not_allowed : (h : Heard strip held m) → Same (plan_on strip) (told m) → allowed held.state h.type ≡ false
      → Why strip held m (Forbidden held.state)
  -- 10: a key that the amended plan lacks
  lacking : Passes strip held m → {key : Key} → Lacks (nine (amended_on strip m)) key → Why strip held m (Missing key)
  -- there is no cause for 10, 12 or 13, whatever room is lent
  no_more : ((room number field place : ℕ) → Cause strip held m room number field place → one_of number (10 ∷ 12 ∷ 13 ∷ []) ≡ true → ⊥)
      → Why strip held m NothingMore

-- EXAMPLES, computed

abbrev unlisted_plan : List Word
unlisted_plan = split 45 (bytes "FPL-ABC12-IS-3ZZZZ/M-SDFG/S-AFIL0930-N0440F310 DCT PAM DCT-EDDF0100 EDDK ZZZZ-DEST/X")

wanted : (wants unlisted_plan Typ ≡ true) × (wants unlisted_plan Dep ≡ true) × (wants unlisted_plan Dest ≡ false) × (wants unlisted_plan Altn ≡ true)
wanted = (refl, refl, refl, refl)
