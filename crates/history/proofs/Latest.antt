-- The last message of a log that says something, found and as a relation; and the state by a log. Assumes nothing.
use mathlib.Core.Path.{◌≡◌, refl, sym, ap, ◌∙◌}
use mathlib.Core.Bool.{true, false≢true}
use mathlib.Core.List.Memᴰ
use mathlib.Core.List.{List, [], ◌∷◌, ◌++◌, Memᴰ}
use mathlib.Core.Logic.{⊎_elim}
use mathlib.Core.Option.{Option, none, some, get_or}
use Rattle.text.specs.Words.{Word}
use Rattle.aerodromes.specs.Asked.{aerodrome_in}
use Rattle.aerodromes.specs.Field17.{record17}
use Rattle.kinds.specs.declared.MessageType.{MessageType}
use Rattle.kinds.specs.declared.Role.{Role}
use Rattle.kinds.specs.declared.Role.TheVariants.{Files, Changes, Delays, Cancels, Departs, Arrives, Neither}
use Rattle.kinds.specs.Kinds.{role_of}
use Rattle.state.specs.declared.State.{State}
use Rattle.state.specs.declared.State.TheVariants.{Filed, Arrived}
use Rattle.state.specs.State.{next_state, departure_of}
use Rattle.history.specs.History.{Told, landing, Departure, departs_by, becomes_by, becomes, Left, latest, departure_by, state_by}
use Rattle.history.specs.History.Left.{as_filed, by}
use Rattle.history.specs.Demand3.{allowed}
use Rattle.history.proofs.Causes.{event}

-- `latest` is what `Left` says

module _ {A : Type 0} (says : Told → Option A) (first : A) where
  silent : (m : Told) (log : List Told) → says m ≡ none → ((l : Told) → Memᴰ l log → says l ≡ none)
      → (l : Told) → Memᴰ l (m ∷ log) → says l ≡ none
  silent m log e f l i = ⊎_elim (λ (q : l ≡ m). ap says q ∙ e) (λ (j : Memᴰ l log). f l j) (Memᴰ.cases_cons i)

  further : (m : Told) (log : List Told) (v : A) → says m ≡ none → Left says first log v → Left says first (m ∷ log) v
  further m log v e (as_filed f) = as_filed (silent m log e f)
  further m log v e (by later n earlier f x) = by (m ∷ later) n earlier (silent m later e f) x

  spoke : (m : Told) (log : List Told) (o : Option A) (v : A) → says m ≡ o → Left says first log v → Left says first (m ∷ log) (get_or o v)
  spoke m log none v e r = further m log v e r
  spoke m log (some w) v e r = by [] m log (λ l i. absurd (Memᴰ.not-nil i)) e

  pub latest_left : (log : List Told) → Left says first log (latest says first log)
  latest_left [] = as_filed (λ l i. absurd (Memᴰ.not-nil i))
  latest_left (m ∷ log) = spoke m log (says m) (latest says first log) refl (latest_left log)

-- THE STATE

-- where a message is allowed, the state has the time of the last accepted DEP: one more message, and a log
known_by : (t : MessageType) (role : Role) (ds : List Word) (d : Departure) (st : Departure → State) → (allowed (st d) t ≡ true → departure_of (st d) ≡ d)
    → allowed (get_or (becomes_by (get_or (departs_by role ds) d) role ds) (st (get_or (departs_by role ds) d))) t ≡ true
    → departure_of (get_or (becomes_by (get_or (departs_by role ds) d) role ds) (st (get_or (departs_by role ds) d)))
    ≡ get_or (departs_by role ds) d
known_by t Changes ds d st ih h = ih h
known_by t Delays ds d st ih h = ih h
known_by t Cancels ds d st ih h = absurd (false≢true h)
known_by t Departs ds d st ih h = refl
known_by t Arrives ds d st ih h = absurd (false≢true h)
known_by t Files ds d st ih h = ih h
known_by t Neither ds d st ih h = ih h

known : (t : MessageType) (log : List Told) → allowed (state_by log) t ≡ true → departure_of (state_by log) ≡ departure_by log
known t [] h = refl
known t (m ∷ log) h = known_by t (role_of m.type) m.fields (departure_by log) (λ d. latest (becomes d) Filed log) (known t log) h

moved_by : (role : Role) (ds : List Word) (d : Departure) (st : Departure → State) → departure_of (st d) ≡ d
    → next_state (st d) (event role ds) ≡ get_or (becomes_by (get_or (departs_by role ds) d) role ds) (st (get_or (departs_by role ds) d))
moved_by Changes ds d st k = refl
moved_by Delays ds d st k = refl
moved_by Cancels ds d st k = refl
moved_by Departs ds d st k = refl
moved_by Arrives ds d st k = ap (λ (x : Departure). Arrived x (aerodrome_in (landing ds)) (record17 (landing ds)).time) k
moved_by Files ds d st k = refl
moved_by Neither ds d st k = refl

-- where a message that is allowed leaves the state is what the log has with it
pub state_moved : (log : List Told) (t : MessageType) (ds : List Word) → allowed (state_by log) t ≡ true
    → next_state (state_by log) (event (role_of t) ds) ≡ state_by (record { type = t; fields = ds } ∷ log)
state_moved log t ds h =
    moved_by (role_of t) ds (departure_by log) (λ d. latest (becomes d) Filed log)
    (known t log h)

-- WHAT `Left` SAYS IS ONE VALUE

module _ {A : Type 0} (says : Told → Option A) (first : A) where
  none_said : (log : List Told) → ((m : Told) → Memᴰ m log → says m ≡ none) → latest says first log ≡ first
  none_said [] f = refl
  none_said (m ∷ log) f =
      ap (λ (o : Option A). get_or o (latest says first log)) (f m (Memᴰ.head refl))
      ∙ none_said log (λ l i. f l (Memᴰ.tail i))

  last_said : (later : List Told) (m : Told) (earlier : List Told) (v : A) → ((l : Told) → Memᴰ l later → says l ≡ none) → says m ≡ some v
      → latest says first (later ++ m ∷ earlier) ≡ v
  last_said [] m earlier v f x = ap (λ (o : Option A). get_or o (latest says first earlier)) x
  last_said (l ∷ later) m earlier v f x =
      ap (λ (o : Option A). get_or o (latest says first (later ++ m ∷ earlier))) (f l (Memᴰ.head refl))
      ∙ last_said later m earlier v (λ k i. f k (Memᴰ.tail i)) x

  pub left_latest : (log : List Told) (v : A) → Left says first log v → v ≡ latest says first log
  left_latest log v (as_filed f) = sym (none_said log f)
  left_latest log v (by later m earlier f x) = sym (last_said later m earlier v f x)
