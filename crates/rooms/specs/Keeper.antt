-- A keeper of a board that two firms share, good or bad: what it answers to runs of calls and what it shows then; what a firm goes by in a run, and
-- what it hears. The board of Rooms.antt is one keeper. Assumes nothing.
use Rattle.std.specs.Prelude.{ℕ, Bool, true, false, List, [], ◌∷◌, Option, None, Some}
use Rattle.rooms.specs.declared.Firm.{Firm}
use Rattle.rooms.specs.Rooms.{House, other, same, firm_of, Act, held_in, beyond, Rack, Board, Said, Asked, empty, said, after}
use Rattle.rooms.specs.Rooms.Act.{file, update, clear}

-- what it keeps, at first and after a call; its answer to a call; and what it shows in each firm's slots
pub record Keeper (H : House) : Type 1 where
  pub Kept : Type 0
  pub start : Kept
  pub answer : Kept → Asked H → Said H
  pub next : Kept → Asked H → Kept
  pub shows : Kept → Firm → Rack H

-- WHAT A FIRM GOES BY in a run: its own calls, and with each filing how many of the 4 the other holds then

pub record Seen (M : Type 0) : Type 0 where
  pub does : Act M
  pub theirs : Option ℕ

abbrev pub seen_as : {M : Type 0} → Act M → ℕ → Seen M
seen_as (file m) n = record { does = file m; theirs = Some n }
seen_as (update k m) n = record { does = update k m; theirs = None }
seen_as (clear k) n = record { does = clear k; theirs = None }

abbrev pub is_of : Firm → Option Firm → Bool
is_of f None = false
is_of f (Some g) = same f g

abbrev pub kept : {A : Type 0} → Bool → A → List A → List A
kept true x xs = x ∷ xs
kept false x xs = xs

-- WHAT IT HEARS AND HAS: the answer to each of its calls, and its slots after it
pub record Heard (H : House) : Type 0 where
  pub answer : Said H
  pub rack : Rack H

-- THE LOG of a run: each call with its answer
pub record Entry (H : House) : Type 0 where
  pub call : Asked H
  pub answer : Said H

module _ (H : House) (K : Keeper H) where
  -- A RUN of calls, in the order of their coming
  abbrev pub runs : K.Kept → List (Asked H) → K.Kept
  runs s [] = s
  runs s (c ∷ cs) = runs (K.next s c) cs

  abbrev pub log_by : K.Kept → List (Asked H) → List (Entry H)
  log_by s [] = []
  log_by s (c ∷ cs) = record { call = c; answer = K.answer s c } ∷ log_by (K.next s c) cs

  abbrev pub view_by : Firm → K.Kept → List (Asked H) → List (Seen H.Message)
  view_by f s [] = []
  view_by f s (c ∷ cs) = kept (is_of f (firm_of c.by)) (seen_as c.does (beyond (held_in (K.shows s (other f))))) (view_by f (K.next s c) cs)

  abbrev pub heard_by : Firm → K.Kept → List (Asked H) → List (Heard H)
  heard_by f s [] = []
  heard_by f s (c ∷ cs) =
      kept (is_of f (firm_of c.by)) (record { answer = K.answer s c; rack = K.shows (K.next s c) f }) (heard_by f (K.next s c) cs)

-- THE BOARD AS A KEEPER
module _ (H : House) where
  abbrev pub keeper : Keeper H
  keeper = record { Kept = Board H; start = empty H; answer = said H; next = after H; shows = λ b. b }

  abbrev pub after_all : Board H → List (Asked H) → Board H
  after_all b cs = runs H keeper b cs

  abbrev pub log_of : Board H → List (Asked H) → List (Entry H)
  log_of b cs = log_by H keeper b cs

  abbrev pub view : Firm → Board H → List (Asked H) → List (Seen H.Message)
  view f b cs = view_by H keeper f b cs

  abbrev pub heard : Firm → Board H → List (Asked H) → List (Heard H)
  heard f b cs = heard_by H keeper f b cs
