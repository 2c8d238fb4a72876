-- What is asked of whoever keeps a board of 16 strips for two firms (document 02, request 6), over any rules of a strip: `Meets` is the statement to
-- read. Assumes nothing.
use Rattle.std.specs.Prelude.{ℕ, ◌≤◌, ◌<◌, ◌≡◌, Bool, true, false, List, [], ◌∷◌, length, Option, None, Some, IsSome}
use Rattle.rooms.specs.Rooms.{Outcome, House, firm_of, Act, Reply, Board, Said, Asked, stands, offered_at, cleared_at}
use Rattle.rooms.specs.Rooms.Outcome.{takes, refuses}
use Rattle.rooms.specs.declared.Firm.{Firm}
use Rattle.rooms.specs.Rooms.Act.{file, update, clear}
use Rattle.rooms.specs.Rooms.Reply.{filed, updated, cleared, refused, no_firm, no_slot, no_room, not_over}
use Rattle.rooms.specs.Keeper.{Keeper, Entry, kept, runs, log_by, view_by, heard_by}
use Rattle.rooms.specs.Counts.{Life, filings, clearings, held, shared_used, shared_unused, all, standing, life_at}

module _ (H : House) where
  abbrev call : ℕ → Act H.Message → Asked H
  call n a = record { by = n; does = a }

  -- THE COUNTS. Each firm is sure of 6 strips, and 4 more go to whoever asks first: strips held, what is unused of each firm's 6 and what is unused of
  -- the 4, each counted from the accepted filings and clearings, always make 16; and what stands on the board agrees with them
  pub record Counted (b : Board H) (log : List (Entry H)) : Type 0 where
    pub sixteen : all H log ≡ 16
    -- no count is cut off at nothing
    pub cleared_filed : (f : Firm) → clearings H f log ≤ filings H f log
    pub shared_four : shared_used H log ≤ 4
    pub agrees : (f : Firm) → standing H (b f) ≡ held H f log
    pub ten_slots : (f : Firm) → length (b f) ≡ 10

  -- FILING. Number 20 exactly when the firm holds 6 or more and none of the 4 is free; otherwise the strip's own rules decide, and what is filed gets
  -- the firm's lowest empty slot
  pub record Full (f : Firm) (log : List (Entry H)) : Type 0 where
    pub six : 6 ≤ held H f log
    pub none_free : shared_unused H log ≡ 0

  pub record Files (f : Firm) (b : Board H) (log : List (Entry H)) (m : H.Message) (answer : Said H) : Type 0 where
    pub full_refused : Full f log → answer ≡ no_room
    pub refused_full : answer ≡ no_room → Full f log
    pub otherwise_refused : (Full f log → ⊥) → (w : H.Why) → H.filing m ≡ refuses w → answer ≡ refused w
    pub otherwise_filed : (Full f log → ⊥) → (s : H.Strip) → H.filing m ≡ takes s
        → (k : ℕ) × (answer ≡ filed k s) × (k < 10) × (stands H b f k ≡ None) × ((j : ℕ) → j < k → IsSome (stands H b f j))

  -- LIVES. What stands in a slot is what was filed there, after the messages offered to it since; nothing stands where no life is on

  -- a strip after an offer, and after a run of offers
  abbrev pub offered_as : Outcome H.Strip H.Why → H.Strip → H.Strip
  offered_as (takes t) s = t
  offered_as (refuses w) s = s

  abbrev pub offer_all : H.Strip → List H.Message → H.Strip
  offer_all s [] = s
  offer_all s (m ∷ ms) = offer_all (offered_as (H.updating s m) s) ms

  pub data Lived : Option (Life H.Message) → Option H.Strip → Type 0 where
    vacant : Lived None None
    lives : (l : Life H.Message) (s : H.Strip) → H.filing l.filing ≡ takes s → Lived (Some l) (Some (offer_all s l.offers))

-- ACCEPTED, of an answer
abbrev pub accepted : {S W : Type 0} → Reply S W → Bool
accepted (filed k s) = true
accepted (updated k s) = true
accepted (cleared k) = true
accepted (refused w) = false
accepted no_firm = false
accepted no_slot = false
accepted no_room = false
accepted not_over = false

module _ (H : House) (K : Keeper H) where
  abbrev now : List (Asked H) → K.Kept
  now cs = runs H K K.start cs

  abbrev shown : List (Asked H) → Board H
  shown cs = K.shows (now cs)

  abbrev log : List (Asked H) → List (Entry H)
  log cs = log_by H K K.start cs

  abbrev pub Counts : Type 0
  Counts = (cs : List (Asked H)) → Counted H (shown cs) (log cs)

  abbrev pub Filings : Type 0
  Filings = (cs : List (Asked H)) (n : ℕ) (f : Firm) → firm_of n ≡ Some f → (m : H.Message)
      → Files H f (shown cs) (log cs) m (K.answer (now cs) (call H n (file m)))

  -- UPDATING AND CLEARING. A firm reaches only its own slots: 19 where nothing stands, otherwise the strip's own rules decide of an update, and a
  -- clearing needs a strip that is over, 13 for others. 18 for a firm that is not 1 or 2
  abbrev pub Updatings : Type 0
  Updatings = (cs : List (Asked H)) (n : ℕ) (f : Firm) → firm_of n ≡ Some f → (k : ℕ) (m : H.Message)
      → K.answer (now cs) (call H n (update k m)) ≡ offered_at H (stands H (shown cs) f k) k m

  abbrev pub Clearings : Type 0
  Clearings = (cs : List (Asked H)) (n : ℕ) (f : Firm) → firm_of n ≡ Some f → (k : ℕ)
      → K.answer (now cs) (call H n (clear k)) ≡ cleared_at H (stands H (shown cs) f k) k

  abbrev pub Strangers : Type 0
  Strangers = (cs : List (Asked H)) (n : ℕ) → firm_of n ≡ None → (a : Act H.Message) → K.answer (now cs) (call H n a) ≡ no_firm

  -- ONE FIRM AND THE OTHER. What a firm is answered depends on its own calls and, for a filing alone, on how many of the 4 the other holds then: in two
  -- runs from the empty board in which these agree, all its answers and all its strips agree
  pub record Agree (f : Firm) (cs ds : List (Asked H)) : Type 0 where
    pub answers : heard_by H K f K.start cs ≡ heard_by H K f K.start ds
    pub strips : shown cs f ≡ shown ds f

  abbrev pub Independent : Type 0
  Independent = (f : Firm) (cs ds : List (Asked H)) → view_by H K f K.start cs ≡ view_by H K f K.start ds → Agree f cs ds

  abbrev pub Lives : Type 0
  Lives = (cs : List (Asked H)) (f : Firm) (k : ℕ) → Lived H (life_at H f k (log cs)) (stands H (shown cs) f k)

  -- THE JOURNAL. The accepted calls alone, played again in their order, lead to the same board
  abbrev pub journal_by : K.Kept → List (Asked H) → List (Asked H)
  journal_by s [] = []
  journal_by s (c ∷ cs) = kept (accepted (K.answer s c)) c (journal_by (K.next s c) cs)

  abbrev pub Replays : Type 0
  Replays = (cs : List (Asked H)) (f : Firm) → shown (journal_by K.start cs) f ≡ shown cs f

-- ALL OF IT
pub record Meets (H : House) (K : Keeper H) : Type 0 where
  pub counts : Counts H K
  pub filing_right : Filings H K
  pub updating_right : Updatings H K
  pub clearing_right : Clearings H K
  pub strangers_refused : Strangers H K
  pub independent : Independent H K
  pub lived : Lives H K
  pub replayed : Replays H K
