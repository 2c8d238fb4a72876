-- What is promised of the board (document 02, request 6), of strips as they are. `Meets house (keeper house)` of the crate rooms has the counts, 18, 19,
-- 20 and 13, the lowest empty slot, the two firms and the journal; this page has what the strip's own rules add, and the code. Assumes nothing.
use Rattle.std.specs.Prelude.{ℕ, ◌≡◌, List, [], ◌∷◌, map, length, replicate, Some, Ok, Err}
use Rattle.sent.specs.Sent.{contents}
use Rattle.kinds.specs.declared.MessageType.TheVariants.{Fpl}
use Rattle.message.specs.Reading.{answer_of}
use Rattle.history.specs.Demand3.{Standing, Offer, updater, offered_all, filed_as, Demand3}
use Rattle.rooms.specs.declared.Firm.{Firm}
use Rattle.rooms.specs.Rooms.{Call, firm_of, empty, stands, said}
use Rattle.rooms.specs.Keeper.{is_of, kept, after_all, log_of, view}
use Rattle.rooms.specs.Counts.{Life, life_at}
use Rattle.racks.specs.Places.{Place, vacant, board_in}
use Rattle.board.specs.House.{lent, house}
use Rattle.board.specs.Verdict.{Verdict}
use Rattle.board.specs.Turns.{told, filing, updating}
use Rattle.board.specs.Runs.{Plays}
use Rattle.outer.specs.Refusal.{refusal}

-- THE THIRD DEMAND holds for each strip from its filing to its clearing: what stands in a slot was filed there, an accepted FPL, and is what the
-- messages offered to it since have made of it

abbrev pub offer_of : List ℕ → Offer
offer_of m = record { bytes = m; lent = lent }

pub record FromFiling (f : Firm) (k : ℕ) (cs : List (Call (List ℕ))) (s : Standing) : Type 0 where
  -- its filing, and the messages offered to it since
  pub life : Life (List ℕ)
  pub is_life : life_at house f k (log_of house (empty house) cs) ≡ Some life
  pub long : ℕ
  pub read : answer_of life.filing 1800 ≡ Ok (Fpl, long)
  pub strip_is : s ≡ offered_all updater (filed_as life.filing) (map offer_of life.offers)
  pub demanded : Demand3 updater (contents life.filing) (filed_as life.filing) (map offer_of life.offers)

abbrev pub EachStrip : Type 0
EachStrip = (cs : List (Call (List ℕ))) (f : Firm) (k : ℕ) (s : Standing) → stands house (after_all house (empty house) cs) f k ≡ Some s
    → FromFiling f k cs s

-- NEVER: a place holds 1,800 bytes and what stands there was filed and amended by the rules, so a filing never gets 11, and an update neither 11 nor
-- 15; and 20 has no other meaning than that there is no room

abbrev pub FilingNever : Type 0
FilingNever = (cs : List (Call (List ℕ))) (n : ℕ) (m : List ℕ) (field place : ℕ)
    → told (said house (after_all house (empty house) cs) (filing n m)) ≡ Err (refusal 11 field place) → ⊥

pub record UpdateNever (cs : List (Call (List ℕ))) (n k : ℕ) (m : List ℕ) : Type 0 where
  pub eleven : (field place : ℕ) → told (said house (after_all house (empty house) cs) (updating n k m)) ≡ Err (refusal 11 field place) → ⊥
  pub fifteen : (field place : ℕ) → told (said house (after_all house (empty house) cs) (updating n k m)) ≡ Err (refusal 15 field place) → ⊥

abbrev pub UpdatingNever : Type 0
UpdatingNever = (cs : List (Call (List ℕ))) (n k : ℕ) (m : List ℕ) → UpdateNever cs n k m

-- THE TWO FIRMS, of the code: in two runs that the contracts allow, each from the empty board, in which a firm goes by the same, the verdicts on its
-- calls and what stands in its slots agree, whatever bytes were lent

-- the verdicts on a firm's own calls
abbrev pub own_verdicts : Firm → List (Call (List ℕ)) → List Verdict → List Verdict
own_verdicts f [] vs = []
own_verdicts f (c ∷ cs) [] = []
own_verdicts f (c ∷ cs) (v ∷ vs) = kept (is_of f (firm_of c.by)) v (own_verdicts f cs vs)

pub record Apart (f : Firm) (cs ds : List (Call (List ℕ))) (vs ws : List Verdict) (qs rs : List Place) (end fin : List ℕ) : Type 0 where
  pub verdicts_agree : own_verdicts f cs vs ≡ own_verdicts f ds ws
  pub strips_agree : board_in qs end f ≡ board_in rs fin f

abbrev pub HandlersApart : Type 0
HandlersApart = (f : Firm) (lent₁ lent₂ : List ℕ) → length lent₁ ≡ 36000 → length lent₂ ≡ 36000
    → (cs ds : List (Call (List ℕ))) (vs ws : List Verdict) (qs rs : List Place) (end fin : List ℕ)
    → Plays (replicate 20 vacant) lent₁ cs vs qs end → Plays (replicate 20 vacant) lent₂ ds ws rs fin
    → view house f (empty house) cs ≡ view house f (empty house) ds → Apart f cs ds vs ws qs rs end fin
