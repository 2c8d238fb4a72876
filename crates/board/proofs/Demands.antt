-- WHAT WAS ASKED OF THE BOARD, of strips as they are: `board_meets`, `each_strip` and `handlers_apart` are the theorems to read. Assumes nothing.
use Prim.Native.Nat.{ℕ}
use mathlib.Core.Path.{◌≡◌, refl, sym, ap, ◌∙◌}
use mathlib.Core.Bool.{Bool, true, false, cond}
use mathlib.Core.List.{List, [], ◌∷◌, map}
use native.Mathlib.Omega.{arith}
use Rattle.std.specs.Prelude.{Option, Some, Ok, Err}
use Rattle.kinds.specs.declared.MessageType.{MessageType}
use Rattle.kinds.specs.declared.MessageType.TheVariants.{Fpl}
use Rattle.message.specs.Answer.{Answer}
use Rattle.message.specs.Reading.{is_plan, answer_of}
use Rattle.strip.specs.Updating.{Updated, update_of, out_after}
use Rattle.history.specs.Demand3.{Standing, put_as, updater, offered, offered_all, filed_as}
use Rattle.message.proofs.Plans.{plan_type}
use Rattle.history.proofs.Demand3.{demand3}
use Rattle.rooms.specs.declared.Firm.{Firm}
use Rattle.rooms.specs.Rooms.{Outcome, Call, Board, firm_of, empty, said, after}
use Rattle.rooms.specs.Rooms.Outcome.{takes, refuses}
use Rattle.rooms.specs.Keeper.{is_of, kept, Heard, keeper, log_of, heard}
use Rattle.rooms.specs.Counts.{Life, life_at}
use Rattle.rooms.specs.Demands.{offered_as, offer_all, Lived, Meets}
use Rattle.rooms.specs.Demands.Lived.{vacant, lives}
use Rattle.rooms.proofs.Independent.{independent}
use Rattle.rooms.proofs.Lives.{lives_right}
use Rattle.rooms.proofs.Meets.{meets}
use Rattle.outer.specs.Refusal.{refusal}
use Rattle.outer.specs.declared.Refusal.{Refusal}
use Rattle.board.specs.House.{filing_as, updating_as, lent, house}
use Rattle.board.specs.Verdict.{Verdict}
use Rattle.board.specs.Turns.{told}
use Rattle.board.specs.Runs.{verdicts}
use Rattle.board.specs.Demands.{offer_of, FromFiling, EachStrip, own_verdicts, HandlersApart}
use Rattle.board.proofs.Runs.{faithful}

-- THE ROOM, THE SLOTS, THE FIRMS AND THE JOURNAL
pub board_meets : Meets house (keeper house)
board_meets = meets house

-- A FILING is an accepted FPL

pub record Filed (m : List ℕ) (s : Standing) : Type 0 where
  pub long : ℕ
  pub read : answer_of m 1800 ≡ Ok (Fpl, long)
  pub strip_is : s ≡ filed_as m

filed : (m : List ℕ) (s : Standing) (a : Answer) → answer_of m 1800 ≡ a → filing_as a m ≡ takes s → Filed m s
filed m s (Err r) q e = cc
filed m s (Ok (t, n)) q e = go (is_plan t) refl e
  where
    go : (p : Bool) → is_plan t ≡ p
        → ◌≡◌ {A = Outcome Standing Refusal} (cond p (takes (filed_as m)) (refuses (refusal 14 0 0))) (takes s) → Filed m s
    go true p e =
        let same : filed_as m ≡ s = cc in
        record { long = n; read = q ∙ ap (λ (u : MessageType). Ok (u, n)) (plan_type t p); strip_is = sym same }
    go false p e = cc

-- AN OFFER is the history's

one_offer : (s : Standing) (m out : List ℕ) (u : Updated) → offered_as house (updating_as u out) s ≡ put_as u out s
one_offer s m out (Ok (held, n)) = refl
one_offer s m out (Err r) = refl

offers : (s : Standing) (ms : List (List ℕ)) → offer_all house s ms ≡ offered_all updater s (map offer_of ms)
offers s [] = refl
offers s (m ∷ ms) =
    ap (λ (x : Standing). offer_all house x ms) (one_offer s m (out_after s.strip s.held m lent) (update_of s.strip s.held m 1800))
    ∙ offers (offered updater s (offer_of m)) ms

-- THE THIRD DEMAND, for each strip

from_life : (f : Firm) (k : ℕ) (cs : List (Call (List ℕ))) (s : Standing) (l : Option (Life (List ℕ))) (p : Option Standing)
    → life_at house f k (log_of house (empty house) cs) ≡ l → Lived house l p → p ≡ Some s → FromFiling f k cs s
from_life f k cs s _ _ e vacant q = cc
from_life f k cs s _ _ e (lives l t q) r =
    let w = filed l.filing t (answer_of l.filing 1800) refl q in
    let same : offer_all house t l.offers ≡ s = cc in
    record {
      life = l;
      is_life = e;
      long = w.long;
      read = w.read;
      strip_is =
          sym same
          ∙ ap (λ (x : Standing). offer_all house x l.offers) w.strip_is
          ∙ offers (filed_as l.filing) l.offers;
      demanded = demand3 l.filing 1800 w.long w.read (map offer_of l.offers);
    }

pub each_strip : EachStrip
each_strip cs f k s e = from_life f k cs s _ _ refl (lives_right house cs f k) e

-- NON-INTERFERENCE, of the code

abbrev told_of : List (Heard house) → List Verdict
told_of hs = map (λ (h : Heard house). told h.answer) hs

told_kept : (b : Bool) (h : Heard house) (hs : List (Heard house)) → kept b (told h.answer) (told_of hs) ≡ told_of (kept b h hs)
told_kept true h hs = refl
told_kept false h hs = refl

own_heard : (f : Firm) (cs : List (Call (List ℕ))) (b : Board house) → own_verdicts f cs (verdicts b cs) ≡ told_of (heard house f b cs)
own_heard f [] b = refl
own_heard f (c ∷ cs) b =
    ap (λ (vs : List Verdict). kept (is_of f (firm_of c.by)) (told (said house b c)) vs) (own_heard f cs (after house b c))
    ∙ told_kept (is_of f (firm_of c.by)) (record { answer = said house b c; rack = after house b c f }) (heard house f (after house b c) cs)

pub handlers_apart : HandlersApart
handlers_apart f one two l k cs ds vs ws qs rs end fin p q same =
    let g = faithful one l cs vs qs end p in
    let h = faithful two k ds ws rs fin q in
    let i = independent house f cs ds same in
    record {
      verdicts_agree =
          ap (own_verdicts f cs) g.answers_as
          ∙ own_heard f cs (empty house)
          ∙ ap told_of i.answers
          ∙ sym (own_heard f ds (empty house))
          ∙ sym (ap (own_verdicts f ds) h.answers_as);
      strips_agree = g.stands_as_lem f ∙ i.strips ∙ sym (h.stands_as_lem f);
    }
