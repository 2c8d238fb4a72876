-- Keepers of a board that must not pass. But for its slip each does as the board does. Assumes nothing.
use Rattle.std.specs.Prelude.{ℕ, zero, suc, ◌+◌, ◌-◌, Bool, true, false, ◌||◌, not, cond, List, [], ◌∷◌, eqb, ltb, set, replicate, Option, None, Some}
use Rattle.rooms.specs.declared.Firm.{Firm}
use Rattle.rooms.specs.declared.Firm.TheVariants.{First}
use Rattle.rooms.specs.Rooms.{House, other, same, firm_of, Act, held_in, lowest, beyond, has_room, Board, Said, empty}
use Rattle.rooms.specs.Rooms.{filed_as, reply, left, said_to, said, put}
use Rattle.rooms.specs.Rooms.Act.{file, update, clear}
use Rattle.rooms.specs.Rooms.Reply.{filed, updated, cleared, refused, no_firm, no_slot, no_room, not_over}
use Rattle.rooms.specs.Keeper.{Keeper}
use Rattle.rooms.specs.Counts.{is_clearing}

module _ (H : House) where
  -- one where a clearing frees the other firm's room: the slot that it empties is the other's
  abbrev freed : Firm → Said H → Firm
  freed f x = cond (is_clearing x) (other f) f

  abbrev put_freed : Option Firm → Board H → Said H → Board H
  put_freed None b x = b
  put_freed (Some f) b x = λ g. cond (same (freed f x) g) (left H x (b g)) (b g)

  abbrev pub frees_other : Keeper H
  frees_other =
      record { Kept = Board H; start = empty H; answer = said H; next = λ b c. put_freed (firm_of c.by) b (said H b c); shows = λ b. b }

  -- a keeper that shows all it keeps, and leaves on the board what it answers
  abbrev answering : (Option Firm → Board H → Act H.Message → Said H) → Keeper H
  answering by =
      record {
        Kept = Board H;
        start = empty H;
        answer = λ b c. by (firm_of c.by) b c.does;
        next = λ b c. put H (firm_of c.by) b (by (firm_of c.by) b c.does);
        shows = λ b. b;
      }

  -- one whose answer to an update depends on the other firm: 19 while the other holds a strip
  abbrev by_other : Option Firm → Board H → Act H.Message → Said H
  by_other None b a = no_firm
  by_other (Some f) b (file m) = said_to H (Some f) b (file m)
  by_other (Some f) b (update k m) = cond (eqb (held_in (b (other f))) 0) (said_to H (Some f) b (update k m)) no_slot
  by_other (Some f) b (clear k) = said_to H (Some f) b (clear k)

  abbrev pub asks_other : Keeper H
  asks_other = answering by_other

  -- one that gives the highest empty slot
  abbrev highest_from : ℕ → ℕ → List (Option H.Strip) → ℕ
  highest_from k found [] = found
  highest_from k found (None ∷ r) = highest_from (suc k) k r
  highest_from k found (Some s ∷ r) = highest_from (suc k) found r

  abbrev by_highest : Option Firm → Board H → Act H.Message → Said H
  by_highest None b a = no_firm
  by_highest (Some f) b (file m) =
      cond (has_room (held_in (b f)) (beyond (held_in (b (other f))))) (filed_as H (H.filing m) (highest_from 0 0 (b f))) no_room
  by_highest (Some f) b (update k m) = said_to H (Some f) b (update k m)
  by_highest (Some f) b (clear k) = said_to H (Some f) b (clear k)

  abbrev pub takes_highest : Keeper H
  takes_highest = answering by_highest

  -- one that asks whether there is room for the first firm, whoever files
  abbrev by_first : Option Firm → Board H → Act H.Message → Said H
  by_first None b a = no_firm
  by_first (Some f) b (file m) =
      cond (has_room (held_in (b First)) (beyond (held_in (b (other f))))) (filed_as H (H.filing m) (lowest (b f))) no_room
  by_first (Some f) b (update k m) = said_to H (Some f) b (update k m)
  by_first (Some f) b (clear k) = said_to H (Some f) b (clear k)

  abbrev pub asks_first : Keeper H
  asks_first = answering by_first

  -- one that counts the shared room by who filed first: a strip that was filed when the firm's own 6 were taken keeps its shared room until that very
  -- strip is cleared
  pub record Marked : Type 0 where
    pub board : Board H
    pub shared : Firm → List Bool

  abbrev marks : List Bool → ℕ
  marks [] = zero
  marks (true ∷ bs) = suc (marks bs)
  marks (false ∷ bs) = marks bs

  -- whether one of the firm's own 6 is free
  abbrev own_free : Marked → Firm → Bool
  own_free k f = ltb (held_in (k.board f) - marks (k.shared f)) 6

  abbrev by_marks : Option Firm → Marked → Act H.Message → Said H
  by_marks None k a = no_firm
  by_marks (Some f) k (file m) =
      cond (own_free k f || ltb (marks (k.shared f) + marks (k.shared (other f))) 4) (reply H (k.board f) 0 (file m)) no_room
  by_marks (Some f) k (update j m) = said_to H (Some f) k.board (update j m)
  by_marks (Some f) k (clear j) = said_to H (Some f) k.board (clear j)

  abbrev marked_by : Bool → Said H → List Bool → List Bool
  marked_by own (filed j s) bs = set bs j (not own)
  marked_by own (cleared j) bs = set bs j false
  marked_by own (updated j s) bs = bs
  marked_by own (refused w) bs = bs
  marked_by own no_firm bs = bs
  marked_by own no_slot bs = bs
  marked_by own no_room bs = bs
  marked_by own not_over bs = bs

  abbrev put_marks : Option Firm → Marked → Said H → Firm → List Bool
  put_marks None k x g = k.shared g
  put_marks (Some f) k x g = cond (same f g) (marked_by (own_free k f) x (k.shared f)) (k.shared g)

  abbrev pub first_comers : Keeper H
  first_comers =
      record {
        Kept = Marked;
        start = record { board = empty H; shared = λ f. replicate 10 false };
        answer = λ k c. by_marks (firm_of c.by) k c.does;
        next = λ k c.
            record {
              board = put H (firm_of c.by) k.board (by_marks (firm_of c.by) k c.does);
              shared = put_marks (firm_of c.by) k (by_marks (firm_of c.by) k c.does);
            };
        shows = λ k. k.board;
      }
