-- The walk over lines: `by_lines` is the theorem to read; the other laws are what the code's ways out come to. Assumes nothing.
use Prim.Native.Nat.{ℕ}
use mathlib.Core.Path.{◌≡◌, refl, sym, ap, subst, fun_ext, ◌∙◌}
use mathlib.Core.Bool.{Bool, true, false, ◌&&◌, cond, false≢true, and-true, and_assoc}
use Rattle.std.specs.Prelude.{Option, Some}
use mathlib.Core.List.{List, [], ◌∷◌, ◌++◌}
use native.Mathlib.Omega.{arith}
use lib.ListN.{length, take, drop, replicate}
use lib.Seq.{length-take-le}
use Rattle.rooms.specs.Rooms.{Board, empty, Call as OnBoard}
use Rattle.racks.specs.declared.Board.{Board as Rack}
use Rattle.racks.specs.Places.{Place, vacant, board_in, Sized}
use Rattle.board.specs.House.{house}
use Rattle.board.specs.declared.Turn.{Turn}
use Rattle.board.specs.Turns.{Turned, filing, updating, clearing}
use Rattle.board.proofs.Runs.{one_turn, nothing_yet}
use Rattle.calls.specs.declared.Call.{Call}
use Rattle.calls.specs.declared.Call.TheVariants.{File, Update, Clear}
use Rattle.calls.specs.declared.Ask.{Ask}
use Rattle.calls.specs.declared.Ask.TheVariants.{Calls}
use Rattle.calls.specs.Lines.{asked}
use Rattle.journal.specs.declared.Journal.{Journal}
use Rattle.journal.specs.declared.Journal.TheVariants.{Nowhere, At}
use Rattle.journal.specs.declared.Waiting.{Waiting}
use Rattle.journal.specs.declared.Taken.{Taken}
use Rattle.journal.specs.Lines.{Answers, Waits, fresh, Line, line_from, count, is_over, waits_in, has_ended, ReadsOn}
use Rattle.journal.proofs.Lines.{Cut, cut_none, cut_next, cut_lines, cut_waits}
use Rattle.handlers.specs.declared.Played.{Played}
use Rattle.handlers.specs.Walk.{call_of, accepted_as, after_ask, after_line, accepts_ask, accepts_line, accepts, after_waits, after_lines, all_accepted}
use Rattle.handlers.specs.Walk.{keeps, Kept, Ended, Served, ServedAll, PlayedAll, Makes, Takes, Ends, TakesAgain, EndsAgain, PlaysAgain, ByLines}
use Rattle.handlers.specs.Walk.Kept.{done, not_kept}
use Rattle.handlers.specs.Walk.Ended.{taken, too_long}
use Rattle.handlers.specs.Walk.Served.{none_yet, one_more_lem}

-- THE CALL ON THE BOARD

module _ (ps : List Place) (lent : List ℕ) (t : Turn) (left : List ℕ) (call : Call) (line : List ℕ) where
  as_call : {c : OnBoard (List ℕ)} → c ≡ call_of call line → Turned c ps lent t left → Turned (call_of call line) ps lent t left
  as_call e k = subst (λ (x : OnBoard (List ℕ)). Turned x ps lent t left) e k

  pub filed : (firm from : ℕ) (m : List ℕ) → call ≡ File firm from → m ≡ drop from line → Turned (filing firm m) ps lent t left
      → Turned (call_of call line) ps lent t left
  filed firm from m e q k = as_call (ap (filing firm) q ∙ sym (ap (λ (x : Call). call_of x line) e)) k

  pub updated : (firm slot from : ℕ) (m : List ℕ) → call ≡ Update firm slot from → m ≡ drop from line → Turned (updating firm slot m) ps lent t left
      → Turned (call_of call line) ps lent t left
  updated firm slot from m e q k = as_call (ap (updating firm slot) q ∙ sym (ap (λ (x : Call). call_of x line) e)) k

  pub cleared : (firm slot : ℕ) → call ≡ Clear firm slot → Turned (clearing firm slot) ps lent t left → Turned (call_of call line) ps lent t left
  cleared firm slot e k = as_call (sym (ap (λ (x : Call). call_of x line) e)) k

-- A CALL, made

pub lost_journal : (j : Journal) (r : Bool) → Answers j r → r ≡ false → keeps j ≡ true
lost_journal Nowhere r a e = absurd (false≢true (sym e ∙ a))
lost_journal (At fd) r a e = refl

module _ (j : Journal) (line : List ℕ) (ps : List Place) (lent : List ℕ) (z : Sized ps lent) where
  pub makes : (call : Call) (t : Turn) (left : List ℕ) → Turned (call_of call line) ps lent t left → Makes j call line ps lent t.board.places left
  makes call t left k =
      let x = one_turn (call_of call line) ps lent t left z k in
      record { board_is = done (fun_ext (λ f. x.board_is f)); sized = x.sized }

  pub makes_not : (call : Call) → keeps j ≡ true → Makes j call line ps lent ps lent
  makes_not call e = record { board_is = not_kept e refl; sized = z }

  pub takes_call : (a : Option Ask) (call : Call) (qs : List Place) (left : List ℕ) → a ≡ asked line → a ≡ Some (Calls call) → Makes j call line ps lent qs left
      → Takes j line ps lent qs left
  takes_call a call qs left e q m =
      record {
        board_is =
            subst (λ (x : Option Ask). Kept (keeps j) (board_in ps lent) (after_ask x line (board_in ps lent)) (board_in qs left)) (sym q ∙ e) m.board_is;
        sized = m.sized;
      }

  pub takes_other : (a b : Option Ask) → a ≡ asked line → a ≡ b → after_ask b line (board_in ps lent) ≡ board_in ps lent → Takes j line ps lent ps lent
  takes_other a b e q s =
      record { board_is = done (sym (ap (λ (x : Option Ask). after_ask x line (board_in ps lent)) (sym e ∙ q) ∙ s)); sized = z }

module _ (j : Journal) (w : Waiting) (line : List ℕ) (ps : List Place) (lent : List ℕ) where
  pub ends_long : Sized ps lent → is_over w ≡ true → Ends j (waits_in w line) ps lent ps lent
  ends_long z e = record { board_is = too_long e refl; sized = z }

  pub ends_taken : (qs : List Place) (left : List ℕ) → is_over w ≡ false → Takes j (take (count w) line) ps lent qs left
      → Ends j (waits_in w line) ps lent qs left
  ends_taken qs left e k = record { board_is = taken e k.board_is; sized = k.sized }

-- A LINE OF THE JOURNAL

pub goes_on_lem : (line : List ℕ) (ps : List Place) (lent : List ℕ) (a : Option Ask) (call : Call) (t : Turn) (left : List ℕ) (g : Bool) → a ≡ asked line
    → a ≡ Some (Calls call) → Turned (call_of call line) ps lent t left → g ≡ accepted_as t.verdict → g ≡ accepts_line (board_in ps lent) line
goes_on_lem line ps lent a call t left g e q k h =
    h ∙ ap accepted_as k.verdict_is ∙ ap (λ (x : Option Ask). accepts_ask x line (board_in ps lent)) (sym q ∙ e)

pub ends_again : (w : Waiting) (line : List ℕ) (ps : List Place) (lent : List ℕ) (r : Played) (left : List ℕ) → is_over w ≡ false
    → TakesAgain (take (count w) line) ps lent r left → EndsAgain (waits_in w line) ps lent r left
ends_again w line ps lent r left o k =
    record {
      ends = ends_taken Nowhere w line ps lent r.board.places left o k.takes;
      going_is = k.going_is ∙ sym (ap (λ (t : Bool). cond t false (accepts_line (board_in ps lent) (take (count w) line))) o);
    }

-- one that cannot be played again

abbrev stopped : Rack → Played
stopped b = record { board = b; torn = 0; going = false }

module _ (b : Rack) (r : Played) (e : r ≡ stopped b) where
  places_stopped : r.board.places ≡ b.places
  places_stopped = ap (λ (x : Played). x.board.places) e

  going_stopped : r.going ≡ false
  going_stopped = ap (λ (x : Played). x.going) e

  pub takes_stopped : (line lent : List ℕ) → Sized b.places lent → (a k : Option Ask) → a ≡ asked line → a ≡ k
      → after_ask k line (board_in b.places lent) ≡ board_in b.places lent → accepts_ask k line (board_in b.places lent) ≡ false
      → TakesAgain line b.places lent r lent
  takes_stopped line lent z a k i q s n =
      record {
        takes =
            subst (λ (qs : List Place). Takes Nowhere line b.places lent qs lent) (sym places_stopped)
            (takes_other Nowhere line b.places lent z a k i q s);
        going_is = going_stopped ∙ sym (ap (λ (x : Option Ask). accepts_ask x line (board_in b.places lent)) (sym i ∙ q) ∙ n);
      }

  pub ends_stopped : (w : Waiting) (line lent : List ℕ) → Sized b.places lent → is_over w ≡ true → EndsAgain (waits_in w line) b.places lent r lent
  ends_stopped w line lent z o =
      record {
        ends =
            subst (λ (qs : List Place). Ends Nowhere (waits_in w line) b.places lent qs lent) (sym places_stopped)
            (ends_long Nowhere w line b.places lent z o);
        going_is = going_stopped ∙ sym (ap (λ (t : Bool). cond t false (accepts_line (board_in b.places lent) (take (count w) line))) o);
      }

  pub plays_stopped : (left : List ℕ) → Sized b.places left → PlaysAgain r left
  plays_stopped left z =
      record {
        played = λ g. absurd (false≢true (sym going_stopped ∙ g));
        sized = subst (λ (ps : List Place). Sized ps left) (sym places_stopped) z;
      }

-- LINES

after_snoc : (ws : List Waits) (b : Board house) (w : Waits) → after_lines b (ws ++ (w ∷ [])) ≡ after_waits (after_lines b ws) w
after_snoc [] b w = refl
after_snoc (v ∷ ws) b w = after_snoc ws (after_waits b v) w

accepted_snoc : (ws : List Waits) (b : Board house) (w : Waits) → all_accepted b (ws ++ (w ∷ [])) ≡ (all_accepted b ws && accepts (after_lines b ws) w)
accepted_snoc [] b w = and-true (accepts b w)
accepted_snoc (v ∷ ws) b w =
    ap (λ (t : Bool). accepts b v && t) (accepted_snoc ws (after_waits b v) w)
    ∙ sym (and_assoc (accepts b v) (all_accepted (after_waits b v) ws) (accepts (after_lines (after_waits b v) ws) w))

kept_is : (b c d : Board house) → Kept false b c d → d ≡ c
kept_is b c d (done e) = e
kept_is b c d (not_kept f e) = absurd (false≢true f)

ended_is : (b : Board house) (w : Waits) (c : Board house) → Ended false b w c → c ≡ after_waits b w
ended_is b w c (taken o k) = kept_is b (after_line b w.pending) c k ∙ sym (ap (λ (t : Bool). cond t b (after_line b w.pending)) o)
ended_is b w c (too_long o e) = e ∙ sym (ap (λ (t : Bool). cond t b (after_line b w.pending)) o)

-- THE THEOREM
served_is : (b : Board house) {ws : List Waits} {c : Board house} → Served false b ws c → c ≡ after_lines b ws
served_is b none_yet = refl
served_is b (one_more_lem {ws = ws} {c = c} {d = d} w f k) =
    ended_is c w d k ∙ ap (λ (x : Board house). after_waits x w) (served_is b f) ∙ sym (after_snoc ws b w)

pub by_lines : ByLines
by_lines b ws c f = served_is b f

-- ALL THAT IS READ

-- a line, as it was read
module _ (left : List ℕ) (t : Taken) (chunk line : List ℕ) (k : ReadsOn fresh left t chunk line) where
  abbrev there : List ℕ
  there = left ++ k.more

  ended_there : (line_from fresh there).ended ≡ has_ended t.stage
  ended_there = sym (ap (λ (l : Line). l.ended) k.line_is)

  waits_there : waits_in t.waiting line ≡ (line_from fresh there).waits
  waits_there = ap (λ (l : Line). l.waits) k.line_is

-- standard input, as far as it was taken
pub record Serving (j : Bool) (b c : Board house) : Type 0 where
  pub taken_bytes : List ℕ
  pub lines : List Waits
  pub cut : Cut taken_bytes lines
  pub served : Served j b lines c

pub serving_none : (j : Bool) (b : Board house) → Serving j b b
serving_none j b = record { taken_bytes = []; lines = []; cut = cut_none; served = none_yet }

module _ (j : Bool) (b c : Board house) (s : Serving j b c) (left : List ℕ) (t : Taken) (chunk line : List ℕ) (k : ReadsOn fresh left t chunk line) where
  pub serving_next : (d : Board house) → has_ended t.stage ≡ true → Ended j c (waits_in t.waiting line) d → Serving j b d
  serving_next d e n =
      record {
        taken_bytes = _;
        lines = _;
        cut = cut_next _ _ (there left t chunk line k) s.cut (ended_there left t chunk line k ∙ e);
        served = one_more_lem _ s.served (subst (λ (w : Waits). Ended j c w d) (waits_there left t chunk line k) n);
      }

  pub serving_all : has_ended t.stage ≡ false → ServedAll j b c
  serving_all e =
      record {
        bytes = s.taken_bytes ++ there left t chunk line k;
        served =
            subst (λ (ws : List Waits). Served j b ws c)
            (sym (cut_lines _ _ (there left t chunk line k) s.cut (ended_there left t chunk line k ∙ e))) s.served;
      }

-- where the lines are no longer counted, nothing is left out
pub serving_end : (j : Bool) (b c : Board house) → Serving j b c → ServedAll j b c
serving_end j b c s =
    record { bytes = s.taken_bytes ++ []; served = subst (λ (ws : List Waits). Served j b ws c) (sym (cut_lines _ _ [] s.cut refl)) s.served }

-- the journal, as far as it was played
pub record Playing (c : Board house) : Type 0 where
  pub taken_bytes : List ℕ
  pub lines : List Waits
  pub cut : Cut taken_bytes lines
  pub board_is : c ≡ after_lines (empty house) lines
  pub accepted : all_accepted (empty house) lines ≡ true

pub playing_none : (b : Rack) (lent : List ℕ) → b.places ≡ replicate 20 vacant → Playing (board_in b.places lent)
playing_none b lent e =
    record {
      taken_bytes = [];
      lines = [];
      cut = cut_none;
      board_is = ap (λ (ps : List Place). board_in ps lent) e ∙ fun_ext (λ f. nothing_yet lent f);
      accepted = refl;
    }

module _ (c : Board house) (s : Playing c) (left : List ℕ) (t : Taken) (chunk line : List ℕ) (k : ReadsOn fresh left t chunk line) where
  pub playing_next : (d : Board house) → has_ended t.stage ≡ true → Ended false c (waits_in t.waiting line) d → accepts c (waits_in t.waiting line) ≡ true
      → Playing d
  playing_next d e n a =
      let w : Waits = (line_from fresh (there left t chunk line k)).waits in
      let is-w : waits_in t.waiting line ≡ w = waits_there left t chunk line k in
      record {
        taken_bytes = _;
        lines = s.lines ++ (w ∷ []);
        cut = cut_next _ _ (there left t chunk line k) s.cut (ended_there left t chunk line k ∙ e);
        board_is =
            ended_is c (waits_in t.waiting line) d n
            ∙ ap (after_waits c) is-w
            ∙ ap (λ (x : Board house). after_waits x w) s.board_is
            ∙ sym (after_snoc s.lines (empty house) w);
        accepted =
            accepted_snoc s.lines (empty house) w
            ∙ ap (λ (b : Bool). b && accepts (after_lines (empty house) s.lines) w) s.accepted
            ∙ ap (λ (x : Board house). accepts x w) (sym s.board_is)
            ∙ ap (accepts c) (sym is-w)
            ∙ a;
      }

  pub playing_all : has_ended t.stage ≡ false → PlayedAll c (count t.waiting)
  playing_all e =
      let still : (line_from fresh (there left t chunk line k)).ended ≡ false = ended_there left t chunk line k ∙ e in
      let lines_are = cut_lines _ _ (there left t chunk line k) s.cut still in
      record {
        bytes = s.taken_bytes ++ there left t chunk line k;
        board_is = s.board_is ∙ sym (ap (after_lines (empty house)) lines_are);
        accepted = ap (all_accepted (empty house)) lines_are ∙ s.accepted;
        torn_is =
            sym (length-take-le (count t.waiting) line (omega (arith, k.lies.in_line, k.lies.line_long)))
            ∙ ap (λ (w : Waits). length w.pending) (waits_there left t chunk line k ∙ sym (cut_waits _ _ (there left t chunk line k) s.cut still));
      }
