-- What the calls' ways out come to: one law for each. Assumes nothing.
use Prim.Native.Nat.{ℕ}
use mathlib.Core.Path.{◌≡◌, refl, sym, ap, ap₂, ◌∙◌}
use mathlib.Core.Bool.{Bool, true, false, not, cond}
use mathlib.Core.List.{List}
use native.Mathlib.Omega.{arith}
use lib.Dec.{ltb}
use lib.ListN.{length}
use borrow.Author.Tests.{ne_eqb, ltb-false, not-true, not-false}
use Rattle.std.specs.Prelude.{Option, None, Some, Ok, Err}
use Rattle.std.specs.Str.{bytes_eq}
use Rattle.text.specs.Words.{same}
use Rattle.text.proofs.Iterated.{same_listed}
use Rattle.handed.specs.States.{byte_of}
use Rattle.rooms.specs.declared.Firm.{Firm}
use Rattle.rooms.specs.Rooms.{firm_of, Act, Call, said_to}
use Rattle.racks.specs.declared.Board.{Board}
use Rattle.racks.specs.Places.{Place, board_in}
use Rattle.board.specs.House.{house}
use Rattle.board.specs.Verdict.{Verdict, Looked}
use Rattle.board.specs.declared.Turn.{Turn}
use Rattle.board.specs.Turns.{told, placed_by, lent_by, Turned, looked_to, strip_to}
use Rattle.board_numbers.specs.Numbers.{board_numbers, board_of, is_board, handed_as}
use Rattle.board_numbers.specs.Calls.{verdict_number, verdict_numbers, not_board, verdict_of, Called}
use Rattle.board_numbers.specs.Calls.{look_number, look_numbers, not_board_look, look_of, start_of, Looks}

-- a number over 255 is handed on as 0, and neither names a firm
pub firm_byte : (n : ℕ) → firm_of (byte_of n) ≡ firm_of n
firm_byte n = go (ltb n 256) refl
  where
    go : (b : Bool) → ltb n 256 ≡ b → firm_of (cond b n 0) ≡ firm_of n
    go true e = refl
    go false e =
        let h = ltb-false n 256 e in
        rw (ne_eqb n 1 (λ q. omega (arith, h, q)), ne_eqb n 2 (λ q. omega (arith, h, q)))

module _ {A : Type 0} (b : Bool) (x y : A) where
  first : b ≡ true → x ≡ cond b x y
  first e = sym (ap (λ (t : Bool). cond t x y) e)

  second : b ≡ false → y ≡ cond b x y
  second e = sym (ap (λ (t : Bool). cond t x y) e)

-- WHAT IS HANDED IN

module _ (ns : List ℕ) where
  abbrev meant : Board
  meant = record { places = board_of ns }

  pub board_taken : (b : Board) → handed_as ns ≡ Ok b → (is_board ns ≡ true) × (b.places ≡ board_of ns)
  board_taken b e = go (is_board ns) refl e
    where
      go : (t : Bool) → is_board ns ≡ t → cond t (Ok meant) (Err meant) ≡ Ok b → (is_board ns ≡ true) × (b.places ≡ board_of ns)
      go true h q = let z : meant ≡ b = cc in (h, sym (ap (λ (x : Board). x.places) z))
      go false h q = absurd (let z : ◌≡◌ {A = ℕ} 0 1 = cc in omega arith)

  pub no_board : (b : Board) → handed_as ns ≡ Err b → is_board ns ≡ false
  no_board b e = go (is_board ns) refl e
    where
      go : (t : Bool) → is_board ns ≡ t → cond t (Ok meant) (Err meant) ≡ Err b → is_board ns ≡ false
      go true h q = absurd (let z : ◌≡◌ {A = ℕ} 0 1 = cc in omega arith)
      go false h q = h

  -- the board that the numbers mean, its numbers again, and whether these differ
  module _ (b : Board) (again : List ℕ) (t : Bool) (eb : b.places ≡ board_of ns) (ea : again ≡ board_numbers b.places)
      (et : t ≡ not (bytes_eq again ns)) where
    again_is : is_board ns ≡ bytes_eq again ns
    unfolding is_board
    again_is = ap (λ (l : List ℕ). same l ns) (ap board_numbers (sym eb) ∙ sym ea) ∙ sym (same_listed again ns)

    pub none_handed : t ≡ true → Err b ≡ handed_as ns
    none_handed e = rw (again_is ∙ not-true _ (sym et ∙ e)) (ap (λ (qs : List Place). Err (record { places = qs })) eb)

    pub one_handed : t ≡ false → Ok b ≡ handed_as ns
    one_handed e = rw (again_is ∙ not-false _ (sym et ∙ e)) (ap (λ (qs : List Place). Ok (record { places = qs })) eb)

-- A CALL by the number `firm`, which is handed on as `by`

module _ (a : Act (List ℕ)) (firm by : ℕ) (ns bytes : List ℕ) (e : by ≡ byte_of firm) where
  abbrev asked : ℕ → Call (List ℕ)
  asked n = record { by = n; does = a }

  same_firm : firm_of by ≡ firm_of firm
  same_firm = ap firm_of e ∙ firm_byte firm

  module _ (ps : List Place) (t : Turn) (r : ℕ) (answer after end : List ℕ) (q : ps ≡ board_of ns) (h : is_board ns ≡ true)
      (k : Turned (asked by) ps bytes t end) where
    verdict_so : t.verdict ≡ verdict_of (asked firm) ns bytes
    verdict_so =
        k.verdict_is
        ∙ ap₂ (λ (w : Option Firm) (l : List Place). told (said_to house w (board_in l bytes) a)) same_firm q
        ∙ first (is_board ns) _ (not_board (firm_of firm)) h

    pub call_taken : after ≡ board_numbers t.board.places → r ≡ verdict_number t.verdict → answer ≡ verdict_numbers t.verdict
        → Called (asked firm) ns bytes r answer after end
    call_taken w x y =
        record {
          number_is = x ∙ ap verdict_number verdict_so;
          answer_is = y ∙ ap verdict_numbers verdict_so;
          numbers_are =
              w
              ∙ ap board_numbers
              (k.places_are ∙ ap₂ (λ (w : Option Firm) (l : List Place). placed_by w (said_to house w (board_in l bytes) a) l) same_firm q)
              ∙ first (is_board ns) _ ns h;
          bytes_are =
              k.bytes_are
              ∙ ap₂ (λ (w : Option Firm) (l : List Place). lent_by w (said_to house w (board_in l bytes) a) bytes) same_firm q
              ∙ first (is_board ns) _ bytes h;
        }

  pub call_not : (v : Verdict) (r : ℕ) (answer : List ℕ) → is_board ns ≡ false → v ≡ not_board (firm_of by) → r ≡ verdict_number v
      → answer ≡ verdict_numbers v → Called (asked firm) ns bytes r answer ns bytes
  call_not v r answer h q x y =
      let z : v ≡ verdict_of (asked firm) ns bytes = q ∙ ap not_board same_firm ∙ second (is_board ns) _ (not_board (firm_of firm)) h in
      record {
        number_is = x ∙ ap verdict_number z;
        answer_is = y ∙ ap verdict_numbers z;
        numbers_are = second (is_board ns) _ ns h;
        bytes_are = second (is_board ns) _ bytes h;
      }

-- A LOOK

module _ (firm by slot : ℕ) (ns bytes : List ℕ) (e : by ≡ byte_of firm) where
  firm_same : firm_of by ≡ firm_of firm
  firm_same = ap firm_of e ∙ firm_byte firm

  pub look_taken : (ps : List Place) (l : Looked) (from : ℕ) (strip : List ℕ) (r : ℕ) (answer : List ℕ) → ps ≡ board_of ns → is_board ns ≡ true
      → l ≡ looked_to (firm_of by) slot ps → from ≡ start_of (firm_of by) slot → strip ≡ strip_to (firm_of by) slot ps bytes
      → r ≡ look_number l → answer ≡ look_numbers l from (length strip) → Looks firm slot ns bytes r answer
  look_taken ps l from strip r answer q h el ef es x y =
      let z : l ≡ look_of firm slot ns
      = el ∙ ap₂ (λ (w : Option Firm) (qs : List Place). looked_to w slot qs) firm_same q ∙ first (is_board ns) _ (not_board_look (firm_of firm)) h in
      let f : from ≡ start_of (firm_of firm) slot = ef ∙ ap (λ (w : Option Firm). start_of w slot) firm_same in
      let s : length strip ≡ length (strip_to (firm_of firm) slot (board_of ns) bytes)
      = ap length (es ∙ ap₂ (λ (w : Option Firm) (qs : List Place). strip_to w slot qs bytes) firm_same q) in
      record {
        number_is = x ∙ ap look_number z;
        answer_is = y ∙ ap (λ (m : Looked). look_numbers m from (length strip)) z ∙ ap₂ (λ (i j : ℕ). look_numbers (look_of firm slot ns) i j) f s;
      }

  -- where there is no board, neither place nor length is shown
  refused_look : (w : Option Firm) (i j k m : ℕ) → look_numbers (not_board_look w) i j ≡ look_numbers (not_board_look w) k m
  refused_look None i j k m = refl
  refused_look (Some f) i j k m = refl

  pub look_not : (l : Looked) (r : ℕ) (answer : List ℕ) → is_board ns ≡ false → l ≡ not_board_look (firm_of by) → r ≡ look_number l
      → answer ≡ look_numbers l 0 0 → Looks firm slot ns bytes r answer
  look_not l r answer h q x y =
      let p : l ≡ not_board_look (firm_of firm) = q ∙ ap not_board_look firm_same in
      let z : not_board_look (firm_of firm) ≡ look_of firm slot ns = second (is_board ns) _ (not_board_look (firm_of firm)) h in
      let i = start_of (firm_of firm) slot in
      let j = length (strip_to (firm_of firm) slot (board_of ns) bytes) in
      record {
        number_is = x ∙ ap look_number (p ∙ z);
        answer_is =
            y
            ∙ ap (λ (m : Looked). look_numbers m 0 0) p
            ∙ refused_look (firm_of firm) 0 0 i j
            ∙ ap (λ (m : Looked). look_numbers m i j) z;
      }
