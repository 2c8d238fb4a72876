-- Lines, as the program `handlers` reads them from standard input and from its journal, however their bytes are cut into reads. Assumes nothing.
use Rattle.std.specs.Prelude.{ℕ, ◌≤◌, ◌≡◌, refl, Bool, true, false, not, cond, List, [], ◌∷◌, ◌++◌, eqb, ltb, length, take, drop}
use Rattle.alphabet.specs.Text.{bytes}
use Rattle.journal.specs.declared.Journal.{Journal}
use Rattle.journal.specs.declared.Journal.TheVariants.{Nowhere, At}
use Rattle.journal.specs.declared.Waiting.{Waiting}
use Rattle.journal.specs.declared.Waiting.TheVariants.{Holds, TooLong}
use Rattle.journal.specs.declared.Stage.{Stage}
use Rattle.journal.specs.declared.Stage.TheVariants.{Ended, Open, Stopped, Failed}
use Rattle.journal.specs.declared.Reader.{Reader}
use Rattle.journal.specs.declared.Taken.{Taken}

-- A LINE as far as it has come: its bytes; or that it is too long, over 4,096 bytes

pub record Waits : Type 0 where
  pub pending : List ℕ
  pub over : Bool

abbrev pub fresh : Waits
fresh = record { pending = []; over = false }

abbrev pub pushed : Waits → ℕ → Waits
pushed w x =
    cond w.over w
    (cond (ltb (length w.pending) 4096) (record { pending = w.pending ++ (x ∷ []); over = false }) (record { pending = []; over = true }))

-- THE NEXT LINE of some bytes, behind what has come of it: what it then is, what is left behind it, and whether it has ended. LF, 10, ends a line

pub record Line : Type 0 where
  pub waits : Waits
  pub left : List ℕ
  pub ended : Bool

abbrev pub line_from : Waits → List ℕ → Line
line_from w [] = record { waits = w; left = []; ended = false }
line_from w (x ∷ s) = cond (eqb x 10) (record { waits = w; left = s; ended = true }) (line_from (pushed w x) s)

-- ALL LINES that end in some bytes, and what has come of one more behind them

abbrev pub lines_from : Waits → List ℕ → List Waits
lines_from w [] = []
lines_from w (x ∷ s) = cond (eqb x 10) (w ∷ lines_from fresh s) (lines_from (pushed w x) s)

abbrev pub waits_then : Waits → List ℕ → Waits
waits_then w [] = w
waits_then w (x ∷ s) = waits_then (cond (eqb x 10) fresh (pushed w x)) s

-- AS THE PROGRAM HAS THEM: a line in the first bytes of a buffer, and what was read and is left in a part of another

-- how many bytes of a line are there; none of one that is too long
abbrev pub count : Waiting → ℕ
count (Holds n) = n
count TooLong = 0

abbrev pub is_over : Waiting → Bool
is_over (Holds n) = false
is_over TooLong = true

abbrev pub waits_in : Waiting → List ℕ → Waits
waits_in w line = record { pending = take (count w) line; over = is_over w }

abbrev pub has_ended : Stage → Bool
has_ended Ended = true
has_ended Open = false
has_ended Stopped = false
has_ended Failed = false

abbrev pub is_open : Stage → Bool
is_open Ended = false
is_open Open = true
is_open Stopped = false
is_open Failed = false

abbrev pub left_in : Reader → List ℕ → List ℕ
left_in r chunk = drop r.at (take r.got chunk)

abbrev pub line_in : Taken → List ℕ → List ℕ → Line
line_in t chunk line = record { waits = waits_in t.waiting line; left = left_in t.reader chunk; ended = has_ended t.stage }

-- the buffers, as the types give them, and what is said to lie in them
pub record Lies (r : Reader) (w : Waiting) (chunk line : List ℕ) : Type 0 where
  pub in_order_lem : r.at ≤ r.got
  pub in_chunk : r.got ≤ 4096
  pub in_line : count w ≤ 4096
  pub chunk_long : length chunk ≡ 4096
  pub line_long : length line ≡ 4096

-- WHAT THE CODE MUST DO

-- within what was read
pub record Scans (r : Reader) (w : Waiting) (chunk line : List ℕ) (t : Taken) (line' : List ℕ) : Type 0 where
  pub line_is : line_in t chunk line' ≡ line_from (waits_in w line) (left_in r chunk)
  pub open_is : is_open t.stage ≡ not (has_ended t.stage)
  pub lies : Lies t.reader t.waiting chunk line'

-- by further reads. What a read gives no contract says; so there are bytes, those of all further reads one behind the other, and none is lost
pub record ReadsOn (w : Waits) (left : List ℕ) (t : Taken) (chunk line : List ℕ) : Type 0 where
  pub more : List ℕ
  pub line_is : line_in t chunk line ≡ line_from w (left ++ more)
  pub lies : Lies t.reader t.waiting chunk line

-- without a journal nothing is lost
abbrev pub Answers : Journal → Bool → Type 0
Answers Nowhere kept = kept ≡ true
Answers (At file) kept = Unit

-- EXAMPLES, computed: two lines, and a third that has not ended

two_lines : lines_from fresh (bytes "1 LIST" ++ 10 ∷ 10 ∷ bytes "2 L") ≡ record { pending = bytes "1 LIST"; over = false } ∷ fresh ∷ []
two_lines = refl

third : waits_then fresh (bytes "1 LIST" ++ 10 ∷ 10 ∷ bytes "2 L") ≡ record { pending = bytes "2 L"; over = false }
third = refl

first_line : line_from fresh (bytes "1 LIST" ++ 10 ∷ 10 ∷ bytes "2 L")
    ≡ record { waits = record { pending = bytes "1 LIST"; over = false }; left = 10 ∷ bytes "2 L"; ended = true }
first_line = refl
