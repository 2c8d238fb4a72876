-- The line of a piece (document 01, "The listing program"): OK, type, spelling; or NO, number, field, place; one space between, LF behind.
-- Assumes nothing.
use Rattle.std.specs.Prelude.{ℕ, zero, suc, ◌+◌, ◌/◌, ◌%◌, ◌≤◌, ◌≡◌, refl, cond, List, [], ◌∷◌, ◌++◌, ltb, length}
use Rattle.alphabet.specs.Text.{bytes}
use Rattle.text.specs.Words.{Word}
use Rattle.text.specs.Lent.{front}
use Rattle.outer.specs.Outer.{parens_from, parens, most, outer}
use Rattle.kinds.specs.declared.MessageType.{MessageType}
use Rattle.kinds.specs.declared.MessageType.TheVariants.{Cnl}
use Rattle.kinds.specs.Kinds.{name_of}
use Rattle.message.specs.Answer.{Answer}
use Rattle.message.specs.Reading.{spelling_of, answer_of}
use Rattle.lines.specs.declared.Told.{Told}
use Rattle.std.specs.Prelude.{Ok, Err}
use Rattle.outer.specs.Refusal.{refusal}

-- A NUMBER IN DECIMAL, with no zero in front

-- its last k digits at most
abbrev pub last_digits : ℕ → ℕ → List ℕ
last_digits zero n = []
last_digits (suc k) n = cond (ltb n 10) [] (last_digits k (n / 10)) ++ ((48 + n % 10) ∷ [])

-- a `usize` has twenty at most
unfoldable pub decimal : ℕ → List ℕ
decimal n = last_digits 20 n

-- THE LINE

-- what stands before the spelling
unfoldable pub opening : MessageType → List ℕ
opening t = bytes "OK " ++ (name_of t ++ bytes " ")

unfoldable pub accepted_line : MessageType → List ℕ → List ℕ
accepted_line t spelling = opening t ++ (spelling ++ bytes "\n")

-- a number and the byte behind it
abbrev pub numbered : ℕ → ℕ → List ℕ
numbered n b = decimal n ++ (b ∷ [])

unfoldable pub refused_line : ℕ → ℕ → ℕ → List ℕ
refused_line number field place = bytes "NO " ++ (numbered number 32 ++ (numbered field 32 ++ numbered place 10))

abbrev pub line_as : Answer → List ℕ → List ℕ
line_as (Ok (t, n)) m = accepted_line t (spelling_of t m)
line_as (Err r) m = refused_line r.number r.field r.place

-- the line of a piece, of which reading is lent as many bytes as a message may have
unfoldable pub line_of : List ℕ → List ℕ
line_of m = line_as (answer_of m most) m

-- what is said of each of a list of pieces, one behind the other
abbrev pub each : (Word → List ℕ) → List Word → List ℕ
each f [] = []
each f (m ∷ ms) = f m ++ each f ms

-- WHERE IT IS WRITTEN: where the output has not so many bytes more than the piece, nothing is written, and the answer is 11

abbrev pub line_more : ℕ
line_more = 12

abbrev pub answer_in : List ℕ → ℕ → Answer
answer_in m room = cond (ltb room (length m + line_more)) (Err (refusal 11 0 0)) (answer_of m most)

abbrev pub line_in : List ℕ → ℕ → List ℕ
line_in m room = cond (ltb room (length m + line_more)) [] (line_of m)

abbrev pub no_room : Told
no_room = record { answer = Err (refusal 11 0 0); length = 0 }

-- what writing a line must do
pub record Tells (m out : List ℕ) (r : Told) (after : List ℕ) : Type 0 where
  pub answer_is : r.answer ≡ answer_in m (length out)
  pub length_is : r.length ≡ length (line_in m (length out))
  pub written : after ≡ front (line_in m (length out)) out
  pub short : r.length ≤ length m + line_more

-- EXAMPLES, computed

in_decimal : (decimal 0 ≡ bytes "0") × (decimal 9 ≡ bytes "9") × (decimal 10 ≡ bytes "10") × (decimal 1800 ≡ bytes "1800")
    × (decimal 65536 ≡ bytes "65536") × (decimal 18446744073709551615 ≡ bytes "18446744073709551615")
unfolding decimal
in_decimal = (refl, refl, refl, refl, refl, refl)

-- as document 01 has them, with the place of the 4 of 2460
as_listed : (accepted_line Cnl (bytes "(CNL-ABC12-EHAM0930-EDDF-0)") ≡ bytes "OK CNL (CNL-ABC12-EHAM0930-EDDF-0)\n")
    × (refused_line 7 13 16 ≡ bytes "NO 7 13 16\n") × (refused_line 5 3 0 ≡ bytes "NO 5 3 0\n") × (refused_line 1 0 1800 ≡ bytes "NO 1 0 1800\n")
unfolding accepted_line opening refused_line decimal
as_listed = (refl, refl, refl, refl)

no_room_lem : (line_in (bytes ")") 12 ≡ []) × (answer_in (bytes ")") 12 ≡ Err (refusal 11 0 0))
no_room_lem = (refl, refl)

some_room : (line_in (bytes ")") 13 ≡ bytes "NO 2 0 0\n") × (answer_in (bytes ")") 13 ≡ Err (refusal 2 0 0))
unfolding line_of answer_of outer parens refused_line decimal
some_room = (refl, refl)

in_turn : each line_of (bytes ")" ∷ bytes "(" ∷ []) ≡ bytes "NO 2 0 0\nNO 2 0 1\n"
unfolding line_of answer_of outer parens parens_from refused_line decimal
in_turn = refl
