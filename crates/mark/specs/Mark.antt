-- What is drawn below a refusal: the line of the message on which its place stands, and a mark below the byte of the place; and all that the
-- program prints. Assumes nothing.
use Rattle.std.specs.Prelude.{ℕ, zero, suc, ◌+◌, ◌-◌, min, ◌≡◌, refl, Bool, cond, ◌||◌, List, [], ◌∷◌, ◌++◌, eqb, ltb, length, take, drop, get_or, Ok, Err}
use Rattle.alphabet.specs.Text.{bytes}
use Rattle.alphabet.specs.Alphabet.{one_of}
use Rattle.outer.specs.Outer.{most}
use Rattle.pieces.specs.Pieces.{pieces_of}
use Rattle.message.specs.Answer.{Answer}
use Rattle.message.specs.Reading.{answer_of}
use Rattle.lines.specs.Lines.{line_of as listing_line, each}

-- THE LINE

-- CR and LF
unfoldable pub ends_line : ℕ → Bool
ends_line b = one_of b (bytes "\r\n")

-- where the line begins on which a place stands: behind the last CR or LF before the place
abbrev pub line_start : List ℕ → ℕ → ℕ
line_start s zero = 0
line_start s (suc i) = cond (ends_line (get_or s i 0)) (suc i) (line_start s i)

-- how many bytes stand before the next CR or LF
abbrev pub ahead : List ℕ → ℕ
ahead [] = 0
ahead (b ∷ s) = cond (ends_line b) 0 (suc (ahead s))

-- where the line ends: at the next CR or LF, which may stand at the place itself, or at the end
abbrev pub line_end : List ℕ → ℕ → ℕ
line_end s place = place + ahead (drop place s)

abbrev pub line_of : List ℕ → ℕ → List ℕ
line_of s place = take (line_end s place - line_start s place) (drop (line_start s place) s)

-- HOW IT IS SHOWN: each byte in one column

-- a tab as a space, any other byte below 32 or over 126 as `?`
unfoldable pub shown_as : ℕ → ℕ
shown_as b = cond (eqb b 9) 32 (cond (ltb b 32 || ltb 126 b) 63 b)

abbrev pub shown_all : List ℕ → List ℕ
shown_all [] = []
shown_all (b ∷ s) = shown_as b ∷ shown_all s

abbrev pub blanks : ℕ → List ℕ
blanks zero = []
blanks (suc n) = 32 ∷ blanks n

-- the mark behind so many blanks
unfoldable pub mark_line : ℕ → List ℕ
mark_line column = blanks column ++ bytes "^\n"

unfoldable pub shown_line : List ℕ → List ℕ
shown_line line = shown_all line ++ bytes "\n"

-- the two lines for a place in s, or just behind it
unfoldable pub drawn_at : List ℕ → ℕ → List ℕ
drawn_at s place = shown_line (line_of s place) ++ mark_line (place - line_start s place)

-- the two lines for any place: one beyond the end is marked at the end
abbrev pub drawn : List ℕ → ℕ → List ℕ
drawn s place = drawn_at s (min (length s) place)

-- WHAT IS PRINTED of a piece: the line that the listing has, and behind a refusal the two lines of its place

abbrev pub drawn_for : Answer → List ℕ → List ℕ
drawn_for (Ok (t, n)) m = []
drawn_for (Err r) m = drawn m r.place

unfoldable pub marked_of : List ℕ → List ℕ
marked_of m = listing_line m ++ drawn_for (answer_of m most) m

-- and of an input
abbrev pub marked : List ℕ → List ℕ
marked s = each marked_of (pieces_of s)

-- EXAMPLES, computed

-- `2460` of document 01's listing, at the 4
one_line : drawn (bytes "(DLA-ABC12-EHAM2460-EDDF-0)") 16 ≡ bytes "(DLA-ABC12-EHAM2460-EDDF-0)\n                ^\n"
unfolding drawn_at shown_line mark_line ends_line shown_as
one_line = refl

-- of several lines the one with the place
between : drawn (bytes "(CNL\r\n-ABC12-eham\r\n-0)") 13 ≡ bytes "-ABC12-eham\n       ^\n"
unfolding drawn_at shown_line mark_line ends_line shown_as
between = refl

-- at a CR or LF, and behind the last byte, the mark stands behind the line
behind : (drawn (bytes "(CN\r\n-0)") 3 ≡ bytes "(CN\n   ^\n") × (drawn (bytes "(CN\r\n-0)") 4 ≡ bytes "\n^\n") × (drawn (bytes "(CN") 3 ≡ bytes "(CN\n   ^\n")
    × (drawn (bytes "(CN") 9 ≡ bytes "(CN\n   ^\n") × (drawn [] 0 ≡ bytes "\n^\n")
unfolding drawn_at shown_line mark_line ends_line shown_as
behind = (refl, refl, refl, refl, refl)

-- each byte has its column
columns : (shown_as 9 ≡ 32) × (shown_as 0 ≡ 63) × (shown_as 31 ≡ 63) × (shown_as 32 ≡ 32) × (shown_as 126 ≡ 126) × (shown_as 127 ≡ 63) × (shown_as 255 ≡ 63)
unfolding shown_as
columns = (refl, refl, refl, refl, refl, refl, refl)
