-- How the listing cuts its input (document 01, "The listing program"), and the desk. Assumes nothing.
use Rattle.std.specs.Prelude.{ℕ, suc, ◌+◌, min, ◌≡◌, refl, cond, List, [], ◌∷◌, eqb, length, drop}
use Rattle.alphabet.specs.Text.{bytes}
use Rattle.alphabet.specs.Alphabet.{white}
use Rattle.text.specs.Words.{Word, onto, up_to}
use Rattle.pieces.specs.declared.Pieces.{Pieces}

-- how many bytes of white space stand at the front
abbrev pub white_ahead : List ℕ → ℕ
white_ahead [] = 0
white_ahead (b ∷ s) = cond (white b) (suc (white_ahead s)) 0

-- where the piece that begins at `from` ends: behind the next `)`, or at the end of the input, and so too from beyond it
abbrev pub piece_end : List ℕ → ℕ → ℕ
piece_end s from = min (length s) (from + suc (up_to 41 (drop from s)))

-- THE PIECES of an input: it is cut behind each `)`, the white space in front of a part is left off, and a part that is then empty is no piece

abbrev pub parts : List ℕ → List Word
parts [] = [] ∷ []
parts (b ∷ s) = cond (eqb b 41) ((b ∷ []) ∷ parts s) (onto b (parts s))

abbrev pub trimmed : Word → Word
trimmed w = drop (white_ahead w) w

abbrev pub unless_empty : Word → List Word → List Word
unless_empty [] ws = ws
unless_empty (b ∷ w) ws = (b ∷ w) ∷ ws

abbrev pub kept : List Word → List Word
kept [] = []
kept (w ∷ ws) = unless_empty (trimmed w) (kept ws)

unfoldable pub pieces_of : List ℕ → List Word
pieces_of s = kept (parts s)

-- those that are still to come
abbrev pub pieces_left : Pieces → List Word
pieces_left p = pieces_of p.left.now

-- EXAMPLES, computed

skipped : (white_ahead (bytes " \r\n(A)") ≡ 3) × (white_ahead (bytes "(A) ") ≡ 0) × (white_ahead (bytes " \n") ≡ 2)
unfolding white
skipped = (refl, refl, refl)

-- a `(` inside is no boundary; a last piece without `)` keeps its white space
cut : (piece_end (bytes "(A)(B)") 0 ≡ 3) × (piece_end (bytes "(A)(B)") 3 ≡ 6) × (piece_end (bytes "X ((A) ") 0 ≡ 6) × (piece_end (bytes "(A) (B \n") 4 ≡ 8)
cut = (refl, refl, refl, refl)

-- beyond the end there is no white space, and a piece ends at the end
beyond : (white_ahead (drop 4 (bytes "(A)")) ≡ 0) × (piece_end (bytes "(A)") 4 ≡ 3)
beyond = (refl, refl)

in_all : (pieces_of (bytes " (A)\r\n(B)X ((C) ") ≡ bytes "(A)" ∷ bytes "(B)" ∷ bytes "X ((C)" ∷ [])
    × (pieces_of (bytes "(A) \nB ") ≡ bytes "(A)" ∷ bytes "B " ∷ []) × (pieces_of (bytes "))") ≡ bytes ")" ∷ bytes ")" ∷ [])
    × (pieces_of (bytes " \n") ≡ []) × (pieces_of [] ≡ [])
unfolding pieces_of white
in_all = (refl, refl, refl, refl, refl)
