-- A message of given contents, and the contents of a message as sent: what stands between its hyphens, white space reduced. Assumes nothing.
use Rattle.std.specs.Prelude.{ℕ, ◌≡◌, refl, List, [], ◌∷◌, ◌++◌, get_or, take, drop}
use Rattle.alphabet.specs.Text.{bytes}
use Rattle.alphabet.specs.Alphabet.{white}
use Rattle.text.specs.Words.{Word, split, join}
use Rattle.space.specs.Reduced.{opens, closes, stands_for_run, reduced_from, reduced}
use Rattle.space.specs.Fields.{inner}

-- `(`, the contents with a hyphen between them, and `)`
abbrev pub message_of : List Word → List ℕ
message_of cs = 40 ∷ (join 45 cs ++ (41 ∷ []))

abbrev pub contents : List ℕ → List Word
contents m = split 45 (inner (reduced m))

-- EXAMPLES, computed

abbrev three : List Word
three = bytes "CNL" ∷ (bytes "ABC12" ∷ (bytes "EHAM 0930" ∷ []))

spelled : message_of three ≡ bytes "(CNL-ABC12-EHAM 0930)"
spelled = refl

-- as sent, with runs before the hyphens and `)` and a long one between two words
as_sent_lem : (reduced (bytes "(CNL -ABC12\r\n-EHAM \r\n 0930 )") ≡ message_of three) × (contents (bytes "(CNL -ABC12\r\n-EHAM \r\n 0930 )") ≡ three)
unfolding reduced reduced_from stands_for_run opens closes white
as_sent_lem = (refl, refl)

-- the first three letters stand behind `(` as they were sent
letters_first : take 3 (drop 1 (bytes "(CNL -ABC12)")) ≡ take 3 (get_or (contents (bytes "(CNL -ABC12)")) 0 [])
unfolding reduced reduced_from stands_for_run opens closes white
letters_first = refl

-- a run behind `(` is no part of a content that is tidy: it stays, as one space
run_first : contents (bytes "(\r\nCNL-ABC12)") ≡ bytes " CNL" ∷ (bytes "ABC12" ∷ [])
unfolding reduced reduced_from stands_for_run opens closes white
run_first = refl

-- a run before `(` or behind `)` stays too, so no such message is reduced to a message of contents
run_around : (reduced (bytes " (CNL)") ≡ bytes " (CNL)") × (reduced (bytes "(CNL)\r\n") ≡ bytes "(CNL) ")
unfolding reduced reduced_from stands_for_run opens closes white
run_around = (refl, refl)
