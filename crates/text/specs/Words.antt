-- Cutting and joining: a text is cut at a byte and joined again, a word is looked for in a list of words. Assumes nothing.
use Rattle.std.specs.Prelude.{ℕ, zero, suc, ◌≡◌, ◌<◌, refl, Bool, true, false, ◌&&◌, ◌||◌, not, cond, List, [], ◌∷◌}
use Rattle.std.specs.Prelude.{◌++◌, leb, ltb, eqb, length, take, drop, Option, None, Some}
use Rattle.std.specs.Option.{MatchOption}
use Rattle.alphabet.specs.Text.{bytes}
use Rattle.alphabet.specs.Alphabet.{text, in_alphabet, white}

abbrev pub Word : Type 0
Word = List ℕ

-- CUTTING at every c: words at the space, 32, fields at the hyphen, 45

-- b joined to the first piece
abbrev pub onto : ℕ → List Word → List Word
onto b [] = (b ∷ []) ∷ []
onto b (w ∷ ws) = (b ∷ w) ∷ ws

-- the pieces between the c: one more than there are c
abbrev pub split : ℕ → List ℕ → List Word
split c [] = [] ∷ []
split c (b ∷ s) = cond (eqb b c) ([] ∷ split c s) (onto b (split c s))

-- the pieces with one c between them
abbrev pub join : ℕ → List Word → List ℕ
join c [] = []
join c (w ∷ []) = w
join c (w ∷ (v ∷ ws)) = w ++ (c ∷ join c (v ∷ ws))

-- the pieces behind a piece that has just ended
abbrev pub after : ℕ → List ℕ → List Word
after c [] = []
after c (b ∷ s) = split c s

-- CUTTING at the first c

-- how many bytes stand before the first c; all of them where there is none
abbrev pub up_to : ℕ → List ℕ → ℕ
up_to c [] = 0
up_to c (b ∷ s) = cond (eqb b c) 0 (suc (up_to c s))

-- whether c stands in s
abbrev pub holds : ℕ → List ℕ → Bool
holds c s = ltb (up_to c s) (length s)

-- what stands before the first c, and what stands behind it
abbrev pub before : ℕ → List ℕ → List ℕ
before c s = take (up_to c s) s

abbrev pub behind : ℕ → List ℕ → List ℕ
behind c s = drop (suc (up_to c s)) s

-- TESTS

abbrev pub all : {A : Type 0} → (A → Bool) → List A → Bool
all p [] = true
all p (x ∷ xs) = p x && all p xs

abbrev pub null : {A : Type 0} → List A → Bool
null [] = true
null (x ∷ xs) = false

-- how many bytes at the front pass a test
abbrev pub leading : (ℕ → Bool) → List ℕ → ℕ
leading p [] = 0
leading p (b ∷ s) = cond (p b) (suc (leading p s)) 0

-- c stands nowhere in w
abbrev pub free : ℕ → Word → Bool
free c w = all (λ b. not (eqb b c)) w

abbrev pub same : List ℕ → List ℕ → Bool
same [] [] = true
same [] (y ∷ t) = false
same (x ∷ s) [] = false
same (x ∷ s) (y ∷ t) = eqb x y && same s t

-- whether w is one of a list
abbrev pub elem : Word → List Word → Bool
elem w [] = false
elem w (v ∷ vs) = cond (same w v) true (elem w vs)

-- the place of w in a list, counted from 1; 0 where it has none
abbrev pub rank_from : ℕ → Word → List Word → ℕ
rank_from k w [] = 0
rank_from k w (v ∷ vs) = cond (same w v) k (rank_from (suc k) w vs)

abbrev pub rank : Word → List Word → ℕ
rank w vs = rank_from 1 w vs

-- a rank as the code gives it: none for 0
abbrev pub rank_given : ℕ → Option ℕ
rank_given n = cond (eqb n 0) None (Some n)

-- what that says
abbrev pub Ranked : ℕ → Option ℕ → Type 0
Ranked n r = MatchOption r (n ≡ 0) (λ k. (0 < k) × (n ≡ k))

-- A LIST IN CELLS of n bytes, each of them a word filled up with spaces

-- the words of at most m cells
abbrev pub first_cells : ℕ → ℕ → List ℕ → List Word
first_cells zero n s = []
first_cells (suc m) n s = cond (leb n (length s)) (before 32 (take n s) ∷ first_cells m n (drop n s)) []

abbrev pub cells : ℕ → List ℕ → List Word
cells n s = first_cells (length s) n s

-- A TEXT WORD: one or more bytes of the alphabet, other than white space and ( ) - /

abbrev pub text_word : Word → Bool
text_word w = not (null w) && all text w

-- A CONTENT AS A SPELLING HAS IT: words with one space between them, none empty, each of bytes of text words and obliques

abbrev pub tidy_byte : ℕ → Bool
tidy_byte b = text b || eqb b 47

abbrev pub tidy_word : Word → Bool
tidy_word w = not (null w) && all tidy_byte w

unfoldable pub tidy : List ℕ → Bool
tidy s = all tidy_word (split 32 s)

-- EXAMPLES, computed

words_cut : split 32 (bytes "DCT  PAM") ≡ bytes "DCT" ∷ ([] ∷ (bytes "PAM" ∷ []))
words_cut = refl

fields_joined : join 45 (bytes "CNL" ∷ (bytes "ABC12" ∷ [])) ≡ bytes "CNL-ABC12"
fields_joined = refl

oblique_cut : (before 47 (bytes "DOF/240229") ≡ bytes "DOF") × (behind 47 (bytes "DOF/240229") ≡ bytes "240229")
oblique_cut = (refl, refl)

led : (leading (λ b. eqb b 65) (bytes "AAB A") ≡ 2) × (leading (λ b. eqb b 65) (bytes "AA") ≡ 2) × (leading (λ b. eqb b 65) (bytes "B") ≡ 0)
led = (refl, refl, refl)

ranked : (rank (bytes "DOF") (split 32 (bytes "STS DOF RMK")) ≡ 2) × (rank (bytes "DO") (split 32 (bytes "STS DOF RMK")) ≡ 0)
ranked = (refl, refl)

in_cells : cells 2 (bytes "A E1S ") ≡ split 32 (bytes "A E1 S")
in_cells = refl

text_words : (text_word (bytes "B.1") ≡ true) × (text_word (bytes "") ≡ false) × (text_word (bytes "A B") ≡ false) × (text_word (bytes "A/B") ≡ false)
unfolding text in_alphabet white
text_words = (refl, refl, refl, refl)

tidied : (tidy (bytes "DCT PAM/N0440F310") ≡ true) × (tidy (bytes "DCT  PAM") ≡ false) × (tidy (bytes "") ≡ false) × (tidy (bytes "A-B") ≡ false)
unfolding tidy text in_alphabet white
tidied = (refl, refl, refl, refl)
