-- Field 19, supplementary information (document 01, "19."): items of words, read as sent. Assumes nothing.
use Rattle.std.specs.Prelude.{ℕ, ◌^◌, ◌≡◌, refl, Bool, true, false, ◌&&◌, ◌||◌, not, cond, List, [], ◌∷◌, ◌++◌, leb, ltb, length}
use Rattle.std.proofs.Math.Option.{Option, none, some}
use Rattle.alphabet.specs.Text.{bytes}
use Rattle.alphabet.specs.Alphabet.{letter, digit, text, one_of, in_alphabet, white}
use Rattle.text.specs.Words.{Word, split, join, holds, before, behind, all, null, same, text_word}
use Rattle.shape.specs.Numbers.{digits, value}
use Rattle.shape.specs.Time.{time_fits, elapsed_fits, elapsed_of, spell_elapsed, valid_elapsed}
use Rattle.shape.specs.declared.Elapsed.{Elapsed}

-- THE KEYS, each by its letter, and their order

pub data Key : Type 0 where
  E : Key
  P : Key
  R : Key
  S : Key
  J : Key
  D : Key
  A : Key
  N : Key
  C : Key
  Other : Key

abbrev pub spell_key : Key → Word
spell_key E = bytes "E"
spell_key P = bytes "P"
spell_key R = bytes "R"
spell_key S = bytes "S"
spell_key J = bytes "J"
spell_key D = bytes "D"
spell_key A = bytes "A"
spell_key N = bytes "N"
spell_key C = bytes "C"
spell_key Other = []

-- the key whose letter w is
abbrev pub key_among : List Key → Word → Key
key_among [] w = Other
key_among (k ∷ ks) w = cond (same w (spell_key k)) k (key_among ks w)

abbrev pub keys : List Key
keys = E ∷ (P ∷ (R ∷ (S ∷ (J ∷ (D ∷ (A ∷ (N ∷ (C ∷ []))))))))

unfoldable pub keyed : Word → Key
keyed w = key_among keys w

-- the key whose letter b is
abbrev pub by_letter : ℕ → Key
by_letter b = keyed (b ∷ [])

abbrev pub place : Key → ℕ
place Other = 0
place E = 1
place P = 2
place R = 3
place S = 4
place J = 5
place D = 6
place A = 7
place N = 8
place C = 9

-- THE RECORD, as sent: one or more parts, letters in the order sent, counts in the digits sent

-- a number, and in how many digits it was sent
pub record Count : Type 0 where
  pub number : ℕ
  pub width : ℕ

pub data Part : Type 0 where
  endurance : Elapsed → Part
  persons : Count → Part
  radio : (letters : Word) → Part
  survival : (letters : Word) → Part
  jackets : (lights : Word) (radios : Option Word) → Part
  -- the pair is the number and the capacity
  dinghies : (pair : Option (Count × Count)) (cover : Bool) (colours : List Word) → Part
  aircraft : (texts : List Word) → Part
  remarks : (texts : List Word) → Part
  pilot : (texts : List Word) → Part

abbrev pub Field19 : Type 0
Field19 = List Part

abbrev pub key_of : Part → Key
key_of (endurance t) = E
key_of (persons c) = P
key_of (radio w) = R
key_of (survival w) = S
key_of (jackets w o) = J
key_of (dinghies o c ws) = D
key_of (aircraft ws) = A
key_of (remarks ws) = N
key_of (pilot ws) = C

-- COUNTS AND THEIR WORDS

-- at least one digit and at most so many
abbrev pub count : ℕ → Word → Bool
count most w = leb 1 (length w) && (leb (length w) most && all digit w)

abbrev pub count_of_word : Word → Count
count_of_word w = record { number = value w; width = length w }

abbrev pub word_of_count : Count → Word
word_of_count c = digits c.width c.number

-- as many digits, and a number that they can hold
abbrev pub valid_count : ℕ → Count → Bool
valid_count most c = leb 1 c.width && (leb c.width most && ltb c.number (10 ^ c.width))

-- the most digits: of the persons; of the dinghies' number and of their capacity

abbrev pub persons_digits : ℕ
persons_digits = 3

abbrev pub number_digits : ℕ
number_digits = 2

abbrev pub capacity_digits : ℕ
capacity_digits = 3

-- WHAT OTHER WORDS MAY BE

-- each a letter of a set, none twice
abbrev pub letters_fit : List ℕ → Word → Bool
letters_fit set [] = true
letters_fit set (b ∷ w) = one_of b set && (not (one_of b w) && letters_fit set w)

-- one or more
abbrev pub some_of : List ℕ → Word → Bool
some_of set w = leb 1 (length w) && letters_fit set w

abbrev pub colour : Word → Bool
colour w = leb 2 (length w) && all letter w

-- the sets, each in its order

abbrev pub radio_letters : List ℕ
radio_letters = bytes "UVE"

abbrev pub survival_letters : List ℕ
survival_letters = bytes "PDMJ"

abbrev pub light_letters : List ℕ
light_letters = bytes "LF"

abbrev pub jacket_radio_letters : List ℕ
jacket_radio_letters = bytes "UV"

abbrev pub cover : Word
cover = bytes "C"

-- VALID RECORDS

abbrev pub texts : List Word → Bool
texts ws = not (null ws) && all text_word ws

abbrev pub optionally : {X : Type 0} → (X → Bool) → Option X → Bool
optionally p none = true
optionally p (some x) = p x

abbrev pub valid_pair : Count × Count → Bool
valid_pair p = valid_count number_digits p.0 && valid_count capacity_digits p.1

-- the words of a part

abbrev pub optional : Option Word → List Word
optional none = []
optional (some w) = w ∷ []

abbrev pub pair_words : Option (Count × Count) → List Word
pair_words none = []
pair_words (some p) = word_of_count p.0 ∷ (word_of_count p.1 ∷ [])

abbrev pub words_of : Part → List Word
words_of (endurance t) = spell_elapsed t ∷ []
words_of (persons c) = word_of_count c ∷ []
words_of (radio w) = w ∷ []
words_of (survival w) = w ∷ []
words_of (jackets w o) = w ∷ optional o
words_of (dinghies o c ws) = pair_words o ++ (cond c (cover ∷ []) [] ++ ws)
words_of (aircraft ws) = ws
words_of (remarks ws) = ws
words_of (pilot ws) = ws

abbrev pub valid_part : Part → Bool
valid_part (endurance t) = valid_elapsed t
valid_part (persons c) = valid_count persons_digits c
valid_part (radio w) = some_of radio_letters w
valid_part (survival w) = some_of survival_letters w
valid_part (jackets w o) = some_of light_letters w && optionally (some_of jacket_radio_letters) o
valid_part (dinghies o c ws) = optionally valid_pair o && (all colour ws && not (null (words_of (dinghies o c ws))))
valid_part (aircraft ws) = texts ws
valid_part (remarks ws) = texts ws
valid_part (pilot ws) = texts ws

-- each at most once, and in the order of the keys
abbrev pub in_order : ℕ → Field19 → Bool
in_order least [] = true
in_order least (p ∷ ps) = ltb least (place (key_of p)) && in_order (place (key_of p)) ps

unfoldable pub valid19 : Field19 → Bool
valid19 r = not (null r) && (in_order 0 r && all valid_part r)

-- THE SPELLING: the first word of each part is joined to its oblique

abbrev pub opened : Word → List Word → List Word
opened key [] = []
opened key (w ∷ ws) = (key ++ (47 ∷ w)) ∷ ws

abbrev pub spelt : Field19 → List Word
spelt [] = []
spelt (p ∷ ps) = opened (spell_key (key_of p)) (words_of p) ++ spelt ps

unfoldable pub spell19 : Field19 → List ℕ
spell19 r = join 32 (spelt r)

-- WORDS INTO ITEMS: a word that holds an oblique begins an item, and the words behind it belong to it

pub record Item : Type 0 where
  pub key : Key
  pub words : List Word

-- the words before the first item, and the items
abbrev pub Groups : Type 0
Groups = List Word × List Item

abbrev pub put : Word → Groups → Groups
put w g =
    cond (holds 47 w)
    ([], record { key = keyed (before 47 w); words = behind 47 w ∷ g.0 } ∷ g.1)
    (w ∷ g.0, g.1)

abbrev pub group : List Word → Groups
group [] = ([], [])
group (w ∷ ws) = put w (group ws)

-- WHICH WORDS MAY STAND UNDER A KEY: those of the valid parts (`part_read` and `part_back` in proofs/Parts.antt)

abbrev pub one : (Word → Bool) → List Word → Bool
one p [] = false
one p (w ∷ []) = p w
one p (w ∷ (v ∷ ws)) = false

abbrev pub jackets_fit : List Word → Bool
jackets_fit [] = false
jackets_fit (w ∷ ws) = some_of light_letters w && (null ws || one (some_of jacket_radio_letters) ws)

abbrev pub pair_counts : Word × Word → Bool
pair_counts p = count number_digits p.0 && count capacity_digits p.1

-- what is left behind the pair, and behind the cover

abbrev pub after_pair : List Word → List Word
after_pair [] = []
after_pair (v ∷ []) = v ∷ []
after_pair (v ∷ (w ∷ ws)) = cond (pair_counts (v, w)) ws (v ∷ (w ∷ ws))

abbrev pub after_cover : List Word → List Word
after_cover [] = []
after_cover (w ∷ ws) = cond (same w cover) ws (w ∷ ws)

abbrev pub dinghies_fit : List Word → Bool
dinghies_fit ws = not (null ws) && all colour (after_cover (after_pair ws))

abbrev pub item_fits : Key → List Word → Bool
item_fits E ws = one elapsed_fits ws
item_fits P ws = one (count persons_digits) ws
item_fits R ws = one (some_of radio_letters) ws
item_fits S ws = one (some_of survival_letters) ws
item_fits J ws = jackets_fit ws
item_fits D ws = dinghies_fit ws
item_fits A ws = texts ws
item_fits N ws = texts ws
item_fits C ws = texts ws
item_fits Other ws = false

-- each key at most once, and in their order: as `in_order` has it of the parts (`items_valid_lem` and `items_fit_lem` in proofs/Items.antt)
abbrev pub items_fit : ℕ → List Item → Bool
items_fit least [] = true
items_fit least (i ∷ is) = ltb least (place i.key) && (item_fits i.key i.words && items_fit (place i.key) is)

-- no word before the first item, one item or more
abbrev pub groups_fit : Groups → Bool
groups_fit g = null g.0 && (not (null g.1) && items_fit 0 g.1)

unfoldable pub fits19 : List ℕ → Bool
fits19 s = groups_fit (group (split 32 s))

-- THE RECORD OF A CONTENT THAT FITS; no item of it has another key

abbrev pub first_of : List Word → Word
first_of [] = []
first_of (w ∷ ws) = w

abbrev pub second_of : List Word → Option Word
second_of [] = none
second_of (w ∷ []) = none
second_of (w ∷ (v ∷ ws)) = some v

abbrev pub pair_of : List Word → Option (Count × Count)
pair_of [] = none
pair_of (v ∷ []) = none
pair_of (v ∷ (w ∷ ws)) = cond (pair_counts (v, w)) (some (count_of_word v, count_of_word w)) none

abbrev pub covered : List Word → Bool
covered [] = false
covered (w ∷ ws) = same w cover

abbrev pub part_of : Key → List Word → Part
part_of E ws = endurance (elapsed_of (first_of ws))
part_of P ws = persons (count_of_word (first_of ws))
part_of R ws = radio (first_of ws)
part_of S ws = survival (first_of ws)
part_of J ws = jackets (first_of ws) (second_of ws)
part_of D ws = dinghies (pair_of ws) (covered (after_pair ws)) (after_cover (after_pair ws))
part_of A ws = aircraft ws
part_of N ws = remarks ws
part_of C ws = pilot ws
part_of Other ws = pilot ws

abbrev pub parts_of : List Item → Field19
parts_of [] = []
parts_of (i ∷ is) = part_of i.key i.words ∷ parts_of is

unfoldable pub record19 : List ℕ → Field19
record19 s = parts_of (group (split 32 s)).1

-- EXAMPLES, computed

abbrev pub manual : List ℕ
manual = bytes "E/0745 P/6 R/VE S/M J/L D/2 8 C YELLOW A/YELLOW RED TAIL N145E C/SMITH"

manual_fits : fits19 manual ≡ true
unfolding fits19 keyed time_fits text in_alphabet white
manual_fits = refl

counted : (fits19 (bytes "P/006") ≡ true) × (fits19 (bytes "P/000") ≡ true) × (fits19 (bytes "P/1234") ≡ false)
unfolding fits19 keyed time_fits text in_alphabet white
counted = (refl, refl, refl)

-- a count as sent, and which counts are valid
sent_counts : (record19 (bytes "P/006") ≡ persons (record { number = 6; width = 3 }) ∷ [])
    × (record19 (bytes "D/02 014 C ORANGE")
    ≡ dinghies (some (record { number = 2; width = 2 }, record { number = 14; width = 3 })) true (bytes "ORANGE" ∷ []) ∷ [])
unfolding record19 keyed
sent_counts = (refl, refl)

abbrev carried : ℕ → ℕ → Bool
carried n k = valid_part (persons (record { number = n; width = k }))

valid_counts : (carried 6 3 ≡ true) × (carried 999 3 ≡ true) × (carried 0 1 ≡ true) × (carried 10 1 ≡ false) × (carried 6 4 ≡ false) × (carried 0 0 ≡ false)
valid_counts = (refl, refl, refl, refl, refl, refl)

lettered : (fits19 (bytes "R/EVU") ≡ true) × (fits19 (bytes "R/UU") ≡ false) × (fits19 (bytes "R/") ≡ false)
unfolding fits19 keyed time_fits text in_alphabet white
lettered = (refl, refl, refl)

dinghies_fit_lem : (fits19 (bytes "D/C") ≡ true) × (fits19 (bytes "D/2") ≡ false) × (fits19 (bytes "D/2 8 C") ≡ true)
    × (fits19 (bytes "D/02 014 C ORANGE") ≡ true) × (fits19 (bytes "D/YELLOW RED") ≡ true)
unfolding fits19 keyed time_fits text in_alphabet white
dinghies_fit_lem = (refl, refl, refl, refl, refl)

jackets_fit_lem : (fits19 (bytes "J/LF UV") ≡ true) × (fits19 (bytes "J/FL VU") ≡ true) × (fits19 (bytes "J/UV") ≡ false)
unfolding fits19 keyed time_fits text in_alphabet white
jackets_fit_lem = (refl, refl, refl)

others : (fits19 (bytes "E/2400") ≡ true) × (fits19 (bytes "E/2460") ≡ false) × (fits19 (bytes "S/PDMJ E/0100") ≡ false)
    × (fits19 (bytes "") ≡ false) × (fits19 (bytes "C/SMITH JONES") ≡ true)
unfolding fits19 keyed time_fits text in_alphabet white
others = (refl, refl, refl, refl, refl)
