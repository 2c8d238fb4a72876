-- Field 18, other information (document 01): `0` alone, or items. A content is cut into words, the words are grouped into items, and the items
-- are tried; the record has of each word what it says. Assumes nothing.
use Rattle.std.specs.Prelude.{ℕ, ◌≤◌, ◌≡◌, refl, Bool, true, false, ◌&&◌, not, cond, List, [], ◌∷◌, ◌++◌, map, ltb, eqb, length, drop}
use Rattle.alphabet.specs.Text.{bytes}
use Rattle.alphabet.specs.Alphabet.{text, in_alphabet, white}
use Rattle.text.specs.Words.{Word, split, join, holds, before, behind, all, null, same}
use Rattle.shape.specs.Shape.{letters}
use Rattle.shape.specs.Time.{time_fits}
use Rattle.shape.specs.Field.{Field}
use Rattle.other.specs.declared.Rule.{Rule}
use Rattle.other.specs.Rules.{Edition18, base, rank_in, rule_in, rule_under, word_fits, behind_first, more_fits}
use Rattle.other.specs.Rules.{statuses, approvals as approval_codes, approved, days_in, date, timed as timed_word, hexadecimal}
use Rattle.other.specs.Elements.{Element, status, approvals, day, timed, selcal, address, free, spell_element, valid_element, element_of}

-- THE RECORD AND ITS SPELLING

-- a key, and what stands under it: the first, joined to the oblique, and the others
pub record Keyed (A : Type 0) : Type 0 where
  pub key : Word
  pub first : A
  pub more : List A

-- an item of the record is of elements; as it stands in a content it is of words
abbrev pub Item : Type 0
Item = Keyed Element

abbrev pub Worded : Type 0
Worded = Keyed Word

-- `0`, or items
pub data Field18 : Type 0 where
  nothing : Field18
  items : List Item → Field18

abbrev pub worded : Item → Worded
worded i = record { key = i.key; first = spell_element i.first; more = map spell_element i.more }

-- the words of items, as they stand in a content
abbrev pub spelt : List Worded → List Word
spelt [] = []
spelt (i ∷ is) = (i.key ++ (47 ∷ i.first)) ∷ (i.more ++ spelt is)

abbrev pub spell18 : Field18 → List ℕ
spell18 nothing = bytes "0"
spell18 (items is) = join 32 (spelt (map worded is))

-- WORDS INTO ITEMS: the first word that holds an oblique ends the item before it and begins the next

-- the words before the first item, and the items
pub record Groups : Type 0 where
  pub loose : List Word
  pub grouped : List Worded

-- with one more word in front
abbrev pub put : Word → Groups → Groups
put w g =
    cond (holds 47 w)
    (record { loose = []; grouped = record { key = before 47 w; first = behind 47 w; more = g.loose } ∷ g.grouped })
    (record { loose = w ∷ g.loose; grouped = g.grouped })

abbrev pub group : List Word → Groups
group [] = record { loose = []; grouped = [] }
group (w ∷ ws) = put w (group ws)

-- WHAT ITEMS MAY HOLD: keys of the edition, each behind the last, and under each what p allows by its rule

abbrev pub items_by : {A : Type 0} → (Rule → A → Bool) → Edition18 → ℕ → List (Keyed A) → Bool
items_by p ed last [] = true
items_by p ed last (i ∷ is) =
    ltb last (rank_in ed i.key)
    && (p (rule_under ed i.key) i.first
    && (all (behind_first p (rule_under ed i.key)) i.more
    && items_by p ed (rank_in ed i.key) is))

abbrev pub items_fit : Edition18 → ℕ → List Worded → Bool
items_fit ed last is = items_by word_fits ed last is

abbrev pub items_valid : Edition18 → ℕ → List Item → Bool
items_valid ed last is = items_by valid_element ed last is

abbrev pub valid18 : Edition18 → Field18 → Bool
valid18 ed nothing = true
valid18 ed (items is) = not (null is) && items_valid ed 0 is

-- THE READING

-- words that are items, with no word before the first
abbrev pub fit_from : Edition18 → ℕ → List Word → Bool
fit_from ed last ws = null (group ws).loose && items_fit ed last (group ws).grouped

-- words that go on with an item of the key at place k: its further words, and the items behind it
abbrev pub fit_more : Edition18 → ℕ → List Word → Bool
fit_more ed k ws = all (more_fits (rule_in ed k)) (group ws).loose && items_fit ed k (group ws).grouped

unfoldable pub fits_in : Edition18 → List ℕ → Bool
fits_in ed s = cond (same s (bytes "0")) true (fit_from ed 0 (split 32 s))

-- an item's words as elements, by its key's rule
abbrev pub item_of : Edition18 → Worded → Item
item_of ed i =
    record {
      key = i.key;
      first = element_of (rule_under ed i.key) i.first;
      more = map (element_of (rule_under ed i.key)) i.more;
    }

unfoldable pub record18 : Edition18 → List ℕ → Field18
record18 ed s = cond (same s (bytes "0")) nothing (items (map (item_of ed) (group (split 32 s)).grouped))

-- the form, in an edition, and in that of document 01
abbrev pub field18_in : Edition18 → Field
field18_in ed = record { Record = Field18; valid = valid18 ed; spell = spell18; fits = fits_in ed; record_of = record18 ed; canonical = λ r. r }

abbrev pub field18 : Field
field18 = field18_in base

abbrev pub fits18 : List ℕ → Bool
fits18 s = fits_in base s

-- AN ITEM BY ITS KEY

-- the items from the first one of the key on
abbrev pub from_key : {A : Type 0} → Word → List (Keyed A) → List (Keyed A)
from_key key [] = []
from_key key (i ∷ is) = cond (same i.key key) (i ∷ is) (from_key key is)

-- whether there is an item of the key
abbrev pub has : {A : Type 0} → Word → List (Keyed A) → Bool
has key is = not (null (from_key key is))

-- the words of the first item, one space between them; nothing where there is none
abbrev pub first_words : List Worded → List ℕ
first_words [] = []
first_words (i ∷ is) = join 32 (i.first ∷ i.more)

-- the words of the item of the key
abbrev pub under : Word → List Worded → List ℕ
under key is = first_words (from_key key is)

abbrev pub items_of : Field18 → List Item
items_of nothing = []
items_of (items is) = is

-- of a content, whether it fits or not
unfoldable pub has_key : List ℕ → Word → Bool
has_key s key = has key (group (split 32 s)).grouped

unfoldable pub words_under : List ℕ → Word → List ℕ
words_under s key = under key (group (split 32 s)).grouped

-- the first of some words, and those behind it that belong to its item
abbrev pub words_from : List Word → List ℕ
words_from [] = []
words_from (w ∷ ws) = join 32 (w ∷ (group ws).loose)

-- the words of the item of that key begin at `at`, behind its oblique; `at` is 0 where there is no such item
pub record Found (s : List ℕ) (key : Word) (at : ℕ) : Type 0 where
  pub inside : at ≤ length s
  pub there : not (eqb at 0) ≡ has_key s key
  pub words : cond (eqb at 0) [] (words_from (split 32 (drop at s))) ≡ words_under s key

-- EXAMPLES, computed

real_date : (fits18 (bytes "DOF/240229") ≡ true) × (fits18 (bytes "DOF/230229") ≡ false) × (fits18 (bytes "DOF/240229 240301") ≡ false)
unfolding fits_in base date days_in letters
real_date = (refl, refl, refl)

alone : (fits18 (bytes "0") ≡ true) × (fits18 (bytes "") ≡ false) × (fits18 (bytes "RMK/") ≡ false) × (fits18 (bytes "A RMK/B") ≡ false)
unfolding fits_in base text in_alphabet white
alone = (refl, refl, refl, refl)

in_order_lem : (fits18 (bytes "STS/HOSP RMK/A B C") ≡ true) × (fits18 (bytes "RMK/A STS/HOSP") ≡ false)
    × (fits18 (bytes "RMK/A RMK/B") ≡ false) × (fits18 (bytes "STS/HOSP HOSP") ≡ true)
unfolding fits_in base statuses text in_alphabet white
in_order_lem = (refl, refl, refl, refl)

obliques : (fits18 (bytes "RMK/X A/C") ≡ false) × (fits18 (bytes "RMK/A/B") ≡ false)
unfolding fits_in base text in_alphabet white
obliques = (refl, refl)

codes_fit_lem : (fits18 (bytes "PBN/A1B1C1D1L1O1S1T1") ≡ true) × (fits18 (bytes "PBN/A1B1C1D1L1O1S1T1T2") ≡ false) × (fits18 (bytes "PBN/A1A1") ≡ false)
    × (fits18 (bytes "PBN/A1 B1") ≡ false)
unfolding fits_in base approved approval_codes
codes_fit_lem = (refl, refl, refl, refl)

times_fit : (fits18 (bytes "EET/EISN0026 EGGX0111") ≡ true) × (fits18 (bytes "EET/EISN0060") ≡ false) × (fits18 (bytes "EET/EISN9959") ≡ true)
unfolding fits_in base timed_word time_fits letters
times_fit = (refl, refl, refl)

letters_fit_lem : (fits18 (bytes "SEL/FJEL") ≡ true) × (fits18 (bytes "SEL/FJE") ≡ false)
    × (fits18 (bytes "CODE/F00001") ≡ true) × (fits18 (bytes "CODE/F0000G") ≡ false)
unfolding fits_in base hexadecimal
letters_fit_lem = (refl, refl, refl, refl)

every_key : fits18
    (bytes "STS/MEDEVAC NONRVSM PBN/A1B1 NAV/GBAS COM/PHONE DAT/S SUR/REP DEP/LFPG 4833N00200E DEST/EHAM X DOF/241231 REG/FABCD "
    ++ (bytes "EET/LFFF0020 EHAA0105 SEL/ABCD TYP/2F15 CODE/F00001 DLE/MDG0030 OPR/A ORGN/LFPGAFRX PER/A "
    ++ bytes "ALTN/EDDF RALT/EDDK TALT/EHRD RIF/DTA KLAX RMK/A B"))
    ≡ true
unfolding fits_in base statuses approved approval_codes date days_in timed_word time_fits letters hexadecimal text in_alphabet white
every_key = refl

-- the record, of each rule: a key's elements
abbrev item : Word → Element → List Element → Item
item k e es = record { key = k; first = e; more = es }

whole : record18 base (bytes "STS/HOSP HUM DOF/240229 RMK/A B")
    ≡ items
    (item (bytes "STS") (status (bytes "HOSP")) (status (bytes "HUM") ∷ [])
    ∷ item (bytes "DOF") (day (record { year = 24; month = 2; day = 29 })) []
    ∷ item (bytes "RMK") (free (bytes "A")) (free (bytes "B") ∷ [])
    ∷ [])
unfolding record18 base
whole = refl

elements : (record18 base (bytes "PBN/A1B1") ≡ items (item (bytes "PBN") (approvals (bytes "A1" ∷ bytes "B1" ∷ [])) [] ∷ []))
    × (record18 base (bytes "EET/EISN0026 EGGX0111")
    ≡ items (item (bytes "EET") (timed (bytes "EISN") (record { 0 = 26 })) (timed (bytes "EGGX") (record { 0 = 71 }) ∷ []) ∷ []))
    × (record18 base (bytes "SEL/FJEL CODE/F00001")
    ≡ items (item (bytes "SEL") (selcal (bytes "FJEL")) [] ∷ item (bytes "CODE") (address (bytes "F00001")) [] ∷ []))
    × (record18 base (bytes "0") ≡ nothing)
unfolding record18 base
elements = (refl, refl, refl, refl)

found : (has_key (bytes "STS/HOSP RMK/A B") (bytes "RMK") ≡ true) × (has_key (bytes "STS/HOSP RMK/A B") (bytes "DOF") ≡ false)
    × (words_under (bytes "STS/HOSP HUM RMK/A B") (bytes "STS") ≡ bytes "HOSP HUM") × (words_under (bytes "0") (bytes "STS") ≡ [])
unfolding has_key words_under
found = (refl, refl, refl, refl)
