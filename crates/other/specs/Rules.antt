-- Which words may stand under a key of field 18 (document 01, field 18), and which edition has which keys. Assumes nothing.
use Rattle.std.specs.Prelude.{ℕ, ◌-◌, ◌%◌, ◌≡◌, refl, Bool, true, false, ◌&&◌, not, cond, List, [], ◌∷◌, ◌++◌, map, leb, eqb, length, take, drop, get_or}
use Rattle.std.specs.Prelude.{Option, Some, None}
use Rattle.std.specs.Bool.{then_some}
use Prim.Native.Char.{code}
use Rattle.alphabet.specs.Text.{bytes}
use Rattle.alphabet.specs.Alphabet.{letter, sign, one_of}
use Rattle.text.specs.Words.{Word, split, all, elem, rank, text_word}
use Rattle.shape.specs.Numbers.{digits, value}
use Rattle.shape.specs.Shape.{fits, wide, letters}
use Rattle.shape.specs.declared.Elapsed.{Elapsed}
use Rattle.shape.specs.Time.{elapsed_fits, elapsed_of, time_fits}
use Rattle.codes.specs.Codes.{codes, codes_fit}
use Rattle.other.specs.declared.Rule.{Rule}
use Rattle.other.specs.declared.Rule.TheVariants.{Status, Approvals, Day, Timed, Selcal, Address, Free}

-- THE WORDS

-- STS: one of these
unfoldable pub statuses : List Word
statuses = split 32 (bytes "ALTRV ATFMX FFR FLTCK HAZMAT HEAD HOSP HUM MARSA MEDEVAC NONRVSM SAR STATE")

-- PBN: 1 to 8 codes of these, none twice
unfoldable pub approvals : List Word
approvals = split 32 (bytes "A1 B1 B2 B3 B4 B5 B6 C1 C2 C3 C4 D1 D2 D3 D4 L1 O1 O2 O3 O4 S1 S2 T1 T2")

abbrev pub approved_codes : List Word → Bool
approved_codes ws = codes_fit approvals ws && (leb 1 (length ws) && leb (length ws) 8)

unfoldable pub approved : Word → Bool
approved w = approved_codes (codes w)

-- DOF: a real date YYMMDD in 2000 to 2099; the year is counted from 2000
pub record Date : Type 0 where
  pub year : ℕ
  pub month : ℕ
  pub day : ℕ

abbrev pub year_month_day : Word
year_month_day = bytes "222"

abbrev pub year : Word → ℕ
year w = value (take 2 w)

abbrev pub month : Word → ℕ
month w = value (take 2 (drop 2 w))

abbrev pub day_of : Word → ℕ
day_of w = value (take 2 (drop 4 w))

-- how many days month m of the year 2000 + y has; none where there is no such month
unfoldable pub days_in : ℕ → ℕ → ℕ
days_in y m =
    cond (eqb m 2) (cond (eqb (y % 4) 0) 29 28)
    (get_or (0 ∷ 31 ∷ 28 ∷ 31 ∷ 30 ∷ 31 ∷ 30 ∷ 31 ∷ 31 ∷ 30 ∷ 31 ∷ 30 ∷ 31 ∷ []) m 0)

abbrev pub date_of : Word → Date
date_of w = record { year = year w; month = month w; day = day_of w }

abbrev pub spell_date : Date → Word
spell_date d = digits 2 d.year ++ (digits 2 d.month ++ digits 2 d.day)

-- its month has that day
abbrev pub real : Date → Bool
real d = leb 1 d.day && leb d.day (days_in d.year d.month)

abbrev pub valid_date : Date → Bool
valid_date d = leb d.year 99 && real d

unfoldable pub date : Word → Bool
date w = fits (wide year_month_day) w && real (date_of w)

-- EET, DLE: 6 to 15 signs, the last four an elapsed time
unfoldable pub timed : Word → Bool
timed w = leb 6 (length w) && (leb (length w) 15 && (all sign w && elapsed_fits (drop (length w - 4) w)))

-- that time, if w is such a word
abbrev pub elapsed_in : Word → Option Elapsed
elapsed_in w = then_some (timed w) (elapsed_of (drop (length w - 4) w))

-- SEL: 4 letters
abbrev pub selcal : Word → Bool
selcal w = eqb (length w) 4 && all letter w

-- CODE: six of 0..9 A..F
unfoldable pub hexadecimal : List ℕ
hexadecimal = bytes "0123456789ABCDEF"

abbrev pub address : Word → Bool
address w = eqb (length w) 6 && all (λ b. one_of b hexadecimal) w

-- THE RULES

-- a word that may stand under a key of this rule
abbrev pub word_fits : Rule → Word → Bool
word_fits Status w = elem w statuses
word_fits Approvals w = approved w
word_fits Day w = date w
word_fits Timed w = timed w
word_fits Selcal w = selcal w
word_fits Address w = address w
word_fits Free w = text_word w

-- keys of these rules have one word
abbrev pub single : Rule → Bool
single Status = false
single Approvals = true
single Day = true
single Timed = false
single Selcal = true
single Address = true
single Free = false

-- a word, or what it says, behind the first, where p tells what may stand first
abbrev pub behind_first : {A : Type 0} → (Rule → A → Bool) → Rule → A → Bool
behind_first p r x = not (single r) && p r x

abbrev pub more_fits : Rule → Word → Bool
more_fits r w = behind_first word_fits r w

-- the mark of each rule in the code's tables
abbrev pub mark : Rule → ℕ
mark Status = code "S"
mark Approvals = code "P"
mark Day = code "D"
mark Timed = code "E"
mark Selcal = code "L"
mark Address = code "H"
mark Free = code "."

-- the rule that a mark stands for
abbrev pub rule_of : ℕ → Rule
rule_of b =
    cond (eqb b (mark Status)) Status
    (cond (eqb b (mark Approvals)) Approvals
    (cond (eqb b (mark Day)) Day
    (cond (eqb b (mark Timed)) Timed
    (cond (eqb b (mark Selcal)) Selcal
    (cond (eqb b (mark Address)) Address
    Free)))))

-- two rules are one where their marks are
abbrev pub same_rule : Rule → Rule → Bool
same_rule r q = eqb (mark r) (mark q)

-- AN EDITION: its keys in their order, and the rule of each

pub record Edition18 : Type 0 where
  pub keys : List Word
  pub rules : List Rule

-- of keys that stand beside their rules
abbrev pub edition_of : List (Word × Rule) → Edition18
edition_of ks = record { keys = map (λ (k : Word × Rule). k.0) ks; rules = map (λ (k : Word × Rule). k.1) ks }

-- the place of a key, counted from 1; 0 where the edition has no such key
abbrev pub rank_in : Edition18 → Word → ℕ
rank_in ed key = rank key ed.keys

-- the rule of the key at that place
abbrev pub rule_in : Edition18 → ℕ → Rule
rule_in ed k = get_or ed.rules (k - 1) Free

-- the rule of a key
abbrev pub rule_under : Edition18 → Word → Rule
rule_under ed key = rule_in ed (rank_in ed key)

-- no two of some words are equal
abbrev pub distinct : List Word → Bool
distinct [] = true
distinct (v ∷ vs) = not (elem v vs) && distinct vs

-- the keys of an edition are of signs, and no two are equal
unfoldable pub sound_keys : Edition18 → Bool
sound_keys ed = all (all sign) ed.keys && distinct ed.keys

-- the edition of document 01
unfoldable pub base : Edition18
base =
    edition_of
    ((bytes "STS", Status)
    ∷ (bytes "PBN", Approvals)
    ∷ (bytes "NAV", Free)
    ∷ (bytes "COM", Free)
    ∷ (bytes "DAT", Free)
    ∷ (bytes "SUR", Free)
    ∷ (bytes "DEP", Free)
    ∷ (bytes "DEST", Free)
    ∷ (bytes "DOF", Day)
    ∷ (bytes "REG", Free)
    ∷ (bytes "EET", Timed)
    ∷ (bytes "SEL", Selcal)
    ∷ (bytes "TYP", Free)
    ∷ (bytes "CODE", Address)
    ∷ (bytes "DLE", Timed)
    ∷ (bytes "OPR", Free)
    ∷ (bytes "ORGN", Free)
    ∷ (bytes "PER", Free)
    ∷ (bytes "ALTN", Free)
    ∷ (bytes "RALT", Free)
    ∷ (bytes "TALT", Free)
    ∷ (bytes "RIF", Free)
    ∷ (bytes "RMK", Free)
    ∷ [])

-- as the code has it: its keys, and the marks of their rules
abbrev pub edition : List Word → List ℕ → Edition18
edition ks ms = record { keys = ks; rules = map rule_of ms }

-- EXAMPLES, computed

ruled_keys : (rule_under base (bytes "STS") ≡ Status) × (rule_under base (bytes "PBN") ≡ Approvals) × (rule_under base (bytes "DOF") ≡ Day)
    × (rule_under base (bytes "EET") ≡ Timed) × (rule_under base (bytes "DLE") ≡ Timed) × (rule_under base (bytes "SEL") ≡ Selcal)
    × (rule_under base (bytes "CODE") ≡ Address) × (rule_under base (bytes "RMK") ≡ Free)
unfolding base
ruled_keys = (refl, refl, refl, refl, refl, refl, refl, refl)

marked : edition (split 32 (bytes "STS DOF RMK")) (bytes "SD.") ≡ edition_of ((bytes "STS", Status) ∷ (bytes "DOF", Day) ∷ (bytes "RMK", Free) ∷ [])
marked = refl

sound : (sound_keys base ≡ true) × (distinct (split 32 (bytes "STS DOF STS")) ≡ false)
unfolding sound_keys base
sound = (refl, refl)

dates : (date (bytes "240229") ≡ true) × (date (bytes "230229") ≡ false) × (date (bytes "231231") ≡ true)
    × (date (bytes "231301") ≡ false) × (date (bytes "230100") ≡ false)
unfolding date days_in letters
dates = (refl, refl, refl, refl, refl)

codes_tried : (approved (bytes "A1B1C1D1L1O1S1T1") ≡ true) × (approved (bytes "A1B1C1D1L1O1S1T1T2") ≡ false)
    × (approved (bytes "A1A1") ≡ false) × (approved (bytes "A") ≡ false) × (approved (bytes "") ≡ false)
unfolding approved approvals
codes_tried = (refl, refl, refl, refl, refl)

times_tried : (timed (bytes "EISN0026") ≡ true) × (timed (bytes "EISN0060") ≡ false) × (timed (bytes "EISN9959") ≡ true) × (timed (bytes "E0026") ≡ false)
unfolding timed time_fits letters
times_tried = (refl, refl, refl, refl)

times_read : (elapsed_in (bytes "EISN0126") ≡ Some (record { 0 = 86 })) × (elapsed_in (bytes "EISN0060") ≡ None)
unfolding timed time_fits letters
times_read = (refl, refl)
