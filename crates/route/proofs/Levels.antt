-- Speeds and levels, and the words made of them: their records and their spellings determine one another. Assumes nothing.
use Prim.Native.Nat.{ℕ, zero, suc, ◌^◌, ◌<◌}
use mathlib.Core.Path.{◌≡◌, refl, sym, ap, ◌∙◌}
use mathlib.Core.Bool.{Bool, true, false, cond, ◌&&◌, not, false≢true, true≢false}
use mathlib.Core.List.{List, [], ◌∷◌, ◌++◌}
use native.Mathlib.Omega.{arith}
use lib.Dec.{ltb, eqb}
use lib.ListN.{length, take, drop}
use lib.Seq.{take_at, drop_at}
use borrow.Author.Tests.{not-true, ltb-true, lt-ltb}
use Rattle.alphabet.specs.Text.{bytes}
use Rattle.alphabet.specs.Alphabet.{digit, one_of}
use Rattle.text.specs.Words.{Word, all, same}
use Rattle.text.proofs.Tests.{both, and_both, same-eq, same_self, same_other, of_one}
use Rattle.shape.specs.Numbers.{digits, value}
use Rattle.shape.specs.Shape.{letters, fits, copies, wide, wides, any}
use Rattle.shape.proofs.Numbers.{value_below, digits_value, digits_length, value_digits, digits_digits}
use Rattle.route.specs.Levels.{Speed, Level, StartLevel, vfr, cruising, UpperLevel, plus, upper, speed_digits, level_digits, in_digits, valid_speed}
use Rattle.route.specs.Levels.{valid_level, valid_start, valid_upper, spell_speed, spell_level, spell_start, spell_upper, speeds, levels, each, starts}
use Rattle.route.specs.Levels.{changes, climbs, number_at, letter_of, speed_of, past_speed, level_of, past_level, start_of, upper_of}
use Rattle.route.proofs.Parts.{Part, Front, any_append, alone, then}

-- A LETTER AND AS MANY DIGITS AS ARE DUE BEHIND IT

digits_fit : (d : Word) → all digit d ≡ true → fits (copies (length d)) d ≡ true
digits_fit [] e = refl
digits_fit (b ∷ d) e = let h = both (digit b) (all digit d) e in and_both (digit b) (fits (copies (length d)) d) h.0 (digits_fit d h.1)

fit_digits : (k : ℕ) (d : Word) → fits (copies k) d ≡ true → (length d ≡ k) × (all digit d ≡ true)
fit_digits zero [] e = (refl, refl)
fit_digits zero (b ∷ d) e = absurd (false≢true e)
fit_digits (suc k) [] e = absurd (false≢true e)
fit_digits (suc k) (b ∷ d) e =
    let h = both (digit b) (fits (copies k) d) e in
    let i = fit_digits k d h.1 in
    (ap suc i.0, and_both (digit b) (all digit d) h.0 i.1)

-- d is the n digits that are due
pub record Due (n : ℕ) (d : Word) : Type 0 where
  pub some : 0 < n
  pub size : length d ≡ n
  pub digits : all digit d ≡ true

due_fit : (n : ℕ) (d : Word) → Due n d → fits (copies n) d ≡ true
due_fit n d h = ap (λ (m : ℕ). fits (copies m) d) (sym h.size) ∙ digits_fit d h.digits

-- d behind a letter of one kind, where k digits are due, or of another, where l are
module _ (k l : ℕ) (d : Word) where
  abbrev either : Bool → Bool → Bool
  either p q = cond (p && fits (copies k) d) true (cond (q && fits (copies l) d) true false)

  due : 0 < k → 0 < l → (p q : Bool) → (q ≡ true → p ≡ false) → either p q ≡ true → Due (cond p k (cond q l 0)) d
  due hk hl true q a e = go (fits (copies k) d) refl q a e
    where
      go : (b : Bool) → fits (copies k) d ≡ b → (q : Bool) → (q ≡ true → true ≡ false) → cond b true (cond (q && fits (copies l) d) true false) ≡ true → Due k d
      go true p q a e = let h = fit_digits k d p in record { some = hk; size = h.0; digits = h.1 }
      go false p true a e = absurd (true≢false (a refl))
      go false p false a e = absurd (false≢true e)
  due hk hl false true a e = go (fits (copies l) d) refl e
    where
      go : (b : Bool) → fits (copies l) d ≡ b → cond b true false ≡ true → Due l d
      go true p e = let h = fit_digits l d p in record { some = hl; size = h.0; digits = h.1 }
      go false p e = absurd (false≢true e)
  due hk hl false false a e = absurd (false≢true e)

  made : (p q : Bool) → Due (cond p k (cond q l 0)) d → either p q ≡ true
  made true q h = rw (due_fit k d h)
  made false true h = rw (due_fit l d h)
  made false false h = let z = h.some in absurd (omega arith)

-- a byte of one set is not of another that has none of its bytes
apart : (xs ys : List ℕ) → all (λ x. not (one_of x ys)) xs ≡ true → (b : ℕ) → one_of b xs ≡ true → one_of b ys ≡ false
apart xs ys a b e = not-true (one_of b ys) (of_one (λ x. not (one_of x ys)) xs a b e)

pub speed_due : (b : ℕ) (d : Word) → any (wides speeds) (b ∷ d) ≡ true → Due (speed_digits b) d
unfolding speeds speed_digits letters
speed_due b d e = due 4 3 d (omega arith) (omega arith) (one_of b (bytes "KN")) (one_of b (bytes "M")) (apart (bytes "M") (bytes "KN") refl b) e

pub speed_made : (b : ℕ) (d : Word) → Due (speed_digits b) d → any (wides speeds) (b ∷ d) ≡ true
unfolding speeds speed_digits letters
speed_made b d h = made 4 3 d (one_of b (bytes "KN")) (one_of b (bytes "M")) h

pub level_due : (b : ℕ) (d : Word) → any (wides levels) (b ∷ d) ≡ true → Due (level_digits b) d
unfolding levels level_digits letters
level_due b d e = due 3 4 d (omega arith) (omega arith) (one_of b (bytes "FA")) (one_of b (bytes "SM")) (apart (bytes "SM") (bytes "FA") refl b) e

pub level_made : (b : ℕ) (d : Word) → Due (level_digits b) d → any (wides levels) (b ∷ d) ≡ true
unfolding levels level_digits letters
level_made b d h = made 3 4 d (one_of b (bytes "FA")) (one_of b (bytes "SM")) h

-- at the front of a word

abbrev number_in : (ℕ → ℕ) → Word → ℕ
number_in size w = number_at 1 (size (letter_of w)) w

module _ (size : ℕ → ℕ) (ts : List Word) (none : any (wides ts) [] ≡ false)
    (due : (b : ℕ) (d : Word) → any (wides ts) (b ∷ d) ≡ true → Due (size b) d)
    (made : (b : ℕ) (d : Word) → Due (size b) d → any (wides ts) (b ∷ d) ≡ true) where
  front_spelled : (v t : Word) → any (wides ts) v ≡ true → letter_of (v ++ t) ∷ digits (size (letter_of (v ++ t))) (number_in size (v ++ t)) ≡ v
  front_spelled [] t e = absurd (false≢true (sym none ∙ e))
  front_spelled (b ∷ d) t e =
      let h = due b d e in
      let n : digits (size b) (value d) ≡ d = ap (λ (k : ℕ). digits k (value d)) (sym h.size) ∙ digits_value d h.digits in
      rw (take_at d t (size b) h.size, n)

  front_held : (v t : Word) → any (wides ts) v ≡ true → in_digits (size (letter_of (v ++ t))) (number_in size (v ++ t)) ≡ true
  front_held [] t e = absurd (false≢true (sym none ∙ e))
  front_held (b ∷ d) t e =
      let h = due b d e in
      let l : value d < 10 ^ size b = rw h.size at (value_below d h.digits) in
      rw (take_at d t (size b) h.size, lt-ltb 0 (size b) h.some, lt-ltb (value d) (10 ^ size b) l)

  front_left : (v t : Word) → any (wides ts) v ≡ true → drop (size (letter_of (v ++ t))) (drop 1 (v ++ t)) ≡ t
  front_left [] t e = absurd (false≢true (sym none ∙ e))
  front_left (b ∷ d) t e = drop_at d t (size b) (due b d e).size

  front_taken : (u n : ℕ) → in_digits (size u) n ≡ true → any (wides ts) (u ∷ digits (size u) n) ≡ true
  front_taken u n e =
      let h = both (ltb 0 (size u)) (ltb n (10 ^ size u)) e in
      made u (digits (size u) n)
      (record {
        some = ltb-true 0 (size u) h.0;
        size = digits_length (size u) n;
        digits = digits_digits (size u) n (ltb-true n (10 ^ size u) h.1);
      })

  front_back : (u n : ℕ) (t : Word) → in_digits (size u) n ≡ true → value (take (size u) (digits (size u) n ++ t)) ≡ n
  front_back u n t e =
      let h = both (ltb 0 (size u)) (ltb n (10 ^ size u)) e in
      rw (take_at (digits (size u) n) t (size u) (digits_length (size u) n)) (value_digits (size u) n (ltb-true n (10 ^ size u) h.1))

pub speed_none : any (wides speeds) [] ≡ false
unfolding speeds
speed_none = refl

pub level_none : any (wides levels) [] ≡ false
unfolding levels
level_none = refl

speed : Front Speed speeds speed_of past_speed spell_speed valid_speed
speed =
    record {
      spelled = front_spelled speed_digits speeds speed_none speed_due speed_made;
      held = front_held speed_digits speeds speed_none speed_due speed_made;
      left = front_left speed_digits speeds speed_none speed_due speed_made;
      taken = λ x e. front_taken speed_digits speeds speed_none speed_due speed_made x.unit x.number e;
      back = λ x t e.
          ap (λ (n : ℕ). record { unit = x.unit; number = n }) (front_back speed_digits speeds speed_none speed_due speed_made x.unit x.number t e);
    }

level : Front Level levels level_of past_level spell_level valid_level
level =
    record {
      spelled = front_spelled level_digits levels level_none level_due level_made;
      held = front_held level_digits levels level_none level_due level_made;
      left = front_left level_digits levels level_none level_due level_made;
      taken = λ x e. front_taken level_digits levels level_none level_due level_made x.unit x.number e;
      back = λ x t e.
          ap (λ (n : ℕ). record { unit = x.unit; number = n }) (front_back level_digits levels level_none level_due level_made x.unit x.number t e);
    }

one_level : Part Level (any (wides levels)) level_of spell_level valid_level
one_level = alone Level levels level_of past_level spell_level valid_level level

-- A LEVEL, OR ANOTHER WORD

-- a shape of letters that stand for themselves takes that word alone
fits_same : (k w : Word) → all (λ x. not (digit x) && same (letters x) (x ∷ [])) k ≡ true → fits k w ≡ same w k
fits_same [] [] a = refl
fits_same [] (b ∷ w) a = refl
fits_same (x ∷ k) [] a = refl
fits_same (x ∷ k) (b ∷ w) a =
    let g = both (not (digit x) && same (letters x) (x ∷ [])) (all (λ x. not (digit x) && same (letters x) (x ∷ [])) k) a in
    let h = both (not (digit x)) (same (letters x) (x ∷ [])) g.0 in
    rw (not-true (digit x) h.0, same-eq (letters x) (x ∷ []) h.1, fits_same k w g.1) (go (eqb b x))
  where
    go : (c : Bool) → (cond c true false && same w k) ≡ (c && same w k)
    go true = refl
    go false = refl

-- a level or k
module _ (k : Word) (itself : (w : Word) → fits (wide k) w ≡ same w k) (other : any (wides levels) k ≡ false) where
  abbrev or_word : List Word
  or_word = levels ++ (k ∷ [])

  or_level : (w : Word) → any (wides or_word) w ≡ true → same w k ≡ false → any (wides levels) w ≡ true
  or_level w e n = go (any (wides levels) w) (sym (any_append levels (k ∷ []) w) ∙ e)
    where
      go : (b : Bool) → cond b true (cond (fits (wide k) w) true false) ≡ true → b ≡ true
      go true q = refl
      go false q = absurd (false≢true (sym (ap (λ (c : Bool). cond c true false) (itself w ∙ n)) ∙ q))

  or_word_lem : any (wides or_word) k ≡ true
  or_word_lem = any_append levels (k ∷ []) k ∙ rw (other, itself k, same_self k)

  level_or : (w : Word) → any (wides levels) w ≡ true → any (wides or_word) w ≡ true
  level_or w e = any_append levels (k ∷ []) w ∙ rw e

  not_word : (w : Word) → any (wides levels) w ≡ true → same w k ≡ false
  not_word w e = same_other w k (λ q. false≢true (sym other ∙ ap (any (wides levels)) (sym q) ∙ e))

  -- a record that is this word or a level
  module _ (A : Type 0) (word : A) (wrap : Level → A) (cases : (P : A → Type 0) → P word → ((l : Level) → P (wrap l)) → (x : A) → P x)
      (spell : A → Word) (valid : A → Bool) (word-spell : spell word ≡ k) (wrap-spell : (l : Level) → spell (wrap l) ≡ spell_level l)
      (word_valid : valid word ≡ true) (wrap-valid : (l : Level) → valid (wrap l) ≡ valid_level l) where
    abbrev or_of : Word → A
    or_of w = cond (same w k) word (wrap (level_of w))

    or_spelled : (w : Word) → any (wides or_word) w ≡ true → spell (or_of w) ≡ w
    or_spelled w e = go (same w k) refl
      where
        go : (b : Bool) → same w k ≡ b → spell (cond b word (wrap (level_of w))) ≡ w
        go true p = word-spell ∙ sym (same-eq w k p)
        go false p = wrap-spell (level_of w) ∙ one_level.spelled w (or_level w e p)

    or_held : (w : Word) → any (wides or_word) w ≡ true → valid (or_of w) ≡ true
    or_held w e = go (same w k) refl
      where
        go : (b : Bool) → same w k ≡ b → valid (cond b word (wrap (level_of w))) ≡ true
        go true p = word_valid
        go false p = wrap-valid (level_of w) ∙ one_level.held w (or_level w e p)

    or_part : Part A (any (wides or_word)) or_of spell valid
    or_part =
        record {
          spelled = or_spelled;
          held = or_held;
          taken =
              cases (λ x. valid x ≡ true → any (wides or_word) (spell x) ≡ true)
              (λ e. ap (any (wides or_word)) word-spell ∙ or_word_lem)
              (λ l e. ap (any (wides or_word)) (wrap-spell l) ∙ level_or (spell_level l) (one_level.taken l (sym (wrap-valid l) ∙ e)));
          back =
              cases (λ x. valid x ≡ true → or_of (spell x) ≡ x)
              (λ e. ap or_of word-spell ∙ rw (same_self k))
              (λ l e.
              let v = sym (wrap-valid l) ∙ e in
              ap or_of (wrap-spell l) ∙ rw (not_word (spell_level l) (one_level.taken l v)) (ap wrap (one_level.back l v)));
        }

pub vfr_itself : (w : Word) → fits (wide (bytes "VFR")) w ≡ same w (bytes "VFR")
unfolding letters
vfr_itself w = fits_same (bytes "VFR") w refl

pub plus_itself : (w : Word) → fits (wide (bytes "PLUS")) w ≡ same w (bytes "PLUS")
unfolding letters
plus_itself w = fits_same (bytes "PLUS") w refl

no_words : (any (wides levels) (bytes "VFR") ≡ false) × (any (wides levels) (bytes "PLUS") ≡ false)
unfolding levels letters
no_words = (refl, refl)

start_cases : (P : StartLevel → Type 0) → P vfr → ((l : Level) → P (cruising l)) → (x : StartLevel) → P x
start_cases P p q vfr = p
start_cases P p q (cruising l) = q l

upper_cases : (P : UpperLevel → Type 0) → P plus → ((l : Level) → P (upper l)) → (x : UpperLevel) → P x
upper_cases P p q plus = p
upper_cases P p q (upper l) = q l

start_level : Part StartLevel (any (wides (levels ++ (bytes "VFR" ∷ [])))) start_of spell_start valid_start
start_level =
    or_part (bytes "VFR") vfr_itself no_words.0 StartLevel vfr cruising start_cases spell_start valid_start refl (λ l. refl) refl (λ l. refl)

upper_level : Part UpperLevel (any (wides (levels ++ (bytes "PLUS" ∷ [])))) upper_of spell_upper valid_upper
upper_level =
    or_part (bytes "PLUS") plus_itself no_words.1 UpperLevel plus upper upper_cases spell_upper valid_upper refl (λ l. refl) refl (λ l. refl)

-- SPEED AND LEVEL, at the start, at a change and at a climb

pub start : Part (Speed × StartLevel) (any (wides starts))
    (λ w. (speed_of w, start_of (past_speed w)))
    (λ x. spell_speed x.0 ++ spell_start x.1)
    (λ x. valid_speed x.0 && valid_start x.1)
unfolding starts
start =
    then Speed speeds speed_of past_speed spell_speed valid_speed speed StartLevel (levels ++ (bytes "VFR" ∷ [])) start_of spell_start valid_start start_level

pub change : Part (Speed × Level) (any (wides changes))
    (λ w. (speed_of w, level_of (past_speed w)))
    (λ x. spell_speed x.0 ++ spell_level x.1)
    (λ x. valid_speed x.0 && valid_level x.1)
unfolding changes
change = then Speed speeds speed_of past_speed spell_speed valid_speed speed Level levels level_of spell_level valid_level one_level

pub climb : Part (Speed × (Level × UpperLevel)) (any (wides climbs))
    (λ w. (speed_of w, (level_of (past_speed w), upper_of (past_level (past_speed w)))))
    (λ x. spell_speed x.0 ++ (spell_level x.1.0 ++ spell_upper x.1.1))
    (λ x. valid_speed x.0 && (valid_level x.1.0 && valid_upper x.1.1))
unfolding climbs
climb =
    then Speed speeds speed_of past_speed spell_speed valid_speed speed (Level × UpperLevel) (each levels (levels ++ (bytes "PLUS" ∷ [])))
    (λ w. (level_of w, upper_of (past_level w)))
    (λ x. spell_level x.0 ++ spell_upper x.1)
    (λ x. valid_level x.0 && valid_upper x.1)
    (then Level levels level_of past_level spell_level valid_level level UpperLevel (levels ++ (bytes "PLUS" ∷ [])) upper_of spell_upper valid_upper
    upper_level)
