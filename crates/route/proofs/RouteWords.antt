-- The words of a route: their records and their spellings determine one another, and a word that fits is tidy. Assumes nothing.
use Prim.Native.Nat.{◌<◌}
use mathlib.Core.Path.{◌≡◌, refl, sym, ap, ap₂, ◌∙◌}
use mathlib.Core.Bool.{Bool, true, false, cond, ◌&&◌, ◌||◌, not, false≢true}
use mathlib.Core.List.{List, [], ◌∷◌, ◌++◌}
use native.Mathlib.Omega.{arith}
use lib.ListN.{length}
use Rattle.alphabet.specs.Text.{bytes}
use Rattle.alphabet.specs.Alphabet.{digit, sign, text, in_alphabet, white}
use Rattle.text.specs.Words.{Word, holds, before, behind, all, null, free, same, elem, tidy_byte, tidy_word}
use Rattle.text.proofs.Tests.{both, and_both, all_imp, all_append, all-free, same-eq, same_lengths, of_elem}
use Rattle.text.proofs.Joined.{seam, holds_seam, before_seam, behind_seam, holds-free}
use Rattle.text.proofs.Tidy.{digit_sign, sign_tidy, tidy_word_lem, oblique_tidy}
use Rattle.shape.specs.Shape.{letters, fits, wides, any}
use Rattle.shape.proofs.Exact.{fits_all}
use Rattle.route.specs.Levels.{Speed, Level, UpperLevel, valid_speed, valid_level, valid_upper, spell_speed, spell_level, spell_upper, speeds, levels}
use Rattle.route.specs.Levels.{starts, changes, climbs, speed_of, past_speed, level_of, past_level, upper_of}
use Rattle.route.specs.Points.{indicators, Point, valid_point, spell_point, point_fits, point_of}
use Rattle.route.specs.Field15.{Element, indicator, plain, change, climb, valid_element, spell_element, pair_fits, word_fits, element_fits, change_of}
use Rattle.route.specs.Field15.{climb_of, element_of}
use Rattle.route.proofs.Parts.{Part}
use Rattle.route.proofs.Levels as part
use Rattle.route.proofs.Points.{point, Known, known}

-- A POINT, '/' AND A WORD OF A LIST OF SHAPES

point5 : Part Point (point_fits 5) point_of spell_point (valid_point 5)
point5 = point 5 (omega arith)

pub record Pair (ts : List Word) (w : Word) : Type 0 where
  pub oblique : holds 47 w ≡ true
  pub point : point_fits 5 (before 47 w) ≡ true
  pub form : any ts (behind 47 w) ≡ true

pub pair_parts : (ts : List Word) (w : Word) → pair_fits ts w ≡ true → Pair ts w
unfolding pair_fits
pair_parts ts w e =
    let h = both (holds 47 w) (point_fits 5 (before 47 w) && any ts (behind 47 w)) e in
    let i = both (point_fits 5 (before 47 w)) (any ts (behind 47 w)) h.1 in
    record { oblique = h.0; point = i.0; form = i.1 }

pub known_free : (w : Word) → Known w → free 47 w ≡ true
known_free w k = all-free sign 47 refl w k.signs

module _ (A : Type 0) (ts : List Word) (of : Word → A) (spell : A → Word) (valid : A → Bool) (g : Part A (any (wides ts)) of spell valid) where
  abbrev pair_of : Word → Point × A
  pair_of w = (point_of (before 47 w), of (behind 47 w))

  abbrev pair_spell : Point × A → Word
  pair_spell x = spell_point x.0 ++ (47 ∷ spell x.1)

  abbrev pair_valid : Point × A → Bool
  pair_valid x = valid_point 5 x.0 && valid x.1

  pair_spelled : (w : Word) → pair_fits (wides ts) w ≡ true → pair_spell (pair_of w) ≡ w
  pair_spelled w e =
      let h = pair_parts (wides ts) w e in
      ap₂ (λ (u v : Word). u ++ (47 ∷ v)) (point5.spelled (before 47 w) h.point) (g.spelled (behind 47 w) h.form) ∙ seam 47 w h.oblique

  pair_held : (w : Word) → pair_fits (wides ts) w ≡ true → pair_valid (pair_of w) ≡ true
  pair_held w e =
      let h = pair_parts (wides ts) w e in
      and_both (valid_point 5 (point_of (before 47 w))) (valid (of (behind 47 w))) (point5.held (before 47 w) h.point) (g.held (behind 47 w) h.form)

  module _ (p : Point) (x : A) (e : valid_point 5 p ≡ true) (v : valid x ≡ true) where
    point_known : Known (spell_point p)
    point_known = known 5 (spell_point p) (point5.taken p e)

    point_free : free 47 (spell_point p) ≡ true
    point_free = known_free (spell_point p) point_known

    pair_holds : holds 47 (spell_point p ++ (47 ∷ spell x)) ≡ true
    pair_holds = holds_seam 47 (spell_point p) (spell x) point_free

    pair_before : before 47 (spell_point p ++ (47 ∷ spell x)) ≡ spell_point p
    pair_before = before_seam 47 (spell_point p) (spell x) point_free

    pair_behind : behind 47 (spell_point p ++ (47 ∷ spell x)) ≡ spell x
    pair_behind = behind_seam 47 (spell_point p) (spell x) point_free

    pair_taken : pair_fits (wides ts) (spell_point p ++ (47 ∷ spell x)) ≡ true
    unfolding pair_fits
    pair_taken =
        let w = spell_point p ++ (47 ∷ spell x) in
        and_both (holds 47 w) (point_fits 5 (before 47 w) && any (wides ts) (behind 47 w)) pair_holds
        (and_both (point_fits 5 (before 47 w)) (any (wides ts) (behind 47 w))
        (ap (point_fits 5) pair_before ∙ point5.taken p e)
        (ap (any (wides ts)) pair_behind ∙ g.taken x v))

    pair_back : pair_of (spell_point p ++ (47 ∷ spell x)) ≡ (p, x)
    pair_back = ap₂ (λ (a : Point) (b : A). (a, b)) (ap point_of pair_before ∙ point5.back p e) (ap of pair_behind ∙ g.back x v)

  pub pair : Part (Point × A) (pair_fits (wides ts)) pair_of pair_spell pair_valid
  pair =
      record {
        spelled = pair_spelled;
        held = pair_held;
        taken = λ x e. let h = both (valid_point 5 x.0) (valid x.1) e in pair_taken x.0 x.1 h.0 h.1;
        back = λ x e. let h = both (valid_point 5 x.0) (valid x.1) e in pair_back x.0 x.1 h.0 h.1;
      }

changed : Part (Point × (Speed × Level)) (pair_fits (wides changes))
    (λ w. (point_of (before 47 w), (speed_of (behind 47 w), level_of (past_speed (behind 47 w)))))
    (λ x. spell_point x.0 ++ (47 ∷ (spell_speed x.1.0 ++ spell_level x.1.1)))
    (λ x. valid_point 5 x.0 && (valid_speed x.1.0 && valid_level x.1.1))
changed = pair (Speed × Level) changes _ _ _ part.change

climbed : Part (Point × (Speed × (Level × UpperLevel))) (pair_fits (wides climbs))
    (λ w. (point_of (before 47 w), (speed_of (behind 47 w), (level_of (past_speed (behind 47 w)), upper_of (past_level (past_speed (behind 47 w)))))))
    (λ x. spell_point x.0 ++ (47 ∷ (spell_speed x.1.0 ++ (spell_level x.1.1.0 ++ spell_upper x.1.1.1))))
    (λ x. valid_point 5 x.0 && (valid_speed x.1.0 && (valid_level x.1.1.0 && valid_upper x.1.1.1)))
climbed = pair (Speed × (Level × UpperLevel)) climbs _ _ _ part.climb

-- WHICH FORM A WORD HAS

module _ (last : Bool) (w : Word) where
  is_climb : holds 47 w ≡ true → same (before 47 w) (bytes "C") ≡ true
      → (element_fits last w ≡ pair_fits (wides climbs) (behind 47 w)) × (element_of w ≡ climb_of (before 47 (behind 47 w)) (behind 47 (behind 47 w)))
  unfolding element_fits
  is_climb h s = (rw (h, s), rw (h, s))

  is_change_lem : holds 47 w ≡ true → same (before 47 w) (bytes "C") ≡ false
      → (element_fits last w ≡ pair_fits (wides changes) w) × (element_of w ≡ change_of (before 47 w) (behind 47 w))
  unfolding element_fits
  is_change_lem h s = (rw (h, s), rw (h, s))

  is_last : holds 47 w ≡ false → same w (bytes "T") ≡ true → (element_fits last w ≡ last) × (element_of w ≡ indicator w)
  unfolding element_fits
  is_last h s = (rw (h, s), rw (h, s))

  is_indicator : holds 47 w ≡ false → same w (bytes "T") ≡ false → elem w indicators ≡ true → (element_fits last w ≡ true) × (element_of w ≡ indicator w)
  unfolding element_fits
  is_indicator h s i = (rw (h, s, i), rw (h, s, i))

  is_plain : holds 47 w ≡ false → same w (bytes "T") ≡ false → elem w indicators ≡ false
      → (element_fits last w ≡ point_fits 7 w) × (element_of w ≡ plain (point_of w))
  unfolding element_fits
  is_plain h s i = (rw (h, s, i), rw (h, s, i))

-- the five forms of a word that fits
pub data Formed (last : Bool) (w : Word) : Type 0 where
  a_climb : holds 47 w ≡ true → same (before 47 w) (bytes "C") ≡ true → pair_fits (wides climbs) (behind 47 w) ≡ true → Formed last w
  a_change : holds 47 w ≡ true → same (before 47 w) (bytes "C") ≡ false → pair_fits (wides changes) w ≡ true → Formed last w
  a_last : holds 47 w ≡ false → same w (bytes "T") ≡ true → last ≡ true → Formed last w
  an_indicator : holds 47 w ≡ false → same w (bytes "T") ≡ false → elem w indicators ≡ true → Formed last w
  a_plain : holds 47 w ≡ false → same w (bytes "T") ≡ false → elem w indicators ≡ false → point_fits 7 w ≡ true → Formed last w

pub formed : (last : Bool) (w : Word) → element_fits last w ≡ true → Formed last w
unfolding element_fits
formed last w e = first (holds 47 w) refl e
  where
    fourth : holds 47 w ≡ false → same w (bytes "T") ≡ false → (b : Bool) → elem w indicators ≡ b → cond b true (point_fits 7 w) ≡ true → Formed last w
    fourth h s true i q = an_indicator h s i
    fourth h s false i q = a_plain h s i q

    third : holds 47 w ≡ false → (b : Bool) → same w (bytes "T") ≡ b → cond b last (cond (elem w indicators) true (point_fits 7 w)) ≡ true → Formed last w
    third h true s q = a_last h s q
    third h false s q = fourth h s (elem w indicators) refl q

    second : holds 47 w ≡ true → (b : Bool) → same (before 47 w) (bytes "C") ≡ b
        → cond b (pair_fits (wides climbs) (behind 47 w)) (pair_fits (wides changes) w) ≡ true → Formed last w
    second h true s q = a_climb h s q
    second h false s q = a_change h s q

    first : (b : Bool) → holds 47 w ≡ b
        → cond b (cond (same (before 47 w) (bytes "C")) (pair_fits (wides climbs) (behind 47 w)) (pair_fits (wides changes) w)) (word_fits last w) ≡ true
        → Formed last w
    first true h q = second h (same (before 47 w) (bytes "C")) refl q
    first false h q = third h (same w (bytes "T")) refl q

-- EXACT

element_spelled : (last : Bool) (w : Word) → Formed last w → spell_element (element_of w) ≡ w
element_spelled last w (a_climb h s q) =
    ap spell_element (is_climb last w h s).1
    ∙ ap (λ (t : Word). bytes "C/" ++ t) (climbed.spelled (behind 47 w) q)
    ∙ ap (λ (t : Word). t ++ (47 ∷ behind 47 w)) (sym (same-eq (before 47 w) (bytes "C") s))
    ∙ seam 47 w h
element_spelled last w (a_change h s q) = ap spell_element (is_change_lem last w h s).1 ∙ changed.spelled w q
element_spelled last w (a_last h s q) = ap spell_element (is_last last w h s).1
element_spelled last w (an_indicator h s i) = ap spell_element (is_indicator last w h s i).1
element_spelled last w (a_plain h s i q) = ap spell_element (is_plain last w h s i).1 ∙ (point 7 (omega arith)).spelled w q

-- SOUND

element_held : (last : Bool) (w : Word) → Formed last w → valid_element last (element_of w) ≡ true
unfolding valid_element
element_held last w (a_climb h s q) = ap (valid_element last) (is_climb last w h s).1 ∙ climbed.held (behind 47 w) q
element_held last w (a_change h s q) = ap (valid_element last) (is_change_lem last w h s).1 ∙ changed.held w q
element_held last w (a_last h s q) = ap (valid_element last) (is_last last w h s).1 ∙ rw s q
element_held last w (an_indicator h s i) = ap (valid_element last) (is_indicator last w h s i).1 ∙ rw s i
element_held last w (a_plain h s i q) = ap (valid_element last) (is_plain last w h s i).1 ∙ (point 7 (omega arith)).held w q

-- COMPLETE

pub indicator_free : (w : Word) → elem w indicators ≡ true → free 47 w ≡ true
unfolding indicators
indicator_free w e = of_elem (free 47) indicators refl w e

element_back : (last : Bool) (x : Element) → valid_element last x ≡ true → (element_fits last (spell_element x) ≡ true) × (element_of (spell_element x) ≡ x)
unfolding valid_element
element_back last (indicator w) e = go (same w (bytes "T")) refl e
  where
    go : (b : Bool) → same w (bytes "T") ≡ b → cond b last (elem w indicators) ≡ true → (element_fits last w ≡ true) × (element_of w ≡ indicator w)
    go true s q =
        let i = is_last last w (ap (holds 47) (same-eq w (bytes "T") s)) s in
        (i.0 ∙ q, i.1)
    go false s q = is_indicator last w (holds-free 47 w (indicator_free w q)) s q
element_back last (plain p) e =
    let c = point 7 (omega arith) in
    let k = known 7 (spell_point p) (c.taken p e) in
    let l = k.least in
    let o = holds-free 47 (spell_point p) (known_free (spell_point p) k) in
    let i = is_plain last (spell_point p) o (same_lengths (spell_point p) (bytes "T") (λ q. omega arith)) k.other in
    (i.0 ∙ c.taken p e, i.1 ∙ ap plain (c.back p e))
element_back last (change p s l) e =
    let v = both (valid_point 5 p) (valid_speed s && valid_level l) e in
    let k = known 5 (spell_point p) (point5.taken p v.0) in
    let m = k.least in
    let f = known_free (spell_point p) k in
    let w = spell_element (change p s l) in
    let h = holds_seam 47 (spell_point p) (spell_speed s ++ spell_level l) f in
    let n : same (before 47 w) (bytes "C") ≡ false
    = ap (λ (u : Word). same u (bytes "C")) (before_seam 47 (spell_point p) (spell_speed s ++ spell_level l) f)
    ∙ same_lengths (spell_point p) (bytes "C") (λ q. omega arith) in
    let i = is_change_lem last w h n in
    (i.0 ∙ changed.taken (p, (s, l)) e, i.1 ∙ ap (λ (x : Point × (Speed × Level)). change x.0 x.1.0 x.1.1) (changed.back (p, (s, l)) e))
element_back last (climb p s l u) e =
    let w = spell_element (climb p s l u) in
    let t = spell_point p ++ (47 ∷ (spell_speed s ++ (spell_level l ++ spell_upper u))) in
    let b : behind 47 w ≡ t = behind_seam 47 (bytes "C") t refl in
    let i = is_climb last w (holds_seam 47 (bytes "C") t refl) (ap (λ (v : Word). same v (bytes "C")) (before_seam 47 (bytes "C") t refl)) in (
      i.0 ∙ ap (pair_fits (wides climbs)) b ∙ climbed.taken (p, (s, (l, u))) e,
      i.1
          ∙ ap (λ (v : Word). climb_of (before 47 v) (behind 47 v)) b
          ∙ ap (λ (x : Point × (Speed × (Level × UpperLevel))). climb x.0 x.1.0 x.1.1.0 x.1.1.1) (climbed.back (p, (s, (l, u))) e),
    )

pub element : (last : Bool) → Part Element (element_fits last) element_of spell_element (valid_element last)
element last =
    record {
      spelled = λ w e. element_spelled last w (formed last w e);
      held = λ w e. element_held last w (formed last w e);
      taken = λ x e. (element_back last x e).0;
      back = λ x e. (element_back last x e).1;
    }

-- TIDY

-- shapes of signs alone
abbrev signed : List Word → Bool
signed ts = all (λ t. all (λ x. digit x || all sign (letters x)) t) ts

any_signs : (ts : List Word) (w : Word) → signed ts ≡ true → any ts w ≡ true → all sign w ≡ true
any_signs [] w a e = absurd (false≢true e)
any_signs (t ∷ ts) w a e = go (any_signs ts w g.1) (fits t w) refl e
  where
    g : (all (λ x. digit x || all sign (letters x)) t ≡ true) × (signed ts ≡ true)
    g = both (all (λ x. digit x || all sign (letters x)) t) (signed ts) a

    go : (any ts w ≡ true → all sign w ≡ true) → (b : Bool) → fits t w ≡ b → cond b true (any ts w) ≡ true → all sign w ≡ true
    go ih true p q = fits_all sign digit_sign t w g.0 p
    go ih false p q = ih q

starts_signed : signed (wides starts) ≡ true
unfolding starts speeds levels letters
starts_signed = refl

changes_signed : signed (wides changes) ≡ true
unfolding changes speeds levels letters
changes_signed = refl

climbs_signed : signed (wides climbs) ≡ true
unfolding climbs speeds levels letters
climbs_signed = refl

tidy_seam : (w : Word) → holds 47 w ≡ true → all sign (before 47 w) ≡ true → all tidy_byte (behind 47 w) ≡ true → all tidy_byte w ≡ true
tidy_seam w h p q =
    ap (all tidy_byte) (sym (seam 47 w h))
    ∙ all_append tidy_byte (before 47 w) (47 ∷ behind 47 w)
    (all_imp sign tidy_byte sign_tidy (before 47 w) p)
    (and_both (tidy_byte 47) (all tidy_byte (behind 47 w)) oblique_tidy q)

pair_tidy : (ts : List Word) → signed ts ≡ true → (w : Word) → pair_fits ts w ≡ true → all tidy_byte w ≡ true
pair_tidy ts a w e =
    let h = pair_parts ts w e in
    let f = all_imp sign tidy_byte sign_tidy (behind 47 w) (any_signs ts (behind 47 w) a h.form) in
    tidy_seam w h.oblique (known 5 (before 47 w) h.point).signs f

some_word : (w : Word) → holds 47 w ≡ true → not (null w) ≡ true
some_word [] h = absurd (false≢true h)
some_word (b ∷ w) h = refl

indicators_tidy : all tidy_word (bytes "T" ∷ indicators) ≡ true
unfolding indicators text in_alphabet white
indicators_tidy = refl

element_tidied : (last : Bool) (w : Word) → Formed last w → tidy_word w ≡ true
element_tidied last w (a_climb h s q) =
    and_both (not (null w)) (all tidy_byte w) (some_word w h)
    (tidy_seam w h (ap (all sign) (same-eq (before 47 w) (bytes "C") s)) (pair_tidy (wides climbs) climbs_signed (behind 47 w) q))
element_tidied last w (a_change h s q) = and_both (not (null w)) (all tidy_byte w) (some_word w h) (pair_tidy (wides changes) changes_signed w q)
element_tidied last w (a_last h s q) = of_elem tidy_word (bytes "T" ∷ indicators) indicators_tidy w (rw s)
element_tidied last w (an_indicator h s i) = of_elem tidy_word (bytes "T" ∷ indicators) indicators_tidy w (rw s i)
element_tidied last w (a_plain h s i q) = let k = known 7 w q in let l = k.least in tidy_word_lem sign sign_tidy w (omega arith) k.signs

pub element_tidy : (last : Bool) (w : Word) → element_fits last w ≡ true → tidy_word w ≡ true
element_tidy last w e = element_tidied last w (formed last w e)

start_some : (w : Word) → any (wides starts) w ≡ true → 0 < length w
unfolding starts speeds levels
start_some [] e = absurd (false≢true e)
start_some (b ∷ w) e = omega arith

pub start_tidy : (w : Word) → any (wides starts) w ≡ true → tidy_word w ≡ true
start_tidy w e = tidy_word_lem sign sign_tidy w (start_some w e) (any_signs (wides starts) w starts_signed e)
