-- Field 15 (document 01, "15"): speed and level, then one or more words. Assumes nothing.
use Rattle.std.specs.Prelude.{ℕ, Bool, true, false, ◌&&◌, not, cond, List, [], ◌∷◌, ◌++◌}
use Rattle.alphabet.specs.Text.{bytes}
use Rattle.text.specs.Words.{Word, split, join, holds, before, behind, null, same, elem}
use Rattle.shape.specs.Shape.{wides, any}
use Rattle.shape.specs.Field.{Field}
use Rattle.route.specs.Levels.{Speed, Level, StartLevel, UpperLevel, valid_speed, valid_level, valid_start, valid_upper, spell_speed, spell_level}
use Rattle.route.specs.Levels.{spell_start, spell_upper, starts, changes, climbs, speed_of, past_speed, level_of, past_level, start_of, upper_of}
use Rattle.route.specs.Points.{indicators, Point, valid_point, spell_point, point_fits, point_of}

-- THE WORDS OF A ROUTE

-- DCT, VFR, IFR or T; a point; a point, '/', speed and level; 'C/', a point, '/', speed, level and a second level or PLUS
pub data Element : Type 0 where
  indicator : Word → Element
  plain : Point → Element
  change : (point : Point) (speed : Speed) (level : Level) → Element
  climb : (point : Point) (speed : Speed) (lower : Level) (second : UpperLevel) → Element

-- T alone may stand only last; names before an oblique have at most 5 signs
unfoldable pub valid_element : Bool → Element → Bool
valid_element last (indicator w) = cond (same w (bytes "T")) last (elem w indicators)
valid_element last (plain p) = valid_point 7 p
valid_element last (change p s l) = valid_point 5 p && (valid_speed s && valid_level l)
valid_element last (climb p s l u) = valid_point 5 p && (valid_speed s && (valid_level l && valid_upper u))

abbrev pub spell_element : Element → Word
spell_element (indicator w) = w
spell_element (plain p) = spell_point p
spell_element (change p s l) = spell_point p ++ (47 ∷ (spell_speed s ++ spell_level l))
spell_element (climb p s l u) = bytes "C/" ++ (spell_point p ++ (47 ∷ (spell_speed s ++ (spell_level l ++ spell_upper u))))

-- a point, '/', and one of a list of shapes
unfoldable pub pair_fits : List Word → Word → Bool
pair_fits ts w = holds 47 w && (point_fits 5 (before 47 w) && any ts (behind 47 w))

abbrev pub word_fits : Bool → Word → Bool
word_fits last w = cond (same w (bytes "T")) last (cond (elem w indicators) true (point_fits 7 w))

unfoldable pub element_fits : Bool → Word → Bool
element_fits last w =
    cond (holds 47 w)
    (cond (same (before 47 w) (bytes "C")) (pair_fits (wides climbs) (behind 47 w)) (pair_fits (wides changes) w))
    (word_fits last w)

abbrev pub change_of : Word → Word → Element
change_of p f = change (point_of p) (speed_of f) (level_of (past_speed f))

abbrev pub climb_of : Word → Word → Element
climb_of p f = climb (point_of p) (speed_of f) (level_of (past_speed f)) (upper_of (past_level (past_speed f)))

abbrev pub word_of : Word → Element
word_of w = cond (elem w (bytes "T" ∷ indicators)) (indicator w) (plain (point_of w))

abbrev pub element_of : Word → Element
element_of w =
    cond (holds 47 w)
    (cond (same (before 47 w) (bytes "C"))
    (climb_of (before 47 (behind 47 w)) (behind 47 (behind 47 w)))
    (change_of (before 47 w) (behind 47 w)))
    (word_of w)

-- THE FIELD: speed and level, then one or more words

pub record Field15 : Type 0 where
  pub speed : Speed
  pub level : StartLevel
  pub route : List Element

abbrev pub valid_route : List Element → Bool
valid_route [] = true
valid_route (x ∷ xs) = valid_element (null xs) x && valid_route xs

unfoldable pub valid15 : Field15 → Bool
valid15 r = (valid_speed r.speed && valid_start r.level) && (not (null r.route) && valid_route r.route)

abbrev pub spell_route : List Element → List Word
spell_route [] = []
spell_route (x ∷ xs) = spell_element x ∷ spell_route xs

abbrev pub spell15 : Field15 → List ℕ
spell15 r = join 32 ((spell_speed r.speed ++ spell_start r.level) ∷ spell_route r.route)

abbrev pub route_fits : List Word → Bool
route_fits [] = true
route_fits (w ∷ ws) = element_fits (null ws) w && route_fits ws

abbrev pub words_fit : List Word → Bool
words_fit [] = false
words_fit (w ∷ ws) = any (wides starts) w && (not (null ws) && route_fits ws)

unfoldable pub fits15 : List ℕ → Bool
fits15 s = words_fit (split 32 s)

abbrev pub route_of : List Word → List Element
route_of [] = []
route_of (w ∷ ws) = element_of w ∷ route_of ws

-- there is always a first word
abbrev pub record_of : List Word → Field15
record_of [] = record { speed = speed_of []; level = start_of []; route = [] }
record_of (w ∷ ws) = record { speed = speed_of w; level = start_of (past_speed w); route = route_of ws }

unfoldable pub record15 : List ℕ → Field15
record15 s = record_of (split 32 s)

abbrev pub field15 : Field
field15 = record { Record = Field15; valid = valid15; spell = spell15; fits = fits15; record_of = record15; canonical = λ r. r }
