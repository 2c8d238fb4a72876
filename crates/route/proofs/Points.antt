-- Points: their records and their spellings determine one another, and what is known of a word that is a point. Assumes nothing.
use Prim.Native.Nat.{ℕ, ◌+◌, ◌-◌, ◌<◌, ◌≤◌}
use mathlib.Core.Path.{◌≡◌, refl, sym, ap, ap₂, ◌∙◌}
use mathlib.Core.Bool.{Bool, true, false, cond, ◌&&◌, not, true≢false}
use mathlib.Core.List.{List, [], ◌∷◌, ◌++◌}
use native.Mathlib.Omega.{arith}
use lib.Dec.{leb, ltb}
use lib.ListN.{length, drop, get_or, length-append, take-append-drop}
use lib.Seq.{drop-drop, take_at, drop_at, length-take-le, get_or-drop}
use borrow.Author.Tests.{leb-true, ltb-true, ltb-false, lt-ltb, le-ltb, le-leb, not-true}
use Rattle.alphabet.specs.Text.{bytes}
use Rattle.alphabet.specs.Alphabet.{sign, one_of}
use Rattle.text.specs.Words.{Word, all, elem}
use Rattle.text.proofs.Tests.{both, and_both, all_append, elem-length}
use Rattle.text.proofs.Tidy.{digit_sign}
use Rattle.shape.specs.Shape.{letters, fits, wide, values, spells, sized}
use Rattle.shape.proofs.Index.{fits_lengths, fits_other}
use Rattle.shape.proofs.Exact.{spells_values, values_spells, sized_values, fits_all, fits_drop, clash_law}
use Rattle.route.specs.Levels.{number_at}
use Rattle.route.specs.Points.{Degrees, Minutes, short, long, degrees_in_range, within, minutes_in_range, hemispheres, valid_degrees, valid_minutes}
use Rattle.route.specs.Points.{spell_degrees, spell_minutes, degrees_of, minutes_of, Radial, polar, signs_of, polar_of, valid_radial, spell_radial, radial_of}
use Rattle.route.specs.Points.{radial_fits, indicators, name_fits, Point, in_degrees, in_minutes, with_bearing, named, valid_point, spell_point, point_fits}
use Rattle.route.specs.Points.{point_of}
use Rattle.route.proofs.Parts.{Part}

-- a number of at most a is below b
below : (n a b : ℕ) → leb n a ≡ true → a < b → ltb n b ≡ true
below n a b e h = let l = leb-true n a e in lt-ltb n b (omega arith)

-- COORDINATES IN DEGREES

abbrev degrees_from : List ℕ → Degrees
degrees_from vs = record { latitude = get_or vs 0 0; north = get_or vs 1 0; longitude = get_or vs 2 0; east = get_or vs 3 0 }

abbrev degrees_numbers : Degrees → List ℕ
degrees_numbers c = c.latitude ∷ c.north ∷ c.longitude ∷ c.east ∷ []

degrees_values : (w : Word) → values short w ≡ degrees_numbers (degrees_of w)
degrees_values w =
    let three : drop 1 (drop 2 w) ≡ drop 3 w = drop-drop 1 2 w in
    let six : drop 3 (drop 3 w) ≡ drop 6 w = drop-drop 3 3 w in
    let north : get_or (drop 2 w) 0 0 ≡ get_or w 2 0 = get_or-drop 2 w 0 0 in
    let east : get_or (drop 6 w) 0 0 ≡ get_or w 6 0 = get_or-drop 6 w 0 0 in
    cc

degrees_sized : (c : Degrees) → valid_degrees c ≡ true → sized short (degrees_numbers c) ≡ true
unfolding letters
degrees_sized c e =
    let g = both (hemispheres c.north c.east) (degrees_in_range c) e in
    let h = both (one_of c.north (bytes "NS")) (one_of c.east (bytes "EW")) g.0 in
    let i = both (leb c.latitude 90) (leb c.longitude 180) g.1 in
    rw (below c.latitude 90 100 i.0 (omega arith), h.0, below c.longitude 180 1000 i.1 (omega arith), h.1)

degrees_spelled : (w : Word) → fits (wide short) w ≡ true → spell_degrees (degrees_of w) ≡ w
degrees_spelled w p = ap (spells short) (sym (degrees_values w)) ∙ spells_values short w p

degrees_held : (w : Word) → fits (wide short) w ≡ true → degrees_in_range (degrees_of w) ≡ true → valid_degrees (degrees_of w) ≡ true
unfolding letters
degrees_held w p q =
    let c = degrees_of w in
    let s : sized short (degrees_numbers c) ≡ true = ap (sized short) (sym (degrees_values w)) ∙ sized_values short w p in
    let n = (both (ltb c.latitude 100) _ s).1 in
    let h = both (one_of c.north (bytes "NS")) _ n in
    let e = (both (ltb c.longitude 1000) _ h.1).1 in
    let i = both (one_of c.east (bytes "EW")) true e in
    rw (h.0, i.0) q

degrees_back : (c : Degrees) → valid_degrees c ≡ true → (fits (wide short) (spell_degrees c) ≡ true) × (degrees_of (spell_degrees c) ≡ c)
degrees_back c e =
    let v = values_spells short (degrees_numbers c) (degrees_sized c e) in
    (v.0, ap degrees_from (sym (degrees_values (spell_degrees c)) ∙ v.1))

-- COORDINATES IN DEGREES AND MINUTES

abbrev minutes_from : List ℕ → Minutes
minutes_from vs =
    record {
      latitude = get_or vs 0 0;
      latitude_minutes = get_or vs 1 0;
      north = get_or vs 2 0;
      longitude = get_or vs 3 0;
      longitude_minutes = get_or vs 4 0;
      east = get_or vs 5 0;
    }

abbrev minutes_numbers : Minutes → List ℕ
minutes_numbers c = c.latitude ∷ c.latitude_minutes ∷ c.north ∷ c.longitude ∷ c.longitude_minutes ∷ c.east ∷ []

minutes_values : (w : Word) → values long w ≡ minutes_numbers (minutes_of w)
minutes_values w =
    let four : drop 2 (drop 2 w) ≡ drop 4 w = drop-drop 2 2 w in
    let five : drop 1 (drop 4 w) ≡ drop 5 w = drop-drop 1 4 w in
    let eight : drop 3 (drop 5 w) ≡ drop 8 w = drop-drop 3 5 w in
    let ten : drop 2 (drop 8 w) ≡ drop 10 w = drop-drop 2 8 w in
    let north : get_or (drop 4 w) 0 0 ≡ get_or w 4 0 = get_or-drop 4 w 0 0 in
    let east : get_or (drop 10 w) 0 0 ≡ get_or w 10 0 = get_or-drop 10 w 0 0 in
    cc

within_parts : (most d m : ℕ) → within most d m ≡ true → (leb d most ≡ true) × (leb m 59 ≡ true)
unfolding within
within_parts most d m e =
    let g = both (leb d most) _ e in
    (g.0, (both (leb m 59) _ g.1).0)

minutes_sized : (c : Minutes) → valid_minutes c ≡ true → sized long (minutes_numbers c) ≡ true
unfolding letters
minutes_sized c e =
    let g = both (hemispheres c.north c.east) (minutes_in_range c) e in
    let h = both (one_of c.north (bytes "NS")) (one_of c.east (bytes "EW")) g.0 in
    let i = both (within 90 c.latitude c.latitude_minutes) (within 180 c.longitude c.longitude_minutes) g.1 in
    let a = within_parts 90 c.latitude c.latitude_minutes i.0 in
    let b = within_parts 180 c.longitude c.longitude_minutes i.1 in
    rw (
      below c.latitude 90 100 a.0 (omega arith),
      below c.latitude_minutes 59 100 a.1 (omega arith),
      h.0,
      below c.longitude 180 1000 b.0 (omega arith),
      below c.longitude_minutes 59 100 b.1 (omega arith),
      h.1,
    )

minutes_spelled : (w : Word) → fits (wide long) w ≡ true → spell_minutes (minutes_of w) ≡ w
minutes_spelled w p = ap (spells long) (sym (minutes_values w)) ∙ spells_values long w p

minutes_held : (w : Word) → fits (wide long) w ≡ true → minutes_in_range (minutes_of w) ≡ true → valid_minutes (minutes_of w) ≡ true
unfolding letters
minutes_held w p q =
    let c = minutes_of w in
    let s : sized long (minutes_numbers c) ≡ true = ap (sized long) (sym (minutes_values w)) ∙ sized_values long w p in
    let n = (both (ltb c.latitude_minutes 100) _ (both (ltb c.latitude 100) _ s).1).1 in
    let h = both (one_of c.north (bytes "NS")) _ n in
    let e = (both (ltb c.longitude_minutes 100) _ (both (ltb c.longitude 1000) _ h.1).1).1 in
    let i = both (one_of c.east (bytes "EW")) true e in
    rw (h.0, i.0) q

minutes_back : (c : Minutes) → valid_minutes c ≡ true → (fits (wide long) (spell_minutes c) ≡ true) × (minutes_of (spell_minutes c) ≡ c)
minutes_back c e =
    let v = values_spells long (minutes_numbers c) (minutes_sized c e) in
    (v.0, ap minutes_from (sym (minutes_values (spell_minutes c)) ∙ v.1))

-- POINTS WITH BEARING

pub record Bearing (w : Word) : Type 0 where
  pub size : length w ≤ 11
  pub signs : all sign (signs_of w) ≡ true
  pub shape : fits (wide polar) (polar_of w) ≡ true
  pub circle : leb (number_at 0 3 (polar_of w)) 360 ≡ true

pub bearing_parts : (w : Word) → radial_fits w ≡ true → Bearing w
unfolding radial_fits
bearing_parts w e =
    let a = both (leb (length w) 11) _ e in
    let b = both (all sign (signs_of w)) _ a.1 in
    let c = both (fits (wide polar) (polar_of w)) (leb (number_at 0 3 (polar_of w)) 360) b.1 in
    record { size = leb-true (length w) 11 a.0; signs = b.0; shape = c.0; circle = c.1 }

radial_spelled : (w : Word) → radial_fits w ≡ true → spell_radial (radial_of w) ≡ w
radial_spelled w e =
    ap (λ (t : Word). signs_of w ++ t) (spells_values polar (polar_of w) (bearing_parts w e).shape) ∙ take-append-drop (length w - 6) w

radial_held : (w : Word) → 7 < length w → radial_fits w ≡ true → valid_radial (radial_of w) ≡ true
radial_held w l e =
    let r = bearing_parts w e in
    let m = r.size in
    let n : length (signs_of w) ≡ length w - 6 = length-take-le (length w - 6) w (omega arith) in
    let s : sized polar (values polar (polar_of w)) ≡ true = sized_values polar (polar_of w) r.shape in
    let d = (both (ltb (number_at 3 3 (polar_of w)) 1000) true (both (ltb (number_at 0 3 (polar_of w)) 1000) _ s).1).0 in
    let k = ltb-true (number_at 3 3 (polar_of w)) 1000 d in
    rw (
      le-leb 2 (length (signs_of w)) (omega arith),
      le-leb (length (signs_of w)) 5 (omega arith),
      r.signs,
      r.circle,
      le-leb (number_at 3 3 (polar_of w)) 999 (omega arith),
    )

-- signs and then bearing and distance are no coordinate
pub no_long : (w u : Word) → fits (wide polar) u ≡ true → fits (wide long) (w ++ u) ≡ false
unfolding letters
no_long w u e = go (fits (wide long) (w ++ u)) refl
  where
    n : length u ≡ 6
    n = fits_lengths (wide polar) u e

    go : (b : Bool) → fits (wide long) (w ++ u) ≡ b → b ≡ false
    go true p =
        let l : length (w ++ u) ≡ 11 = fits_lengths (wide long) (w ++ u) p in
        let k : length w ≡ 5 = omega (arith, length-append w u, n) in
        let q : fits (bytes "99999e") u ≡ true = ap (fits (bytes "99999e")) (sym (drop_at w u 5 k)) ∙ fits_drop 5 (wide long) (w ++ u) p in
        absurd (true≢false (sym q ∙ clash_law (wide polar) (bytes "99999e") u refl e))
    go false p = refl

record Spelt (r : Radial) : Type 0 where
  size : 7 < length (spell_radial r)
  other : fits (wide long) (spell_radial r) ≡ false
  taken : radial_fits (spell_radial r) ≡ true
  back : radial_of (spell_radial r) ≡ r

radial_back : (r : Radial) → valid_radial r ≡ true → Spelt r
unfolding radial_fits
radial_back r e =
    let g = both (leb 2 (length r.point) && leb (length r.point) 5) _ e in
    let s = both (leb 2 (length r.point)) (leb (length r.point) 5) g.0 in
    let h = both (all sign r.point) _ g.1 in
    let i = both (leb r.bearing 360) (leb r.distance 999) h.1 in
    let vs : List ℕ = r.bearing ∷ r.distance ∷ [] in
    let z : sized polar vs ≡ true = rw (below r.bearing 360 1000 i.0 (omega arith), below r.distance 999 1000 i.1 (omega arith)) in
    let v = values_spells polar vs z in
    let u = spells polar vs in
    let w = r.point in
    let a = leb-true 2 (length w) s.0 in
    let b = leb-true (length w) 5 s.1 in
    let n : length u ≡ 6 = fits_lengths (wide polar) u v.0 in
    let l : length (w ++ u) ≡ length w + length u = length-append w u in
    let k : length w ≡ length (w ++ u) - 6 = omega arith in
    let p : signs_of (w ++ u) ≡ w = take_at w u (length (w ++ u) - 6) k in
    let t : polar_of (w ++ u) ≡ u = drop_at w u (length (w ++ u) - 6) k in
    let q : values polar (polar_of (w ++ u)) ≡ vs = ap (values polar) t ∙ v.1 in
    record {
      size = omega arith;
      other = no_long w u v.0;
      taken =
          all_true (leb (length (w ++ u)) 11) (all sign (signs_of (w ++ u))) (fits (wide polar) (polar_of (w ++ u)))
          (leb (number_at 0 3 (polar_of (w ++ u))) 360)
          (le-leb (length (w ++ u)) 11 (omega arith)) (ap (all sign) p ∙ h.0) (ap (fits (wide polar)) t ∙ v.0)
          (ap (λ (ns : List ℕ). leb (get_or ns 0 0) 360) q ∙ i.0);
      back = ap₂ (λ (point : Word) (ns : List ℕ). record { point = point; bearing = get_or ns 0 0; distance = get_or ns 1 0 }) p q;
    }
  where
    all_true : (a b c d : Bool) → a ≡ true → b ≡ true → c ≡ true → d ≡ true → (a && (b && (c && d))) ≡ true
    all_true a b c d p q r s = rw (p, q, r, s)

-- NAMES

record Name (most : ℕ) (w : Word) : Type 0 where
  least : 2 ≤ length w
  size : length w ≤ most
  signs : all sign w ≡ true
  other : elem w indicators ≡ false

name_parts : (most : ℕ) (w : Word) → name_fits most w ≡ true → Name most w
unfolding name_fits
name_parts most w e =
    let a = both (leb 2 (length w)) _ e in
    let b = both (leb (length w) most) _ a.1 in
    let c = both (all sign w) (not (elem w indicators)) b.1 in
    record { least = leb-true 2 (length w) a.0; size = leb-true (length w) most b.0; signs = c.0; other = not-true (elem w indicators) c.1 }

-- ANY POINT

-- which form a word has
module _ (most : ℕ) (w : Word) where
  at_short : fits (wide short) w ≡ true → (point_fits most w ≡ degrees_in_range (degrees_of w)) × (point_of w ≡ in_degrees (degrees_of w))
  unfolding point_fits
  at_short p = (rw p, rw p)

  at_long : fits (wide short) w ≡ false → fits (wide long) w ≡ true → (point_fits most w ≡ minutes_in_range (minutes_of w))
      × (point_of w ≡ in_minutes (minutes_of w))
  unfolding point_fits
  at_long o p = (rw (o, p), rw (o, p))

  at_bearing : fits (wide short) w ≡ false → fits (wide long) w ≡ false → 7 < length w
      → (point_fits most w ≡ radial_fits w) × (point_of w ≡ with_bearing (radial_of w))
  unfolding point_fits
  at_bearing o p l = (rw (o, p, lt-ltb 7 (length w) l), rw (o, p, lt-ltb 7 (length w) l))

  at_name : fits (wide short) w ≡ false → fits (wide long) w ≡ false → length w ≤ 7 → (point_fits most w ≡ name_fits most w) × (point_of w ≡ named w)
  unfolding point_fits
  at_name o p l = (rw (o, p, le-ltb 7 (length w) l), rw (o, p, le-ltb 7 (length w) l))

-- the four forms of a word that is a point
data Formed (most : ℕ) (w : Word) : Type 0 where
  a_short : fits (wide short) w ≡ true → degrees_in_range (degrees_of w) ≡ true → Formed most w
  a_long : fits (wide short) w ≡ false → fits (wide long) w ≡ true → minutes_in_range (minutes_of w) ≡ true → Formed most w
  a_bearing : fits (wide short) w ≡ false → fits (wide long) w ≡ false → 7 < length w → radial_fits w ≡ true → Formed most w
  a_name : fits (wide short) w ≡ false → fits (wide long) w ≡ false → length w ≤ 7 → name_fits most w ≡ true → Formed most w

formed : (most : ℕ) (w : Word) → point_fits most w ≡ true → Formed most w
unfolding point_fits
formed most w e = first (fits (wide short) w) refl e
  where
    third : fits (wide short) w ≡ false → fits (wide long) w ≡ false → (b : Bool) → ltb 7 (length w) ≡ b
        → cond b (radial_fits w) (name_fits most w) ≡ true → Formed most w
    third o p true l q = a_bearing o p (ltb-true 7 (length w) l) q
    third o p false l q = a_name o p (ltb-false 7 (length w) l) q

    second : fits (wide short) w ≡ false → (b : Bool) → fits (wide long) w ≡ b
        → cond b (minutes_in_range (minutes_of w)) (cond (ltb 7 (length w)) (radial_fits w) (name_fits most w)) ≡ true → Formed most w
    second o true p q = a_long o p q
    second o false p q = third o p (ltb 7 (length w)) refl q

    first : (b : Bool) → fits (wide short) w ≡ b
        → cond b (degrees_in_range (degrees_of w))
        (cond (fits (wide long) w) (minutes_in_range (minutes_of w)) (cond (ltb 7 (length w)) (radial_fits w) (name_fits most w))) ≡ true
        → Formed most w
    first true p q = a_short p q
    first false p q = second p (fits (wide long) w) refl q

point_spelled : (most : ℕ) (w : Word) → Formed most w → spell_point (point_of w) ≡ w
point_spelled most w (a_short p q) = ap spell_point (at_short most w p).1 ∙ degrees_spelled w p
point_spelled most w (a_long o p q) = ap spell_point (at_long most w o p).1 ∙ minutes_spelled w p
point_spelled most w (a_bearing o p l q) = ap spell_point (at_bearing most w o p l).1 ∙ radial_spelled w q
point_spelled most w (a_name o p l q) = ap spell_point (at_name most w o p l).1

point_held : (most : ℕ) (w : Word) → Formed most w → valid_point most (point_of w) ≡ true
unfolding valid_point
point_held most w (a_short p q) = ap (valid_point most) (at_short most w p).1 ∙ degrees_held w p q
point_held most w (a_long o p q) = ap (valid_point most) (at_long most w o p).1 ∙ minutes_held w p q
point_held most w (a_bearing o p l q) = ap (valid_point most) (at_bearing most w o p l).1 ∙ radial_held w l q
point_held most w (a_name o p l q) = ap (valid_point most) (at_name most w o p l).1 ∙ and_both (name_fits most w) (not (fits (wide short) w)) q (ap not o)

point_back : (most : ℕ) → most ≤ 7 → (p : Point) → valid_point most p ≡ true → (point_fits most (spell_point p) ≡ true) × (point_of (spell_point p) ≡ p)
unfolding valid_point
point_back most m (in_degrees c) e =
    let v = degrees_back c e in
    let a = at_short most (spell_degrees c) v.0 in
    (a.0 ∙ ap degrees_in_range v.1 ∙ (both (hemispheres c.north c.east) (degrees_in_range c) e).1, a.1 ∙ ap in_degrees v.1)
point_back most m (in_minutes c) e =
    let v = minutes_back c e in
    let l : length (spell_minutes c) ≡ 11 = fits_lengths (wide long) (spell_minutes c) v.0 in
    let a = at_long most (spell_minutes c) (fits_other (wide short) (spell_minutes c) (λ q. omega arith)) v.0 in
    (a.0 ∙ ap minutes_in_range v.1 ∙ (both (hemispheres c.north c.east) (minutes_in_range c) e).1, a.1 ∙ ap in_minutes v.1)
point_back most m (with_bearing r) e =
    let b = radial_back r e in
    let l = b.size in
    let a = at_bearing most (spell_radial r) (fits_other (wide short) (spell_radial r) (λ q. omega arith)) b.other l in
    (a.0 ∙ b.taken, a.1 ∙ ap with_bearing b.back)
point_back most m (named w) e =
    let h = both (name_fits most w) (not (fits (wide short) w)) e in
    let r = name_parts most w h.0 in
    let l = r.size in
    let a = at_name most w (not-true (fits (wide short) w) h.1) (fits_other (wide long) w (λ q. omega arith)) (omega arith) in
    (a.0 ∙ h.0, a.1)

pub point : (most : ℕ) → most ≤ 7 → Part Point (point_fits most) point_of spell_point (valid_point most)
point most m =
    record {
      spelled = λ w e. point_spelled most w (formed most w e);
      held = λ w e. point_held most w (formed most w e);
      taken = λ p e. (point_back most m p e).0;
      back = λ p e. (point_back most m p e).1;
    }

-- WHAT IS KNOWN of a word that is a point

pub record Known (w : Word) : Type 0 where
  pub least : 2 ≤ length w
  pub signs : all sign w ≡ true
  pub other : elem w indicators ≡ false

-- indicators have three letters
pub three_letters : (w : Word) → elem w indicators ≡ true → length w ≡ 3
unfolding indicators
three_letters w e = elem-length 3 indicators refl w e

pub no_indicator : (w : Word) → (length w ≡ 3 → ⊥) → elem w indicators ≡ false
no_indicator w h = go (elem w indicators) refl
  where
    go : (b : Bool) → elem w indicators ≡ b → b ≡ false
    go true e = absurd (h (three_letters w e))
    go false e = refl

pub short_signs : (w : Word) → fits (wide short) w ≡ true → all sign w ≡ true
unfolding letters
short_signs w p = fits_all sign digit_sign (wide short) w refl p

long_signs : (w : Word) → fits (wide long) w ≡ true → all sign w ≡ true
unfolding letters
long_signs w p = fits_all sign digit_sign (wide long) w refl p

known_form : (most : ℕ) (w : Word) → Formed most w → Known w
known_form most w (a_short p q) =
    let l : length w ≡ 7 = fits_lengths (wide short) w p in
    record { least = omega arith; signs = short_signs w p; other = no_indicator w (λ h. omega arith) }
known_form most w (a_long o p q) =
    let l : length w ≡ 11 = fits_lengths (wide long) w p in
    record { least = omega arith; signs = long_signs w p; other = no_indicator w (λ h. omega arith) }
known_form most w (a_bearing o p l q) =
    let r = bearing_parts w q in
    record {
      least = omega arith;
      signs =
          ap (all sign) (sym (take-append-drop (length w - 6) w))
          ∙ all_append sign (signs_of w) (polar_of w) r.signs (fits_all sign digit_sign (wide polar) (polar_of w) refl r.shape);
      other = no_indicator w (λ h. omega arith);
    }
known_form most w (a_name o p l q) = let r = name_parts most w q in record { least = r.least; signs = r.signs; other = r.other }

pub known : (most : ℕ) (w : Word) → point_fits most w ≡ true → Known w
known most w e = known_form most w (formed most w e)
