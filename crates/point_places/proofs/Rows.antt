-- The place of a list of rows is right, and which words fit the rows of field 15. Assumes nothing.
use Prim.Native.Nat.{ℕ, zero, suc, ◌+◌, ◌*◌, ◌-◌, ◌<◌, ◌≤◌}
use mathlib.Core.Path.{◌≡◌, refl, sym, ap, ap₂, ◌∙◌}
use mathlib.Core.Bool.{Bool, true, false, ◌&&◌, ◌||◌, not, cond, false≢true, and_assoc, or_assoc, and-or_distrib_left, and-or_distrib_right}
use mathlib.Core.List.{List, [], ◌∷◌, ◌++◌}
use native.Mathlib.Omega.{arith}
use lib.Dec.{leb, eqb}
use lib.ListN.{length, take, drop, get_or}
use lib.Seq.{take-take, drop-drop}
use borrow.Author.Tests.{leb-true, leb-false, le-leb, lt-leb, eqb-true, eq-eqb, ne_eqb}
use Rattle.alphabet.specs.Text.{bytes}
use Rattle.alphabet.specs.Alphabet.{digit}
use Rattle.text.specs.Words.{Word, split, all}
use Rattle.text.proofs.Tests.{both, and_false}
use Rattle.shape.specs.Numbers.{value}
use Rattle.shape.specs.Shape.{in_class, fits, wide}
use Rattle.shape.proofs.Index.{fits_lengths}
use Rattle.places.specs.Place.{IsPlace}
use Rattle.places.proofs.Place.{no_place, either_place}
use Rattle.places.proofs.Leaves.{nil_place, first_place_lem}
use Rattle.route.specs.Levels.{prefixed, each}
use Rattle.route.specs.Points.{short, long, polar, degrees_in_range, degrees_of, minutes_in_range, minutes_of, within}
use Rattle.point_places.specs.Rows.{meets, row_fits, any_row, row_place, rows_place, row_sample, rows_sampled}
use Rattle.point_places.specs.Points.{short_rows, long_rows, polar_rows}

-- THE PLACE

row_place_lem : (t e : Word) → row_fits t e ≡ true → (s : List ℕ) → IsPlace (row_fits t) s (row_place t s)
row_place_lem [] e h = nil_place
row_place_lem (x ∷ t) [] h = absurd (false≢true h)
row_place_lem (x ∷ t) (y ∷ e) h =
    let g = both (meets x y) (row_fits t e) h in
    first_place_lem (meets x) (λ b. row_fits t) (λ b. row_place t) (λ b q. row_place_lem t e g.1) (λ b q. (e, g.1))

pub rows_place_lem : (ts : List Word) → rows_sampled ts ≡ true → (s : List ℕ) → IsPlace (any_row ts) s (rows_place ts s)
rows_place_lem [] h s = no_place s
rows_place_lem (t ∷ ts) h s =
    let g = both (row_fits t (row_sample t)) (rows_sampled ts) h in
    either_place (row_fits t) (any_row ts) s (row_place t s) (rows_place ts s) (row_place_lem t (row_sample t) g.0 s) (rows_place_lem ts g.1 s)

-- ONE ROW BEHIND ANOTHER

row_append : (t u w : Word) → row_fits (t ++ u) w ≡ (row_fits t (take (length t) w) && row_fits u (drop (length t) w))
row_append [] u w = refl
row_append (x ∷ t) u [] = refl
row_append (x ∷ t) u (b ∷ w) =
    ap (λ (y : Bool). meets x b && y) (row_append t u w) ∙ sym (and_assoc (meets x b) (row_fits t (take (length t) w)) (row_fits u (drop (length t) w)))

prefixed_is : (t : Word) (us : List Word) (w : Word) → any_row (prefixed t us) w ≡ (row_fits t (take (length t) w) && any_row us (drop (length t) w))
prefixed_is t [] w = sym (and_false (row_fits t (take (length t) w)) false refl)
prefixed_is t (u ∷ us) w =
    ap₂ ◌||◌ (row_append t u w) (prefixed_is t us w)
    ∙ sym (and-or_distrib_left (row_fits t (take (length t) w)) (row_fits u (drop (length t) w)) (any_row us (drop (length t) w)))

pub rows_append : (ts us : List Word) (w : Word) → any_row (ts ++ us) w ≡ (any_row ts w || any_row us w)
rows_append [] us w = refl
rows_append (t ∷ ts) us w = ap (λ (y : Bool). row_fits t w || y) (rows_append ts us w) ∙ sym (or_assoc (row_fits t w) (any_row ts w) (any_row us w))

pub each_or : (t : Word) (ts us : List Word) (w : Word)
    → any_row (each (t ∷ ts) us) w ≡ ((row_fits t (take (length t) w) && any_row us (drop (length t) w)) || any_row (each ts us) w)
each_or t ts us w = rows_append (prefixed t us) (each ts us) w ∙ ap (λ (y : Bool). y || any_row (each ts us) w) (prefixed_is t us w)

pub each_is : (n : ℕ) (ts us : List Word) → all (λ t. eqb (length t) n) ts ≡ true → (w : Word)
    → any_row (each ts us) w ≡ (any_row ts (take n w) && any_row us (drop n w))
each_is n [] us h w = refl
each_is n (t ∷ ts) us h w =
    let g = both (eqb (length t) n) (all (λ t. eqb (length t) n) ts) h in
    each_or t ts us w
    ∙ ap₂ ◌||◌ (ap (λ (k : ℕ). row_fits t (take k w) && any_row us (drop k w)) (eqb-true (length t) n g.0)) (each_is n ts us g.1 w)
    ∙ sym (and-or_distrib_right (row_fits t (take n w)) (any_row ts (take n w)) (any_row us (drop n w)))

-- A SHAPE AND ITS BOUNDS: rows of one shape

abbrev under : Word → Word → Bool
under [] w = true
under (t ∷ ts) [] = true
under (t ∷ ts) (b ∷ w) = cond (digit t) (leb b t) true && under ts w

abbrev any_under : List Word → Word → Bool
any_under [] w = false
any_under (t ∷ ts) w = under t w || any_under ts w

-- the row as a shape, and whether it has no x
abbrev nine : ℕ → ℕ
nine t = cond (digit t) 57 t

abbrev shaped : Word → Word → Bool
shaped [] [] = true
shaped [] (x ∷ s) = false
shaped (t ∷ ts) [] = false
shaped (t ∷ ts) (x ∷ s) = (not (eqb t 120) && eqb (nine t) x) && shaped ts s

nine_class : (t b : ℕ) → in_class t b ≡ in_class (nine t) b
nine_class t b = go (digit t) refl
  where
    go : (x : Bool) → digit t ≡ x → in_class t b ≡ in_class (cond x 57 t) b
    go true e = rw e
    go false e = refl

exchange : (i l f u : Bool) → ((i && l) && (f && u)) ≡ ((i && f) && (l && u))
exchange true true f u = refl
exchange true false true u = refl
exchange true false false u = refl
exchange false l f u = refl

row_is : (t s w : Word) → shaped t s ≡ true → row_fits t w ≡ (fits s w && under t w)
row_is [] [] [] h = refl
row_is [] [] (b ∷ w) h = refl
row_is [] (x ∷ s) w h = absurd (false≢true h)
row_is (t ∷ ts) [] w h = absurd (false≢true h)
row_is (t ∷ ts) (x ∷ s) [] h = refl
row_is (t ∷ ts) (x ∷ s) (b ∷ w) h =
    let g = both (not (eqb t 120) && eqb (nine t) x) (shaped ts s) h in
    let f = both (not (eqb t 120)) (eqb (nine t) x) g.0 in
    ap₂ ◌&&◌ (first (eqb t 120) refl f.0 ∙ ap (λ (y : Bool). y && bound) (nine_class t b ∙ ap (λ (n : ℕ). in_class n b) (eqb-true (nine t) x f.1)))
    (row_is ts s w g.1)
    ∙ exchange (in_class x b) bound (fits s w) (under ts w)
  where
    bound : Bool
    bound = cond (digit t) (leb b t) true

    first : (y : Bool) → eqb t 120 ≡ y → not y ≡ true → meets t b ≡ (in_class t b && bound)
    first true e n = absurd (false≢true n)
    first false e n = rw e

rows_is : (s : Word) (ts : List Word) → all (λ t. shaped t s) ts ≡ true → (w : Word) → any_row ts w ≡ (fits s w && any_under ts w)
rows_is s [] h w = sym (and_false (fits s w) false refl)
rows_is s (t ∷ ts) h w =
    let g = both (shaped t s) (all (λ t. shaped t s) ts) h in
    ap₂ ◌||◌ (row_is t s w g.0) (rows_is s ts g.1 w) ∙ sym (and-or_distrib_left (fits s w) (under t w) (any_under ts w))

-- the bytes of a word of so many, one by one
abbrev byte : ℕ → Word → ℕ
byte zero w = get_or w 0 0
byte (suc n) w = byte n (drop 1 w)

abbrev spread : ℕ → Word → Word
spread zero w = []
spread (suc n) w = get_or w 0 0 ∷ spread n (drop 1 w)

spread_is : (n : ℕ) (w : Word) → length w ≡ n → spread n w ≡ w
spread_is zero [] h = refl
spread_is zero (b ∷ w) h = absurd (omega arith)
spread_is (suc n) [] h = absurd (omega arith)
spread_is (suc n) (b ∷ w) h = ap (λ (v : Word). b ∷ v) (spread_is n w (omega arith))

-- rows of one shape are the shape and a test, which is looked at byte by byte
law : (s : Word) (ts : List Word) (test : Word → Bool) → all (λ t. shaped t s) ts ≡ true
    → ((w : Word) → fits s (spread (length s) w) ≡ true → any_under ts (spread (length s) w) ≡ test (spread (length s) w))
    → (w : Word) → any_row ts w ≡ (fits s w && test w)
law s ts test h at w = rows_is s ts h w ∙ go (fits s w) refl
  where
    go : (x : Bool) → fits s w ≡ x → (x && any_under ts w) ≡ (x && test w)
    go true e =
        let q = spread_is (length s) w (fits_lengths s w e) in
        sym (ap (any_under ts) q) ∙ at w (ap (fits s) q ∙ e) ∙ ap test q
    go false e = refl

-- NUMBERS AT MOST SO MANY

record Digit (b : ℕ) : Type 0 where
  least : 48 ≤ b
  most : b ≤ 57

a_digit : (b : ℕ) → digit b ≡ true → Digit b
a_digit b e = let g = both (leb 48 b) (leb b 57) e in record { least = leb-true 48 b g.0; most = leb-true b 57 g.1 }

up_to_lem : (m n : ℕ) → m ≤ n → true ≡ leb m n
up_to_lem m n h = sym (le-leb m n h)

beyond : (m n : ℕ) → n < m → false ≡ leb m n
beyond m n h = sym (lt-leb m n h)

-- a number of two digits, up to 90: the tens are at most 8, or the units 0
module _ (a b v : ℕ) (i : Digit a) (j : Digit b) (is : v ≡ (a - 48) * 10 + (b - 48)) where
  below_90 : leb a 56 ≡ leb v 89
  below_90 = go (leb a 56) refl
    where
      go : (x : Bool) → leb a 56 ≡ x → x ≡ leb v 89
      go true p = let q = leb-true a 56 p in let k = j.most in up_to_lem v 89 (omega arith)
      go false p = let q = leb-false a 56 p in beyond v 89 (omega arith)

  to_90 : (leb a 56 || leb b 48) ≡ leb v 90
  to_90 = go (leb a 56) refl (leb b 48) refl
    where
      go : (x : Bool) → leb a 56 ≡ x → (y : Bool) → leb b 48 ≡ y → (x || y) ≡ leb v 90
      go true p y r = let q = leb-true a 56 p in let k = j.most in up_to_lem v 90 (omega arith)
      go false p true r = let q = leb-true b 48 r in let k = i.most in up_to_lem v 90 (omega arith)
      go false p false r = let q = leb-false a 56 p in let k = leb-false b 48 r in beyond v 90 (omega arith)

-- a number of three digits, up to one that ends with 0; p and q are the digits below its first and its second
module _ (p q a b c v most : ℕ) (h : 48 ≤ p) (k : 48 ≤ q) (l : q < 57) (i : Digit a) (j : Digit b) (g : Digit c)
    (is : v ≡ (a - 48) * 100 + ((b - 48) * 10 + (c - 48))) (top : most ≡ (p - 47) * 100 + (q - 47) * 10) where
  below_most : (leb a p || (leb a (suc p) && leb b q)) ≡ leb v (most - 1)
  below_most = go (leb a p) refl (leb a (suc p)) refl (leb b q) refl
    where
      go : (x : Bool) → leb a p ≡ x → (y : Bool) → leb a (suc p) ≡ y → (z : Bool) → leb b q ≡ z → (x || (y && z)) ≡ leb v (most - 1)
      go true e y f z r = let x = leb-true a p e in let m = j.most in let n = g.most in up_to_lem v (most - 1) (omega arith)
      go false e false f z r = let x = leb-false a (suc p) f in beyond v (most - 1) (omega arith)
      go false e true f true r =
          let x = leb-true a (suc p) f in let y = leb-true b q r in let n = g.most in up_to_lem v (most - 1) (omega arith)
      go false e true f false r = let x = leb-false a p e in let y = leb-false b q r in beyond v (most - 1) (omega arith)

  to_most : ((leb a p || (leb a (suc p) && leb b q)) || (leb a (suc p) && (leb b (suc q) && leb c 48))) ≡ leb v most
  to_most = go (leb a p) refl (leb a (suc p)) refl (leb b q) refl (leb b (suc q)) refl (leb c 48) refl
    where
      go : (x : Bool) → leb a p ≡ x → (y : Bool) → leb a (suc p) ≡ y → (z : Bool) → leb b q ≡ z → (u : Bool) → leb b (suc q) ≡ u
          → (o : Bool) → leb c 48 ≡ o → ((x || (y && z)) || (y && (u && o))) ≡ leb v most
      go true e y f z r u s o t = let x = leb-true a p e in let m = j.most in let n = g.most in up_to_lem v most (omega arith)
      go false e false f z r u s o t = let x = leb-false a (suc p) f in beyond v most (omega arith)
      go false e true f true r u s o t =
          let x = leb-true a (suc p) f in let y = leb-true b q r in let n = g.most in up_to_lem v most (omega arith)
      go false e true f false r false s o t = let x = leb-false a p e in let y = leb-false b (suc q) s in beyond v most (omega arith)
      go false e true f false r true s true t =
          let x = leb-true a (suc p) f in let y = leb-true b (suc q) s in let z = leb-true c 48 t in up_to_lem v most (omega arith)
      go false e true f false r true s false t =
          let x = leb-false a p e in let y = leb-false b q r in let z = leb-false c 48 t in beyond v most (omega arith)

-- minutes: at most 59, and 00 at the most degrees
module _ (c d m : ℕ) (i : Digit c) (j : Digit d) (is : m ≡ (c - 48) * 10 + (d - 48)) where
  to_59 : leb c 53 ≡ leb m 59
  to_59 = go (leb c 53) refl
    where
      go : (x : Bool) → leb c 53 ≡ x → x ≡ leb m 59
      go true p = let q = leb-true c 53 p in let k = j.most in up_to_lem m 59 (omega arith)
      go false p = let q = leb-false c 53 p in beyond m 59 (omega arith)

  none : (leb c 48 && leb d 48) ≡ eqb m 0
  none = go (leb c 48) refl (leb d 48) refl
    where
      go : (x : Bool) → leb c 48 ≡ x → (y : Bool) → leb d 48 ≡ y → (x && y) ≡ eqb m 0
      go true p true q = let u = leb-true c 48 p in let v = leb-true d 48 q in sym (eq-eqb m 0 (omega arith))
      go true p false q = let v = leb-false d 48 q in sym (ne_eqb m 0 (omega arith))
      go false p y q = let u = leb-false c 48 p in sym (ne_eqb m 0 (omega arith))

in_range : (most d m : ℕ) (l n s z : Bool) → 0 < most → l ≡ leb d (most - 1) → (l || n) ≡ leb d most → s ≡ leb m 59 → z ≡ eqb m 0
    → ((l && s) || (n && z)) ≡ within most d m
unfolding within
in_range most d m true n true z h e f g i =
    let x = leb-true d (most - 1) (sym e) in rw (← f, ← g, ne_eqb d most (omega arith))
in_range most d m true n false true h e f g i = let x = leb-false m 59 (sym g) in let y = eqb-true m 0 (sym i) in absurd (omega arith)
in_range most d m true n false false h e f g i = rw (← f, ← g) (and_false n false refl)
in_range most d m false true true z h e f g i =
    let x = leb-false d (most - 1) (sym e) in let y = leb-true d most (sym f) in rw (← f, ← g, eq-eqb d most (omega arith), ← i)
in_range most d m false true false true h e f g i = let x = leb-false m 59 (sym g) in let y = eqb-true m 0 (sym i) in absurd (omega arith)
in_range most d m false true false false h e f g i = rw (← f, ← g)
in_range most d m false false s z h e f g i = rw (← f)

-- THE ROWS OF FIELD 15, each list a shape and a test

abbrev latitudes : List Word
latitudes = split 32 (bytes "89n 90n")

latitude_is : (w : Word) → any_row latitudes w ≡ (fits (bytes "99n") w && leb (value (take 2 w)) 90)
latitude_is = law (bytes "99n") latitudes (λ w. leb (value (take 2 w)) 90) refl (λ w h. at (byte 0 w) (byte 1 w) (byte 2 w) h)
  where
    tidied : (x y : Bool) → ((x && true) || ((y && true) || false)) ≡ (x || y)
    tidied true y = refl
    tidied false true = refl
    tidied false false = refl

    at : (a b c : ℕ) → fits (bytes "99n") (a ∷ (b ∷ (c ∷ []))) ≡ true → any_under latitudes (a ∷ (b ∷ (c ∷ []))) ≡ leb (value (a ∷ (b ∷ []))) 90
    at a b c h =
        let f = both (digit a) (digit b && (in_class 110 c && true)) h in
        let g = both (digit b) (in_class 110 c && true) f.1 in
        let i = a_digit a f.0 in
        let j = a_digit b g.0 in
        rw (le-leb a 57 i.most, le-leb b 57 j.most)
        (tidied (leb a 56) (leb b 48) ∙ to_90 a b (value (a ∷ (b ∷ []))) i j (omega arith))

-- three rows of three digits
three_tidied : (x y z u o : Bool) → ((x && true) || ((y && (z && true)) || ((y && (u && (o && true))) || false))) ≡ ((x || (y && z)) || (y && (u && o)))
three_tidied true y z u o = refl
three_tidied false false z u o = refl
three_tidied false true true u o = refl
three_tidied false true false false o = refl
three_tidied false true false true true = refl
three_tidied false true false true false = refl

abbrev longitudes : List Word
longitudes = split 32 (bytes "099e 179e 180e")

longitude_is : (w : Word) → any_row longitudes w ≡ (fits (bytes "999e") w && leb (value (take 3 w)) 180)
longitude_is = law (bytes "999e") longitudes (λ w. leb (value (take 3 w)) 180) refl (λ w h. at (byte 0 w) (byte 1 w) (byte 2 w) (byte 3 w) h)
  where
    at : (a b c d : ℕ) → fits (bytes "999e") (a ∷ (b ∷ (c ∷ (d ∷ [])))) ≡ true
        → any_under longitudes (a ∷ (b ∷ (c ∷ (d ∷ [])))) ≡ leb (value (a ∷ (b ∷ (c ∷ [])))) 180
    at a b c d h =
        let f = both (digit a) (digit b && (digit c && (in_class 101 d && true))) h in
        let g = both (digit b) (digit c && (in_class 101 d && true)) f.1 in
        let k = both (digit c) (in_class 101 d && true) g.1 in
        let i = a_digit a f.0 in
        let j = a_digit b g.0 in
        let l = a_digit c k.0 in
        rw (le-leb b 57 j.most, le-leb c 57 l.most)
        (three_tidied (leb a 48) (leb a 49) (leb b 55) (leb b 56) (leb c 48)
        ∙ to_most 48 55 a b c (value (a ∷ (b ∷ (c ∷ [])))) 180 (omega arith) (omega arith) (omega arith) i j l (omega arith) refl)

pub polar_is : (w : Word) → any_row polar_rows w ≡ (fits (wide polar) w && leb (value (take 3 w)) 360)
polar_is =
    law (bytes "999999") polar_rows (λ w. leb (value (take 3 w)) 360) refl
    (λ w h. at (byte 0 w) (byte 1 w) (byte 2 w) (byte 3 w) (byte 4 w) (byte 5 w) h)
  where
    at : (a b c d e f : ℕ) → fits (bytes "999999") (a ∷ (b ∷ (c ∷ (d ∷ (e ∷ (f ∷ [])))))) ≡ true
        → any_under polar_rows (a ∷ (b ∷ (c ∷ (d ∷ (e ∷ (f ∷ [])))))) ≡ leb (value (a ∷ (b ∷ (c ∷ [])))) 360
    at a b c d e f h =
        let ha = both (digit a) (digit b && (digit c && (digit d && (digit e && (digit f && true))))) h in
        let hb = both (digit b) (digit c && (digit d && (digit e && (digit f && true)))) ha.1 in
        let hc = both (digit c) (digit d && (digit e && (digit f && true))) hb.1 in
        let hd = both (digit d) (digit e && (digit f && true)) hc.1 in
        let he = both (digit e) (digit f && true) hd.1 in
        let hf = both (digit f) true he.1 in
        let i = a_digit a ha.0 in
        let j = a_digit b hb.0 in
        let l = a_digit c hc.0 in
        rw (
          le-leb b 57 j.most,
          le-leb c 57 l.most,
          le-leb d 57 (a_digit d hd.0).most,
          le-leb e 57 (a_digit e he.0).most,
          le-leb f 57 (a_digit f hf.0).most,
        )
        (three_tidied (leb a 50) (leb a 51) (leb b 53) (leb b 54) (leb c 48)
        ∙ to_most 50 53 a b c (value (a ∷ (b ∷ (c ∷ [])))) 360 (omega arith) (omega arith) (omega arith) i j l (omega arith) refl)

abbrev full_latitudes : List Word
full_latitudes = split 32 (bytes "8959n 9000n")

abbrev latitude_test : Word → Bool
latitude_test w = within 90 (value (take 2 w)) (value (take 2 (drop 2 w)))

full_latitude_is : (w : Word) → any_row full_latitudes w ≡ (fits (bytes "9999n") w && latitude_test w)
full_latitude_is =
    law (bytes "9999n") full_latitudes latitude_test refl (λ w h. at (byte 0 w) (byte 1 w) (byte 2 w) (byte 3 w) (byte 4 w) h)
  where
    tidied : (x s o m n : Bool) → ((x && (s && true)) || ((o && (m && (n && true))) || false)) ≡ ((x && s) || (o && (m && n)))
    tidied true true o m n = refl
    tidied true false false m n = refl
    tidied true false true false n = refl
    tidied true false true true true = refl
    tidied true false true true false = refl
    tidied false s false m n = refl
    tidied false s true false n = refl
    tidied false s true true true = refl
    tidied false s true true false = refl

    at : (a b c d e : ℕ) → fits (bytes "9999n") (a ∷ (b ∷ (c ∷ (d ∷ (e ∷ []))))) ≡ true
        → any_under full_latitudes (a ∷ (b ∷ (c ∷ (d ∷ (e ∷ []))))) ≡ within 90 (value (a ∷ (b ∷ []))) (value (c ∷ (d ∷ [])))
    at a b c d e h =
        let ha = both (digit a) (digit b && (digit c && (digit d && (in_class 110 e && true)))) h in
        let hb = both (digit b) (digit c && (digit d && (in_class 110 e && true))) ha.1 in
        let hc = both (digit c) (digit d && (in_class 110 e && true)) hb.1 in
        let hd = both (digit d) (in_class 110 e && true) hc.1 in
        let i = a_digit a ha.0 in
        let j = a_digit b hb.0 in
        let k = a_digit c hc.0 in
        let l = a_digit d hd.0 in
        let v = value (a ∷ (b ∷ [])) in
        let m = value (c ∷ (d ∷ [])) in
        rw (le-leb a 57 i.most, le-leb b 57 j.most, le-leb d 57 l.most)
        (tidied (leb a 56) (leb c 53) (leb b 48) (leb c 48) (leb d 48)
        ∙ in_range 90 v m (leb a 56) (leb b 48) (leb c 53) (leb c 48 && leb d 48) (omega arith) (below_90 a b v i j (omega arith))
        (to_90 a b v i j (omega arith)) (to_59 c d m k l (omega arith)) (none c d m k l (omega arith)))

abbrev full_longitudes : List Word
full_longitudes = split 32 (bytes "09959e 17959e 18000e")

abbrev longitude_test : Word → Bool
longitude_test w = within 180 (value (take 3 w)) (value (take 2 (drop 3 w)))

full_longitude_is : (w : Word) → any_row full_longitudes w ≡ (fits (bytes "99999e") w && longitude_test w)
full_longitude_is =
    law (bytes "99999e") full_longitudes longitude_test refl (λ w h. at (byte 0 w) (byte 1 w) (byte 2 w) (byte 3 w) (byte 4 w) (byte 5 w) h)
  where
    -- both rows of degrees below 180, then the row of 180
    tidied : (x y z s r : Bool) → ((x && (s && true)) || ((y && (z && (s && true))) || (r || false))) ≡ (((x || (y && z)) && s) || r)
    tidied true y z true r = refl
    tidied true false z false true = refl
    tidied true false z false false = refl
    tidied true true true false true = refl
    tidied true true true false false = refl
    tidied true true false false true = refl
    tidied true true false false false = refl
    tidied false false z s true = refl
    tidied false false z s false = refl
    tidied false true true true r = refl
    tidied false true true false true = refl
    tidied false true true false false = refl
    tidied false true false s true = refl
    tidied false true false s false = refl

    last : (y u o m n : Bool) → (y && (u && (o && (m && (n && true))))) ≡ ((y && (u && o)) && (m && n))
    last false u o m n = refl
    last true false o m n = refl
    last true true false m n = refl
    last true true true false n = refl
    last true true true true true = refl
    last true true true true false = refl

    at : (a b c d e f : ℕ) → fits (bytes "99999e") (a ∷ (b ∷ (c ∷ (d ∷ (e ∷ (f ∷ [])))))) ≡ true
        → any_under full_longitudes (a ∷ (b ∷ (c ∷ (d ∷ (e ∷ (f ∷ [])))))) ≡ within 180 (value (a ∷ (b ∷ (c ∷ [])))) (value (d ∷ (e ∷ [])))
    at a b c d e f h =
        let ha = both (digit a) (digit b && (digit c && (digit d && (digit e && (in_class 101 f && true))))) h in
        let hb = both (digit b) (digit c && (digit d && (digit e && (in_class 101 f && true)))) ha.1 in
        let hc = both (digit c) (digit d && (digit e && (in_class 101 f && true))) hb.1 in
        let hd = both (digit d) (digit e && (in_class 101 f && true)) hc.1 in
        let he = both (digit e) (in_class 101 f && true) hd.1 in
        let i = a_digit a ha.0 in
        let j = a_digit b hb.0 in
        let k = a_digit c hc.0 in
        let l = a_digit d hd.0 in
        let o = a_digit e he.0 in
        let v = value (a ∷ (b ∷ (c ∷ []))) in
        let m = value (d ∷ (e ∷ [])) in
        let r = leb a 49 && (leb b 56 && (leb c 48 && (leb d 48 && (leb e 48 && true)))) in
        rw (le-leb b 57 j.most, le-leb c 57 k.most, le-leb e 57 o.most)
        (tidied (leb a 48) (leb a 49) (leb b 55) (leb d 53) r
        ∙ ap (λ (x : Bool). ((leb a 48 || (leb a 49 && leb b 55)) && leb d 53) || x) (last (leb a 49) (leb b 56) (leb c 48) (leb d 48) (leb e 48))
        ∙ in_range 180 v m (leb a 48 || (leb a 49 && leb b 55)) (leb a 49 && (leb b 56 && leb c 48)) (leb d 53) (leb d 48 && leb e 48) (omega arith)
        (below_most 48 55 a b c v 180 (omega arith) (omega arith) (omega arith) i j k (omega arith) refl)
        (to_most 48 55 a b c v 180 (omega arith) (omega arith) (omega arith) i j k (omega arith) refl)
        (to_59 d e m l o (omega arith)) (none d e m l o (omega arith)))

-- COORDINATES: one shape behind another

fits_append : (t u w : Word) → fits (t ++ u) w ≡ (fits t (take (length t) w) && fits u (drop (length t) w))
fits_append [] u w = refl
fits_append (x ∷ t) u [] = refl
fits_append (x ∷ t) u (b ∷ w) =
    ap (λ (y : Bool). in_class x b && y) (fits_append t u w) ∙ sym (and_assoc (in_class x b) (fits t (take (length t) w)) (fits u (drop (length t) w)))

part_in : (k m n : ℕ) (w : Word) → k + m ≤ n → take m (drop k (take n w)) ≡ take m (drop k w)
part_in zero m n w h = take-take m n w (omega arith)
part_in (suc k) m zero w h = absurd (omega arith)
part_in (suc k) m (suc n) [] h = refl
part_in (suc k) m (suc n) (b ∷ w) h = part_in k m n w (omega arith)

pub short_is : (w : Word) → any_row short_rows w ≡ (fits (wide short) w && degrees_in_range (degrees_of w))
unfolding short_rows
short_is w =
    each_is 3 latitudes longitudes refl w
    ∙ ap₂ ◌&&◌ (latitude_is (take 3 w)) (longitude_is (drop 3 w))
    ∙ exchange (fits (bytes "99n") (take 3 w)) (leb (value (take 2 (take 3 w))) 90) (fits (bytes "999e") (drop 3 w)) (leb (value (take 3 (drop 3 w))) 180)
    ∙ ap₂ ◌&&◌ (sym (fits_append (bytes "99n") (bytes "999e") w))
    (ap (λ (v : Word). leb (value v) 90 && leb (value (take 3 (drop 3 w))) 180) (take-take 2 3 w (omega arith)))

pub long_is : (w : Word) → any_row long_rows w ≡ (fits (wide long) w && minutes_in_range (minutes_of w))
unfolding long_rows
long_is w =
    each_is 5 full_latitudes full_longitudes refl w
    ∙ ap₂ ◌&&◌ (full_latitude_is (take 5 w)) (full_longitude_is (drop 5 w))
    ∙ exchange (fits (bytes "9999n") (take 5 w)) (latitude_test (take 5 w)) (fits (bytes "99999e") (drop 5 w)) (longitude_test (drop 5 w))
    ∙ ap₂ ◌&&◌ (sym (fits_append (bytes "9999n") (bytes "99999e") w)) (ap₂ ◌&&◌ degrees minutes)
  where
    degrees : latitude_test (take 5 w) ≡ within 90 (value (take 2 w)) (value (take 2 (drop 2 w)))
    degrees = ap₂ (λ (u v : Word). within 90 (value u) (value v)) (take-take 2 5 w (omega arith)) (part_in 2 2 5 w (omega arith))

    minutes : longitude_test (drop 5 w) ≡ within 180 (value (take 3 (drop 5 w))) (value (take 2 (drop 8 w)))
    minutes = ap (λ (v : Word). within 180 (value (take 3 (drop 5 w))) (value (take 2 v))) (drop-drop 3 5 w)
