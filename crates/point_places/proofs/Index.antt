-- The places of points where the code stands: a row byte by byte, the rows of a list one by one. Assumes nothing.
use Prim.Native.Nat.{ℕ, suc, ◌<◌}
use mathlib.Core.Path.{◌≡◌, refl, ap}
use mathlib.Core.Bool.{false, cond}
use mathlib.Core.List.{List, [], ◌∷◌, ◌++◌}
use Rattle.places.specs.Parts.{along_by}
use native.Mathlib.Omega.{arith}
use lib.ListN.{length, take}
use lib.Seq.{take_all}
use Rattle.alphabet.specs.Text.{bytes}
use Rattle.text.specs.Words.{Word, split}
use Rattle.shape.specs.Shape.{wide}
use Rattle.shape.proofs.Index.{fits_other}
use Rattle.route.specs.Points.{short, out_of_range}
use Rattle.point_places.specs.Rows.{meets, row_place, rows_place}
use Rattle.point_places.specs.Points.{short_rows, long_rows, bearing_rows, beyond_rows}

-- A ROW, byte by byte

pub row_along : (t w : Word) → along_by meets t w ≡ row_place t w
row_along [] w = refl
row_along (x ∷ t) [] = refl
row_along (x ∷ t) (b ∷ w) = ap (λ (n : ℕ). cond (meets x b) (suc n) 0) (row_along t w)

-- THE LISTS OF ROWS, byte for byte as the code has them

abbrev pub short_text : List ℕ
short_text = bytes "89n099e 89n179e 89n180e 90n099e 90n179e 90n180e"

abbrev pub beyond_text : List ℕ
beyond_text =
    bytes "8959n09959e 8959n17959e 8959n18000e 9000n09959e 9000n17959e 9000n18000e xx299999 xx359999 xx360999 xxx299999 xxx359999 xxx360999 "
    ++ bytes "xxxx299999 xxxx359999 xxxx360999 xxxxx299999 xxxxx359999 xxxxx360999"

short_all : split 32 short_text ≡ short_rows
unfolding short_rows
short_all = refl

beyond_all : split 32 beyond_text ≡ beyond_rows
unfolding beyond_rows long_rows bearing_rows
beyond_all = refl

pub short_list : (w : Word) → rows_place (split 32 short_text) w ≡ rows_place short_rows w
short_list w = ap (λ (ts : List Word). rows_place ts w) short_all

pub beyond_list : (w : Word) → rows_place (split 32 beyond_text) w ≡ rows_place beyond_rows w
beyond_list w = ap (λ (ts : List Word). rows_place ts w) beyond_all

-- A NAME

pub short_in_range : (w : Word) → length w < 7 → out_of_range (take 7 w) ≡ false
unfolding out_of_range
short_in_range w h =
    let e : take 7 w ≡ w = take_all 7 w (omega arith) in
    rw (e, fits_other (wide short) w (λ q. omega arith))
