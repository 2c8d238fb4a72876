-- Shapes: a form of fixed length, written as a text. `2n3e` is two digits, N or S, three digits, E or W: its numbers are the list of the two
-- numbers and the two letters. The same shape byte for byte, as document 01 writes it, is `99n999e`. Assumes nothing.
use Rattle.std.specs.Prelude.{ℕ, zero, suc, ◌-◌, ◌^◌, ◌≡◌, refl, Bool, true, false, ◌&&◌, cond, List, [], ◌∷◌, ◌++◌, ltb, eqb, take, drop, get_or}
use Rattle.alphabet.specs.Text.{bytes}
use Rattle.alphabet.specs.Alphabet.{digit, one_of}
use Rattle.text.specs.Words.{Word, null}
use Rattle.shape.specs.Numbers.{digits, value}

-- ONE BYTE OF A SHAPE: a digit stands for any digit, these small letters for a few bytes each, any other byte for itself

unfoldable pub letters : ℕ → List ℕ
letters t =
    cond (eqb t 110) (bytes "NS")
    (cond (eqb t 101) (bytes "EW")
    (cond (eqb t 107) (bytes "KN")
    (cond (eqb t 102) (bytes "FA")
    (cond (eqb t 115) (bytes "SM")
    (cond (eqb t 111) (bytes "01234567")
    (t ∷ []))))))

abbrev pub in_class : ℕ → ℕ → Bool
in_class t b = cond (digit t) (digit b) (one_of b (letters t))

abbrev pub fits : Word → Word → Bool
fits [] [] = true
fits [] (b ∷ w) = false
fits (t ∷ ts) [] = false
fits (t ∷ ts) (b ∷ w) = in_class t b && fits ts w

-- A SHAPE WITH ITS NUMBERS

abbrev pub copies : ℕ → Word
copies zero = []
copies (suc k) = 57 ∷ copies k

-- the shape byte for byte
abbrev pub wide : Word → Word
wide [] = []
wide (t ∷ ts) = cond (digit t) (copies (t - 48)) (t ∷ []) ++ wide ts

-- the numbers and letters of a word that fits
abbrev pub values : Word → Word → List ℕ
values [] w = []
values (t ∷ ts) w =
    cond (digit t)
    (value (take (t - 48) w) ∷ values ts (drop (t - 48) w))
    (get_or w 0 0 ∷ values ts (drop 1 w))

abbrev pub spells : Word → List ℕ → Word
spells [] vs = []
spells (t ∷ ts) [] = []
spells (t ∷ ts) (v ∷ vs) = cond (digit t) (digits (t - 48) v) (v ∷ []) ++ spells ts vs

-- numbers that have so many digits, letters that may stand there
abbrev pub sized : Word → List ℕ → Bool
sized [] vs = null vs
sized (t ∷ ts) [] = false
sized (t ∷ ts) (v ∷ vs) = cond (digit t) (ltb v (10 ^ (t - 48))) (one_of v (letters t)) && sized ts vs

-- ONE OF A LIST OF SHAPES

abbrev pub any : List Word → Word → Bool
any [] w = false
any (t ∷ ts) w = cond (fits t w) true (any ts w)

abbrev pub wides : List Word → List Word
wides [] = []
wides (t ∷ ts) = wide t ∷ wides ts

-- EXAMPLES, computed

coordinate : (wide (bytes "2n3e") ≡ bytes "99n999e") × (values (bytes "2n3e") (bytes "46N078W") ≡ 46 ∷ (78 ∷ (78 ∷ (87 ∷ []))))
coordinate = (refl, refl)

tried : (fits (bytes "99n999e") (bytes "46N078W") ≡ true) × (fits (bytes "99n999e") (bytes "46E078W") ≡ false) × (fits (bytes "Aoooo") (bytes "A7780") ≡ false)
unfolding letters
tried = (refl, refl, refl)
