-- Which bytes are white space, which open and which close: of a byte that is known, and of a tidy byte. Assumes nothing.
use Prim.Native.Nat.{ℕ}
use mathlib.Core.Path.{◌≡◌, refl}
use mathlib.Core.Bool.{true, false}
use lib.Dec.{eqb}
use borrow.Author.Tests.{not-true}
use Rattle.alphabet.specs.Alphabet.{white, text, in_alphabet}
use Rattle.text.specs.Words.{tidy_byte}
use Rattle.text.proofs.Tests.{other}
use Rattle.text.proofs.Tidy.{no_space, no_hyphen, no_opening, no_closing}
use Rattle.space.specs.Reduced.{opens, closes}

-- THE FOUR MARKS

pub space_white : white 32 ≡ true
unfolding white
space_white = refl

pub hyphen_solid : white 45 ≡ false
unfolding white
hyphen_solid = refl

pub opening_solid : white 40 ≡ false
unfolding white
opening_solid = refl

pub closing_solid : white 41 ≡ false
unfolding white
closing_solid = refl

pub hyphen_opens : opens 45 ≡ true
unfolding opens
hyphen_opens = refl

pub opening_opens : opens 40 ≡ true
unfolding opens
opening_opens = refl

pub hyphen_closes : closes 45 ≡ true
unfolding closes
hyphen_closes = refl

pub closing_closes : closes 41 ≡ true
unfolding closes
closing_closes = refl

-- white space is no hyphen
pub white_other : (b : ℕ) → white b ≡ true → eqb b 45 ≡ false
white_other b w = not-true (eqb b 45) (other white 45 hyphen_solid b w)

-- TIDY BYTES are no white space, open nothing and close nothing

tidy_other : (c : ℕ) → tidy_byte c ≡ false → (b : ℕ) → tidy_byte b ≡ true → eqb b c ≡ false
tidy_other c f b e = not-true (eqb b c) (other tidy_byte c f b e)

no_return : tidy_byte 13 ≡ false
unfolding text in_alphabet white
no_return = refl

no_feed : tidy_byte 10 ≡ false
unfolding text in_alphabet white
no_feed = refl

pub tidy_solid : (b : ℕ) → tidy_byte b ≡ true → white b ≡ false
unfolding white
tidy_solid b e = rw (tidy_other 32 no_space b e, tidy_other 13 no_return b e, tidy_other 10 no_feed b e)

pub tidy_opens : (b : ℕ) → tidy_byte b ≡ true → opens b ≡ false
unfolding opens
tidy_opens b e = rw (tidy_other 40 no_opening b e, tidy_other 45 no_hyphen b e)

pub tidy_closes : (b : ℕ) → tidy_byte b ≡ true → closes b ≡ false
unfolding closes
tidy_closes b e = rw (tidy_other 45 no_hyphen b e, tidy_other 41 no_closing b e)
