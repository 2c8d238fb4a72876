-- Each set of bytes, and which comparisons and which classes it is, at every byte value. Assumes nothing.
use mathlib.Core.Path.{◌≡◌, refl}
use mathlib.Core.Bool.{Bool, true, false, ◌&&◌, ◌||◌, cond}
use Prim.Native.Nat.{ℕ, ◌<◌}
use lib.Dec.{leb, ltb, eqb}
use Rattle.alphabet.specs.Text.{bytes}
use Rattle.alphabet.specs.Alphabet.{class_of, in_alphabet, inner_byte, letter, digit, octal, sign, text, white, one_of, marks}
use Rattle.alphabet.proofs.Every.{agree}

-- THE COMPARISONS

pub last_test : (x : Bool) → x ≡ cond x true false
last_test true = refl
last_test false = refl

-- a sign is a byte from 0 to Z, and none of those between the digits and the letters
pub sign_tests : (b : ℕ) → b < 256 → sign b ≡ cond (ltb b 48 || ltb 90 b) false (leb b 57 || leb 65 b)
sign_tests = agree sign (λ b. cond (ltb b 48 || ltb 90 b) false (leb b 57 || leb 65 b)) tt

-- a byte of a text word is one of these or one of seven marks
pub text_marks : (b : ℕ) → b < 256 → text b ≡ (sign b || one_of b marks)
unfolding in_alphabet text white
text_marks = agree text (λ b. sign b || one_of b marks) tt

-- it is a mark, or a byte from 0 to Z and none of those between the digits and the letters
pub text_tests : (b : ℕ) → b < 256 → text b ≡ cond (ltb b 48 || ltb 90 b) (one_of b marks) (cond (ltb 57 b && ltb b 65) (one_of b marks) true)
unfolding in_alphabet text white
text_tests = agree text (λ b. cond (ltb b 48 || ltb 90 b) (one_of b marks) (cond (ltb 57 b && ltb b 65) (one_of b marks) true)) tt

-- a byte that may stand between the parentheses is one of a text word, an oblique, a hyphen or white space
pub inner_tests : (b : ℕ) → b < 256 → inner_byte b ≡ (text b || (one_of b (bytes "/-") || white b))
unfolding in_alphabet inner_byte text white
inner_tests = agree inner_byte (λ b. text b || (one_of b (bytes "/-") || white b)) tt

-- the same by ranges, as the code tests it with no branch
abbrev pub flat : ℕ → Bool
flat b =
    (((leb 65 b && leb b 90) || (leb 43 b && leb b 58)) || ((eqb b 63 || eqb b 61) || eqb b 39)) || ((eqb b 32 || eqb b 13) || eqb b 10)

pub inner_flat : (b : ℕ) → b < 256 → flat b ≡ inner_byte b
unfolding in_alphabet inner_byte white
inner_flat = agree flat inner_byte tt

-- a byte of the alphabet is one of these or a parenthesis
pub alphabet_tests : (b : ℕ) → b < 256 → in_alphabet b ≡ (inner_byte b || one_of b (bytes "()"))
unfolding in_alphabet inner_byte white
alphabet_tests = agree in_alphabet (λ b. inner_byte b || one_of b (bytes "()")) tt

-- an octal digit is one of eight bytes
pub octal_digits : (b : ℕ) → b < 256 → one_of b (bytes "01234567") ≡ octal b
octal_digits = agree (λ b. one_of b (bytes "01234567")) octal tt

-- THE CLASSES

-- the class of b is one of those from low to high
abbrev pub classes : ℕ → ℕ → ℕ → Bool
classes low high b = leb low (class_of b) && leb (class_of b) high

-- each set is a range of classes
pub record Sets (b : ℕ) : Type 0 where
  pub alphabet_is : classes 1 15 b ≡ in_alphabet b
  pub letter_is : classes 1 1 b ≡ letter b
  pub digit_is : classes 2 3 b ≡ digit b
  pub octal_is : classes 2 2 b ≡ octal b
  pub sign_is : classes 1 3 b ≡ sign b
  pub text_is : classes 1 10 b ≡ text b
  pub white_is : classes 13 13 b ≡ white b
  pub inner_is : classes 1 13 b ≡ inner_byte b

pub sets_are : (b : ℕ) → b < 256 → Sets b
unfolding class_of in_alphabet inner_byte text white
sets_are b h =
    record {
      alphabet_is = agree (classes 1 15) in_alphabet tt b h;
      letter_is = agree (classes 1 1) letter tt b h;
      digit_is = agree (classes 2 3) digit tt b h;
      octal_is = agree (classes 2 2) octal tt b h;
      sign_is = agree (classes 1 3) sign tt b h;
      text_is = agree (classes 1 10) text tt b h;
      white_is = agree (classes 13 13) white tt b h;
      inner_is = agree (classes 1 13) inner_byte tt b h;
    }
