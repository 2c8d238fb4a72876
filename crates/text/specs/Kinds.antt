-- The kinds of bytes that a part of a field may be made of. Assumes nothing.
use Rattle.std.specs.Prelude.{ℕ, Bool}
use Rattle.alphabet.specs.Alphabet.{letter, digit, sign, text}
use Rattle.text.specs.declared.Kind.{Kind}
use Rattle.text.specs.declared.Kind.TheVariants.{Letter, Digit, Sign, Text}

abbrev pub of_kind : Kind → ℕ → Bool
of_kind Letter = letter
of_kind Digit = digit
of_kind Sign = sign
of_kind Text = text
