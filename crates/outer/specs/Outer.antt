-- Numbers 1 to 3 of document 01's table, on the message as sent: its length, its parentheses, its alphabet. Assumes nothing.
use Rattle.std.specs.Prelude.{ℕ, suc, ◌≤◌, ◌≡◌, refl, Bool, true, false, cond, not, List, [], ◌∷◌, Ok, Err, eqb, ltb, length}
use Rattle.alphabet.specs.Text.{bytes}
use Rattle.alphabet.specs.Alphabet.{one_of, white, in_alphabet}
use Rattle.text.specs.Words.{all}
use Rattle.space.specs.Fields.{inner, Framed}
use Rattle.outer.specs.Refusal.{refusal, Checked}

-- NUMBER 2

-- a `)` at place i, with the bytes behind it: it may only stand last
abbrev pub closing : ℕ → List ℕ → Checked
closing i [] = Ok tt
closing i (c ∷ cs) = Err (refusal 2 0 i)

-- the bytes from place i on, behind the first `(`: the first parenthesis, or the length where there is none
unfoldable pub parens_from : ℕ → List ℕ → Checked
parens_from i [] = Err (refusal 2 0 i)
parens_from i (b ∷ bs) = cond (eqb b 41) (closing i bs) (cond (eqb b 40) (Err (refusal 2 0 i)) (parens_from (suc i) bs))

unfoldable pub parens : List ℕ → Checked
parens [] = Err (refusal 2 0 0)
parens (b ∷ bs) = cond (eqb b 40) (parens_from 1 bs) (Err (refusal 2 0 0))

-- NUMBER 3

-- the bytes from place i on: the first that is not in the alphabet
unfoldable pub letters_from : ℕ → List ℕ → Checked
letters_from i [] = Ok tt
letters_from i (b ∷ bs) = cond (in_alphabet b) (letters_from (suc i) bs) (Err (refusal 3 0 i))

-- NUMBERS 1 TO 3, in that order

-- the most bytes that a message may have
abbrev pub most : ℕ
most = 1800

-- the first refusal
abbrev pub or_else : Checked → Checked → Checked
or_else (Ok u) o = o
or_else (Err r) o = Err r

unfoldable pub outer : List ℕ → Checked
outer m = cond (ltb most (length m)) (Err (refusal 1 0 most)) (or_else (parens m) (letters_from 0 m))

-- A MESSAGE THAT PASSES: at most 1,800 bytes, `(` first and `)` last, no parenthesis between, each byte in the alphabet

abbrev pub no_paren : ℕ → Bool
no_paren b = not (one_of b (bytes "()"))

pub record Passed (m : List ℕ) : Type 0 where
  pub short : length m ≤ most
  pub framed : Framed m
  pub between : all no_paren (inner m) ≡ true
  pub letters : all in_alphabet m ≡ true

-- EXAMPLES, computed

parens_only : (outer (bytes "(") ≡ Err (refusal 2 0 1)) × (outer (bytes "((") ≡ Err (refusal 2 0 1)) × (outer (bytes "()") ≡ Ok tt)
unfolding outer parens parens_from letters_from in_alphabet white
parens_only = (refl, refl, refl)

no_first : (outer (bytes "") ≡ Err (refusal 2 0 0)) × (outer (bytes "A)") ≡ Err (refusal 2 0 0)) × (outer (bytes " (A)") ≡ Err (refusal 2 0 0))
unfolding outer parens
no_first = (refl, refl, refl)

too_early : (outer (bytes "(A)B") ≡ Err (refusal 2 0 2)) × (outer (bytes "(A))") ≡ Err (refusal 2 0 2)) × (outer (bytes "(A(B)") ≡ Err (refusal 2 0 2))
unfolding outer parens parens_from
too_early = (refl, refl, refl)

no_last : outer (bytes "(AB") ≡ Err (refusal 2 0 3)
unfolding outer parens parens_from
no_last = refl

-- a small letter, an asterisk and a TAB are not in the alphabet; 2 comes before 3
foreign : (outer (bytes "(A*)") ≡ Err (refusal 3 0 2)) × (outer (bytes "(Aa*)") ≡ Err (refusal 3 0 2)) × (outer (bytes "(\t)") ≡ Err (refusal 3 0 1))
    × (outer (bytes "(*") ≡ Err (refusal 2 0 2))
unfolding outer parens parens_from letters_from in_alphabet white
foreign = (refl, refl, refl, refl)

passing : outer (bytes "(CNL-ABC12-EHAM0930\r\n-EDDF-0)") ≡ Ok tt
unfolding outer parens parens_from letters_from in_alphabet white
passing = refl
