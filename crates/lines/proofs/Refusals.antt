-- A refusal's line, part by part: where each part fits, and what is then written. Assumes nothing.
use Prim.Native.Nat.{ℕ, ◌+◌, ◌≤◌}
use mathlib.Core.Path.{◌≡◌, sym}
use mathlib.Core.List.{List, [], ◌++◌, append-nil}
use lib.ListN.{length, take, drop}
use Rattle.alphabet.specs.Text.{bytes}
use Rattle.text.specs.Lent.{front}
use Rattle.text.proofs.Lent.{Writing, begin, due, all_written}
use Rattle.lines.specs.Lines.{numbered, refused_line}
use Rattle.lines.proofs.Writing.{part_fits, part_written}

module _ (number field place : ℕ) (out : List ℕ) (room : length (refused_line number field place) ≤ length out) where
  abbrev whole : List ℕ
  whole = refused_line number field place

  abbrev one : List ℕ
  one = numbered number 32

  abbrev two : List ℕ
  two = numbered field 32

  abbrev three : List ℕ
  three = numbered place 10

  -- the word is there
  module _ (o : ℕ) (a : List ℕ) (e : o ≡ length (bytes "NO ")) (w : a ≡ front (bytes "NO ") out) where
    begun : Writing whole out a o (one ++ (two ++ three))
    unfolding refused_line
    begun = part_written (bytes "NO ") (one ++ (two ++ three)) (begin whole out) a o e w

    pub number_fits : o + length one ≤ length a
    number_fits = part_fits one (two ++ three) begun room

    -- and the number
    module _ (p : ℕ) (b : List ℕ) (f : p ≡ o + length one) (x : b ≡ take o a ++ front one (drop o a)) where
      numbered_so : Writing whole out b p (two ++ three)
      numbered_so = part_written one (two ++ three) begun b p f x

      pub field_fits : p + length two ≤ length b
      field_fits = part_fits two three numbered_so room

      -- and the field
      module _ (q : ℕ) (c : List ℕ) (g : q ≡ p + length two) (y : c ≡ take p b ++ front two (drop p b)) where
        fielded : Writing whole out c q (three ++ [])
        fielded = due (part_written two three numbered_so c q g y) (sym (append-nil three))

        pub place_fits : q + length three ≤ length c
        place_fits = part_fits three [] fielded room

        pub all_told : (r : ℕ) (d : List ℕ) → r ≡ q + length three → d ≡ take q c ++ front three (drop q c) → (r ≡ length whole) × (d ≡ front whole out)
        all_told r d h z = all_written (part_written three [] fielded d r h z)
