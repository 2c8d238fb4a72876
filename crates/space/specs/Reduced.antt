-- White space as document 01, "Bytes and white space", counts it: a run of spaces, CR and LF is one space; a run just before `-` or `)` is
-- nothing, unless it is just after `(` or `-`. Assumes nothing.
use Rattle.std.specs.Prelude.{ℕ, ◌≡◌, refl, Bool, true, false, cond, not, ◌&&◌, ◌||◌, List, [], ◌∷◌}
use Rattle.alphabet.specs.Text.{bytes}
use Rattle.alphabet.specs.Alphabet.{one_of, white}

-- a run just after one of these is not removed
unfoldable pub opens : ℕ → Bool
opens b = one_of b (bytes "(-")

-- a run just before one of these counts as nothing
unfoldable pub closes : ℕ → Bool
closes b = one_of b (bytes "-)")

-- whether a byte of white space is the one that stands for its run: it is the run's last, and the run counts.
-- `after`: the run is just after `(` or `-`; the list: what is behind the byte
unfoldable pub stands_for_run : Bool → List ℕ → Bool
stands_for_run after [] = true
stands_for_run after (c ∷ behind) = not (white c) && (after || not (closes c))

-- a byte before the rest: white space that stands for its run as one space, other white space not at all, any other byte as it is
abbrev pub kept : Bool → Bool → ℕ → List ℕ → List ℕ
kept is_white stands b rest = cond is_white (cond stands (32 ∷ rest) rest) (b ∷ rest)

-- the bytes reduced; `after`: the last byte before them that is not white space is `(` or `-`
unfoldable pub reduced_from : Bool → List ℕ → List ℕ
reduced_from after [] = []
reduced_from after (b ∷ bs) = kept (white b) (stands_for_run after bs) b (reduced_from (cond (white b) after (opens b)) bs)

-- a message reduced
unfoldable pub reduced : List ℕ → List ℕ
reduced m = reduced_from false m

-- EXAMPLES, computed

run_before_hyphen : (reduced (bytes "(CNL -ABC)") ≡ bytes "(CNL-ABC)") × (reduced (bytes "(CNL \r\n -ABC)") ≡ bytes "(CNL-ABC)")
unfolding reduced reduced_from stands_for_run opens closes white
run_before_hyphen = (refl, refl)

run_before_closing : reduced (bytes "(CNL-ABC \r\n)") ≡ bytes "(CNL-ABC)"
unfolding reduced reduced_from stands_for_run opens closes white
run_before_closing = refl

run_of_three : reduced (bytes "A \r\n B") ≡ bytes "A B"
unfolding reduced reduced_from stands_for_run opens closes white
run_of_three = refl

-- just after `-` or `(` a run stays, also one that ends at `-` or `)`
run_between_hyphens : (reduced (bytes "- -") ≡ bytes "- -") × (reduced (bytes "A \r\n-\r\n-B") ≡ bytes "A- -B") × (reduced (bytes "-  A") ≡ bytes "- A")
unfolding reduced reduced_from stands_for_run opens closes white
run_between_hyphens = (refl, refl, refl)

run_after_opening : (reduced (bytes "(  )") ≡ bytes "( )") × (reduced (bytes "( CNL)") ≡ bytes "( CNL)")
unfolding reduced reduced_from stands_for_run opens closes white
run_after_opening = (refl, refl)

-- behind an oblique it is dropped like behind any other byte
run_after_oblique : reduced (bytes "-8/ -9") ≡ bytes "-8/-9"
unfolding reduced reduced_from stands_for_run opens closes white
run_after_oblique = refl

-- at the end, with nothing behind it, a run is one space
run_at_end : (reduced (bytes "(A)\r\n ") ≡ bytes "(A) ") × (reduced (bytes "  ") ≡ bytes " ") × (reduced (bytes "") ≡ bytes "")
unfolding reduced reduced_from stands_for_run opens closes white
run_at_end = (refl, refl, refl)

-- TAB, 9, is not white space
tab_stays : reduced (65 ∷ (9 ∷ (45 ∷ []))) ≡ 65 ∷ (9 ∷ (45 ∷ []))
unfolding reduced reduced_from stands_for_run opens closes white
tab_stays = refl

whole_message : reduced (bytes "(CNL-ABC12 \r\n -EHAM0730\r\n-EDDF -DOF/240229\r\n STS/HOSP )\r\n") ≡ bytes "(CNL-ABC12-EHAM0730-EDDF-DOF/240229 STS/HOSP) "
unfolding reduced reduced_from stands_for_run opens closes white
whole_message = refl
