-- From a place in a field's content, white space reduced, to the place in the message as sent (document 02, request 4): a run of white space
-- counts once, at its first byte. So a space that may not stand in the content has the place of its run's first byte, and the end of a content
-- has the place of the first byte that drops out behind it, or of the `-` or `)`. Assumes nothing.
use Rattle.std.specs.Prelude.{ℕ, zero, suc, ◌+◌, ◌-◌, ◌≡◌, refl, Bool, true, false, ◌&&◌, not, cond, List, [], ◌∷◌, ltb, drop, get_or}
use Rattle.alphabet.specs.Text.{bytes}
use Rattle.alphabet.specs.Alphabet.{white}
use Rattle.space.specs.Hyphens.{place_of_hyphen, up_to_hyphen}

-- how many bytes stand before the one that has n bytes before it that count; `run`: the byte before these is white space
unfoldable pub sent_from : Bool → ℕ → List ℕ → ℕ
sent_from run n [] = 0
sent_from run zero (b ∷ s) = cond (run && white b) (suc (sent_from true zero s)) 0
sent_from run (suc n) (b ∷ s) = suc (sent_from (white b) (cond (run && white b) (suc n) n) s)

-- whether the byte at i follows white space that stands behind `at`, and whether it counts
abbrev pub in_run : List ℕ → ℕ → ℕ → Bool
in_run m at i = ltb at i && white (get_or m (i - 1) 0)

abbrev pub counts_at : List ℕ → ℕ → ℕ → Bool
counts_at m at i = not (in_run m at i && white (get_or m i 0))

-- past the byte that leads to a field, `(` or `-`
abbrev pub past_lead : ℕ → List ℕ → ℕ
past_lead n [] = 0
past_lead n (b ∷ s) = suc (sent_from false n s)

-- the place in a message of place n in its field j
unfoldable pub sent_place : ℕ → ℕ → List ℕ → ℕ
sent_place j n m = place_of_hyphen j m + past_lead n (drop (place_of_hyphen j m) m)

-- EXAMPLES, computed

-- the listing's second line: place 5 of field 13, which is the third
listed : sent_place 2 5 (bytes "(DLA-ABC12-EHAM2460-EDDF-0)") ≡ 16
unfolding sent_place sent_from place_of_hyphen up_to_hyphen white
listed = refl

-- in a run, behind it, and behind a content before white space that drops out
runs : (sent_place 1 1 (bytes "(A-B \r\n C \r\n-D)") ≡ 4) × (sent_place 1 2 (bytes "(A-B \r\n C \r\n-D)") ≡ 8)
    × (sent_place 1 3 (bytes "(A-B \r\n C \r\n-D)") ≡ 9)
    × (sent_place 2 1 (bytes "(A-B \r\n C \r\n-D)") ≡ 14) × (sent_place 1 0 (bytes "(A- \r\n-D)") ≡ 3) × (sent_place 1 1 (bytes "(A- \r\n-D)") ≡ 6)
unfolding sent_place sent_from place_of_hyphen up_to_hyphen white
runs = (refl, refl, refl, refl, refl, refl)
