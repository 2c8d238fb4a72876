-- What stands between `(` or `-` and the next `-` or `)`, reduced by itself. A message is reduced as its fields are: `enclosed` in proofs/Fields.antt
-- and `framed` in proofs/Frame.antt. Assumes nothing.
use Rattle.std.specs.Prelude.{ℕ, ◌-◌, ◌≤◌, ◌≡◌, refl, Bool, true, cond, List, [], ◌∷◌, length, get_or, take, drop}
use Rattle.alphabet.specs.Text.{bytes}
use Rattle.alphabet.specs.Alphabet.{white}
use Rattle.space.specs.Reduced.{opens, closes, kept, stands_for_run}

-- `-` or `)` stands behind the list, so a run at its end counts as nothing, unless it is just after `(` or `-`
unfoldable pub stands_in_field : Bool → List ℕ → Bool
stands_in_field after [] = after
stands_in_field after (c ∷ behind) = stands_for_run after (c ∷ behind)

unfoldable pub field_from : Bool → List ℕ → List ℕ
field_from after [] = []
field_from after (b ∷ bs) = kept (white b) (stands_in_field after bs) b (field_from (cond (white b) after (opens b)) bs)

-- a field's content as sent, reduced
unfoldable pub reduced_field : List ℕ → List ℕ
reduced_field x = field_from true x

-- what stands between the first byte and the last, and a message that begins with `(` and ends with `)`
abbrev pub inner : List ℕ → List ℕ
inner m = take (length m - 2) (drop 1 m)

pub record Framed (m : List ℕ) : Type 0 where
  pub long : 2 ≤ length m
  pub first : get_or m 0 0 ≡ 40
  pub last : get_or m (length m - 1) 0 ≡ 41

-- EXAMPLES, computed

field_ends : reduced_field (bytes "DCT  PAM\r\n") ≡ bytes "DCT PAM"
unfolding reduced_field field_from stands_in_field stands_for_run opens closes white
field_ends = refl

field_begins : (reduced_field (bytes "\r\nDCT") ≡ bytes " DCT") × (reduced_field (bytes " \r\n") ≡ bytes " ") × (reduced_field (bytes "") ≡ bytes "")
unfolding reduced_field field_from stands_in_field stands_for_run opens closes white
field_begins = (refl, refl, refl)

framed_inner : inner (bytes "(CNL-ABC12)") ≡ bytes "CNL-ABC12"
framed_inner = refl
