-- One of some labels, an oblique, and a content whose form goes by the label: an entry of field 22, an item of field 18. Assumes nothing.
use Rattle.std.specs.Prelude.{ℕ, ◌≡◌, refl, Bool, false, ◌&&◌, ◌||◌, List, [], ◌∷◌, eqb}
use Rattle.alphabet.specs.Text.{bytes}
use Rattle.text.specs.Words.{Word, holds, before, behind, same, null}
use Rattle.places.specs.Parts.{larger, no_more, cut_place, along_by, largest}

-- a label, which contents may stand behind it, and the place of one that may not
pub record Entry : Type 0 where
  pub label : Word
  pub fits : List ℕ → Bool
  pub place : List ℕ → ℕ

abbrev pub entry_fits : Entry → List ℕ → Bool
entry_fits e s = holds 47 s && (same e.label (before 47 s) && e.fits (behind 47 s))

abbrev pub any_entry : List Entry → List ℕ → Bool
any_entry [] s = false
any_entry (e ∷ es) s = entry_fits e s || any_entry es s

-- how far the bytes follow a label
abbrev pub matched : Word → List ℕ → ℕ
matched l s = along_by eqb l s

-- one of some words: how far the bytes follow the one that they follow farthest
abbrev pub any_of : List Word → List ℕ → ℕ
any_of vs s = largest (λ v. matched v s) vs

abbrev pub entry_place : Entry → List ℕ → ℕ
entry_place e s = cut_place 47 (same e.label) (matched e.label) e.place s

-- the place in the entry that the content follows farthest
abbrev pub entries_place : List Entry → List ℕ → ℕ
entries_place [] s = 0
entries_place (e ∷ es) s = larger (entry_place e s) (entries_place es s)

-- EXAMPLES, computed: `8/`, `16/` and `18/` with nothing more behind them
abbrev few : List Entry
few =
    record { label = bytes "8"; fits = null; place = no_more }
    ∷ (record { label = bytes "16"; fits = null; place = no_more } ∷ (record { label = bytes "18"; fits = null; place = no_more } ∷ []))

tried : (entries_place few (bytes "8/X") ≡ 2) × (entries_place few (bytes "8X") ≡ 1) × (entries_place few (bytes "18/X") ≡ 3)
    × (entries_place few (bytes "1/") ≡ 1)
    × (entries_place few (bytes "17/") ≡ 1) × (entries_place few (bytes "9/") ≡ 0) × (entries_place few (bytes "8") ≡ 1) × (entries_place few (bytes "") ≡ 0)
tried = (refl, refl, refl, refl, refl, refl, refl, refl)
