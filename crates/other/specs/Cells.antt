-- The bytes of the code's lists, and of an index. Assumes nothing.
use Rattle.std.specs.Prelude.{ℕ, List, [], ◌∷◌}
use Rattle.alphabet.specs.Text.{bytes}

-- the bytes of document 01's edition
unfoldable pub base_keys : List ℕ
base_keys = bytes "STS PBN NAV COM DAT SUR DEP DESTDOF REG EET SEL TYP CODEDLE OPR ORGNPER ALTNRALTTALTRIF RMK "

unfoldable pub base_marks : List ℕ
base_marks = bytes "SP......D.EL.HE........"

-- the bytes of PBN's list, and of its index: how many codes stand before the first that begins with A, B, .. Z; all of them where none does
unfoldable pub approval_cells : List ℕ
approval_cells = bytes "A1B1B2B3B4B5B6C1C2C3C4D1D2D3D4L1O1O2O3O4S1S2T1T2"

unfoldable pub approval_index : List ℕ
approval_index =
    0 ∷ 1 ∷ 7 ∷ 11 ∷ 24 ∷ 24 ∷ 24 ∷ 24 ∷ 24 ∷ 24 ∷ 24 ∷ 15 ∷ 24 ∷ 24 ∷ 16 ∷ 24 ∷ 24 ∷ 24 ∷ 20 ∷ 22 ∷ 24 ∷ 24 ∷ 24 ∷ 24 ∷ 24 ∷ 24 ∷ []
