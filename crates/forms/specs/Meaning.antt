-- When two records of one form say the same, and the records of a list of forms: field 19's by what it says, any other's where they are equal.
-- Assumes nothing.
use Rattle.std.specs.Prelude.{◌≡◌, List, [], ◌∷◌, map}
use Rattle.canonical.specs.Meaning.{Same19}
use Rattle.kinds.specs.declared.Form.{Form}
use Rattle.kinds.specs.declared.Form.TheVariants.{Field3, Field7, Field8, Field9, Field10, Field13, Field13Open, Field15}
use Rattle.kinds.specs.declared.Form.TheVariants.{Field16, Field16Plan, Field17, Field18, Field19, Field22}
use Rattle.records.specs.Records.{Records}
use Rattle.forms.specs.Forms.{field_of}

abbrev pub Alike : (f : Form) → (field_of f).Record → (field_of f).Record → Type 0
Alike Field3 r q = r ≡ q
Alike Field7 r q = r ≡ q
Alike Field8 r q = r ≡ q
Alike Field9 r q = r ≡ q
Alike Field10 r q = r ≡ q
Alike Field13 r q = r ≡ q
Alike Field13Open r q = r ≡ q
Alike Field15 r q = r ≡ q
Alike Field16 r q = r ≡ q
Alike Field16Plan r q = r ≡ q
Alike Field17 r q = r ≡ q
Alike Field18 r q = r ≡ q
Alike Field19 r q = Same19 r q
Alike Field22 r q = r ≡ q

-- each as its form has it
abbrev pub AllAlike : (fs : List Form) → Records (map field_of fs) → Records (map field_of fs) → Type 0
AllAlike [] rs qs = Unit
AllAlike (f ∷ fs) rs qs = Alike f rs.0 qs.0 × AllAlike fs rs.1 qs.1
