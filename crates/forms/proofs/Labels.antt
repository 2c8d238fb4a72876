-- The eight numbers that an entry of a CHG may name, and the laws of the forms that they name. Assumes nothing.
use Prim.Native.Nat.{ℕ, zero, suc, ◌-◌, ◌<◌, ◌≤◌}
use mathlib.Core.Path.{◌≡◌, refl}
use mathlib.Core.Bool.{true}
use mathlib.Core.List.{List, [], ◌∷◌, ◌++◌}
use native.Mathlib.Omega.{arith}
use lib.ListN.{length, get_or}
use Rattle.text.specs.Words.{Word, free, rank}
use Rattle.shape.specs.Field.{Field}
use Rattle.head.specs.Field7.{field7}
use Rattle.head.specs.Field8.{field8}
use Rattle.head.specs.Field9.{field9}
use Rattle.equipment.specs.Field10.{field10, present}
use Rattle.aerodromes.specs.Field13.{field13}
use Rattle.aerodromes.specs.Field16.{field16entry}
use Rattle.route.specs.Field15.{field15}
use Rattle.head.proofs.Field7.{field7_laws}
use Rattle.head.proofs.Field8.{field8_laws}
use Rattle.head.proofs.Field9.{field9_laws}
use Rattle.equipment.proofs.Field10.{present_laws}
use Rattle.aerodromes.proofs.Field13.{field13_laws}
use Rattle.aerodromes.proofs.Field16.{field16entry_laws}
use Rattle.route.proofs.Field15.{field15_laws}
use Rattle.other.specs.Field18.{field18}
use Rattle.other.proofs.Field18.{field18_laws}
use Rattle.forms.specs.Field22.{labels, changes, label_of, field_named}
use Rattle.forms.proofs.Entry.{Sound, Label, number_ranked, ranked_number}

-- THE EIGHT have their places as ranks, and the forms keep the laws of a field form

pub changes_sound : Sound changes
unfolding labels
changes_sound =
    record {
      stand = refl;
      numbers = refl;
      laws = (field7_laws, (field8_laws, (field9_laws, (present_laws, (field13_laws, (field15_laws, (field16entry_laws, (field18_laws, tt))))))));
    }

eight : length labels ≡ 8
unfolding labels
eight = refl

pub label_ranked : (n : ℕ) → 1 ≤ n → n ≤ 8 → (rank (label_of n) labels ≡ n) × (free 47 (label_of n) ≡ true)
label_ranked n l g = number_ranked changes changes_sound n l (omega (arith, eight))

pub ranked_label : (w : Word) → 0 < rank w labels → Label changes w
ranked_label w h = ranked_number changes changes_sound w h

pub rank_most : (w : Word) → rank w labels ≤ 8
rank_most w = go (rank w labels) refl
  where
    go : (n : ℕ) → rank w labels ≡ n → rank w labels ≤ 8
    go zero e = omega arith
    go (suc n) e = let m = (ranked_label w (omega arith)).most in omega (arith, eight)

-- from 8 on a rank names field 18

last_of : (fs : List Field) (d : Field) (k : ℕ) → length fs ≤ k → get_or (fs ++ (d ∷ [])) k d ≡ d
last_of [] d zero h = refl
last_of [] d (suc k) h = refl
last_of (f ∷ fs) d zero h = absurd (omega arith)
last_of (f ∷ fs) d (suc k) h = last_of fs d k (omega arith)

pub last_named : (n : ℕ) → 8 ≤ n → field_named n ≡ field18
last_named n h =
    last_of (field7 ∷ (field8 ∷ (field9 ∷ (field10 present ∷ (field13 ∷ (field15 ∷ (field16entry ∷ []))))))) field18 (n - 1) (omega arith)
