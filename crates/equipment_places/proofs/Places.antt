-- The place of field 10 is right, in every edition whose lists are sound. Assumes nothing.
use Prim.Native.Nat.{ℕ, ◌≤◌}
use mathlib.Core.Path.{◌≡◌, refl, sym, ap, ◌∙◌}
use mathlib.Core.Bool.{Bool, true, false, ◌&&◌, ◌||◌}
use mathlib.Core.List.{List}
use lib.Dec.{leb}
use lib.ListN.{length}
use Rattle.alphabet.specs.Text.{bytes}
use Rattle.alphabet.specs.Alphabet.{sign}
use Rattle.text.specs.Words.{Word, all, same, free}
use Rattle.text.proofs.Tests.{both, same-eq}
use Rattle.codes.specs.Codes.{codes, codes_fit, shaped}
use Rattle.codes.proofs.Laws.{concat_codes, fit_shaped, concat-free}
use Rattle.places.specs.Place.{IsPlace}
use Rattle.places.proofs.Place.{place_of_language, either_place}
use Rattle.places.proofs.Cuts.{cut_place_lem}
use Rattle.entries.specs.Entries.{matched}
use Rattle.entries.proofs.Entries.{label_place_lem, same_swap}
use Rattle.code_places.specs.Codes.{some_codes, codes_place}
use Rattle.code_places.proofs.Codes.{codes_place_lem}
use Rattle.equipment.specs.Field10.{Edition10, present, sound, sound_list, valid10, fits10}
use Rattle.equipment.proofs.Laws.{side_bytes}
use Rattle.equipment.proofs.Field10.{present_sound}
use Rattle.equipment_places.specs.Places.{side_of, side_place, place10}

-- A SIDE is N alone, or codes

module _ (list : List Word) (most : ℕ) where
  side_is : (w : List ℕ) → (same (bytes "N") w || some_codes list most w) ≡ side_of list most w
  side_is w = ap (λ (b : Bool). b || some_codes list most w) (same_swap (bytes "N") w) ∙ sym (side_bytes list most w)

  side_right : (s : List ℕ) → IsPlace (side_of list most) s (side_place list most s)
  unfolding side_place
  side_right s =
      place_of_language (λ w. same (bytes "N") w || some_codes list most w) (side_of list most) side_is s (side_place list most s)
      (either_place (same (bytes "N")) (some_codes list most) s (matched (bytes "N") s) (codes_place list most s)
      (label_place_lem (bytes "N") s) (codes_place_lem list most s))

  pub side_within : (w : List ℕ) → side_place list most w ≤ length w
  side_within w = (side_right w).within

  -- and has no oblique
  side_free : all shaped list ≡ true → (w : List ℕ) → side_of list most w ≡ true → free 47 w ≡ true
  side_free h w e = go (same w (bytes "N")) refl (sym (side_bytes list most w) ∙ e)
    where
      go : (x : Bool) → same w (bytes "N") ≡ x → (x || some_codes list most w) ≡ true → free 47 w ≡ true
      go true q e = ap (free 47) (same-eq w (bytes "N") q)
      go false q e =
          let x = both (leb 1 (length w)) (leb (length w) most && codes_fit list (codes w)) e in
          let y = both (leb (length w) most) (codes_fit list (codes w)) x.1 in
          ap (free 47) (sym (concat_codes w)) ∙ concat-free (codes w) (fit_shaped list h (codes w) y.1)

-- FIELD 10

pub placed10_in : (e : Edition10) → sound e ≡ true → (s : List ℕ) → IsPlace (fits10 e) s (place10 e s)
unfolding sound fits10 valid10 place10
placed10_in e h =
    let left = (both (all shaped e.left) (all (all sign) e.left) (both (sound_list e.left) (sound_list e.right) h).0).0 in
    cut_place_lem 47 (side_of e.left e.most_left) (side_of e.right e.most_right)
    (side_place e.left e.most_left) (side_place e.right e.most_right)
    (side_right e.left e.most_left) (side_right e.right e.most_right)
    (side_free e.left e.most_left left) (bytes "N") refl

pub placed10 : (s : List ℕ) → IsPlace (fits10 present) s (place10 present s)
placed10 = placed10_in present present_sound
