-- What is proved of field 10, for every edition whose lists are sound, and of the present one. Assumes nothing.
use Prim.Native.Nat.{ℕ}
use mathlib.Core.Path.{◌≡◌, refl, sym, ap, ◌∙◌}
use mathlib.Core.Bool.{Bool, true, false, ◌&&◌, ◌||◌, not, false≢true}
use mathlib.Core.List.{List, [], ◌∷◌}
use native.Mathlib.Omega.{arith}
use lib.Dec.{leb}
use lib.ListN.{length, length-append}
use Rattle.alphabet.specs.Text.{bytes}
use Rattle.alphabet.specs.Alphabet.{sign}
use Rattle.text.specs.Words.{Word, holds, all, null, same, tidy_byte, tidy}
use Rattle.text.proofs.Tests.{both, and_both, all_imp, all_append, same-eq}
use Rattle.text.proofs.Joined.{seam, holds_seam, before_seam, behind_seam}
use Rattle.text.proofs.Tidy.{sign_tidy, tidy_word_lem, tidy_one, oblique_tidy}
use Rattle.codes.specs.Codes.{concat, codes_fit, shaped}
use Rattle.codes.proofs.Laws.{concat_codes, codes_concat, concat-free, fit_shaped, fit_all_lem}
use Rattle.shape.specs.Field.{Laws}
use Rattle.shape.proofs.Fields.{plain}
use Rattle.equipment.specs.Field10.{Edition10, present, sound_list, sound, Field10, only_n, side_fits, valid10, spell10, record10, fits10, field10}

-- A SIDE THAT FITS: its codes can be cut out again, and are of signs

abbrev Good : List Word → Type 0
Good ws = (all shaped ws ≡ true) × (all sign (concat ws) ≡ true)

good_N : (ws : List Word) → only_n ws ≡ true → Good ws
good_N [] e = absurd (false≢true e)
good_N (w ∷ []) e =
    let h : w ≡ bytes "N" = same-eq w (bytes "N") (both (same w (bytes "N")) true e).0 in
    (ap (λ (v : Word). all shaped (v ∷ [])) h, ap (λ (v : Word). all sign (concat (v ∷ []))) h)
good_N (w ∷ (v ∷ ws)) e = absurd (false≢true (both (same w (bytes "N")) false e).1)

good_side : (list : List Word) (most : ℕ) → sound_list list ≡ true → (ws : List Word) → side_fits list most ws ≡ true → Good ws
good_side list most a ws e = go (only_n ws) refl e
  where
    k : (all shaped list ≡ true) × (all (all sign) list ≡ true)
    k = both (all shaped list) (all (all sign) list) a

    go : (b : Bool) → only_n ws ≡ b → (b || (not (null ws) && (leb (length (concat ws)) most && codes_fit list ws))) ≡ true → Good ws
    go true p q = good_N ws p
    go false p q =
        let f : codes_fit list ws ≡ true = (both (leb (length (concat ws)) most) _ (both (not (null ws)) _ q).1).1 in
        (fit_shaped list k.0 ws f, fit_all_lem sign list k.1 ws f)

module _ (e : Edition10) (a : sound e ≡ true) where
  good : (r : Field10) → valid10 e r ≡ true → Good r.left × Good r.right
  unfolding sound valid10
  good r v =
      let k = both (sound_list e.left) (sound_list e.right) a in
      let h = both (side_fits e.left e.most_left r.left) (side_fits e.right e.most_right r.right) v in
      (good_side e.left e.most_left k.0 r.left h.0, good_side e.right e.most_right k.1 r.right h.1)

  -- THE FACTS

  cut : (s : List ℕ) → fits10 e s ≡ true → (holds 47 s ≡ true) × (valid10 e (record10 s) ≡ true)
  unfolding fits10
  cut s f = both (holds 47 s) (valid10 e (record10 s)) f

  spelled : (s : List ℕ) → fits10 e s ≡ true → spell10 (record10 s) ≡ s
  spelled s f = rw (concat_codes, concat_codes) (seam 47 s (cut s f).0)

  back : (r : Field10) → valid10 e r ≡ true → record10 (spell10 r) ≡ r
  back r v =
      let g = good r v in
      let l = concat-free r.left g.0.0 in
      rw (
        before_seam 47 (concat r.left) (concat r.right) l,
        behind_seam 47 (concat r.left) (concat r.right) l,
        codes_concat r.left g.0.0,
        codes_concat r.right g.1.0,
      )

  taken : (r : Field10) → valid10 e r ≡ true → fits10 e (spell10 r) ≡ true
  unfolding fits10
  taken r v =
      and_both (holds 47 (spell10 r)) (valid10 e (record10 (spell10 r)))
      (holds_seam 47 (concat r.left) (concat r.right) (concat-free r.left (good r v).0.0))
      (ap (valid10 e) (back r v) ∙ v)

  -- one word, of signs and an oblique
  spell_tidy : (r : Field10) → valid10 e r ≡ true → tidy (spell10 r) ≡ true
  spell_tidy r v =
      let g = good r v in
      tidy_one (spell10 r)
      (tidy_word_lem tidy_byte (λ b h. h) (spell10 r) (simp length-append (omega arith))
      (all_append tidy_byte (concat r.left) (47 ∷ concat r.right)
      (all_imp sign tidy_byte sign_tidy (concat r.left) g.0.1)
      (and_both (tidy_byte 47) (all tidy_byte (concat r.right)) oblique_tidy (all_imp sign tidy_byte sign_tidy (concat r.right) g.1.1))))

  tidied : (s : List ℕ) → fits10 e s ≡ true → tidy s ≡ true
  tidied s f = ap tidy (sym (spelled s f)) ∙ spell_tidy (record10 s) (cut s f).1

  pub field10_laws : Laws (field10 e)
  field10_laws =
      plain (field10 e) (λ r. refl)
      (record { spelled = spelled; held = λ s f. (cut s f).1; taken = taken; back = back; tidied = tidied })

-- THE PRESENT EDITION

pub present_sound : sound present ≡ true
unfolding sound present
present_sound = refl

pub present_laws : Laws (field10 present)
present_laws = field10_laws present present_sound
