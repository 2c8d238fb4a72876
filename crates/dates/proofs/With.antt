-- A content that takes a date: it fits, its date is the one it took, and its other keys are as they were. Assumes nothing.
use Prim.Native.Nat.{ℕ}
use mathlib.Core.Path.{◌≡◌, refl, sym, ap, ◌∙◌}
use mathlib.Core.Bool.{Bool, true, false, cond}
use mathlib.Core.List.{List, ◌++◌}
use Rattle.alphabet.specs.Text.{bytes}
use Rattle.text.specs.Words.{Word, split, join, null, same, tidy}
use Rattle.text.proofs.Tests.{both, same-eq, same_other, null-nil}
use Rattle.other.specs.Rules.{base, date}
use Rattle.other.specs.Field18.{spelt, group, fit_from, fits_in, fits18, has, under, has_key, words_under}
use Rattle.other.proofs.Field18.{field18_laws}
use Rattle.other.proofs.ByKey.{standing_fit}
use Rattle.dates.specs.Dates.{dof, date_in, dated, placed, with_date}
use Rattle.dates.proofs.Items.{inserted, inserted_some, placed_items, dof_ranked, inserted_fits, inserted_date, inserted_has}
use Rattle.dates.proofs.Contents.{standing, written, written_some, written_fits, standing_written}

-- OF A CONTENT THAT FITS

module _ (d : Word) (s : List ℕ) (e : fits18 s ≡ true) where
  pub with_items : with_date d s ≡ written (inserted d (standing s))
  unfolding with_date fits_in
  with_items = go (same s (bytes "0")) refl e
    where
      go : (b : Bool) → same s (bytes "0") ≡ b → cond b true (fit_from base 0 (split 32 s)) ≡ true
          → cond b (dated d) (join 32 (placed (dated d) (split 32 s))) ≡ written (inserted d (standing s))
      go true p q = ap (λ (t : List ℕ). written (inserted d (standing t))) (sym (same-eq s (bytes "0") p))
      go false p q =
          ap (join 32)
          (placed_items d (split 32 s)
          ∙ ap (λ (ws : List Word). ws ++ spelt (inserted d (standing s)))
          (null-nil (group (split 32 s)).loose (both (null (group (split 32 s)).loose) _ q).0))
          ∙ sym (written_some (inserted d (standing s)) (inserted_some d (standing s)))

  module _ (v : date d ≡ true) where
    pub with_fits : fits18 (with_date d s) ≡ true
    with_fits = ap fits18 with_items ∙ written_fits (inserted d (standing s)) (inserted_fits d v 0 (standing s) dof_ranked (standing_fit s e))

    pub with_standing : standing (with_date d s) ≡ inserted d (standing s)
    with_standing =
        ap standing with_items ∙ standing_written (inserted d (standing s)) (inserted_fits d v 0 (standing s) dof_ranked (standing_fit s e))

    pub with_date_lem : date_in (with_date d s) ≡ d
    unfolding words_under
    with_date_lem = ap (under dof) with_standing ∙ inserted_date d v 0 (standing s) (standing_fit s e)

    pub with_keys : (key : Word) → (key ≡ dof → ⊥) → has_key (with_date d s) key ≡ has_key s key
    unfolding has_key
    with_keys key n = ap (has key) with_standing ∙ inserted_has d key (same_other dof key (λ q. n (sym q))) (standing s)

    pub with_tidy : tidy (with_date d s) ≡ true
    with_tidy = field18_laws.tidied (with_date d s) with_fits
