-- A message that files a plan is an FPL. Assumes nothing.
use Prim.Native.Nat.{ℕ}
use mathlib.Core.Path.{◌≡◌, refl, sym, ap, ◌∙◌}
use mathlib.Core.Bool.{true, ◌||◌, not}
use mathlib.Core.List.{List}
use lib.ListN.{length}
use Rattle.text.specs.Words.{split, same}
use Rattle.text.proofs.Tests.{same-eq}
use Rattle.kinds.specs.declared.MessageType.{MessageType}
use Rattle.kinds.specs.declared.MessageType.TheVariants.{Fpl}
use Rattle.kinds.specs.Kinds.{plan_forms, forms_of, name_of, types_read}
use Rattle.kinds.proofs.Names.{name_one, each}
use Rattle.message.specs.Reading.{is_plan}

pub plan_type : (t : MessageType) → is_plan t ≡ true → t ≡ Fpl
unfolding types_read
plan_type t e = name_one t Fpl (same-eq (name_of t) (name_of Fpl) (rw e at (each (λ u. not (is_plan u) || same (name_of u) (name_of Fpl)) refl t)))

pub nine_forms : (n : ℕ) → length (forms_of Fpl n) ≡ 9
unfolding forms_of plan_forms
nine_forms n = refl

-- so its text has nine contents
pub nine_contents : (t : MessageType) (n : ℕ) (s : List ℕ) → is_plan t ≡ true → length (forms_of t n) ≡ length (split 45 s) → length (split 45 s) ≡ 9
nine_contents t n s p e = sym e ∙ ap (λ (u : MessageType). length (forms_of u n)) (plan_type t p) ∙ nine_forms n
