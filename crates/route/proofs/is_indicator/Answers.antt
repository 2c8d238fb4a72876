-- `route::is_indicator` meets its contract. Assumes nothing.
use mathlib.Core.Path.{◌≡◌, refl, sym, ◌∙◌}
use mathlib.Core.Bool.{Bool, true, false, cond, false≢true}
use Rattle.alphabet.specs.Text.{bytes}
use Rattle.text.specs.Words.{same}
use Rattle.route.specs.Points.{indicators}
use Rattle.route.proofs.is_indicator.Goals.{then-eq, else-eq}
use Rattle.route.proofs.is_indicator.Goals as goal

alone : (b : Bool) → cond b true false ≡ b
alone true = refl
alone false = refl

pub returns-then-eq-2 : goal.returns-then-eq-2
unfolding indicators
returns-then-eq-2 c =
    elim c.if-eq.branch [
      | then-eq w ↦ rw (sym c.eq.ensures ∙ w.if-eq.true) c.if-eq-2.true
      | else-eq w ↦ rw (sym c.eq.ensures ∙ w.if-eq.false, sym w.eq-else-eq.ensures ∙ (sym w.value-is ∙ c.if-eq-2.true)) c.if-eq-2.true
    ]

pub returns-else-eq-2 : goal.returns-else-eq-2
unfolding indicators
returns-else-eq-2 c =
    elim c.if-eq.branch [
      | then-eq w ↦ absurd (false≢true (sym c.if-eq-2.false ∙ (w.value-is ∙ w.if-eq.true)))
      | else-eq w ↦
          rw (
            sym c.eq.ensures ∙ w.if-eq.false,
            sym w.eq-else-eq.ensures ∙ (sym w.value-is ∙ c.if-eq-2.false),
            alone (same c.args.w.now (bytes "IFR")),
          )
          c.eq-else-eq-2.ensures
    ]
