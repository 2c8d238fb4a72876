-- `places::cut_place` meets its contract. Assumes nothing.
use mathlib.Core.Path.{sym, ◌∙◌}
use Rattle.std.proofs.Common.{arith}
use Rattle.places.proofs.Index.{cut_on}
use Rattle.places.proofs.cut_place.Goals as goal

pub returns-then-fits : goal.returns-then-fits
returns-then-fits g c f pf pg k _ m =
    cut_on c.args.c f pf pg c.args.s.now c.find-o.result c.find-o.ensures.value c.behind.result (λ e. omega arith) c.find-o.ensures.lower_bound.1
    (sym (k _ _ c.fits.ensures) ∙ c.if-fits.true) (m _ _ c.behind.ensures)
