-- `aerodromes::at_clock` meets its contract. Assumes nothing.
use mathlib.Core.Path.{ap, ◌∙◌}
use Rattle.std.specs.Option.{option_and_then}
use Rattle.shape.specs.Time.{clock_read}
use Rattle.aerodromes.proofs.Index.{clock_joined}
use Rattle.aerodromes.proofs.at_clock.Goals as goal

pub returns-in_err-joined_to : goal.returns-in_err-joined_to
returns-in_err-joined_to c =
    c.from_residual.ensures ∙ ap (option_and_then clock_read) c.in_err-joined_to.ensures ∙ clock_joined c.args.w.now

pub returns : goal.returns
returns c =
    c.read.ensures ∙ ap (option_and_then clock_read) c.in_ok-joined_to.ensures ∙ clock_joined c.args.w.now
