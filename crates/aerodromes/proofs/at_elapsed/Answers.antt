-- `aerodromes::at_elapsed` meets its contract. Assumes nothing.
use mathlib.Core.Path.{ap, ◌∙◌}
use Rattle.std.specs.Option.{option_and_then}
use Rattle.shape.specs.Time.{elapsed_read}
use Rattle.aerodromes.proofs.Index.{elapsed_joined}
use Rattle.aerodromes.proofs.at_elapsed.Goals as goal

pub returns-in_err-joined_to : goal.returns-in_err-joined_to
returns-in_err-joined_to c =
    c.from_residual.ensures ∙ ap (option_and_then elapsed_read) c.in_err-joined_to.ensures ∙ elapsed_joined c.args.w.now

pub returns : goal.returns
returns c =
    c.read.ensures ∙ ap (option_and_then elapsed_read) c.in_ok-joined_to.ensures ∙ elapsed_joined c.args.w.now
