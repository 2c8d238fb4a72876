use mathlib.Core.Path.{ap, ◌∙◌}
use Rattle.std.specs.Prelude.{Some}
use Rattle.journal.specs.declared.Journal.TheVariants.{Nowhere}
use Rattle.handlers.proofs.Walk.{makes, takes_call, goes_on_lem}
use Rattle.handlers.proofs.replay_line.Goals as goal

pub returns : goal.returns
returns c =
    let ps = c.args.board.places in
    let lent = c.args.bytes.now in
    let asked = c.in-Some-Calls.is ∙ ap Some c.in-Some-Calls.field-0-is in
    record {
      takes =
          takes_call Nowhere c.args.line.now ps lent c.requires
          _ _ _ _ c.ask_in.ensures asked
          (makes Nowhere c.args.line.now ps lent c.requires _ _ _ c.play-t.ensures);
      going_is =
          goes_on_lem c.args.line.now ps lent
          _ _ _ _ _ c.ask_in.ensures asked c.play-t.ensures c.is_accepted.ensures;
    }
