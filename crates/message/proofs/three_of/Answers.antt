-- `message::three_of` meets its contract. Assumes nothing.
use native.Mathlib.Omega.{arith}
use mathlib.Core.Path.{sym, ◌∙◌}
use lib.ListN.{length-drop}
use lib.Seq.{take_all}
use Rattle.text.proofs.Index.{rest}
use Rattle.message.proofs.three_of.Goals as goal

pub returns-then-msg-lt4 : goal.returns-then-msg-lt4
returns-then-msg-lt4 c =
    let m = c.args.msg.now in
    rest m 1 ∙ sym (take_all 3 _ (simp length-drop (omega arith)))
