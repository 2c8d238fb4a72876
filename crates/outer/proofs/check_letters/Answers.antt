-- `outer::check_letters` meets its contract. Assumes nothing.
use native.Mathlib.Omega.{arith}
use native.Mathlib.Nat.{zero-add}
use Prim.Native.Nat.{ℕ}
use Rattle.outer.specs.Refusal.{refusal}
use Rattle.std.specs.Prelude.{Err}
use mathlib.Core.Path.{sym, ap, ◌∙◌}
use Rattle.outer.proofs.Laws.{letters_known, letters_all}
use Rattle.outer.proofs.check_letters.Goals as goal

pub returns-then-n-msg : goal.returns-then-n-msg
returns-then-n-msg c =
    let k = c.known_bytes-n.ensures in
    sym (letters_known c.args.msg.now 0 c.known_bytes-n.result k.0 c.if-n-msg.true ∙ ap (λ (p : ℕ). Err (refusal 3 0 p)) (zero-add _)
    ∙ sym (ap Err c.at.ensures))

pub returns : goal.returns
returns c =
    let k = c.known_bytes-n.ensures in
    sym (letters_all c.args.msg.now 0 (omega (arith, k.0, c.if-n-msg.false)))
