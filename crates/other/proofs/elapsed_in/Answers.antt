-- `other::elapsed_in` meets its contract. Assumes nothing.
use Rattle.text.proofs.Index.{rest}
use Rattle.shape.specs.Time.{elapsed_read}
use Rattle.other.specs.Rules.{timed}
use mathlib.Core.Path.{sym, ap, ◌∙◌}
use borrow.Author.Tests.{le-leb, lt-leb}
use Rattle.other.proofs.elapsed_in.Goals as goal

pub returns-then-w-lt6 : goal.returns-then-w-lt6
unfolding timed
returns-then-w-lt6 c =
    rw (lt-leb _ _ c.if-w-lt6.true)

pub returns-then-w-gt15 : goal.returns-then-w-gt15
unfolding timed
returns-then-w-gt15 c =
    rw (le-leb _ _ c.if-w-lt6.false, lt-leb _ _ c.if-w-gt15.true)

pub returns-then-not-all_of : goal.returns-then-not-all_of
unfolding timed
returns-then-not-all_of c =
    let e = sym c.all_of.ensures ∙ c.if-not-all_of.true in
    rw (le-leb _ _ c.if-w-lt6.false, le-leb _ _ c.if-w-gt15.false, e)

pub returns : goal.returns
unfolding timed
returns c =
    let e = sym c.all_of.ensures ∙ c.if-not-all_of.false in
    rw (le-leb _ _ c.if-w-lt6.false, le-leb _ _ c.if-w-gt15.false, e)
    (c.read.ensures ∙ ap elapsed_read (rest c.args.w.now _))
