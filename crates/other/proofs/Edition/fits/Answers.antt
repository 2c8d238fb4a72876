-- `other::Edition::fits` meets its contract. Assumes nothing.
use mathlib.Core.Path.{◌≡◌, sym, ◌∙◌}
use mathlib.Core.Bool.{false}
use Prim.Native.Nat.{◌<◌, ◌≤◌}
use lib.ListN.{length}
use Rattle.alphabet.specs.Alphabet.{text}
use Rattle.text.specs.Words.{split}
use Rattle.other.specs.Stated.{stated}
use Rattle.other.specs.Field18.{fit_from, fits_in}
use Rattle.other.proofs.Runs.{run_all, not_over_lem, from_word, from_other}
use Rattle.other.proofs.Ranks.{signs_only}
use borrow.Author.Rules.{rules}
use Rattle.other.proofs.Edition.fits.Goals.{After-word_ends}
use Rattle.other.proofs.Edition.fits.Goals as goal

-- the content is not `0`
items-only : (c : After-word_ends) → fits_in (stated c.args.self) c.args.s.now
    ≡ fit_from (stated c.args.self) 0 (split 32 c.args.s.now)
unfolding fits_in
items-only c =
    rw (sym c.eq.ensures ∙ c.if-eq.false)

most : (c : After-word_ends) → c.end_of-o.result ≤ length c.args.s.now
most c =
    c.end_of-o.ensures.lower_bound.1

inside : (c : After-word_ends) → c.word_ends.result ≡ false → c.end_of-o.result < length c.args.s.now
inside c n =
    not_over_lem c.args.s.now c.end_of-o.result (most c) (sym c.word_ends.ensures ∙ n)

pub returns-then-eq : goal.returns-then-eq
unfolding fits_in
returns-then-eq c =
    rw (sym c.eq.ensures ∙ c.if-eq.true)

pub returns-then-word_ends : goal.returns-then-word_ends
returns-then-word_ends c =
    let f = c.end_of-o in
    sym (items-only (goal.at.returns-then-word_ends c).After-word_ends ∙ from_word c.args.s.now 0 f.result f.ensures.value
    (most (goal.at.returns-then-word_ends c).After-word_ends) (stated c.args.self) 0
    (sym c.word_ends.ensures ∙ c.if-word_ends.true))

pub bounds-s-o : goal.bounds-s-o
bounds-s-o c =
    inside (goal.at.bounds-s-o c).After-word_ends c.if-word_ends.false

pub returns-then-s-o-ne47 : goal.returns-then-s-o-ne47
returns-then-s-o-ne47 c =
    let f = c.end_of-o in
    let n = signs_only (stated c.args.self) c.args.self.sound in
    sym
    (items-only (goal.at.returns-then-s-o-ne47 c).After-word_ends
    ∙ from_other c.args.s.now 0 f.result f.ensures.value (most (goal.at.returns-then-s-o-ne47 c).After-word_ends)
    (stated c.args.self) 0 (sym c.word_ends.ensures ∙ c.if-word_ends.false) n c.if-s-o-ne47.true)

pub item-requires : goal.item-requires
item-requires c =
    let f = c.end_of-o in (
      search rules,
      inside (goal.at.item-requires c).After-word_ends c.if-word_ends.false,
      c.if-s-o-ne47.false,
      run_all text c.args.s.now 0 f.result f.ensures.value,
    )

pub returns : goal.returns
returns c =
    c.item.ensures ∙ sym (items-only (goal.at.returns c).After-word_ends)
