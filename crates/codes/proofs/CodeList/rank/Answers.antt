-- `codes::CodeList::rank` meets its contract. Assumes nothing.
use Prim.Native.Nat.{◌≤◌}
use mathlib.Core.Path.{◌≡◌, refl, sym, ◌∙◌}
use mathlib.Core.Bool.{true}
use native.Mathlib.Omega.{arith}
use lib.ListN.{get_or}
use Rattle.alphabet.specs.Alphabet.{letter}
use Rattle.codes.proofs.Pairs.{code_some, rank_space, rank-behind, letter_bounds, index_letter, letter_no_space}
use borrow.Author.Rules.{rules}
use Rattle.codes.proofs.CodeList.rank.Goals.{Then-is_letter}
use Rattle.codes.proofs.CodeList.rank.Goals as goal

begins : (c : Then-is_letter) → letter (get_or c.args.w.now 0 0) ≡ true
begins c =
    sym c.is_letter.ensures ∙ c.if-is_letter.true

bounds : (c : Then-is_letter) → (65 ≤ get_or c.args.w.now 0 0) × (get_or c.args.w.now 0 0 ≤ 90)
bounds c =
    letter_bounds _ (begins c)

pub bounds-w-0 : goal.bounds-w-0
bounds-w-0 c =
    code_some c.args.w.now c.requires

pub overflow_sub-b : goal.overflow_sub-b
overflow_sub-b c =
    (bounds (goal.at.overflow_sub-b c).Then-is_letter).0

pub bounds-self-from : goal.bounds-self-from
bounds-self-from c =
    omega (arith, bounds (goal.at.bounds-self-from c).Then-is_letter)

pub cell_behind-requires : goal.cell_behind-requires
cell_behind-requires c =
    (search rules, letter_no_space _ (begins (goal.at.cell_behind-requires c).Then-is_letter))

pub returns-then-is_letter : goal.returns-then-is_letter
returns-then-is_letter c =
    let f = c.from-before.result in
    let passed = index_letter c.args.self.now.first.now _ c.args.self.now.indexed _ c.from.result f (begins (goal.at.returns-then-is_letter c).Then-is_letter)
    c.from.ensures c.from-before.ensures in
    c.cell_behind.ensures
    ∙ rank-behind c.args.w.now c.requires (letter_no_space _ (begins (goal.at.returns-then-is_letter c).Then-is_letter)) c.args.self.now.list.now f _ passed
    (search rules)

pub returns-then-b-eq32 : goal.returns-then-b-eq32
returns-then-b-eq32 c =
    sym (rank_space c.args.w.now c.requires c.if-b-eq32.true c.args.self.now.list.now)

pub returns : goal.returns
returns c =
    c.cell_behind-2.ensures
    ∙ rank-behind c.args.w.now c.requires c.if-b-eq32.false c.args.self.now.list.now 0 _ refl (search rules)
