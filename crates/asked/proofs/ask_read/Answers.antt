-- `asked::ask_read` meets its contract. Assumes nothing.
use Prim.Native.Nat.{◌-◌}
use mathlib.Core.Path.{◌≡◌, sym, ◌∙◌}
use mathlib.Core.Bool.{true}
use lib.ListN.{length}
use Rattle.text.specs.Words.{same}
use Rattle.opening.proofs.Steps.{inner_slice, slice_short}
use Rattle.asked.specs.Asking.{is_change}
use Rattle.asked.proofs.Steps.{same_long, no_change, not_spelled, spelled_so}
use native.Mathlib.Omega.{arith}
use Rattle.asked.proofs.ask_read.Goals.{Else-not-is_change, Else-not-same_bytes}
use Rattle.asked.proofs.ask_read.Goals as goal

change : (c : Else-not-is_change) → is_change c.args.t ≡ true
change c =
    sym c.is_change.ensures ∙ c.if-not-is_change.false

own-spelling : (c : Else-not-same_bytes) → same c.args.spelled.now c.args.chg.now ≡ true
own-spelling c =
    sym c.same_bytes.ensures ∙ c.if-not-same_bytes.false

as_long : (c : Else-not-same_bytes) → length c.args.spelled.now ≡ length c.args.chg.now
as_long c =
    same_long c.args.spelled.now c.args.chg.now (own-spelling c)

pub returns-then-not-is_change : goal.returns-then-not-is_change
returns-then-not-is_change c =
    let a = c.args in let told = no_change a.t a.spelled.now a.strip.now a.chg.now a.number (sym c.is_change.ensures ∙ c.if-not-is_change.true) in
    record { value = rw c.of.ensures told.0; shows = tt }

pub returns-then-not-same_bytes : goal.returns-then-not-same_bytes
returns-then-not-same_bytes c =
    let a = c.args in let told = not_spelled a.t a.spelled.now a.strip.now a.chg.now a.number
    (change (goal.at.returns-then-not-same_bytes c).Else-not-is_change)
    (sym c.same_bytes.ensures ∙ c.if-not-same_bytes.true) in record { value = rw c.of-then-not-same_bytes.ensures told.0; shows = tt }

pub overflow_sub-e : goal.overflow_sub-e
overflow_sub-e c =
    omega (arith, c.requires.0, as_long (goal.at.overflow_sub-e c).Else-not-same_bytes)

pub slice_bounds-ask_texts-count-2 : goal.slice_bounds-ask_texts-count-2
slice_bounds-ask_texts-count-2 c =
    omega (arith, c.requires.0, as_long (goal.at.slice_bounds-ask_texts-count-2 c).Else-not-same_bytes)

pub slice_bounds-ask_texts-start-2 : goal.slice_bounds-ask_texts-start-2
slice_bounds-ask_texts-start-2 c =
    omega (arith, c.requires.0, as_long (goal.at.slice_bounds-ask_texts-start-2 c).Else-not-same_bytes)

pub slice_bounds-ask_texts-end-2 : goal.slice_bounds-ask_texts-end-2
slice_bounds-ask_texts-end-2 c =
    omega (arith, c.requires.0, as_long (goal.at.slice_bounds-ask_texts-end-2 c).Else-not-same_bytes)

pub ask_texts-requires : goal.ask_texts-requires
ask_texts-requires c =
    let p = c.requires in
    let strip = c.args.strip.now in
    let chg = c.args.chg.now in (
      slice_short (length strip - 1 - 1) 1 1800 strip p.3,
      slice_short (length chg - 1 - 1) 1 1800 chg
          (omega (arith, p.1, as_long (goal.at.ask_texts-requires c).Else-not-same_bytes)),
    )

pub returns : goal.returns
returns c =
    let a = c.args in let p = c.requires in let told = spelled_so a.t a.spelled.now a.strip.now a.chg.now a.number
    (change (goal.at.returns c).Else-not-is_change) (own-spelling (goal.at.returns c).Else-not-same_bytes) p.0 p.2
    _ _ (inner_slice a.strip.now) (inner_slice a.chg.now) _ (c.ask_texts.ensures.value, c.ask_texts.ensures.shows_text) in
    record { value = told.0; shows = told.1 }
