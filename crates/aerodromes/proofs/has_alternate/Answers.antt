-- `aerodromes::has_alternate` meets its contract. Assumes nothing.
use Prim.Native.Nat.{ℕ, ◌+◌}
use mathlib.Core.Path.{sym, ap, ◌∙◌}
use mathlib.Core.List.{List}
use Rattle.text.specs.Words.{elem, split}
use Rattle.text.proofs.Index.{rest}
use Rattle.aerodromes.proofs.Index.{others_here, others_end}
use native.Mathlib.Omega.{arith}
use Rattle.aerodromes.proofs.has_alternate.Goals as goal

pub returns-then-e-s : goal.returns-then-e-s
returns-then-e-s c =
    let a = c.args in
    let f = c.find-e in
    sym (ap (elem a.name.now) (others_end a.s.now f.result f.ensures.value (omega arith)))

pub returns : goal.returns
returns c =
    let a = c.args in
    c.in_list.ensures
    ∙ ap (λ (t : List ℕ). elem a.name.now (split 32 t)) (rest a.s.now (c.find-e.result + 1))
    ∙ sym (ap (elem a.name.now) (others_here a.s.now c.find-e.result c.find-e.ensures.value (omega arith)))
