-- `kinds::type_named` meets its contract. Assumes nothing.
use Prim.Native.Nat.{suc, ◌-◌, ◌<◌}
use mathlib.Core.Path.{◌≡◌, sym, ap, ◌∙◌}
use native.Mathlib.Omega.{arith}
use Rattle.std.specs.Prelude.{Option}
use Rattle.std.specs.Option.{ok_or}
use Rattle.text.specs.Words.{rank}
use Rattle.text.proofs.Tests.{ranked_is}
use Rattle.head.specs.Field3.{types}
use Rattle.kinds.specs.Kinds.{types_read, type_ranked, type_named}
use Rattle.kinds.specs.declared.MessageType.{MessageType}
use Rattle.kinds.specs.declared.TypeFault.TheVariants.{NotRead}
use Rattle.kinds.proofs.Names.{ranked_found}
use Rattle.kinds.proofs.type_named.Goals as goal

pub returns-in_default : goal.returns-in_default
unfolding type_named type_ranked types
returns-in_default c =
    let e : rank c.args.three.now types ≡ 0 = rw c.in_default.is at (ranked_is _ _ c.rank_in_cells.ensures) in
    sym (ap type_ranked e)

pub returns : goal.returns
unfolding type_named type_ranked types_read types
returns c =
    let k = c.in-Some.k in
    let r : (0 < k) × (rank c.args.three.now types ≡ k) = rw c.in-Some.is at (ranked_is _ _ c.rank_in_cells.ensures) in
    let f = c.get.ensures.lookup in
    let z : suc (k - 1) ≡ k = omega (arith, r.0) in
    c.ok_or.ensures.value ∙ ap (λ (o : Option MessageType). ok_or o NotRead) c.copied.ensures ∙ ranked_found types_read (k - 1) c.get.result f.0 f.1
    ∙ ap type_ranked (z ∙ sym r.1)
