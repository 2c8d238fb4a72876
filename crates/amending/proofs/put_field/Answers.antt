-- `amending::put_field` meets its contract. Assumes nothing.
use mathlib.Core.Path.{ap, ◌∙◌}
use mathlib.Core.List.{◌∷◌}
use Prim.Native.Nat.{ℕ}
use native.Mathlib.Omega.{arith}
use lib.ListN.{length, set, length-set, length-drop}
use Rattle.text.specs.Lent.{front}
use Rattle.text.proofs.Index.{rest}
use Rattle.text.proofs.Lent.{lent}
use Rattle.message.proofs.Walk.{lead_write}
use Rattle.amending.specs.Amended.{content_in}
use Rattle.amending.proofs.put_field.Goals as goal

pub slice_bounds-put_content-count : goal.slice_bounds-put_content-count
slice_bounds-put_content-count c =
    simp length-set (omega (arith, c.requires.1))

pub slice_bounds-put_content-start : goal.slice_bounds-put_content-start
slice_bounds-put_content-start c =
    simp length-set (omega (arith, c.requires.1))

pub put_content-n-requires : goal.put_content-n-requires
put_content-n-requires c =
    let lead = c.lead_of.result in
    let out = set c.args.out.now 0 lead in
    (c.requires.0, omega (arith, ap length (rest out 1), length-drop 1 out, length-set c.args.out.now 0 lead, c.requires.1))

pub shape_of-out : goal.shape_of-out
shape_of-out c =
    c.out-1.given.1 ∙ simp length-set

pub returns : goal.returns
returns c =
    let a = c.args in
    let lead = c.lead_of.result in
    let w = content_in a.role a.own.now a.said.now a.k in
    let p = c.put_content-n.ensures in
    let behind-lead = lent (set a.out.now 0 lead) w 1 _ p.1 in (
      omega (arith, p.0),
      behind-lead ∙ lead_write a.out.now w lead (omega (arith, c.requires.1)) ∙ ap (λ (b : ℕ). front (b ∷ w) a.out.now) c.lead_of.ensures,
    )
