-- `dates::key_in` meets its contract. Assumes nothing.
use mathlib.Core.Path.{◌≡◌, sym}
use mathlib.Core.List.{[]}
use Prim.Native.Nat.{ℕ, ◌+◌, ◌≤◌}
use lib.ListN.{length, take}
use lib.Seq.{length-take-le}
use Rattle.text.specs.Words.{Word, up_to}
use Rattle.text.proofs.Index.{found, found_none, found_before}
use Rattle.dates.specs.Dates.{key_in}
use Rattle.dates.proofs.key_in.Goals as goal

no_key : (w : Word) (o : ℕ) → o ≡ 0 + up_to 47 w → o ≡ length w → [] ≡ key_in w
no_key w o end e = rw (found_none 47 w o end e)

its-key : (w : Word) (o : ℕ) → o ≡ 0 + up_to 47 w → (o ≡ length w → ⊥) → o ≤ length w → take o w ≡ key_in w
its-key w o end ne le = rw (found 47 w o end ne le) (found_before 47 w o end)

pub returns-then-o-w : goal.returns-then-o-w
returns-then-o-w c =
    let f = c.find-o in no_key c.args.w.now f.result f.ensures.value c.if-o-w.true

pub slice_bounds-result-end-2 : goal.slice_bounds-result-end-2
slice_bounds-result-end-2 c =
    sym (length-take-le _ _ c.find-o.ensures.lower_bound.1)

pub returns : goal.returns
returns c =
    let f = c.find-o in
    its-key c.args.w.now f.result f.ensures.value c.if-o-w.false f.ensures.lower_bound.1
