-- `other_places::address_place` meets its contract. Assumes nothing.
use mathlib.Core.Path.{◌≡◌, ◌∙◌}
use Rattle.std.proofs.Common.{arith, ℕ, Bool}
use Rattle.alphabet.specs.Alphabet.{one_of}
use Rattle.places.specs.Parts.{run_place}
use Rattle.places.proofs.Index.{fixed_run}
use Rattle.other.specs.Rules.{hexadecimal}
use Rattle.other_places.proofs.address_place.Goals as goal

pub returns : goal.returns
unfolding hexadecimal
returns c =
    let p : ℕ → Bool = λ b. one_of b hexadecimal in
    let e : c.min.result ≡ run_place 6 p c.args.w.now = omega (arith, c.min.ensures, c.front_in.ensures) in
    e ∙ fixed_run p 6 c.args.w.now
