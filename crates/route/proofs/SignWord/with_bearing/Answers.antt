-- `route::SignWord::with_bearing` meets its contract. Assumes nothing.
use mathlib.Core.Path.{◌≡◌, sym, ap, ◌∙◌}
use Prim.Native.Nat.{◌-◌}
use mathlib.Core.Bool.{◌&&◌}
use lib.Dec.{leb}
use lib.ListN.{length}
use Rattle.alphabet.specs.Alphabet.{digit}
use Rattle.text.specs.Words.{all}
use Rattle.text.proofs.Index.{rest}
use Rattle.route.specs.Levels.{number_at}
use Rattle.route.specs.Points.{polar_of, radial_fits}
use Rattle.route.proofs.Signs.{bearing_far, by_bearing}
use Rattle.route.proofs.SignWord.with_bearing.Goals.{After-all_of}
use Rattle.route.proofs.SignWord.with_bearing.Goals as goal

digits-there : (c : After-all_of) → all digit (polar_of c.args.self.bytes.now) ≡ c.all_of.result
digits-there c =
    ap (all digit) (sym (rest c.args.self.bytes.now (length c.args.self.bytes.now - 6))) ∙ sym c.all_of.ensures

told : (c : After-all_of) → radial_fits c.args.self.bytes.now ≡
    (all digit (polar_of c.args.self.bytes.now) && leb (number_at 0 3 (polar_of c.args.self.bytes.now)) 360)
told c =
    by_bearing c.args.self.bytes.now c.args.self.signs c.requires c.if-w-gt11.false

pub returns-then-w-gt11 : goal.returns-then-w-gt11
returns-then-w-gt11 c =
    sym (bearing_far _ c.if-w-gt11.true)

pub returns-then-not-all_of : goal.returns-then-not-all_of
returns-then-not-all_of c =
    rw (told (goal.at.returns-then-not-all_of c).After-all_of, digits-there (goal.at.returns-then-not-all_of c).After-all_of ∙ c.if-not-all_of.true)

pub returns : goal.returns
returns c =
    rw (told (goal.at.returns c).After-all_of, digits-there (goal.at.returns c).After-all_of ∙ c.if-not-all_of.false, sym c.three.ensures.0)
