-- `alphabet::is_text` meets its contract. Assumes nothing.
use Rattle.std.proofs.Common.{rules, ◌≡◌, Bool, true, false}
use mathlib.Core.Bool.{◌&&◌, ◌||◌, cond}
use mathlib.Core.Path.{sym, refl, ◌∙◌}
use lib.Dec.{ltb}
use Rattle.alphabet.specs.Alphabet.{one_of, marks}
use Rattle.alphabet.proofs.Classes.{text_tests}
use Rattle.alphabet.proofs.is_text.Goals as goal

-- where one of two tests holds, what is asked there is the answer
there : (x y m : Bool) → (x || y) ≡ true → m ≡ cond x m (cond y m true)
there true y m e = refl
there false true m e = refl
there false false m e = search rules

pub returns-else-not-outside-between : goal.returns-else-not-outside-between
returns-else-not-outside-between c =
    let b = c.args.b in
    c.is_mark.ensures
    ∙ there (ltb b 48 || ltb 90 b) (ltb 57 b && ltb b 65) (one_of b marks) c.if-not-outside-between.false
    ∙ sym (text_tests b (search rules))
