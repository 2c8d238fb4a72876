use mathlib.Core.Path.{sym}
use Rattle.mark.proofs.Lines.{length_blanks, blanks_filled}
use Rattle.mark.proofs.put_blanks.Goals as goal

pub returns : goal.returns
returns c =
    let a = c.args in
    (sym (length_blanks a.count), blanks_filled a.count a.out.now c.fill.new.self c.requires (c.fill.ensures.after (λ y h. h)))
