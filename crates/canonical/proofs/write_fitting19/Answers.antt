-- `canonical::write_fitting19` meets its contract. Assumes nothing.
use mathlib.Core.Path.{sym}
use Rattle.canonical.proofs.Turns.{put_same, room_same}
use Rattle.canonical.proofs.Rewritten.{written_words}
use Rattle.canonical.proofs.write_fitting19.Goals as goal

pub put_words-requires : goal.put_words-requires
put_words-requires c =
    (c.requires.0, room_same c.args.out.now (written_words c.args.s.now c.requires.0) c.requires.1)

pub returns : goal.returns
returns c =
    put_same c.args.out.now (sym (written_words c.args.s.now c.requires.0)) c.put_words.ensures
