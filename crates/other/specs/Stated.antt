-- What the code's editions are: keys in cells of four bytes, and a mark for the rule of each. Assumes nothing.
use Rattle.text.specs.Words.{cells}
use Rattle.other.specs.declared.Edition.{Edition}
use Rattle.other.specs.Rules.{Edition18, edition}

abbrev pub stated : Edition → Edition18
stated e = edition (cells 4 e.keys.now) e.rules.now
