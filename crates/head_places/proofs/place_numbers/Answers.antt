-- `head_places::place_numbers` meets its contract. Assumes nothing.
use Rattle.head_places.proofs.Reached.{first_on}
use Rattle.head_places.proofs.place_numbers.Goals as goal

pub returns : goal.returns
returns c =
    first_on c.args.w.now c.in-Ok.n c.in-Ok.ensures c.front_of-digits.result c.front_of-digits.ensures.0 c.place_number.result c.if-digits-lt3.false
    c.place_number.ensures
