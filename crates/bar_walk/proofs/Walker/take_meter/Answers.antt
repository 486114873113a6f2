-- `take_meter` takes the word's figures.
use Rattle.bar_walk.proofs.Walker.take_meter.Goals as goal

pub returns : goal.returns
returns c = rw (c.byte_a.ensures, c.lower_of.ensures)
