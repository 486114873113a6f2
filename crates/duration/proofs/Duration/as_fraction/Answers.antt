-- `Duration::as_fraction` meets its contract: the law at each value. Assumes nothing.
use Rattle.duration.proofs.Laws.{fraction_at}
use Rattle.duration.specs.declared.Duration.TheVariants.{Longa, Breve, Whole, Half, Quarter, Eighth, Sixteenth}
use Rattle.duration.specs.declared.Duration.TheVariants.{ThirtySecond, SixtyFourth, HundredTwentyEighth}
use Rattle.duration.proofs.Duration.as_fraction.Goals as goal

pub returns-in-Longa : goal.returns-in-Longa
returns-in-Longa c = let f = fraction_at Longa c.in-Longa.is in record { value = f.0; den_nonzero = f.1 }

pub returns-in-Breve : goal.returns-in-Breve
returns-in-Breve c = let f = fraction_at Breve c.in-Breve.is in record { value = f.0; den_nonzero = f.1 }

pub returns-in-Whole : goal.returns-in-Whole
returns-in-Whole c = let f = fraction_at Whole c.in-Whole.is in record { value = f.0; den_nonzero = f.1 }

pub returns-in-Half : goal.returns-in-Half
returns-in-Half c = let f = fraction_at Half c.in-Half.is in record { value = f.0; den_nonzero = f.1 }

pub returns-in-Quarter : goal.returns-in-Quarter
returns-in-Quarter c = let f = fraction_at Quarter c.in-Quarter.is in record { value = f.0; den_nonzero = f.1 }

pub returns-in-Eighth : goal.returns-in-Eighth
returns-in-Eighth c = let f = fraction_at Eighth c.in-Eighth.is in record { value = f.0; den_nonzero = f.1 }

pub returns-in-Sixteenth : goal.returns-in-Sixteenth
returns-in-Sixteenth c = let f = fraction_at Sixteenth c.in-Sixteenth.is in record { value = f.0; den_nonzero = f.1 }

pub returns-in-ThirtySecond : goal.returns-in-ThirtySecond
returns-in-ThirtySecond c = let f = fraction_at ThirtySecond c.in-ThirtySecond.is in record { value = f.0; den_nonzero = f.1 }

pub returns-in-SixtyFourth : goal.returns-in-SixtyFourth
returns-in-SixtyFourth c = let f = fraction_at SixtyFourth c.in-SixtyFourth.is in record { value = f.0; den_nonzero = f.1 }

pub returns-in-HundredTwentyEighth : goal.returns-in-HundredTwentyEighth
returns-in-HundredTwentyEighth c = let f = fraction_at HundredTwentyEighth c.in-HundredTwentyEighth.is in record { value = f.0; den_nonzero = f.1 }
