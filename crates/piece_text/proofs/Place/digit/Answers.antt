-- `piece_text::Place::digit` is the place behind a digit.
use borrow.Author.Tests.{lt-ltb, le-ltb}
use borrow.Author.Rules.{rules}
use Rattle.piece_text.proofs.Place.digit.Goals as goal

pub overflow_cast-value : goal.overflow_cast-value
overflow_cast-value c = search rules

pub overflow_mul-value : goal.overflow_mul-value
overflow_mul-value c = search rules

pub overflow_sub-value : goal.overflow_sub-value
overflow_sub-value c = search rules

pub overflow_add-value : goal.overflow_add-value
overflow_add-value c = search rules

pub spoil-requires : goal.spoil-requires
spoil-requires c = search rules

pub returns-then-value-gt4294967295 : goal.returns-then-value-gt4294967295
returns-then-value-gt4294967295 c = simp (lt-ltb _ _ c.if-value-gt4294967295.true) c.spoil.ensures

pub overflow_cast-result : goal.overflow_cast-result
overflow_cast-result c = search rules

pub returns : goal.returns
returns c = simp (le-ltb _ _ c.if-value-gt4294967295.false)
