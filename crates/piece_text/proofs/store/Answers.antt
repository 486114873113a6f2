-- `piece_text::store` stores a number behind those that are held, or only counts it.
use Rattle.piece_text.proofs.Reading.{held_stored, held_counted, held_full}
use borrow.Author.Rules.{rules}
use Rattle.piece_text.proofs.store.Goals as goal

pub returns-then-n-ge-MOST_COUNTED : goal.returns-then-n-ge-MOST_COUNTED
returns-then-n-ge-MOST_COUNTED c = λ l h. held_full l _ _ _ h c.if-n-ge-MOST_COUNTED.true

pub offset_bounds-xs-n : goal.offset_bounds-xs-n
offset_bounds-xs-n c = search rules

pub bounds-xs-n : goal.bounds-xs-n
bounds-xs-n c = search rules

pub overflow_add-result : goal.overflow_add-result
overflow_add-result c = search rules

pub shape_of-xs-then-n-xs : goal.shape_of-xs-then-n-xs
shape_of-xs-then-n-xs c = search rules

pub returns-then-n-xs : goal.returns-then-n-xs
returns-then-n-xs c = λ l h. held_stored l _ _ _ h c.if-n-ge-MOST_COUNTED.false c.if-n-xs.true

pub overflow_add-result-2 : goal.overflow_add-result-2
overflow_add-result-2 c = search rules

pub returns : goal.returns
returns c = λ l h. held_counted l _ _ _ h c.if-n-ge-MOST_COUNTED.false c.if-n-xs.false
