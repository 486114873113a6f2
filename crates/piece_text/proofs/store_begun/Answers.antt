-- `piece_text::store_begun` stores the number that was begun, if one was.
use Rattle.piece_text.proofs.store_begun.Goals as goal

pub returns-then-at : goal.returns-then-at
returns-then-at c = λ x h. rw c.if-at.true (c.store_number.ensures x h)

pub returns : goal.returns
returns c = λ x h. rw c.if-at.false h
