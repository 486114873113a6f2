-- `piece_text::step` reads one byte.
use mathlib.Core.Path.{◌∙◌, sym}
use borrow.Author.Rules.{rules}
use Rattle.piece_text.proofs.step.Goals as goal

pub after-next-requires : goal.after-next-requires
after-next-requires c = search rules

pub ends_number-requires : goal.ends_number-requires
ends_number-requires c = search rules

pub store_begun-more-requires : goal.store_begun-more-requires
store_begun-more-requires c = search rules

pub shape_of-sizes-then-ends_number : goal.shape_of-sizes-then-ends_number
shape_of-sizes-then-ends_number c = search rules

pub shape_of-deltas-then-ends_number : goal.shape_of-deltas-then-ends_number
shape_of-deltas-then-ends_number c = search rules

pub shape_of-words-then-ends_number : goal.shape_of-words-then-ends_number
shape_of-words-then-ends_number c = search rules

pub returns-then-ends_number : goal.returns-then-ends_number
returns-then-ends_number c =
    λ a h. rw (
      sym h.at,
      sym c.ends_number.ensures
          ∙ c.if-ends_number.true,
    ) (record {
      at = c.after-next.ensures;
      numbers = c.store_begun-more.ensures a.numbers h.numbers;
    })

pub returns : goal.returns
returns c =
    λ a h. rw (sym h.at, sym c.ends_number.ensures ∙ c.if-ends_number.false) (record { at = c.after-next.ensures; numbers = h.numbers })
