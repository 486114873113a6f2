-- `piece_text::finish` stores a number that the text's end ends, where the text has three lines.
use Rattle.piece_text.specs.Text.{ended}
use Rattle.piece_text.specs.Held.{Answers}
use mathlib.Core.Path.{◌∙◌, sym}
use borrow.Author.Rules.{rules}
use Rattle.piece_text.proofs.finish.Goals as goal

pub has_three_lines-requires : goal.has_three_lines-requires
has_three_lines-requires c = search rules

pub store_begun-requires : goal.store_begun-requires
store_begun-requires c = search rules

pub shape_of-sizes-then-has_three_lines : goal.shape_of-sizes-then-has_three_lines
shape_of-sizes-then-has_three_lines c = search rules

pub shape_of-deltas-then-has_three_lines : goal.shape_of-deltas-then-has_three_lines
shape_of-deltas-then-has_three_lines c = search rules

pub shape_of-words-then-has_three_lines : goal.shape_of-words-then-has_three_lines
shape_of-words-then-has_three_lines c = search rules

pub returns-then-has_three_lines : goal.returns-then-has_three_lines
unfolding ended Answers
returns-then-has_three_lines c =
    λ a h. rw (
      sym h.at,
      sym c.has_three_lines.ensures
          ∙ c.if-has_three_lines.true,
    ) (c.store_begun.ensures a.numbers h.numbers)

pub returns : goal.returns
unfolding ended Answers
returns c = λ a h. rw (sym h.at, sym c.has_three_lines.ensures ∙ c.if-has_three_lines.false) tt
