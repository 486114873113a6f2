-- `piece_text::store_number` stores a number in its line's array.
use borrow.Author.Tests.{ne_eqb}
use native.Mathlib.Omega.{arith}
use Rattle.piece_text.specs.Text.{put_number}
use Rattle.piece_text.proofs.store_number.Goals as goal

pub returns-in-0 : goal.returns-in-0
unfolding put_number
returns-in-0 c =
    λ x h. rw c.in-0.is (record { sizes = c.store-sizes.ensures x.sizes h.sizes; deltas = h.deltas; words = h.words })

pub returns-in-1 : goal.returns-in-1
unfolding put_number
returns-in-1 c =
    λ x h. rw c.in-1.is (record { sizes = h.sizes; deltas = c.store-deltas.ensures x.deltas h.deltas; words = h.words })

pub returns-in-2 : goal.returns-in-2
unfolding put_number
returns-in-2 c =
    λ x h. rw c.in-2.is (record { sizes = h.sizes; deltas = h.deltas; words = c.store-words.ensures x.words h.words })

pub returns-in_default : goal.returns-in_default
unfolding put_number
returns-in_default c =
    let line = c.args.line in
    λ x h. rw (
      ne_eqb line 0 (λ e. omega (arith, e)),
      ne_eqb line 1 (λ e. omega (arith, e)),
      ne_eqb line 2 (λ e. omega (arith, e)),
    ) h
