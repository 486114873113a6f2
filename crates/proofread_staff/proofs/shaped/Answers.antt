-- `shaped` makes its tests in turn.
use Rattle.proofread_staff.proofs.Shapes.{shape_counts, shape_heads, shape_keys, shape_bits}
use Rattle.proofread_staff.proofs.shaped.Goals as goal

pub returns-then-counts-bars : goal.returns-then-counts-bars
returns-then-counts-bars c = shape_counts c.if-counts-bars.true

pub returns-then-heads-total : goal.returns-then-heads-total
returns-then-heads-total c =
    shape_heads c.requires c.if-counts-bars.false c.sum_counts-total.ensures.0 c.sum_counts-total.ensures.1 c.if-heads-total.true

pub returns-then-keys-total : goal.returns-then-keys-total
returns-then-keys-total c =
    shape_keys c.requires c.if-counts-bars.false c.sum_counts-total.ensures.0 c.sum_counts-total.ensures.1
    c.if-heads-total.false c.if-keys-total.true

pub returns : goal.returns
returns c =
    shape_bits c.requires c.if-counts-bars.false c.sum_counts-total.ensures.0 c.sum_counts-total.ensures.1
    c.if-heads-total.false c.if-keys-total.false c.heads_mean.ensures
