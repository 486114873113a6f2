-- `push_rests`: a span with the rest's bit and no keys.
use native.Mathlib.Omega.{arith}
use Rattle.items.proofs.Ties.{rests_length, span_rests}
use Rattle.items.proofs.push_rests.Goals as goal

pub push_span-requires : goal.push_span-requires
push_span-requires c = let pre = c.requires in (pre.0, omega arith, pre.1, rw (rests_length _ _) at pre.2)

pub returns : goal.returns
returns c = span_rests c.push_span.ensures
