use Prim.Native.Nat.{◌+◌, ◌*◌}
use mathlib.Core.Path.{ap, ◌∙◌}
use native.Mathlib.Omega.{arith}
use Rattle.proofread_notes.proofs.Areas.{readable_same, before_later}
use Rattle.proofread_items.proofs.Steps.{start_later}
use Rattle.bar_walk.specs.declared.Walker.{Walker}
use Rattle.bar_walk.proofs.WalkLaws.{walking_sane, walking_ready}
use Rattle.proofread_voices.proofs.Walks.{along_start, along_end, along_fails, along_last, along_more}
use Rattle.proofread_voices.proofs.Walks.{four_left, four_fit, items_fit, past_paced, voice_ends}
use Rattle.proofread_voices.proofs.read_voice.Goals as goal

pub first_bar-walker-requires : goal.first_bar-walker-requires
first_bar-walker-requires c = c.requires.1.track

pub loop-bar-init : goal.loop-bar-init
loop-bar-init c =
    along_start c.requires.3 c.first_bar-walker.ensures c.new_voice-voice.ensures

pub next_bar-next-requires : goal.next_bar-next-requires
next_bar-next-requires c = walking_sane c.loop-bar.invariant.walking c.requires.1.ticks

pub overflow_mul-bar : goal.overflow_mul-bar
overflow_mul-bar c = omega (arith, four_left c.loop-bar.invariant (omega arith), c.requires.3.few)

pub sum_counts-requires : goal.sum_counts-requires
sum_counts-requires c =
    let q = c.requires in
    (omega (arith, four_left c.loop-bar.invariant (omega arith), q.2), q.3.few)

-- the items up to this voice's lie in the arrays
pub overflow_add-here : goal.overflow_add-here
overflow_add-here c =
    let q = c.requires in
    omega (arith, items_fit c.loop-bar.invariant (omega arith) q.3 q.2, c.sum_counts.ensures.0, q.3.small)

pub overflow_mul-count : goal.overflow_mul-count
overflow_mul-count c = omega (arith, four_left c.loop-bar.invariant (omega arith), c.requires.3.few)

pub overflow_add-count : goal.overflow_add-count
overflow_add-count c = omega (arith, four_left c.loop-bar.invariant (omega arith), c.requires.3.few, c.requires.2)

pub offset_bounds-counts-bar : goal.offset_bounds-counts-bar
offset_bounds-counts-bar c = omega (arith, four_left c.loop-bar.invariant (omega arith), c.requires.3.few)

pub bounds-counts-bar : goal.bounds-counts-bar
bounds-counts-bar c =
    omega (arith, four_left c.loop-bar.invariant (omega arith), c.requires.2)

pub overflow_cast-count : goal.overflow_cast-count
overflow_cast-count c =
    omega (arith, c.type_inv.counts (4 * c.loop-bar.bar + c.args.v))

pub read_bar-requires : goal.read_bar-requires
read_bar-requires c =
    let i = c.loop-bar.invariant in
    let q = c.requires in (
      readable_same i.area q.0,
      i.within,
      before_later (start_later 0 c.loop-bar.walker.start c.loop-bar.voice.chord (omega arith)) i.before,
      i.reached,
      q.1.ticks,
      omega (arith, i.walking.start),
      omega (arith, ap (λ (w : Walker). w.start) c.next_bar-next.ensures),
      omega (arith, c.type_inv.counts (4 * c.loop-bar.bar + c.args.v)),
      omega (arith, items_fit i (omega arith) q.3 q.2, c.sum_counts.ensures.0),
      omega (arith, q.3.heads_fit, q.3.keys_fit),
    )

pub returns-in_default : goal.returns-in_default
returns-in_default c =
    let q = c.requires in
    along_fails c.loop-bar.invariant (omega arith) q.0.room q.2
    (rw (c.next_bar-next.ensures, c.sum_counts.ensures.0, c.in_default.is) at c.read_bar.ensures)

pub overflow_mul-bar-in-loop-bar : goal.overflow_mul-bar-in-loop-bar
overflow_mul-bar-in-loop-bar c =
    omega (arith, four_left c.loop-bar.invariant (omega arith), c.requires.3.few)

pub sum_counts-first-requires : goal.sum_counts-first-requires
sum_counts-first-requires c =
    (four_left c.loop-bar.invariant (omega arith), c.requires.3.few)

-- the bar's items lie in the arrays
pub overflow_add-first : goal.overflow_add-first
overflow_add-first c =
    let q = c.requires in
    omega (arith, four_fit c.loop-bar.invariant (omega arith) q.3, c.sum_counts-first.ensures.0, q.3.small)

-- behind the last bar
pub end_voice-requires : goal.end_voice-requires
end_voice-requires c =
    let q = c.requires in
    let past =
    along_last c.loop-bar.invariant (omega arith) q.0.room q.2
    (rw (c.next_bar-next.ensures, c.sum_counts.ensures.0, c.in-Some.is) at c.read_bar.ensures)
    (rw c.next_bar-next.ensures at c.if-end-next.true) in
    (readable_same past.area q.0, past_paced past)

pub shape_of-work-then-end-next : goal.shape_of-work-then-end-next
shape_of-work-then-end-next c =
    c.end_voice.ensures.same.kept ∙ c.read_bar.ensures.same.kept ∙ c.loop-bar.invariant.area.kept

pub returns-then-end-next : goal.returns-then-end-next
returns-then-end-next c =
    let q = c.requires in
    voice_ends q.0.room
    (along_last c.loop-bar.invariant (omega arith) q.0.room q.2
    (rw (c.next_bar-next.ensures, c.sum_counts.ensures.0, c.in-Some.is) at c.read_bar.ensures)
    (rw c.next_bar-next.ensures at c.if-end-next.true))
    c.end_voice.ensures

pub take_changes-walker-requires : goal.take_changes-walker-requires
take_changes-walker-requires c =
    let q = c.requires in
    rw c.next_bar-next.ensures
    (walking_ready c.loop-bar.invariant.walking q.1.track _ q.1.end_fits (rw c.next_bar-next.ensures at c.if-end-next.false))

pub loop-bar-preserved : goal.loop-bar-preserved
loop-bar-preserved c =
    let q = c.requires in
    rw c.sum_counts-first.ensures.0
    (along_more c.loop-bar.invariant (omega arith) q.0.room q.2
    (rw (c.next_bar-next.ensures, c.sum_counts.ensures.0, c.in-Some.is) at c.read_bar.ensures)
    q.1.end_fits
    (rw c.next_bar-next.ensures at c.take_changes-walker.ensures)
    (rw c.next_bar-next.ensures at c.if-end-next.false))

-- the most bars are read
pub end_voice-requires-2 : goal.end_voice-requires-2
end_voice-requires-2 c =
    let i = c.loop-bar.invariant in
    (readable_same i.area c.requires.0, past_paced (along_end i (omega arith)))

pub shape_of-work : goal.shape_of-work
shape_of-work c =
    c.end_voice-2.ensures.same.kept ∙ c.loop-bar.invariant.area.kept

pub returns : goal.returns
returns c =
    voice_ends c.requires.0.room (along_end c.loop-bar.invariant (omega arith)) c.end_voice-2.ensures
