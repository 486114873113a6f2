use native.Mathlib.Omega.{arith}
use mathlib.Core.Path.{◌∙◌}
use Rattle.rules.specs.Bars.{bars_in}
use Rattle.track_events.specs.Track.{events_of}
use Rattle.proofread_notes.proofs.Areas.{readable_same, same_then}
use Rattle.proofread_staff.proofs.Staffing.{voices_start, voices_more, staff_fails, staff_end, fours_read}
use Rattle.proofread_staff.proofs.read_staff.Goals as goal

pub clear_marks-requires : goal.clear_marks-requires
clear_marks-requires c =
    let q = c.requires in
    (q.0.room, q.0.area)

pub loop-v-init : goal.loop-v-init
loop-v-init c = voices_start c.clear_marks.ensures.marks

pub read_voice-requires : goal.read_voice-requires
read_voice-requires c =
    let q = c.requires in
    (readable_same (same_then c.clear_marks.ensures.same c.loop-v.invariant.area) c.requires.0, q.1, (omega arith), q.2)

pub shape_of-work-then-not-read_voice : goal.shape_of-work-then-not-read_voice
shape_of-work-then-not-read_voice c =
    c.read_voice.ensures.same.kept ∙ c.loop-v.invariant.area.kept ∙ c.clear_marks.ensures.same.kept

pub returns-then-not-read_voice : goal.returns-then-not-read_voice
returns-then-not-read_voice c =
    let a = c.args in
    staff_fails a.g a.n a.m a.e a.p (bars_in a.max_bars a.p (events_of a.deltas.now a.words.now) a.end) _ a.work.now _
    c.requires.0.room c.clear_marks.ensures.same (fours_read (bars_in a.max_bars a.p (events_of a.deltas.now a.words.now) a.end) a.counts.now a.heads.now a.keys.now c.requires.2.bars) c.requires.3
    (omega arith) c.loop-v.invariant c.read_voice.ensures c.if-not-read_voice.true

pub loop-v-preserved : goal.loop-v-preserved
loop-v-preserved c =
    voices_more c.requires.0.room c.loop-v.invariant c.read_voice.ensures (omega arith)
    c.if-not-read_voice.false

pub all_found-requires : goal.all_found-requires
all_found-requires c = readable_same (same_then c.clear_marks.ensures.same c.loop-v.invariant.area) c.requires.0

pub shape_of-work : goal.shape_of-work
shape_of-work c =
    c.loop-v.invariant.area.kept ∙ c.clear_marks.ensures.same.kept

pub returns : goal.returns
returns c =
    let a = c.args in
    staff_end a.g a.n a.m a.e a.p (bars_in a.max_bars a.p (events_of a.deltas.now a.words.now) a.end) _ a.work.now _
    c.requires.0.room c.clear_marks.ensures.same (fours_read (bars_in a.max_bars a.p (events_of a.deltas.now a.words.now) a.end) a.counts.now a.heads.now a.keys.now c.requires.2.bars) c.requires.3
    (omega arith) c.loop-v.invariant c.all_found.ensures
