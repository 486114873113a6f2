use native.Mathlib.Omega.{arith}
use Rattle.laws.specs.Sort.{FallsFrom}
use Rattle.laws.proofs.ChordLaws.{chord_start}
use Rattle.laws.specs.Places.{down}
use Rattle.chords.specs.Columns.{note_of, chord_at}
use Rattle.chords.specs.Steps.{PlaceFor}
use Rattle.chords.proofs.Gathering.{found_none, found_one, gathering_none, before_falls, gathering_open, gathering_join, gathering_end}
use Rattle.chords.proofs.gather_chords.Goals.{then-loop-i-test+then-work-n, then-loop-i-test+else-work-n+then-work-n-2, else-loop-i-test, in-Some, in-None}
use Rattle.chords.proofs.gather_chords.Goals as goal

pub loop-k-init : goal.loop-k-init
loop-k-init c = gathering_none _ _ _

pub loop-k-preserved : goal.loop-k-preserved
loop-k-preserved c =
    -- the chords so far come in order, none after the note
    let falls : FallsFrom chord_start c.note_at-note.result.start (down (chord_at c.args.n c.loop-k.work) c.loop-k.chords) =
    before_falls c.requires.1 c.loop-k.invariant (omega arith) c.note_at-note.ensures c.requires.2 in
    -- the three ways out of the search
    let here = c.loop-i.invariant in
    let placed : PlaceFor c.args.n c.loop-k.chords (note_of c.note_at-note.result) c.loop-k.work c.loop-i-test.place =
    elim c.loop-i-test.branch [
      | then-loop-i-test+then-work-n w ↦ rw w.place-is (found_none here falls (λ h. w.if-work-n.true))
      | then-loop-i-test+else-work-n+then-work-n-2 w ↦ rw w.place-is (found_one here (omega arith) w.if-work-n.false w.if-work-n-2.true)
      | else-loop-i-test w ↦ rw w.place-is (found_none here falls (λ h. absurd (omega arith)))
    ] in
    elim c.match-place.branch [
      | in-Some w ↦
          rw (w.work-is, w.chords-is)
          (gathering_join c.requires.1 c.loop-k.invariant (omega arith) c.note_at-note.ensures (rw w.in-Some.is at placed) w.join_chord.ensures)
      | in-None w ↦
          rw (w.work-is, w.chords-is)
          (gathering_open c.requires.1 c.loop-k.invariant (omega arith) c.note_at-note.ensures (rw w.in-None.is at placed) w.open_chord.ensures)
    ]

pub returns : goal.returns
returns c = gathering_end c.requires.1 (omega arith) c.loop-k.invariant
