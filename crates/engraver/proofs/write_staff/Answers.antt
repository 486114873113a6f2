-- `write_staff`: the size is known before anything is written.
use Prim.Native.Nat.{ℕ}
use mathlib.Core.Bool.{Bool}
use mathlib.Core.List.{List}
use mathlib.Core.Path.{◌≡◌, sym, ap, ◌∙◌}
use lib.ListN.{length}
use Rattle.rules.specs.Bars.{Bar}
use Rattle.rules.specs.Calls.{StaffSize}
use Rattle.staff.specs.Staffs.{bars_of}
use Rattle.engraver.specs.Sizes.{room_for}
use Rattle.engraver.proofs.Outcomes.{has_room, left_out, written_out}
use Rattle.engraver.proofs.Tables.{quarter_is, table_is, four_voices}
use Rattle.engraver.proofs.write_staff.Goals as goal

-- what the test says of the staff's size, by the size that was measured
told : (cs hs ks ls : List ℕ) {x s : StaffSize} {r : Bool} → s ≡ x → r ≡ room_for s (length cs) (length hs) (length ks) (length ls)
    → room_for x (length cs) (length hs) (length ks) (length ls) ≡ r
told cs hs ks ls same e = sym (ap (λ (y : StaffSize). room_for y (length cs) (length hs) (length ks) (length ls)) same) ∙ sym e

pub transcribe_track-requires : goal.transcribe_track-requires
transcribe_track-requires c =
    let bs : List Bar = bars_of c.args.deltas.now c.args.words.now c.args.p c.args.end c.args.max_bars in
    let four = four_voices c.args.n c.args.work.now c.args.lens in
    let room = told c.args.counts.now c.args.heads.now c.args.keys.now c.args.leftovers.now c.measure_staff-size.ensures c.has_room.ensures in
    rw c.note_values-values.ensures (
      table_is _ c.requires.1,
      rw (quarter_is _) c.requires.0,
      c.requires.2,
      c.requires.3,
      rw (quarter_is _)
          (has_room c.args.p _ four bs c.args.counts.now c.args.heads.now c.args.keys.now c.args.leftovers.now
          (room ∙ c.if-has_room.true)),
    )

pub returns-then-has_room : goal.returns-then-has_room
returns-then-has_room c =
    let bs : List Bar = bars_of c.args.deltas.now c.args.words.now c.args.p c.args.end c.args.max_bars in
    let four = four_voices c.args.n c.args.work.now c.args.lens in
    let room = told c.args.counts.now c.args.heads.now c.args.keys.now c.args.leftovers.now c.measure_staff-size.ensures c.has_room.ensures in
    let put = rw (c.note_values-values.ensures, quarter_is _) at c.transcribe_track.ensures in
    written_out c.args.p _ four bs c.args.counts.now c.args.heads.now c.args.keys.now c.args.leftovers.now
    (room ∙ c.if-has_room.true) c.measure_staff-size.ensures put

pub returns : goal.returns
returns c =
    let bs : List Bar = bars_of c.args.deltas.now c.args.words.now c.args.p c.args.end c.args.max_bars in
    let four = four_voices c.args.n c.args.work.now c.args.lens in
    let room = told c.args.counts.now c.args.heads.now c.args.keys.now c.args.leftovers.now c.measure_staff-size.ensures c.has_room.ensures in
    left_out c.args.p _ four bs c.args.counts.now c.args.heads.now c.args.keys.now c.args.leftovers.now
    (room ∙ c.if-has_room.false)
