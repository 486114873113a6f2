-- `push_gap_and_chord`: rests, then the chord.
use Prim.Native.Nat.{ℕ, ◌+◌, ◌-◌, ◌≤◌, ◌<◌, max}
use mathlib.Core.List.{List}
use mathlib.Core.Path.{◌≡◌, refl}
use native.Mathlib.Omega.{arith}
use Rattle.rules.specs.Items.{Item}
use Rattle.rules.specs.Staff.{rests, chord_in}
use Rattle.chords.specs.Columns.{chord_of}
use Rattle.items.specs.Writing.{quarter}
use Rattle.items.proofs.Appending.{going_start, going_room, going_more, going_end, going_left}
use Rattle.items.proofs.Spans.{left_few}
use Rattle.bar_voice.specs.Voices.{gap_and_chord, gap_and_chord_left}
use Rattle.bar_voice.proofs.push_gap_and_chord.Goals as goal

-- what is left before a chord, and the chord's ticks: no more than its end in the bar
sum_fits : (l r t m n most : ℕ) {x : ℕ} → l ≤ t → t ≤ m → r ≡ l + x → x ≤ m - t → max m n < most → r + (n - m) < most
sum_fits l r t m n most h k e x b = omega arith

pub push_rests-rests-requires : goal.push_rests-rests-requires
unfolding gap_and_chord
push_rests-rests-requires c =
    let gap : List Item = rests (quarter c.args.values.now) (max c.args.bar.start c.args.c.start - c.args.tick) in
    let chord : List Item = chord_in (quarter c.args.values.now) c.args.bar.start c.args.bar.end (chord_of c.args.c) in
    let pre = c.requires in (
      pre.0,
      omega (arith, pre.2, pre.3, c.max.ensures),
      rw c.max.ensures (going_room pre.4 (going_start _ _ _ _ _) gap chord refl),
    )

pub push_chord-requires : goal.push_chord-requires
unfolding gap_and_chord
push_chord-requires c =
    let gap : List Item = rests (quarter c.args.values.now) (max c.args.bar.start c.args.c.start - c.args.tick) in
    let chord : List Item = chord_in (quarter c.args.values.now) c.args.bar.start c.args.bar.end (chord_of c.args.c) in
    let pre = c.requires in
    let put = rw c.max.ensures at c.push_rests-rests.ensures in (
      pre.0,
      pre.1,
      sum_fits _ _ _ _ _ _ pre.3 pre.2 put.left (left_few _ _ pre.0.some_ticks) (omega arith),
      going_left pre.4 (going_more pre.4 (going_start _ _ _ _ _) gap chord refl put.items),
    )

pub returns : goal.returns
unfolding gap_and_chord gap_and_chord_left
returns c =
    let gap : List Item = rests (quarter c.args.values.now) (max c.args.bar.start c.args.c.start - c.args.tick) in
    let chord : List Item = chord_in (quarter c.args.values.now) c.args.bar.start c.args.bar.end (chord_of c.args.c) in
    let pre = c.requires in
    let put = rw c.max.ensures at c.push_rests-rests.ensures in
    let pushed = c.push_chord.ensures in
    record {
      items = going_end pre.4 (going_more pre.4 (going_start _ _ _ _ _) gap chord refl put.items) pushed.items;
      left = omega (arith, put.left, pushed.left);
    }
