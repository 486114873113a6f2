-- `push_chord`: a span with both ties, and its ends freed.
use Prim.Native.Nat.{◌-◌, ◌≤◌}
use mathlib.Core.Path.{refl, ap₂}
use native.Mathlib.Omega.{arith}
use Rattle.chords.specs.Columns.{chord_of}
use Rattle.items.proofs.Pieces.{pieces_length, byte_flag}
use Rattle.laws.proofs.Tests.{flag_small}
use Rattle.items.proofs.Ties.{span_tied, span_chord}
use Rattle.items.specs.Writing.{quarter, Room, span_items}
use Rattle.items.proofs.push_chord.Goals as goal

pub overflow_mul-bits : goal.overflow_mul-bits
overflow_mul-bits c =
    let mark : c.from.result ≤ 1 = rw (c.from.ensures, byte_flag) (flag_small c.args.c.unpitched) in
    omega arith

pub overflow_add-bits : goal.overflow_add-bits
overflow_add-bits c =
    let mark : c.from.result ≤ 1 = rw (c.from.ensures, byte_flag) (flag_small c.args.c.unpitched) in
    omega arith

pub push_span-to-requires : goal.push_span-to-requires
push_span-to-requires c =
    let mark : c.from.result ≤ 1 = rw (c.from.ensures, byte_flag) (flag_small c.args.c.unpitched) in
    let pre = c.requires in (
      pre.0,
      omega arith,
      rw (c.min.ensures, c.max.ensures) pre.2,
      rw (c.min.ensures, c.max.ensures)
          (rw (pieces_length _ _ _ _) at pre.3),
    )

pub free_ends-requires : goal.free_ends-requires
free_ends-requires c =
    let room : Room c.args.write (span_items (quarter c.args.values.now) (c.min.result - c.max.result)) c.args.from.at c.args.heads.now c.args.keys.now =
    rw (c.min.ensures, c.max.ensures) (rw (pieces_length _ _ _ _) at c.requires.3) in
    span_tied _ (omega arith) room.heads_fit c.push_span-to.ensures

pub returns : goal.returns
returns c =
    let room : Room c.args.write (span_items (quarter c.args.values.now) (c.min.result - c.max.result)) c.args.from.at c.args.heads.now c.args.keys.now =
    rw (c.min.ensures, c.max.ensures) (rw (pieces_length _ _ _ _) at c.requires.3) in
    let tied = c.push_span-to.ensures in
    span_chord (chord_of c.args.c) c.args.c.keys _ _ _ (ap₂ ◌-◌ c.min.ensures c.max.ensures) (omega arith) refl room.heads_fit
    (rw (c.from.ensures, byte_flag) at tied)
    c.free_ends.ensures
