-- `unmatched_notes` puts a track's offs without ons, then its ons without offs.
use native.Mathlib.Omega.{arith}
use Rattle.unmatched.proofs.Taking.{notes_found}
use Rattle.unmatched.proofs.unmatched_notes.Goals as goal

pub take_all-requires : goal.take_all-requires
take_all-requires c =
    let p = c.pair_track-s.ensures in
    let pre = c.requires in
    record { tails = _; count = _; x = _; pairs = p.pairs; numbered = pre.numbered; room = omega (arith, p.few, pre.room) }

pub returns : goal.returns
returns c =
    let p = c.pair_track-s.ensures in
    notes_found p (c.take_all.ensures _ _ _ p.pairs)
