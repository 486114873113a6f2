use native.Mathlib.Omega.{arith}
use Rattle.voices.proofs.Spreading.{spreading_none, spreading_one, spreading_end}
use Rattle.voices.proofs.place_chords.Goals as goal

pub loop-k-init : goal.loop-k-init
loop-k-init c = spreading_none _ _ _ c.requires.0

pub place_chord-requires : goal.place_chord-requires
place_chord-requires c =
    let inv = c.loop-k.invariant in
    record { room = omega arith; cells = inv.cells; known = inv.known }

pub loop-k-preserved : goal.loop-k-preserved
loop-k-preserved c =
    spreading_one c.requires.1 (omega arith) c.loop-k.invariant c.place_chord.ensures

pub returns : goal.returns
returns c = spreading_end (omega arith) c.loop-k.invariant
