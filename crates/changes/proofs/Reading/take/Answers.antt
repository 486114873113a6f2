-- `take` goes by the word's kind, as the step does: each arm rewrites the step by its kind.
use mathlib.Core.Path.{ap, ◌∙◌}
use native.Mathlib.Omega.{arith}
use borrow.Author.Tests.{ne_eqb}
use Rattle.std.specs.Prelude.{Some}
use Rattle.rules.specs.Piece.{kind_of}
use Rattle.track_events.specs.declared.Kind.TheVariants.{Tempo, Meter, Key}
use Rattle.track_events.proofs.Tracks.{meter_bounds}
use Rattle.track_events.proofs.KindNumbers.{kind_some, kind_none, other_kind}
use Rattle.changes.specs.Reads.{took}
use Rattle.changes.proofs.Reading.take.Goals as goal

pub meter_in-requires : goal.meter_in-requires
meter_in-requires c =
    omega (arith, meter_bounds c.args.word c.requires (kind_some Meter c.known_kind.ensures (c.in-Some.is ∙ ap Some c.in-Meter.is)))

pub returns-in-Tempo : goal.returns-in-Tempo
unfolding took
returns-in-Tempo c =
    rw (kind_some Tempo c.known_kind.ensures (c.in-Some.is ∙ ap Some c.in-Tempo.is))
    (rw c.first_tempo-self.ensures)

pub returns-in-Meter : goal.returns-in-Meter
unfolding took
returns-in-Meter c =
    rw (kind_some Meter c.known_kind.ensures (c.in-Some.is ∙ ap Some c.in-Meter.is))
    (rw (c.or-self.ensures, c.meter_in.ensures))

pub returns-in-Key : goal.returns-in-Key
unfolding took
returns-in-Key c =
    rw (kind_some Key c.known_kind.ensures (c.in-Some.is ∙ ap Some c.in-Key.is))
    (rw (c.or-self-in-Key.ensures, c.key_in.ensures))

pub returns-in_default-kind : goal.returns-in_default-kind
unfolding took
returns-in_default-kind c =
    let other = other_kind (kind_of c.args.word) c.known_kind.ensures c.in-Some.is in
    let is = c.in_default-kind in
    rw (other Tempo is.not-Tempo, other Meter is.not-Meter, other Key is.not-Key)

pub returns-in_default : goal.returns-in_default
unfolding took
returns-in_default c =
    let n = kind_none c.known_kind.ensures c.in_default.is in
    let k = kind_of c.args.word in
    rw (ne_eqb k 2 (n Tempo), ne_eqb k 3 (n Meter), ne_eqb k 4 (n Key))
