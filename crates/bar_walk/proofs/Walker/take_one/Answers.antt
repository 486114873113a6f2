-- `take_one` goes by the word's kind: each arm rewrites the step by its kind.
use mathlib.Core.Path.{ap, ◌∙◌}
use native.Mathlib.Omega.{arith}
use borrow.Author.Tests.{ne_eqb}
use Rattle.std.specs.Prelude.{Some}
use Rattle.rules.specs.Piece.{kind_of}
use Rattle.track_events.specs.declared.Kind.TheVariants.{Tempo, Meter, Key}
use Rattle.track_events.proofs.Tracks.{meter_bounds}
use Rattle.track_events.proofs.KindNumbers.{kind_some, kind_none, other_kind}
use Rattle.bar_walk.proofs.Walker.take_one.Goals as goal

pub take_meter-requires : goal.take_meter-requires
take_meter-requires c =
    omega (arith, meter_bounds c.args.word c.requires.formed (kind_some Meter c.known_kind.ensures (c.in-Some.is ∙ ap Some c.in-Meter.is)))

pub returns-in-Tempo : goal.returns-in-Tempo
returns-in-Tempo c = rw (kind_some Tempo c.known_kind.ensures (c.in-Some.is ∙ ap Some c.in-Tempo.is)) c.take_tempo.ensures

pub returns-in-Meter : goal.returns-in-Meter
returns-in-Meter c = rw (kind_some Meter c.known_kind.ensures (c.in-Some.is ∙ ap Some c.in-Meter.is)) c.take_meter.ensures

pub returns-in-Key : goal.returns-in-Key
returns-in-Key c = rw (kind_some Key c.known_kind.ensures (c.in-Some.is ∙ ap Some c.in-Key.is)) c.take_key.ensures

pub returns-in_default-kind : goal.returns-in_default-kind
returns-in_default-kind c =
    let other = other_kind (kind_of c.args.word) c.known_kind.ensures c.in-Some.is in
    let is = c.in_default-kind in
    rw (other Tempo is.not-Tempo, other Meter is.not-Meter, other Key is.not-Key)

pub returns-in_default : goal.returns-in_default
returns-in_default c =
    let n = kind_none c.known_kind.ensures c.in_default.is in
    let k = kind_of c.args.word in
    rw (ne_eqb k 2 (n Tempo), ne_eqb k 3 (n Meter), ne_eqb k 4 (n Key))
