-- Where a marker has no answer, the markers left change nothing.
use Prim.Native.Nat.{◌+◌}
use mathlib.Core.List.{foldl}
use mathlib.Core.Path.{sym, ap, ◌∙◌}
use native.Mathlib.Omega.{arith}
use lib.ListN.{drop}
use Rattle.std.specs.Prelude.{Option, Some}
use Rattle.laws.proofs.Places.{foldl_left}
use Rattle.auxiliary_channels.specs.declared.Pairs.{Pairs}
use Rattle.auxiliary_channels.specs.Markers.{kept, then_taken}
use Rattle.auxiliary_channels.proofs.MarkerLaws.{none_taken}
use Rattle.auxiliary_channels.proofs.collect_markers.Goals as goal

pub returns-in_err-take_marker : goal.returns-in_err-take_marker
returns-in_err-take_marker c =
    let rest = drop (c.loop-word.word-index + 1) c.args.words.now in
    let none = ap (λ (o : Option (Unit {0})). kept o c.take_marker.new.self) (sym c.in_err-take_marker.was) ∙ c.take_marker.ensures in
    c.from_residual.ensures
    ∙ sym (none_taken rest)
    ∙ ap (λ (o : Option Pairs). foldl then_taken o rest) none
    ∙ foldl_left then_taken _ c.loop-word.word-index (Some c.loop-word.pairs) 0 (omega arith)
    ∙ c.loop-word.invariant
