-- `replay_lent::make` meets its contract: what is lent, and what the call leaves of it.
use mathlib.Core.Path.{◌∙◌, ap}
use native.Mathlib.Nat.{le_refl}
use Rattle.replay_calls.specs.Outcomes.{outcome}
use Rattle.replay_lent.proofs.make.Goals as goal

pub prepare-requires : goal.prepare-requires
prepare-requires c =
    c.requires

pub call-requires : goal.call-requires
call-requires c =
    let at_prepare = c.prepare in
    rw (at_prepare.auto.said ∙ c.requires.0.said_room_lem) (le_refl 8)

pub returns : goal.returns
returns c =
    let at_call = c.call in
    let at_prepare = c.prepare in
    at_call.ensures ∙ ap (outcome _ _ _ _) at_prepare.ensures
