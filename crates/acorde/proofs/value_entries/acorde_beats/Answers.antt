-- `acorde_beats`: what `beats_of` answers, case by case.
use mathlib.Core.Path.{subst}
use Rattle.rules.specs.Calls.{beats_call}
use Rattle.duration.specs.Calls.{measured_answer, Exactly}
use Rattle.acorde.proofs.Entered.{beats_given, beats_refused}
use Rattle.acorde.proofs.value_entries.acorde_beats.Goals as goal

pub returns-in-Ok : goal.returns-in-Ok
returns-in-Ok c =
    let r = beats_call c.args.code c.args.dots in
    beats_given r c.in-Ok.beats
    (subst (λ m. Exactly r (measured_answer m)) c.in-Ok.is c.beats_of.ensures)

pub returns-in-Err : goal.returns-in-Err
unfolding lib.Ieee.of_bits
returns-in-Err c =
    let r = beats_call c.args.code c.args.dots in
    rw c.from.ensures (beats_refused r _ (subst (λ m. Exactly r (measured_answer m)) c.in-Err.is c.beats_of.ensures))
