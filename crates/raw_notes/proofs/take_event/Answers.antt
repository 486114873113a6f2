-- `take_event` goes one event on, whatever was paired before: each arm is one case of the pairing's step.
use mathlib.Core.Path.{refl, ◌∙◌}
use Rattle.pairing.specs.declared.Paired.TheVariants.{Other, Started, Unmatched}
use Rattle.raw_notes.proofs.Turns.{turned_open, note_fits, turned_closed}
use Rattle.raw_notes.proofs.take_event.Goals as goal

pub put_note-requires : goal.put_note-requires
put_note-requires c =
    let pre = c.requires in
    let a = c.take_apart-x.ensures in
    let q = rw c.in-Closed.is at (c.pair_event-p.ensures pre.x pre.pairs.queues) in
    note_fits c.pair_event-p.auto.work pre.pairs q pre.soon (c.from.ensures ∙ a.b) (c.from-in-Closed.ensures ∙ a.a)

pub returns-in-Other : goal.returns-in-Other
returns-in-Other c x p =
    let q = rw c.in-Other.is at (c.pair_event-p.ensures x p.queues) in
    turned_open c.pair_event-p.auto.work p c.requires.soon Other refl q

pub returns-in-Started : goal.returns-in-Started
returns-in-Started c x p =
    let q = rw c.in-Started.is at (c.pair_event-p.ensures x p.queues) in
    turned_open c.pair_event-p.auto.work p c.requires.soon Started refl q

pub returns-in-Closed : goal.returns-in-Closed
returns-in-Closed c x p =
    let a = c.take_apart-x.ensures in
    let q = rw c.in-Closed.is at (c.pair_event-p.ensures x p.queues) in
    turned_closed c.pair_event-p.auto.work p c.requires.soon q c.put_note.auto.work
    (rw (c.from.ensures ∙ a.b, c.from-in-Closed.ensures ∙ a.a) at c.put_note.ensures)

pub returns-in-Unmatched : goal.returns-in-Unmatched
returns-in-Unmatched c x p =
    let q = rw c.in-Unmatched.is at (c.pair_event-p.ensures x p.queues) in
    turned_open c.pair_event-p.auto.work p c.requires.soon Unmatched refl q
