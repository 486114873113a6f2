-- `replay_lent::give` meets its contract: proof read is given the lists of the text, any other call none.
use Rattle.replay_lent.proofs.Laws.{given_lists, given_none}
use Rattle.replay_lent.proofs.give.Goals as goal

pub returns-then-q-eq-PROOF_READ : goal.returns-then-q-eq-PROOF_READ
returns-then-q-eq-PROOF_READ c =
    let at_load = c.load in
    let at_if1 = c.if-q-eq-PROOF_READ in
    given_lists _ _ _ _ _ _ _ _ _ _ _ c.requires at_if1.true at_load.ensures

pub returns-else-q-eq-PROOF_READ : goal.returns-else-q-eq-PROOF_READ
returns-else-q-eq-PROOF_READ c =
    given_none _ _ _ _ _ _ c.if-q-eq-PROOF_READ.false
