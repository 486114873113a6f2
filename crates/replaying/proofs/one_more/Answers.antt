-- `replaying::one_more` meets its contract.
use Rattle.replaying.specs.Running.{one_more}
use Rattle.replaying.proofs.one_more.Goals as goal

pub returns : goal.returns
unfolding one_more
returns c =
    rw c.more_of.ensures
