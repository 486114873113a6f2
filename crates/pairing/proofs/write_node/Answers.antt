-- `write_node` writes a node that no queue has yet, and leaves the nodes before it.
use Rattle.pairing.proofs.Chains.{wrote}
use native.Mathlib.Omega.{arith}
use lib.ListN.{length-set}
use Rattle.pairing.proofs.write_node.Goals as goal

pub bounds-work-n-2 : goal.bounds-work-n-2
bounds-work-n-2 c = simp length-set (omega arith)

pub bounds-work-n-3 : goal.bounds-work-n-3
bounds-work-n-3 c = simp length-set (omega arith)

pub returns : goal.returns
returns c = wrote _ _ (omega arith) (omega arith)
