-- `bad_deltas` joins the deltas' bits. The invariant: no delta so far is larger than what they are joined to.
use Prim.Native.Nat.{ℕ, ◌≤◌, ◌<◌}
use lib.ListN.{get_or}
use Rattle.admission.proofs.bad_deltas.Given as goal

abbrev pub invariant-loop-i : goal.invariant-loop-i
invariant-loop-i l = (j : ℕ) → l.from ≤ j → j < l.i → get_or l.deltas j 0 ≤ l.all
