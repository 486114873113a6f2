-- `print_file::count_on` counts on, and ends. Invariant: no fewer than were read; the measure is the bytes that a file may still have.
use Prim.Native.Nat.{◌-◌, ◌≤◌}
use Rattle.print_file.proofs.count_on.Given as goal

abbrev pub invariant-loop-n : goal.invariant-loop-n
invariant-loop-n l = l.read ≤ l.n

abbrev pub decreases-loop-n : goal.decreases-loop-n
decreases-loop-n l = 67108865 - l.n
