-- `print_file::total` is what was read, or what is counted on from it.
use mathlib.Core.Path.{refl}
use native.Mathlib.Omega.{arith}
use Rattle.print_file.proofs.total.Goals as goal

pub returns-then-read-room : goal.returns-then-read-room
returns-then-read-room c = record { least = omega arith; all = λ _. refl }

pub returns : goal.returns
returns c = record { least = c.count_on.ensures; all = λ l. absurd (omega (arith, l, c.if-read-room.false)) }
