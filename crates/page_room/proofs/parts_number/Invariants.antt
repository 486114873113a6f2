-- `page_room::parts_number` asks the parts one after another. Invariant: what is left to ask has the number of all; behind the first part
-- the work area is known to be long enough.
use Prim.Native.Nat.{◌<◌}
use mathlib.Core.Bool.{false}
use mathlib.Core.Path.{◌≡◌}
use lib.ListN.{length}
use Rattle.rules.specs.Piece.{piece}
use Rattle.rules.specs.Refusals.{first_number, short_work}
use Rattle.page_room.proofs.Numbers.{asked_from}
use Rattle.page_room.proofs.parts_number.Given as goal

abbrev pub invariant-loop-part : goal.invariant-loop-part
invariant-loop-part l = (length l.work ≡ length l.initial.work)
    × (first_number (asked_from (piece l.sizes l.deltas l.words) l.items (length l.initial.work) l.part) ≡ first_number (asked_from (piece l.sizes l.deltas l.words) l.items (length l.initial.work) 0))
    × (0 < l.part → (short_work (piece l.sizes l.deltas l.words) (length l.initial.work)).applies ≡ false)
