-- `piece_text::read_bytes` reads bytes. Invariant: reading on with what is left is reading the whole.
use Rattle.piece_text.specs.Held.{ReadingHeld}
use Rattle.piece_text.specs.Text.{Reading, read_on}
use lib.ListN.{length, take}
use mathlib.Core.Path.{◌≡◌}
use Rattle.piece_text.proofs.read_bytes.Given as goal

abbrev pub invariant-loop-b : goal.invariant-loop-b
invariant-loop-b l = (length l.sizes ≡ length l.initial.sizes) × (length l.deltas ≡ length l.initial.deltas) × (length l.words ≡ length l.initial.words)
    × ((a : Reading) → ReadingHeld a l.initial.state l.initial.sizes l.initial.deltas l.initial.words → ReadingHeld (read_on a (take l.b-index l.bytes)) l.state l.sizes l.deltas l.words)
