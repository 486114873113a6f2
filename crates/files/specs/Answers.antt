-- What the answers mean: a number, or how many sizes and events the piece has.
use Rattle.std.specs.Prelude as std
use Rattle.rules.specs.Refusals.{Result}
use Rattle.rules.specs.Calls.{PieceSize}
use Rattle.basics.specs.declared.Refusal.{Refusal}
use Rattle.basics.specs.Refusals.{told_by}
use Rattle.files.specs.declared.PieceSize as size

abbrev pub piece_size : size.PieceSize → PieceSize
piece_size s = record { sizes = s.sizes; events = s.events }

abbrev pub piece_answer : std.Result size.PieceSize Refusal → Result PieceSize
piece_answer = told_by piece_size
