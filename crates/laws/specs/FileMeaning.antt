-- What is claimed of the events that are read from a file: each word means what the standards say that its bytes mean, as far as document 01's table
-- keeps it.
use Rattle.std.specs.Prelude.{ℕ, ◌≡◌}
use mathlib.Core.List.{List, map, flatten}
use Rattle.rules.specs.Standard.{message_meaning}
use Rattle.rules.specs.Meanings.{meaning, kept}
use Rattle.rules.specs.File.{Timed, file_piece, file_tracks}
use Rattle.laws.specs.Files.{Bytes}

-- For every file, one by one: the meaning of the word is what is kept of the meaning of the event. A file that is not read has no words.
pub record EventsMeanTheirBytes : Type 0 where
  pub words : (bs : List ℕ) → Bytes bs
      → map meaning (file_piece bs).words ≡ map (λ (e : Timed). kept (message_meaning e.message)) (flatten (file_tracks bs))
