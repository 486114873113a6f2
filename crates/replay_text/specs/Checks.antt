-- A list of the text against an array.
use Rattle.std.specs.Prelude.{ℕ, cond, List, Option, None, length}
use Rattle.std.specs.Option.{is_some}
use Rattle.rules.specs.Lists.{written}
use Rattle.replayed.specs.Differences.{difference, others}
use Rattle.replay_text.specs.Numbers.{most_wide, list_at}
use Rattle.replay_text.specs.declared.Cursor.{Cursor}
use Rattle.replay_text.specs.declared.Checked.{Checked}

-- what an array of so much room must hold: the list, and behind it the numbers that stood there before the call
abbrev pub wanted_at : List ℕ → ℕ → Cursor → List ℕ
wanted_at text room p = written (list_at most_wide text room p).all (others 0 room)

-- a difference counts only where the list could be read
abbrev pub sound : Cursor → Option ℕ → Option ℕ
sound p d = cond (is_some p.fault) None d

unfoldable pub checked_at : List ℕ → List ℕ → Cursor → Checked
checked_at text found p =
    record {
      found = sound (list_at most_wide text (length found) p).next (difference 0 (wanted_at text (length found) p) found);
      next = (list_at most_wide text (length found) p).next;
    }
