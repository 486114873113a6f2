-- `check_chord` holds a chord against the notes of its start: `skip` finds them, `scan` gathers them, and two tests decide.
use mathlib.Core.Path.{sym, ◌∙◌}
use native.Mathlib.Omega.{arith}
use Rattle.proofread_notes.proofs.Meant.{checks_yes, checks_end, checks_no}
use Rattle.proofread_notes.proofs.check_chord.Goals as goal
use Rattle.proofread_notes.proofs.check_chord.Goals.{else-keys_meant-via-then-keys_meant+else-end_meant, else-keys_meant-via-else-keys_meant}

pub returns-then-end_meant : goal.returns-then-end_meant
returns-then-end_meant c =
    checks_yes c.requires.0
    c.scan-x.ensures c.skip-at.ensures (omega arith)
    (omega arith) (omega arith) (omega arith) c.keys_meant.ensures c.if-keys_meant.true (sym c.if-end_meant.true ∙ c.end_meant.ensures)

pub returns-else-keys_meant : goal.returns-else-keys_meant
returns-else-keys_meant c = elim c.else-keys_meant.branch [
  | else-keys_meant-via-then-keys_meant+else-end_meant w ↦ checks_end c.requires.0
      c.scan-x.ensures c.skip-at.ensures (omega arith)
      (omega arith) (omega arith) (omega arith) c.keys_meant.ensures w.if-keys_meant.true (sym w.if-end_meant.false ∙ w.end_meant.ensures)
  | else-keys_meant-via-else-keys_meant w ↦ checks_no c.requires.0
      c.scan-x.ensures c.skip-at.ensures (omega arith)
      (omega arith) (omega arith) (omega arith) c.keys_meant.ensures w.if-keys_meant.false
]
