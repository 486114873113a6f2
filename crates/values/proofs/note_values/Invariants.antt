-- `note_values` writes the table, two entries a code. The invariant: the entries of the codes before `code` are written.
use Rattle.values.proofs.Tables.{Tabled}
use Rattle.values.proofs.note_values.Given as goal

abbrev pub invariant-loop-code : goal.invariant-loop-code
invariant-loop-code l = Tabled l.p l.code l.initial.values l.values
