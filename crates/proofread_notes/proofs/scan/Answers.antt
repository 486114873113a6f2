use mathlib.Core.Path.{sym, ◌∙◌}
use native.Mathlib.Omega.{arith}
use Rattle.proofread_notes.proofs.Scanning.{scan_start, scan_more, scan_stop, scan_last}
use Rattle.proofread_notes.proofs.Areas.{readable_same}
use Rattle.proofread_notes.proofs.scan.Goals as goal

pub loop-i-init : goal.loop-i-init
loop-i-init c = scan_start c.requires.0 c.requires.1

pub start_of-requires : goal.start_of-requires
start_of-requires c = (readable_same c.loop-i.invariant.same c.requires.0, omega arith)

pub shape_of-work-then-start_of-c : goal.shape_of-work-then-start_of-c
shape_of-work-then-start_of-c c = c.loop-i.invariant.same.kept

pub returns-then-start_of-c : goal.returns-then-start_of-c
returns-then-start_of-c c =
    scan_stop c.requires.0 c.requires.1 c.loop-i.invariant (omega arith)
    (λ e. c.if-start_of-c.true (c.start_of.ensures.0 ∙ e))

pub take_note-x-requires : goal.take_note-x-requires
take_note-x-requires c =
    (readable_same c.loop-i.invariant.same c.requires.0, omega arith)

pub loop-i-preserved : goal.loop-i-preserved
loop-i-preserved c =
    scan_more c.requires.0 c.loop-i.invariant (omega arith)
    (sym c.start_of.ensures.0 ∙ c.if-start_of-c.false) c.take_note-x.ensures

pub shape_of-work : goal.shape_of-work
shape_of-work c = c.loop-i.invariant.same.kept

pub returns : goal.returns
returns c = scan_last c.requires.0 c.loop-i.invariant (omega arith)
