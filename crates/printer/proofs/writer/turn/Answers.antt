-- `printer::writer::turn` opens, puts and writes; the place behind it is ready, and nearer to the end.
use mathlib.Core.Path.{sym}
use lib.Seq.{length-take-le}
use Rattle.page_openings.proofs.Turns.{turn_goes}
use Rattle.printer.proofs.writer.turn.Goals as goal

pub put_lines-put-requires : goal.put_lines-put-requires
put_lines-put-requires c =
    record { fits = c.open_next-open.ensures.ready.fits; in_bounds = c.requires.in_bounds }

pub slice_bounds-write_all-end-2 : goal.slice_bounds-write_all-end-2
slice_bounds-write_all-end-2 c = sym (length-take-le _ _ c.put_lines-put.ensures.within)

pub returns : goal.returns
returns c =
    record {
      ready = c.put_lines-put.ensures.ready _ _ c.open_next-open.ensures.ready;
      less = turn_goes _ _ _ _ _ _ _ _ c.open_next-open.ensures c.put_lines-put.ensures;
    }
