-- `printer::print_in` opens the text that was read, and prints what was opened.
use borrow.Author.Rules.{rules}
use native.Mathlib.Omega.{arith}
use Rattle.printer.proofs.Rooms.{ready_work}
use Rattle.printer.proofs.print_in.Goals as goal

pub print_opened-requires : goal.print_opened-requires
print_opened-requires c =
    let opens = c.open_text-opened.ensures.opens c.requires.bytes c.requires.held in record {
      within = c.open_text-opened.ensures.within;
      ready_for = ready_work c.open_text-opened.result 60000 _ _ _ _ _ _ _ (omega arith) opens.ready;
      in_bounds = search rules;
    }
