-- `print_file::print_in` opens the file of standard input, and prints what was opened.
use borrow.Author.Rules.{rules}
use Rattle.printer.proofs.Rooms.{ready_work}
use Rattle.print_file.proofs.print_in.Goals as goal

pub print_opened-requires : goal.print_opened-requires
print_opened-requires c =
    let opens = c.open_input-opened.ensures.opened.opens in record {
      within = c.open_input-opened.ensures.within;
      ready_for = ready_work c.open_input-opened.result 60000 _ _ _ _ _ _ _ (search rules) opens.ready;
      in_bounds = search rules;
    }
