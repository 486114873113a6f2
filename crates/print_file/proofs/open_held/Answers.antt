-- `print_file::open_held` opens the file whose bytes were read and counted.
use mathlib.Core.Path.{◌≡◌}
use native.Mathlib.Omega.{arith}
use lib.ListN.{length}
use borrow.Author.Rules.{rules}
use Rattle.print_file.proofs.Bytes.{file_bytes, file_read, with_work}
use Rattle.print_file.proofs.open_held.Goals as goal

pub returns : goal.returns
returns c =
    let file = c.read_full-n.new.buf in
    let n = c.read_full-n.result in
    let all = c.total-all.result in
    let within = c.read_full-n.ensures.0 in
    let room : length file ≡ 1000001 = omega (arith, c.requires) in
    let bytes = file_bytes file n all within room c.total-all.ensures in record {
      within = c.open_file.ensures.within;
      opened = record {
        bytes = bytes;
        opens = with_work bytes 60000 244096 _ _ _ _ _ _ _ (search rules)
            (c.open_file.ensures.opens bytes (file_read file n all within room c.total-all.ensures));
      };
    }
