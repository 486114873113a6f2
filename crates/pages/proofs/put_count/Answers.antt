-- `pages::put_count` puts the first line at a count that is due: a bar's where a bar begins there, else the first item's.
use native.Mathlib.Omega.{arith}
use Rattle.pages.proofs.Ahead.{here_fits, some_left, puts_bar, puts_first}
use Rattle.pages.proofs.put_count.Goals as goal

pub put_bar_at-requires : goal.put_bar_at-requires
put_bar_at-requires c =
    let fits = here_fits c.requires.0 c.enter-here.ensures in
    omega arith

pub returns-then-c-eq0 : goal.returns-then-c-eq0
returns-then-c-eq0 c =
    let pre = c.requires in
    puts_bar pre.0 c.enter-here.ensures c.if-c-eq0.true c.put_bar_at.ensures

pub put_next_item-requires : goal.put_next_item-requires
put_next_item-requires c =
    let due = c.requires.0 in
    let fits = here_fits due c.enter-here.ensures in
    let some = some_left due c.enter-here.ensures c.if-c-eq0.false in
    omega arith

pub returns : goal.returns
returns c =
    let pre = c.requires in
    puts_first pre.0 c.enter-here.ensures c.if-c-eq0.false c.put_next_item.ensures
