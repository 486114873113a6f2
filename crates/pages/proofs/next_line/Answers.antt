-- `pages::next_line` puts the first line ahead of a spot: the part's, the next item's, or that of the next count at which one is due.
use native.Mathlib.Omega.{arith}
use Rattle.pages.proofs.Ahead.{puts_title, puts_item, puts_none}
use Rattle.pages.proofs.next_line.Goals as goal

pub returns-in-Some : goal.returns-in-Some
returns-in-Some c =
    let pre = c.requires in
    puts_title pre.0 c.in-Some.is c.put_title.ensures

pub returns-then-spot-ne0 : goal.returns-then-spot-ne0
returns-then-spot-ne0 c =
    let pre = c.requires in
    puts_item pre.0 c.in_default.is (omega arith) c.put_next_item.ensures

pub returns-then-c-end : goal.returns-then-c-end
returns-then-c-end c =
    puts_none _ _ c.args.at _ c.in_default.is c.if-spot-ne0.false c.if-c-end.true c.due-c.ensures.passed

pub put_count-requires : goal.put_count-requires
put_count-requires c =
    let pre = c.requires in
    (record { fits = pre.0; titled = c.in_default.is; none = c.if-spot-ne0.false; within = omega arith; due = c.due-c.ensures }, omega arith)

pub returns : goal.returns
returns c = c.put_count.ensures
