-- `page_openings::put_lines` puts a refusal's line, or lines of the part that is open, or nothing where none is.
use native.Mathlib.Omega.{arith}
use Rattle.page_openings.proofs.Turns.{put_refusal, put_none, put_part}
use Rattle.page_openings.proofs.put_lines.Goals as goal

pub returns-then-place-ne0 : goal.returns-then-place-ne0
returns-then-place-ne0 c =
    put_refusal _ c.args.place _ _ _ c.if-place-ne0.true (omega (arith, c.requires.in_bounds))
    c.put_refused-at.ensures c.refused-end.ensures

pub returns-in_default : goal.returns-in_default
returns-in_default c = put_none _ _ _ c.if-place-ne0.false c.in_default.is

pub next_lines-put-requires : goal.next_lines-put-requires
next_lines-put-requires c = (c.requires.fits _ c.in-Some.is, c.requires.in_bounds)

pub returns : goal.returns
returns c =
    rw c.behind.ensures (put_part _ _ _ _ _ c.if-place-ne0.false c.in-Some.is c.next_lines-put.ensures)
