-- `read_part` asks for evenness first, then for the arrays' shape, then for the staff.
use mathlib.Core.Path.{sym, ◌∙◌}
use native.Mathlib.Omega.{arith}
use borrow.Author.Tests.{not-true, not-false}
use Rattle.proofread_staff.specs.Staffs.{raws_at}
use Rattle.proofread_staff.proofs.Answers.{fits_of, uneven_grid, uneven_bars, malformed, answered}
use Rattle.proofread_staff.proofs.read_part.Goals as goal

pub measure-x-requires : goal.measure-x-requires
measure-x-requires c =
    let q = c.requires in
    (q.0, q.2, c.smallest_value-u.ensures.1)

pub returns-then-g-u-ne0 : goal.returns-then-g-u-ne0
returns-then-g-u-ne0 c =
    let a = c.args in
    uneven_grid a.p a.g (raws_at a.n a.m a.work.now)
    (record { counts = a.counts.now; heads = a.heads.now; keys = a.keys.now }) c.smallest_value-u.ensures.0 c.measure-x.ensures
    c.if-g-u-ne0.true

pub returns-then-not-x : goal.returns-then-not-x
returns-then-not-x c =
    let a = c.args in
    uneven_bars a.p a.g (raws_at a.n a.m a.work.now)
    (record { counts = a.counts.now; heads = a.heads.now; keys = a.keys.now }) c.smallest_value-u.ensures.0 c.measure-x.ensures
    c.if-g-u-ne0.false (not-true c.measure-x.result.even c.if-not-x.true)

pub shaped-requires : goal.shaped-requires
shaped-requires c =
    omega (arith, c.measure-x.ensures.few, c.requires.2)

pub returns-then-not-shaped : goal.returns-then-not-shaped
returns-then-not-shaped c =
    let a = c.args in
    malformed a.p a.g (raws_at a.n a.m a.work.now)
    (record { counts = a.counts.now; heads = a.heads.now; keys = a.keys.now }) c.smallest_value-u.ensures.0 c.measure-x.ensures
    c.if-g-u-ne0.false (not-false c.measure-x.result.even c.if-not-x.false)
    c.shaped.ensures c.if-not-shaped.true

pub read_staff-requires : goal.read_staff-requires
read_staff-requires c =
    let q = c.requires in
    let measured = c.measure-x.ensures in (
      q.3,
      q.0,
      fits_of c.shaped.ensures measured.bars c.if-not-shaped.false,
      measured.end,
    )

pub returns-then-read_staff : goal.returns-then-read_staff
returns-then-read_staff c =
    let a = c.args in
    answered a.p a.g (raws_at a.n a.m a.work.now) (record { counts = a.counts.now; heads = a.heads.now; keys = a.keys.now })
    c.smallest_value-u.ensures.0 c.measure-x.ensures
    c.if-g-u-ne0.false (not-false c.measure-x.result.even c.if-not-x.false)
    c.shaped.ensures c.if-not-shaped.false (sym c.if-read_staff.true ∙ c.read_staff.ensures)

pub returns : goal.returns
returns c =
    let a = c.args in
    answered a.p a.g (raws_at a.n a.m a.work.now) (record { counts = a.counts.now; heads = a.heads.now; keys = a.keys.now })
    c.smallest_value-u.ensures.0 c.measure-x.ensures
    c.if-g-u-ne0.false (not-false c.measure-x.result.even c.if-not-x.false)
    c.shaped.ensures c.if-not-shaped.false (sym c.if-read_staff.false ∙ c.read_staff.ensures)
