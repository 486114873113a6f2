-- `free_ends`: where nothing is written, or no item is there, the heads stay; else two ties go.
use mathlib.Core.Bool.{true, ◌&&◌}
use mathlib.Core.Path.{◌≡◌, ◌∙◌}
use native.Mathlib.Omega.{arith}
use borrow.Author.Tests.{lt-ltb, le-ltb}
use lib.Dec.{ltb}
use Rattle.items.proofs.Ties.{still_tied}
use Rattle.items.proofs.free_ends.Goals.{else-write-via-then-write+else-from-to, else-write-via-else-write}
use Rattle.items.proofs.free_ends.Goals as goal

pub untie-requires : goal.untie-requires
untie-requires c =
    -- what both tests say
    let t : (c.args.write && ltb c.args.from c.args.to) ≡ true = rw c.if-write.true (lt-ltb _ _ c.if-from-to.true) in
    let b = c.requires in
    (omega (arith, b.order t, b.inside t), λ e. omega (arith, b.first t))

pub overflow_sub-to : goal.overflow_sub-to
overflow_sub-to c =
    -- what both tests say
    let t : (c.args.write && ltb c.args.from c.args.to) ≡ true = rw c.if-write.true (lt-ltb _ _ c.if-from-to.true) in
    let b = c.requires in
    omega (arith, b.order t)

pub untie-requires-then-from-to : goal.untie-requires-then-from-to
untie-requires-then-from-to c =
    -- what both tests say
    let t : (c.args.write && ltb c.args.from c.args.to) ≡ true = rw c.if-write.true (lt-ltb _ _ c.if-from-to.true) in
    let b = c.requires in
    rw c.untie.ensures (let s = still_tied b t c.args.tie_in in (s.0, λ e. s.1))

pub returns-then-from-to : goal.returns-then-from-to
returns-then-from-to c =
    -- what both tests say
    let t : (c.args.write && ltb c.args.from c.args.to) ≡ true = rw c.if-write.true (lt-ltb _ _ c.if-from-to.true) in
    rw t (c.untie-then-from-to.ensures ∙ rw c.untie.ensures)

pub returns-else-write : goal.returns-else-write
returns-else-write c =
    elim c.else-write.branch [
      | else-write-via-then-write+else-from-to w ↦ rw (w.if-write.true, le-ltb _ _ w.if-from-to.false)
      | else-write-via-else-write w ↦ rw w.if-write.false
    ]
