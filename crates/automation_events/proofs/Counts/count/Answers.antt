-- `count` adds 1 to the counts of the lists that the word belongs to.
use native.Mathlib.Omega.{arith}
use Rattle.automation_events.specs.declared.Kind.TheVariants.{Bend, Controller, Program, Pressure}
use Rattle.laws.proofs.Tests.{flag_small}
use Rattle.std.proofs.Common.{ℕ, ◌+◌, ◌≡◌, Bool, List}
use Rattle.rules.specs.Lists.{flag}
use Rattle.automation_events.specs.declared.Counts.{Counts}
use Rattle.automation_events.specs.declared.Kind.{Kind}
use Rattle.automation_events.specs.Kinds.{wanted, count_of, Counted}
use Rattle.automation_events.proofs.Counts.count.Goals as goal

pub overflow_add-result : goal.overflow_add-result
overflow_add-result c = omega (arith, c.from.ensures, flag_small c.is_wanted.result, c.requires.1.each Bend)

pub overflow_add-result-2 : goal.overflow_add-result-2
overflow_add-result-2 c =
    omega (arith, c.from-2.ensures, flag_small c.is_wanted-2.result, c.requires.1.each Controller)

pub overflow_add-result-3 : goal.overflow_add-result-3
overflow_add-result-3 c =
    omega (arith, c.from-3.ensures, flag_small c.is_wanted-3.result, c.requires.1.each Program)

pub overflow_add-result-4 : goal.overflow_add-result-4
overflow_add-result-4 c =
    omega (arith, c.from-4.ensures, flag_small c.is_wanted-4.result, c.requires.1.each Pressure)

counted : {s r : Counts} {dropped : List Bool} {w : ℕ}
    → r.bends ≡ s.bends + flag (wanted Bend dropped w) → r.controllers ≡ s.controllers + flag (wanted Controller dropped w)
    → r.programs ≡ s.programs + flag (wanted Program dropped w) → r.pressures ≡ s.pressures + flag (wanted Pressure dropped w)
    → Counted s dropped w r
counted {s} {r} {dropped} {w} b c g p = record { each = each }
  where
    each : (k : Kind) → count_of k r ≡ count_of k s + flag (wanted k dropped w)
    each Bend = b
    each Controller = c
    each Program = g
    each Pressure = p

pub returns : goal.returns
returns c = counted
    (rw (c.from.ensures, c.is_wanted.ensures))
    (rw (c.from-2.ensures, c.is_wanted-2.ensures))
    (rw (c.from-3.ensures, c.is_wanted-3.ensures))
    (rw (c.from-4.ensures, c.is_wanted-4.ensures))
