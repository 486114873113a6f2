-- `write_automation` meets its contract: the counts are known before anything is written.
use native.Mathlib.Omega.{arith}
use Rattle.rules.specs.Refusals.{most_events}
use Rattle.automation_events.specs.declared.Kind.TheVariants.{Bend, Controller, Program, Pressure}
use Rattle.automation_events.specs.Kinds.{AtMost}
use Rattle.automation_events.proofs.CountLaws.{counts_few, ticks_total, words_total}
use Rattle.automation.proofs.AutomationOutcomes.{ticks_short, words_short, automation_given}
use Rattle.automation.proofs.write_automation.Goals as goal

pub overflow_add-all : goal.overflow_add-all
overflow_add-all c =
    let few : (AtMost most_events c.count_automation-counts.result) = counts_few c.requires.0 c.count_automation-counts.ensures in
    let each = (few).each in omega (arith, each Bend, each Controller)

pub overflow_add-all-2 : goal.overflow_add-all-2
overflow_add-all-2 c =
    let few : (AtMost most_events c.count_automation-counts.result) = counts_few c.requires.0 c.count_automation-counts.ensures in
    let each = (few).each in omega (arith, each Bend, each Controller, each Program)

pub overflow_add-all-3 : goal.overflow_add-all-3
overflow_add-all-3 c =
    let few : (AtMost most_events c.count_automation-counts.result) = counts_few c.requires.0 c.count_automation-counts.ensures in
    let each = (few).each in omega (arith, each Bend, each Controller, each Program, each Pressure)

pub returns-then-ticks-all : goal.returns-then-ticks-all
returns-then-ticks-all c = ticks_short _ _ _ _ _ c.count_automation-counts.ensures c.if-ticks-all.true

pub returns-then-out-all : goal.returns-then-out-all
returns-then-out-all c = words_short _ _ _ _ _ c.count_automation-counts.ensures c.if-ticks-all.false c.if-out-all.true

pub collect_automation-requires : goal.collect_automation-requires
collect_automation-requires c =
    let counts = c.count_automation-counts.ensures in
    record {
      track = c.requires.0;
      drops = c.recognized_auxiliary_channels-dropped.ensures;
      positive = c.requires.1;
      small = c.requires.2;
      counted = counts;
      ticks = omega (arith, ticks_total counts c.args.p, c.if-ticks-all.false);
      words = omega (arith, words_total counts c.args.p, c.if-out-all.false);
    }

pub returns : goal.returns
returns c =
    automation_given _ _ _ _ _ c.count_automation-counts.ensures c.if-ticks-all.false c.if-out-all.false
    c.collect_automation.ensures.ticks c.collect_automation.ensures.words
