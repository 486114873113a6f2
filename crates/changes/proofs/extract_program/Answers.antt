use mathlib.Core.Path.{sym, ap, ◌∙◌}
use Rattle.rules.specs.Changes as rules
use Rattle.changes.proofs.ProgramLaws.{program_is, program_here, program_on, program_none}
use Rattle.changes.proofs.extract_program.Goals as goal

pub returns-then-is_kind : goal.returns-then-is_kind
returns-then-is_kind c =
    let at = c.loop-w in
    let ws = c.args.words.now in
    let first = sym (program_here ws at.w-index c.loop-w-test.true (sym c.is_kind.ensures ∙ c.if-is_kind.true)) ∙ at.invariant in
    program_is ws _ (c.byte_a.ensures ∙ ap (λ (x : rules.PartHead). x.channel) first)
    (c.byte_b.ensures ∙ ap (λ (x : rules.PartHead). x.program) first)

pub loop-w-preserved : goal.loop-w-preserved
loop-w-preserved c =
    let at = c.loop-w in
    sym (program_on c.args.words.now at.w-index c.loop-w-test.true (sym c.is_kind.ensures ∙ c.if-is_kind.false)) ∙ at.invariant

pub returns : goal.returns
returns c =
    let at = c.loop-w in
    let ws = c.args.words.now in
    let none = sym (program_none ws at.w-index c.loop-w-test.false) ∙ at.invariant in
    program_is ws _ (ap (λ (x : rules.PartHead). x.channel) none) (ap (λ (x : rules.PartHead). x.program) none)
