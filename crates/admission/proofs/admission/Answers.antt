-- `admission` answers the first number that applies: each way out has its law in Numbers.
use mathlib.Core.Bool.{true}
use mathlib.Core.Path.{◌≡◌, sym, ◌∙◌}
use native.Mathlib.Omega.{arith}
use Rattle.rules.specs.Piece.{piece, sizes_agree}
use Rattle.laws.proofs.Refusals.{sizes_agree_lem}
use Rattle.admission.proofs.Numbers.{number_one, number_two, number_three, number_event}
use Rattle.admission.proofs.admission.Goals as goal

pub returns-then-not-sizes_agree : goal.returns-then-not-sizes_agree
returns-then-not-sizes_agree c =
    let x = piece c.args.sizes.now c.args.deltas.now c.args.words.now in
    sym (number_one x (sym c.sizes_agree.ensures ∙ c.if-not-sizes_agree.true))

pub bounds-sizes-0 : goal.bounds-sizes-0
bounds-sizes-0 c =
    let x = piece c.args.sizes.now c.args.deltas.now c.args.words.now in
    let agree : sizes_agree x ≡ true = sym c.sizes_agree.ensures ∙ c.if-not-sizes_agree.false in
    omega (arith, (sizes_agree_lem x agree).sizes)

pub returns-then-sizes-eq0 : goal.returns-then-sizes-eq0
returns-then-sizes-eq0 c =
    let x = piece c.args.sizes.now c.args.deltas.now c.args.words.now in
    let agree : sizes_agree x ≡ true = sym c.sizes_agree.ensures ∙ c.if-not-sizes_agree.false in
    sym (number_two x agree c.if-sizes-eq0.true)

pub returns-then-deltas-gt-MOST_EVENTS : goal.returns-then-deltas-gt-MOST_EVENTS
returns-then-deltas-gt-MOST_EVENTS c =
    let x = piece c.args.sizes.now c.args.deltas.now c.args.words.now in
    let agree : sizes_agree x ≡ true = sym c.sizes_agree.ensures ∙ c.if-not-sizes_agree.false in
    sym (number_three x agree c.if-sizes-eq0.false c.if-deltas-gt-MOST_EVENTS.true)

pub first_bad_event-requires : goal.first_bad_event-requires
first_bad_event-requires c =
    let x = piece c.args.sizes.now c.args.deltas.now c.args.words.now in
    let agree : sizes_agree x ≡ true = sym c.sizes_agree.ensures ∙ c.if-not-sizes_agree.false in
    let a = sizes_agree_lem x agree in
    omega (arith, a.deltas, a.words)

pub returns : goal.returns
returns c =
    let x = piece c.args.sizes.now c.args.deltas.now c.args.words.now in
    let agree : sizes_agree x ≡ true = sym c.sizes_agree.ensures ∙ c.if-not-sizes_agree.false in
    c.first_bad_event.ensures ∙ sym (number_event x agree c.if-sizes-eq0.false c.if-deltas-gt-MOST_EVENTS.false)
