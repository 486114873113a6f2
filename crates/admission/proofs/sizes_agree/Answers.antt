-- `sizes_agree` answers whether the sizes agree: each way out but the last contradicts a part of `Agree`.
use mathlib.Core.Path.{◌≡◌, ap, ◌∙◌, sym}
use native.Mathlib.Omega.{arith}
use lib.ListN.{drop}
use Rattle.rules.specs.Lists.{sum}
use Rattle.rules.specs.Piece.{piece}
use Rattle.laws.proofs.Loops.{take_rest}
use Rattle.admission.proofs.Numbers.{agrees, disagrees}
use Rattle.admission.proofs.sizes_agree.Goals as goal

pub returns-then-sizes-lt2 : goal.returns-then-sizes-lt2
returns-then-sizes-lt2 c =
    let x = c.args in
    sym (disagrees (piece x.sizes.now x.deltas.now x.words.now) (λ a. omega (arith, a.sizes)))

pub returns-then-sizes-gt-LARGEST_SIZE : goal.returns-then-sizes-gt-LARGEST_SIZE
returns-then-sizes-gt-LARGEST_SIZE c =
    let x = c.args in
    sym (disagrees (piece x.sizes.now x.deltas.now x.words.now) (λ a. omega (arith, a.tracks)))

pub returns-then-sizes : goal.returns-then-sizes
returns-then-sizes c =
    let x = c.args in
    sym (disagrees (piece x.sizes.now x.deltas.now x.words.now) (λ a. omega (arith, a.sizes)))

pub returns-then-sizes-gt-LARGEST_SIZE-2 : goal.returns-then-sizes-gt-LARGEST_SIZE-2
returns-then-sizes-gt-LARGEST_SIZE-2 c =
    let x = c.args in
    sym (disagrees (piece x.sizes.now x.deltas.now x.words.now) (λ a. omega (arith, a.division)))

pub returns-then-deltas-events : goal.returns-then-deltas-events
returns-then-deltas-events c =
    let x = c.args in
    let total : c.total-events.result ≡ sum (drop 2 x.sizes.now) = c.total-events.ensures ∙ ap sum (take_rest 2 x.sizes.now) in
    sym (disagrees (piece x.sizes.now x.deltas.now x.words.now) (λ a. omega (arith, a.deltas)))

pub returns-then-words-events : goal.returns-then-words-events
returns-then-words-events c =
    let x = c.args in
    let total : c.total-events.result ≡ sum (drop 2 x.sizes.now) = c.total-events.ensures ∙ ap sum (take_rest 2 x.sizes.now) in
    sym (disagrees (piece x.sizes.now x.deltas.now x.words.now) (λ a. omega (arith, a.words)))

pub returns : goal.returns
returns c =
    let x = c.args in
    let total : c.total-events.result ≡ sum (drop 2 x.sizes.now) = c.total-events.ensures ∙ ap sum (take_rest 2 x.sizes.now) in
    sym
    (agrees (piece x.sizes.now x.deltas.now x.words.now) (record {
      sizes = omega arith;
      deltas = omega arith;
      words = omega arith;
      tracks = omega arith;
      division = omega arith;
    }))
