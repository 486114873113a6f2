-- `bad_in_block`: where no delta is too large and all words are plain, or no word has forbidden bits, none is bad.
use native.Mathlib.Omega.{arith}
use Rattle.admission.proofs.Numbers.{none_bad}
use Rattle.admission.proofs.bad_in_block.Goals as goal

pub bad_deltas-requires : goal.bad_deltas-requires
bad_deltas-requires c = let p = c.requires in (p.2, p.3)

pub not_plain_words-requires : goal.not_plain_words-requires
not_plain_words-requires c = let p = c.requires in (p.2, omega (arith, p.1, p.3))

pub returns-then-not-not_plain_words : goal.returns-then-not-not_plain_words
returns-then-not-not_plain_words c =
    let small = c.bad_deltas.ensures c.if-not-bad_deltas.true in
    let formed = c.not_plain_words.ensures c.if-not-not_plain_words.true in
    none_bad _ _ _ _ c.requires.1 c.requires.3 small formed c.requires.2

pub bad_words-requires : goal.bad_words-requires
bad_words-requires c = let p = c.requires in (p.0, p.2, omega (arith, p.1, p.3))

pub returns-then-not-bad_words : goal.returns-then-not-bad_words
returns-then-not-bad_words c =
    let small = c.bad_deltas.ensures c.if-not-bad_deltas.true in
    let formed = c.bad_words.ensures c.if-not-bad_words.true in
    none_bad _ _ _ _ c.requires.1 c.requires.3 small formed c.requires.2

pub bad_event-requires : goal.bad_event-requires
bad_event-requires c = let p = c.requires in (p.1, p.2, p.3)

pub returns : goal.returns
returns c = c.bad_event.ensures
