-- `with_track` takes one track more: one that is no longer than the most note-ons so far has no more of them.
use native.Mathlib.Omega.{arith}
use Rattle.rules.specs.Piece.{is_on}
use Rattle.laws.proofs.Tests.{keep_few}
use Rattle.tracks.proofs.with_track.Goals as goal

pub returns-then-words-most : goal.returns-then-words-most
returns-then-words-most c = omega (arith, c.if-words-most.true, keep_few is_on c.args.words.now)
