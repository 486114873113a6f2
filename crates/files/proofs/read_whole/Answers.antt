-- `files::read_whole` compares the rooms, then writes.
use Rattle.files.proofs.Laws.{sizes_short, deltas_short, words_short, read_given, read_refused}
use Rattle.files.proofs.read_whole.Goals as goal

pub returns-then-sizes-e : goal.returns-then-sizes-e
returns-then-sizes-e c =
    let a = c.args in
    read_refused _ _ _ _ 8 (sizes_short _ a.e c.requires a.sizes.now a.deltas.now a.words.now c.if-sizes-e.true)

pub returns-then-deltas-e : goal.returns-then-deltas-e
returns-then-deltas-e c =
    let a = c.args in
    read_refused _ _ _ _ 8
    (deltas_short _ a.e c.requires a.sizes.now a.deltas.now a.words.now c.if-sizes-e.false c.if-deltas-e.true)

pub returns-then-words-e : goal.returns-then-words-e
returns-then-words-e c =
    let a = c.args in
    read_refused _ _ _ _ 8
    (words_short _ a.e c.requires a.sizes.now a.deltas.now a.words.now c.if-sizes-e.false c.if-deltas-e.false c.if-words-e.true)

pub returns : goal.returns
returns c =
    let wrote = c.write_piece.ensures in
    let a = c.args in
    read_given _ a.e c.requires a.sizes.now a.deltas.now a.words.now c.if-sizes-e.false c.if-deltas-e.false c.if-words-e.false
    _ _ _ wrote.sizes wrote.deltas wrote.words
