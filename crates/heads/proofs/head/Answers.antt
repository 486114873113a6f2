-- `head`: the head is read off the first track.
use Prim.Native.Nat.{ℕ}
use mathlib.Core.List.{List}
use mathlib.Core.Path.{sym, ap, ◌∙◌}
use Rattle.std.specs.Prelude.{Ok}
use Rattle.std.proofs.lemmas.Result.{err_from_is_err_and}
use Rattle.rules.specs.Piece.{piece, first_track}
use Rattle.rules.specs.Refusals.{given, note_refusals}
use Rattle.laws.proofs.Refusals.{passes_given}
use Rattle.tracks.specs.Spans.{IsSpan, FirstSpan}
use Rattle.tracks.specs.declared.Span.{Span}
use Rattle.tracks.proofs.Cuts.{span_track}
use Rattle.opening.specs.Opening.{NotesOpened}
use Rattle.opening.proofs.Opening.{refuses_last, notes_pass, notes_admitted, cut_deltas, cut_words}
use Rattle.heads.proofs.Heads.{head_given}
use Rattle.heads.proofs.head.Goals as goal

-- of an admitted piece the span of the first track is its own
first_is : {sizes ds ws : List ℕ} {s : Span} {n : ℕ} → FirstSpan sizes s → NotesOpened (piece sizes ds ws) (Ok n)
    → IsSpan ds ws (first_track (piece sizes ds ws)) s
first_is {ds = ds} {ws = ws} first opened = first ds ws (notes_admitted _ opened).sizes

pub returns-in_err-open_notes : goal.returns-in_err-open_notes
returns-in_err-open_notes c =
    let p = err_from_is_err_and c.from_residual.result c.from_residual.ensures.1 in
    rw (p.1, p.2) (record { answered = sym (refuses_last (note_refusals _) _ c.in_err-open_notes.ensures.number _) })

pub cut-first_deltas-requires : goal.cut-first_deltas-requires
cut-first_deltas-requires c = cut_deltas (first_is c.first_track-track.ensures c.in_ok-open_notes.ensures)

pub cut-first_words-requires : goal.cut-first_words-requires
cut-first_words-requires c = cut_words (first_is c.first_track-track.ensures c.in_ok-open_notes.ensures)

pub read_head-requires : goal.read_head-requires
read_head-requires c =
    rw (c.cut-first_deltas.ensures, c.cut-first_words.ensures)
    (span_track _ (notes_admitted _ c.in_ok-open_notes.ensures) (first_is c.first_track-track.ensures c.in_ok-open_notes.ensures))

pub returns : goal.returns
returns c =
    let span = first_is c.first_track-track.ensures c.in_ok-open_notes.ensures in
    let is = rw (c.cut-first_deltas.ensures, c.cut-first_words.ensures, span.events) at c.read_head.ensures in
    record { answered = ap given (head_given _ _ is) ∙ sym (passes_given _ _ (notes_pass _ c.in_ok-open_notes.ensures)) }
