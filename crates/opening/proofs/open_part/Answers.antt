-- `open_part`: what `open_notes` says, then 7, then the part's track.
use Rattle.std.proofs.lemmas.Result.{err_from_is_err_and}
use Rattle.opening.proofs.Opening.{notes_admitted, refused_part, no_part, there, with_part}
use Rattle.opening.proofs.open_part.Goals as goal

pub returns-in_err-parts : goal.returns-in_err-parts
returns-in_err-parts c =
    let p = err_from_is_err_and c.from_residual.result c.from_residual.ensures.1 in
    rw (p.1, p.2) (refused_part _ _ _ c.in_err-parts.ensures.number)

pub returns-then-parts-part : goal.returns-then-parts-part
returns-then-parts-part c = no_part _ _ c.in_ok-parts.ensures c.if-parts-part.true

pub part_track-requires : goal.part_track-requires
part_track-requires c = ((notes_admitted _ c.in_ok-parts.ensures).sizes, there _ _ c.in_ok-parts.ensures c.if-parts-part.false)

pub returns : goal.returns
returns c = with_part _ _ c.in_ok-parts.ensures _ c.if-parts-part.false c.part_track.ensures
