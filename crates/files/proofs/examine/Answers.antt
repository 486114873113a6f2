-- `files::examine` gives 11, 12 or 13, or what is behind the header.
use mathlib.Core.Path.{◌≡◌}
use native.Mathlib.Omega.{arith}
use Rattle.std.proofs.lemmas.Result.{err_from_is_err_and}
use Rattle.basics.specs.declared.Refusal.TheVariants.{BrokenFile}
use Rattle.file_events.proofs.Laws.{something, nothing}
use Rattle.files.proofs.Laws.{number_large, number_headless, number_format}
use Rattle.files.proofs.examine.Goals as goal

pub returns-then-bytes-gt-MOST_BYTES : goal.returns-then-bytes-gt-MOST_BYTES
returns-then-bytes-gt-MOST_BYTES c = number_large _ c.if-bytes-gt-MOST_BYTES.true

pub returns-in_err-h : goal.returns-in_err-h
returns-in_err-h c =
    let p = err_from_is_err_and c.from_residual.result c.from_residual.ensures.1 in
    let broken : (c.in_err-h.field-0.0 ≡ BrokenFile) = grind arith in
    rw (p.1, p.2, broken) (number_headless _ c.if-bytes-gt-MOST_BYTES.false (nothing _ (grind arith) c.read_header.ensures))

pub returns-then-h-gt1 : goal.returns-then-h-gt1
returns-then-h-gt1 c =
    let (h, is, read) = something _ {b = c.in_ok-h.h} (grind arith) c.read_header.ensures in
    number_format _ c.if-bytes-gt-MOST_BYTES.false h is (omega (arith, read.format, c.if-h-gt1.true))

pub examine_tracks-requires : goal.examine_tracks-requires
examine_tracks-requires c =
    let (h, is, read) = something _ {b = c.in_ok-h.h} (grind arith) c.read_header.ensures in
    record { head = h; read = is; is = read; format = omega (arith, c.if-h-gt1.false); small = c.if-bytes-gt-MOST_BYTES.false }
