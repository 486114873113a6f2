-- `files::examine_tracks` counts what is behind the header, and gives the first number.
use mathlib.Core.Path.{◌≡◌, refl, sym, ◌∙◌}
use native.Mathlib.Omega.{arith}
use Rattle.std.proofs.lemmas.Result.{err_from_is_err_and}
use Rattle.rules.specs.Refusals.{first_number}
use Rattle.rules.specs.File.{file_refusals}
use Rattle.basics.specs.Refusals.{number_of}
use Rattle.basics.specs.declared.Refusal.TheVariants.{BrokenFile}
use Rattle.file_events.proofs.Laws.{something, nothing}
use Rattle.files.proofs.Laws.{all_bytes, exit_broken, exit_number, exit_whole}
use Rattle.files.proofs.examine_tracks.Goals as goal

pub gather_tracks-requires : goal.gather_tracks-requires
gather_tracks-requires c = let st = c.requires in (st.is.ahead, st.is.within, st.small)

pub returns-in_err-g : goal.returns-in_err-g
returns-in_err-g c =
    let st = c.requires in
    let p = err_from_is_err_and c.from_residual.result c.from_residual.ensures.1 in
    let broken : (c.in_err-g.field-0.0 ≡ BrokenFile) = grind arith in
    rw (p.1, p.2, broken) (exit_broken _ _ st.head st.read st.is st.format st.small (nothing _ (grind arith) c.gather_tracks.ensures))

pub returns-in_err-first_number : goal.returns-in_err-first_number
returns-in_err-first_number c =
    let st = c.requires in
    let (ts, is, held) = something _ {b = c.in_ok-g.g} (grind arith) c.gather_tracks.ensures in
    let bytes = all_bytes c.args.bytes.now (λ i. omega (arith, c.type_inv.bytes i)) in
    let numbered =
    exit_number _ _ st.head st.read st.is st.format st.small ts is bytes _ _ _ _ c.count_fits-fits.ensures held.count held.events.count held.events.good in
    let p = err_from_is_err_and c.from_residual-in_err-first_number.result c.from_residual-in_err-first_number.ensures.1 in
    rw (p.1, p.2) (numbered ∙ sym c.in_err-first_number.ensures)

pub returns : goal.returns
returns c =
    let st = c.requires in
    let (ts, is, held) = something _ {b = c.in_ok-g.g} (grind arith) c.gather_tracks.ensures in
    let bytes = all_bytes c.args.bytes.now (λ i. omega (arith, c.type_inv.bytes i)) in
    let numbered : (first_number (file_refusals c.args.bytes.now) ≡ number_of c.first_number.result) =
    exit_number _ _ st.head st.read st.is st.format st.small ts is bytes _ _ _ _ c.count_fits-fits.ensures held.count held.events.count held.events.good
    ∙ sym c.first_number.ensures in
    exit_whole _ _ st.head st.read st.is st.format st.small ts is _ (rw c.in_ok-first_number.was at numbered) refl refl held.count held.events.count
