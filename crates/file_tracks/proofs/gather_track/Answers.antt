-- `file_tracks::gather_track` gathers a track's events and stores their count.
use mathlib.Core.List.{flatten}
use mathlib.Core.Path.{refl}
use native.Mathlib.Omega.{arith}
use Rattle.laws.proofs.Parsed.{both_some, both_none}
use Rattle.file_events.proofs.Laws.{something, nothing}
use Rattle.file_tracks.proofs.Laws.{grown_some, track_put}
use Rattle.file_tracks.proofs.gather_track.Goals as goal

pub returns-in_err-g : goal.returns-in_err-g
returns-in_err-g c =
    rw c.from_residual.ensures (record {
      grown = tt;
      held = λ ss ds ws ts h. both_none _ (nothing _ c.in_err-g.was (c.read_track.ensures.held ds ws (flatten ts) h.events));
    })

pub overflow_sub-g : goal.overflow_sub-g
overflow_sub-g c = (grown_some c.args.gathered _ _ c.in_ok-g.was c.read_track.ensures.grown).0

pub overflow_cast-g : goal.overflow_cast-g
overflow_cast-g c = omega (arith, (grown_some c.args.gathered _ _ c.in_ok-g.was c.read_track.ensures.grown).1)

pub returns : goal.returns
returns c =
    let a = c.args in
    let g = grown_some c.args.gathered _ _ c.in_ok-g.was c.read_track.ensures.grown in record {
      grown = (g.0, g.1, omega arith);
      held = λ ss ds ws ts h.
          let (t, is, more) = something _ c.in_ok-g.was (c.read_track.ensures.held ds ws (flatten ts) h.events) in
          both_some _ t is (track_put ts t a.gathered c.in_ok-g.g _ ss ds ws _ _ _ _ _ _ h more refl refl refl
          c.store.ensures);
    }
