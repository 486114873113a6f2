-- One event after another: the pairing, the counts and the offs without on go on together.
use Prim.Native.Nat.{ℕ, ◌+◌, ◌<◌}
use mathlib.Core.List.{List, map}
use mathlib.Core.Path.{◌≡◌, refl}
use native.Mathlib.Omega.{arith}
use lib.ListN.{length-map}
use Rattle.rules.specs.Piece.{Event}
use Rattle.rules.specs.RawNotes.{note_event, Pairing}
use Rattle.rules.specs.Diagnostics.{unmatched_off}
use Rattle.pairing.specs.Outcome.{starts_after, Stepped}
use Rattle.pairing.specs.declared.Start.{Start}
use Rattle.pairing.specs.declared.Paired.{Paired}
use Rattle.pairing.specs.declared.Paired.TheVariants.{Closed}
use Rattle.pairing.proofs.Outcomes.{starts_flag, closes, missed, leaves}
use Rattle.findings.specs.Found.{Found}
use Rattle.unmatched.specs.Stages.{Fits, Pairs, Turned}
use Rattle.unmatched.specs.declared.Seen.{Seen}

-- an off that closes a start: one waits
pub one_waits : {h t h₀ t₀ : List (List ℕ)} {w w₀ : List ℕ} {n m waiting : ℕ} {x : Pairing} {e : Event} {b : Start} → Pairs h₀ t₀ w₀ n m waiting x
    → Stepped x e n m (Closed b) h t w₀ w → 0 < waiting
one_waits {x = x} {e = e} {b = b} v q = omega (arith, v.held, (leaves x e (Closed b) q.is).pending, starts_flag 0 x e q.is)

-- h, t and w are those after the step, w₀ the work area before it
module _ {h t h₀ t₀ : List (List ℕ)} {w w₀ : List ℕ} {n : ℕ} {x : Pairing} {e : Event} {s : Seen} (v : Pairs h₀ t₀ w₀ n s.starts s.waiting x) where
  -- a turn: what the event was, how many starts wait after it, and the off that it put, if any
  pub turned : Fits (note_event e) → (o : Paired) {waiting r track : ℕ} {p d p₁ d₁ : List ℕ} → Stepped x e n s.starts o h t w₀ w
      → waiting + closes o ≡ starts_after s.waiting o → Found (map (unmatched_off track) (missed e o)) s.next p d r p₁ d₁
      → Turned h t w n track x e p d s (record { tick = e.tick; starts = starts_after s.starts o; waiting = waiting; next = r }) p₁ d₁
  turned fits o {waiting} {r} {track} q count f =
      let l = leaves x e o q.is in
      let g = starts_flag s.waiting x e q.is in
      record {
        pairs =
            record {
              queues = q.queues;
              held = omega (arith, v.held, l.pending, count, g);
              fits = l.all Fits fits v.fits;
            };
        tick = refl;
        starts = starts_flag s.starts x e q.is;
        few = omega (arith, count, g, l.few, f.count, length-map (missed e o) (unmatched_off track));
        news = missed e o;
        unmatched = l.unmatched;
        found = f;
      }
