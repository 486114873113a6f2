-- The events of a track, one after another: what is paired, then the pairing of the events left, is the pairing of all.
use Prim.Native.Nat.{ℕ, ◌+◌, ◌≤◌, ◌<◌}
use mathlib.Core.List.{List, map, map-append}
use mathlib.Core.Path.{◌≡◌, refl, sym, ap, ◌∙◌, subst⁻¹}
use native.Mathlib.Omega.{arith}
use lib.ListN.{length, get_or}
use Rattle.rules.specs.RawNotes.{note_events, Pairing, no_pairs, pairing}
use Rattle.rules.specs.Diagnostics.{unmatched_off}
use Rattle.track_events.specs.Track.{events_of}
use Rattle.track_events.proofs.Tracks.{formed_at}
use Rattle.pairing.specs.Outcome.{after}
use Rattle.pairing.proofs.Chains.{queues_start}
use Rattle.pairing.proofs.Walking.{event_at, Walking, walking_start, walking_end, walking_more, next_soon, next_room, next_small}
use Rattle.findings.specs.Found.{Found}
use Rattle.unmatched.specs.Stages.{Pairs, Turn, Turned, Fresh, PairedAll}
use Rattle.unmatched.specs.declared.Seen.{Seen}
use Rattle.findings.proofs.Putting.{found_none, found_append, found_as}

-- the events from event i on, where s was seen of those before it
pub record Running (ds ws : List ℕ) (h t : List (List ℕ)) (w : List ℕ) (n track at : ℕ) (p₀ d₀ : List ℕ) (i : ℕ) (s : Seen) (p d : List ℕ) : Type 0 where
  pub x : Pairing
  pub pairs : Pairs h t w n s.starts s.waiting x
  pub walking : Walking ds ws n i s.starts s.tick x
  pub few : s.next + s.waiting ≤ at + i
  pub found : Found (map (unmatched_off track) x.unmatched) at p₀ d₀ s.next p d

pub running_start : {ds ws : List ℕ} {h t : List (List ℕ)} {w : List ℕ} {n track at : ℕ} (p d : List ℕ) → Fresh h t w ds ws n track at
    → Running ds ws h t w n track at p d 0 (record { tick = 0; starts = 0; waiting = 0; next = at }) p d
running_start {ds} {ws} {at = at} p d f =
    record {
      x = no_pairs;
      pairs = record { queues = queues_start f.heads f.tails f.area; held = refl; fits = tt };
      walking = walking_start ds ws f.ons;
      few = omega arith;
      found = found_none at p d;
    }

module _ {ds ws : List ℕ} {h₀ t₀ h t : List (List ℕ)} {w₀ w : List ℕ} {n track at : ℕ} {p₀ d₀ : List ℕ} {i : ℕ} {s : Seen} {p d : List ℕ}
    (fresh : Fresh h₀ t₀ w₀ ds ws n track at) (v : Running ds ws h t w n track at p₀ d₀ i s p d) where
  pub running_end : length ds ≤ i → PairedAll h t w ds ws n track at p₀ d₀ s p d
  running_end done =
      let all : pairing (note_events (events_of ds ws)) ≡ v.x = walking_end v.walking done in
      record {
        pairs = subst⁻¹ (Pairs h t w n s.starts s.waiting) all v.pairs;
        few = omega (arith, v.few, v.walking.within);
        found = found_as (ap (λ (y : Pairing). map (unmatched_off track) y.unmatched) (sym all)) v.found;
      }

  module _ (more : i < length ds) where
    pub running_turn : Turn h t w n track s (s.tick + get_or ds i 0) i (get_or ws i 0)
    running_turn =
        record {
          x = v.x;
          pairs = v.pairs;
          soon = next_soon fresh.events v.walking more;
          small = omega (arith, fresh.room);
          formed = formed_at fresh.events i more;
          room = next_room fresh.events v.walking more;
          few = next_small fresh.events v.walking more;
          next = omega (arith, v.few, fresh.room);
          numbered = fresh.numbered;
        }

    pub running_more : {h' t' : List (List ℕ)} {w' : List ℕ} {s' : Seen} {p₁ d₁ : List ℕ}
        → Turned h' t' w' n track v.x (event_at s.tick i ds ws) p d s s' p₁ d₁
        → Running ds ws h' t' w' n track at p₀ d₀ (i + 1) s' p₁ d₁
    running_more q =
        record {
          x = after v.x (event_at s.tick i ds ws);
          pairs = q.pairs;
          walking = walking_more fresh.events v.walking more q.starts q.tick;
          few = omega (arith, q.few, v.few);
          found =
              found_as (sym (map-append (unmatched_off track) v.x.unmatched q.news) ∙ ap (map (unmatched_off track)) (sym q.unmatched))
              (found_append v.found q.found);
        }
