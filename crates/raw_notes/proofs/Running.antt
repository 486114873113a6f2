-- The events of a track, one after another: what is paired, then the pairing of the events left, is the pairing of all.
use Prim.Native.Nat.{ℕ, ◌+◌, ◌≤◌, ◌<◌}
use mathlib.Core.List.{List, map}
use mathlib.Core.Path.{◌≡◌, refl, sym, ap, ◌∙◌, subst⁻¹}
use native.Mathlib.Omega.{arith}
use lib.ListN.{length, get_or}
use Rattle.rules.specs.Lists.{last_or}
use Rattle.rules.specs.Piece.{Event}
use Rattle.rules.specs.RawNotes.{Pairing, no_pairs, last_tick}
use Rattle.track_events.specs.Track.{Track, events_of, left}
use Rattle.track_events.proofs.Tracks.{left_none, track_sum, formed_at}
use Rattle.pairing.specs.Outcome.{after}
use Rattle.pairing.proofs.Chains.{queues_start}
use Rattle.pairing.proofs.Walking.{event_at, Walking, walking_start, walking_end, walking_more, one_more, next_soon, next_room, next_small}
use Rattle.raw_notes.specs.Stages.{Pairs, Turn, Turned, Fresh, PairedAll}
use Rattle.raw_notes.specs.declared.Seen.{Seen}

-- the last tick of some events, where t was reached before them
abbrev last_of : ℕ → List Event → ℕ
last_of t es = last_or t (map (λ (e : Event). e.tick) es)

-- the events from event i on, where s was seen of those before it
pub record Running (ds ws : List ℕ) (h t : List (List ℕ)) (w : List ℕ) (n i : ℕ) (s : Seen) : Type 0 where
  pub x : Pairing
  pub pairs : Pairs h t w n s.starts s.notes x
  pub walking : Walking ds ws n i s.starts s.tick x
  pub last : last_or s.tick (map (λ (e : Event). e.tick) (left s.tick i ds ws)) ≡ last_tick (events_of ds ws)

pub running_start : {ds ws : List ℕ} {h t : List (List ℕ)} {w : List ℕ} {n : ℕ} → Fresh h t w ds ws n
    → Running ds ws h t w n 0 (record { tick = 0; starts = 0; notes = 0 })
running_start {ds} {ws} f =
    record {
      x = no_pairs;
      pairs =
          record {
            queues = queues_start f.heads f.tails f.area;
            listed = record { count = refl; room = omega arith; ends = refl; starts = refl };
            held = refl;
            early = tt;
          };
      walking = walking_start ds ws f.ons;
      last = refl;
    }

module _ {ds ws : List ℕ} {h t : List (List ℕ)} {w : List ℕ} {n i : ℕ} {s : Seen} (track : Track ds ws) (p : Running ds ws h t w n i s) where
  pub running_end : length ds ≤ i → PairedAll h t w (events_of ds ws) n s
  running_end done =
      record {
        pairs = subst⁻¹ (Pairs h t w n s.starts s.notes) (walking_end p.walking done) p.pairs;
        tick = sym (ap (last_of s.tick) (left_none s.tick i ds ws done)) ∙ p.last;
        soon = omega (arith, p.walking.tick, (track_sum track i p.walking.within).1);
      }

  module _ (more : i < length ds) where
    pub running_turn : Turn h t w n s.starts s.notes (s.tick + get_or ds i 0) (get_or ws i 0)
    running_turn =
        record {
          x = p.x;
          pairs = p.pairs;
          soon = next_soon track p.walking more;
          formed = formed_at track i more;
          room = next_room track p.walking more;
          small = next_small track p.walking more;
        }

    pub running_more : {h' t' : List (List ℕ)} {w' : List ℕ} {s' : Seen} → Turned h' t' w' n p.x (event_at s.tick i ds ws) s s'
        → Running ds ws h' t' w' n (i + 1) s'
    running_more q =
        record {
          x = after p.x (event_at s.tick i ds ws);
          pairs = q.pairs;
          walking = walking_more track p.walking more q.starts q.tick;
          last =
              ap (λ (k : ℕ). last_of k (left k (i + 1) ds ws)) q.tick
              ∙ ap (last_of s.tick) (sym (one_more track p.walking more))
              ∙ p.last;
        }
