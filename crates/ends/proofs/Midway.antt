-- In the middle of a track the pass over what is left gives what the pass over the whole track gives, and no count is above
-- the number of events passed.
use Prim.Native.Nat.{ℕ, suc, ◌+◌, ◌≤◌, ◌<◌}
use mathlib.Core.Bool.{true}
use mathlib.Core.List.{List, [], ◌∷◌, foldl}
use mathlib.Core.Path.{◌≡◌, refl, sym, ap, ◌∙◌}
use native.Mathlib.Omega.{arith}
use lib.ListN.{length, get_or, set}
use Rattle.rules.specs.Lists.{All}
use Rattle.rules.specs.Piece.{Event, timed, well_formed, byte_a, byte_b}
use Rattle.rules.specs.Refusals.{largest_delta}
use Rattle.laws.proofs.Lists.{All-get}
use Rattle.track_events.specs.Track.{Track, events_of, left}
use Rattle.track_events.proofs.Tracks.{left_cons, left_none}
use Rattle.ends.specs.Pass.{track_end, cell, put, no_counts, Reached, nothing, step, step_on, end_of, Within}
use Rattle.laws.proofs.Places.{after_set}
use Rattle.ends.proofs.Passes.{step_cases, step_tick, pass_finds, pass_clears}
use Rattle.ends.proofs.Grids.{zeros_cell}

-- ---- no count is above the number of events passed

put_small : (n : ℕ) (rows : List (List ℕ)) (c k v : ℕ) → v ≤ n → ((c k : ℕ) → cell rows c k ≤ n)
    → (c' k' : ℕ) → cell (put rows c k v) c' k' ≤ n
put_small n rows c k v h all c' k' =
    after_set (λ r. get_or r k' 0 ≤ n) rows c c' (set (get_or rows c []) k v) []
    (after_set (λ m. m ≤ n) (get_or rows c []) k k' v 0 h (all c k'))
    (all c' k')

module _ {n : ℕ} {x : Reached} (w : Within n x) where
  pub within_more : (m : ℕ) → n ≤ m → Within m x
  within_more m h =
      record {
        counts = λ c k. omega (arith, w.counts c k);
        started = omega (arith, w.started);
        ended = omega (arith, w.ended);
        tick = omega (arith, w.tick);
      }

  within_step : (d u : ℕ) → d ≤ largest_delta → Within (n + 1) (step x (x.pass.tick + d) u)
  within_step d u h =
      step_cases x (x.pass.tick + d) u (Within (n + 1))
      record {
        counts = put_small (n + 1) x.counts (byte_a u) (byte_b u) _ (omega (arith, w.counts (byte_a u) (byte_b u))) more;
        started = omega (arith, w.started);
        ended = omega (arith, w.ended);
        tick = omega (arith, w.tick);
      }
      record {
        counts = put_small (n + 1) x.counts (byte_a u) (byte_b u) _ (omega (arith, w.counts (byte_a u) (byte_b u))) more;
        started = omega (arith, w.started);
        ended = omega (arith, w.ended);
        tick = omega (arith, w.tick);
      }
      record { counts = more; started = omega (arith, w.started); ended = omega (arith, w.ended); tick = omega (arith, w.tick) }
    where
      more : (c k : ℕ) → cell x.counts c k ≤ n + 1
      more c k = omega (arith, w.counts c k)

-- ---- the middle of a track

pub record Midway (ds ws : List ℕ) (x : Reached) (i : ℕ) : Type 0 where
  pub here : i ≤ length ds
  pub rest : foldl step_on x (left x.pass.tick i ds ws) ≡ foldl step_on nothing (events_of ds ws)
  pub within : Within i x

-- the events of well formed words
pub timed_formed : (n t : ℕ) (ds ws : List ℕ) → All (λ w. well_formed w ≡ true) ws → All (λ (e : Event). well_formed e.word ≡ true) (timed n t ds ws)
unfolding timed
timed_formed n t [] ws h = tt
timed_formed n t (d ∷ ds) [] h = tt
timed_formed n t (d ∷ ds) (w ∷ ws) h = (h.0, timed_formed (suc n) (t + d) ds ws h.1)

module _ {ds ws : List ℕ} (track : Track ds ws) where
  pub delta_at : (i : ℕ) → i < length ds → get_or ds i 0 ≤ largest_delta
  delta_at i h = All-get _ ds i 0 track.small h

  pub midway_first : Midway ds ws nothing 0
  unfolding nothing
  midway_first =
      record {
        here = omega arith;
        rest = refl;
        within = record { counts = λ c k. omega (arith, zeros_cell c k); started = omega arith; ended = omega arith; tick = omega arith };
      }

  pub midway_next : {x : Reached} {i : ℕ} → i < length ds → Midway ds ws x i
      → Midway ds ws (step x (x.pass.tick + get_or ds i 0) (get_or ws i 0)) (i + 1)
  midway_next {x} {i} h m =
      let y = step x (x.pass.tick + get_or ds i 0) (get_or ws i 0) in
      record {
        here = omega arith;
        rest =
            ap (λ (t : ℕ). foldl step_on y (left t (i + 1) ds ws)) (step_tick x (x.pass.tick + get_or ds i 0) (get_or ws i 0))
            ∙ sym (ap (foldl step_on x) (left_cons x.pass.tick i ds ws h (omega (arith, track.same))))
            ∙ m.rest;
        within = within_step m.within (get_or ds i 0) (get_or ws i 0) (delta_at i h);
      }

  module _ {x : Reached} {i : ℕ} (h : length ds ≤ i) (m : Midway ds ws x i) where
    -- the end: no event is left
    all_passed : x ≡ foldl step_on nothing (events_of ds ws)
    all_passed = sym (ap (foldl step_on x) (left_none x.pass.tick i ds ws h)) ∙ m.rest

    pub midway_end : end_of x.pass ≡ track_end (events_of ds ws)
    midway_end = ap (λ (y : Reached). end_of y.pass) all_passed ∙ pass_finds (events_of ds ws) (timed_formed 0 0 ds ws track.formed)

    pub midway_clear : x.pass.started ≤ x.pass.ended → x.counts ≡ no_counts
    midway_clear = rw all_passed (pass_clears (events_of ds ws) (timed_formed 0 0 ds ws track.formed))
