-- The count of starts before event k: with those of the events left it makes the part's raw notes, and those of them off the grid.
use Prim.Native.Nat.{ℕ, ◌+◌, ◌*◌, ◌/◌, ◌≤◌, ◌<◌, max}
use mathlib.Core.Bool.{Bool, ◌&&◌}
use mathlib.Core.List.{List}
use mathlib.Core.Path.{◌≡◌, ap}
use native.Mathlib.Omega.{arith}
use borrow.Author.Tests.{lt-ltb, le-ltb}
use lib.ListN.{length, get_or}
use Rattle.rules.specs.Grid.{sixteenth, is_off_grid, off_count, grid}
use Rattle.rules.specs.Piece.{Event, is_on}
use Rattle.rules.specs.RawNotes.{raw_notes}
use Rattle.rules.specs.Refusals.{largest_delta}
use Rattle.laws.proofs.Notes.{one_note_count}
use Rattle.laws.proofs.Lists.{All-get}
use Rattle.track_events.specs.Track.{Track, events_of, left}
use Rattle.track_events.proofs.Tracks.{left_cons, left_none}
use Rattle.grid.specs.declared.Starts.{Starts}
use Rattle.grid.specs.Counts.{counted}
use Rattle.laws.proofs.Tests.{flag_small, tally, tally_keeps}
use Rattle.grid.proofs.StartCounts.{start_counts}

abbrev starts : Event → Bool
starts e = is_on e.word

abbrev starts_off : ℕ → Event → Bool
starts_off p e = is_on e.word && is_off_grid p e.tick

abbrev none : Starts
none = record { tick = 0; ons = 0; offs = 0 }

pub record Counting (p : ℕ) (ds ws : List ℕ) (s : Starts) (k : ℕ) : Type 0 where
  pub within : k ≤ length ds
  pub tick : s.tick ≤ k * largest_delta
  pub few : (s.ons ≤ k) × (s.offs ≤ k)
  pub ons : s.ons + tally starts (left s.tick k ds ws) ≡ length (raw_notes (events_of ds ws))
  pub offs : s.offs + tally (starts_off p) (left s.tick k ds ws) ≡ off_count p (raw_notes (events_of ds ws))

pub counting_start : (p : ℕ) (ds ws : List ℕ) → Counting p ds ws none 0
counting_start p ds ws =
    let es = events_of ds ws in
    record {
      within = omega arith;
      tick = omega arith;
      few = (omega arith, omega arith);
      ons = omega (arith, one_note_count es, tally_keeps starts es);
      offs = omega (arith, start_counts (is_off_grid p) es, tally_keeps (starts_off p) es);
    }

module _ {p : ℕ} {ds ws : List ℕ} {s : Starts} {k : ℕ} (c : Counting p ds ws s k) where
  pub counting_more : Track ds ws → k < length ds → Counting p ds ws (counted p s (get_or ds k 0) (get_or ws k 0)) (k + 1)
  unfolding tally
  counting_more track h =
      let d = get_or ds k 0 in
      let w = get_or ws k 0 in
      let more = left_cons s.tick k ds ws h (omega (arith, track.same)) in
      let small : d ≤ largest_delta = All-get _ ds k 0 track.small h in
      record {
        within = omega arith;
        tick = omega (arith, c.tick);
        few = (omega (arith, c.few, flag_small (is_on w)), omega (arith, c.few, flag_small (is_on w && is_off_grid p (s.tick + d))));
        ons = omega (arith, c.ons, ap (tally starts) more);
        offs = omega (arith, c.offs, ap (tally (starts_off p)) more);
      }

  module _ (over : length ds ≤ k) where
    all_ons : length (raw_notes (events_of ds ws)) ≡ s.ons
    unfolding tally
    all_ons = omega (arith, c.ons, ap (tally starts) (left_none s.tick k ds ws over))

    all_offs : off_count p (raw_notes (events_of ds ws)) ≡ s.offs
    unfolding tally
    all_offs = omega (arith, c.offs, ap (tally (starts_off p)) (left_none s.tick k ds ws over))

    pub counting_fine : s.ons < s.offs * 10 → grid p (raw_notes (events_of ds ws)) ≡ max 1 (p / 8)
    unfolding grid
    counting_fine h = rw (all_ons, all_offs, lt-ltb _ _ h)

    pub counting_coarse : s.offs * 10 ≤ s.ons → grid p (raw_notes (events_of ds ws)) ≡ sixteenth p
    unfolding grid
    counting_coarse h = rw (all_ons, all_offs, le-ltb _ _ h)
