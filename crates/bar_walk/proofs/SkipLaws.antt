-- Skipping: an event that is no change only moves the walker's place, and the walker stops at the first other event.
use Prim.Native.Nat.{ℕ, suc, ◌+◌, ◌≤◌, ◌<◌}
use mathlib.Core.Bool.{Bool, true, false, cond, ◌||◌, or-true, true≢false}
use mathlib.Core.List.{List}
use mathlib.Core.Path.{◌≡◌, refl, sym, ap, ◌∙◌}
use native.Mathlib.Nat.{zero-add}
use native.Mathlib.Omega.{arith}
use borrow.Author.Tests.{le-leb, lt-ltb, le-ltb, ne_eqb}
use lib.Dec.{ltb}
use lib.ListN.{length, get_or, drop, drop_of_length-le}
use Rattle.rules.specs.Lists.{position}
use Rattle.rules.specs.Piece.{kind_of, is_kind}
use Rattle.track_events.specs.Track.{Track, events_of}
use Rattle.track_events.proofs.Tracks.{timed_cons, timed_length, tick_next}
use Rattle.bar_walk.specs.declared.Walker.{Walker}
use Rattle.bar_walk.specs.Steps.{is_change, with_place, took_one}
use Rattle.bar_walk.specs.Walk.{stops_at, Taking, Ready, Skipped, SameBar}
use Rattle.bar_walk.proofs.StepLaws.{walk_one}

-- ---- one event

no_kind : (k word : ℕ) → 2 ≤ k → k ≤ 4 → is_change word ≡ false → is_kind k word ≡ false
no_kind k word l h none =
    ne_eqb (kind_of word) k (λ z. let some : is_change word ≡ true = rw (z, le-leb 2 k l, le-leb k 4 h) in true≢false (sym some ∙ none))

-- an event that is no change only moves the place
took_other : (w : Walker) (delta word : ℕ) → is_change word ≡ false → took_one w delta word ≡ with_place w (w.at + 1) (w.tick + delta)
took_other w delta word none =
    rw (no_kind 2 word (omega arith) (omega arith) none, no_kind 3 word (omega arith) (omega arith) none, no_kind 4 word (omega arith) (omega arith) none)

-- ---- up to the first that is not skipped

-- how many events are skipped from `at` on, on the way to the tick t
abbrev ahead : List ℕ → List ℕ → ℕ → ℕ → ℕ
ahead ds ws t at = position (stops_at t) (drop at (events_of ds ws))

-- the events from the walker's place up to `at` are skipped
pub record Skipping (ds ws : List ℕ) (w : Walker) (at tick : ℕ) : Type 0 where
  pub taking : Taking ds ws (with_place w at tick)
  pub stop : at + ahead ds ws w.start at ≡ w.at + ahead ds ws w.start w.at

pub skipping_start : {ds ws : List ℕ} {w : Walker} → Taking ds ws w → Skipping ds ws w w.at w.tick
skipping_start t = record { taking = t; stop = refl }

module _ {ds ws : List ℕ} {w : Walker} {at tick : ℕ} (s : Skipping ds ws w at tick) where
  skipped_here : ahead ds ws w.start at ≡ 0 → Skipped ds ws w (with_place w at tick)
  skipped_here e = record { taking = s.taking; at = omega (arith, s.stop); rest = refl }

  module _ (track : Track ds ws) where
    -- no event is left
    pub skipped_end : length ds ≤ at → Skipped ds ws w (with_place w at tick)
    unfolding position
    skipped_end h = skipped_here (rw (drop_of_length-le (events_of ds ws) {i = at} (omega (arith, timed_length 0 0 ds ws track.same))))

    module _ (h : at < length ds) where
      abbrev stops : Bool
      stops = ltb w.start (tick + get_or ds at 0) || is_change (get_or ws at 0)

      ahead_next : ahead ds ws w.start at ≡ cond stops 0 (suc (ahead ds ws w.start (at + 1)))
      unfolding position
      ahead_next = rw (timed_cons at 0 0 ds ws h (omega (arith, track.same)), zero-add, tick_next ds at h, s.taking.tick)

      -- the event is late
      pub skipped_late : w.start < tick + get_or ds at 0 → Skipped ds ws w (with_place w at tick)
      skipped_late k = skipped_here (ahead_next ∙ rw (lt-ltb w.start (tick + get_or ds at 0) k))

      -- the event is a change
      pub skipped_change : is_change (get_or ws at 0) ≡ true → Skipped ds ws w (with_place w at tick)
      skipped_change e = skipped_here (ahead_next ∙ rw (e, or-true))

      -- the event is skipped
      module _ (k : tick + get_or ds at 0 ≤ w.start) (none : is_change (get_or ws at 0) ≡ false) where
        ahead_more : ahead ds ws w.start at ≡ suc (ahead ds ws w.start (at + 1))
        ahead_more = ahead_next ∙ rw (le-ltb w.start (tick + get_or ds at 0) k, none)

        pub skipping_on : Skipping ds ws w (at + 1) (tick + get_or ds at 0)
        skipping_on =
            record {
              taking = rw (took_other (with_place w at tick) (get_or ds at 0) (get_or ws at 0) none) at (walk_one track s.taking h k);
              stop = omega (arith, s.stop, ahead_more);
            }

-- ---- the walk at a bar

pub same_on : {v w r : Walker} → SameBar v w → SameBar w r → SameBar v r
same_on b n = record { p = n.p ∙ b.p; start = n.start ∙ b.start; upper = n.upper ∙ b.upper; lower = n.lower ∙ b.lower }

module _ {ds ws : List ℕ} {w r : Walker} (s : Skipped ds ws w r) where
  pub skipped_same : SameBar w r
  skipped_same =
      record {
        p = ap (λ (x : Walker). x.p) s.rest;
        start = ap (λ (x : Walker). x.start) s.rest;
        upper = ap (λ (x : Walker). x.was_upper) s.rest;
        lower = ap (λ (x : Walker). x.was_lower) s.rest;
      }

  pub skipped_ready : Ready ds ws w → Ready ds ws r
  skipped_ready ready = record { track = ready.track; taking = s.taking; start = omega (arith, skipped_same.start, ready.start) }

module _ {ds ws : List ℕ} {w : Walker} (ready : Ready ds ws w) (h : w.at < length ds) (k : w.tick + get_or ds w.at 0 ≤ w.start) where
  -- an event is taken
  pub ready_one : {v r : Walker} → SameBar v w → r ≡ took_one w (get_or ds w.at 0) (get_or ws w.at 0) → Ready ds ws r × SameBar v r
  ready_one b e =
      rw e (
        record { track = ready.track; taking = walk_one ready.track ready.taking h k; start = ready.start },
        record { p = b.p; start = b.start; upper = b.upper; lower = b.lower },
      )

  -- or events are skipped, one at least
  pub ready_on : {v r : Walker} → SameBar v w → Skipped ds ws w r → Ready ds ws r × SameBar v r
  ready_on b s = (skipped_ready s ready, same_on b (skipped_same s))

  pub skipped_some : {r : Walker} → is_change (get_or ws w.at 0) ≡ false → Skipped ds ws w r → w.at < r.at
  skipped_some none s =
      let more = ahead_more (skipping_start ready.taking) ready.track h k none in omega (arith, s.at, more)
