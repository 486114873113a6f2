-- The walk by its bars: the bars ahead of a walker are its own bar and those ahead of the next, and its mark is the bar's.
use Prim.Native.Nat.{ℕ, suc, ◌+◌, ◌-◌, ◌≤◌, ◌<◌, ◌^◌}
use mathlib.Core.Bool.{not}
use mathlib.Core.List.{List, [], ◌∷◌}
use mathlib.Core.Path.{◌≡◌, ap, ◌∙◌}
use native.Mathlib.Nat.{sub-zero}
use native.Mathlib.Omega.{arith}
use lib.ListN.{length}
use Rattle.rules.specs.Piece.{largest_size}
use Rattle.rules.specs.Changes.{same_meter, tempo_changes, key_changes}
use Rattle.rules.specs.Bars.{Bar, bar_length, bars_from, bars_in, tempo_mark, key_mark, mark_of}
use Rattle.laws.proofs.BarLaws.{bar_at, bars_none, bars_last, bars_more, bars_some}
use Rattle.track_events.specs.Track.{Track, events_of}
use Rattle.bar_walk.specs.declared.Walker.{Walker}
use Rattle.bar_walk.specs.Steps.{meter_in, meter_before, next_of, mark_in, Sane}
use Rattle.bar_walk.specs.Walk.{track_meter, first_walker, AtBar, SameBar, Settled, Ready}
use Rattle.bar_walk.proofs.StepLaws.{walk_next}

-- the walker's bar
abbrev pub bar_of : Walker → Bar
bar_of w = record { start = w.start; len = bar_length w.p (meter_in w); meter = meter_in w }

-- the bars from the walker's on, n of them at most
abbrev pub bars_ahead : List ℕ → List ℕ → ℕ → ℕ → Walker → List Bar
bars_ahead ds ws end n w = bars_from n w.p (track_meter ds ws) end w.start

-- ---- one bar

module _ {ds ws : List ℕ} {w : Walker} (bar : AtBar ds ws w) where
  bar_here : bar_at w.p (track_meter ds ws) w.start ≡ bar_of w
  bar_here = rw (← bar.meter)

  -- the mark is the bar's
  pub mark_is : mark_in w
      ≡ mark_of (meter_in w) (not (same_meter (meter_before w) (meter_in w)))
      (tempo_mark (tempo_changes (events_of ds ws)) w.start)
      (key_mark (key_changes (events_of ds ws)) w.start)
  mark_is = rw (← bar.tempo, ← bar.key)

ahead_same : (w : Walker) {r : Walker} → SameBar (next_of w) r → (ds ws : List ℕ) (end n : ℕ)
    → bars_ahead ds ws end n (next_of w) ≡ bars_ahead ds ws end n r
ahead_same w same ds ws end n = rw (same.p, same.start)

-- ---- a loop over the bars

-- the walker is at a bar, and can go on from it
pub record Walking (ds ws : List ℕ) (p : ℕ) (w : Walker) : Type 0 where
  pub bar : AtBar ds ws w
  pub ticks : w.p ≡ p
  pub start : w.start < 2 ^ 48

module _ {ds ws : List ℕ} {p : ℕ} where
  pub walking_start : {w : Walker} → Settled ds ws (first_walker ds ws p) w → Walking ds ws p w
  walking_start s = record { bar = s.bar; ticks = s.same.p; start = omega (arith, s.same.start) }

  module _ {w : Walker} (k : Walking ds ws p w) where
    -- what `next_bar` asks
    pub walking_sane : p ≤ largest_size → Sane w
    walking_sane h = record { ticks = omega (arith, k.ticks); lower = k.bar.taken.lower; start = k.start }

    -- what `take_changes` asks, before the end
    pub walking_ready : Track ds ws → (end : ℕ) → end < 2 ^ 48 → (next_of w).start < end → Ready ds ws (next_of w)
    walking_ready track end h more = record { track = track; taking = walk_next k.bar.taken; start = omega arith }

    pub walking_on : {r : Walker} → Settled ds ws (next_of w) r → (end : ℕ) → end < 2 ^ 48 → (next_of w).start < end → Walking ds ws p r
    walking_on s end h more = record { bar = s.bar; ticks = s.same.p ∙ k.ticks; start = omega (arith, s.same.start) }

-- ---- the bars ahead, n of the limit being past

module _ {ds ws : List ℕ} {w : Walker} (bar : AtBar ds ws w) {limit n : ℕ} (end : ℕ) (h : n < limit) where
  one_less : limit - n ≡ suc (limit - (n + 1))
  one_less = omega arith

  -- the walker's bar is the last
  pub ahead_last : end ≤ (next_of w).start → bars_ahead ds ws end (limit - n) w ≡ bar_of w ∷ []
  ahead_last last =
      rw one_less (bars_last (limit - (n + 1)) w.p (track_meter ds ws) end w.start (rw (← bar.meter) last) ∙ rw (bar_here bar))

  -- another bar follows, and r is at it
  pub ahead_more : {r : Walker} → Settled ds ws (next_of w) r → (next_of w).start < end
      → bars_ahead ds ws end (limit - n) w ≡ bar_of w ∷ bars_ahead ds ws end (limit - (n + 1)) r
  ahead_more s more =
      rw one_less
      (bars_more (limit - (n + 1)) w.p (track_meter ds ws) end w.start (rw (← bar.meter) more)
      ∙ rw (← bar.meter) (ap (λ l. bar_of w ∷ l) (ahead_same w s.same ds ws end (limit - (n + 1)))))

  pub ahead_some : 0 < length (bars_ahead ds ws end (limit - n) w)
  ahead_some = rw one_less (bars_some (limit - (n + 1)) w.p (track_meter ds ws) end w.start)

-- the limit is reached
pub ahead_end : (ds ws : List ℕ) (w : Walker) {limit n : ℕ} (end : ℕ) → limit ≤ n → bars_ahead ds ws end (limit - n) w ≡ []
ahead_end ds ws w {limit} {n} end h =
    let none : limit - n ≡ 0 = omega arith in
    rw none (bars_none w.p (track_meter ds ws) end w.start)

-- the first bar: all are ahead
pub ahead_all : {ds ws : List ℕ} {w : Walker} (end limit p : ℕ) → Settled ds ws (first_walker ds ws p) w
    → bars_ahead ds ws end (limit - 0) w ≡ bars_in limit p (events_of ds ws) end
ahead_all end limit p s = rw (sub-zero limit, s.same.p, s.same.start)
