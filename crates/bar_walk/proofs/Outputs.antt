-- The two outputs of the walk: n bars are written, and the starts and marks of the bars ahead are to come.
use Prim.Native.Nat.{ℕ, zero, suc, ◌+◌, ◌-◌, ◌≤◌, ◌<◌}
use mathlib.Core.Bool.{and-false}
use mathlib.Core.List.{List, [], ◌∷◌}
use mathlib.Core.Path.{◌≡◌, refl, ap}
use native.Mathlib.Omega.{arith}
use borrow.Author.Tests.{ne_eqb}
use lib.Dec.{eqb}
use lib.ListN.{length, set, length-map}
use Rattle.rules.specs.Changes.{Meter, tempo_changes, key_changes}
use Rattle.rules.specs.Bars.{Bar, bars_from, bars_in, printed_from, printed, marks_from, marks_in, starts_of}
use Rattle.laws.proofs.Filling.{Filling, filling_start, filling_count, filling_more, filling_end}
use Rattle.track_events.specs.Track.{events_of}
use Rattle.bar_walk.specs.declared.Walker.{Walker}
use Rattle.bar_walk.specs.Steps.{meter_in, meter_before, next_of, mark_in}
use Rattle.bar_walk.specs.Walk.{first_walker, AtBar, SameBar, Settled, Room, BarsAre}
use Rattle.bar_walk.proofs.WalkLaws.{bar_of, bars_ahead, mark_is, ahead_last, ahead_more, ahead_some, ahead_end, ahead_all}

-- bars from a walker's on, as if no meter was before
printed_first : {ds ws : List ℕ} {w : Walker} → AtBar ds ws w → (end n : ℕ)
    → printed (bars_ahead ds ws end n w) ≡ printed_from (record { upper = 0; lower = 0 }) (bars_ahead ds ws end n w)
unfolding printed_from bars_from
printed_first bar end zero = refl
printed_first {w = w} bar end (suc n) =
    rw (← bar.meter) (rw (ne_eqb 0 w.lower (λ z. omega (arith, bar.taken.lower)), and-false (eqb 0 w.upper)))

-- the marks of bars, where m is the meter of the bar before
abbrev marks_after : List ℕ → List ℕ → Meter → List Bar → List ℕ
marks_after ds ws m bs = marks_from (tempo_changes (events_of ds ws)) (key_changes (events_of ds ws)) bs (printed_from m bs)

marks_more : {ds ws : List ℕ} {w : Walker} → AtBar ds ws w → (bs : List Bar)
    → marks_after ds ws (meter_before w) (bar_of w ∷ bs) ≡ mark_in w ∷ marks_after ds ws (meter_in w) bs
unfolding marks_from printed_from
marks_more bar bs = rw (mark_is bar)

before_same : (w : Walker) {r : Walker} → SameBar (next_of w) r → meter_before r ≡ meter_in w
before_same w same = rw (same.upper, same.lower)

-- n bars up to the limit are written, and the walker is at the next
pub record Out (ds ws : List ℕ) (end limit n : ℕ) (bs : List Bar) (starts₀ marks₀ starts marks : List ℕ) (w : Walker) : Type 0 where
  pub first : Filling (starts_of bs) (starts_of (bars_ahead ds ws end (limit - n) w)) n starts₀ starts
  pub second : Filling (marks_in (events_of ds ws) bs) (marks_after ds ws (meter_before w) (bars_ahead ds ws end (limit - n) w)) n marks₀ marks

pub out_start : {ds ws : List ℕ} {w : Walker} (end limit p : ℕ) (starts marks : List ℕ) → Settled ds ws (first_walker ds ws p) w
    → Out ds ws end limit 0 (bars_in limit p (events_of ds ws) end) starts marks starts marks w
out_start {ds} {ws} {w} end limit p starts marks s =
    let bs : List Bar = bars_in limit p (events_of ds ws) end in
    let all : bars_ahead ds ws end (limit - 0) w ≡ bs = ahead_all end limit p s in
    let before : meter_before w ≡ record { upper = 0; lower = 0 } = rw (s.same.upper, s.same.lower) in
    let firsts : printed bs ≡ printed_from (record { upper = 0; lower = 0 }) bs = rw all at (printed_first s.bar end (limit - 0)) in
    record {
      first = rw all (filling_start (starts_of bs) starts);
      second = rw (all, before, firsts) (filling_start (marks_after ds ws (record { upper = 0; lower = 0 }) bs) marks);
    }

module _ {ds ws : List ℕ} {end limit n : ℕ} {bs : List Bar} {starts₀ marks₀ starts marks : List ℕ} {w : Walker}
    (bar : AtBar ds ws w) (o : Out ds ws end limit n bs starts₀ marks₀ starts marks w) where
  counted : n + length (bars_ahead ds ws end (limit - n) w) ≡ length bs
  counted =
      omega (arith, filling_count o.first, length-map (bars_ahead ds ws end (limit - n) w) (λ (b : Bar). b.start), length-map bs (λ (b : Bar). b.start))

  module _ (h : n < limit) (room : Room bs starts₀ marks₀) where
    pub in_starts : n < length starts
    in_starts = omega (arith, counted, ahead_some bar end h, room.starts_fit, o.first.kept)

    pub in_marks : n < length marks
    in_marks = omega (arith, counted, ahead_some bar end h, room.marks_fit, o.second.kept)

    pub out_more : {r : Walker} → Settled ds ws (next_of w) r → (next_of w).start < end
        → Out ds ws end limit (n + 1) bs starts₀ marks₀ (set starts n w.start) (set marks n (mark_in w)) r
    out_more {r} s more =
        let step = ahead_more bar end h s more in
        record {
          first = filling_more w.start in_starts (rw step at o.first);
          second =
              rw (before_same w s.same)
              (filling_more (mark_in w) in_marks (rw (step, marks_more bar (bars_ahead ds ws end (limit - (n + 1)) r)) at o.second));
        }

    -- the walker's bar was the last
    pub out_last : end ≤ (next_of w).start → BarsAre (events_of ds ws) bs starts₀ marks₀ (n + 1) (set starts n w.start) (set marks n (mark_in w))
    unfolding marks_from printed_from
    out_last last =
        let step = ahead_last bar end h last in
        record {
          count = omega (arith, counted, ap length step);
          starts_are = filling_end (filling_more w.start in_starts (rw step at o.first));
          marks_are = filling_end (filling_more (mark_in w) in_marks (rw (step, marks_more bar []) at o.second));
        }

  -- the limit is reached
  pub out_end : limit ≤ n → BarsAre (events_of ds ws) bs starts₀ marks₀ n starts marks
  unfolding marks_from printed_from
  out_end h =
      let none = ahead_end ds ws w end h in
      record {
        count = omega (arith, counted, ap length none);
        starts_are = filling_end (rw none at o.first);
        marks_are = filling_end (rw none at o.second);
      }
