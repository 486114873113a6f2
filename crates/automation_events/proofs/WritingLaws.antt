-- A list half written: those chosen of the events passed stand in the outputs, and those of the events left are to come.
use Prim.Native.Nat.{ℕ, suc, ◌+◌, ◌≤◌, ◌<◌, ◌^◌}
use mathlib.Core.Bool.{true, false}
use mathlib.Core.List.{List, [], ◌∷◌, ◌++◌, map}
use mathlib.Core.Logic.{inl, inr}
use mathlib.Core.Path.{◌≡◌, refl, sym, ap, ◌∙◌}
use native.Mathlib.Nat.{add-zero}
use native.Mathlib.Omega.{arith}
use lib.ListN.{length, get_or, set, take, length-append, length-map}
use lib.Seq.{length-take-le}
use Rattle.rules.specs.Lists.{keep, sum}
use Rattle.rules.specs.Piece.{Event}
use Rattle.rules.specs.Automation.{automation_tick}
use Rattle.laws.proofs.Order.{by_bool}
use Rattle.laws.proofs.Places.{no_elements}
use Rattle.laws.proofs.Filling.{Filling, filling_count, filling_more, filling_end}
use Rattle.track_events.specs.Track.{Track, events_of, left, tick_at}
use Rattle.track_events.proofs.Tracks.{left_cons, left_none, tick_next, track_sum, formed_at}
use Rattle.automation_events.specs.declared.Choice.{Choice}
use Rattle.automation_events.specs.Writing.{chosen, chosen_of, ticks_of, words_of, CanPut, Put, HasRoom, Collected}

-- i events are passed, t is the tick reached, and the next that is chosen goes to r
pub record Midway (ds ws : List ℕ) (x : Choice) (n : ℕ) (ticks₀ out₀ : List ℕ) (r t i : ℕ) (ticks out : List ℕ) : Type 0 where
  pub inside : i ≤ length ds
  pub tick : t ≡ tick_at i ds
  pub in_ticks : Filling (take n ticks₀ ++ ticks_of x (events_of ds ws)) (ticks_of x (left t i ds ws)) r ticks₀ ticks
  pub in_words : Filling (take n out₀ ++ words_of x (events_of ds ws)) (words_of x (left t i ds ws)) r out₀ out

-- what stands before n stays
filling_from : (xs : List ℕ) (n : ℕ) (l : List ℕ) → n ≤ length l → Filling (take n l ++ xs) xs n l l
filling_from xs n l h = record { within = h; kept = refl; parts = refl; rest = refl }

all_length : (f : Event → ℕ) (es : List Event) (n : ℕ) (l : List ℕ) → n ≤ length l → length (take n l ++ map f es) ≡ n + length es
all_length f es n l h = rw (length-append, length-map, length-take-le n l h)

all_fit : (f : Event → ℕ) (es : List Event) (n : ℕ) (l : List ℕ) → n + length es ≤ length l → length (take n l ++ map f es) ≤ length l
all_fit f es n l h = rw (all_length f es n l (omega arith)) h

sum_none : 0 ≡ sum []
unfolding sum
sum_none = refl

-- where more is to come, there is room for it
filling_room : {all coming : List ℕ} {n : ℕ} {l₀ l : List ℕ} → Filling all coming n l₀ l → length all ≤ length l₀ → 0 < length coming → n < length l
filling_room f h k = omega (arith, filling_count f, f.kept)

module _ {ds ws : List ℕ} (track : Track ds ws) (x : Choice) {count : ℕ} (n : ℕ) {ticks₀ out₀ : List ℕ}
    (room : HasRoom (events_of ds ws) x count n ticks₀ out₀) where
  pub midway_start : Midway ds ws x n ticks₀ out₀ n 0 0 ticks₀ out₀
  midway_start =
      record {
        inside = omega arith;
        tick = sum_none;
        in_ticks = filling_from _ n ticks₀ (omega (arith, room.ticks));
        in_words = filling_from _ n out₀ (omega (arith, room.words));
      }

  -- the outputs have room for what stands before n and for the list
  ticks_fit : length (take n ticks₀ ++ ticks_of x (events_of ds ws)) ≤ length ticks₀
  ticks_fit = all_fit _ (chosen_of x (events_of ds ws)) n ticks₀ room.ticks

  words_fit : length (take n out₀ ++ words_of x (events_of ds ws)) ≤ length out₀
  words_fit = all_fit _ (chosen_of x (events_of ds ws)) n out₀ room.words

  module _ {r t i : ℕ} {ticks out : List ℕ} (midway : Midway ds ws x n ticks₀ out₀ r t i ticks out) where
    pub tick_reached : t < 2 ^ 47
    tick_reached = let s = track_sum track i midway.inside in omega (arith, midway.tick)

    -- those written and those to come are the whole list
    to_come : r + length (chosen_of x (left t i ds ws)) ≡ n + count
    to_come =
        let tick : Event → ℕ = λ e. automation_tick x.p e.tick in
        let all = all_length tick (chosen_of x (events_of ds ws)) n ticks₀ (omega (arith, room.ticks)) in
        omega (arith, filling_count midway.in_ticks, length-map (chosen_of x (left t i ds ws)) tick, room.counted)

    -- no event is left, so all are written
    pub all_written : length ds ≤ i → n + count ≤ r
    unfolding keep
    all_written h = let none : r + 0 ≡ n + count = rw (left_none t i ds ws h) at to_come in omega arith

    -- the events to come at the event i
    module _ (h : i < length ds) where
      left_event : left t i ds ws ≡ record { number = i; tick = t + get_or ds i 0; word = get_or ws i 0 } ∷ left (t + get_or ds i 0) (i + 1) ds ws
      left_event = left_cons t i ds ws h (omega (arith, track.same))

      tick_early : t + get_or ds i 0 < 2 ^ 47
      tick_early = let s = track_sum track (i + 1) (omega arith) in omega (arith, tick_next ds i h, midway.tick)

      chosen_one : chosen x (get_or ws i 0) ≡ true
          → chosen_of x (left t i ds ws) ≡ record { number = i; tick = t + get_or ds i 0; word = get_or ws i 0 } ∷ chosen_of x (left (t + get_or ds i 0) (i + 1) ds ws)
      unfolding keep
      chosen_one e = rw left_event (rw e)

      chosen_other : chosen x (get_or ws i 0) ≡ false → chosen_of x (left t i ds ws) ≡ chosen_of x (left (t + get_or ds i 0) (i + 1) ds ws)
      unfolding keep
      chosen_other e = rw left_event (rw e)

      room_more : chosen x (get_or ws i 0) ≡ true → (r < length ticks) × (r < length out)
      room_more e =
          let here : length (chosen_of x (left t i ds ws)) ≡ suc (length (chosen_of x (left (t + get_or ds i 0) (i + 1) ds ws))) = ap length (chosen_one e) in
          (filling_room midway.in_ticks ticks_fit (rw length-map (omega arith)), filling_room midway.in_words words_fit (rw length-map (omega arith)))

      pub midway_can : CanPut ticks out r x (t + get_or ds i 0) (get_or ws i 0)
      midway_can =
          record { formed = formed_at track i h; early = omega (arith, tick_early); positive = room.positive; small = room.small; room = room_more }

      pub midway_more : {r' t' : ℕ} {ticks' out' : List ℕ} → t' ≡ t + get_or ds i 0 → Put ticks out r x t' (get_or ws i 0) r' ticks' out'
          → Midway ds ws x n ticks₀ out₀ r' t' (i + 1) ticks' out'
      midway_more {r'} {t'} {ticks'} {out'} e p =
          let reached : t + get_or ds i 0 ≡ tick_at (i + 1) ds = rw midway.tick (sym (tick_next ds i h)) in
          elim (by_bool (chosen x (get_or ws i 0))) [
            | inl c ↦
                let next : r' ≡ r + 1 = rw c at p.next in
                let in_ticks : ticks' ≡ set ticks r (automation_tick x.p (t + get_or ds i 0)) = rw (c, e) at p.ticks in
                let in_words : out' ≡ set out r (get_or ws i 0) = rw c at p.words in
                rw (next, in_ticks, in_words, e) (record {
                  inside = omega arith;
                  tick = reached;
                  in_ticks = filling_more _ (room_more c).0 (rw (chosen_one c) at midway.in_ticks);
                  in_words = filling_more _ (room_more c).1 (rw (chosen_one c) at midway.in_words);
                })
            | inr c ↦
                let next : r' ≡ r = (rw c at p.next) ∙ add-zero r in
                let in_ticks : ticks' ≡ ticks = rw c at p.ticks in
                let in_words : out' ≡ out = rw c at p.words in
                rw (next, in_ticks, in_words, e) (record {
                  inside = omega arith;
                  tick = reached;
                  in_ticks = rw (chosen_other c) at midway.in_ticks;
                  in_words = rw (chosen_other c) at midway.in_words;
                })
          ]

    pub midway_end : n + count ≤ r → Collected (events_of ds ws) x n ticks₀ out₀ r ticks out
    midway_end h =
        let none = no_elements (chosen_of x (left t i ds ws)) (omega (arith, to_come)) in
        let in_ticks : Filling (take n ticks₀ ++ ticks_of x (events_of ds ws)) [] r ticks₀ ticks = rw none at midway.in_ticks in
        let in_words : Filling (take n out₀ ++ words_of x (events_of ds ws)) [] r out₀ out = rw none at midway.in_words in
        record { next = omega (arith, to_come, room.counted, ap length none); ticks = filling_end in_ticks; words = filling_end in_words }
