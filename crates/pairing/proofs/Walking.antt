-- A track's events, one after another: what is paired, then the pairing of the events left, is the pairing of all.
use Prim.Native.Nat.{ℕ, ◌+◌, ◌≤◌, ◌<◌, ◌^◌}
use mathlib.Core.Bool.{Bool, true}
use mathlib.Core.List.{List, ◌∷◌, foldl}
use mathlib.Core.Logic.{⊎_elim}
use mathlib.Core.Path.{◌≡◌, refl, sym, ap, ◌∙◌}
use native.Mathlib.Omega.{arith}
use lib.ListN.{length, get_or}
use Rattle.rules.specs.Lists.{keep, flag, sum}
use Rattle.rules.specs.Piece.{Event, is_on}
use Rattle.rules.specs.RawNotes.{note_events, Pairing, pair_one, no_pairs, pairing}
use Rattle.laws.proofs.Order.{by_bool}
use Rattle.track_events.specs.Track.{Track, events_of, left, tick_at}
use Rattle.track_events.proofs.Tracks.{left_cons, left_none, tick_next, track_sum}
use Rattle.pairing.specs.Outcome.{after}
use Rattle.laws.proofs.Tests.{flag_small}
use Rattle.pairing.proofs.Outcomes.{pair_cons}

-- whether an event is a start
abbrev pub on : Event → Bool
on e = is_on e.word

-- event i of a track, where t is the tick reached before
abbrev pub event_at : ℕ → ℕ → List ℕ → List ℕ → Event
event_at t i ds ws = record { number = i; tick = t + get_or ds i 0; word = get_or ws i 0 }

keep_cons : (e : Event) (es : List Event) → length (keep on (e ∷ es)) ≡ flag (on e) + length (keep on es)
unfolding keep
keep_cons e es = ⊎_elim (λ t. rw t (omega arith)) (λ t. rw t (omega arith)) (by_bool (on e))

-- x is what is paired of the events before event i: m starts came, and tick t was reached
pub record Walking (ds ws : List ℕ) (n i m t : ℕ) (x : Pairing) : Type 0 where
  pub within : i ≤ length ds
  pub tick : t ≡ tick_at i ds
  pub few : m ≤ i
  pub ons : m + length (keep on (left t i ds ws)) ≤ n
  pub paired : foldl pair_one x (note_events (left t i ds ws)) ≡ pairing (note_events (events_of ds ws))

pub walking_start : (ds ws : List ℕ) {n : ℕ} → length (keep on (events_of ds ws)) ≤ n → Walking ds ws n 0 0 0 no_pairs
unfolding sum
walking_start ds ws most = record { within = omega arith; tick = refl; few = omega arith; ons = omega (arith, most); paired = refl }

-- no event is left
pub walking_end : {ds ws : List ℕ} {n i m t : ℕ} {x : Pairing} → Walking ds ws n i m t x → length ds ≤ i → pairing (note_events (events_of ds ws)) ≡ x
unfolding keep
walking_end {ds} {ws} {i = i} {t = t} {x = x} v done =
    sym v.paired ∙ ap (λ (l : List Event). foldl pair_one x (note_events l)) (left_none t i ds ws done)

-- ---- event i
module _ {ds ws : List ℕ} {n i m t : ℕ} {x : Pairing} (track : Track ds ws) (v : Walking ds ws n i m t x) (more : i < length ds) where
  abbrev event : Event
  event = event_at t i ds ws

  abbrev rest : List Event
  rest = left (t + get_or ds i 0) (i + 1) ds ws

  pub one_more : left t i ds ws ≡ event_at t i ds ws ∷ left (t + get_or ds i 0) (i + 1) ds ws
  one_more = left_cons t i ds ws more (omega (arith, track.same))

  next_tick : t + get_or ds i 0 ≡ tick_at (i + 1) ds
  next_tick = omega (arith, v.tick, tick_next ds i more)

  ons_now : m + (flag (on event) + length (keep on rest)) ≤ n
  ons_now = omega (arith, v.ons, ap (λ (l : List Event). length (keep on l)) one_more, keep_cons event rest)

  pub next_soon : t + get_or ds i 0 < 2 ^ 47
  next_soon = omega (arith, next_tick, (track_sum track (i + 1) (omega arith)).1)

  pub next_room : is_on (get_or ws i 0) ≡ true → m < n
  next_room o = let f : flag (on event) ≡ 1 = ap flag o in omega (arith, ons_now)

  pub next_small : m + 1 < 2 ^ 32
  next_small = omega (arith, v.few, track.few)

  pub walking_more : {m' t' : ℕ} → m' ≡ m + flag (is_on (get_or ws i 0)) → t' ≡ t + get_or ds i 0
      → Walking ds ws n (i + 1) m' t' (after x (event_at t i ds ws))
  walking_more starts now =
      record {
        within = omega arith;
        tick = now ∙ next_tick;
        few = omega (arith, starts, v.few, flag_small (on event));
        ons = omega (arith, starts, ons_now, ap (λ (k : ℕ). length (keep on (left k (i + 1) ds ws))) now);
        paired =
            ap (λ (k : ℕ). foldl pair_one (after x event) (note_events (left k (i + 1) ds ws))) now
            ∙ sym (pair_cons x event rest)
            ∙ ap (λ (l : List Event). foldl pair_one x (note_events l)) (sym one_more)
            ∙ v.paired;
      }
