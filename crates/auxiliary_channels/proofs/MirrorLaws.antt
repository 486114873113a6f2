-- Two places that stand abreast: what is left of the base's automation and of the spare's is as equal as the whole of both.
use Prim.Native.Nat.{ℕ, ◌+◌, ◌≤◌, ◌<◌, ◌^◌}
use mathlib.Core.Bool.{true, false, ◌&&◌, and-eq-true_iff}
use mathlib.Core.List.{List, [], ◌∷◌}
use mathlib.Core.Logic.{inl, inr}
use mathlib.Core.Path.{◌≡◌, sym, ◌∙◌}
use native.Mathlib.Omega.{arith}
use borrow.Author.Tests.{lt-ltb, le-ltb, ltb-true, eq-eqb, ne_eqb}
use lib.Dec.{eqb}
use lib.ListN.{length, get_or}
use Rattle.rules.specs.Lists.{keep, sum}
use Rattle.rules.specs.Piece.{Event}
use Rattle.rules.specs.Automation.{is_automation_of, same_messages}
use Rattle.laws.proofs.Order.{by_lt}
use Rattle.track_events.specs.Track.{Track, events_of, left}
use Rattle.track_events.proofs.Tracks.{left_cons, left_none, tick_next, track_sum}
use Rattle.auxiliary_channels.specs.declared.Place.{Place}
use Rattle.auxiliary_channels.specs.Mirror.{IsPlace, event_at, left_at, is_word_of, stream_at, Behind, Stands, Next, same_at}

-- on the way from x₀ to the channel's next automation event
pub record Seeking (ds ws : List ℕ) (ch : ℕ) (x₀ x : Place) : Type 0 where
  pub place : IsPlace ds x
  pub onward : x₀.at ≤ x.at
  pub same : stream_at ds ws ch x ≡ stream_at ds ws ch x₀

pub place_start : {ds : List ℕ} {x : Place} → x.at ≡ 0 → x.tick.0 ≡ 0 → IsPlace ds x
unfolding sum
place_start e f = record { inside = omega arith; tick = rw (e, f) }

module _ {ds ws : List ℕ} (track : Track ds ws) where
  pub place_tick : {x : Place} → IsPlace ds x → x.tick.0 < 2 ^ 47
  place_tick {x} p = let s = track_sum track x.at p.inside in omega (arith, p.tick)

  pub place_behind : {x r : Place} → IsPlace ds x → x.at < length ds → Behind ds x r → IsPlace ds r
  place_behind {x} p h b =
      record { inside = omega (arith, b.at); tick = rw (b.tick, b.at, p.tick) (sym (tick_next ds x.at h)) }

  -- ---- one channel

  -- a channel's automation behind the event at a place
  abbrev stream_behind : ℕ → Place → List Event
  stream_behind ch x = keep (is_automation_of ch) (left (x.tick.0 + get_or ds x.at 0) (x.at + 1) ds ws)

  module _ (ch : ℕ) (x : Place) where
    stream_end : length ds ≤ x.at → stream_at ds ws ch x ≡ []
    unfolding keep
    stream_end h = rw (left_none x.tick.0 x.at ds ws h)

    module _ (h : x.at < length ds) where
      stream_one : is_word_of ch (get_or ws x.at 0) ≡ true → stream_at ds ws ch x ≡ event_at ds ws x ∷ stream_behind ch x
      unfolding keep
      stream_one e = rw (left_cons x.tick.0 x.at ds ws h (omega (arith, track.same))) (rw e)

      stream_other : {r : Place} → Behind ds x r → is_word_of ch (get_or ws x.at 0) ≡ false → stream_at ds ws ch r ≡ stream_at ds ws ch x
      unfolding keep
      stream_other b e = sym (rw (left_cons x.tick.0 x.at ds ws h (omega (arith, track.same))) (rw (e, b.tick, b.at)))

  module _ {ch : ℕ} {x₀ x : Place} (seeking : Seeking ds ws ch x₀ x) where
    pub seeking_more : {r : Place} → x.at < length ds → Behind ds x r → is_word_of ch (get_or ws x.at 0) ≡ false → Seeking ds ws ch x₀ r
    seeking_more h b e =
        record {
          place = place_behind seeking.place h b;
          onward = omega (arith, b.at, seeking.onward);
          same = stream_other ch x h b e ∙ seeking.same;
        }

    pub seeking_end : (x.at < length ds → is_word_of ch (get_or ws x.at 0) ≡ true) → Next ds ws ch x₀ x
    seeking_end found = record { stands = record { place = seeking.place; found = found }; onward = seeking.onward; same = seeking.same }

  -- ---- both channels

  module _ (base spare : ℕ) (x y : Place) (at_x : Stands ds ws base x) (at_y : Stands ds ws spare y) where
    same_more : x.at < length ds
        → same_messages (stream_at ds ws base x) (stream_at ds ws spare y) ≡ (same_at ds ws x y && same_messages (stream_behind base x) (stream_behind spare y))
    unfolding same_messages
    same_more h =
        elim (by_lt y.at (length ds)) [
          | inl k ↦ rw (stream_one base x h (at_x.found h), stream_one spare y k (at_y.found k), lt-ltb _ _ k)
          | inr k ↦ rw (stream_one base x h (at_x.found h), stream_end spare y k, le-ltb _ _ k)
        ]

    same_end : length ds ≤ x.at → same_messages (stream_at ds ws base x) (stream_at ds ws spare y) ≡ eqb y.at (length ws)
    unfolding same_messages
    same_end h =
        elim (by_lt y.at (length ds)) [
          | inl k ↦ rw (stream_end base x h, stream_one spare y k (at_y.found k), ne_eqb y.at (length ws) (λ e. omega (arith, track.same)))
          | inr k ↦ rw (stream_end base x h, stream_end spare y k, eq-eqb y.at (length ws) (omega (arith, track.same, at_y.place.inside)))
        ]

pub same_inside : (ds ws : List ℕ) (x y : Place) → same_at ds ws x y ≡ true → y.at < length ds
same_inside ds ws x y h = ltb-true _ _ ((and-eq-true_iff _ _).0 h).0

pub record Abreast (ds ws : List ℕ) (base spare : ℕ) (x y : Place) : Type 0 where
  pub at_base : Stands ds ws base x
  pub at_spare : Stands ds ws spare y
  pub same : same_messages (stream_at ds ws base x) (stream_at ds ws spare y)
      ≡ same_messages (keep (is_automation_of base) (events_of ds ws)) (keep (is_automation_of spare) (events_of ds ws))

module _ {ds ws : List ℕ} (track : Track ds ws) {base spare : ℕ} where
  pub abreast_start : {z x y : Place} → left_at ds ws z ≡ events_of ds ws → Next ds ws base z x → Next ds ws spare z y → Abreast ds ws base spare x y
  abreast_start e n m = record { at_base = n.stands; at_spare = m.stands; same = rw (n.same, m.same, e) }

  module _ {x y : Place} (abreast : Abreast ds ws base spare x y) where
    pub abreast_differ : x.at < length ds → same_at ds ws x y ≡ false
        → false ≡ same_messages (keep (is_automation_of base) (events_of ds ws)) (keep (is_automation_of spare) (events_of ds ws))
    abreast_differ h e = sym (rw e at (same_more track base spare x y abreast.at_base abreast.at_spare h)) ∙ abreast.same

    pub abreast_end : length ds ≤ x.at
        → eqb y.at (length ws) ≡ same_messages (keep (is_automation_of base) (events_of ds ws)) (keep (is_automation_of spare) (events_of ds ws))
    abreast_end h = sym (same_end track base spare x y abreast.at_base abreast.at_spare h) ∙ abreast.same

    pub abreast_more : {x₁ x₂ y₁ y₂ : Place} → x.at < length ds → same_at ds ws x y ≡ true
        → Behind ds x x₁ → Next ds ws base x₁ x₂ → Behind ds y y₁ → Next ds ws spare y₁ y₂ → Abreast ds ws base spare x₂ y₂
    abreast_more h e bx nx by ny =
        let step = rw e at (same_more track base spare x y abreast.at_base abreast.at_spare h) in
        record {
          at_base = nx.stands;
          at_spare = ny.stands;
          same = rw (nx.same, ny.same, bx.tick, bx.at, by.tick, by.at) (sym step ∙ abreast.same);
        }
