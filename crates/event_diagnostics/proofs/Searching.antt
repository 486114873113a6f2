-- Groups 2 and 3: one event more of a pass over a track, and the first meter.
use Prim.Native.Nat.{ℕ, suc, ◌+◌, ◌≤◌, ◌<◌, ◌^◌}
use mathlib.Core.Bool.{true, false}
use mathlib.Core.List.{List, [], ◌∷◌, ◌++◌, map, map-append, append-nil}
use mathlib.Core.Logic.{⊎_elim}
use mathlib.Core.Path.{◌≡◌, refl, sym, ap, ◌∙◌}
use native.Mathlib.Numerals.{add-one}
use native.Mathlib.Omega.{arith}
use lib.ListN.{length, get_or, drop}
use lib.Seq.{append_snoc, drop-cons}
use Rattle.rules.specs.Lists.{keep, sum, first_or}
use Rattle.rules.specs.Piece.{Event, timed, is_kind}
use Rattle.rules.specs.Changes.{Change, Meter, common_time, meter_of, meter_changes}
use Rattle.rules.specs.Diagnostics.{at_event}
use Rattle.laws.proofs.Lists.{keep_append}
use Rattle.laws.proofs.Loops.{keep_done}
use Rattle.laws.proofs.Order.{by_bool}
use Rattle.track_events.specs.Track.{events_of, left, tick_at}
use Rattle.track_events.proofs.Tracks.{left_cons, left_none, tick_next, track_sum}
use Rattle.event_diagnostics.specs.declared.Group.{Group}
use Rattle.event_diagnostics.specs.declared.Group.TheVariants.{OffMeasure, System}
use Rattle.findings.specs.Found.{Found, FoundIn}
use Rattle.event_diagnostics.specs.Groups.{meter_in, code_of, is_found, found_of, found_one, Searchable}
use Rattle.findings.proofs.Putting.{found_none, found_append, found_as}

-- what is found in the events of two lists
found_of_append : (g : Group) (track : ℕ) (es fs : List Event) → found_of g track (es ++ fs) ≡ found_of g track es ++ found_of g track fs
found_of_append g track es fs =
    ap (map _) (keep_append (λ (e : Event). is_found g e.tick e.word) es fs) ∙ map-append _ (keep _ es) (keep _ fs)

-- ---- the loop: the events before event i are passed
pub record Searching (g : Group) (track at : ℕ) (ds ws p₀ d₀ : List ℕ) (i tick next : ℕ) (p d : List ℕ) : Type 0 where
  pub passed : List Event
  pub within : i ≤ length ds
  pub tick_is : tick ≡ tick_at i ds
  pub few : next ≤ at + i
  pub found : Found (found_of g track passed) at p₀ d₀ next p d
  pub all : passed ++ left tick i ds ws ≡ events_of ds ws

pub searching_start : {g : Group} {track at : ℕ} {ds ws p d : List ℕ} → Searching g track at ds ws p d 0 0 at p d
unfolding keep sum
searching_start {at = at} {p = p} {d = d} =
    record { passed = []; within = omega arith; tick_is = refl; few = omega arith; found = found_none at p d; all = refl }

module _ {g : Group} {track at : ℕ} {ds ws p₀ d₀ : List ℕ} {i tick next : ℕ} {p d : List ℕ}
    (can : Searchable ds ws track at) (s : Searching g track at ds ws p₀ d₀ i tick next p d) where
  pub searched : length ds ≤ i → FoundIn (found_of g track (events_of ds ws)) (length ds) at p₀ d₀ next p d
  searched h =
      record {
        found = found_as (ap (found_of g track) (sym (append-nil s.passed) ∙ ap (◌++◌ s.passed) (sym (left_none tick i ds ws h)) ∙ s.all)) s.found;
        few = omega (arith, s.few, s.within);
      }

  module _ (more : i < length ds) where
    next_tick : tick + get_or ds i 0 ≡ tick_at (i + 1) ds
    next_tick = omega (arith, s.tick_is, tick_next ds i more)

    pub tick_below : tick + get_or ds i 0 < 2 ^ 47
    tick_below = omega (arith, next_tick, (track_sum can.events (i + 1) (omega arith)).1)

    pub searching_more : {r : ℕ} {p₁ d₁ : List ℕ}
        → Found (found_one g track (record { number = i; tick = tick + get_or ds i 0; word = get_or ws i 0 })) next p d r p₁ d₁
        → r ≤ next + 1 → Searching g track at ds ws p₀ d₀ (i + 1) (tick + get_or ds i 0) r p₁ d₁
    searching_more f few =
        record {
          passed = s.passed ++ (event ∷ []);
          within = omega arith;
          tick_is = next_tick;
          few = omega (arith, s.few);
          found = found_as (sym (found_of_append g track s.passed (event ∷ []))) (found_append s.found f);
          all = append_snoc s.passed event _ ∙ ap (◌++◌ s.passed) (sym (left_cons tick i ds ws more (omega (arith, can.events.same)))) ∙ s.all;
        }
      where
        event : Event
        event = record { number = i; tick = tick + get_or ds i 0; word = get_or ws i 0 }

-- one event, that is found or not
pub one_at_most : (g : Group) (track : ℕ) (e : Event) → length (found_one g track e) ≤ 1
unfolding keep
one_at_most g track e = ⊎_elim (λ t. rw t (omega arith)) (λ t. rw t (omega arith)) (by_bool (is_found g e.tick e.word))

module _ (g : Group) (track : ℕ) (e : Event) where
  pub one_found : is_found g e.tick e.word ≡ true → found_one g track e ≡ at_event (code_of g) track e ∷ []
  unfolding keep
  one_found t = rw t

  pub none_found : is_found g e.tick e.word ≡ false → found_one g track e ≡ []
  unfolding keep
  none_found t = rw t

-- ---- the first meter
meters : (n t : ℕ) (ds ws : List ℕ) → length ws ≡ length ds
    → map (λ (c : Change Meter). c.to) (meter_changes (timed n t ds ws)) ≡ map meter_of (keep (is_kind 3) ws)
unfolding timed keep
meters n t [] [] h = refl
meters n t [] (w ∷ ws) h = absurd (omega arith)
meters n t (d ∷ ds) [] h = absurd (omega arith)
meters n t (d ∷ ds) (w ∷ ws) h =
    let more = meters (suc n) (t + d) ds ws (omega arith) in
    ⊎_elim (λ k. rw k (ap (◌∷◌ (meter_of w)) more)) (λ k. rw k more) (by_bool (is_kind 3 w))

pub any_meter : (ds ws : List ℕ) → length ws ≡ length ds → first_or common_time (map (λ (c : Change Meter). c.to) (meter_changes (events_of ds ws))) ≡ meter_in ws
any_meter ds ws h = ap (first_or common_time) (meters 0 0 ds ws h)

module _ (ws : List ℕ) (i : ℕ) where
  pub meter_here : i < length ws → is_kind 3 (get_or ws i 0) ≡ true → meter_in (drop i ws) ≡ meter_of (get_or ws i 0)
  unfolding keep
  meter_here h k = rw (drop-cons ws i 0 h, k)

  pub meter_on : i < length ws → is_kind 3 (get_or ws i 0) ≡ false → meter_in (drop i ws) ≡ meter_in (drop (i + 1) ws)
  unfolding keep
  meter_on h k = rw (drop-cons ws i 0 h, k, add-one)

  pub meter_none : length ws ≤ i → meter_in (drop i ws) ≡ common_time
  meter_none h = ap (λ (l : List ℕ). first_or common_time (map meter_of l)) (keep_done (is_kind 3) ws i h)

-- ---- codes
pub code_small : (g : Group) → code_of g ≤ 5
code_small (OffMeasure l) = omega arith
code_small System = omega arith
