-- The walk by the track's events: a step over one event keeps that the first `at` events are taken, and once the next event
-- lies after the bar's start, what is taken is what the definitions of section 4 say of the bar.
use Prim.Native.Nat.{ℕ, ◌+◌, ◌≤◌, ◌<◌, zero-le}
use mathlib.Core.Bool.{Bool, false, cond, not, ◌&&◌}
use mathlib.Core.List.{List, [], ◌∷◌, ◌++◌, append-nil}
use mathlib.Core.Logic.{inl, inr}
use mathlib.Core.Option.{none, some}
use mathlib.Core.Path.{◌≡◌, refl, sym, ap, ◌∙◌}
use native.Mathlib.Numerals.{add-one}
use native.Mathlib.Omega.{arith}
use borrow.Author.Tests.{le-leb, lt-leb, ne_eqb}
use lib.Dec.{eqb, leb, ltb}
use lib.ListN.{length, get_or, take, drop, take-append-drop}
use lib.Seq.{length-take-le}
use Rattle.rules.specs.Lists.{keep, sum, All}
use Rattle.rules.specs.Piece.{Event, is_kind, tempo_value}
use Rattle.rules.specs.Changes.{Change, Meter, Key, tempo_of, meter_of, key_of, tempo_changes, meter_changes, key_changes, first_meter}
use Rattle.rules.specs.Bars.{meter_at, tempo_mark, key_mark, key_bits, bar_length}
use Rattle.laws.proofs.Lists.{All-imp, All-append, keep_none}
use Rattle.laws.proofs.Order.{by_bool}
use Rattle.track_events.specs.Track.{Track, events_of, left, tick_at}
use Rattle.track_events.proofs.Tracks.{left_cons, left_none, left_drop, tick_next, timed_length, timed_rises}
use Rattle.changes.proofs.ChangeLaws.{lower_positive, head_lower}
use Rattle.bar_marks.specs.Marks.{key_packed}
use Rattle.bar_walk.specs.declared.Walker.{Walker}
use Rattle.bar_walk.specs.Steps.{meter_in, took_one, next_of}
use Rattle.bar_walk.specs.Walk.{first_walker, taken_by, left_for, Taking, AtBar}
use Rattle.laws.proofs.Places.{take_more}
use Rattle.laws.proofs.Lists.{keep_append}
use Rattle.laws.proofs.Tests.{keep_all, latest_more, latest_front, latest_same}

-- ---- the changes of the three kinds

abbrev is_tempo : Event → Bool
is_tempo e = is_kind 2 e.word && not (eqb (tempo_value e.word) 0)

abbrev tempo_in : Event → Change ℕ
tempo_in e = record { tick = e.tick; to = tempo_of (tempo_value e.word) }

abbrev is_meter : Event → Bool
is_meter e = is_kind 3 e.word

abbrev meter_change : Event → Change Meter
meter_change e = record { tick = e.tick; to = meter_of e.word }

abbrev is_key : Event → Bool
is_key e = is_kind 4 e.word

abbrev key_in : Event → Change Key
key_in e = record { tick = e.tick; to = key_of e.word }

-- ---- the start

pub walk_start : (ds ws : List ℕ) (p : ℕ)
    → Taking ds ws (first_walker ds ws p)
unfolding keep sum
walk_start ds ws p =
    record {
      within = zero-le;
      tick = refl;
      reached = omega arith;
      past = tt;
      lower = head_lower (events_of ds ws);
      meter = refl;
      tempo = refl;
      key = refl;
    }

-- ---- one event

module _ {ds ws : List ℕ} (track : Track ds ws) {w : Walker} (t : Taking ds ws w) (h : w.at < length ds) where
  -- the event at `at`
  abbrev next : Event
  next = record { number = w.at; tick = w.tick + get_or ds w.at 0; word = get_or ws w.at 0 }

  left_next : left_for ds ws w ≡ next ∷ left (w.tick + get_or ds w.at 0) (w.at + 1) ds ws
  left_next = sym (left_drop w.at ds ws) ∙ rw (← t.tick) (left_cons w.tick w.at ds ws h (omega (arith, track.same)))

  taken_next : take (w.at + 1) (events_of ds ws) ≡ taken_by ds ws w ++ (next ∷ [])
  taken_next = rw add-one (take_more w.at (events_of ds ws) next _ left_next)

  module _ (k : w.tick + get_or ds w.at 0 ≤ w.start) where
    lower_next : 0 < cond (is_meter next) (meter_of next.word).lower w.lower
    lower_next = elim (by_bool (is_meter next)) [ inl b ↦ rw b (lower_positive next.word) | inr b ↦ rw b t.lower ]

    meter_next : meter_in (took_one w (get_or ds w.at 0) next.word)
        ≡ meter_at (meter_changes (take (w.at + 1) (events_of ds ws))) (first_meter (events_of ds ws)) w.start
    meter_next =
        rw (taken_next, latest_more is_meter meter_change (λ c. c.to) (λ c. leb c.tick w.start) (first_meter (events_of ds ws)) (taken_by ds ws w) next)
        (rw (le-leb next.tick w.start k) (elim (by_bool (is_meter next)) [ inl b ↦ rw b | inr b ↦ rw b t.meter ]))

    tempo_next : (took_one w (get_or ds w.at 0) next.word).tempo
        ≡ tempo_mark (tempo_changes (take (w.at + 1) (events_of ds ws))) w.start
    tempo_next =
        rw (taken_next, latest_more is_tempo tempo_in (λ c. c.to) (λ c. eqb c.tick w.start && ltb 0 w.start) 0 (taken_by ds ws w) next)
        (ap (cond (is_tempo next && (eqb next.tick w.start && ltb 0 w.start)) (tempo_of (tempo_value next.word))) t.tempo)

    key_next : key_packed (took_one w (get_or ds w.at 0) next.word).fifths (took_one w (get_or ds w.at 0) next.word).minor
        ≡ key_bits (key_mark (key_changes (take (w.at + 1) (events_of ds ws))) w.start)
    key_next =
        rw (taken_next, latest_more is_key key_in (λ c. some c.to) (λ c. eqb c.tick w.start) none (taken_by ds ws w) next)
        (elim (by_bool (is_key next && eqb next.tick w.start)) [ inl b ↦ rw b | inr b ↦ rw b t.key ])

    -- an event at or before the bar's start is taken
    pub walk_one : Taking ds ws (took_one w (get_or ds w.at 0) (get_or ws w.at 0))
    walk_one =
        record {
          within = omega arith;
          tick = rw (tick_next ds w.at h, t.tick);
          reached = k;
          past = rw taken_next (All-append (λ (e : Event). e.tick ≤ w.start) (taken_by ds ws w) (next ∷ []) t.past (k, tt));
          lower = lower_next;
          meter = meter_next;
          tempo = tempo_next;
          key = key_next;
        }

  -- the next event lies after the bar's start: so do all that are left
  pub coming_late : w.start < w.tick + get_or ds w.at 0 → All (λ (e : Event). w.start < e.tick) (left_for ds ws w)
  coming_late k =
      let rises = timed_rises w.at w.tick (drop w.at ds) (drop w.at ws) in
      let later = rw (left_cons w.tick w.at ds ws h (omega (arith, track.same))) at rises in
      rw left_next (k, All-imp (λ e l. omega arith) (left (w.tick + get_or ds w.at 0) (w.at + 1) ds ws) later.0)

-- no event is left
pub coming_none : {ds ws : List ℕ} {w : Walker} → Taking ds ws w → length ds ≤ w.at
    → All (λ (e : Event). w.start < e.tick) (left_for ds ws w)
coming_none {ds} {ws} {w} t h = rw (← left_drop w.at ds ws, left_none (tick_at w.at ds) w.at ds ws h) tt

-- ---- a bar

module _ {ds ws : List ℕ} (track : Track ds ws) {w : Walker} (t : Taking ds ws w)
    (late : All (λ (e : Event). w.start < e.tick) (left_for ds ws w)) where
  parts : taken_by ds ws w ++ left_for ds ws w ≡ events_of ds ws
  parts = take-append-drop w.at (events_of ds ws)

  not_before : All (λ (e : Event). leb e.tick w.start ≡ false) (left_for ds ws w)
  not_before = All-imp (λ e l. lt-leb e.tick w.start l) (left_for ds ws w) late

  not_there : All (λ (e : Event). eqb e.tick w.start ≡ false) (left_for ds ws w)
  not_there = All-imp (λ e l. ne_eqb e.tick w.start (λ z. omega arith)) (left_for ds ws w) late

  not_marked : All (λ (e : Event). eqb e.tick w.start && ltb 0 w.start ≡ false) (left_for ds ws w)
  not_marked = All-imp (λ e l. rw l) (left_for ds ws w) not_there

  count : w.at ≡ length (keep (λ (e : Event). leb e.tick w.start) (events_of ds ws))
  count =
      let before : Event → Bool = λ e. leb e.tick w.start in
      let first = keep_all before (taken_by ds ws w) (All-imp (λ e l. le-leb e.tick w.start l) (taken_by ds ws w) t.past) in
      let kept : keep before (taken_by ds ws w ++ left_for ds ws w) ≡ taken_by ds ws w =
      keep_append before (taken_by ds ws w) (left_for ds ws w) ∙ rw (first, keep_none before _ not_before, append-nil) in
      let all = timed_length 0 0 ds ws track.same in
      sym (length-take-le w.at (events_of ds ws) (omega (arith, t.within))) ∙ sym (ap length kept) ∙ ap (λ l. length (keep before l)) parts

  -- every change at or before the bar's start is taken
  pub walk_settled : AtBar ds ws w
  walk_settled =
      record {
        taken = t;
        coming = late;
        at = count;
        meter = t.meter ∙ sym (latest_front is_meter meter_change (λ c. c.to) _ _ (taken_by ds ws w) (left_for ds ws w) not_before) ∙ rw parts;
        tempo = t.tempo ∙ sym (latest_front is_tempo tempo_in (λ c. c.to) _ _ (taken_by ds ws w) (left_for ds ws w) not_marked) ∙ rw parts;
        key =
            t.key
            ∙ ap key_bits (sym (latest_front is_key key_in (λ c. some c.to) _ _ (taken_by ds ws w) (left_for ds ws w) not_there))
            ∙ rw parts;
      }

-- the next bar, before its changes are taken
pub walk_next : {ds ws : List ℕ} {w : Walker} → Taking ds ws w → Taking ds ws (next_of w)
unfolding keep
walk_next {ds} {ws} {w} t =
    let done : List Event = taken_by ds ws w in
    let end : ℕ = w.start + bar_length w.p (meter_in w) in
    let stays : (e : Event) → e.tick ≤ w.start → leb e.tick w.start ≡ leb e.tick end =
    λ e l. rw (le-leb e.tick w.start l, le-leb e.tick end (omega arith)) in
    let passes : (e : Event) → e.tick ≤ w.start → eqb e.tick end ≡ false = λ e l. ne_eqb e.tick end (λ z. omega arith) in
    let same = All-imp stays done t.past in
    let passed = All-imp passes done t.past in
    let unmarked : (e : Event) → eqb e.tick end ≡ false → (eqb e.tick end && ltb 0 end) ≡ false = λ e l. rw l in
    record {
      within = t.within;
      tick = t.tick;
      reached = omega (arith, t.reached);
      past = All-imp (λ e l. omega arith) done t.past;
      lower = t.lower;
      meter = t.meter ∙ latest_same is_meter meter_change (λ c. c.to) _ _ _ done same;
      tempo = sym (latest_front is_tempo tempo_in (λ c. c.to) (λ c. eqb c.tick end && ltb 0 end) 0 [] done (All-imp unmarked done passed));
      key = ap key_bits (sym (latest_front is_key key_in (λ c. some c.to) (λ c. eqb c.tick end) none [] done passed));
    }
