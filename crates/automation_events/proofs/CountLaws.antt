-- The lists as they are counted: what is counted and what is left of each are together the whole.
use Prim.Native.Nat.{ℕ, suc, ◌+◌, ◌≤◌, ◌<◌}
use mathlib.Core.Bool.{Bool, not, ◌&&◌}
use mathlib.Core.List.{List, [], ◌∷◌}
use mathlib.Core.Logic.{inl, inr}
use mathlib.Core.Path.{◌≡◌, refl, sym, ap, ◌∙◌}
use native.Mathlib.Omega.{arith}
use lib.ListN.{length, get_or, drop, length-append, length-map}
use Rattle.rules.specs.Lists.{keep}
use Rattle.rules.specs.Piece.{Event, timed, channel_of}
use Rattle.rules.specs.Automation.{is_dropped, automation, all_automation, automation_lists}
use Rattle.rules.specs.Refusals.{most_events}
use Rattle.laws.proofs.Order.{by_bool}
use Rattle.track_events.specs.Track.{Track, events_of}
use Rattle.track_events.proofs.Tracks.{timed_length}
use Rattle.laws.proofs.Loops.{keep_left, keep_done}
use Rattle.auxiliary_channels.specs.Markers.{Drops}
use Rattle.automation_events.specs.declared.Kind.{Kind}
use Rattle.automation_events.specs.declared.Kind.TheVariants.{Bend, Controller, Program, Pressure}
use Rattle.automation_events.specs.declared.Counts.{Counts}
use Rattle.automation_events.specs.Kinds.{is_one, wanted, count_of, Counted, AtMost, AreCounts}
use Rattle.laws.proofs.Tests.{keep_few}
use Rattle.automation_events.proofs.KindLaws.{wanted_automation}

-- ---- counts

-- i words are counted
pub record Counting (ws : List ℕ) (dropped : List Bool) (i : ℕ) (s : Counts) : Type 0 where
  pub each : (k : Kind) → count_of k s + length (keep (wanted k dropped) (drop i ws)) ≡ length (keep (wanted k dropped) ws)

-- events are kept as their words are
keep_words : (f : ℕ → Bool) (n t : ℕ) (ds ws : List ℕ) → length ws ≡ length ds
    → length (keep (λ (e : Event). f e.word) (timed n t ds ws)) ≡ length (keep f ws)
unfolding keep timed
keep_words f n t [] [] e = refl
keep_words f n t [] (w ∷ ws) e = absurd (omega arith)
keep_words f n t (d ∷ ds) [] e = absurd (omega arith)
keep_words f n t (d ∷ ds) (w ∷ ws) e =
    let rest = keep_words f (suc n) (t + d) ds ws (omega arith) in
    elim (by_bool (f w)) [ inl k ↦ rw k (ap suc rest) | inr k ↦ rw k rest ]

pub counting_start : (ws : List ℕ) (dropped : List Bool) {s : Counts} → s.bends ≡ 0 → s.controllers ≡ 0 → s.programs ≡ 0 → s.pressures ≡ 0
    → Counting ws dropped 0 s
counting_start ws dropped {s} b c g p = record { each = each }
  where
    each : (k : Kind) → count_of k s + length (keep (wanted k dropped) (drop 0 ws)) ≡ length (keep (wanted k dropped) ws)
    each Bend = omega arith
    each Controller = omega arith
    each Program = omega arith
    each Pressure = omega arith

module _ {ws : List ℕ} {dropped : List Bool} {i : ℕ} {s : Counts} (counting : Counting ws dropped i s) where
  pub counting_few : length ws ≤ most_events → AtMost most_events s
  counting_few h = record { each = λ k. omega (arith, counting.each k, keep_few (wanted k dropped) ws) }

  pub counting_more : {r : Counts} → i < length ws → Counted s dropped (get_or ws i 0) r → Counting ws dropped (i + 1) r
  counting_more h r = record { each = λ k. omega (arith, counting.each k, r.each k, keep_left (wanted k dropped) ws i 0 h) }

  pub counting_end : {ds : List ℕ} → Track ds ws → Drops (events_of ds ws) dropped → length ws ≤ i → AreCounts (events_of ds ws) s
  unfolding automation_lists
  counting_end {ds} track drops h =
      record { bends = λ p. all Bend; controllers = λ p. all Controller; programs = λ p. all Program; pressures = λ p. all Pressure }
    where
      all : (k : Kind) → count_of k s ≡ length (automation (is_one k) (events_of ds ws))
      all k =
          let none = ap length (keep_done (wanted k dropped) ws i h) in
          let whole = sym (keep_words (wanted k dropped) 0 0 ds ws track.same) ∙ ap length (wanted_automation track drops k) in
          omega (arith, counting.each k)

-- ---- the counts' bounds and sum

pub count_is : {es : List Event} {r : Counts} → AreCounts es r → (k : Kind) → count_of k r ≡ length (automation (is_one k) es)
unfolding automation_lists
count_is counts Bend = counts.bends 0
count_is counts Controller = counts.controllers 0
count_is counts Program = counts.programs 0
count_is counts Pressure = counts.pressures 0

pub counts_few : {ds ws : List ℕ} → Track ds ws → {r : Counts} → AreCounts (events_of ds ws) r → AtMost most_events r
counts_few {ds} {ws} track counts =
    record {
      each = λ k.
          omega (
            arith,
            count_is counts k,
            keep_few (λ (e : Event). is_one k e.word && not (is_dropped (events_of ds ws) (channel_of e.word))) (events_of ds ws),
            timed_length 0 0 ds ws track.same,
            track.few,
          );
    }

module _ {es : List Event} {r : Counts} (counts : AreCounts es r) (p : ℕ) where
  total : length (all_automation es) ≡ r.bends + r.controllers + r.programs + r.pressures
  unfolding automation_lists
  total = simp length-append (omega (arith, counts.bends p, counts.controllers p, counts.programs p, counts.pressures p))

  pub ticks_total : length (automation_lists p es).ticks ≡ r.bends + r.controllers + r.programs + r.pressures
  unfolding automation_lists
  ticks_total = rw length-map total

  pub words_total : length (automation_lists p es).words ≡ r.bends + r.controllers + r.programs + r.pressures
  unfolding automation_lists
  words_total = rw length-map total
