-- The lists written one after the other: after each, the outputs hold all events of the lists so far, and then what stood there.
use Prim.Native.Nat.{ℕ, ◌+◌, ◌≤◌}
use mathlib.Core.Bool.{Bool}
use mathlib.Core.List.{List, [], ◌++◌, map, map-append, append_assoc}
use mathlib.Core.Path.{◌≡◌, refl, sym, ap, ◌∙◌}
use native.Mathlib.Omega.{arith}
use lib.ListN.{length, length-append, length-map}
use Rattle.rules.specs.Lists.{written}
use Rattle.rules.specs.Piece.{Event}
use Rattle.rules.specs.Automation.{automation_tick, automation, all_automation, automation_lists}
use Rattle.track_events.specs.Track.{events_of}
use Rattle.automation_events.specs.declared.Kind.{Kind}
use Rattle.automation_events.specs.declared.Kind.TheVariants.{Bend, Controller, Program, Pressure}
use Rattle.automation_events.specs.declared.Choice.{Choice}
use Rattle.automation_events.specs.declared.Counts.{Counts}
use Rattle.automation_events.specs.Kinds.{is_one, count_of}
use Rattle.automation_events.specs.Writing.{choice_of, chosen_of, HasRoom, Collected, CanCollect}
use Rattle.laws.proofs.Places.{written_more, length_written}
use Rattle.automation_events.proofs.CountLaws.{count_is}
use Rattle.automation_events.proofs.KindLaws.{wanted_automation}

-- the events of the lists so far, and where the next goes
pub record Stage (p : ℕ) (done : List Event) (ticks₀ out₀ : List ℕ) (n : ℕ) (ticks out : List ℕ) : Type 0 where
  pub count : n ≡ length done
  pub in_ticks : ticks ≡ written (map (λ (e : Event). automation_tick p e.tick) done) ticks₀
  pub in_words : out ≡ written (map (λ (e : Event). e.word) done) out₀

pub stage_start : (p : ℕ) (ticks₀ out₀ : List ℕ) → Stage p [] ticks₀ out₀ 0 ticks₀ out₀
stage_start p ticks₀ out₀ = record { count = refl; in_ticks = refl; in_words = refl }

module _ {ds ws : List ℕ} {p : ℕ} {dropped : List Bool} {counts : Counts} {ticks₀ out₀ : List ℕ}
    (can : CanCollect ds ws p dropped counts ticks₀ out₀) where
  abbrev list_of : Kind → List Event
  list_of k = automation (is_one k) (events_of ds ws)

  is_list : (k : Kind) → chosen_of (choice_of dropped p k) (events_of ds ws) ≡ list_of k
  is_list k = wanted_automation can.track can.drops k

  module _ {done : List Event} {n : ℕ} {ticks out : List ℕ} (stage : Stage p done ticks₀ out₀ n ticks out) where
    pub stage_more : (k : Kind) {x : Choice} {r : ℕ} {ticks' out' : List ℕ} → x ≡ choice_of dropped p k → Collected (events_of ds ws) x n ticks out r ticks' out'
        → Stage p (done ++ list_of k) ticks₀ out₀ r ticks' out'
    stage_more k {x} {r} {ticks'} {out'} e c₀ =
        let c : Collected (events_of ds ws) (choice_of dropped p k) n ticks out r ticks' out' = rw e at c₀ in
        let tick : Event → ℕ = λ e. automation_tick p e.tick in
        let word : Event → ℕ = λ e. e.word in
        record {
          count = rw length-append (omega (arith, c.next, stage.count, ap length (is_list k)));
          in_ticks =
              c.ticks
              ∙ rw (is_list k, stage.in_ticks, map-append)
              (written_more (map tick done) (map tick (list_of k)) ticks₀ n (stage.count ∙ sym (length-map done tick)));
          in_words =
              c.words
              ∙ rw (is_list k, stage.in_words, map-append)
              (written_more (map word done) (map word (list_of k)) out₀ n (stage.count ∙ sym (length-map done word)));
        }

    pub stage_room : (k : Kind) {x : Choice} → x ≡ choice_of dropped p k → length done + length (list_of k) ≤ length (all_automation (events_of ds ws))
        → HasRoom (events_of ds ws) x (count_of k counts) n ticks out
    unfolding automation_lists
    stage_room k e fits =
        let tick : Event → ℕ = λ e. automation_tick p e.tick in
        let word : Event → ℕ = λ e. e.word in
        let size = ap length (is_list k) in
        let room_ticks = simp length-map at can.ticks in
        let room_words = simp length-map at can.words in
        let kept_ticks = length_written (map tick done) ticks₀ (rw length-map (omega arith)) in
        let kept_words = length_written (map word done) out₀ (rw length-map (omega arith)) in
        rw e (record {
          positive = can.positive;
          small = can.small;
          counted = omega (arith, count_is can.counted k);
          ticks = omega (arith, stage.count, ap length stage.in_ticks);
          words = omega (arith, stage.count, ap length stage.in_words);
        })

  -- ---- each list has room behind those before it

  pub fits_bends : 0 + length (list_of Bend) ≤ length (all_automation (events_of ds ws))
  fits_bends = simp length-append (omega arith)

  pub fits_controllers : length (list_of Bend) + length (list_of Controller) ≤ length (all_automation (events_of ds ws))
  fits_controllers = simp length-append (omega arith)

  pub fits_programs : length (list_of Bend ++ list_of Controller) + length (list_of Program) ≤ length (all_automation (events_of ds ws))
  fits_programs = simp length-append (omega arith)

  pub fits_pressures : length (list_of Bend ++ list_of Controller ++ list_of Program) + length (list_of Pressure) ≤ length (all_automation (events_of ds ws))
  fits_pressures = simp length-append (omega arith)

  pub stage_end : {n : ℕ} {ticks out : List ℕ} → Stage p (list_of Bend ++ list_of Controller ++ list_of Program ++ list_of Pressure) ticks₀ out₀ n ticks out
      → (ticks ≡ written (automation_lists p (events_of ds ws)).ticks ticks₀) × (out ≡ written (automation_lists p (events_of ds ws)).words out₀)
  unfolding automation_lists
  stage_end s = (simp append_assoc at s.in_ticks, simp append_assoc at s.in_words)
