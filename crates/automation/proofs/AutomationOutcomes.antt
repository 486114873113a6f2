-- The automation call: its outcome with this room, and what it leaves in the outputs.
use Prim.Native.Nat.{ℕ, ◌+◌, ◌≤◌, ◌<◌}
use mathlib.Core.List.{List}
use mathlib.Core.Path.{◌≡◌, sym, subst, ◌∙◌}
use borrow.Author.Tests.{lt-ltb, le-ltb}
use lib.ListN.{length}
use Rattle.rules.specs.Lists.{written}
use Rattle.rules.specs.Piece.{Piece, Event, ticks_per_quarter}
use Rattle.rules.specs.Automation.{AutomationLists, automation_lists}
use Rattle.rules.specs.Refusals.{Result, refused, given, unless, first_number, part_refusals, as_it_is}
use Rattle.rules.specs.Calls.{AutomationCounts, AutomationCalled, automation_call}
use Rattle.laws.proofs.Refusals.{passes_append}
use Rattle.track_events.specs.Track.{events_of, stretch}
use Rattle.std.specs.Prelude.{Ok}
use Rattle.basics.specs.declared.Refusal.{Refusal}
use Rattle.basics.specs.Refusals.{number}
use Rattle.tracks.specs.declared.Span.{Span}
use Rattle.opening.specs.Opening.{PartOpened}
use Rattle.opening.proofs.Opening.{refuses, part_passes}
use Rattle.automation_events.specs.Kinds.{AreCounts}
use Rattle.automation_events.specs.declared.Counts.{Counts}
use Rattle.automation_events.proofs.CountLaws.{ticks_total, words_total}
use Rattle.automation.specs.Answers.{as_counts, automation_outcome}

-- how many entries there are
abbrev pub total : Counts → ℕ
total c = c.bends + c.controllers + c.programs + c.pressures

-- a call that is refused leaves both outputs
automation_refused : {r : Result AutomationLists} {ticks words : List ℕ} (n : ℕ) → r ≡ refused n
    → AutomationCalled as_it_is r ticks words (refused n) ticks words
automation_refused n e = record { answered = rw e; ticks = rw e; words = rw e }

module _ (p : ℕ) (es : List Event) (ticks words : List ℕ) (c : Counts) (are : AreCounts es c) where
  few_ticks : length ticks < total c → automation_outcome p es (length ticks) (length words) ≡ refused 8
  unfolding unless
  few_ticks h = rw (ticks_total are p, lt-ltb _ _ h)

  pub ticks_short : length ticks < total c
      → AutomationCalled as_it_is (automation_outcome p es (length ticks) (length words)) ticks words (refused 8) ticks words
  ticks_short h = automation_refused 8 (few_ticks h)

  few_words : total c ≤ length ticks → length words < total c → automation_outcome p es (length ticks) (length words) ≡ refused 8
  unfolding unless
  few_words h k = rw (ticks_total are p, le-ltb _ _ h, words_total are p, lt-ltb _ _ k)

  pub words_short : total c ≤ length ticks → length words < total c
      → AutomationCalled as_it_is (automation_outcome p es (length ticks) (length words)) ticks words (refused 8) ticks words
  words_short h k = automation_refused 8 (few_words h k)

  enough : total c ≤ length ticks → total c ≤ length words → automation_outcome p es (length ticks) (length words) ≡ given (automation_lists p es)
  unfolding unless
  enough h k = rw (ticks_total are p, le-ltb _ _ h, words_total are p, le-ltb _ _ k)

  pub automation_given : {ticks₁ words₁ : List ℕ} → total c ≤ length ticks → total c ≤ length words
      → ticks₁ ≡ written (automation_lists p es).ticks ticks → words₁ ≡ written (automation_lists p es).words words
      → AutomationCalled as_it_is (automation_outcome p es (length ticks) (length words)) ticks words (given (as_counts c)) ticks₁ words₁
  automation_given h k t w =
      rw (enough h k)
      (record {
        answered = λ i.
            given
            (record {
              bends = are.bends p i;
              controllers = are.controllers p i;
              programs = are.programs p i;
              pressures = are.pressures p i;
            });
        ticks = t;
        words = w;
      })

module _ (x : Piece) (k : ℕ) {ticks words : List ℕ} where
  -- 1 to 7
  pub part_refused : (r : Refusal) → number r ≡ first_number (part_refusals x k)
      → AutomationCalled as_it_is (automation_call x k (length ticks) (length words)) ticks words (refused (number r)) ticks words
  part_refused r e = automation_refused (number r) (refuses (part_refusals x k) r e _ _)

  -- what writing the part's track comes to is the call's outcome
  pub part_answered : {p : ℕ} {s : Span} {ticks₁ words₁ : List ℕ} {r : Result AutomationCounts} → PartOpened x k (Ok s) → p ≡ ticks_per_quarter x
      → AutomationCalled as_it_is
      (automation_outcome p (events_of (stretch s.from s.to x.deltas) (stretch s.from s.to x.words)) (length ticks) (length words))
      ticks words r ticks₁ words₁
      → AutomationCalled as_it_is (automation_call x k (length ticks) (length words)) ticks words r ticks₁ words₁
  part_answered {ticks₁ = ticks₁} {words₁ = words₁} {r = r} opened e called =
      subst (λ o. AutomationCalled as_it_is o ticks words r ticks₁ words₁)
      ((λ i. automation_outcome (e i) (opened.own.events i) (length ticks) (length words))
      ∙ sym (passes_append (part_refusals x k) _ _ (part_passes x k opened)))
      called
