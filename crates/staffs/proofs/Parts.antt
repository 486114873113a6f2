-- A part is opened and its voices stand in the work area; then what the engraver answers is the call's answer.
use Prim.Native.Nat.{ℕ, ◌<◌, ◌≤◌, ◌^◌}
use mathlib.Core.List.{List, [], ◌∷◌, ◌++◌}
use mathlib.Core.Path.{◌≡◌, refl, sym, ap, subst, ◌∙◌}
use native.Mathlib.Omega.{arith}
use lib.ListN.{length}
use Rattle.rules.specs.Lists.{cleared}
use Rattle.rules.specs.Bars.{Bar, bars, most_bars}
use Rattle.rules.specs.Calls.{StaffSize, EngravedLists, part_size, part_lists, staff_size_call, engrave_call, EngraveCalled}
use Rattle.rules.specs.Piece.{Piece, ticks_per_quarter}
use Rattle.rules.specs.RawNotes.{raw_notes, most_notes}
use Rattle.rules.specs.Refusals.{Result, Refusal, refused, given, unless, first_number, as_it_is, part_refusals, work_for, short_work}
use Rattle.rules.specs.Voices.{Chord}
use Rattle.laws.proofs.Refusals.{ticks_per_quarter_positive}
use Rattle.track_events.specs.Track.{events_of, stretch}
use Rattle.tracks.proofs.Ranges.{quarter_fits}
use Rattle.std.specs.Prelude.{Option, None, Some, Ok, Err}
use Rattle.std.specs.Option.{ok_or}
use Rattle.engraver.specs.declared.Size.{Size}
use Rattle.basics.specs.declared.Refusal as declared
use Rattle.basics.specs.declared.Refusal.TheVariants.{NoRoom}
use Rattle.basics.specs.Refusals.{number}
use Rattle.tracks.specs.declared.Span.{Span}
use Rattle.opening.specs.Opening.{PartOpened}
use Rattle.opening.proofs.Opening.{refuses, work_short, work_enough, part_passes, part_admitted, own_track, few_ons}
use Rattle.bar_walk.specs.Walk.{CanWalk}
use Rattle.bar_source.specs.declared.BarSource.{BarSource}
use Rattle.bar_source.specs.Source.{IsBarSource}
use Rattle.bar_source.proofs.Sources.{positive, walked, bars_are}
use Rattle.staff.specs.Bars.{voices_of, VoicesHeld}
use Rattle.staff.specs.Staffs.{bars_of}
use Rattle.engraver.specs.Sizes.{size_by, lists_by, outcome, Outputs, result_of}
use Rattle.staffs.specs.declared.PartVoices.{PartVoices}
use Rattle.staffs.specs.Parts.{answer_of, HasTrack, TrackVoices, PartReady, PartVoiced}

-- ---- the part is opened

module _ (x : Piece) (k : ℕ) where
  -- 1 to 7 are both calls' numbers
  pub not_opened : {room : ℕ} {w : List ℕ} (r : declared.Refusal) → number r ≡ first_number (part_refusals x k) → PartVoiced x k room w (Err r)
  not_opened r e =
      record {
        no_size = refuses (part_refusals x k) r e _ _;
        no_staff = λ counts heads keys leftovers. refuses (part_refusals x k) r e _ _;
        ready = tt;
      }

  module _ {s : Span} (opened : PartOpened x k (Ok s)) {n : ℕ} (most : n ≡ most_notes x) where
    -- and 8
    pub no_work : {room : ℕ} {w : List ℕ} → room < work_for n → PartVoiced x k room w (Err NoRoom)
    no_work {room} h =
        let passed = part_passes x k opened in
        record {
          no_size = work_short x (part_refusals x k) passed n room most _ _ h;
          no_staff = λ counts heads keys leftovers. work_short x (part_refusals x k) passed n room most _ _ h;
          ready = tt;
        }

    -- the part's own track, cut out
    module _ {ds ws : List ℕ} {p room : ℕ} (d : ds ≡ stretch s.from s.to x.deltas) (v : ws ≡ stretch s.from s.to x.words)
        (q : p ≡ ticks_per_quarter x) (enough : work_for n ≤ room) where
      -- what `track_voices` asks
      pub tracked : {l : List ℕ} → length l ≡ room → HasTrack ds ws p l n
      tracked same =
          let known = part_admitted x k opened in
          record {
            track = rw (d, v) (own_track x k opened);
            ons = rw (d, v) (few_ons x k opened most);
            area = omega (arith, enough, same);
            positive = omega (arith, q, ticks_per_quarter_positive x known);
            small = omega (arith, q, quarter_fits x known);
          }

      pub voiced : {w : List ℕ} {r : PartVoices} → r.most ≡ n → IsBarSource x r.source
          → TrackVoices p (raw_notes (events_of ds ws)) r.most r.lens w → PartVoiced x k room w (Ok r)
      voiced same source voices =
          record {
            no_size = tt;
            no_staff = tt;
            ready =
                record {
                  known = part_admitted x k opened;
                  passes = part_passes x k opened;
                  source = source;
                  most = same ∙ most;
                  enough = omega (arith, enough, same);
                  voices = rw (q, d, v, opened.own.events) at voices;
                };
          }

-- ---- the staff of its voices is the part's

module _ {x : Piece} {k room : ℕ} {w : List ℕ} {r : PartVoices} (ready : PartReady x k room w r) where
  abbrev s : BarSource
  s = r.source

  is : IsBarSource x s
  is = ready.source

  -- 8 for the work area does not apply
  passes : {A : Type 0} (ss : List Refusal) (a : A) → unless (part_refusals x k ++ (short_work x room ∷ ss)) a ≡ unless ss a
  passes ss a = work_enough x (part_refusals x k) ready.passes r.most room ready.most ss a ready.enough

  -- the first track, cut out
  module _ {ds ws : List ℕ} (d : ds ≡ stretch s.from s.to x.deltas) (v : ws ≡ stretch s.from s.to x.words) where
    abbrev bs : List Bar
    bs = bars_of ds ws s.p s.end most_bars

    abbrev vs : List (List Chord)
    vs = voices_of r.most w r.lens

    -- what the engraver asks
    pub can_engrave : CanWalk ds ws s.p s.end × (0 < s.p) × (most_bars < 2 ^ 32) × VoicesHeld r.most w r.lens
    can_engrave = (rw (d, v) (walked x ready.known is), positive x ready.known is, omega arith, ready.voices.held)

    bars_here : bs ≡ bars x
    bars_here = rw (d, v) (bars_are is most_bars)

    size_is : size_by s.p bs vs ≡ part_size x k
    size_is i = size_by (is.quarter i) (bars_here i) (ready.voices.are i)

    lists_are : lists_by s.p bs vs ≡ part_lists x k
    lists_are i = lists_by (is.quarter i) (bars_here i) (ready.voices.are i)

    pub size_given : {a : StaffSize} → a ≡ size_by s.p bs vs → given a ≡ staff_size_call x k room
    unfolding unless
    size_given e = ap given (e ∙ size_is) ∙ sym (passes [] (part_size x k))

    result_is : (counts heads keys leftovers : ℕ)
        → outcome (lists_by s.p bs vs) counts heads keys leftovers ≡ engrave_call x k counts heads keys leftovers room
    result_is counts heads keys leftovers =
        ap (λ (y : EngravedLists). outcome y counts heads keys leftovers) lists_are ∙ sym (passes _ (part_lists x k))

    pub staff_given : {counts₀ heads₀ keys₀ leftovers₀ counts₁ heads₁ keys₁ leftovers₁ : List ℕ} {a : Result StaffSize}
        → Outputs (size_by s.p bs vs) (outcome (lists_by s.p bs vs) (length counts₀) (length heads₀) (length keys₀) (length leftovers₀))
        counts₀ heads₀ keys₀ leftovers₀ counts₁ heads₁ keys₁ leftovers₁ a
        → Outputs (part_size x k) (engrave_call x k (length counts₀) (length heads₀) (length keys₀) (length leftovers₀) room)
        counts₀ heads₀ keys₀ leftovers₀ counts₁ heads₁ keys₁ leftovers₁ a
    staff_given {counts₀} {heads₀} {keys₀} {leftovers₀} {counts₁} {heads₁} {keys₁} {leftovers₁} {a} =
        subst {A = StaffSize × Result EngravedLists}
        (λ y. Outputs y.0 y.1 counts₀ heads₀ keys₀ leftovers₀ counts₁ heads₁ keys₁ leftovers₁ a)
        (λ i. (size_is i, result_is (length counts₀) (length heads₀) (length keys₀) (length leftovers₀) i))

-- ---- the calls

-- a staff that finds no room is refused by number 8
pub told_room : (o : Option Size) → answer_of (ok_or o NoRoom) ≡ result_of o
told_room None = refl
told_room (Some s) = refl

module _ {size : StaffSize} {o : Result EngravedLists} {counts heads keys leftovers w w₁ : List ℕ} (zeroed : w₁ ≡ cleared w) where
  pub staff_called : {counts₁ heads₁ keys₁ leftovers₁ : List ℕ} {a : Result StaffSize}
      → Outputs size o counts heads keys leftovers counts₁ heads₁ keys₁ leftovers₁ a
      → EngraveCalled as_it_is size o counts heads keys leftovers w a counts₁ heads₁ keys₁ leftovers₁ w₁
  staff_called p =
      record { answered = p.answered; counts = p.counts; heads = p.heads; keys = p.keys; leftovers = p.leftovers; work = zeroed }

-- a refused call leaves its outputs
pub staff_refused : {size : StaffSize} {o : Result EngravedLists} {counts heads keys leftovers : List ℕ} (n : ℕ) → o ≡ refused n
    → Outputs size o counts heads keys leftovers counts heads keys leftovers (refused n)
staff_refused n e = record { answered = rw e; counts = rw e; heads = rw e; keys = rw e; leftovers = rw e }
