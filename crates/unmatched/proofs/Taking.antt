-- The starts still pending, one after another: those put, then those left by channel, key, arrival, are all.
use Prim.Native.Nat.{ℕ, ◌+◌, ◌/◌, ◌%◌, ◌≤◌}
use mathlib.Core.List.{List, [], ◌∷◌, ◌++◌, map, map-append}
use mathlib.Core.Path.{◌≡◌, sym, ap, ◌∙◌}
use native.Mathlib.Omega.{arith}
use lib.ListN.{length, length-map}
use Rattle.rules.specs.Lists.{sort_by}
use Rattle.rules.specs.Piece.{largest_size}
use Rattle.rules.specs.RawNotes.{NoteEvent, note_events, Pairing, pairing, by_channel}
use Rattle.rules.specs.Diagnostics.{unmatched_on, unmatched_found}
use Rattle.laws.proofs.Sort.{length_sort}
use Rattle.track_events.specs.Track.{events_of}
use Rattle.pairing.specs.Steps.{Taken}
use Rattle.pairing.specs.declared.Unclosed.{Unclosed}
use Rattle.pairing.proofs.Taking.{Taking, taking_start, taken_fits, taken_inside, taking_more, taking_end}
use Rattle.findings.specs.Found.{Found, FoundIn, Packs, diagnostic_of, on_at}
use Rattle.unmatched.specs.Stages.{Fits, Pairs, PairedAll, AllTaken, Emptied}
use Rattle.unmatched.specs.declared.Seen.{Seen}
use Rattle.findings.proofs.Putting.{found_none, found_append, found_as}

-- those put, where so many are left, of the queues from `from` on
pub record Puts (h t : List (List ℕ)) (w : List ℕ) (n m track at : ℕ) (x : Pairing) (p₀ d₀ : List ℕ) (left from next : ℕ) (p d : List ℕ) : Type 0 where
  pub done : List NoteEvent
  pub taking : Taking Fits h t w n m from x.pending done left
  pub found : Found (map (unmatched_on track) done) at p₀ d₀ next p d

pub puts_start : {h t : List (List ℕ)} {w : List ℕ} {n m waiting : ℕ} (track at : ℕ) {x : Pairing} (p d : List ℕ) {left : ℕ} → waiting ≡ left → Pairs h t w n m waiting x
    → Puts h t w n m track at x p d left 0 at p d
puts_start track at p d all v = record { done = []; taking = taking_start v.queues (v.held ∙ all) v.fits; found = found_none at p d }

module _ {h t : List (List ℕ)} {w : List ℕ} {n m track at : ℕ} {x : Pairing} {p₀ d₀ : List ℕ} {left from next : ℕ} {p d : List ℕ}
    (v : Puts h t w n m track at x p₀ d₀ left from next p d) where
  module _ {h' : List (List ℕ)} {u : Unclosed} (q : Taken h' t w n m v.taking.waiting u) where
    pub taken_packs : track ≤ largest_size → Packs (on_at track u.number u.tick (u.queue / 128) (u.queue % 128))
    taken_packs h =
        let fits = taken_fits v.taking q in
        record {
          code = omega arith;
          track = h;
          event = omega (arith, q.is.number, fits.number);
          tick = omega (arith, q.is.tick, fits.tick);
          channel = omega (arith, q.is.channel, (taken_inside v.taking q).channel);
          key = omega arith;
        }

    pub puts_more : {left' r : ℕ} {p₁ d₁ : List ℕ} → left ≡ left' + 1
        → Found (diagnostic_of (on_at track u.number u.tick (u.queue / 128) (u.queue % 128)) ∷ []) next p d r p₁ d₁
        → Puts h' t w n m track at x p₀ d₀ left' u.queue r p₁ d₁
    puts_more less f =
        record {
          done = v.done ++ (q.start ∷ []);
          taking = taking_more v.taking q (omega arith);
          found = found_as (sym (map-append (unmatched_on track) v.done (q.start ∷ []))) (found_append v.found (rw on_is f));
        }
      where
        on_is : unmatched_on track q.start ≡ diagnostic_of (on_at track u.number u.tick (u.queue / 128) (u.queue % 128))
        on_is = rw (q.is.number, q.is.tick, q.is.channel, q.is.key)

  pub puts_end : left ≤ 0 → AllTaken h track x at p₀ d₀ next p d
  puts_end z =
      let e = taking_end v.taking z in
      record { heads = e.1; found = found_as (ap (map (unmatched_on track)) e.0) v.found }

-- the loop: whatever pairing the arrays held
pub record Reach (h₀ : List (List ℕ)) (w : List ℕ) (n waiting track at : ℕ) (p₀ d₀ : List ℕ) (h : List (List ℕ)) (left from next : ℕ) (p d : List ℕ)
    : Type 0 where
  pub few : next + left ≡ at + waiting
  pub reach : (t : List (List ℕ)) (m : ℕ) (x : Pairing) → Pairs h₀ t w n m waiting x → Puts h t w n m track at x p₀ d₀ left from next p d

-- ---- a track: its offs without ons, then its ons without offs
pub notes_found : {h h' t : List (List ℕ)} {w ds ws : List ℕ} {n track at r : ℕ} {p₀ d₀ p d p₁ d₁ : List ℕ} {s : Seen}
    → PairedAll h t w ds ws n track at p₀ d₀ s p d
    → AllTaken h' track (pairing (note_events (events_of ds ws))) s.next p d r p₁ d₁
    → Emptied h' t × FoundIn (unmatched_found track (events_of ds ws)) (length ds) at p₀ d₀ r p₁ d₁
notes_found {ds = ds} {ws = ws} {track = track} a b =
    let x = pairing (note_events (events_of ds ws)) in
    let many : length (map (unmatched_on track) (sort_by by_channel x.pending)) ≡ length x.pending = rw length-map (length_sort by_channel x.pending) in (
      record { heads = b.heads; tails = a.pairs.queues.tails },
      record { found = found_append a.found b.found; few = omega (arith, a.few, a.pairs.held, b.found.count) },
    )
