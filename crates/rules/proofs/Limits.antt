-- Which number is given at the limits that no row computes.
use Prim.Native.Nat.{ℕ, zero, suc, ◌+◌, ◌≤◌, min}
use mathlib.Core.Bool.{true, and-true}
use mathlib.Core.List.{List, [], ◌∷◌, ◌++◌}
use mathlib.Core.Path.{◌≡◌, refl, ap, ◌∙◌}
use native.Mathlib.Omega.{arith}
use borrow.Author.Tests.{eq-eqb, lt-ltb, le-ltb, lt-leb, le-leb}
use lib.Dec.{leb, ltb}
use lib.ListN.{length, replicate, length-replicate, length-take}
use Rattle.rules.specs.Lists.{keep, any, sum}
use Rattle.rules.specs.Piece.{Piece, Event, timed, cut_tracks, sizes_agree, well_formed, word}
use Rattle.rules.specs.RawNotes.{has_notes, parts}
use Rattle.rules.specs.Refusals.{Refusal, unless, event_refusals, piece_refusals, work_needed}
use Rattle.rules.specs.Calls.{diagnostics_call}
use Rattle.rules.specs.RefusalExamples.{number_of, many_events, many_tracks, many_notes, AtTheLimits}

-- a work area has some words
some_work : (x : Piece) → ltb 0 (work_needed x) ≡ true
some_work x = lt-ltb 0 (work_needed x) (omega arith)

-- ---- tracks

no_events : (n : ℕ) → sum (replicate n 0) ≡ 0
unfolding sum
no_events zero = refl
no_events (suc n) = omega (arith, no_events n)

tracks_agree : (n : ℕ) → sizes_agree (many_tracks n) ≡ leb n 65535
unfolding sizes_agree
tracks_agree n = rw (no_events n, eq-eqb (length (many_tracks n).sizes) (2 + n) (omega (arith, length-replicate {A = ℕ} n 0))) (and-true (leb n 65535))

most_tracks : (n : ℕ) → n ≤ 65535 → number_of (diagnostics_call (many_tracks n) 0 0 0) ≡ 8
unfolding unless piece_refusals event_refusals
most_tracks n h = rw (tracks_agree n, le-leb n 65535 h, some_work (many_tracks n))

-- ---- events

-- events of delta 0 and word 0 are not refused
plain_events : {A : Type 0} (n : ℕ) (rs : List Refusal) (a : A) → unless (event_refusals (replicate n 0) (replicate n 0) ++ rs) a ≡ unless rs a
unfolding unless event_refusals well_formed
plain_events zero rs a = refl
plain_events (suc n) rs a = plain_events n rs a

most_events : (n : ℕ) → n ≤ 500000 → number_of (diagnostics_call (many_events 480 n 0 0) 0 0 0) ≡ 8
unfolding sum sizes_agree unless piece_refusals
most_events n h =
    rw (length-replicate {A = ℕ} n 0, eq-eqb n (n + 0) (omega arith), le-ltb 500000 n h)
    (ap number_of (plain_events n _ _) ∙ rw (some_work (many_events 480 n 0 0)))

-- ---- parts

parts_of_one : (n : ℕ) → keep has_notes (cut_tracks (replicate n 1) (replicate n 0) (replicate n (word 9 0 60 64)))
    ≡ replicate n (timed 0 0 (0 ∷ []) (word 9 0 60 64 ∷ []))
unfolding keep any cut_tracks timed
parts_of_one zero = refl
parts_of_one (suc n) = ap (λ ts. timed 0 0 (0 ∷ []) (word 9 0 60 64 ∷ []) ∷ ts) (parts_of_one n)

most_parts : (n : ℕ) → length (parts (many_notes n)) ≡ min 32 n
most_parts n =
    let track : List Event = timed 0 0 (0 ∷ []) (word 9 0 60 64 ∷ []) in
    rw (parts_of_one n, length-take 32 (replicate n track), length-replicate n track)

pub at_the_limits : AtTheLimits
unfolding sum sizes_agree unless piece_refusals
at_the_limits =
    record {
      many_tracks_lem = λ n h. rw (tracks_agree n, lt-leb n 65535 h);
      most_tracks = most_tracks;
      many_events_lem = λ n d w h. rw (length-replicate n d, length-replicate n w, eq-eqb n (n + 0) (omega arith), lt-ltb 500000 n h);
      most_events = most_events;
      undivided = λ n d w. rw (length-replicate n d, length-replicate n w, eq-eqb n (n + 0) (omega arith));
      most_parts = most_parts;
    }
