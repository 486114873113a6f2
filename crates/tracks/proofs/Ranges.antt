-- Ranges in an admitted piece: its end, its ticks per quarter, and the note-ons of its tracks.
use Prim.Native.Nat.{ℕ, suc, ◌+◌, ◌*◌, ◌<◌, ◌≤◌, ◌^◌}
use mathlib.Core.Bool.{Bool, true, false, cond}
use mathlib.Core.List.{List, [], ◌∷◌, map, flat_map}
use mathlib.Core.Path.{◌≡◌}
use native.Mathlib.Omega.{arith}
use lib.ListN.{length, take, drop, length-take, length-drop}
use Rattle.rules.specs.Lists.{All, keep, largest}
use Rattle.rules.specs.Piece.{Piece, Event, largest_size, event_counts, timed, cut_tracks, tracks, well_formed, division, timecode, ticks_per_quarter, is_on}
use Rattle.rules.specs.RawNotes.{RawNote, raw_notes, has_notes, most_parts, parts, most_notes}
use Rattle.rules.specs.Bars.{end_of_piece}
use Rattle.rules.specs.Refusals.{largest_delta, most_events}
use Rattle.laws.specs.Admitted.{Admitted}
use Rattle.laws.specs.NoteWords.{InRange}
use Rattle.laws.proofs.Lists.{All-imp, All-map, All-take, All-drop, All-keep, All-flat_map}
use Rattle.laws.proofs.Tests.{keep_few}
use Rattle.laws.proofs.Refusals.{sizes_agree_lem}
use Rattle.laws.proofs.NoteRanges.{EventIn, notes_in_range}
use Rattle.track_events.proofs.Ranges.{events_in}

tracks_in : (limit : ℕ) (ns ds ws : List ℕ) → length ds * largest_delta < limit
    → All (λ d. d ≤ largest_delta) ds → All (λ w. well_formed w ≡ true) ws
    → All (All (EventIn limit)) (cut_tracks ns ds ws)
unfolding cut_tracks
tracks_in limit [] ds ws l h k = tt
tracks_in limit (n ∷ ns) ds ws l h k = (
  events_in limit 0 0 (take n ds) (take n ws) (omega (arith, length-take n ds)) (All-take _ n ds h) (All-take _ n ws k),
  tracks_in limit ns (drop n ds) (drop n ws) (omega (arith, length-drop n ds)) (All-drop _ n ds h) (All-drop _ n ws k),
)

largest_at_most : (limit : ℕ) (ns : List ℕ) → All (λ n. n ≤ limit) ns → largest ns ≤ limit
largest_at_most limit [] h = omega arith
largest_at_most limit (n ∷ ns) h = let r = largest_at_most limit ns h.1 in omega (arith, h.0)

pub parts_in : (x : Piece) → Admitted x → All (All (EventIn (2 ^ 47))) (parts x)
parts_in x known =
    All-take (All (EventIn (2 ^ 47))) most_parts (keep has_notes (tracks x))
    (All-imp (λ es k. k.0) (keep has_notes (tracks x))
    (All-keep (All (EventIn (2 ^ 47))) has_notes (tracks x)
    (tracks_in (2 ^ 47) (event_counts x) x.deltas x.words (omega (arith, known.events)) known.deltas known.words)))

pub end_at_most : (x : Piece) → Admitted x → end_of_piece x ≤ 2 ^ 47
unfolding end_of_piece
end_at_most x known =
    largest_at_most (2 ^ 47) (map (λ (n : RawNote). n.end) (flat_map raw_notes (parts x)))
    (All-map (λ n. n ≤ 2 ^ 47) (λ (n : RawNote). n.end) (λ n k. k.end) (flat_map raw_notes (parts x))
    (All-flat_map (InRange (2 ^ 47)) raw_notes (λ es k. notes_in_range (2 ^ 47) es (omega arith) k) (parts x) (parts_in x known)))

pub quarter_fits : (x : Piece) → Admitted x → ticks_per_quarter x ≤ largest_size
quarter_fits x known = go (timecode x)
  where
    go : (t : Bool) → cond t 480 (division x) ≤ largest_size
    go true = omega arith
    go false = omega (arith, (sizes_agree_lem x known.sizes).division)

-- ---- N, the most note-ons of one track: each track has no more, and it is at most the number of events

timed_few : (n t : ℕ) (ds ws : List ℕ) → length (timed n t ds ws) ≤ length ds
unfolding timed
timed_few n t [] ws = omega arith
timed_few n t (d ∷ ds) [] = omega arith
timed_few n t (d ∷ ds) (w ∷ ws) = let h = timed_few (suc n) (t + d) ds ws in omega arith

abbrev pub ons : List Event → ℕ
ons es = length (keep (λ (e : Event). is_on e.word) es)

tracks_few : (ns ds ws : List ℕ) → largest (map ons (cut_tracks ns ds ws)) ≤ length ds
unfolding cut_tracks
tracks_few [] ds ws = omega arith
tracks_few (n ∷ ns) ds ws =
    let here = keep_few (λ (e : Event). is_on e.word) (timed 0 0 (take n ds) (take n ws)) in
    omega (arith, timed_few 0 0 (take n ds) (take n ws), length-take n ds, tracks_few ns (drop n ds) (drop n ws), length-drop n ds)

pub most_few : (x : Piece) → Admitted x → most_notes x ≤ most_events
unfolding most_notes
most_few x known = omega (arith, tracks_few (event_counts x) x.deltas x.words, known.events)

each_most : (ess : List (List Event)) (n : ℕ) → largest (map ons ess) ≤ n → All (λ es. ons es ≤ n) ess
each_most [] n h = tt
each_most (es ∷ ess) n h = (omega arith, each_most ess n (omega arith))

pub most_each : (x : Piece) (n : ℕ) → most_notes x ≤ n → All (λ es. ons es ≤ n) (tracks x)
unfolding most_notes
most_each x n h = each_most (tracks x) n h

pub parts_most : (x : Piece) → All (λ es. ons es ≤ most_notes x) (parts x)
parts_most x =
    All-take (λ es. ons es ≤ most_notes x) most_parts (keep has_notes (tracks x))
    (All-imp (λ es k. k.0) (keep has_notes (tracks x))
    (All-keep (λ es. ons es ≤ most_notes x) has_notes (tracks x) (most_each x (most_notes x) (omega arith))))
