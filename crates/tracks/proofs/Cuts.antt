-- The arrays cut into tracks: what is left of them at a track, its note-ons, how many parts there are, the most note-ons, the search for a part, and the tracks that spans give.
use Prim.Native.Nat.{ℕ, suc, ◌+◌, ◌-◌, ◌≤◌, ◌<◌, min, max}
use mathlib.Core.Bool.{Bool, true, false, cond, ◌||◌}
use mathlib.Core.List.{List, [], ◌∷◌, map}
use mathlib.Core.Logic.{inl, inr}
use mathlib.Core.Path.{◌≡◌, refl, sym, ap, ◌∙◌}
use native.Mathlib.Nat.{zero-add}
use native.Mathlib.Numerals.{add-one}
use native.Mathlib.Omega.{arith}
use lib.Dec.{ltb}
use lib.ListN.{length, get_or, drop, length-take, drop_of_length-le}
use lib.Seq.{drop-cons, drop-drop, get_or-take}
use Rattle.rules.specs.Lists.{any, keep, sum, largest}
use Rattle.rules.specs.Piece.{Piece, Event, piece, timed, cut_tracks, tracks, sizes_agree, is_on}
use Rattle.rules.specs.RawNotes.{has_notes, parts, most_parts, most_notes}
use Rattle.laws.specs.Admitted.{Admitted}
use Rattle.laws.proofs.Refusals.{sizes_agree_lem}
use Rattle.track_events.specs.Track.{Track, events_of, stretch}
use Rattle.track_events.proofs.Tracks.{length_stretch, track_part}
use Rattle.laws.proofs.Loops.{any_count, sum_left}
use Rattle.laws.proofs.Order.{by_bool}
use Rattle.tracks.specs.declared.Span.{Span}
use Rattle.tracks.specs.Spans.{IsSpan, FirstSpan}

-- size i is the event count of the next track, which starts at event `from`
pub record Cut (s ds ws : List ℕ) (i from : ℕ) : Type 0 where
  pub within : i ≤ length s
  pub rest : from + sum (drop i s) ≡ length ds
  pub same : length ws ≡ length ds

-- the tracks from there on
abbrev pub later : List ℕ → List ℕ → List ℕ → ℕ → ℕ → List (List Event)
later s ds ws i from = cut_tracks (drop i s) (drop from ds) (drop from ws)

pub cut_start : (s ds ws : List ℕ) → sizes_agree (piece s ds ws) ≡ true → Cut s ds ws 2 0
cut_start s ds ws h =
    let a = sizes_agree_lem (piece s ds ws) h in
    record { within = omega (arith, a.sizes); rest = omega (arith, a.deltas); same = omega (arith, a.deltas, a.words) }

module _ {s ds ws : List ℕ} {i from : ℕ} (cut : Cut s ds ws i from) (h : i < length s) where
  pub cut_fits : from + get_or s i 0 ≤ length ds
  cut_fits = omega (arith, sum_left s i h, cut.rest)

  -- what a cut of the next track asks, of its deltas and of its words; n is its event count
  module _ {n : ℕ} (e : n ≡ get_or s i 0) where
    pub cut_deltas : (from ≤ from + n) × (from + n ≤ length ds)
    cut_deltas = (omega arith, omega (arith, cut_fits))

    pub cut_words : (from ≤ from + n) × (from + n ≤ length ws)
    cut_words = (omega arith, omega (arith, cut_fits, cut.same))

  pub cut_next : Cut s ds ws (i + 1) (from + get_or s i 0)
  cut_next = record { within = omega arith; rest = omega (arith, sum_left s i h, cut.rest); same = cut.same }

  -- the next track, and then the others
  pub later_cons : later s ds ws i from
      ≡ events_of (stretch from (from + get_or s i 0) ds) (stretch from (from + get_or s i 0) ws) ∷ later s ds ws (i + 1) (from + get_or s i 0)
  unfolding cut_tracks
  later_cons =
      let n : from + get_or s i 0 - from ≡ get_or s i 0 = omega arith in
      rw (drop-cons s i 0 h) (rw (add-one, n, drop-drop, drop-drop))

pub later_none : (s ds ws : List ℕ) (i from : ℕ) → length s ≤ i → later s ds ws i from ≡ []
unfolding cut_tracks
later_none s ds ws i from h = rw (drop_of_length-le s h)

-- ---- note-ons, over the words of a track
abbrev note_count : List Event → ℕ
note_count es = length (keep (λ (e : Event). is_on e.word) es)

timed_count : (n t : ℕ) (ds ws : List ℕ) → length ws ≡ length ds → note_count (timed n t ds ws) ≡ length (keep is_on ws)
unfolding timed keep
timed_count n t [] [] h = refl
timed_count n t [] (w ∷ ws) h = absurd (omega arith)
timed_count n t (d ∷ ds) [] h = absurd (omega arith)
timed_count n t (d ∷ ds) (w ∷ ws) h =
    let more = timed_count (suc n) (t + d) ds ws (omega arith) in elim (by_bool (is_on w)) [ inl e ↦ rw e (ap suc more) | inr e ↦ rw e more ]

-- the words alone tell whether there are notes
pub notes_words : (ds ws : List ℕ) → length ws ≡ length ds → has_notes (events_of ds ws) ≡ any is_on ws
notes_words ds ws h =
    any_count (λ (e : Event). is_on e.word) (events_of ds ws) ∙ ap (ltb 0) (timed_count 0 0 ds ws h) ∙ sym (any_count is_on ws)

-- one word more, seen from the front
pub any_here : (ws : List ℕ) (i : ℕ) → i < length ws → any is_on (drop i ws) ≡ (is_on (get_or ws i 0) || any is_on (drop (i + 1) ws))
unfolding any
any_here ws i h = rw (drop-cons ws i 0 h) (rw add-one)

module _ {s ds ws : List ℕ} {i from : ℕ} (cut : Cut s ds ws i from) (h : i < length s) where
  abbrev next : List Event
  next = events_of (stretch from (from + get_or s i 0) ds) (stretch from (from + get_or s i 0) ws)

  track_same : length (stretch from (from + get_or s i 0) ws) ≡ length (stretch from (from + get_or s i 0) ds)
  track_same =
      let fits = cut_fits cut h in
      let there = length_stretch from (from + get_or s i 0) ws (omega arith) (omega (arith, cut.same)) in
      there ∙ sym (length_stretch from (from + get_or s i 0) ds (omega arith) fits)

  track_count : note_count next ≡ length (keep is_on (stretch from (from + get_or s i 0) ws))
  track_count = timed_count 0 0 _ _ track_same

  track_notes : has_notes next ≡ any is_on (stretch from (from + get_or s i 0) ws)
  track_notes = notes_words _ _ track_same

  abbrev others : List (List Event)
  others = later s ds ws (i + 1) (from + get_or s i 0)

  -- the tracks with notes: the next one, or not, and those behind it
  kept : {some : Bool} → some ≡ any is_on (stretch from (from + get_or s i 0) ws)
      → keep has_notes (later s ds ws i from) ≡ cond some (next ∷ keep has_notes others) (keep has_notes others)
  unfolding keep
  kept e = ap (keep has_notes) (later_cons cut h) ∙ rw (track_notes, ← e)

-- ---- how many parts there are: n of them among the tracks before size i
pub parts_from : ℕ → List (List Event) → ℕ
parts_from n ess = min most_parts (n + length (keep has_notes ess))

pub record PartsSoFar (s ds ws : List ℕ) (n i from : ℕ) : Type 0 where
  pub cut : Cut s ds ws i from
  pub few : n ≤ most_parts
  pub parts : parts_from n (later s ds ws i from) ≡ length (parts (piece s ds ws))

module _ {s ds ws : List ℕ} where
  pub parts_start : sizes_agree (piece s ds ws) ≡ true → PartsSoFar s ds ws 0 2 0
  unfolding parts_from
  parts_start h =
      record {
        cut = cut_start s ds ws h;
        few = omega arith;
        parts = rw zero-add (sym (length-take most_parts (keep has_notes (tracks (piece s ds ws)))));
      }

  module _ {n i from : ℕ} (v : PartsSoFar s ds ws n i from) where
    -- there are no more than these
    pub parts_full : n ≡ most_parts → n ≡ length (parts (piece s ds ws))
    unfolding parts_from
    parts_full e = omega (arith, v.parts)

    pub parts_end : length s ≤ i → n ≡ length (parts (piece s ds ws))
    unfolding parts_from cut_tracks keep
    parts_end h =
        let all : min most_parts (n + 0) ≡ length (parts (piece s ds ws)) = rw (later_none s ds ws i from h) at v.parts in omega (arith, v.few)

    module _ {some : Bool} (h : i < length s) (e : some ≡ any is_on (stretch from (from + get_or s i 0) ws)) where
      -- the next track is a part, or it is none
      pub parts_more : some ≡ true → (n ≡ most_parts → ⊥) → PartsSoFar s ds ws (n + 1) (i + 1) (from + get_or s i 0)
      unfolding parts_from
      parts_more t l =
          let all : keep has_notes (later s ds ws i from) ≡ next v.cut h ∷ keep has_notes (others v.cut h) = kept v.cut h e ∙ rw t in
          let was : min most_parts (n + suc (length (keep has_notes (others v.cut h)))) ≡ length (parts (piece s ds ws)) = rw all at v.parts in
          record { cut = cut_next v.cut h; few = omega (arith, v.few); parts = omega arith }

      pub parts_same : some ≡ false → PartsSoFar s ds ws n (i + 1) (from + get_or s i 0)
      unfolding parts_from
      parts_same f =
          let all : keep has_notes (later s ds ws i from) ≡ keep has_notes (others v.cut h) = kept v.cut h e ∙ rw f in
          record { cut = cut_next v.cut h; few = v.few; parts = rw all at v.parts }

-- ---- the most note-ons of the tracks before size i
pub most_from : ℕ → List (List Event) → ℕ
most_from m ess = max m (largest (map note_count ess))

pub record MostSoFar (s ds ws : List ℕ) (m i from : ℕ) : Type 0 where
  pub cut : Cut s ds ws i from
  pub most : most_from m (later s ds ws i from) ≡ most_notes (piece s ds ws)

module _ {s ds ws : List ℕ} where
  pub most_start : sizes_agree (piece s ds ws) ≡ true → MostSoFar s ds ws 0 2 0
  unfolding most_from most_notes
  most_start h = record { cut = cut_start s ds ws h; most = omega arith }

  module _ {m i from : ℕ} (v : MostSoFar s ds ws m i from) where
    pub most_more : {r : ℕ} → i < length s → r ≡ max m (length (keep is_on (stretch from (from + get_or s i 0) ws)))
        → MostSoFar s ds ws r (i + 1) (from + get_or s i 0)
    unfolding most_from
    most_more h e =
        let was : most_from m (next v.cut h ∷ later s ds ws (i + 1) (from + get_or s i 0)) ≡ most_notes (piece s ds ws) = rw (later_cons v.cut h) at v.most in
        record { cut = cut_next v.cut h; most = omega (arith, e, track_count v.cut h) }

    pub most_end : length s ≤ i → m ≡ most_notes (piece s ds ws)
    unfolding most_from cut_tracks
    most_end h = let all : max m 0 ≡ most_notes (piece s ds ws) = rw (later_none s ds ws i from h) at v.most in omega arith

-- ---- the search for part k: as many parts stand before it among the tracks from size i on
pub record Seeking (s ds ws : List ℕ) (k before i from : ℕ) : Type 0 where
  pub cut : Cut s ds ws i from
  pub there : before < length (keep has_notes (later s ds ws i from))
  pub is : get_or (keep has_notes (later s ds ws i from)) before [] ≡ get_or (parts (piece s ds ws)) k []

module _ {s ds ws : List ℕ} {k : ℕ} where
  pub seek_start : sizes_agree (piece s ds ws) ≡ true → k < length (parts (piece s ds ws)) → Seeking s ds ws k k 2 0
  seek_start h l =
      let with_notes : List (List Event) = keep has_notes (tracks (piece s ds ws)) in
      let few : k < min most_parts (length with_notes) = rw (← length-take most_parts with_notes) l in
      record {
        cut = cut_start s ds ws h;
        there = omega arith;
        is = sym (get_or-take most_parts with_notes k [] (omega arith));
      }

  module _ {before i from : ℕ} {some : Bool} (v : Seeking s ds ws k before i from) (h : i < length s)
      (e : some ≡ any is_on (stretch from (from + get_or s i 0) ws)) where
    -- the track has notes, and no part is before it
    pub seek_here : some ≡ true → before ≡ 0 → IsSpan ds ws (get_or (parts (piece s ds ws)) k []) (record { from = from; to = from + get_or s i 0 })
    seek_here l z =
        let all : keep has_notes (later s ds ws i from) ≡ next v.cut h ∷ keep has_notes (others v.cut h) = kept v.cut h e ∙ rw l in
        let fits = cut_fits v.cut h in
        record {
          order = omega arith;
          deltas = fits;
          words = omega (arith, v.cut.same);
          events = sym (sym v.is ∙ rw all (ap (λ (j : ℕ). get_or (next v.cut h ∷ keep has_notes (others v.cut h)) j []) z));
        }

    -- it has none
    pub seek_skip : some ≡ false → Seeking s ds ws k before (i + 1) (from + get_or s i 0)
    seek_skip z =
        let all : keep has_notes (later s ds ws i from) ≡ keep has_notes (others v.cut h) = kept v.cut h e ∙ rw z in
        record { cut = cut_next v.cut h; there = rw all at v.there; is = rw all at v.is }

    -- it has notes, and is passed
    pub seek_past : some ≡ true → 0 < before → Seeking s ds ws k (before - 1) (i + 1) (from + get_or s i 0)
    seek_past l b =
        let all : keep has_notes (later s ds ws i from) ≡ next v.cut h ∷ keep has_notes (others v.cut h) = kept v.cut h e ∙ rw l in
        let one : before ≡ suc (before - 1) = omega arith in
        let there : before < suc (length (keep has_notes (others v.cut h))) = rw all at v.there in
        let is : get_or (next v.cut h ∷ keep has_notes (others v.cut h)) before [] ≡ get_or (parts (piece s ds ws)) k [] = rw all at v.is in
        record { cut = cut_next v.cut h; there = omega arith; is = rw one at is }

  -- the part is met
  pub seek_end : {before i from : ℕ} → Seeking s ds ws k before i from → length s ≤ i → ⊥
  unfolding keep
  seek_end {before} {i} {from} v h = let none : before < 0 = rw (later_none s ds ws i from h) at v.there in omega arith

-- ---- the first track
pub first_none : (s : List ℕ) → length s < 3 → FirstSpan s (record { from = 0; to = 0 })
unfolding cut_tracks timed
first_none s l ds ws h =
    let none : later s ds ws 2 0 ≡ [] = later_none s ds ws 2 0 (omega arith) in
    record { order = omega arith; deltas = omega arith; words = omega arith; events = rw none }

pub first_some : (s : List ℕ) → 3 ≤ length s → FirstSpan s (record { from = 0; to = get_or s 2 0 })
first_some s l ds ws h =
    let cut = cut_start s ds ws h in
    let fits = cut_fits cut l in
    let to = get_or s 2 0 in
    let all : tracks (piece s ds ws) ≡ events_of (stretch 0 to ds) (stretch 0 to ws) ∷ later s ds ws 3 to = rw zero-add at (later_cons cut l) in
    record { order = omega arith; deltas = omega arith; words = omega (arith, cut.same); events = rw all }

-- ---- a stretch of an admitted piece is a track
pub whole_track : (x : Piece) → Admitted x → Track x.deltas x.words
whole_track x a =
    let agree = sizes_agree_lem x a.sizes in
    record { same = omega (arith, agree.words, agree.deltas); few = a.events; small = a.deltas; formed = a.words }

pub span_track : (x : Piece) {es : List Event} {r : Span} → Admitted x → IsSpan x.deltas x.words es r
    → Track (stretch r.from r.to x.deltas) (stretch r.from r.to x.words)
span_track x {r = r} a i = track_part (whole_track x a) r.from r.to i.order i.deltas

-- so is the next track of a cut
pub cut_track : {s ds ws : List ℕ} {i from : ℕ} → Admitted (piece s ds ws) → Cut s ds ws i from → i < length s
    → Track (stretch from (from + get_or s i 0) ds) (stretch from (from + get_or s i 0) ws)
cut_track {s} {ds} {ws} {i} {from} known cut h =
    track_part (whole_track (piece s ds ws) known) from (from + get_or s i 0) (omega arith) (cut_fits cut h)
