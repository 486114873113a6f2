-- Between two tracks the largest end so far and that of the parts still to come are together the end of the piece.
use Prim.Native.Nat.{ℕ, suc, ◌+◌, ◌-◌, ◌≤◌, ◌<◌, max}
use mathlib.Core.Bool.{not, true, false}
use mathlib.Core.List.{List, [], ◌∷◌, map, flat_map, foldl, head?}
use mathlib.Core.Logic.{inl, inr}
use mathlib.Core.Option.{Option, none, some}
use mathlib.Core.Path.{◌≡◌, refl, sym, ap, ◌∙◌}
use native.Mathlib.Nat.{max-zero, zero-max}
use native.Mathlib.Omega.{arith}
use borrow.Author.Tests.{lt-ltb}
use lib.Dec.{ltb}
use lib.ListN.{length, get_or, take}
use lib.Seq.{take-nil}
use Rattle.rules.specs.Lists.{any, keep, sort_by, largest, is_empty, All}
use Rattle.rules.specs.Piece.{Event, piece, is_on}
use Rattle.rules.specs.RawNotes.{NoteEvent, note_events, RawNote, raw_note, Pairing, same_key, take_off, pair_one, no_pairs}
use Rattle.rules.specs.RawNotes.{by_channel, by_start, raw_notes_of, raw_notes, last_tick, has_notes, most_parts}
use Rattle.rules.specs.Bars.{end_of_piece}
use Rattle.laws.specs.Admitted.{Admitted}
use Rattle.laws.proofs.Order.{by_bool}
use Rattle.laws.proofs.Lists.{All-all, All-append}
use Rattle.laws.proofs.Folds.{foldl_keeps}
use Rattle.laws.proofs.Sort.{All-sort}
use Rattle.laws.proofs.Notes.{has_notes_lem}
use Rattle.track_events.specs.Track.{Track, events_of, stretch}
use Rattle.tracks.proofs.Cuts.{Cut, later, cut_start, cut_next, later_cons, later_none, notes_words}
use Rattle.ends.specs.declared.Sofar.{Sofar}
use Rattle.ends.specs.Pass.{track_end}
use Rattle.ends.specs.Sofar.{taken}
use Rattle.laws.proofs.Largest.{largest_map_append, max_assoc}
use Rattle.ends.proofs.Passes.{pair_on, pair_off}

-- ---- a track has notes exactly if its end is above 0

abbrev Ends : RawNote → Type 0
Ends n = 0 < n.end

off_ends : (n : NoteEvent) (p : Pairing) (o : Option NoteEvent) → All Ends p.closed → All Ends (take_off n p o).closed
off_ends n p none h = h
off_ends n p (some s) h = All-append Ends p.closed (raw_note s n.tick ∷ []) h (omega arith, tt)

one_ends : (p : Pairing) (n : NoteEvent) → All Ends p.closed → All Ends (pair_one p n).closed
one_ends p n h =
    elim (by_bool n.on) [ inl t ↦ rw (pair_on p n t) h | inr t ↦ rw (pair_off p n t) (off_ends n p (head? (keep (same_key n) p.pending)) h) ]

pending_end : (last : ℕ) (ss : List NoteEvent) → All Ends (map (λ s. raw_note s last) ss)
pending_end last [] = tt
pending_end last (s ∷ ss) = (omega arith, pending_end last ss)

notes_end : (es : List Event) → All Ends (raw_notes es)
unfolding raw_notes_of
notes_end es =
    let p = foldl pair_one no_pairs (note_events es) in
    All-sort by_start Ends _
    (All-append Ends p.closed _
    (foldl_keeps pair_one (λ q. All Ends q.closed) (λ n. Unit {0}) (λ q n u h. one_ends q n h)
    (note_events es) no_pairs (All-all (λ n. tt) (note_events es)) tt)
    (pending_end (last_tick es) (sort_by by_channel p.pending)))

some_end : (ns : List RawNote) → All Ends ns → ltb 0 (largest (map (λ (n : RawNote). n.end) ns)) ≡ not (is_empty ns)
some_end [] h = refl
some_end (n ∷ ns) h = lt-ltb 0 (max n.end (largest (map (λ (n : RawNote). n.end) ns))) (omega (arith, h.0))

has_end : (es : List Event) → has_notes es ≡ ltb 0 (track_end es)
unfolding track_end
has_end es = has_notes_lem es ∙ sym (some_end (raw_notes es) (notes_end es))

-- the words alone tell
pub words_end : {ds ws : List ℕ} → Track ds ws → any is_on ws ≡ ltb 0 (track_end (events_of ds ws))
words_end {ds} {ws} track = sym (notes_words ds ws track.same) ∙ has_end (events_of ds ws)

-- a track that ends no later than those before it, and one without notes
pub taken_covered : (s : Sofar) (e : ℕ) → ltb 0 e ≡ true → e ≤ s.end → record { parts = s.parts + 1; end = s.end } ≡ taken s e
taken_covered s e t h = let same : max s.end e ≡ s.end = omega (arith, h) in rw (t, same)

pub taken_none : (s : Sofar) (e : ℕ) → ltb 0 e ≡ false → s ≡ taken s e
taken_none s e f = rw f

-- ---- the parts to come

-- the largest end of the first k of the tracks that have notes
pub parts_end : ℕ → List (List Event) → ℕ
parts_end k ess = largest (map (λ (n : RawNote). n.end) (flat_map raw_notes (take k (keep has_notes ess))))

-- the end of the piece, with those tracks to come
pub after : Sofar → List (List Event) → ℕ
after s ess = max s.end (parts_end (most_parts - s.parts) ess)

after_cons : (s : Sofar) (es : List Event) (ess : List (List Event)) → s.parts < most_parts → after s (es ∷ ess) ≡ after (taken s (track_end es)) ess
unfolding after parts_end keep track_end flat_map
after_cons s es ess h =
    let e : most_parts - s.parts ≡ suc (most_parts - (s.parts + 1)) = omega arith in
    elim (by_bool (has_notes es)) [
      | inl t ↦
          rw (sym (has_end es) ∙ t, t, e)
          (rw (largest_map_append (λ (n : RawNote). n.end) (raw_notes es) (flat_map raw_notes (take (most_parts - (s.parts + 1)) (keep has_notes ess))))
          (max_assoc s.end _ _))
      | inr f ↦ rw (sym (has_end es) ∙ f, f)
    ]

after_none : (s : Sofar) → after s [] ≡ s.end
unfolding after parts_end keep flat_map
after_none s = rw (take-nil, max-zero)

after_all : (s : Sofar) (ess : List (List Event)) → s.parts ≡ most_parts → after s ess ≡ s.end
unfolding after parts_end flat_map
after_all s ess h = rw h (max-zero s.end)

-- ---- between two tracks

pub record Between (s d w : List ℕ) (x : Sofar) (from i : ℕ) : Type 0 where
  pub cut : Cut s d w i from
  pub few : x.parts ≤ most_parts
  pub rest : after x (later s d w i from) ≡ end_of_piece (piece s d w)

taken_few : (s : Sofar) (e : ℕ) → s.parts < most_parts → (taken s e).parts ≤ most_parts
taken_few s e h = elim (by_bool (ltb 0 e)) [ inl t ↦ rw t (omega arith) | inr t ↦ rw t (omega arith) ]

pub between_first : {s d w : List ℕ} → Admitted (piece s d w) → Between s d w (record { parts = 0; end = 0 }) 0 2
unfolding after parts_end end_of_piece
between_first {s} {d} {w} known =
    record { cut = cut_start s d w known.sizes; few = omega arith; rest = zero-max (end_of_piece (piece s d w)) }

module _ {s d w : List ℕ} {x : Sofar} {from i : ℕ} (b : Between s d w x from i) where
  pub between_next : i < length s → (x.parts ≡ most_parts → ⊥)
      → Between s d w (taken x (track_end (events_of (stretch from (from + get_or s i 0) d) (stretch from (from + get_or s i 0) w)))) (from + get_or s i 0) (i + 1)
  between_next h n =
      let few : x.parts < most_parts = omega (arith, b.few) in
      record {
        cut = cut_next b.cut h;
        few = taken_few x (track_end (events_of (stretch from (from + get_or s i 0) d) (stretch from (from + get_or s i 0) w))) few;
        rest = sym (ap (after x) (later_cons b.cut h) ∙ after_cons x _ _ few) ∙ b.rest;
      }

  pub between_end : length s ≤ i → x.end ≡ end_of_piece (piece s d w)
  between_end h = sym (ap (after x) (later_none s d w i from h) ∙ after_none x) ∙ b.rest

  pub between_full : x.parts ≡ most_parts → x.end ≡ end_of_piece (piece s d w)
  between_full h = sym (after_all x _ h) ∙ b.rest
