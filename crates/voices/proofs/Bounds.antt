-- Chords of notes in range start and end in range.
use Prim.Native.Nat.{ℕ, ◌^◌, ◌≤◌, ◌<◌}
use mathlib.Core.List.{List, [], ◌∷◌, map, foldl, reverse}
use mathlib.Core.Logic.{inl, inr}
use native.Mathlib.Omega.{arith}
use Rattle.rules.specs.Grid.{snapped}
use Rattle.rules.specs.Lists.{any, All}
use Rattle.rules.specs.Piece.{largest_size}
use Rattle.rules.specs.RawNotes.{RawNote}
use Rattle.rules.specs.Voices.{Chord, Voice, by_falling_key, sorted_notes, joins, joined, join_or_open, chords, give_keys, cut_to, place, no_voices, voices}
use Rattle.laws.specs.NoteWords.{InRange}
use Rattle.laws.proofs.Folds.{All-change, All-reverse, foldl_keeps}
use Rattle.laws.proofs.Lists.{All-map}
use Rattle.laws.proofs.Order.{by_bool}
use Rattle.laws.proofs.Sort.{All-sort}
use Rattle.laws.proofs.VoiceLaws.{place_by}
use Rattle.chords.proofs.Sorting.{snap_le}

module _ (limit : ℕ) where
  abbrev SmallNote : RawNote → Type 0
  SmallNote n = (n.start < limit) × (n.end < limit)

  abbrev pub Small : Chord → Type 0
  Small c = (c.start < limit) × (c.end < limit)

  join_small : (cs : List Chord) (n : RawNote) → SmallNote n → All Small cs → All Small (join_or_open cs n)
  unfolding join_or_open
  join_small cs n s h =
      elim (by_bool (any (joins n) cs)) [
        | inl t ↦ rw t (All-change (joins n) (joined n) Small Small (λ c k. k) (λ c _ k. k) cs h)
        | inr t ↦ rw t (s, h)
      ]

  give_small : (c : Chord) (v : Voice) → All Small v → All Small (give_keys c v)
  give_small c [] h = tt
  give_small c (l ∷ v) h = h

  cut_small : (t : ℕ) → t < limit → (v : Voice) → All Small v → All Small (cut_to t v)
  cut_small t l [] h = tt
  cut_small t l (c ∷ v) h = ((h.0.0, l), h.1)

  place_small : (vs : List Voice) (c : Chord) → Small c → All (All Small) vs → All (All Small) (place vs c)
  place_small vs c s h =
      place_by (All (All Small)) vs c (λ e. All-change _ _ (All Small) (All Small) (λ v k. k) (λ v _ k. (s, k)) vs h)
      (λ e. All-change _ _ (All Small) (All Small) (λ v k. k) (λ v _ k. give_small c v k) vs h)
      (λ e t. All-change _ _ (All Small) (All Small) (λ v k. k) (λ v _ k. (s, cut_small c.start s.0 v k)) vs h)

  voices_within : (g : ℕ) (ns : List RawNote) → All SmallNote (map (snapped g) ns) → All (All Small) (voices g ns)
  unfolding voices
  voices_within g ns h =
      All-map (All Small) reverse (λ v k. All-reverse Small v [] k tt) (foldl place no_voices (chords g ns))
      (foldl_keeps place (All (All Small)) Small place_small (chords g ns) no_voices
      (All-reverse Small (foldl join_or_open [] (sorted_notes g ns)) []
      (foldl_keeps join_or_open (All Small) SmallNote join_small (sorted_notes g ns) [] (All-sort by_falling_key SmallNote (map (snapped g) ns) h) tt) tt)
      (tt, (tt, (tt, (tt, tt)))))

pub voices_small : (g : ℕ) (ns : List RawNote) → g ≤ largest_size → All (InRange (2 ^ 47)) ns → All (All (Small (2 ^ 48))) (voices g ns)
voices_small g ns l h =
    voices_within (2 ^ 48) g ns
    (All-map (SmallNote (2 ^ 48)) (snapped g)
    (λ n (r : InRange (2 ^ 47) n). (omega (arith, snap_le g n.start), omega (arith, snap_le g n.start, snap_le g n.end))) ns h)
