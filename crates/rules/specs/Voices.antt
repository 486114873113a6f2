-- Section 5, Voices: a part's chords, and their four voices. The grid g and the notes are given apart.
use Rattle.std.specs.Prelude.{ℕ, zero, ◌+◌, ◌-◌, ◌*◌, ◌^◌, Bool, true, false, cond, ◌&&◌, eqb, leb, get_or, set}
use mathlib.Core.List.{List, [], ◌∷◌, map, foldl, reverse}
use Rattle.std.specs.Int.Bits.{bit_or}
use Rattle.rules.specs.Lists.{any, every, position, change_first, sort_by}
use Rattle.rules.specs.RawNotes.{RawNote}
use Rattle.rules.specs.Grid.{snapped}

-- ---- chords

-- A chord: snapped start and end, its keys as bits (bit k for key k), and whether it is unpitched.
pub record Chord : Type 0 where
  pub start : ℕ
  pub end : ℕ
  pub keys : ℕ
  pub unpitched : Bool

-- start, then falling key, as one number: keys are below 128
abbrev pub by_falling_key : RawNote → ℕ
by_falling_key n = n.start * 128 + (127 - n.key)

-- Notes sort by snapped start, then falling key, stably.
abbrev pub sorted_notes : ℕ → List RawNote → List RawNote
sorted_notes g ns = sort_by by_falling_key (map (snapped g) ns)

-- Channel 9 of 0 to 15 is the drums'.
abbrev pub is_drum : RawNote → Bool
is_drum n = eqb n.channel 9

-- the chord that a note opens
abbrev pub opened : RawNote → Chord
opened n = record { start = n.start; end = n.end; keys = 2 ^ n.key; unpitched = is_drum n }

-- a chord of the note's start and end
abbrev pub joins : RawNote → Chord → Bool
joins n c = eqb c.start n.start && eqb c.end n.end

-- The chord with the note in it. It is unpitched if all its joined notes are on channel 9.
abbrev pub joined : RawNote → Chord → Chord
joined n c =
    record { start = c.start; end = c.end; keys = bit_or c.keys (2 ^ n.key); unpitched = c.unpitched && is_drum n }

-- A note joins the most recent chord of equal start and equal end; otherwise it opens one. The list has the most recent chord first.
unfoldable pub join_or_open : List Chord → RawNote → List Chord
join_or_open cs n = cond (any (joins n) cs) (change_first (joins n) (joined n) cs) (opened n ∷ cs)

abbrev pub chords : ℕ → List RawNote → List Chord
chords g ns = reverse (foldl join_or_open [] (sorted_notes g ns))

-- ---- voices

-- a voice so far: its chords, the last one first
abbrev pub Voice : Type 0
Voice = List Chord

-- The voice is empty, or its last chord ends at or before the chord's start.
abbrev pub is_free : Chord → Voice → Bool
is_free c [] = true
is_free c (l ∷ v) = leb l.end c.start

-- The voice's last chord has the chord's start.
abbrev pub starts_with : Chord → Voice → Bool
starts_with c [] = false
starts_with c (l ∷ v) = eqb l.start c.start

abbrev pub voice_end : Voice → ℕ
voice_end [] = zero
voice_end (l ∷ v) = l.end

-- no voice ends before this one
abbrev pub ends_earliest : List Voice → Voice → Bool
ends_earliest vs v = every (λ w. leb (voice_end v) (voice_end w)) vs

-- What becomes of a chord, with the voice's number: it goes to a free voice, gives its keys to a chord that starts together with it, or cuts a
-- voice.
pub data Choice : Type 0 where
  free together cut : ℕ → Choice

-- The lowest voice that is free; with none free, the first whose last chord has the same start; failing that, the voice that ends earliest,
-- the lowest of several.
unfoldable pub choose : Chord → List Voice → Choice
choose c vs =
    cond (any (is_free c) vs) (free (position (is_free c) vs))
    (cond (any (starts_with c) vs) (together (position (starts_with c) vs)) (cut (position (ends_earliest vs) vs)))

-- the last chord with the given chord's keys too, its unpitched mark as it was
abbrev pub give_keys : Chord → Voice → Voice
give_keys c [] = []
give_keys c (l ∷ v) = record { start = l.start; end = l.end; keys = bit_or l.keys c.keys; unpitched = l.unpitched } ∷ v

-- the last chord cut to end at t
abbrev pub cut_to : ℕ → Voice → Voice
cut_to t [] = []
cut_to t (l ∷ v) = record { start = l.start; end = t; keys = l.keys; unpitched = l.unpitched } ∷ v

abbrev pub placed : Chord → List Voice → Choice → List Voice
placed c vs (free i) = set vs i (c ∷ get_or vs i [])
placed c vs (together i) = set vs i (give_keys c (get_or vs i []))
placed c vs (cut i) = set vs i (c ∷ cut_to c.start (get_or vs i []))

unfoldable pub place : List Voice → Chord → List Voice
place vs c = placed c vs (choose c vs)

abbrev pub no_voices : List Voice
no_voices = [] ∷ [] ∷ [] ∷ [] ∷ []

-- A part's four voices, each with its chords in order.
unfoldable pub voices : ℕ → List RawNote → List (List Chord)
voices g ns = map reverse (foldl place no_voices (chords g ns))
