-- How notes and chords stand in the work area: columns of n words, word i of column c at c * n + i.
use Rattle.std.specs.Prelude.{ℕ, ◌+◌, ◌-◌, ◌*◌, ◌/◌, ◌%◌, ◌^◌, ◌≤◌, ◌<◌, ◌≡◌, eqb, length, get_or}
use mathlib.Core.List.{List, [], foldl, reverse}
use Rattle.rules.specs.Piece.{largest_size}
use Rattle.rules.specs.RawNotes.{RawNote}
use Rattle.rules.specs.Voices.{Chord, join_or_open}
use Rattle.laws.specs.NoteWords.{InRange}
use Rattle.laws.specs.Places.{up_to}
use Rattle.chords.specs.declared.Keys.{Keys}
use Rattle.chords.specs.declared.Note.{Note}
use Rattle.chords.specs.declared.VoiceChord.{VoiceChord}

-- ---- notes

-- the note at place i: its end and channel in column 0, its start and key in column 1
abbrev pub note_at : ℕ → List ℕ → ℕ → RawNote
note_at n w i =
    record { start = get_or w (n + i) 0 / 128; end = get_or w i 0 / 16; key = get_or w (n + i) 0 % 128; channel = get_or w i 0 % 16 }

-- the same where column 1 has the start and the falling key, 127 - key
abbrev pub falling_at : ℕ → List ℕ → ℕ → RawNote
falling_at n w i =
    record { start = get_or w (n + i) 0 / 128; end = get_or w i 0 / 16; key = 127 - get_or w (n + i) 0 % 128; channel = get_or w i 0 % 16 }

-- a note of the code as one of the rules
abbrev pub note_of : Note → RawNote
note_of x = record { start = x.start; end = x.end; key = x.key; channel = x.channel }

-- the area has its columns, and its notes are in range
pub record Ready (n m g : ℕ) (w : List ℕ) : Type 0 where
  pub area : 16 * n ≤ length w
  pub room : m ≤ n
  pub some_grid : 0 < g
  pub small_grid : g ≤ largest_size
  pub notes : (i : ℕ) → i < m → InRange (2 ^ 47) (note_at n w i)

-- ---- chords

-- the chord at place i: start, end, low keys, high keys and mark in columns 5 to 9
abbrev pub chord_at : ℕ → List ℕ → ℕ → Chord
chord_at n w i =
    record {
      start = get_or w (5 * n + i) 0;
      end = get_or w (6 * n + i) 0;
      keys = get_or w (8 * n + i) 0 * 2 ^ 64 + get_or w (7 * n + i) 0;
      unpitched = eqb (get_or w (9 * n + i) 0) 1;
    }

-- two words of keys as one number: bit k of the high word is for key 64 + k
abbrev pub keys_of : Keys → ℕ
keys_of k = k.high * 2 ^ 64 + k.low

-- a chord of the code as one of the rules
abbrev pub chord_of : VoiceChord → Chord
chord_of c = record { start = c.start; end = c.end; keys = keys_of c.keys; unpitched = c.unpitched }

-- the chords that sorted notes make, in order: those of section 5 are `chords_of (sorted_notes g ns)`
abbrev pub chords_of : List RawNote → List Chord
chords_of ns = reverse (foldl join_or_open [] ns)

-- the first m chords of the area are cs
pub record ChordsIn (cs : List Chord) (n m : ℕ) (w : List ℕ) : Type 0 where
  pub room : m ≤ n
  pub chords : up_to (chord_at n w) m ≡ cs
