-- The notes and their marks, as the proof-reader reads them in the work area.
use Rattle.std.specs.Prelude.{ℕ, ◌+◌, ◌*◌, ◌/◌, ◌%◌, ◌^◌, ◌≤◌, ◌<◌, Bool, not, ◌&&◌, ◌||◌, List, map, ◌≡◌, eqb, ltb, length, get_or}
use Rattle.rules.specs.Lists.{any, every, flag}
use Rattle.rules.specs.RawNotes.{RawNote}
use Rattle.rules.specs.Grid.{snapped}
use Rattle.rules.specs.ProofReader.{Played}
use Rattle.rules.specs.ProofReaderTests.{has_key?}
use Rattle.laws.specs.NoteWords.{InRange}
use Rattle.laws.specs.Sort.{count}

-- raw note i, and the same snapped to the grid
abbrev pub raw_at : ℕ → List ℕ → ℕ → RawNote
raw_at n w i =
    record { start = get_or w (n + i) 0 / 128; end = get_or w i 0 / 16; key = get_or w (n + i) 0 % 128; channel = get_or w i 0 % 16 }

abbrev pub snap_at : ℕ → ℕ → List ℕ → ℕ → RawNote
snap_at g n w i = snapped g (raw_at n w i)

-- the m notes, snapped
abbrev pub notes_at : ℕ → ℕ → ℕ → List ℕ → List RawNote
notes_at g n m w = map (snap_at g n w) (count 0 m)

-- the area has its columns, its notes are in range, and their snapped starts rise
pub record Readable (g n m : ℕ) (w : List ℕ) : Type 0 where
  pub area : 16 * n ≤ length w
  pub room : m ≤ n
  pub some_grid : 0 < g
  pub small_grid : g ≤ 65535
  pub range : (i : ℕ) → i < m → InRange (2 ^ 47) (raw_at n w i)
  pub rises : (i j : ℕ) → i ≤ j → j < m → (snap_at g n w i).start ≤ (snap_at g n w j).start

-- w' has the notes of w
pub record Same (n : ℕ) (w w' : List ℕ) : Type 0 where
  pub kept : length w' ≡ length w
  pub notes : (j : ℕ) → j < 2 * n → get_or w' j 0 ≡ get_or w j 0

-- the first k notes start before tick s
pub record Before (g n : ℕ) (w : List ℕ) (k s : ℕ) : Type 0 where
  pub earlier : (j : ℕ) → j < k → (snap_at g n w j).start < s

-- note r is the first that does not start before tick s
pub record Skipped (g n m : ℕ) (w : List ℕ) (s r : ℕ) : Type 0 where
  pub within : r ≤ m
  pub before : Before g n w r s
  pub from : r < m → s ≤ (snap_at g n w r).start

-- ---- marks

-- a chord of the note's start has its key
abbrev pub hears? : RawNote → Played → Bool
hears? n c = eqb c.start n.start && has_key? n.key c.keys

-- a note is marked where some of the chords cs have it
pub record Marks (g n m : ℕ) (w : List ℕ) (cs : List Played) : Type 0 where
  pub mark : (i : ℕ) → i < m → get_or w (2 * n + i) 0 ≡ flag (any (hears? (snap_at g n w i)) cs)

pub record Cleared (n m : ℕ) (w w' : List ℕ) : Type 0 where
  pub same : Same n w w'
  pub marks : (i : ℕ) → i < m → get_or w' (2 * n + i) 0 ≡ 0

-- each note that starts before tick e is marked
abbrev pub found? : ℕ → ℕ → ℕ → List ℕ → ℕ → Bool
found? g n e w i = not (ltb (snap_at g n w i).start e) || eqb (get_or w (2 * n + i) 0) 1

abbrev pub all_found? : ℕ → ℕ → ℕ → ℕ → List ℕ → Bool
all_found? g n m e w = every (found? g n e w) (count 0 m)
