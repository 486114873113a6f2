-- A chord held against the notes of its start.
use Rattle.std.specs.Prelude.{ℕ, ◌+◌, ◌*◌, ◌^◌, ◌<◌, max, Bool, cond, ◌&&◌, ◌||◌, List, ◌∷◌, Result, Ok, Err, ◌≡◌, eqb, ltb, get_or, set}
use Rattle.std.specs.Result.{is_ok}
use Rattle.std.specs.Int.Bits.{bit_or}
use Rattle.rules.specs.Lists.{any, bit, flag}
use Rattle.rules.specs.RawNotes.{RawNote}
use Rattle.rules.specs.ProofReader.{Played}
use Rattle.rules.specs.ProofReaderTests.{has_key?, keys_meant?, ends_with_note?}
use Rattle.proofread_notes.specs.Columns.{snap_at, notes_at, Same, Skipped, hears?, Marks}
use Rattle.proofread_notes.specs.declared.Chord.{Chord}
use Rattle.proofread_notes.specs.declared.Group.{Group}

abbrev pub keys_of : Chord → ℕ
keys_of c = c.low + c.high * 2 ^ 64

abbrev pub played_of : Chord → Played
played_of c = record { start = c.start; end = c.end; keys = keys_of c; unpitched = c.unpitched }

-- A chord is meant: its keys are, and it ends with a note, at the tick `next`, or at the last bar's end e.
unfoldable pub chord_ok? : ℕ → List RawNote → Played → ℕ → Bool
chord_ok? e ns c next = keys_meant? e ns c && (ends_with_note? ns c || eqb c.end next || eqb c.end e)

-- one word of keys has all keys of another
abbrev pub covers? : ℕ → ℕ → Bool
covers? low all = eqb (bit_or low all) all

-- each key of the chord is in the group; with no note before tick e there is no key
abbrev pub keys_fit? : Chord → Group → ℕ → Bool
keys_fit? c x e = cond (ltb c.start e) (covers? c.low x.low && covers? c.high x.high) (eqb c.low 0 && eqb c.high 0)

-- ---- the notes of a start

-- a group with one note more
pub record WithNote (x : Group) (key : ℕ) (ends : Bool) (r : Group) : Type 0 where
  pub ended : r.ended ≡ (x.ended || ends)
  pub low : (k : ℕ) → k < 64 → bit k r.low ≡ max (bit k x.low) (flag (eqb key k))
  pub high : (k : ℕ) → k < 64 → bit k r.high ≡ max (bit k x.high) (flag (eqb key (64 + k)))

-- note i is taken into the group and marked where the chord has its key
pub record Took (g n i : ℕ) (c : Chord) (x : Group) (w w' : List ℕ) (r : Group) : Type 0 where
  pub ended : r.ended ≡ (x.ended || eqb (snap_at g n w i).end c.end)
  pub low : (k : ℕ) → k < 64 → bit k r.low ≡ max (bit k x.low) (flag (eqb (snap_at g n w i).key k))
  pub high : (k : ℕ) → k < 64 → bit k r.high ≡ max (bit k x.high) (flag (eqb (snap_at g n w i).key (64 + k)))
  pub area : w' ≡ cond (has_key? (snap_at g n w i).key (keys_of c)) (set w (2 * n + i) 1) w

-- a note of start s and key k
abbrev pub is_note? : ℕ → ℕ → RawNote → Bool
is_note? s k n = eqb n.start s && eqb n.key k

-- the keys of the chord's start, and whether a note of it ends where the chord does
pub record Gathered (ns : List RawNote) (c : Played) (x : Group) : Type 0 where
  pub ended : x.ended ≡ ends_with_note? ns c
  pub low : (k : ℕ) → k < 64 → bit k x.low ≡ flag (any (is_note? c.start k) ns)
  pub high : (k : ℕ) → k < 64 → bit k x.high ≡ flag (any (is_note? c.start (64 + k)) ns)

pub record Scanned (g n m : ℕ) (c : Chord) (w w' : List ℕ) (x : Group) : Type 0 where
  pub group : Gathered (notes_at g n m w) (played_of c) x
  pub same : Same n w w'
  pub marks : (j : ℕ) → j < m → get_or w' (2 * n + j) 0 ≡ cond (hears? (snap_at g n w j) (played_of c)) 1 (get_or w (2 * n + j) 0)

-- ---- the whole

-- the place answered, whether all is right or not
abbrev pub place_of : Result ℕ ℕ → ℕ
place_of (Ok k) = k
place_of (Err k) = k

pub record Checks (g n m e : ℕ) (c : Chord) (next : ℕ) (w w' : List ℕ) (r : Result ℕ ℕ) : Type 0 where
  pub ok : is_ok r ≡ chord_ok? e (notes_at g n m w) (played_of c) next
  pub same : Same n w w'
  pub skipped : Skipped g n m w c.start (place_of r)
  pub marks : (cs : List Played) → Marks g n m w cs → Marks g n m w' (played_of c ∷ cs)
