-- What each stage of the collection asks and promises.
use Rattle.std.specs.Prelude.{ℕ, ◌+◌, ◌*◌, ◌≤◌, ◌<◌, ◌^◌, max, true, List, [], ◌∷◌, ◌++◌, map, ◌≡◌, length, get_or, take, drop}
use Rattle.rules.specs.Lists.{All, keep, sort_by, flag}
use Rattle.rules.specs.Piece.{Event, well_formed, is_on}
use Rattle.rules.specs.RawNotes.{NoteEvent, RawNote, raw_note, Pairing, note_events, pairing, by_channel, last_tick}
use Rattle.track_events.specs.Track.{Track, events_of}
use Rattle.pairing.specs.Queues.{Grid, Empty, Queues}
use Rattle.pairing.specs.Outcome.{after}
use Rattle.raw_notes.specs.Columns.{Listed}
use Rattle.raw_notes.specs.declared.Seen.{Seen}

-- ---- one note
abbrev pub note_of : ℕ → ℕ → ℕ → ℕ → RawNote
note_of start tick key channel = record { start = start; end = max tick (start + 1); key = key; channel = channel }

-- note m was put behind r notes, and what lies behind their columns is as it was
pub record NotePut (w w' : List ℕ) (n r : ℕ) (m : RawNote) : Type 0 where
  pub more : (ns : List RawNote) → Listed n r w ns → Listed n (r + 1) w' (ns ++ (m ∷ []))
  pub rest : drop (4 * n) w' ≡ drop (4 * n) w

-- a start before the largest tick of a track
abbrev pub Early : NoteEvent → Type 0
Early s = s.tick < 2 ^ 47

-- ---- pairing so far: x is what is paired, m starts came and r notes closed
pub record Pairs (h t : List (List ℕ)) (w : List ℕ) (n m r : ℕ) (x : Pairing) : Type 0 where
  pub queues : Queues h t w n m x.pending
  pub listed : Listed n r w x.closed
  pub held : length x.pending + r ≡ m
  pub early : All Early x.pending

-- what a turn asks of the state, the tick after the event and its word
pub record Turn (h t : List (List ℕ)) (w : List ℕ) (n m r tick word : ℕ) : Type 0 where
  pub x : Pairing
  pub pairs : Pairs h t w n m r x
  pub soon : tick < 2 ^ 47
  pub formed : well_formed word ≡ true
  pub room : is_on word ≡ true → m < n
  pub small : m + 1 < 2 ^ 32

-- and what it promises
pub record Turned (h t : List (List ℕ)) (w : List ℕ) (n : ℕ) (x : Pairing) (e : Event) (s s' : Seen) : Type 0 where
  pub pairs : Pairs h t w n s'.starts s'.notes (after x e)
  pub tick : s'.tick ≡ e.tick
  pub starts : s'.starts ≡ s.starts + flag (is_on e.word)

-- ---- a whole track
pub record Fresh (h t : List (List ℕ)) (w ds ws : List ℕ) (n : ℕ) : Type 0 where
  pub track : Track ds ws
  pub heads : Empty h
  pub tails : Grid t
  pub area : 16 * n ≤ length w
  pub ons : length (keep (λ (e : Event). is_on e.word) (events_of ds ws)) ≤ n

pub record PairedAll (h t : List (List ℕ)) (w : List ℕ) (es : List Event) (n : ℕ) (s : Seen) : Type 0 where
  pub pairs : Pairs h t w n s.starts s.notes (pairing (note_events es))
  pub tick : s.tick ≡ last_tick es
  pub soon : s.tick < 2 ^ 47

-- ---- the starts still pending are closed
pub record Open (h : List (List ℕ)) (w : List ℕ) (n m r last : ℕ) : Type 0 where
  pub tails : List (List ℕ)
  pub x : Pairing
  pub pairs : Pairs h tails w n m r x
  pub soon : last < 2 ^ 47

-- all notes, in order of closing, the unclosed last by channel
abbrev pub closing : Pairing → ℕ → List RawNote
closing x last = x.closed ++ map (λ (s : NoteEvent). raw_note s last) (sort_by by_channel x.pending)

pub record AllClosed (h : List (List ℕ)) (w : List ℕ) (n m last : ℕ) (x : Pairing) : Type 0 where
  pub listed : Listed n m w (closing x last)
  pub heads : Empty h

-- ---- the notes are put in order
pub record Gathered (w w' : List ℕ) (n r : ℕ) : Type 0 where
  pub ends : take r w' ≡ map (λ p. get_or w (3 * n + p) 0) (take r w)
  pub starts : take r (drop n w') ≡ map (λ p. get_or w (2 * n + p) 0) (take r w)
