-- Groups 4 and 5: what each stage asks and promises.
use Rattle.std.specs.Prelude.{ℕ, ◌+◌, ◌*◌, ◌≤◌, ◌<◌, ◌^◌, true, List, ◌++◌, map, ◌≡◌, length}
use Rattle.rules.specs.Lists.{All, keep, sort_by, flag}
use Rattle.rules.specs.Piece.{Event, largest_size, well_formed, is_on}
use Rattle.rules.specs.RawNotes.{NoteEvent, Pairing, note_events, pairing, by_channel}
use Rattle.rules.specs.Diagnostics.{unmatched_off, unmatched_on}
use Rattle.track_events.specs.Track.{Track, events_of}
use Rattle.pairing.specs.Queues.{Grid, Empty, Queues}
use Rattle.pairing.specs.Outcome.{after}
use Rattle.findings.specs.Found.{Found}
use Rattle.unmatched.specs.declared.Seen.{Seen}

-- a start whose tick and number fit a diagnostic
pub record Fits (s : NoteEvent) : Type 0 where
  pub tick : s.tick < 2 ^ 47
  pub number : s.number < 2 ^ 32

-- x is what is paired: m starts came, and so many wait
pub record Pairs (h t : List (List ℕ)) (w : List ℕ) (n m waiting : ℕ) (x : Pairing) : Type 0 where
  pub queues : Queues h t w n m x.pending
  pub held : length x.pending ≡ waiting
  pub fits : All Fits x.pending

-- ---- one event
pub record Turn (h t : List (List ℕ)) (w : List ℕ) (n track : ℕ) (s : Seen) (tick number word : ℕ) : Type 0 where
  pub x : Pairing
  pub pairs : Pairs h t w n s.starts s.waiting x
  pub soon : tick < 2 ^ 47
  pub small : number < 2 ^ 32
  pub formed : well_formed word ≡ true
  pub room : is_on word ≡ true → s.starts < n
  pub few : s.starts + 1 < 2 ^ 32
  pub next : s.next + s.waiting < 2 ^ 32
  pub numbered : track ≤ largest_size

-- the offs that are new without on are put
pub record Turned (h t : List (List ℕ)) (w : List ℕ) (n track : ℕ) (x : Pairing) (e : Event)
    (places₀ details₀ : List ℕ) (s s' : Seen) (places₁ details₁ : List ℕ)
    : Type 0 where
  pub pairs : Pairs h t w n s'.starts s'.waiting (after x e)
  pub tick : s'.tick ≡ e.tick
  pub starts : s'.starts ≡ s.starts + flag (is_on e.word)
  pub few : s'.next + s'.waiting ≤ s.next + s.waiting + 1
  pub news : List NoteEvent
  pub unmatched : (after x e).unmatched ≡ x.unmatched ++ news
  pub found : Found (map (unmatched_off track) news) s.next places₀ details₀ s'.next places₁ details₁

-- ---- a track
pub record Fresh (h t : List (List ℕ)) (w ds ws : List ℕ) (n track at : ℕ) : Type 0 where
  pub events : Track ds ws
  pub heads : Empty h
  pub tails : Grid t
  pub area : 16 * n ≤ length w
  pub ons : length (keep (λ (e : Event). is_on e.word) (events_of ds ws)) ≤ n
  pub numbered : track ≤ largest_size
  pub room : at + length ds < 2 ^ 32

pub record PairedAll (h t : List (List ℕ)) (w ds ws : List ℕ) (n track at : ℕ) (places₀ details₀ : List ℕ) (s : Seen) (places₁ details₁ : List ℕ)
    : Type 0 where
  pub pairs : Pairs h t w n s.starts s.waiting (pairing (note_events (events_of ds ws)))
  pub few : s.next + s.waiting ≤ at + length ds
  pub found : Found (map (unmatched_off track) (pairing (note_events (events_of ds ws))).unmatched) at places₀ details₀ s.next places₁ details₁

-- ---- the starts still pending
pub record Waits (h : List (List ℕ)) (w : List ℕ) (n waiting track at : ℕ) : Type 0 where
  pub tails : List (List ℕ)
  pub count : ℕ
  pub x : Pairing
  pub pairs : Pairs h tails w n count waiting x
  pub numbered : track ≤ largest_size
  pub room : at + waiting < 2 ^ 32

pub record AllTaken (h : List (List ℕ)) (track : ℕ) (x : Pairing) (at : ℕ) (places₀ details₀ : List ℕ) (r : ℕ) (places₁ details₁ : List ℕ) : Type 0 where
  pub heads : Empty h
  pub found : Found (map (unmatched_on track) (sort_by by_channel x.pending)) at places₀ details₀ r places₁ details₁

-- no start is left for the next track
pub record Emptied (h t : List (List ℕ)) : Type 0 where
  pub heads : Empty h
  pub tails : Grid t
