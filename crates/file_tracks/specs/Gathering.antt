-- What lent arrays hold of the tracks gathered so far, and how the program's chunks go together with the definition's.
use Rattle.std.specs.Prelude.{ℕ, ◌+◌, ◌-◌, ◌≤◌, cond, ◌≡◌, eqb, ltb, length, take, drop, set, None, Some}
use Rattle.std.specs.Prelude as std
use mathlib.Core.List.{List, [], ◌∷◌, map, flatten}
use Rattle.std.proofs.Math.Option.{Option, none, some}
use Rattle.rules.specs.Lists.{every, written}
use Rattle.rules.specs.Piece.{well_formed}
use Rattle.rules.specs.File.{and_then, Front, Timed, deltas_of, words_of, track_of, Chunk, MThd, MTrk}
use Rattle.file_tracks.specs.declared.Gathered.{Gathered}
use Rattle.file_tracks.specs.declared.Chunk as place
use Rattle.file_events.specs.Events.{found}

-- ---- lent arrays

-- a lent array after as much of xs was stored in it as it has room for
abbrev pub fitted : List ℕ → List ℕ → List ℕ
fitted xs l = written (take (length l) xs) l

-- an element stored where there is room
abbrev pub stored : List ℕ → ℕ → ℕ → List ℕ
stored l n v = cond (ltb n (length l)) (set l n v) l

-- ---- what was gathered

-- the events es: counted, their words judged, their deltas and words stored in arrays that held ds and ws and now hold ds₁ and ws₁
pub record EventsHeld (es : List Timed) (g : Gathered) (ds ws ds₁ ws₁ : List ℕ) : Type 0 where
  pub count : g.events ≡ length es
  pub good : eqb g.bad 0 ≡ every well_formed (words_of es)
  pub deltas : ds₁ ≡ fitted (deltas_of es) ds
  pub words : ws₁ ≡ fitted (words_of es) ws

-- the tracks ts: their events, and how many each has
pub record TracksHeld (ts : List (List Timed)) (g : Gathered) (ss ds ws ss₁ ds₁ ws₁ : List ℕ) : Type 0 where
  pub count : g.tracks ≡ length ts
  pub events : EventsHeld (flatten ts) g ds ws ds₁ ws₁
  pub sizes : ss₁ ≡ fitted (map length ts) ss

abbrev pub gathered_read : std.Option Gathered → Option Gathered
gathered_read = found

-- how far the counts go: at most n events and k tracks more
abbrev pub Grown : Gathered → ℕ → ℕ → std.Option Gathered → Type 0
Grown g n k None = Unit {0}
Grown g n k (Some h) = (g.events ≤ h.events) × (h.events ≤ g.events + n) × (h.tracks ≤ g.tracks + k)

-- ---- chunks

-- the chunk at a place of a file
pub record ChunkIs (bs : List ℕ) (at : ℕ) (c : Front Chunk) (h : place.Chunk) : Type 0 where
  pub kind : h.kind ≡ c.read.type
  pub body : c.read.body ≡ take (h.to - h.from) (drop h.from bs)
  pub rest : c.rest ≡ drop h.to bs
  pub ahead : at + 8 ≡ h.from
  pub from : h.from ≤ h.to
  pub within : h.to ≤ length bs

abbrev pub chunk_read : std.Option place.Chunk → Option place.Chunk
chunk_read = found

-- the tracks that a chunk adds, by its type and its bytes
abbrev pub chunk_tracks : ℕ → List ℕ → Option (List (List Timed))
chunk_tracks type body =
    cond (eqb type MThd) none
    (cond (eqb type MTrk) (and_then (track_of body) (λ (t : List Timed). some (t ∷ []))) (some []))
