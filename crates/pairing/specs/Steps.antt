-- What a step does to the queues: a start is put behind its queue, taken from its front, or found as the first that waits.
use Rattle.std.specs.Prelude.{ℕ, ◌+◌, ◌*◌, ◌/◌, ◌%◌, ◌^◌, ◌≤◌, ◌<◌, ◌≡◌, length, take}
use mathlib.Core.List.{List, [], ◌∷◌, ◌++◌, head?}
use Rattle.std.proofs.Math.Option.{some}
use Rattle.rules.specs.Lists.{keep, sort_by, All}
use Rattle.rules.specs.RawNotes.{NoteEvent, without_oldest, by_channel}
use Rattle.pairing.specs.Queues.{cell, at, node_link, node_tick, node_number, Queues, Held}
use Rattle.pairing.specs.declared.Start.{Start}
use Rattle.pairing.specs.declared.Unclosed.{Unclosed}

-- ---- a start is put behind its queue
-- s is the start of channel c and key k at tick t, and its event's number is e
pub record IsStart (s : NoteEvent) (c k t e : ℕ) : Type 0 where
  pub channel : s.channel ≡ c
  pub key : s.key ≡ k
  pub tick : s.tick ≡ t
  pub number : s.number ≡ e

-- the columns before the pairing's are as they were
abbrev pub FrontKept : ℕ → List ℕ → List ℕ → Type 0
FrontKept n w w' = take (4 * n) w' ≡ take (4 * n) w

-- the first m nodes are as they were
pub record Same (w w' : List ℕ) (n m : ℕ) : Type 0 where
  pub kept : length w' ≡ length w
  pub links : (i : ℕ) → i < m → node_link w' n i ≡ node_link w n i
  pub ticks : (i : ℕ) → i < m → node_tick w' n i ≡ node_tick w n i
  pub numbers : (i : ℕ) → i < m → node_number w' n i ≡ node_number w n i

-- node m has no link, the tick t and the number e
pub record Noded (w : List ℕ) (n m t e : ℕ) : Type 0 where
  pub link : node_link w n m ≡ 0
  pub tick : node_tick w n m ≡ t
  pub number : node_number w n m ≡ e

pub record Wrote (w w' : List ℕ) (n m t e : ℕ) : Type 0 where
  pub node : Noded w' n m t e
  pub same : Same w w' n m
  pub front : FrontKept n w w'

-- there is room for a start of channel c and key k
pub record Pushable (h t : List (List ℕ)) (w : List ℕ) (n m c k : ℕ) : Type 0 where
  pub channel : c < 16
  pub key : k < 128
  pub room : m < n
  pub small : m + 1 < 2 ^ 32
  pub held : Held h t w n m

pub record Pushed (h' t' : List (List ℕ)) (w w' : List ℕ) (n m : ℕ) (ps : List NoteEvent) (s : NoteEvent) : Type 0 where
  pub queues : Queues h' t' w' n (m + 1) (ps ++ (s ∷ []))
  pub front : FrontKept n w w'

-- ---- a start is taken from the front of its queue
-- some start of channel c and key k is pending
pub record Queued (h : List (List ℕ)) (w : List ℕ) (n c k : ℕ) : Type 0 where
  pub tails : List (List ℕ)
  pub count : ℕ
  pub pending : List NoteEvent
  pub queues : Queues h tails w n count pending
  pub channel : c < 16
  pub key : k < 128
  pub full : 0 < cell h c k

pub record Popped (h' t : List (List ℕ)) (w : List ℕ) (n m c k : ℕ) (ps : List NoteEvent) (r : Start) : Type 0 where
  pub start : NoteEvent
  pub first : head? (keep (at c k) ps) ≡ some start
  pub is : IsStart start c k r.tick r.number
  pub queues : (o : NoteEvent) → o.channel ≡ c → o.key ≡ k → Queues h' t w n m (without_oldest o ps)

-- ---- the first queue that is not empty
abbrev pub queue_at : List (List ℕ) → ℕ → ℕ
queue_at h q = cell h (q / 128) (q % 128)

pub record Somewhere (h : List (List ℕ)) (from : ℕ) : Type 0 where
  pub place : ℕ
  pub above : from ≤ place
  pub below : place < 2048
  pub full : 0 < queue_at h place

pub record First (h : List (List ℕ)) (from r : ℕ) : Type 0 where
  pub above : from ≤ r
  pub below : r < 2048
  pub full : 0 < queue_at h r
  pub empty : (q : ℕ) → from ≤ q → q < r → queue_at h q ≡ 0

-- ---- the pending starts, by channel, key, arrival
-- some start is pending, and none of a queue before `from`
pub record Waiting (h : List (List ℕ)) (w : List ℕ) (n from : ℕ) : Type 0 where
  pub tails : List (List ℕ)
  pub count : ℕ
  pub pending : List NoteEvent
  pub queues : Queues h tails w n count pending
  pub some : 0 < length pending
  pub later : All (λ (s : NoteEvent). from ≤ by_channel s) pending

-- the first of the pending starts by channel, key, arrival was taken
pub record Taken (h' t : List (List ℕ)) (w : List ℕ) (n m : ℕ) (ps : List NoteEvent) (r : Unclosed) : Type 0 where
  pub start : NoteEvent
  pub rest : List NoteEvent
  pub sorted : sort_by by_channel ps ≡ start ∷ sort_by by_channel rest
  pub is : IsStart start (r.queue / 128) (r.queue % 128) r.tick r.number
  pub queues : Queues h' t w n m rest
  pub later : All (λ (s : NoteEvent). r.queue ≤ by_channel s) rest
