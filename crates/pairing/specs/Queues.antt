-- The queues of starts that wait for their offs, as they stand in the arrays and in the work area.
use Rattle.std.specs.Prelude.{ℕ, ◌+◌, ◌-◌, ◌*◌, ◌^◌, ◌≤◌, ◌<◌, Bool, true, ◌&&◌, List, [], ◌∷◌, ◌≡◌, eqb, length, get_or, set}
use Rattle.rules.specs.Lists.{keep, All}
use Rattle.rules.specs.RawNotes.{NoteEvent}

-- ---- sixteen rows of 128
pub record Grid (h : List (List ℕ)) : Type 0 where
  pub rows : length h ≡ 16
  pub row : (c : ℕ) → c < 16 → length (get_or h c []) ≡ 128

abbrev pub cell : List (List ℕ) → ℕ → ℕ → ℕ
cell h c k = get_or (get_or h c []) k 0

abbrev pub put : List (List ℕ) → ℕ → ℕ → ℕ → List (List ℕ)
put h c k v = set h c (set (get_or h c []) k v)

-- ---- starts
-- whether a start is of channel c and key k
abbrev pub at : ℕ → ℕ → NoteEvent → Bool
at c k s = eqb c s.channel && eqb k s.key

pub record Inside (s : NoteEvent) : Type 0 where
  pub channel : s.channel < 16
  pub key : s.key < 128

abbrev pub no_start : NoteEvent
no_start = record { number = 0; tick = 0; channel = 0; key = 0; on = true }

-- ---- the columns of the work area
abbrev pub node_link : List ℕ → ℕ → ℕ → ℕ
node_link w n i = get_or w (4 * n + i) 0

abbrev pub node_tick : List ℕ → ℕ → ℕ → ℕ
node_tick w n i = get_or w (5 * n + i) 0

abbrev pub node_number : List ℕ → ℕ → ℕ → ℕ
node_number w n i = get_or w (6 * n + i) 0

-- ---- one queue
-- h leads to the node h - 1 of the start s, above lo; t is the tail, where no start follows
pub record Node (ss : List NoteEvent) (t lo h : ℕ) (s : NoteEvent) (q : List NoteEvent) : Type 0 where
  pub above : lo < h
  pub below : h ≤ length ss
  pub start : get_or ss (h - 1) no_start ≡ s
  pub tail : q ≡ [] → t ≡ h

-- h leads, along the links, through the nodes of q to the tail t; ss are all the starts so far, and the nodes rise from lo
pub data Run (ss : List NoteEvent) (w : List ℕ) (n t : ℕ) : ℕ → ℕ → List NoteEvent → Type 0 where
  none : {lo h : ℕ} → h ≡ 0 → Run ss w n t lo h []
  one : {lo h : ℕ} {s : NoteEvent} {q : List NoteEvent} → Node ss t lo h s q → Run ss w n t h (node_link w n (h - 1)) q → Run ss w n t lo h (s ∷ q)

-- ---- all queues
-- m starts came, and ps are those that are pending: the queue of channel c and key k holds those of them that are of c and k, in order.
pub record Queues (h t : List (List ℕ)) (w : List ℕ) (n m : ℕ) (ps : List NoteEvent) : Type 0 where
  pub starts : List NoteEvent
  pub count : length starts ≡ m
  pub room : m ≤ n
  pub small : m < 2 ^ 32
  pub area : 16 * n ≤ length w
  pub ticks : (i : ℕ) → i < m → node_tick w n i ≡ (get_or starts i no_start).tick
  pub numbers : (i : ℕ) → i < m → node_number w n i ≡ (get_or starts i no_start).number
  pub queue : (c k : ℕ) → c < 16 → k < 128 → Run starts w n (cell t c k) 0 (cell h c k) (keep (at c k) ps)
  pub inside : All Inside ps
  pub heads : Grid h
  pub tails : Grid t

-- some starts are pending as the arrays say
pub record Held (h t : List (List ℕ)) (w : List ℕ) (n m : ℕ) : Type 0 where
  pub pending : List NoteEvent
  pub queues : Queues h t w n m pending

-- no start is pending
pub record Empty (h : List (List ℕ)) : Type 0 where
  pub grid : Grid h
  pub none : (c k : ℕ) → c < 16 → k < 128 → cell h c k ≡ 0
