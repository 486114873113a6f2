-- What one event is to the pairing, and what the step on it promises.
use Rattle.std.specs.Prelude.{ℕ, ◌+◌, ◌<◌, ◌^◌, true, cond, ◌||◌, ◌≡◌}
use mathlib.Core.List.{List, head?}
use Rattle.std.proofs.Math.Option.{Option, none, some}
use Rattle.rules.specs.Lists.{keep}
use Rattle.rules.specs.Piece.{Event, well_formed, is_on, is_off}
use Rattle.rules.specs.RawNotes.{NoteEvent, note_event, Pairing, same_key, pair_one}
use Rattle.pairing.specs.Queues.{Queues, Held}
use Rattle.pairing.specs.Steps.{FrontKept}
use Rattle.pairing.specs.declared.Paired.{Paired}
use Rattle.pairing.specs.declared.Paired.TheVariants.{Other, Started, Closed, Unmatched}

-- an off that finds nothing pending, or closes a start
abbrev pub off_finds : Option NoteEvent → Paired
off_finds none = Unmatched
off_finds (some s) = Closed (record { tick = s.tick; number = s.number })

abbrev pub outcome : Pairing → Event → Paired
outcome x e =
    cond (is_on e.word) Started (cond (is_off e.word) (off_finds (head? (keep (same_key (note_event e)) x.pending))) Other)

-- the pairing after an event, which need not be a note event
abbrev pub after : Pairing → Event → Pairing
after x e = cond (is_on e.word || is_off e.word) (pair_one x (note_event e)) x

-- how many starts came
abbrev pub starts_after : ℕ → Paired → ℕ
starts_after m Other = m
starts_after m Started = m + 1
starts_after m (Closed s) = m
starts_after m Unmatched = m

-- what a step asks: a well formed word, and room for one start more
pub record Ready (h t : List (List ℕ)) (w : List ℕ) (n m word : ℕ) : Type 0 where
  pub held : Held h t w n m
  pub formed : well_formed word ≡ true
  pub room : is_on word ≡ true → m < n
  pub small : m + 1 < 2 ^ 32

-- what it promises
pub record Stepped (x : Pairing) (e : Event) (n m : ℕ) (r : Paired) (h' t' : List (List ℕ)) (w w' : List ℕ) : Type 0 where
  pub is : r ≡ outcome x e
  pub queues : Queues h' t' w' n (starts_after m r) (after x e).pending
  pub front : FrontKept n w w'
