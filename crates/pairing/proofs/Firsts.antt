-- The first queue that is not empty holds the first of the pending starts by channel, key, arrival.
use Prim.Native.Nat.{ℕ, ◌+◌, ◌*◌, ◌/◌, ◌%◌, ◌≤◌, ◌<◌}
use mathlib.Core.List.{List, [], ◌∷◌}
use mathlib.Core.Logic.{⊎_elim}
use mathlib.Core.Path.{◌≡◌}
use native.Mathlib.Omega.{arith}
use lib.ListN.{length}
use Rattle.rules.specs.Lists.{All}
use Rattle.rules.specs.RawNotes.{NoteEvent, without_oldest, by_channel}
use Rattle.laws.proofs.Order.{by_le}
use Rattle.laws.proofs.Lists.{All-imp, All-both}
use Rattle.pairing.specs.Queues.{cell, Inside, Queues}
use Rattle.pairing.specs.Steps.{Popped, queue_at, Somewhere, First, Waiting, Taken}
use Rattle.pairing.specs.declared.Start.{Start}
use Rattle.pairing.proofs.Pending.{all_without, first_sorted}
use Rattle.pairing.proofs.Chains.{pending_full}

-- the queue of a start
queue_of : (h : List (List ℕ)) (s : NoteEvent) → Inside s → queue_at h (by_channel s) ≡ cell h s.channel s.key
queue_of h s i =
    let a : (s.channel * 128 + s.key) / 128 ≡ s.channel = omega (arith, i.key) in
    let b : (s.channel * 128 + s.key) % 128 ≡ s.key = omega (arith, i.key) in
    rw (a, b)

pub somewhere : {h : List (List ℕ)} {w : List ℕ} {n from : ℕ} → Waiting h w n from → Somewhere h from
somewhere {h} {w} {n} {from} p = go p.pending p.some (pending_full p.queues) p.later
  where
    go : (ps : List NoteEvent) → 0 < length ps → All (λ (y : NoteEvent). Inside y × (0 < cell h y.channel y.key)) ps
        → All (λ (s : NoteEvent). from ≤ by_channel s) ps → Somewhere h from
    go [] l f a = absurd (omega arith)
    go (y ∷ ps) l f a =
        record { place = by_channel y; above = a.0; below = omega (arith, f.0.0.channel, f.0.0.key); full = rw (queue_of h y f.0.0) f.0.1 }

module _ {h h' t : List (List ℕ)} {w : List ℕ} {n m from q : ℕ} {ps : List NoteEvent} {r : Start} where
  pub taken : Queues h t w n m ps → All (λ (s : NoteEvent). from ≤ by_channel s) ps → First h from q
      → Popped h' t w n m (q / 128) (q % 128) ps r → Taken h' t w n m ps (record { queue = q; tick = r.tick; number = r.number })
  taken p a f x =
      let s = x.start in
      let number : by_channel s ≡ q = omega (arith, x.is.channel, x.is.key) in
      record {
        start = s;
        rest = without_oldest s ps;
        sorted = first_sorted s ps inside p.inside (rw (← number) at least) (rw (← x.is.channel, ← x.is.key) at x.first);
        is = x.is;
        queues = x.queues s x.is.channel x.is.key;
        later = all_without s (λ (y : NoteEvent). q ≤ by_channel y) ps least;
      }
    where
      inside : Inside x.start
      inside = record { channel = omega (arith, x.is.channel, f.below); key = omega (arith, x.is.key) }

      least : All (λ (y : NoteEvent). q ≤ by_channel y) ps
      least =
          All-imp
          (λ y b.
          ⊎_elim
          (λ l. l)
          (λ l. absurd (omega (arith, b.1.1, f.empty (by_channel y) b.0 l, queue_of h y b.1.0)))
          (by_le q (by_channel y)))
          ps
          (All-both (λ (y : NoteEvent). from ≤ by_channel y) (λ (y : NoteEvent). Inside y × (0 < cell h y.channel y.key)) ps a (pending_full p))

-- ---- the search for it: the queues from `from` up to q are empty
pub record Scanned (h : List (List ℕ)) (from q : ℕ) : Type 0 where
  pub above : from ≤ q
  pub empty : (i : ℕ) → from ≤ i → i < q → queue_at h i ≡ 0
