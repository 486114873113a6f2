-- The pending starts, taken one after another by channel, key, arrival: those taken, then those left in that order, are all.
use Prim.Native.Nat.{ℕ, suc, ◌≤◌, ◌<◌}
use mathlib.Core.List.{List, [], ◌∷◌, ◌++◌, append-nil}
use mathlib.Core.Path.{◌≡◌, refl, sym, ap, ◌∙◌}
use native.Mathlib.Omega.{arith}
use lib.ListN.{length}
use lib.Seq.{append_snoc}
use Rattle.rules.specs.Lists.{sort_by, All}
use Rattle.rules.specs.RawNotes.{NoteEvent, by_channel}
use Rattle.laws.proofs.Sort.{length_sort, All-sort, All-unsort}
use Rattle.pairing.specs.Queues.{Queues, Inside, Empty}
use Rattle.pairing.specs.Steps.{Same, Waiting, Taken}
use Rattle.pairing.specs.declared.Unclosed.{Unclosed}
use Rattle.pairing.proofs.Chains.{queues_kept, queues_end}

-- ps were pending, `done` are taken, so many are left, of the queues from `from` on, and each of these has P
pub record Taking (P : NoteEvent → Type 0) (h t : List (List ℕ)) (w : List ℕ) (n m from : ℕ) (ps done : List NoteEvent) (left : ℕ) : Type 0 where
  pub waiting : List NoteEvent
  pub queues : Queues h t w n m waiting
  pub held : length waiting ≡ left
  pub fits : All P waiting
  pub later : All (λ (s : NoteEvent). from ≤ by_channel s) waiting
  pub all : done ++ sort_by by_channel waiting ≡ sort_by by_channel ps

from_none : (ps : List NoteEvent) → All (λ (s : NoteEvent). 0 ≤ by_channel s) ps
from_none [] = tt
from_none (s ∷ ps) = (omega arith, from_none ps)

pub taking_start : {P : NoteEvent → Type 0} {h t : List (List ℕ)} {w : List ℕ} {n m : ℕ} {ps : List NoteEvent} {left : ℕ} → Queues h t w n m ps
    → length ps ≡ left → All P ps → Taking P h t w n m 0 ps [] left
taking_start {ps = ps} q held fits = record { waiting = ps; queues = q; held = held; fits = fits; later = from_none ps; all = refl }

-- the work area changed before the pairing's columns
pub taking_kept : {P : NoteEvent → Type 0} {h t : List (List ℕ)} {w w' : List ℕ} {n m from : ℕ} {ps done : List NoteEvent} {left : ℕ}
    → Same w w' n m → Taking P h t w n m from ps done left → Taking P h t w' n m from ps done left
taking_kept same v =
    record { waiting = v.waiting; queues = queues_kept same v.queues; held = v.held; fits = v.fits; later = v.later; all = v.all }

module _ {P : NoteEvent → Type 0} {h t : List (List ℕ)} {w : List ℕ} {n m from : ℕ} {ps done : List NoteEvent} {left : ℕ}
    (v : Taking P h t w n m from ps done left) where
  pub taking_waits : 0 < left → Waiting h w n from
  taking_waits some =
      record { tails = t; count = m; pending = v.waiting; queues = v.queues; some = omega (arith, v.held); later = v.later }

  module _ {h' : List (List ℕ)} {u : Unclosed} (q : Taken h' t w n m v.waiting u) where
    -- what all starts left have, the one that is taken has, and those behind it
    sorted_have : (Q : NoteEvent → Type 0) → All Q v.waiting → Q q.start × All Q (sort_by by_channel q.rest)
    sorted_have Q a = rw q.sorted at (All-sort by_channel Q v.waiting a)

    counts : left ≡ suc (length q.rest)
    counts =
        sym v.held ∙ sym (length_sort by_channel v.waiting) ∙ ap length q.sorted ∙ ap suc (length_sort by_channel q.rest)

    pub taken_fits : P q.start
    taken_fits = (sorted_have P v.fits).0

    pub taken_inside : Inside q.start
    taken_inside = (sorted_have Inside v.queues.inside).0

    pub taken_some : 0 < left
    taken_some = omega (arith, counts)

    pub taking_more : {k : ℕ} → left ≡ suc k → Taking P h' t w n m u.queue ps (done ++ (q.start ∷ [])) k
    taking_more e =
        record {
          waiting = q.rest;
          queues = q.queues;
          held = omega (arith, counts, e);
          fits = All-unsort by_channel P q.rest (sorted_have P v.fits).1;
          later = q.later;
          all = append_snoc done q.start (sort_by by_channel q.rest) ∙ ap (◌++◌ done) (sym q.sorted) ∙ v.all;
        }

  -- none is left
  pub taking_end : left ≤ 0 → (done ≡ sort_by by_channel ps) × Empty h
  unfolding sort_by
  taking_end z = go v.waiting refl (omega (arith, v.held))
    where
      go : (l : List NoteEvent) → v.waiting ≡ l → length l ≡ 0 → (done ≡ sort_by by_channel ps) × Empty h
      go [] e z = (
        sym (append-nil done) ∙ ap (λ (l : List NoteEvent). done ++ sort_by by_channel l) (sym e) ∙ v.all,
        queues_end (rw e at v.queues),
      )
      go (y ∷ l) e z = absurd (omega arith)
