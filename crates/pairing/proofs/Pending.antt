-- Laws of the pending starts: those of one channel and key after one came or went, and the first by channel, key, arrival.
use Prim.Native.Nat.{ℕ, suc, ◌≤◌, ◌<◌}
use mathlib.Core.Bool.{Bool, true, false, false≢true}
use mathlib.Core.List.{List, [], ◌∷◌, ◌++◌, head?, append-nil, tail-eq_of_cons-eq, nil≢cons, cons≢nil}
use mathlib.Core.Logic.{⊎_elim}
use mathlib.Core.Option.{some}
use mathlib.Core.Path.{◌≡◌, refl, sym, ap, ◌∙◌}
use native.Mathlib.Omega.{arith}
use borrow.Author.Tests.{eqb-true, eq-eqb}
use lib.Dec.{eqb}
use lib.ListN.{length}
use Rattle.rules.specs.Lists.{keep, sort_by, All}
use Rattle.rules.specs.RawNotes.{NoteEvent, same_key, without_oldest, by_channel}
use Rattle.laws.proofs.Order.{by_bool, by_le}
use Rattle.laws.proofs.Lists.{keep_append}
use Rattle.laws.proofs.Sort.{All-sort, insert_least, insert_later}
use Rattle.pairing.specs.Queues.{at, Inside}

-- ---- the test of a channel and a key
pub at_true : (c k : ℕ) (s : NoteEvent) → at c k s ≡ true → (c ≡ s.channel) × (k ≡ s.key)
at_true c k s h =
    ⊎_elim
    (λ p. (eqb-true c s.channel p, eqb-true k s.key (rw p at h)))
    (λ p. absurd (false≢true (rw p at h)))
    (by_bool (eqb c s.channel))

pub at_is : (c k : ℕ) (s : NoteEvent) → c ≡ s.channel → k ≡ s.key → at c k s ≡ true
at_is c k s p q = rw (eq-eqb c s.channel p, eq-eqb k s.key q)

pub at_not : (c k : ℕ) (s : NoteEvent) → ((c ≡ s.channel) × (k ≡ s.key) → ⊥) → at c k s ≡ false
at_not c k s ne = ⊎_elim (λ t. absurd (ne (at_true c k s t))) (λ t. t) (by_bool (at c k s))

-- ---- one start more
pub keep_more : (f : NoteEvent → Bool) (ps : List NoteEvent) (s : NoteEvent) → f s ≡ true → keep f (ps ++ (s ∷ [])) ≡ keep f ps ++ (s ∷ [])
unfolding keep
keep_more f ps s h = keep_append f ps (s ∷ []) ∙ rw h

pub keep_same : (f : NoteEvent → Bool) (ps : List NoteEvent) (s : NoteEvent) → f s ≡ false → keep f (ps ++ (s ∷ [])) ≡ keep f ps
unfolding keep
keep_same f ps s h = keep_append f ps (s ∷ []) ∙ rw (h, append-nil)

-- ---- the oldest of a channel and key goes
module _ (o : NoteEvent) where
  pub without_here : (ps : List NoteEvent) {s : NoteEvent} {q : List NoteEvent} → keep (same_key o) ps ≡ s ∷ q → keep (same_key o) (without_oldest o ps) ≡ q
  unfolding keep without_oldest
  without_here [] h = absurd (nil≢cons h)
  without_here (p ∷ ps) {s} {q} h =
      ⊎_elim
      (λ t. rw t (tail-eq_of_cons-eq (rw t at h)))
      (λ t. rw t (rw t (without_here ps (rw t at h))))
      (by_bool (same_key o p))

  pub without_there : (g : NoteEvent → Bool) (ps : List NoteEvent) → ((s : NoteEvent) → same_key o s ≡ true → g s ≡ false)
      → keep g (without_oldest o ps) ≡ keep g ps
  unfolding keep without_oldest
  without_there g [] h = refl
  without_there g (p ∷ ps) h =
      ⊎_elim
      (λ t. rw t (rw (h p t)))
      (λ t. rw t (rw (without_there g ps h)))
      (by_bool (same_key o p))

  pub length_without : (s : NoteEvent) (ps : List NoteEvent) → head? (keep (same_key o) ps) ≡ some s → length ps ≡ suc (length (without_oldest o ps))
  unfolding keep without_oldest
  length_without s [] h = let z : ◌≡◌ {A = ℕ} 0 1 = cc in absurd (omega arith)
  length_without s (p ∷ ps) h = ⊎_elim (λ t. rw t) (λ t. rw t (ap suc (length_without s ps (rw t at h)))) (by_bool (same_key o p))

  pub all_without : (P : NoteEvent → Type 0) (ps : List NoteEvent) → All P ps → All P (without_oldest o ps)
  unfolding without_oldest
  all_without P [] a = tt
  all_without P (p ∷ ps) a =
      ⊎_elim
      (λ t. rw t a.1)
      (λ t. rw t (a.0, all_without P ps a.1))
      (by_bool (same_key o p))

-- ---- each start is one of its channel and key
pub own : (ps zs : List NoteEvent) → ((c k : ℕ) → keep (at c k) ps ≡ [] → keep (at c k) zs ≡ [])
    → All (λ (y : NoteEvent). keep (at y.channel y.key) ps ≡ [] → ⊥) zs
unfolding keep
own ps [] h = tt
own ps (z ∷ zs) h = (
  λ e. cons≢nil (rw (at_is z.channel z.key z refl refl) at (h z.channel z.key e)),
  own ps zs (λ c k e. ⊎_elim (λ t. absurd (cons≢nil (rw t at (h c k e)))) (λ t. rw t at (h c k e)) (by_bool (at c k z))),
)

-- ---- the oldest of the least channel and key is the first of the sorted ones
pub first_sorted : (s : NoteEvent) (ps : List NoteEvent) → Inside s → All Inside ps → All (λ (y : NoteEvent). by_channel s ≤ by_channel y) ps
    → head? (keep (same_key s) ps) ≡ some s → sort_by by_channel ps ≡ s ∷ sort_by by_channel (without_oldest s ps)
unfolding keep without_oldest sort_by
first_sorted s [] i is least h = let z : ◌≡◌ {A = ℕ} 0 1 = cc in absurd (omega arith)
first_sorted s (p ∷ ps) i is least h =
    ⊎_elim
    (λ t.
    let e : p ≡ s = here t (rw t at h) in
    rw (t, e) (insert_least by_channel s (sort_by by_channel ps) (All-sort by_channel (λ (y : NoteEvent). by_channel s ≤ by_channel y) ps least.1)))
    (λ t.
    rw (t, first_sorted s ps i is.1 least.1 (rw t at h))
    (insert_later by_channel p s (sort_by by_channel (without_oldest s ps)) (less t)))
    (by_bool (same_key s p))
  where
    here : same_key s p ≡ true → some p ≡ some s → p ≡ s
    here t h = cc

    -- another queue with a number not below is behind
    less : same_key s p ≡ false → by_channel s < by_channel p
    less t =
        ⊎_elim
        (λ l. absurd (false≢true (sym t ∙ at_is s.channel s.key p (omega arith) (omega arith))))
        (λ l. l)
        (by_le (by_channel p) (by_channel s))
