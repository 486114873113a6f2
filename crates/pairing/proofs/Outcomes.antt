-- What one event does to the pairing, case by case: for the step's own proof, and for those who call it.
use Prim.Native.Nat.{ℕ, ◌+◌, ◌≤◌}
use mathlib.Core.Bool.{Bool, true, false, cond, ◌||◌}
use mathlib.Core.List.{List, [], ◌∷◌, ◌++◌, head?, foldl, append-nil}
use mathlib.Core.Logic.{⊎_elim}
use mathlib.Core.Option.{Option, none, some}
use mathlib.Core.Path.{◌≡◌, refl, sym, ap, ◌∙◌, subst⁻¹}
use native.Mathlib.Omega.{arith}
use lib.ListN.{length, length-append}
use Rattle.rules.specs.Lists.{keep, flag, All}
use Rattle.rules.specs.Piece.{Event, byte_a, byte_b, is_on, is_off}
use Rattle.rules.specs.RawNotes.{NoteEvent, note_event, note_events, Pairing, same_key, take_off, take_on, pair_one}
use Rattle.laws.proofs.Lists.{All-append, keep_passes}
use Rattle.laws.proofs.Order.{by_bool}
use Rattle.pairing.specs.Queues.{Queues}
use Rattle.pairing.specs.Steps.{IsStart, Pushed, Popped}
use Rattle.pairing.specs.Outcome.{off_finds, outcome, after, starts_after, Stepped}
use Rattle.pairing.specs.declared.Start.{Start}
use Rattle.pairing.specs.declared.Paired.{Paired}
use Rattle.pairing.specs.declared.Paired.TheVariants.{Other, Started, Closed, Unmatched}
use Rattle.pairing.proofs.Pending.{at_true, all_without, length_without}

-- the first of a list has what all have
first_has : {A : Type 0} (P : A → Type 0) (xs : List A) (x : A) → head? xs ≡ some x → All P xs → P x
first_has P [] x h ps = let z : ◌≡◌ {A = ℕ} 0 1 = cc in absurd (omega arith)
first_has P (y ∷ xs) x h ps = let e : y ≡ x = cc in rw (← e) ps.0

-- ---- an event after others
pub pair_cons : (x : Pairing) (e : Event) (es : List Event) → foldl pair_one x (note_events (e ∷ es)) ≡ foldl pair_one (after x e) (note_events es)
unfolding keep
pair_cons x e es = ⊎_elim (λ t. rw t) (λ t. rw t) (by_bool (is_on e.word || is_off e.word))

-- ---- the pairing after an on, an off, and another event
module _ (x : Pairing) (e : Event) where
  abbrev found : Option NoteEvent
  found = head? (keep (same_key (note_event e)) x.pending)

  pub after_on : is_on e.word ≡ true → after x e ≡ take_on (note_event e) x
  unfolding pair_one
  after_on on =
      ap (λ (b : Bool). cond (b || is_off e.word) (pair_one x (note_event e)) x) on
      ∙ ap (λ (b : Bool). cond b (take_on (note_event e) x) (take_off (note_event e) x found)) on

  pub after_off : is_on e.word ≡ false → is_off e.word ≡ true → after x e ≡ take_off (note_event e) x found
  unfolding pair_one
  after_off on off =
      ap (λ (b : Bool). cond (is_on e.word || b) (pair_one x (note_event e)) x) off
      ∙ ap (λ (b : Bool). cond (b || true) (pair_one x (note_event e)) x) on
      ∙ ap (λ (b : Bool). cond b (take_on (note_event e) x) (take_off (note_event e) x found)) on

  pub after_other : is_on e.word ≡ false → is_off e.word ≡ false → after x e ≡ x
  after_other on off = ap (λ (b : Bool). cond (b || is_off e.word) (pair_one x (note_event e)) x) on ∙ ap (λ (b : Bool). cond b (pair_one x (note_event e)) x) off

  outcome_on : is_on e.word ≡ true → outcome x e ≡ Started
  outcome_on on = ap (λ (b : Bool). cond b Started (cond (is_off e.word) (off_finds found) Other)) on

  outcome_other : is_on e.word ≡ false → is_off e.word ≡ false → outcome x e ≡ Other
  outcome_other on off =
      ap (λ (b : Bool). cond b Started (cond (is_off e.word) (off_finds found) Other)) on ∙ ap (λ (b : Bool). cond b (off_finds found) Other) off

  outcome_off : is_on e.word ≡ false → is_off e.word ≡ true → outcome x e ≡ off_finds found
  outcome_off on off =
      ap (λ (b : Bool). cond b Started (cond (is_off e.word) (off_finds found) Other)) on
      ∙ ap (λ (b : Bool). cond b (off_finds found) Other) off

-- ---- the step
afterwards : {h t : List (List ℕ)} {w : List ℕ} {n m : ℕ} {ps qs : List NoteEvent} → qs ≡ ps → Queues h t w n m ps → Queues h t w n m qs
afterwards q p = rw q p

module _ {x : Pairing} {e : Event} {n m : ℕ} {h t : List (List ℕ)} {w : List ℕ} where
  pub stepped_on : {w₀ : List ℕ} → is_on e.word ≡ true → Pushed h t w₀ w n m x.pending (note_event e) → Stepped x e n m Started h t w₀ w
  stepped_on on p =
      record {
        is = sym (outcome_on x e on);
        queues = afterwards (ap (λ (y : Pairing). y.pending) (after_on x e on)) p.queues;
        front = p.front;
      }

  pub stepped_other : is_on e.word ≡ false → is_off e.word ≡ false → Queues h t w n m x.pending → Stepped x e n m Other h t w w
  stepped_other on off q =
      record {
        is = sym (outcome_other x e on off);
        queues = afterwards (ap (λ (y : Pairing). y.pending) (after_other x e on off)) q;
        front = refl;
      }

  pub stepped_unmatched : is_on e.word ≡ false → is_off e.word ≡ true → keep (same_key (note_event e)) x.pending ≡ []
      → Queues h t w n m x.pending → Stepped x e n m Unmatched h t w w
  stepped_unmatched on off z q =
      record {
        is = sym (outcome_off x e on off ∙ ap (λ (l : List NoteEvent). off_finds (head? l)) z);
        queues =
            afterwards (ap (λ (y : Pairing). y.pending) (after_off x e on off) ∙ ap (λ (l : List NoteEvent). (take_off (note_event e) x (head? l)).pending) z)
            q;
        front = refl;
      }

  pub stepped_closed : {r : Start} → is_on e.word ≡ false → is_off e.word ≡ true → Popped h t w n m (byte_a e.word) (byte_b e.word) x.pending r
      → Stepped x e n m (Closed r) h t w w
  stepped_closed {r} on off p =
      record {
        is = sym (outcome_off x e on off ∙ ap off_finds p.first ∙ rw (p.is.tick, p.is.number));
        queues =
            afterwards
            (ap (λ (y : Pairing). y.pending) (after_off x e on off) ∙ ap (λ (o : Option NoteEvent). (take_off (note_event e) x o).pending) p.first)
            (p.queues (note_event e) refl refl);
        front = refl;
      }

-- ---- what each case means
pub record ClosedBy (x : Pairing) (e : Event) (r : Start) : Type 0 where
  pub start : NoteEvent
  pub first : head? (keep (same_key (note_event e)) x.pending) ≡ some start
  pub is : IsStart start (byte_a e.word) (byte_b e.word) r.tick r.number
  pub after_is : after x e ≡ take_off (note_event e) x (some start)

abbrev pub Does : Pairing → Event → Paired → Type 0
Does x e Other = after x e ≡ x
Does x e Started = after x e ≡ take_on (note_event e) x
Does x e (Closed r) = ClosedBy x e r
Does x e Unmatched = after x e ≡ take_off (note_event e) x none

pub does : (x : Pairing) (e : Event) {r : Paired} → r ≡ outcome x e → Does x e r
does x e {r} q =
    ⊎_elim
    (λ on. rw (q ∙ outcome_on x e on) (after_on x e on))
    (λ on.
    ⊎_elim
    (λ off. rw (q ∙ outcome_off x e on off) (found_one (found x e) refl on off))
    (λ off. rw (q ∙ outcome_other x e on off) (after_other x e on off))
    (by_bool (is_off e.word)))
    (by_bool (is_on e.word))
  where
    found_one : (o : Option NoteEvent) → found x e ≡ o → is_on e.word ≡ false → is_off e.word ≡ true → Does x e (off_finds o)
    found_one none f on off = after_off x e on off ∙ ap (take_off (note_event e) x) f
    found_one (some s) f on off =
        let a = at_true (byte_a e.word) (byte_b e.word) s
        (first_has (λ (y : NoteEvent). same_key (note_event e) y ≡ true) (keep (same_key (note_event e)) x.pending) s f
        (keep_passes (same_key (note_event e)) x.pending)) in
        record {
          start = s;
          first = f;
          is = record { channel = sym a.0; key = sym a.1; tick = refl; number = refl };
          after_is = after_off x e on off ∙ ap (take_off (note_event e) x) f;
        }

-- a start counts
pub starts_flag : (m : ℕ) (x : Pairing) (e : Event) {r : Paired} → r ≡ outcome x e → starts_after m r ≡ m + flag (is_on e.word)
starts_flag m x e {r} q =
    ⊎_elim
    (λ on. rw (q ∙ outcome_on x e on) (sym (ap (λ (b : Bool). m + flag b) on)))
    (λ on.
    ⊎_elim
    (λ off. rw (q ∙ outcome_off x e on off) (found_none (found x e) ∙ sym (ap (λ (b : Bool). m + flag b) on)))
    (λ off. rw (q ∙ outcome_other x e on off) (found_none none ∙ sym (ap (λ (b : Bool). m + flag b) on)))
    (by_bool (is_off e.word)))
    (by_bool (is_on e.word))
  where
    found_none : (o : Option NoteEvent) → starts_after m (off_finds o) ≡ m + 0
    found_none none = omega arith
    found_none (some s) = omega arith

-- ---- what an event leaves
-- the starts that it closes, and the offs that find nothing
abbrev pub closes : Paired → ℕ
closes Other = 0
closes Started = 0
closes (Closed r) = 1
closes Unmatched = 0

abbrev pub missed : Event → Paired → List NoteEvent
missed e Other = []
missed e Started = []
missed e (Closed r) = []
missed e Unmatched = note_event e ∷ []

pub record Left (x : Pairing) (e : Event) (r : Paired) : Type 1 where
  pub pending : length (after x e).pending + closes r ≡ length x.pending + flag (is_on e.word)
  pub closed : closes r ≡ 0 → (after x e).closed ≡ x.closed
  pub unmatched : (after x e).unmatched ≡ x.unmatched ++ missed e r
  pub few : length (missed e r) + flag (is_on e.word) ≤ 1
  pub all : (P : NoteEvent → Type 0) → P (note_event e) → All P x.pending → All P (after x e).pending

pub leaves : (x : Pairing) (e : Event) (r : Paired) → r ≡ outcome x e → Left x e r
leaves x e r q = go r (does x e q) (starts_flag 0 x e q)
  where
    same : {y : Pairing} → after x e ≡ y → length y.pending ≡ length (after x e).pending
    same d = ap (λ (z : Pairing). length z.pending) (sym d)

    go : (r : Paired) → Does x e r → starts_after 0 r ≡ 0 + flag (is_on e.word) → Left x e r
    go Other d f =
        record {
          pending = omega (arith, same d, f);
          closed = λ z. ap (λ (y : Pairing). y.closed) d;
          unmatched = ap (λ (y : Pairing). y.unmatched) d ∙ sym (append-nil x.unmatched);
          few = omega (arith, f);
          all = λ P p a. subst⁻¹ (λ (y : Pairing). All P y.pending) d a;
        }
    go Started d f =
        record {
          pending = omega (arith, same d, length-append x.pending (note_event e ∷ []), f);
          closed = λ z. ap (λ (y : Pairing). y.closed) d;
          unmatched = ap (λ (y : Pairing). y.unmatched) d ∙ sym (append-nil x.unmatched);
          few = omega (arith, f);
          all = λ P p a. subst⁻¹ (λ (y : Pairing). All P y.pending) d (All-append P x.pending (note_event e ∷ []) a (p, tt));
        }
    go (Closed r) d f =
        record {
          pending = omega (arith, same d.after_is, length_without (note_event e) d.start x.pending d.first, f);
          closed = λ z. absurd (omega arith);
          unmatched = ap (λ (y : Pairing). y.unmatched) d.after_is ∙ sym (append-nil x.unmatched);
          few = omega (arith, f);
          all = λ P p a. subst⁻¹ (λ (y : Pairing). All P y.pending) d.after_is (all_without (note_event e) P x.pending a);
        }
    go Unmatched d f =
        record {
          pending = omega (arith, same d, f);
          closed = λ z. ap (λ (y : Pairing). y.closed) d;
          unmatched = ap (λ (y : Pairing). y.unmatched) d;
          few = omega (arith, f);
          all = λ P p a. subst⁻¹ (λ (y : Pairing). All P y.pending) d a;
        }
