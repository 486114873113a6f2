-- Turns of a run: a loop's invariant, one call more, one piece more.
use Prim.Native.Nat.{ℕ, zero, suc, ◌+◌, ◌-◌, ◌≤◌, ◌<◌, zero-le}
use mathlib.Core.Bool.{Bool, true, false, cond}
use Rattle.std.specs.Prelude.{Option, Some, None}
use Rattle.std.specs.Option.{is_some}
use mathlib.Core.List.{List, ◌++◌}
use mathlib.Core.Path.{◌≡◌, refl, ap, sym, ◌∙◌}
use native.Mathlib.Nat.{sub-zero}
use native.Mathlib.Omega.{arith}
use borrow.Author.Tests.{eq-eqb, ne_eqb}
use lib.ListN.{length, take, drop, replicate, length-replicate}
use lib.Seq.{take-append_seam, take_at}
use Rattle.rules.specs.Piece.{Piece, piece}
use Rattle.replay_text.specs.Numbers.{Numbers, ListRead, number_at, bounded_at, list_at, most_narrow, most_byte, long}
use Rattle.replay_text.specs.declared.Cursor.{Cursor}
use Rattle.replay_text.specs.declared.Listed.{Listed}
use Rattle.replay_text.specs.declared.Numbered.{Numbered}
use Rattle.replay_one.specs.Comparing.{called_at, wrong_of}
use Rattle.replaying.specs.Running.{iterate, more, most_sizes, most_events, most_bytes, events_at, other_than}
use Rattle.replaying.specs.Running.{piece_at, Front, Gave, call_turn, calls_at, piece_turn}
use Rattle.replay_one.specs.declared.Compared.{Compared}
use Rattle.replaying.specs.declared.Given.{Given}
use Rattle.replaying.specs.declared.Run.{Run}

-- ---- loops

-- what a test tells of an option
pub none_is : {A : Type 0} (o : Option A) → is_some o ≡ false → o ≡ None
none_is None h = refl
none_is (Some x) h = let z : ◌≡◌ {A = ℕ} 1 0 = ap (λ (b : Bool). cond b 1 0) h in absurd (omega arith)

module _ {S : Type 0} (f : S → S) where
  -- a state that a turn does not change
  still : (n : ℕ) (s : S) → f s ≡ s → iterate n f s ≡ s
  unfolding iterate
  still zero s e = refl
  still (suc n) s e = ap (iterate n f) e ∙ still n s e

  module _ (count : ℕ) (s₀ : S) where
    -- after i of count turns the state is s: those that are left give what all of them give
    pub record Turning (s : S) (i : ℕ) : Type 0 where
      pub within : i ≤ count
      pub same : iterate (count - i) f s ≡ iterate count f s₀

    pub turning_start : Turning s₀ 0
    turning_start = record { within = zero-le; same = rw (sub-zero count) }

    module _ (s : S) (i : ℕ) (so_far : Turning s i) where
      pub turning_more : (t : S) → t ≡ f s → i < count → Turning t (i + 1)
      unfolding iterate
      turning_more t e h =
          let left : count - i ≡ suc (count - (i + 1)) = omega arith in
          record { within = omega arith; same = rw e (rw left at so_far.same) }

      pub turning_end : count ≤ i → s ≡ iterate count f s₀
      unfolding iterate
      turning_end h = let none : count - i ≡ 0 = omega arith in rw none at so_far.same

      pub turning_still : f s ≡ s → s ≡ iterate count f s₀
      turning_still e = sym (still (count - i) s e) ∙ so_far.same

-- ---- one call more

module _ (text : List ℕ) (x : Piece) (bytes : List ℕ) (s : Run) where
  pub call_turn_lem : (r : Compared) (k calls wrong : ℕ) → s.next.fault ≡ None
      → r ≡ called_at text x bytes s.next → calls ≡ more s.calls 1 → k ≡ wrong_of r → wrong ≡ more s.wrong k
      → record { next = r.next; pieces = s.pieces; calls = calls; wrong = wrong } ≡ call_turn text x bytes s
  unfolding call_turn
  call_turn_lem r k calls wrong h er ec ek ew = rw (ap is_some h, ew, ek, ec, er)

  pub call_still : is_some s.next.fault ≡ true → call_turn text x bytes s ≡ s
  unfolding call_turn
  call_still h = rw h

-- ---- a piece

pub front_read : (n : Numbers) (l₀ l₁ : List ℕ) (r : Listed) → length l₁ ≡ length l₀ → ListRead n l₀ r l₁ → Front n r l₁
front_read n l₀ l₁ r kept read =
    record {
      fits = omega (arith, kept, read.count, read.fits);
      next = read.next;
      front = rw (read.count, read.out) (take-append_seam n.all (drop (length n.all) l₀));
    }

module _ (text : List ℕ) (zeros : ℕ) (p : Cursor) (l₀ l₁ : List ℕ) (r : Listed) (room : length l₀ ≡ most_events) (kept : length l₁ ≡ length l₀)
    (read : ListRead (list_at most_narrow text (length l₀) p) l₀ r l₁) where
  here : Front (list_at most_narrow text most_events p) r l₁
  here = rw room at (front_read _ l₀ l₁ r kept read)

  pub events_read : zeros ≡ 0 → Front (events_at text zeros p) r l₁
  unfolding events_at
  events_read h = record { fits = here.fits; next = here.next; front = rw (eq-eqb _ _ h) here.front }

  pub events_zeros : (l₂ : List ℕ) → (zeros ≡ 0 → ⊥) → zeros ≤ most_events → length l₂ ≡ length l₁ → l₂ ≡ replicate zeros 0 ++ drop zeros l₁
      → Front (events_at text zeros p) (record { count = zeros; next = r.next }) l₂
  unfolding events_at
  events_zeros l₂ h few kept' e =
      record {
        fits = omega (arith, kept, kept', room);
        next = here.next;
        front = rw (ne_eqb _ _ h, e) (take_at (replicate zeros 0) (drop zeros l₁) zeros (length-replicate zeros 0));
      }

pub gave_is : (text : List ℕ) (due : ℕ) (p : Cursor) (number zeros : Numbered) (other : ℕ) (s d w b : Listed)
    (sizes deltas words bytes : List ℕ)
    → number ≡ number_at true text p
    → other ≡ other_than due number
    → zeros ≡ bounded_at true most_events long text number.next
    → Front (list_at most_narrow text most_sizes zeros.next) s sizes
    → Front (events_at text zeros.value s.next) d deltas
    → Front (events_at text zeros.value d.next) w words
    → Front (list_at most_byte text most_bytes w.next) b bytes
    → Gave (piece_at text due p)
    (record { other = other; sizes = s.count; deltas = d.count; words = w.count; bytes = b.count; next = b.next }) sizes deltas words bytes
unfolding piece_at
gave_is text due p number zeros other s d w b sizes deltas words bytes en eo ez hs hd hw hb =
    record {
      other = rw (eo, en);
      next = hb.next ∙ rw (hw.next, hd.next, hs.next, ez, en);
      fits = (hs.fits, hd.fits, hw.fits, hb.fits);
      given = rw (hs.front, hd.front, hw.front, hd.next, hs.next, ez, en);
      file = hb.front ∙ rw (hw.next, hd.next, hs.next, ez, en);
    }

-- ---- one piece more

module _ (text : List ℕ) (s : Run) where
  pub piece_turn_lem : (g : Given) (sizes deltas words bytes : List ℕ) (pieces wrong : ℕ) (r : Run) → s.next.fault ≡ None
      → Gave (piece_at text s.pieces s.next) g sizes deltas words bytes
      → pieces ≡ more s.pieces 1 → wrong ≡ more s.wrong g.other
      → r ≡ calls_at text (piece (take g.sizes sizes) (take g.deltas deltas) (take g.words words)) (take g.bytes bytes)
      (record { next = g.next; pieces = pieces; calls = s.calls; wrong = wrong })
      → r ≡ piece_turn text s
  unfolding piece_turn
  piece_turn_lem g sizes deltas words bytes pieces wrong r h gave ep ew er =
      er ∙ rw (ap is_some h, ew, ep, gave.given, gave.file, gave.next, gave.other)

  pub piece_still : is_some s.next.fault ≡ true → piece_turn text s ≡ s
  unfolding piece_turn
  piece_still h = rw h
