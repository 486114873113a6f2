-- One number more of a list that is read to an array.
use Prim.Native.Nat.{ℕ, zero, suc, ◌+◌, ◌-◌, ◌≤◌, ◌<◌, zero-le}
use mathlib.Core.Bool.{true}
use mathlib.Core.List.{List, [], ◌∷◌}
use mathlib.Core.Logic.{⊎_elim}
use mathlib.Core.Path.{◌≡◌, refl, ap, sym, ◌∙◌}
use native.Mathlib.Nat.{sub-zero}
use native.Mathlib.Omega.{arith}
use borrow.Author.Tests.{le-leb, lt-leb}
use lib.ListN.{length, set}
use Rattle.std.specs.Prelude.{Option, Some}
use Rattle.rules.specs.Lists.{written}
use Rattle.laws.proofs.Filling.{Filling, filling_start, filling_more, filling_end}
use Rattle.laws.proofs.Order.{by_le}
use Rattle.replayed.specs.Differences.{difference, others}
use Rattle.replay_text.specs.Calls.{asked_at, most_room}
use Rattle.replay_text.specs.Checks.{wanted_at, sound, checked_at}
use Rattle.replay_text.specs.Numbers.{Numbers, ListRead, numbered, held_to, row, bounded_at, list_at, most_wide, most_narrow, large, long}
use Rattle.replay_text.specs.declared.Listed.{Listed}
use Rattle.replay_text.specs.declared.Fault.{Fault}
use Rattle.replay_text.specs.declared.Cursor.{Cursor}
use Rattle.replay_text.specs.declared.Numbered.{Numbered}

module _ (most : ℕ) (why : Fault) (n : Numbered) where
  pub held_small : n.value ≤ most → held_to most why n ≡ n
  unfolding held_to
  held_small h = rw (le-leb _ _ h)

  pub held_large : most < n.value → held_to most why n ≡ numbered 0 n.next.at (Some why)
  unfolding held_to
  held_large h = rw (lt-leb _ _ h)

  pub held_most : (held_to most why n).value ≤ most
  held_most =
      ⊎_elim
      (λ h. rw (held_small h) h)
      (λ h. rw (held_large h) zero-le)
      (by_le n.value most)

module _ (one : Cursor → Numbered) where
  pub row_length : (n : ℕ) (p : Cursor) → length (row one n p).all ≡ n
  unfolding row
  row_length zero p = refl
  row_length (suc n) p = ap suc (row_length n (one p).next)

  row_more : (n i : ℕ) (p : Cursor) → i < n
      → row one (n - i) p
      ≡ record { all = (one p).value ∷ (row one (n - (i + 1)) (one p).next).all; next = (row one (n - (i + 1)) (one p).next).next }
  unfolding row
  row_more n i p h = let left : n - i ≡ suc (n - (i + 1)) = omega arith in rw left

  row_none : (n i : ℕ) (p : Cursor) → n ≤ i → row one (n - i) p ≡ record { all = []; next = p }
  unfolding row
  row_none n i p h = let none : n - i ≡ 0 = omega arith in rw none

  -- of count numbers from p₀ on i stand in the array, which was out₀; those from p on are left
  pub record Reading (count : ℕ) (p₀ : Cursor) (out₀ out : List ℕ) (p : Cursor) (i : ℕ) : Type 0 where
    pub within : i ≤ count
    pub next : (row one (count - i) p).next ≡ (row one count p₀).next
    pub filling : Filling (row one count p₀).all (row one (count - i) p).all i out₀ out

  module _ (count : ℕ) (p₀ : Cursor) (out₀ : List ℕ) where
    pub reading_start : Reading count p₀ out₀ out₀ p₀ 0
    reading_start =
        record {
          within = zero-le;
          next = rw (sub-zero count);
          filling = rw (sub-zero count) (filling_start _ out₀);
        }

    pub reading_more : (out : List ℕ) (p : Cursor) (i : ℕ) (read : Numbered) → read ≡ one p → i < count → count ≤ length out₀
        → Reading count p₀ out₀ out p i
        → Reading count p₀ out₀ (set out i read.value) read.next (i + 1)
    reading_more out p i read e h fits r =
        rw e
        record {
          within = omega arith;
          next = sym (ap (λ (l : Numbers). l.next) (row_more count i p h)) ∙ r.next;
          filling = filling_more (one p).value (omega (arith, r.filling.kept)) (rw (row_more count i p h) at r.filling);
        }

    pub reading_end : (out : List ℕ) (p : Cursor) (i : ℕ) → count ≤ i → Reading count p₀ out₀ out p i
        → (p ≡ (row one count p₀).next) × (out ≡ written (row one count p₀).all out₀)
    reading_end out p i h r = (
      sym (ap (λ (l : Numbers). l.next) (row_none count i p h)) ∙ r.next,
      filling_end (rw (row_none count i p h) at r.filling),
    )

-- what an array must hold, from what it was filled with and the list that was read to its front
pub expected_is : (text w₀ w₁ w₂ : List ℕ) (p : Cursor) (r : Listed) → length w₁ ≡ length w₀ → w₁ ≡ others 0 (length w₀)
    → ListRead (list_at most_wide text (length w₁) p) w₁ r w₂
    → (r.next ≡ (list_at most_wide text (length w₀) p).next) × (w₂ ≡ wanted_at text (length w₀) p)
expected_is text w₀ w₁ w₂ p r kept full read =
    let on : ListRead (list_at most_wide text (length w₀) p) w₁ r w₂ = rw kept at read in
    (on.next, on.out ∙ rw full)

-- a list against an array, from what it must hold
pub checked_is : (text found w : List ℕ) (n : ℕ) (p next : Cursor) (e : Option ℕ)
    → n ≡ length found
    → next ≡ (list_at most_wide text n p).next
    → w ≡ wanted_at text n p
    → e ≡ sound next (difference 0 w found)
    → record { found = e; next = next } ≡ checked_at text found p
unfolding checked_at
checked_is text found w n p next e hn hnext hw he = rw (he, hw, hnext, hn)

-- the head of a call, number by number
pub asked_is : (text : List ℕ) (p : Cursor) (code part a b c d e work : Numbered)
    → code ≡ bounded_at true 99 long text p
    → part ≡ bounded_at true most_narrow large text code.next
    → a ≡ bounded_at true most_room long text part.next
    → b ≡ bounded_at true most_room long text a.next
    → c ≡ bounded_at true most_room long text b.next
    → d ≡ bounded_at true most_room long text c.next
    → e ≡ bounded_at true most_room long text d.next
    → work ≡ bounded_at true most_room long text e.next
    → record {
      code = code.value;
      part = part.value;
      a = a.value;
      b = b.value;
      c = c.value;
      d = d.value;
      e = e.value;
      work = work.value;
      next = work.next;
    } ≡ asked_at text p
unfolding asked_at
asked_is text p code part a b c d e work ecode epart ea eb ec ed ee ework = rw (ework, ee, ed, ec, eb, ea, epart, ecode)
