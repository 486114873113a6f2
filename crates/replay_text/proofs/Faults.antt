-- A fault stays: behind a place that has one every place has it. So where none stands behind, none stood before.
use Prim.Native.Nat.{ℕ, zero, suc}
use mathlib.Core.Bool.{Bool, true}
use mathlib.Core.List.{List}
use mathlib.Core.Logic.{⊎_elim}
use mathlib.Core.Path.{◌≡◌, refl, sym}
use Rattle.std.specs.Prelude.{Option, Some, None}
use Rattle.std.specs.Option.{is_some}
use Rattle.std.proofs.lemmas.Option.{none-some}
use Rattle.laws.proofs.Order.{by_le}
use Rattle.replay_text.specs.Numbers.{number_at, bounded_at, row, list_at, long, large}
use Rattle.replay_text.specs.declared.Fault.{Fault}
use Rattle.replay_text.specs.declared.Cursor.{Cursor}
use Rattle.replay_text.specs.declared.Numbered.{Numbered}
use Rattle.replay_text.proofs.Laws.{held_small, held_large}

-- no fault, or one
pub by_fault : {P : Type 0} (o : Option Fault) → (o ≡ None → P) → ((why : Fault) → o ≡ Some why → P) → P
by_fault None none some = none refl
by_fault (Some why) none some = some why refl

-- where a fault would be none there is none
pub fault_kept : (o : Option Fault) → (is_some o ≡ true → o ≡ None) → o ≡ None
fault_kept None h = refl
fault_kept (Some why) h = h refl

module _ (text : List ℕ) where
  pub number_sound : (label : Bool) (p : Cursor) → (number_at label text p).next.fault ≡ None → p.fault ≡ None
  unfolding number_at
  number_sound label p h = fault_kept p.fault (λ e. rw e at h)

  pub bounded_sound : (label : Bool) (most : ℕ) (why : Fault) (p : Cursor) → (bounded_at label most why text p).next.fault ≡ None → p.fault ≡ None
  bounded_sound label most why p h =
      ⊎_elim
      (λ e. number_sound label p (rw (held_small most why (number_at label text p) e) at h))
      (λ e. absurd (none-some why (sym (rw (held_large most why (number_at label text p) e) at h))))
      (by_le (number_at label text p).value most)

  row_sound : (one : Cursor → Numbered) → ((p : Cursor) → (one p).next.fault ≡ None → p.fault ≡ None)
      → (n : ℕ) (p : Cursor) → (row one n p).next.fault ≡ None → p.fault ≡ None
  unfolding row
  row_sound one stays zero p h = h
  row_sound one stays (suc n) p h = stays p (row_sound one stays n (one p).next h)

  pub list_sound : (most room : ℕ) (p : Cursor) → (list_at most text room p).next.fault ≡ None → p.fault ≡ None
  unfolding list_at
  list_sound most room p h =
      bounded_sound _ room long p (row_sound _ (λ q. bounded_sound _ most large q) _ _ h)
