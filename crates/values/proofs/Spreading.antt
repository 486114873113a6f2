-- A span's pieces on their way into an array: those written, and those that the entries from i on will give for the ticks left.
use Prim.Native.Nat.{ℕ, ◌+◌, ◌-◌, ◌*◌, ◌/◌, ◌%◌, ◌<◌, ◌≤◌}
use mathlib.Core.Bool.{true, false, ◌&&◌}
use mathlib.Core.List.{List, [], ◌∷◌, ◌++◌, map}
use mathlib.Core.Path.{◌≡◌, refl, sym, ap, ◌∙◌}
use native.Mathlib.Omega.{arith}
use lib.Dec.{ltb, leb}
use lib.ListN.{length, get_or, set, take, length-append, length-map}
use lib.Seq.{length-take-le}
use Rattle.rules.specs.Values.{Split, split_span}
use Rattle.laws.proofs.Filling.{Filling, filling_count, filling_more, filling_end}
use Rattle.values.specs.Table.{table_of, entry, piece_word, Skips, Room, Spanned}
use Rattle.values.proofs.Entries.{coming, nothing, coming_fits, coming_over, whole_split, skipped}

-- the words still to come, and all that the array starts with in the end
abbrev words_from : List ℕ → ℕ → ℕ → ℕ → List ℕ
words_from table bits i t = map (piece_word bits) (coming table i t).pieces

abbrev front : List ℕ → ℕ → ℕ → ℕ → List ℕ → List ℕ
front table t from bits out₀ = take from out₀ ++ words_from table bits 0 t

pub record Spreading (table : List ℕ) (t from bits : ℕ) (out₀ out : List ℕ) (left at i : ℕ) : Type 0 where
  pub start : from ≤ length out₀
  pub room : length (front table t from bits out₀) ≤ length out₀
  pub filling : Filling (front table t from bits out₀) (words_from table bits i left) at out₀ out
  pub leaves : (d : ℕ) → 0 < d → table ≡ table_of d → (coming table i left).left ≡ (split_span d t).left

front_length : (table : List ℕ) (t from bits : ℕ) (out₀ : List ℕ) → from ≤ length out₀
    → length (front table t from bits out₀) ≡ from + length (coming table 0 t).pieces
front_length table t from bits out₀ h = rw (length-append, length-take-le from out₀ h, length-map)

pub spreading_start : {table : List ℕ} {t from bits r : ℕ} {out₀ : List ℕ} → Skips table t r → Room table t from (length out₀)
    → Spreading table t from bits out₀ out₀ t from r
spreading_start {table} {t} {from} {bits} {r} {out₀} s q =
    let count : length (coming table 0 t).pieces ≡ length (split_span q.p t).pieces
    = ap (λ (u : Split). length u.pieces) (whole_split q.p t q.is q.some_ticks) in
    let start : from ≤ length out₀ = omega (arith, q.room) in
    record {
      start = start;
      room = omega (arith, front_length table t from bits out₀ start, q.room);
      filling = record { within = start; kept = refl; parts = rw (skipped q.p t q.is s); rest = refl };
      leaves = λ d h e. ap (λ (u : Split). u.left) (skipped d t e s ∙ whole_split d t e h);
    }

module _ {table : List ℕ} {t from bits : ℕ} {out₀ out : List ℕ} {left at i : ℕ} (p : Spreading table t from bits out₀ out left at i) where
  -- entry i fits
  module _ (inside : i < 18) (yes : (ltb 0 (get_or table i 0) && leb (get_or table i 0) left) ≡ true) where
    next : Filling (front table t from bits out₀) (piece_word bits (entry table i) ∷ words_from table bits i (left - get_or table i 0)) at out₀ out
    next = rw (coming_fits table i left inside yes).2 at p.filling

    pub spreading_fits : (0 < get_or table i 0) × (get_or table i 0 ≤ left)
    spreading_fits = let h = coming_fits table i left inside yes in (h.0, h.1)

    pub spreading_room : at < length out
    spreading_room = omega (arith, filling_count next, p.room, p.filling.kept)

    pub spreading_more : Spreading table t from bits out₀ (set out at (i / 2 + (1 - i % 2) * 16 + bits)) (left - get_or table i 0) (at + 1) i
    spreading_more =
        record {
          start = p.start;
          room = p.room;
          filling = filling_more (piece_word bits (entry table i)) spreading_room next;
          leaves = λ d h e. sym (ap (λ (u : Split). u.left) (coming_fits table i left inside yes).2) ∙ p.leaves d h e;
        }

  pub spreading_over : i < 18 → (ltb 0 (get_or table i 0) && leb (get_or table i 0) left) ≡ false → Spreading table t from bits out₀ out left at (i + 1)
  spreading_over inside no_fit =
      record {
        start = p.start;
        room = p.room;
        filling = rw (coming_over table i left inside no_fit) at p.filling;
        leaves = λ d h e. rw (← coming_over table i left inside no_fit) (p.leaves d h e);
      }

  -- the ticks left give no piece
  pub spreading_end : coming table i left ≡ nothing left → (d : ℕ) → 0 < d → table ≡ table_of d
      → Spanned d t from bits out₀ out (record { at = at; left = left })
  spreading_end none d h e =
      let last : Filling (front table t from bits out₀) [] at out₀ out = rw none at p.filling in
      let count : at ≡ length (front table t from bits out₀) = omega (arith, filling_count last) in
      record {
        next = count ∙ front_length table t from bits out₀ p.start ∙ rw (whole_split d t e h);
        is = rw (count, ← whole_split d t e h) (filling_end last);
        left = sym (ap (λ (u : Split). u.left) none) ∙ p.leaves d h e;
      }
