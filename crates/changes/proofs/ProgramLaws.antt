-- A part's head is its words' first program change: deltas play no part in it.
use Prim.Native.Nat.{ℕ, suc, ◌+◌, ◌≤◌, ◌<◌}
use mathlib.Core.Bool.{true, false, cond}
use mathlib.Core.List.{List, [], ◌∷◌}
use mathlib.Core.Logic.{inl, inr}
use mathlib.Core.Path.{◌≡◌, refl, sym, ap, ◌∙◌}
use native.Mathlib.Numerals.{add-one}
use native.Mathlib.Omega.{arith}
use lib.ListN.{length, get_or, drop, drop_of_length-le}
use lib.Seq.{drop-cons}
use Rattle.rules.specs.Lists.{keep}
use Rattle.rules.specs.Piece.{timed, is_kind, byte_a, byte_b}
use Rattle.rules.specs.Changes as rules
use Rattle.rules.specs.Changes.{part_head}
use Rattle.laws.proofs.Order.{by_bool}
use Rattle.changes.specs.declared.PartHead.{PartHead}
use Rattle.changes.specs.Heads.{PartHeadIs}

-- the first program change of words
unfoldable pub program_in : List ℕ → rules.PartHead
program_in [] = record { channel = 0; program = 0 }
program_in (w ∷ ws) = cond (is_kind 12 w) (record { channel = byte_a w; program = byte_b w }) (program_in ws)

program_timed : (n t : ℕ) (ds ws : List ℕ) → length ds ≡ length ws → part_head (timed n t ds ws) ≡ program_in ws
unfolding program_in timed keep
program_timed n t [] [] h = refl
program_timed n t [] (w ∷ ws) h = absurd (omega arith)
program_timed n t (d ∷ ds) [] h = absurd (omega arith)
program_timed n t (d ∷ ds) (w ∷ ws) h =
    elim (by_bool (is_kind 12 w)) [ inl k ↦ rw k | inr k ↦ rw k (program_timed (suc n) (t + d) ds ws (omega arith)) ]

pub program_is : (ws : List ℕ) (r : PartHead) → r.channel ≡ (program_in ws).channel → r.program ≡ (program_in ws).program → PartHeadIs ws r
program_is ws r c p =
    record {
      channel = λ ds h. c ∙ sym (ap (λ (x : rules.PartHead). x.channel) (program_timed 0 0 ds ws h));
      program = λ ds h. p ∙ sym (ap (λ (x : rules.PartHead). x.program) (program_timed 0 0 ds ws h));
    }

module _ (ws : List ℕ) (i : ℕ) where
  pub program_here : i < length ws → is_kind 12 (get_or ws i 0) ≡ true
      → program_in (drop i ws) ≡ record { channel = byte_a (get_or ws i 0); program = byte_b (get_or ws i 0) }
  unfolding program_in
  program_here h k = rw (drop-cons ws i 0 h) (rw k)

  pub program_on : i < length ws → is_kind 12 (get_or ws i 0) ≡ false → program_in (drop i ws) ≡ program_in (drop (i + 1) ws)
  unfolding program_in
  program_on h k = rw (drop-cons ws i 0 h) (rw k (rw add-one))

  pub program_none : length ws ≤ i → program_in (drop i ws) ≡ record { channel = 0; program = 0 }
  unfolding program_in
  program_none h = rw (drop_of_length-le ws h)
