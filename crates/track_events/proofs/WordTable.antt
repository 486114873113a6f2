-- The table of kinds, row by row: the limits of a, b and c where the kind is known.
use Prim.Native.Nat.{ℕ, zero, suc, ◌+◌, ◌≤◌, ◌<◌}
use mathlib.Core.Bool.{Bool, true, false, ◌&&◌, ◌||◌, or-false}
use mathlib.Core.Logic.{◌⊎◌, inl, inr}
use mathlib.Core.Path.{◌≡◌, refl, sym, subst, ◌∙◌}
use native.Mathlib.Omega.{arith}
use borrow.Author.Tests.{le-leb, lt-leb, ne_eqb}
use lib.Dec.{leb, eqb}
use Rattle.std.specs.Prelude.{Option, None}
use Rattle.rules.specs.Piece.{kind_of, byte_a, byte_b, byte_c, well_formed}
use Rattle.track_events.specs.declared.Kind.{Kind}
use Rattle.track_events.specs.declared.Kind.TheVariants.{Meta, System, Tempo, Meter, Key, Marker, EndOfTrack}
use Rattle.track_events.specs.declared.Kind.TheVariants.{NoteOff, NoteOn, KeyPressure, Controller, Program, ChannelPressure, Bend}
use Rattle.track_events.specs.Kinds.{kind_number, IsKind}
use Rattle.laws.proofs.Order.{by_eq}

-- the table of kinds over the four bytes
test : ℕ → ℕ → ℕ → ℕ → Bool
test k a b c =
    (eqb k 0 || eqb k 1 || eqb k 6) && eqb a 0 && eqb b 0 && eqb c 0
    || eqb k 2
    || eqb k 3 && leb b 7 && eqb c 0
    || eqb k 4 && leb b 1 && eqb c 0
    || eqb k 5 && eqb c 0
    || (eqb k 8 || eqb k 9 || eqb k 10 || eqb k 11 || eqb k 14) && leb a 15 && leb b 127 && leb c 127
    || (eqb k 12 || eqb k 13) && leb a 15 && leb b 127 && eqb c 0

abbrev pub limits : ℕ → ℕ → ℕ → ℕ → Bool
limits w a b c = leb (byte_a w) a && leb (byte_b w) b && leb (byte_c w) c

none_zero : (n : ℕ) → eqb n 0 ≡ leb n 0
none_zero n = elim (by_eq n 0) [ inl e ↦ rw e | inr e ↦ rw (ne_eqb n 0 e, lt-leb n 0 (omega arith)) ]

-- what holds at n numbers from m on holds at a number between
abbrev up_to : (ℕ → Type 0) → ℕ → ℕ → Type 0
up_to P m zero = Unit {0}
up_to P m (suc n) = P m × up_to P (suc m) n

among : (P : ℕ → Type 0) (m n : ℕ) → up_to P m n → (k : ℕ) → m ≤ k → k < m + n → P k
among P m zero h k l g = absurd (omega arith)
among P m (suc n) h k l g = elim (by_eq k m) [ inl e ↦ rw e h.0 | inr e ↦ among P (suc m) n h.1 k (omega arith) (omega arith) ]

module _ (w : ℕ) where
  formed : well_formed w ≡ test (kind_of w) (byte_a w) (byte_b w) (byte_c w)
  unfolding well_formed test
  formed = refl

  a_small : leb (byte_a w) 255 ≡ true
  a_small = le-leb (byte_a w) 255 (omega arith)

  b_small : leb (byte_b w) 255 ≡ true
  b_small = le-leb (byte_b w) 255 (omega arith)

  pub meta_word : (kind_of w ≡ 6) ⊎ (kind_of w < 2) → well_formed w ≡ limits w 0 0 0
  unfolding test
  meta_word (inl k) = formed ∙ rw (k, none_zero, none_zero, none_zero) (simp or-false)
  meta_word (inr k) =
      formed
      ∙ among (λ k. test k (byte_a w) (byte_b w) (byte_c w) ≡ limits w 0 0 0) 0 2 (
        rw (none_zero, none_zero, none_zero) (simp or-false),
        (rw (none_zero, none_zero, none_zero) (simp or-false), tt),
      ) (kind_of w) (omega arith) k

  pub tempo_word : kind_of w ≡ 2 → true ≡ well_formed w
  unfolding test
  tempo_word k = sym (formed ∙ rw k)

  pub meter_word : kind_of w ≡ 3 → well_formed w ≡ limits w 255 7 0
  unfolding test
  meter_word k = formed ∙ rw (k, a_small, none_zero) (simp or-false)

  pub key_word : kind_of w ≡ 4 → well_formed w ≡ limits w 255 1 0
  unfolding test
  key_word k = formed ∙ rw (k, a_small, none_zero) (simp or-false)

  pub marker_word : kind_of w ≡ 5 → well_formed w ≡ limits w 255 255 0
  unfolding test
  marker_word k = formed ∙ rw (k, a_small, b_small, none_zero) (simp or-false)

  pub note_word : (kind_of w ≡ 14) ⊎ ((8 ≤ kind_of w) × (kind_of w < 12)) → well_formed w ≡ limits w 15 127 127
  unfolding test
  note_word (inl k) = formed ∙ rw k (simp or-false)
  note_word (inr k) =
      formed
      ∙ among (λ k. test k (byte_a w) (byte_b w) (byte_c w) ≡ limits w 15 127 127) 8 4 (
        simp or-false,
        (simp or-false, (simp or-false, (simp or-false, tt))),
      ) (kind_of w) k.0 k.1

  pub program_word : 12 ≤ kind_of w → kind_of w < 14 → well_formed w ≡ limits w 15 127 0
  unfolding test
  program_word l k =
      formed
      ∙ among (λ k. test k (byte_a w) (byte_b w) (byte_c w) ≡ limits w 15 127 0) 12 2 (
        rw (none_zero (byte_c w)),
        (rw (none_zero (byte_c w)), tt),
      ) (kind_of w) l k

  -- a word that has no kind is not well formed
  pub no_word : IsKind (kind_of w) None → false ≡ well_formed w
  unfolding test
  no_word h =
      let not : (k : Kind) → eqb (kind_of w) (kind_number k) ≡ false = λ k. ne_eqb (kind_of w) (kind_number k) (h k) in
      sym
      (formed
      ∙ rw (
        not Meta,
        not System,
        not EndOfTrack,
        not Tempo,
        not Meter,
        not Key,
        not Marker,
        not NoteOff,
        not NoteOn,
        not KeyPressure,
        not Controller,
        not Bend,
        not Program,
        not ChannelPressure,
      ))

-- a well formed word has a kind
pub formed_kind : (w : ℕ) {o : Option Kind} → well_formed w ≡ true → IsKind (kind_of w) o → (o ≡ None → ⊥)
formed_kind w f h e = grind (arith, no_word w (subst (IsKind (kind_of w)) e h), f)
