-- Document 01's table of kinds reads each word as the standards mean it.
use Prim.Native.Nat.{ℕ, zero, suc, ◌+◌, ◌*◌, ◌≤◌, ◌<◌}
use mathlib.Core.Bool.{Bool, true, false, cond, not, ◌&&◌, ◌||◌, false≢true, or-true, and-eq-true_iff}
use mathlib.Core.List.{[], ◌∷◌}
use mathlib.Core.Logic.{inl, inr}
use mathlib.Core.Path.{◌≡◌, refl, sym, ap, ◌∙◌}
use native.Mathlib.Omega.{arith}
use borrow.Author.Tests.{eqb-true, eqb-false, eq-eqb, ne_eqb, lt-leb}
use lib.Dec.{eqb, leb}
use lib.IntN.{sub_ℕ}
use Rattle.rules.specs.Piece.{kind_of, byte_a, byte_b, byte_c, is_kind, tempo_value, is_on, is_off, well_formed}
use Rattle.rules.specs.Piece.{upper_figure, lower_figure, signed_fifths, is_minor, bend_value}
use Rattle.rules.specs.Standard.{Meaning, note_off, note_on, key_pressure, control_change, program_change, channel_pressure, pitch_bend, set_tempo}
use Rattle.rules.specs.Standard.{time_signature, key_signature, sequencer_specific, meta, system_exclusive, escape, end_of_track}
use Rattle.rules.specs.Standard.{other_meta, system_event, unknown}
use Rattle.rules.specs.Standard.{note_on_or_off, big_endian}
use Rattle.rules.specs.Meanings.{marker_data, meaning_of, meaning, ReadAsStandard}
use Rattle.rules.proofs.Cases.{by_bool, by_or}

-- the kind that a meaning has in the table; 15 is none
kind_named : Meaning → ℕ
kind_named other_meta = 0
kind_named system_event = 1
kind_named (set_tempo v) = 2
kind_named (time_signature u l bs) = 3
kind_named (key_signature f m) = 4
kind_named (sequencer_specific bs) = 5
kind_named end_of_track = 6
kind_named (note_off ch k v) = 8
kind_named (note_on ch k v) = 9
kind_named (key_pressure ch k v) = 10
kind_named (control_change ch n v) = 11
kind_named (program_change ch v) = 12
kind_named (channel_pressure ch v) = 13
kind_named (pitch_bend ch v) = 14
kind_named (meta type bs) = 15
kind_named (system_exclusive bs) = 15
kind_named (escape bs) = 15
kind_named unknown = 15

-- the kinds of the table: 0 to 14 but 7
abbrev tabled : ℕ → Bool
tabled k = leb k 14 && not (eqb k 7)

other : (k n : ℕ) → tabled k ≡ false → tabled n ≡ true → eqb k n ≡ false
other k n h t = ne_eqb k n (λ e. false≢true (sym h ∙ ap tabled e ∙ t))

-- a word's kind by its first and its last byte: an on of velocity 0 is an off, a kind outside the table is none
named : ℕ → ℕ → ℕ
named k c = cond (eqb k 9 && eqb c 0) 8 (cond (tabled k) k 15)

on_named : (ch x v : ℕ) → kind_named (note_on_or_off ch x v) ≡ named 9 v
unfolding kind_named named
on_named ch x zero = refl
on_named ch x (suc v) = rw (ne_eqb (suc v) 0 (omega arith))

-- a number from n on is n or above n
pub up : (P : ℕ → Type 0) (k n : ℕ) → n ≤ k → P n → (n < k → P k) → P k
up P k n h at_n above =
    elim (by_bool (eqb k n)) [
      | inl t ↦ rw (eqb-true k n t) at_n
      | inr t ↦ let differ = eqb-false k n t in above (omega arith)
    ]

module _ (a b c : ℕ) where
  Named : ℕ → Type 0
  Named k = kind_named (meaning_of k a b c) ≡ named k c

  none_named : (k : ℕ) → tabled k ≡ false → Named k
  unfolding kind_named named meaning_of Named
  none_named k h =
      simp (h, other k)

  kind_named_lem : (k : ℕ) → Named k
  unfolding kind_named named meaning_of Named
  kind_named_lem k =
      up Named k 0 (omega arith) refl λ h.
      up Named k 1 h refl λ h.
      up Named k 2 h refl λ h.
      up Named k 3 h refl λ h.
      up Named k 4 h refl λ h.
      up Named k 5 h refl λ h.
      up Named k 6 h refl λ h.
      up Named k 7 h refl λ h.
      up Named k 8 h refl λ h.
      up Named k 9 h (on_named a b c) λ h.
      up Named k 10 h refl λ h.
      up Named k 11 h refl λ h.
      up Named k 12 h refl λ h.
      up Named k 13 h refl λ h.
      up Named k 14 h refl λ h. none_named k (rw (lt-leb k 14 h))

-- a kind of the table but 8: a kind that is named so is that kind
abbrev ordinary : ℕ → Bool
ordinary k = tabled k && not (eqb k 8)

plain : (k c n : ℕ) → ordinary n ≡ true → named k c ≡ n → k ≡ n
unfolding named
plain k c n o h =
    elim (by_bool (eqb k 9 && eqb c 0)) [
      | inl t ↦ absurd (false≢true (ap ordinary (rw t at h) ∙ o))
      | inr t ↦ elim (by_bool (tabled k)) [ inl u ↦ rw (t, u) at h | inr u ↦ absurd (false≢true (ap ordinary (rw (t, u) at h) ∙ o)) ]
    ]

-- one that is named 9 is 9, and not of velocity 0
nine_named : (k c : ℕ) → named k c ≡ 9 → eqb k 9 && not (eqb c 0) ≡ true
unfolding named
nine_named k c h =
    let nine = plain k c 9 refl h in
    elim (by_bool (eqb c 0)) [
      | inl t ↦ let z : ◌≡◌ {A = ℕ} 8 9 = rw (nine, t) at h in absurd (omega arith)
      | inr t ↦ rw (nine, t)
    ]

-- one that is named 8 is 8, or 9 of velocity 0
eight_named : (k c : ℕ) → named k c ≡ 8 → eqb k 8 || eqb k 9 && eqb c 0 ≡ true
unfolding named
eight_named k c h =
    elim (by_bool (eqb k 9 && eqb c 0)) [
      | inl t ↦ rw t (or-true (eqb k 8))
      | inr t ↦
          elim (by_bool (tabled k)) [
            | inl u ↦ let eight : k ≡ 8 = rw (t, u) at h in rw eight
            | inr u ↦ let z : ◌≡◌ {A = ℕ} 15 8 = rw (t, u) at h in absurd (omega arith)
          ]
    ]

-- one that is named 15 is none
none_of : (k c : ℕ) → named k c ≡ 15 → tabled k ≡ false
unfolding named
none_of k c h =
    elim (by_bool (eqb k 9 && eqb c 0)) [
      | inl t ↦ let z : ◌≡◌ {A = ℕ} 8 15 = rw t at h in absurd (omega arith)
      | inr t ↦ elim (by_bool (tabled k)) [ inl u ↦ let it : k ≡ 15 = rw (t, u) at h in rw it | inr u ↦ u ]
    ]

-- a note-on's velocity decides
struck : (ch x v : ℕ) → not (eqb v 0) ≡ true → note_on_or_off ch x v ≡ note_on ch x v
struck ch x zero h = absurd (false≢true h)
struck ch x (suc v) h = refl

released : (ch x v : ℕ) → eqb v 0 ≡ true → note_on_or_off ch x v ≡ note_off ch x v
released ch x zero h = refl
released ch x (suc v) h = let z : suc v ≡ 0 = eqb-true (suc v) 0 h in absurd (omega arith)

module _ (w : ℕ) where
  word_named : (m : Meaning) → meaning w ≡ m → named (kind_of w) (byte_c w) ≡ kind_named m
  unfolding Named
  word_named m e = sym (kind_named_lem (byte_a w) (byte_b w) (byte_c w) (kind_of w)) ∙ ap kind_named e

  of_kind : (k : ℕ) → is_kind k w ≡ true → meaning w ≡ meaning_of k (byte_a w) (byte_b w) (byte_c w)
  of_kind k h = ap (λ n. meaning_of n (byte_a w) (byte_b w) (byte_c w)) (eqb-true (kind_of w) k h)

  only : (m : Meaning) → ordinary (kind_named m) ≡ true → meaning w ≡ m
      → (is_kind (kind_named m) w ≡ true) × (m ≡ meaning_of (kind_named m) (byte_a w) (byte_b w) (byte_c w))
  only m o e =
      let t = eq-eqb (kind_of w) (kind_named m) (plain (kind_of w) (byte_c w) (kind_named m) o (word_named m e)) in
      (t, sym e ∙ of_kind (kind_named m) t)

  off_is : is_off w ≡ true → meaning w ≡ note_off (byte_a w) (byte_b w) (byte_c w)
  unfolding meaning_of
  off_is h =
      elim (by_or (is_kind 8 w) (is_kind 9 w && eqb (byte_c w) 0) h) [
        | inl t ↦ of_kind 8 t
        | inr t ↦
            let k = (and-eq-true_iff (is_kind 9 w) (eqb (byte_c w) 0)).0 t in
            of_kind 9 k.0 ∙ released (byte_a w) (byte_b w) (byte_c w) k.1
      ]

  on_is : is_on w ≡ true → meaning w ≡ note_on (byte_a w) (byte_b w) (byte_c w)
  unfolding meaning_of
  on_is h =
      let k = (and-eq-true_iff (is_kind 9 w) (not (eqb (byte_c w) 0))).0 h in
      of_kind 9 k.0 ∙ struck (byte_a w) (byte_b w) (byte_c w) k.1

  tempo_is : is_kind 2 w ≡ true → meaning w ≡ set_tempo (tempo_value w)
  unfolding meaning_of
  tempo_is h = let bytes : big_endian (byte_a w ∷ byte_b w ∷ byte_c w ∷ []) ≡ tempo_value w = omega arith in of_kind 2 h ∙ ap set_tempo bytes

  meter_is : is_kind 3 w ≡ true → meaning w ≡ time_signature (upper_figure w) (lower_figure w) []
  unfolding meaning_of
  meter_is = of_kind 3

  key_is : is_kind 4 w ≡ true → meaning w ≡ key_signature (signed_fifths w) (is_minor w)
  unfolding meaning_of
  key_is = of_kind 4

  marker_is : is_kind 5 w ≡ true → meaning w ≡ sequencer_specific (marker_data (byte_a w) (byte_b w))
  unfolding meaning_of
  marker_is = of_kind 5

  bend_is : is_kind 14 w ≡ true → meaning w ≡ pitch_bend (byte_a w) (bend_value w)
  unfolding meaning_of
  bend_is h =
      let sum : byte_c w * 128 + byte_b w ≡ byte_b w + 128 * byte_c w = omega arith in
      of_kind 14 h ∙ ap (λ n. pitch_bend (byte_a w) (sub_ℕ n 8192)) sum

  not_formed : tabled (kind_of w) ≡ false → well_formed w ≡ false
  unfolding well_formed
  not_formed h = simp (other (kind_of w))

  pub read_as_standard : ReadAsStandard w
  unfolding kind_named meaning_of
  read_as_standard =
      record {
        other = (λ e. (only other_meta refl e).0, of_kind 0);
        system = (λ e. (only system_event refl e).0, of_kind 1);
        tempo = λ v. (λ e. let s = only (set_tempo v) refl e in let is = tempo_is s.0 in (s.0, cc), λ h. rw h.1 (tempo_is h.0));
        meter = λ u l. (λ e. let s = only (time_signature u l []) refl e in let is = meter_is s.0 in (s.0, cc, cc), λ h. rw (h.1, h.2) (meter_is h.0));
        key = λ f m. (λ e. let s = only (key_signature f m) refl e in let is = key_is s.0 in (s.0, cc, cc), λ h. rw (h.1, h.2) (key_is h.0));
        marker = λ bs. (λ e. let s = only (sequencer_specific bs) refl e in let is = marker_is s.0 in (s.0, cc), λ h. rw h.1 (marker_is h.0));
        end = (λ e. (only end_of_track refl e).0, of_kind 6);
        off = λ ch k v. (
          λ e. let t = eight_named (kind_of w) (byte_c w) (word_named (note_off ch k v) e) in let is = off_is t in (t, cc, cc, cc),
          λ h. rw (h.1, h.2, h.3) (off_is h.0),
        );
        on = λ ch k v. (
          λ e. let t = nine_named (kind_of w) (byte_c w) (word_named (note_on ch k v) e) in let is = on_is t in (t, cc, cc, cc),
          λ h. rw (h.1, h.2, h.3) (on_is h.0),
        );
        key_pressure_lem = λ ch k v. (λ e. let s = only (key_pressure ch k v) refl e in (s.0, cc, cc, cc), λ h. rw (h.1, h.2, h.3) (of_kind 10 h.0));
        controller = λ ch n v. (λ e. let s = only (control_change ch n v) refl e in (s.0, cc, cc, cc), λ h. rw (h.1, h.2, h.3) (of_kind 11 h.0));
        program = λ ch p. (λ e. let s = only (program_change ch p) refl e in (s.0, cc, cc), λ h. rw (h.1, h.2) (of_kind 12 h.0));
        channel_pressure_lem = λ ch v. (λ e. let s = only (channel_pressure ch v) refl e in (s.0, cc, cc), λ h. rw (h.1, h.2) (of_kind 13 h.0));
        bend = λ ch v. (λ e. let s = only (pitch_bend ch v) refl e in let is = bend_is s.0 in (s.0, cc, cc), λ h. rw (h.1, h.2) (bend_is h.0));
        known = λ h e. false≢true (sym (not_formed (none_of (kind_of w) (byte_c w) (word_named unknown e))) ∙ h);
      }
