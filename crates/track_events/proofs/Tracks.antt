-- One track: the events left at an index, their ticks, and the ranges of well formed words.
use Prim.Native.Nat.{ℕ, zero, suc, ◌+◌, ◌*◌, ◌-◌, ◌≤◌, ◌<◌, ◌^◌}
use mathlib.Core.Bool.{true, ◌&&◌, and-eq-true_iff}
use mathlib.Core.List.{List, [], ◌∷◌}
use mathlib.Core.Logic.{◌⊎◌, inl, inr, ⊎_elim}
use mathlib.Core.Path.{◌≡◌, refl, sym, ap, ◌∙◌}
use native.Mathlib.Nat.{add-zero, zero-add}
use native.Mathlib.Numerals.{add-one}
use native.Mathlib.Omega.{arith}
use borrow.Author.Tests.{leb-true, leb-false, eqb-true}
use lib.Dec.{leb, eqb}
use lib.ListN.{length, get_or, take, drop, length-drop, drop_of_length-le}
use lib.Seq.{drop-cons, length-take-le}
use Rattle.rules.specs.Lists.{All, sum}
use Rattle.rules.specs.Piece.{Event, timed, kind_of, byte_a, byte_b, byte_c, well_formed, is_kind, is_on, is_off}
use Rattle.rules.specs.Refusals.{largest_delta}
use Rattle.laws.specs.Sort.{Rises}
use Rattle.track_events.specs.Track.{Track, Channelled, events_of, stretch, left, tick_at}
use Rattle.laws.proofs.Lists.{All-get, All-take, All-drop}
use Rattle.laws.proofs.Loops.{sum_all, sum_take}
use Rattle.laws.proofs.Order.{by_bool, by_or, by_eq}
use Rattle.track_events.proofs.WordTable.{limits, meter_word, key_word, note_word, program_word}

-- ---- what is left

-- the event at i, and then what is left at i + 1
pub left_cons : (t i : ℕ) (ds ws : List ℕ) → i < length ds → i < length ws
    → left t i ds ws ≡ record { number = i; tick = t + get_or ds i 0; word = get_or ws i 0 } ∷ left (t + get_or ds i 0) (i + 1) ds ws
unfolding timed
left_cons t i ds ws h k = rw (drop-cons ds i 0 h, drop-cons ws i 0 k) (rw add-one)

pub left_none : (t i : ℕ) (ds ws : List ℕ) → length ds ≤ i → left t i ds ws ≡ []
unfolding timed
left_none t i ds ws h = rw (drop_of_length-le ds h)

no_words : (n t : ℕ) (ds : List ℕ) → timed n t ds [] ≡ []
unfolding timed
no_words n t [] = refl
no_words n t (d ∷ ds) = refl

pub timed_drop : (i n t : ℕ) (ds ws : List ℕ) → drop i (timed n t ds ws) ≡ timed (n + i) (t + tick_at i ds) (drop i ds) (drop i ws)
unfolding timed sum
timed_drop zero n t ds ws = rw (add-zero, add-zero)
timed_drop (suc i) n t [] ws = refl
timed_drop (suc i) n t (d ∷ ds) [] = sym (no_words (n + suc i) (t + (d + tick_at i ds)) (drop i ds))
timed_drop (suc i) n t (d ∷ ds) (w ∷ ws) =
    let number : suc n + i ≡ n + suc i = omega arith in
    let tick : t + d + sum (take i ds) ≡ t + (d + sum (take i ds)) = omega arith in
    timed_drop i (suc n) (t + d) ds ws ∙ rw (number, tick)

-- what is left at i is the events behind the first i
pub left_drop : (i : ℕ) (ds ws : List ℕ) → left (tick_at i ds) i ds ws ≡ drop i (events_of ds ws)
left_drop i ds ws = sym (timed_drop i 0 0 ds ws ∙ rw (zero-add, zero-add))

pub timed_length : (n t : ℕ) (ds ws : List ℕ) → length ws ≡ length ds → length (timed n t ds ws) ≡ length ds
unfolding timed
timed_length n t [] ws h = refl
timed_length n t (d ∷ ds) [] h = absurd (omega arith)
timed_length n t (d ∷ ds) (w ∷ ws) h = ap suc (timed_length (suc n) (t + d) ds ws (omega arith))

-- event i of a track, and then those behind it
pub timed_cons : (i n t : ℕ) (ds ws : List ℕ) → i < length ds → i < length ws
    → drop i (timed n t ds ws) ≡ record { number = n + i; tick = t + tick_at (i + 1) ds; word = get_or ws i 0 } ∷ drop (i + 1) (timed n t ds ws)
unfolding timed
timed_cons i n t ds ws h k =
    let number : n + (i + 1) ≡ suc (n + i) = omega arith in
    let tick : t + tick_at (i + 1) ds ≡ t + tick_at i ds + get_or ds i 0 = omega (arith, sum_take ds i h) in
    timed_drop i n t ds ws ∙ rw (timed_drop (i + 1) n t ds ws, number, tick) (rw (drop-cons ds i 0 h, drop-cons ws i 0 k, add-one))

-- ---- ticks

pub tick_next : (ds : List ℕ) (i : ℕ) → i < length ds → tick_at (i + 1) ds ≡ tick_at i ds + get_or ds i 0
tick_next = sum_take

pub length_stretch : (from to : ℕ) (l : List ℕ) → from ≤ to → to ≤ length l → length (stretch from to l) ≡ to - from
length_stretch from to l h k = length-take-le (to - from) (drop from l) (simp length-drop (omega arith))

module _ {ds ws : List ℕ} (track : Track ds ws) where
  pub track_sum : (i : ℕ) → i ≤ length ds → (tick_at i ds ≤ i * largest_delta) × (tick_at i ds < 2 ^ 47)
  track_sum i h =
      let most = sum_all largest_delta (take i ds) (All-take _ i ds track.small) in
      let l = length-take-le i ds h in
      (omega arith, omega arith)

  pub track_part : (from to : ℕ) → from ≤ to → to ≤ length ds → Track (stretch from to ds) (stretch from to ws)
  track_part from to h k =
      let here = length_stretch from to ds h k in
      let there = length_stretch from to ws h (omega (arith, track.same)) in
      record {
        same = there ∙ sym here;
        few = omega (arith, track.few);
        small = All-take _ (to - from) (drop from ds) (All-drop _ from ds track.small);
        formed = All-take _ (to - from) (drop from ws) (All-drop _ from ws track.formed);
      }

timed_from : (m n t : ℕ) (ds ws : List ℕ) → m ≤ t → All (λ (e : Event). m ≤ e.tick) (timed n t ds ws)
unfolding timed
timed_from m n t [] ws h = tt
timed_from m n t (d ∷ ds) [] h = tt
timed_from m n t (d ∷ ds) (w ∷ ws) h = (omega arith, timed_from m (suc n) (t + d) ds ws (omega arith))

-- ticks do not fall
pub timed_rises : (n t : ℕ) (ds ws : List ℕ) → Rises (λ (e : Event). e.tick) (timed n t ds ws)
unfolding timed
timed_rises n t [] ws = tt
timed_rises n t (d ∷ ds) [] = tt
timed_rises n t (d ∷ ds) (w ∷ ws) = (timed_from (t + d) (suc n) (t + d) ds ws (omega arith), timed_rises (suc n) (t + d) ds ws)

-- ---- the ranges of well formed words

pub formed_at : {ds ws : List ℕ} → Track ds ws → (i : ℕ) → i < length ds → well_formed (get_or ws i 0) ≡ true
formed_at {ws = ws} track i h = All-get _ ws i 0 track.formed (omega (arith, track.same))

module _ (w : ℕ) (formed : well_formed w ≡ true) where
  within : (a b c : ℕ) → well_formed w ≡ limits w a b c → (byte_a w ≤ a) × (byte_b w ≤ b) × (byte_c w ≤ c)
  within a b c e =
      let h = (and-eq-true_iff _ _).0 (sym e ∙ formed) in
      let g = (and-eq-true_iff _ _).0 h.0 in
      (leb-true _ _ g.0, leb-true _ _ g.1, leb-true _ _ h.1)

  -- kinds 8 to 14
  pub channel_bounds : 8 ≤ kind_of w → kind_of w ≤ 14 → Channelled w
  channel_bounds l h =
      elim (by_eq (kind_of w) 14) [
        | inl k ↦ bounds (omega arith) (within 15 127 127 (note_word w (inl k)))
        | inr k ↦
            elim (by_bool (leb 12 (kind_of w))) [
              | inl k₁₂ ↦ bounds (omega arith) (within 15 127 0 (program_word w (leb-true _ _ k₁₂) (omega arith)))
              | inr k₁₂ ↦ bounds (omega arith) (within 15 127 127 (note_word w (inr (l, leb-false _ _ k₁₂))))
            ]
      ]
    where
      bounds : {c : ℕ} → c ≤ 127 → (byte_a w ≤ 15) × (byte_b w ≤ 127) × (byte_c w ≤ c) → Channelled w
      bounds h b = record { channel = omega arith; first = omega arith; second = omega arith }

  pub note_bounds : (is_on w ≡ true) ⊎ (is_off w ≡ true) → Channelled w
  note_bounds (inl h) = let k : kind_of w ≡ 9 = eqb-true _ _ ((and-eq-true_iff _ _).0 h).0 in channel_bounds (omega arith) (omega arith)
  note_bounds (inr h) =
      ⊎_elim
      (λ on. let k : kind_of w ≡ 8 = eqb-true _ _ on in channel_bounds (omega arith) (omega arith))
      (λ on. let k : kind_of w ≡ 9 = eqb-true _ _ ((and-eq-true_iff _ _).0 on).0 in channel_bounds (omega arith) (omega arith))
      (by_or (is_kind 8 w) (is_kind 9 w && eqb (byte_c w) 0) h)

  pub meter_bounds : kind_of w ≡ 3 → byte_b w ≤ 7
  meter_bounds k = (within 255 7 0 (meter_word w k)).1

  pub key_bounds : kind_of w ≡ 4 → byte_b w ≤ 1
  key_bounds k = (within 255 1 0 (key_word w k)).1
