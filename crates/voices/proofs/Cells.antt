-- The voices' numbers in their columns: what a new number does, and what a change of a voice's last chord does.
use Prim.Native.Nat.{ℕ, ◌+◌, ◌-◌, ◌*◌, ◌≤◌, ◌<◌}
use mathlib.Core.List.{List, [], ◌∷◌}
use mathlib.Core.Logic.{◌⊎◌, inl, inr, ⊎_elim}
use mathlib.Core.Path.{◌≡◌, sym, ap, ◌∙◌}
use native.Mathlib.Nat.{mul-le-mul_right}
use native.Mathlib.Omega.{arith}
use lib.ListN.{length, get_or, set, length-set}
use lib.Seq.{get_or-set_same, get_or-set_other}
use Rattle.rules.specs.Voices.{Chord, Voice}
use Rattle.laws.proofs.Order.{by_eq}
use Rattle.laws.specs.Places.{up_to, down}
use Rattle.chords.specs.Columns.{chord_at}
use Rattle.chords.specs.Steps.{Stored}
use Rattle.laws.proofs.Places.{up_to_length, up_to_get, up_to_is, down_same, down_more}
use Rattle.chords.proofs.Stores.{same_cell, chord_same}
use Rattle.voices.specs.Placing.{Lasts, number_at, voice_at, voices_at, Cells, Pushed}

-- ---- columns
pub column_end : (n v : ℕ) → v < 4 → (10 + v) * n + n ≤ 14 * n
column_end n v h = let l : 10 + v ≤ 13 = omega arith in omega (arith, mul-le-mul_right n l)

pub column_start : (n v : ℕ) → 10 * n ≤ (10 + v) * n
column_start n v = let l : 10 ≤ 10 + v = omega arith in mul-le-mul_right n l

-- a list given place by place, changed at one place
pub up_to_set : {A : Type 0} (f g : ℕ → A) (m v : ℕ) (y d : A) → v < m → g v ≡ y → ((u : ℕ) → u < m → (u ≡ v → ⊥) → g u ≡ f u)
    → up_to g m ≡ set (up_to f m) v y
up_to_set f g m v y d h here there =
    up_to_is g m d (set (up_to f m) v y) (length-set (up_to f m) v y ∙ up_to_length f m)
    (λ u l. elim (by_eq u v) [
      | inl e ↦ rw e (here ∙ sym (get_or-set_same (up_to f m) v y d (omega (arith, up_to_length f m))))
      | inr e ↦ there u l e ∙ sym (get_or-set_other (up_to f m) v u y d e ∙ up_to_get f m u d l)
    ])

-- ---- a new number
module _ {n k v start end : ℕ} {l r : Lasts} {w w' : List ℕ} (cells : Cells n k l.lens w) (next : k < n) (v4 : v < 4)
    (p : Pushed n k v start end l r w w') where
  -- how many chords the voice had
  len : ℕ
  len = get_or l.lens v 0

  len_few : len ≤ k
  unfolding len
  len_few = cells.few v v4

  at_end : (10 + v) * n + len < length w
  at_end = let a = cells.area in omega (arith, column_end n v v4, len_few)

  pub pushed_kept : length w' ≡ length w
  pushed_kept = rw p.number (length-set w _ k)

  pub pushed_chord : (i : ℕ) → i < n → chord_at n w' i ≡ chord_at n w i
  unfolding len
  pushed_chord i h =
      rw p.number (chord_same n i w (set w ((10 + v) * n + len) k)
      (λ a x y. get_or-set_other w ((10 + v) * n + len) (a * n + i) k 0 (λ z. omega (arith, column_start n v, mul-le-mul_right n y))))

  number_here : number_at n w' v len ≡ k
  unfolding len
  number_here = rw p.number (get_or-set_same w ((10 + v) * n + len) k 0 at_end)

  number_there : (u j : ℕ) → j < n → ((u ≡ v) × (j ≡ len) → ⊥) → number_at n w' u j ≡ number_at n w u j
  unfolding len
  number_there u j h d =
      rw p.number (get_or-set_other w ((10 + v) * n + len) ((10 + u) * n + j) k 0
      (λ z. let q = same_cell n (10 + u) j (10 + v) len h (omega (arith, len_few)) z in d (omega arith, q.1)))

  len_here : get_or r.lens v 0 ≡ len + 1
  unfolding len
  len_here = let f = cells.four in rw p.lens (get_or-set_same l.lens v (len + 1) 0 (omega arith))

  len_there : (u : ℕ) → (u ≡ v → ⊥) → get_or r.lens u 0 ≡ get_or l.lens u 0
  unfolding len
  len_there u d = rw p.lens (get_or-set_other l.lens v u (len + 1) 0 d)

  -- a place of a voice is the new one, or one that was there
  old_or_new : (u j : ℕ) → u < 4 → j < get_or r.lens u 0
      → ((u ≡ v) × (j ≡ len)) ⊎ ((j < get_or l.lens u 0) × (number_at n w' u j ≡ number_at n w u j))
  unfolding len
  old_or_new u j h o =
      elim (by_eq u v) [
        | inl e ↦
            elim (by_eq j len) [
              | inl q ↦ inl (e, q)
              | inr q ↦
                  let o' : j < get_or r.lens v 0 = rw e at o in
                  let b : j < len = omega (arith, len_here) in
                  inr (rw e b, number_there u j (omega (arith, len_few)) (λ z. q z.1))
            ]
        | inr e ↦
            let b : j < get_or l.lens u 0 = rw (len_there u e) at o in
            inr (b, number_there u j (omega (arith, cells.few u h)) (λ z. e z.0))
      ]

  new_is : (u j : ℕ) → (u ≡ v) × (j ≡ len) → number_at n w' u j ≡ k
  new_is u j e = rw (e.0, e.1) number_here

  pub pushed_cells : Cells n (k + 1) r.lens w'
  pushed_cells =
      record {
        area = rw pushed_kept cells.area;
        four = rw p.lens (length-set l.lens v _ ∙ cells.four);
        few = λ u h. elim (by_eq u v) [ inl e ↦ rw (e, len_here) (omega (arith, len_few)) | inr e ↦ rw (len_there u e) (omega (arith, cells.few u h)) ];
        below = λ u j h o. ⊎_elim (λ e. rw (new_is u j e) (omega arith)) (λ b. rw b.1 (omega (arith, cells.below u j h b.0))) (old_or_new u j h o);
        once = λ u i t j hu hi ht hj e.
            elim (old_or_new u i hu hi) [
              | inl a ↦
                  elim (old_or_new t j ht hj) [
                    | inl b ↦ (a.0 ∙ sym b.0, a.1 ∙ sym b.1)
                    | inr b ↦ absurd (omega (arith, new_is u i a, b.1, cells.below t j ht b.0))
                  ]
              | inr a ↦
                  elim (old_or_new t j ht hj) [
                    | inl b ↦ absurd (omega (arith, new_is t j b, a.1, cells.below u i hu a.0))
                    | inr b ↦ cells.once u i t j hu a.0 ht b.0 (sym a.1 ∙ e ∙ b.1)
                  ]
            ];
      }

  voice_kept : (u : ℕ) → u < 4 → (m : ℕ) → m ≤ get_or l.lens u 0
      → down (λ j. chord_at n w' (number_at n w' u j)) m ≡ down (λ j. chord_at n w (number_at n w u j)) m
  unfolding len
  voice_kept u h m o =
      down_same (λ j. chord_at n w' (number_at n w' u j)) (λ j. chord_at n w (number_at n w u j)) m
      (λ j b.
      let c : j < get_or l.lens u 0 = omega arith in
      let q : number_at n w' u j ≡ number_at n w u j =
      number_there u j (omega (arith, cells.few u h)) (λ z. let e : get_or l.lens u 0 ≡ len = ap (λ (t : ℕ). get_or l.lens t 0) z.0 in omega arith) in
      ap (chord_at n w') q ∙ pushed_chord (number_at n w u j) (omega (arith, cells.below u j h c)))

  pub pushed_voices : voices_at n w' r.lens ≡ set (voices_at n w l.lens) v (chord_at n w k ∷ get_or (voices_at n w l.lens) v [])
  unfolding len
  pushed_voices =
      up_to_set (voice_at n w l.lens) (voice_at n w' r.lens) 4 v _ [] v4
      (rw (
        len_here,
        down_more (λ j. chord_at n w' (number_at n w' v j)) len,
        number_here,
        pushed_chord k next,
        voice_kept v v4 len (omega arith),
        up_to_get (voice_at n w l.lens) 4 v [] v4,
      ))
      (λ u h d. rw (len_there u d) (voice_kept u h (get_or l.lens u 0) (omega arith)))

-- ---- a voice's last chord is changed

-- the chords of voice v but its last
abbrev pub earlier : ℕ → List ℕ → List ℕ → ℕ → Voice
earlier n w lens v = down (λ j. chord_at n w (number_at n w v j)) (get_or lens v 0 - 1)

module _ {n k v : ℕ} {lens w w' : List ℕ} {c : Chord} (cells : Cells n k lens w) (room : k ≤ n) (v4 : v < 4) (some : 0 < get_or lens v 0)
    (s : Stored n (number_at n w v (get_or lens v 0 - 1)) c w w') where
  number_kept : (u j : ℕ) → number_at n w' u j ≡ number_at n w u j
  number_kept u j = s.back ((10 + u) * n + j) (omega (arith, column_start n u))

  pub last_is : get_or (voices_at n w lens) v [] ≡ chord_at n w (number_at n w v (get_or lens v 0 - 1)) ∷ earlier n w lens v
  last_is =
      let e : get_or lens v 0 ≡ get_or lens v 0 - 1 + 1 = omega arith in
      up_to_get (voice_at n w lens) 4 v [] v4 ∙ ap (down (λ j. chord_at n w (number_at n w v j))) e
      ∙ down_more (λ j. chord_at n w (number_at n w v j)) (get_or lens v 0 - 1)

  changed_kept : (u : ℕ) → u < 4 → (m : ℕ) → m ≤ get_or lens u 0 → ((j : ℕ) → j < m → (u ≡ v) × (j ≡ get_or lens v 0 - 1) → ⊥)
      → down (λ j. chord_at n w' (number_at n w' u j)) m ≡ down (λ j. chord_at n w (number_at n w u j)) m
  changed_kept u h m o d =
      down_same (λ j. chord_at n w' (number_at n w' u j)) (λ j. chord_at n w (number_at n w u j)) m
      (λ j b.
      let b' : j < get_or lens u 0 = omega arith in
      ap (chord_at n w') (number_kept u j)
      ∙ s.there (number_at n w u j) (omega (arith, cells.below u j h b')) (λ z. d j b (cells.once u j v (get_or lens v 0 - 1) h b' v4 (omega arith) z)))

  pub changed_voices : voices_at n w' lens ≡ set (voices_at n w lens) v (c ∷ earlier n w lens v)
  changed_voices =
      let e : get_or lens v 0 ≡ get_or lens v 0 - 1 + 1 = omega arith in
      up_to_set (voice_at n w lens) (voice_at n w' lens) 4 v _ [] v4
      (ap (down (λ j. chord_at n w' (number_at n w' v j))) e
      ∙ down_more (λ j. chord_at n w' (number_at n w' v j)) (get_or lens v 0 - 1)
      ∙ rw (number_kept v (get_or lens v 0 - 1), s.here, changed_kept v v4 (get_or lens v 0 - 1) (omega arith) (λ j b z. omega arith)))
      (λ u h d. changed_kept u h (get_or lens u 0) (omega arith) (λ j b z. d z.0))

  pub changed_cells : Cells n k lens w'
  changed_cells =
      record {
        area = rw s.kept cells.area;
        four = cells.four;
        few = cells.few;
        below = λ u j h o. rw (number_kept u j) (cells.below u j h o);
        once = λ u i t j hu hi ht hj e. cells.once u i t j hu hi ht hj (sym (number_kept u i) ∙ e ∙ number_kept t j);
      }
