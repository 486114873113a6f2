-- The three ways of a chord: what a choice says of its voice, and that each way places the chord as the rules do.
use Prim.Native.Nat.{ℕ, zero, suc, ◌+◌, ◌-◌, ◌<◌}
use mathlib.Core.Bool.{true, false, true≢false, false≢true}
use mathlib.Core.List.{List, [], ◌∷◌}
use mathlib.Core.Logic.{inl, inr}
use mathlib.Core.Path.{◌≡◌, sym, ap, subst, ◌∙◌}
use native.Mathlib.Omega.{arith}
use lib.ListN.{length, get_or, set, length-set}
use lib.Seq.{get_or-set_same, set-set, map-set_same}
use Rattle.rules.specs.Lists.{any, position}
use Rattle.rules.specs.Voices.{Chord, Voice, is_free, starts_with, voice_end, ends_earliest, Choice, free, together, cut, choose, give_keys, cut_to, placed, place}
use Rattle.laws.proofs.Lists.{All-get, any_none}
use Rattle.laws.proofs.Order.{by_bool}
use Rattle.laws.proofs.VoiceLaws.{some_earliest}
use Rattle.laws.specs.Places.{down}
use Rattle.chords.specs.Columns.{chord_at}
use Rattle.chords.specs.Steps.{Stored}
use Rattle.laws.proofs.Places.{up_to_get}
use Rattle.voices.specs.Placing.{Lasts, voice_start, Known, number_at, voice_at, voices_at, Cells, Next, Pushed, with_keys, ending_at, Placed}
use Rattle.voices.proofs.Cells.{pushed_kept, pushed_chord, pushed_cells, pushed_voices, last_is, changed_voices, changed_cells}
use Rattle.laws.proofs.Tests.{position_passes}
use Rattle.laws.proofs.Places.{map_set}

-- ---- what a choice says of its voice

-- it is one of the voices; one that gets keys starts with the chord, and one that is cut is not free
abbrev Right : Chord → List Voice → Choice → Type 0
Right c vs (free v) = v < length vs
Right c vs (together v) = (v < length vs) × (starts_with c (get_or vs v []) ≡ true)
Right c vs (cut v) = (v < length vs) × (is_free c (get_or vs v []) ≡ false)

chosen_right : (c : Chord) (vs : List Voice) → 0 < length vs → Right c vs (choose c vs)
unfolding choose
chosen_right c vs some =
    elim (by_bool (any (is_free c) vs)) [
      | inl t ↦ rw t (position_passes (is_free c) vs [] t).0
      | inr t ↦
          elim (by_bool (any (starts_with c) vs)) [
            | inl o ↦ rw (t, o) (position_passes (starts_with c) vs [] o)
            | inr o ↦
                let p = position_passes (ends_earliest vs) vs [] (some_earliest vs some) in
                rw (t, o) (p.0, All-get (λ v. is_free c v ≡ false) vs (position (ends_earliest vs) vs) [] (any_none (is_free c) vs t) p.0)
          ]
    ]

-- such a voice has a chord
together_some : (c : Chord) (f : ℕ → Chord) (m : ℕ) → starts_with c (down f m) ≡ true → 0 < m
unfolding down
together_some c f zero t = absurd (false≢true t)
together_some c f (suc m) t = omega arith

cut_some : (c : Chord) (f : ℕ → Chord) (m : ℕ) → is_free c (down f m) ≡ false → 0 < m
unfolding down
cut_some c f zero t = absurd (true≢false t)
cut_some c f (suc m) t = omega arith

-- the voices after a choice
place_is : (c : Chord) (vs : List Voice) {x : Choice} → x ≡ choose c vs → placed c vs x ≡ place vs c
unfolding place
place_is c vs e = ap (placed c vs) e

-- ---- what is known of the voices after a step
module _ {l : Lasts} {vs vs' : List Voice} (k : Known l vs) (v : ℕ) where
  known_push : {r : Lasts} (c : Chord) (x : Voice) → vs' ≡ set vs v (c ∷ x) → r.starts ≡ set l.starts v c.start
      → r.ends ≡ set l.ends v c.end → Known r vs'
  known_push c x e s t =
      record {
        four = rw e (length-set vs v _ ∙ k.four);
        starts = rw (s, k.starts, e) (sym (map_set voice_start vs v (c ∷ x)));
        ends = rw (t, k.ends, e) (sym (map_set voice_end vs v (c ∷ x)));
      }

  known_give : (y : Voice) → vs' ≡ set vs v y → voice_start y ≡ voice_start (get_or vs v []) → voice_end y ≡ voice_end (get_or vs v []) → Known l vs'
  known_give y e s t =
      record {
        four = rw e (length-set vs v _ ∙ k.four);
        starts = rw e (k.starts ∙ sym (map-set_same voice_start vs v y [] s));
        ends = rw e (k.ends ∙ sym (map-set_same voice_end vs v y [] t));
      }

-- a voice is set, and then gets one chord more
twice : (vs : List Voice) (v : ℕ) (x : Voice) (c : Chord) → v < length vs → set (set vs v x) v (c ∷ get_or (set vs v x) v []) ≡ set vs v (c ∷ x)
twice vs v x c h = rw (get_or-set_same vs v x [] h) (set-set vs v x (c ∷ x))

cells_up : {n k : ℕ} {lens w : List ℕ} → Cells n k lens w → Cells n (k + 1) lens w
cells_up c =
    record {
      area = c.area;
      four = c.four;
      few = λ v h. omega (arith, c.few v h);
      below = λ v j h o. omega (arith, c.below v j h o);
      once = c.once;
    }

-- voice v has a chord, whose place is known, and room for one more
pub record Filled (n v : ℕ) (lens w : List ℕ) : Type 0 where
  pub voice : v < 4
  pub some : 0 < get_or lens v 0
  pub few : get_or lens v 0 < n
  pub last : number_at n w v (get_or lens v 0 - 1) < n

-- ---- the three ways
module _ {n k : ℕ} {l : Lasts} {w : List ℕ} (next : Next n k l w) where
  abbrev c : Chord
  c = chord_at n w k

  abbrev vs : List Voice
  vs = voices_at n w l.lens

  right : {x : Choice} → x ≡ choose c vs → Right c vs x
  right e = let four = next.known.four in subst (Right c vs) (sym e) (chosen_right c vs (omega arith))

  voice_room : (v : ℕ) → v < 4 → get_or l.lens v 0 < n
  voice_room v h = omega (arith, next.cells.few v h)

  filled : (v : ℕ) → v < 4 → 0 < get_or l.lens v 0 → Filled n v l.lens w
  filled v h some =
      record {
        voice = h;
        some = some;
        few = voice_room v h;
        last = omega (arith, next.cells.below v (get_or l.lens v 0 - 1) h (omega arith));
      }

  pub free_place : {v : ℕ} → free v ≡ choose c vs → (v < 4) × (get_or l.lens v 0 < n)
  free_place {v} e = let r = right e in let four = next.known.four in let h : v < 4 = omega arith in (h, voice_room v h)

  pub together_place : {v : ℕ} → together v ≡ choose c vs → Filled n v l.lens w
  together_place {v} e =
      let r = right e in
      let four = next.known.four in
      let h : v < 4 = omega arith in
      filled v h (together_some c _ _ (rw (up_to_get (voice_at n w l.lens) 4 v [] h) at r.1))

  pub cut_place : {v : ℕ} → cut v ≡ choose c vs → Filled n v l.lens w
  cut_place {v} e =
      let r = right e in
      let four = next.known.four in
      let h : v < 4 = omega arith in
      filled v h (cut_some c _ _ (rw (up_to_get (voice_at n w l.lens) 4 v [] h) at r.1))

  -- (d is the chord as the code has it, i the last place)
  pub placed_free : (d : Chord) {v : ℕ} {r : Lasts} {w' : List ℕ} → d ≡ c → free v ≡ choose c vs → Pushed n k v d.start d.end l r w w'
      → Placed n k l r w w'
  placed_free d {v} {r} {w'} same e o =
      let p = subst (λ (x : Chord). Pushed n k v x.start x.end l r w w') same o in
      let h = (free_place e).0 in
      let q = pushed_voices next.cells next.room h p in
      record {
        kept = pushed_kept next.cells next.room h p;
        voices = q ∙ place_is c vs e;
        coming = λ i _ o. pushed_chord next.cells next.room h p i o;
        cells = pushed_cells next.cells next.room h p;
        known = known_push next.known v c (get_or vs v []) q p.starts p.ends;
      }

  -- the place of a voice's last chord
  abbrev last : ℕ → ℕ
  last v = number_at n w v (get_or l.lens v 0 - 1)

  module _ {v : ℕ} {w' : List ℕ} where
    pub placed_together : (d : Chord) {i : ℕ} → d ≡ c → i ≡ last v → together v ≡ choose c vs → Stored n i (with_keys d.keys (chord_at n w i)) w w'
        → Placed n k l l w w'
    placed_together d same at e o =
        let s : Stored n (last v) (with_keys c.keys (chord_at n w (last v))) w w' = rw (at, same) at o in
        let f = together_place e in
        let h = f.voice in
        let some = f.some in
        let is = last_is next.cells (omega arith) h some s in
        let below : last v < k = next.cells.below v (get_or l.lens v 0 - 1) h (omega arith) in
        let q = changed_voices next.cells (omega arith) h some s in
        record {
          kept = s.kept;
          voices = q ∙ ap (λ (x : Voice). set vs v (give_keys c x)) (sym is) ∙ place_is c vs e;
          coming = λ i o b. s.there i b (λ z. omega arith);
          cells = cells_up (changed_cells next.cells (omega arith) h some s);
          known = known_give next.known v _ q (ap voice_start (sym is)) (ap voice_end (sym is));
        }

    pub placed_cut : (d : Chord) {i : ℕ} {r : Lasts} {w₂ : List ℕ} → d ≡ c → i ≡ last v → cut v ≡ choose c vs
        → Stored n i (ending_at d.start (chord_at n w i)) w w' → Pushed n k v d.start d.end l r w' w₂ → Placed n k l r w w₂
    placed_cut d {i} {r} {w₂} same at e o o' =
        let s : Stored n (last v) (ending_at c.start (chord_at n w (last v))) w w' = rw (at, same) at o in
        let p = subst (λ (x : Chord). Pushed n k v x.start x.end l r w' w₂) same o' in
        let f = cut_place e in
        let h = f.voice in
        let some = f.some in
        let is = last_is next.cells (omega arith) h some s in
        let below : last v < k = next.cells.below v (get_or l.lens v 0 - 1) h (omega arith) in
        let cells₁ : Cells n k l.lens w' = changed_cells next.cells (omega arith) h some s in
        let q = changed_voices next.cells (omega arith) h some s in
        let here : chord_at n w' k ≡ c = s.there k next.room (λ z. omega arith) in
        let four = next.known.four in
        let all : voices_at n w₂ r.lens ≡ set vs v (c ∷ cut_to c.start (get_or vs v [])) =
        rw (pushed_voices cells₁ next.room h p, here, q) (twice vs v _ c (omega arith) ∙ ap (λ (x : Voice). set vs v (c ∷ cut_to c.start x)) (sym is)) in
        record {
          kept = pushed_kept cells₁ next.room h p ∙ s.kept;
          voices = all ∙ place_is c vs e;
          coming = λ i o b. pushed_chord cells₁ next.room h p i b ∙ s.there i b (λ z. omega arith);
          cells = pushed_cells cells₁ next.room h p;
          known = known_push next.known v c _ all p.starts p.ends;
        }
