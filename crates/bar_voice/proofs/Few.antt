-- How many items there can be: no more than the ticks that they fill.
use Prim.Native.Nat.{ℕ, zero, suc, ◌+◌, ◌-◌, ◌≤◌, ◌<◌, min, max}
use mathlib.Core.Bool.{Bool, ◌||◌}
use mathlib.Core.List.{List, [], ◌∷◌}
use mathlib.Core.Logic.{inl, inr}
use mathlib.Core.Option.{Option, none, some}
use mathlib.Core.Path.{◌≡◌, refl, ap}
use native.Mathlib.Omega.{arith}
use lib.ListN.{length, drop, length-append}
use Rattle.rules.specs.Lists.{any}
use Rattle.rules.specs.Staff.{rests, chord_in, sounds_in, filled}
use Rattle.rules.specs.Values.{Value, longest, split_in, split_span}
use Rattle.rules.specs.Voices.{Chord}
use Rattle.laws.specs.Lines.{Line}
use Rattle.laws.proofs.Order.{by_bool, by_lt}
use Rattle.items.proofs.Pieces.{pieces_length}
use Rattle.items.proofs.Ties.{rests_length}
use Rattle.bar_voice.specs.Voices.{Skipped, voice_from, gap_and_chord}
use Rattle.bar_voice.proofs.Sounding.{keep_past, Ahead, coming, ahead_start, ahead_none, ahead_late, ahead_gap, ahead_sounds, ahead_more, ahead_next}

split_few : (p n t : ℕ) → length (split_in p n t).pieces ≤ n
unfolding split_in
split_few p zero t = omega arith
split_few p (suc n) t = go (split_few p n) (longest p t) refl
  where
    go : ((u : ℕ) → length (split_in p n u).pieces ≤ n) → (o : Option Value) → longest p t ≡ o → length (split_in p (suc n) t).pieces ≤ suc n
    go more none e = rw (e, split_in) (omega arith)
    go more (some v) e = rw (e, split_in) (omega (arith, more (t - v.ticks)))

rests_few : (p t : ℕ) → length (rests p t) ≤ t
rests_few p t = rw (rests_length p t) (split_few p t t)

chord_few : (p b e : ℕ) (c : Chord) → length (chord_in p b e c) ≤ min e c.end - max b c.start
chord_few p b e c = rw (pieces_length c _ _ (split_span p (min e c.end - max b c.start)).pieces) (split_few p _ _)

gap_few : (p b e t : ℕ) (c : Chord) → length (gap_and_chord p b e t c) ≤ (max b c.start - t) + (min e c.end - max b c.start)
unfolding gap_and_chord
gap_few p b e t c = rw length-append (omega (arith, rests_few p (max b c.start - t), chord_few p b e c))

-- those ahead in a bar
ahead_few : (p : ℕ) {b e : ℕ} (cs : List Chord) {t : ℕ} → b < e → Ahead b e cs t → length (coming p b e cs t) ≤ e - t
ahead_few p {b} {e} [] {t} bar g = rw (ahead_none p b e t [] 0 (omega arith)).items (rests_few p (e - t))
ahead_few p {b} {e} (c ∷ cs) {t} bar g =
    elim (by_lt c.start e) [
      | inl early ↦
          let gap : t ≤ max b c.start = ahead_gap (c ∷ cs) 0 (omega arith) g in
          let s = ahead_sounds (c ∷ cs) 0 (omega arith) g early bar in
          let long : c.start < c.end = s.long in
          let late : b < c.end = s.late in
          rw (ahead_more (c ∷ cs) 0 (omega arith) g early p, length-append)
          (omega (arith, gap_few p b e t c, ahead_few p cs bar (ahead_next (c ∷ cs) 0 (omega arith) g early)))
      | inr late ↦ rw (ahead_late (c ∷ cs) 0 (omega arith) g p late).items (rests_few p (e - t))
    ]

pub voice_few : (p : ℕ) (is_first : Bool) {b e : ℕ} {cs : List Chord} {i : ℕ} → b < e → Line 1 0 cs → Skipped b cs i
    → length (voice_from p is_first b e cs) ≤ e - b
voice_few p is_first {b} {e} {cs} {i} bar l s =
    elim (by_bool (is_first || any (sounds_in b e) cs)) [
      | inl t ↦ rw t (rw (ap (filled p b e b) (keep_past b e s.past)) (ahead_few p (drop i cs) bar (ahead_start bar l s)))
      | inr t ↦ rw t (omega arith)
    ]
