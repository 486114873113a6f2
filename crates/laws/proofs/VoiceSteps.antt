-- What a program that makes the voices goes by: how far back a note looks for its chord, and how long a cut chord stays.
use Prim.Native.Nat.{ℕ, ◌+◌, ◌-◌, ◌≤◌, ◌<◌, ◌∣◌, zero-le}
use mathlib.Core.Bool.{true, false, cond}
use mathlib.Core.List.{List, [], ◌∷◌, ◌++◌, map}
use mathlib.Core.Logic.{inl, inr}
use mathlib.Core.Path.{◌≡◌, refl, sym, ap, subst}
use native.Mathlib.Nat.{dvd_refl, dvd-sub, le_of_dvd}
use native.Mathlib.Omega.{arith}
use lib.Dec.{eqb}
use lib.ListN.{length, drop}
use borrow.Author.Tests.{eqb-false, ne_eqb}
use Rattle.rules.specs.Lists.{any, change_first, All}
use Rattle.rules.specs.RawNotes.{RawNote}
use Rattle.rules.specs.Grid.{snapped}
use Rattle.rules.specs.Voices.{Chord, Voice, opened, joins, joined, join_or_open, chords, starts_with, place, no_voices}
use Rattle.laws.specs.Sort.{Rises, FallsFrom}
use Rattle.laws.proofs.Order.{by_bool}
use Rattle.laws.proofs.Lists.{All-imp, All-all, All-both, any_none, any_after}
use Rattle.laws.proofs.Folds.{change_after, change_none, falls_up, falls_after, foldl_before}
use Rattle.laws.proofs.ChordLaws.{Whole, chord_start, note_start, gathered, join_falls, chords_rise, chords_whole}
use Rattle.laws.proofs.VoiceLaws.{SoFar, place_so_far, spread}

-- ---- joining

-- before each note the chords come in order, the most recent first, and none starts after the note
pub gathered_falls : (xs : List RawNote) (n : RawNote) (ys : List RawNote) → Rises note_start (xs ++ (n ∷ ys))
    → FallsFrom chord_start n.start (gathered xs)
gathered_falls xs n ys r =
    let (t, l, q, h) =
    foldl_before join_or_open (FallsFrom chord_start) (λ m. Unit {0}) note_start (λ s cs m l q h. join_falls s cs m l h) xs n ys 0 []
    (All-all (λ m. zero-le) (xs ++ (n ∷ ys))) r (All-all (λ m. tt) (xs ++ (n ∷ ys))) tt in
    falls_up chord_start t n.start (gathered xs) l h

-- no chord joins that starts earlier
far_joins : (n : RawNote) (a : ℕ) (cs : List Chord) → a < n.start → FallsFrom chord_start a cs → any (joins n) cs ≡ false
unfolding any
far_joins n a [] l h = refl
far_joins n a (c ∷ cs) l h = rw (ne_eqb c.start n.start (omega arith)) (far_joins n c.start cs (omega arith) h.1)

-- the list is at its end, or at a chord of another start than a
abbrev pub Past : ℕ → List Chord → Type 0
Past a [] = Unit {0}
Past a (c ∷ cs) = c.start ≡ a → ⊥

-- where a chord has another start, no chord from there on joins
pub past_joins : (n : RawNote) (cs : List Chord) → FallsFrom chord_start n.start cs → Past n.start cs → any (joins n) cs ≡ false
unfolding any
past_joins n [] h p = refl
past_joins n (c ∷ cs) h p = rw (ne_eqb c.start n.start p) (far_joins n c.start cs (omega arith) h.1)

-- a search from the most recent chord on has found its chord
pub join_at : (n : RawNote) (xs : List Chord) (c : Chord) (ys : List Chord) → any (joins n) xs ≡ false → joins n c ≡ true
    → join_or_open (xs ++ (c ∷ ys)) n ≡ xs ++ (joined n c ∷ ys)
unfolding join_or_open any change_first
join_at n xs c ys e t = rw (any_after (joins n) xs (c ∷ ys) e, change_after (joins n) (joined n) xs (c ∷ ys) e, t)

-- it has come to a chord of another start, or to the end
pub join_none : (n : RawNote) (xs cs : List Chord) → any (joins n) xs ≡ false → FallsFrom chord_start n.start (xs ++ cs) → Past n.start cs
    → join_or_open (xs ++ cs) n ≡ opened n ∷ (xs ++ cs)
unfolding join_or_open
join_none n xs cs e h p =
    rw (any_after (joins n) xs cs e, past_joins n cs (falls_after chord_start n.start xs cs h) p)

-- the leading chords of start a
unfoldable pub near : ℕ → List Chord → List Chord
near a [] = []
near a (c ∷ cs) = cond (eqb c.start a) (c ∷ near a cs) []

near_split : (a : ℕ) (cs : List Chord) → near a cs ++ drop (length (near a cs)) cs ≡ cs
unfolding near
near_split a [] = refl
near_split a (c ∷ cs) =
    elim (by_bool (eqb c.start a)) [ inl t ↦ rw t (ap (λ (ds : List Chord). c ∷ ds) (near_split a cs)) | inr t ↦ rw t ]

-- only the leading chords of the note's start are asked
pub any_near : (n : RawNote) (cs : List Chord) → FallsFrom chord_start n.start cs → any (joins n) cs ≡ any (joins n) (near n.start cs)
unfolding any near
any_near n [] h = refl
any_near n (c ∷ cs) h =
    elim (by_bool (eqb c.start n.start)) [
      | inl t ↦ rw (t, t, any_near n cs (falls_up chord_start c.start n.start cs h.0 h.1))
      | inr t ↦ rw t (far_joins n c.start cs (omega (arith, eqb-false c.start n.start t)) h.1)
    ]

pub change_near : (n : RawNote) (f : Chord → Chord) (cs : List Chord) → FallsFrom chord_start n.start cs
    → change_first (joins n) f cs ≡ change_first (joins n) f (near n.start cs) ++ drop (length (near n.start cs)) cs
unfolding change_first near
change_near n f [] h = refl
change_near n f (c ∷ cs) h =
    elim (by_bool (eqb c.start n.start)) [
      | inl t ↦
          elim (by_bool (eqb c.end n.end)) [
            | inl e ↦ rw (t, e, t) (ap (λ (ds : List Chord). f c ∷ ds) (sym (near_split n.start cs)))
            | inr e ↦ rw (t, e, t) (ap (λ (ds : List Chord). c ∷ ds) (change_near n f cs (falls_up chord_start c.start n.start cs h.0 h.1)))
          ]
      | inr t ↦
          rw t (ap (λ (ds : List Chord). c ∷ ds)
          (change_none (joins n) f cs (far_joins n c.start cs (omega (arith, eqb-false c.start n.start t)) h.1)))
    ]

-- ---- cutting

-- what holds of a voice's last chord, if it has one
abbrev pub Last : (Chord → Type 0) → Voice → Type 0
Last P [] = Unit {0}
Last P (l ∷ v) = P l

-- two ticks of a grid are a grid's step apart
step_apart : (g a b : ℕ) → g ∣ a → g ∣ b → a < b → a + g ≤ b
step_apart g a b p q l = let h : g ≤ b - a = le_of_dvd (omega arith) (dvd-sub g q p) in omega arith

-- Where no last chord starts together with the new one, each keeps a step of the grid and more up to the new start: to end it there, and to
-- end it at its start + g or the new start, whichever is later, is the same.
pub cut_keeps_length : (g : ℕ) (c : Chord) (vs : List Voice) → any (starts_with c) vs ≡ false → g ∣ c.start
    → All (Last (λ (l : Chord). (g ∣ l.start) × (l.start ≤ c.start))) vs → All (Last (λ (l : Chord). l.start + g ≤ c.start)) vs
cut_keeps_length g c vs e d h =
    All-imp (λ v k. long v k.0 k.1) vs (All-both (λ v. starts_with c v ≡ false) _ vs (any_none (starts_with c) vs e) h)
  where
    long : (v : Voice) → starts_with c v ≡ false → Last (λ (l : Chord). (g ∣ l.start) × (l.start ≤ c.start)) v
        → Last (λ (l : Chord). l.start + g ≤ c.start) v
    long [] t k = tt
    long (l ∷ v) t k = step_apart g l.start c.start k.0 d (omega (arith, eqb-false l.start c.start t))

last_on : (u : ℕ) (ns : List RawNote) (s t : ℕ) → s ≤ t → (v : Voice) → SoFar u ns s v
    → Last (λ (l : Chord). (u ∣ l.start) × (l.start ≤ t)) v
last_on u ns s t l [] h = tt
last_on u ns s t l (c ∷ v) h = (h.1.good.sound.starts, omega arith)

-- so it is with each chord of a part
pub chords_cut : (g : ℕ) (ns : List RawNote) → 0 < g → (xs : List Chord) (c : Chord) (ys : List Chord) → chords g ns ≡ xs ++ (c ∷ ys)
    → any (starts_with c) (spread xs) ≡ false → All (Last (λ (l : Chord). l.start + g ≤ c.start)) (spread xs)
chords_cut g ns p xs c ys e t =
    let snaps : List RawNote = map (snapped g) ns in
    let (s, l, w, h) =
    foldl_before place (λ s. All (SoFar g snaps s)) (Whole g snaps) chord_start (place_so_far g snaps) xs c ys 0 no_voices
    (All-all (λ d. zero-le) (xs ++ (c ∷ ys))) (subst (Rises chord_start) e (chords_rise g ns))
    (subst (All (Whole g snaps)) e (chords_whole g g ns p (dvd_refl g)))
    (tt, (tt, (tt, (tt, tt)))) in
    cut_keeps_length g c (spread xs) t w.good.sound.starts
    (All-imp (last_on g snaps s c.start l) (spread xs) h)
