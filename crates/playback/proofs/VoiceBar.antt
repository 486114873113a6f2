-- A voice in a bar: its items lead from what the voice has come to at the bar's start to what it has come to at its end.
use Prim.Native.Nat.{ℕ, ◌-◌, ◌≤◌, ◌<◌, ◌∣◌, min, max}
use mathlib.Core.Bool.{Bool, true, false}
use mathlib.Core.List.{List, [], ◌∷◌, map, reverse_aux}
use mathlib.Core.Logic.{inl, inr}
use mathlib.Core.Option.{Option, none, some}
use mathlib.Core.Path.{◌≡◌, refl}
use native.Mathlib.Nat.{dvd-sub}
use native.Mathlib.Omega.{arith}
use lib.Dec.{ltb}
use borrow.Author.Tests.{ltb-false, lt-ltb, le-ltb}
use Rattle.rules.specs.Lists.{All, sum, keep}
use Rattle.rules.specs.Values.{Value, split_in, split_span}
use Rattle.rules.specs.Voices.{Chord}
use Rattle.rules.specs.Staff.{rests, chord_in, sounds_in, filled}
use Rattle.rules.specs.ProofReader.{Played, Tie}
use Rattle.laws.specs.Lines.{Sound, Line}
use Rattle.laws.specs.Ladder.{StaffPiece}
use Rattle.laws.proofs.Order.{by_lt, dvd_min, dvd_max}
use Rattle.laws.proofs.Lists.{All-imp, keep_none}
use Rattle.laws.proofs.Sounding.{over, not_yet, keep_here, keep_not}
use Rattle.playback.specs.Performance.{heard_to}
use Rattle.playback.proofs.Run.{State, Run, done, run_append, quiet, heard, before, run_rests, run_pieces}

abbrev pub tie_of : ℕ → List Chord → Option Tie
tie_of t [] = none
tie_of t (c ∷ cs) = some (record { tick = t; keys = c.keys; unpitched = c.unpitched })

-- What a voice has come to at tick t, a being what was heard before its chords: those that start before t, and the tie of one that sounds on.
unfoldable pub state_at : ℕ → List Chord → List Played → State
state_at t cs a = record { chords = reverse_aux (heard_to t cs) a; tie = tie_of t (keep (sounds_in t t) cs) }

-- ---- chords before, across and after a tick

module _ (u : ℕ) where
  -- a voice that begins at tick e or later
  pub late : (e from : ℕ) (cs : List Chord) → Line u from cs → e ≤ from → All (λ (c : Chord). e ≤ c.start) cs
  late e from [] l o = tt
  late e from (c ∷ cs) l o = let long : c.start < c.end = l.1.long in (omega arith, late e c.end cs l.2 (omega arith))

  pub keep_late : (e from : ℕ) (f : Chord → Bool) → ((c : Chord) → e ≤ c.start → f c ≡ false) → (cs : List Chord) → Line u from cs → e ≤ from
      → keep f cs ≡ []
  keep_late e from f h cs l o = keep_none f cs (All-imp h cs (late e from cs l o))

  pub heard_late : (e from : ℕ) (cs : List Chord) → Line u from cs → e ≤ from → heard_to e cs ≡ []
  unfolding heard_to
  heard_late e from cs l o = rw (keep_late e from (λ (c : Chord). ltb c.start e) (λ c. le-ltb _ _) cs l o)

  pub state_late : (t from : ℕ) (cs : List Chord) (a : List Played) → Line u from cs → t ≤ from → state_at t cs a ≡ quiet a
  unfolding state_at
  state_late t from cs a l o =
      rw (heard_late t from cs l o, keep_late t from (sounds_in t t) (not_yet t t) cs l o)

  state_within : (t : ℕ) (c : Chord) (cs : List Chord) (a : List Played) → Line u c.end cs → c.start < t → t < c.end
      → state_at t (c ∷ cs) a ≡ heard true t c a
  unfolding state_at heard_to keep
  state_within t c cs a l h k =
      let least : min t c.end ≡ t = omega arith in
      rw (lt-ltb c.start t, lt-ltb t c.end, keep_late t c.end (λ d. ltb d.start t) (λ d. le-ltb _ _) cs l (omega arith), least)

state_past : (t : ℕ) (c : Chord) (cs : List Chord) (a : List Played) → c.start < c.end → c.end ≤ t
    → state_at t (c ∷ cs) a ≡ state_at t cs (heard false c.end c a).chords
unfolding state_at heard_to keep
state_past t c cs a h k =
    let least : min t c.end ≡ c.end = omega arith in
    rw (lt-ltb c.start t (omega arith), le-ltb t c.end, least)

-- ---- the bar

module _ (p u : ℕ) (split_total : (t : ℕ) → u ∣ t → sum (map (λ (v : Value). v.ticks) (split_span p t).pieces) ≡ t)
    (split_staff : (t : ℕ) → All (StaffPiece p) (split_span p t).pieces) where
  gap : (t m : ℕ) (a : List Played) → t ≤ m → u ∣ t → u ∣ m → Run p t (quiet a) (rests p (m - t)) m (quiet a)
  gap t m a o ut um = run_rests p t m a (split_span p (m - t)).pieces (split_staff (m - t)) (omega (arith, split_total (m - t) (dvd-sub u um ut)))

  no_gap : (t m : ℕ) (s : State) → t ≡ m → Run p t s (rests p (m - t)) m s
  unfolding split_in
  no_gap t m s o = let z : m - t ≡ 0 = omega arith in rw z (done o)

  -- in the bar from b to e
  module _ (b e : ℕ) (some_length : b < e) (ub : u ∣ b) (ue : u ∣ e) where
    -- rests up to a chord that sounds in the bar, then the chord, then the rest of the bar
    entry : (t from : ℕ) (c : Chord) (cs : List Chord) (a : List Played) → Line u from (c ∷ cs) → b ≤ t → t ≤ max b from → u ∣ t → b < c.end
        → Run p t (state_at t (c ∷ cs) a) (rests p (max b c.start - t)) (max b c.start) (before (ltb c.start b) (max b c.start) c a)
    entry t from c cs a l h k ut s =
        elim (by_lt c.start b) [
          | inl o ↦
              let same : t ≡ b = omega (arith, l.0) in
              let top : max b c.start ≡ b = omega arith in
              rw (lt-ltb c.start b, top, same, state_within u b c cs a l.2) (no_gap b b _ refl)
          | inr o ↦
              let top : max b c.start ≡ c.start = omega arith in
              rw (le-ltb c.start b, top, state_late u t c.start (c ∷ cs) a (omega arith, l.1, l.2) (omega (arith, l.0)))
              (gap t c.start a (omega (arith, l.0)) ut l.1.starts)
        ]

    chord : (c : Chord) (a : List Played) → Sound u c → b < c.end → c.start < e
        → Run p (max b c.start) (before (ltb c.start b) (max b c.start) c a) (chord_in p b e c) (min e c.end)
        (heard (ltb e c.end) (min e c.end) c a)
    chord c a s h k =
        let m : ℕ = max b c.start in
        let n : ℕ = min e c.end in
        let long : m < n = omega (arith, s.long) in
        let even : u ∣ n - m = dvd-sub u (dvd_min u _ _ ue s.ends) (dvd_max u _ _ ub s.starts) in
        run_pieces p c s.keyed (ltb c.start b) (ltb e c.end) m n a (split_span p (n - m)).pieces
        (λ f. omega (arith, ltb-false c.start b f)) (split_staff (n - m)) long (omega (arith, split_total (n - m) even))

    onward : (c : Chord) (cs : List Chord) (a : List Played) → Line u c.end cs → c.start < c.end → c.start < e
        → (c.end ≤ e → Run p c.end (state_at c.end cs (heard false c.end c a).chords) (filled p b e c.end (keep (sounds_in b e) cs))
        e (state_at e cs (heard false c.end c a).chords))
        → Run p (min e c.end) (heard (ltb e c.end) (min e c.end) c a) (filled p b e (min e c.end) (keep (sounds_in b e) cs))
        e (state_at e (c ∷ cs) a)
    unfolding filled
    onward c cs a l h k r =
        elim (by_lt e c.end) [
          | inl o ↦
              let least : min e c.end ≡ e = omega arith in
              rw (lt-ltb e c.end, least, keep_late u e c.end (sounds_in b e) (not_yet b e) cs l (omega arith), state_within u e c cs a l)
              (no_gap e e _ refl)
          | inr o ↦
              let least : min e c.end ≡ c.end = omega arith in
              rw (le-ltb e c.end, least, state_past e c cs a) (rw (state_late u c.end c.end cs _ l (omega arith)) at (r o))
        ]

    -- The tick t is the bar's start, or no chord starts before it.
    bar_from : (t from : ℕ) (cs : List Chord) (a : List Played) → Line u from cs → b ≤ t → t ≤ e → t ≤ max b from → u ∣ t
        → Run p t (state_at t cs a) (filled p b e t (keep (sounds_in b e) cs)) e (state_at e cs a)
    unfolding filled keep
    bar_from t from [] a l h k m ut = rw (state_late u t t [] a tt (omega arith), state_late u e e [] a tt (omega arith)) (gap t e a k ut ue)
    bar_from t from (c ∷ cs) a l h k m ut =
        elim (by_lt b c.end) [
          | inl o ↦
              elim (by_lt c.start e) [
                | inl s ↦
                    rw (keep_here b e c cs o s)
                    (run_append (entry t from c cs a l h m ut o)
                    (run_append (chord c a l.1 o s)
                    (onward c cs a l.2 l.1.long s
                    (λ n. bar_from c.end c.end cs _ l.2 (omega arith) n (omega arith) l.1.ends))))
                | inr s ↦
                    rw (
                      keep_late u e c.start (sounds_in b e) (not_yet b e) (c ∷ cs) (omega arith, l.1, l.2),
                      state_late u t c.start (c ∷ cs) a (omega arith, l.1, l.2) (omega arith),
                      state_late u e c.start (c ∷ cs) a (omega arith, l.1, l.2),
                    )
                    (gap t e a k ut ue)
              ]
          | inr o ↦
              rw (keep_not b e c cs (over b e c o), state_past t c cs a l.1.long (omega arith), state_past e c cs a l.1.long (omega arith))
              (bar_from t c.end cs _ l.2 h k (omega arith) ut)
        ]

    -- the voice in the whole bar
    pub bar_run : (cs : List Chord) (a : List Played) → Line u 0 cs
        → Run p b (state_at b cs a) (filled p b e b (keep (sounds_in b e) cs)) e (state_at e cs a)
    bar_run cs a l = bar_from b 0 cs a l (omega arith) (omega arith) (omega arith) ub
