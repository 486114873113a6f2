-- The chords of a voice that sound in a bar, from tick b to tick e: a run of chords, of which the first is not over at b.
use Prim.Native.Nat.{ℕ, zero, suc, ◌+◌, ◌-◌, ◌≤◌, ◌<◌, min, max}
use mathlib.Core.Bool.{false, and-false, ◌&&◌}
use mathlib.Core.List.{List, [], ◌∷◌, ◌++◌, append_assoc}
use mathlib.Core.Logic.{inl, inr}
use mathlib.Core.Path.{◌≡◌, sym, ap, ◌∙◌}
use native.Mathlib.Nat.{add-zero}
use native.Mathlib.Numerals.{add-one}
use native.Mathlib.Omega.{arith}
use borrow.Author.Tests.{lt-ltb, le-ltb}
use lib.Dec.{ltb}
use lib.ListN.{length, take, drop, length-drop, take-append-drop, drop_of_length-le}
use lib.Seq.{drop-cons, get_or-drop}
use Rattle.rules.specs.Lists.{All, keep, any}
use Rattle.rules.specs.Items.{Item}
use Rattle.rules.specs.Staff.{rests, chord_in, sounds_in, filled, rests_left, filled_left}
use Rattle.rules.specs.Voices.{Chord}
use Rattle.laws.specs.Lines.{Line}
use Rattle.laws.proofs.Order.{by_lt}
use Rattle.laws.proofs.Lists.{All-imp, any_kept, keep_none, keep_append}
use Rattle.laws.proofs.Sounding.{over, not_yet, keep_here}
use Rattle.items.specs.Writing.{Sounding}
use Rattle.bar_voice.specs.Voices.{no_chord, chord_of, Past, Skipped, gap_and_chord, gap_and_chord_left}

-- ---- chords before, in and after a bar

module _ (b e : ℕ) where
  pub keep_past : {cs : List Chord} {i : ℕ} → Past b cs i → keep (sounds_in b e) cs ≡ keep (sounds_in b e) (drop i cs)
  keep_past {cs} {i} p =
      ap (keep (sounds_in b e)) (sym (take-append-drop i cs)) ∙ keep_append (sounds_in b e) (take i cs) (drop i cs)
      ∙ rw (keep_none (sounds_in b e) (take i cs) (All-imp (over b e) (take i cs) p.over))

  -- a line of chords that begins at e or later
  all_late : (a : ℕ) (cs : List Chord) → Line 1 a cs → e ≤ a → All (λ (c : Chord). sounds_in b e c ≡ false) cs
  all_late a [] l h = tt
  all_late a (c ∷ cs) l h = let long : c.start < c.end = l.1.long in (not_yet b e c (omega arith), all_late c.end cs l.2 (omega arith))

  keep_late : {a : ℕ} (c : Chord) (cs : List Chord) → Line 1 a (c ∷ cs) → e ≤ c.start → keep (sounds_in b e) (c ∷ cs) ≡ []
  keep_late c cs l h =
      let long : c.start < c.end = l.1.long in
      keep_none (sounds_in b e) (c ∷ cs) (not_yet b e c h, all_late c.end cs l.2 (omega arith))

-- ---- the walk through a bar

-- the chords ahead in a bar, of which those before tick t are written
pub record Ahead (b e : ℕ) (cs : List Chord) (t : ℕ) : Type 0 where
  pub a : ℕ
  pub line : Line 1 a cs
  pub reached : t ≤ max b a
  pub begun : b ≤ t
  pub inside : t ≤ e
  pub first : 0 < length cs → b < (chord_of cs 0).end

-- what is to be written of them, and what that leaves
abbrev pub coming : ℕ → ℕ → ℕ → List Chord → ℕ → List Item
coming p b e cs t = filled p b e t (keep (sounds_in b e) cs)

abbrev pub coming_left : ℕ → ℕ → ℕ → List Chord → ℕ → ℕ
coming_left p b e cs t = filled_left p b e t (keep (sounds_in b e) cs)

line_drop : (a : ℕ) (cs : List Chord) (i : ℕ) → Line 1 a cs → (c : ℕ) × Line 1 c (drop i cs)
line_drop a cs zero l = (a, l)
line_drop a [] (suc i) l = (a, tt)
line_drop a (c ∷ cs) (suc i) l = line_drop c.end cs i l.2

first_dropped : (cs : List Chord) (i : ℕ) → 0 < length (drop i cs) → (i < length cs) × (chord_of (drop i cs) 0 ≡ chord_of cs i)
first_dropped cs i h = (let k : 0 < length cs - i = rw length-drop at h in omega arith, get_or-drop i cs 0 no_chord ∙ rw add-zero)

pub ahead_start : {b e : ℕ} {cs : List Chord} {i : ℕ} → b < e → Line 1 0 cs → Skipped b cs i → Ahead b e (drop i cs) b
ahead_start {b} {e} {cs} {i} bar l s =
    let d = line_drop 0 cs i l in
    record {
      a = d.0;
      line = d.1;
      reached = omega arith;
      begun = omega arith;
      inside = omega arith;
      first = λ h. let f = first_dropped cs i h in rw f.1 (s.here f.0);
    }

-- only rests are ahead
pub record OnlyRests (p b e : ℕ) (cs : List Chord) (t : ℕ) : Type 0 where
  pub items : coming p b e cs t ≡ rests p (e - t)
  pub left : coming_left p b e cs t ≡ rests_left p (e - t)

only_rests : (p b e : ℕ) (cs : List Chord) (t : ℕ) → keep (sounds_in b e) cs ≡ [] → OnlyRests p b e cs t
unfolding filled filled_left
only_rests p b e cs t none = record { items = rw none; left = rw none }

-- no chord is left
pub ahead_none : (p b e t : ℕ) (cs : List Chord) (j : ℕ) → length cs ≤ j → OnlyRests p b e (drop j cs) t
unfolding keep
ahead_none p b e t cs j h = only_rests p b e (drop j cs) t (rw (drop_of_length-le cs h))

-- chord j is the next
module _ {b e t : ℕ} (cs : List Chord) (j : ℕ) (h : j < length cs) (g : Ahead b e (drop j cs) t) where
  next : drop j cs ≡ chord_of cs j ∷ drop (j + 1) cs
  next = drop-cons cs j no_chord h ∙ rw add-one

  here : Ahead b e (chord_of cs j ∷ drop (j + 1) cs) t
  here = rw next at g

  open? : b < (chord_of cs j).end
  open? = here.first (omega arith)

  pub ahead_late : (p : ℕ) → e ≤ (chord_of cs j).start → OnlyRests p b e (drop j cs) t
  ahead_late p late =
      only_rests p b e (drop j cs) t (rw (next) (keep_late b e (chord_of cs j) (drop (j + 1) cs) here.line late))

  pub ahead_gap : t ≤ max b (chord_of cs j).start
  ahead_gap = let l : here.a ≤ (chord_of cs j).start = here.line.0 in omega (arith, here.reached)

  module _ (early : (chord_of cs j).start < e) where
    pub ahead_sounds : b < e → Sounding (record { start = b; end = e }) (chord_of cs j)
    ahead_sounds bar = record { some_bar = bar; long = here.line.1.long; early = early; late = open? }

    kept : keep (sounds_in b e) (drop j cs) ≡ chord_of cs j ∷ keep (sounds_in b e) (drop (j + 1) cs)
    kept = rw next (keep_here b e (chord_of cs j) (drop (j + 1) cs) open? early)

    pub ahead_more : (p : ℕ) → coming p b e (drop j cs) t ≡ gap_and_chord p b e t (chord_of cs j) ++ coming p b e (drop (j + 1) cs) (min e (chord_of cs j).end)
    unfolding filled gap_and_chord
    ahead_more p = rw kept (sym (append_assoc (rests p (max b (chord_of cs j).start - t)) (chord_in p b e (chord_of cs j)) _))

    pub ahead_more_left : (p : ℕ)
        → coming_left p b e (drop j cs) t ≡ gap_and_chord_left p b e t (chord_of cs j) + coming_left p b e (drop (j + 1) cs) (min e (chord_of cs j).end)
    unfolding filled_left gap_and_chord_left
    ahead_more_left p = rw kept (omega arith)

    pub ahead_next : Ahead b e (drop (j + 1) cs) (min e (chord_of cs j).end)
    ahead_next =
        record {
          a = (chord_of cs j).end;
          line = here.line.2;
          reached = omega (arith, open?);
          begun = omega (arith, open?, g.begun, g.inside);
          inside = omega arith;
          first = later_open (chord_of cs j).end (drop (j + 1) cs) here.line.2 open?;
        }
      where
        later_open : (a : ℕ) (ds : List Chord) → Line 1 a ds → b < a → 0 < length ds → b < (chord_of ds 0).end
        later_open a [] l o k = absurd (omega arith)
        later_open a (d ∷ ds) l o k = let long : d.start < d.end = l.1.long in omega (arith, l.0)

-- ---- a voice in which nothing sounds

pub sounding_any : {b e : ℕ} {cs : List Chord} {i : ℕ} → b < e → Line 1 0 cs → Skipped b cs i
    → any (sounds_in b e) cs ≡ (ltb i (length cs) && ltb (chord_of cs i).start e)
unfolding keep
sounding_any {b} {e} {cs} {i} bar l s =
    any_kept (sounds_in b e) cs
    ∙ rw (keep_past b e s.past)
    (elim (by_lt i (length cs)) [
      | inl h ↦
          elim (by_lt (chord_of cs i).start e) [
            | inl early ↦ rw (
              next cs i h g,
              keep_here b e (chord_of cs i) (drop (i + 1) cs) (open? cs i h g) early,
              lt-ltb i (length cs) h,
              lt-ltb (chord_of cs i).start e early,
            )
            | inr late ↦ rw (
              next cs i h g,
              keep_late b e (chord_of cs i) (drop (i + 1) cs) (here cs i h g).line late,
              le-ltb (chord_of cs i).start e late,
              and-false (ltb i (length cs)),
            )
          ]
      | inr h ↦ rw (drop_of_length-le cs h, le-ltb i (length cs) h)
    ])
  where
    g : Ahead b e (drop i cs) b
    g = ahead_start bar l s
