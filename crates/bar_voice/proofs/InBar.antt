-- A voice half written in a bar: items up to a chord, and those of the chords ahead.
use Prim.Native.Nat.{ℕ, ◌+◌, ◌-◌, ◌≤◌, ◌<◌, min, max}
use mathlib.Core.Bool.{Bool}
use mathlib.Core.List.{List}
use mathlib.Core.Path.{◌≡◌, sym, ap, ◌∙◌}
use native.Mathlib.Nat.{zero-add}
use native.Mathlib.Omega.{arith}
use lib.ListN.{length, drop}
use Rattle.rules.specs.Staff.{rests, filled, rests_left, filled_left}
use Rattle.rules.specs.Voices.{Chord}
use Rattle.laws.specs.Lines.{Line}
use Rattle.values.specs.declared.Split.{Split}
use Rattle.items.specs.Writing.{Room, Pushed, start_at}
use Rattle.items.proofs.Appending.{Going, going_start, going_heads, going_keys, going_room, going_more, going_end, going_left}
use Rattle.items.proofs.Spans.{left_few}
use Rattle.bar_voice.specs.Voices.{chord_of, Skipped, filled_from, gap_and_chord, filled_left_from, gap_and_chord_left}
use Rattle.bar_voice.proofs.Sounding.{keep_past, Ahead, coming, coming_left, OnlyRests, ahead_start, ahead_gap, ahead_sounds}
use Rattle.bar_voice.proofs.Sounding.{ahead_more, ahead_more_left, ahead_next}

-- the bar goes from b to e; the items up to tick t are written, those ticks of them that no item took are counted, and chord j is the next
pub record Midbar (w : Bool) (p b e : ℕ) (cs : List Chord) (from : ℕ) (heads₀ keys₀ heads₁ keys₁ : List ℕ) (s : Split) (t j : ℕ) : Type 0 where
  pub within : j ≤ length cs
  pub ahead : Ahead b e (drop j cs) t
  pub going : Going w (filled_from p b e cs) (coming p b e (drop j cs) t) from heads₀ keys₀ heads₁ keys₁ s.at
  pub leaves : s.left + coming_left p b e (drop j cs) t ≡ filled_left_from p b e cs
  pub few : s.left ≤ t

pub mid_start : (w : Bool) (p : ℕ) {b e : ℕ} {cs : List Chord} {i : ℕ} (from : ℕ) (heads keys : List ℕ) → b < e → Line 1 0 cs → Skipped b cs i
    → Midbar w p b e cs from heads keys heads keys (start_at from) b i
mid_start w p {b} {e} {cs} {i} from heads keys bar l s =
    record {
      within = s.past.within;
      ahead = ahead_start bar l s;
      going = rw (← ap (filled p b e b) (keep_past b e s.past)) (going_start w (filled_from p b e cs) from heads keys);
      leaves = zero-add _ ∙ sym (ap (filled_left p b e b) (keep_past b e s.past));
      few = omega arith;
    }

module _ {w : Bool} {p b e : ℕ} {cs : List Chord} {from : ℕ} {heads₀ keys₀ heads₁ keys₁ : List ℕ} {s : Split} {t j : ℕ}
    (room : Room w (length (filled_from p b e cs)) from heads₀ keys₀) (m : Midbar w p b e cs from heads₀ keys₀ heads₁ keys₁ s t j) where
  pub mid_heads : length heads₁ ≡ length heads₀
  mid_heads = going_heads room m.going

  pub mid_keys : length keys₁ ≡ length keys₀
  mid_keys = going_keys room m.going

  -- the bar's end is in range, and so is what is left with the last gap's ticks
  pub mid_fits : (most : ℕ) → e < most → s.left + (e - t) < most
  mid_fits most h = omega (arith, m.few, m.ahead.inside)

  -- only rests are left
  module _ (only : OnlyRests p b e (drop j cs) t) where
    pub mid_rest : Room w (length (rests p (e - t))) s.at heads₁ keys₁
    mid_rest = rw only.items at (going_left room m.going)

    pub mid_end : {heads₂ keys₂ : List ℕ} {r : Split} → Pushed w (rests p (e - t)) (rests_left p (e - t)) s heads₁ keys₁ heads₂ keys₂ r
        → Pushed w (filled_from p b e cs) (filled_left_from p b e cs) (start_at from) heads₀ keys₀ heads₂ keys₂ r
    mid_end put =
        record {
          items = going_end room (rw only.items at m.going) put.items;
          left = omega (arith, put.left, only.left, m.leaves);
        }

  -- chord j sounds
  module _ (h : j < length cs) (early : (chord_of cs j).start < e) where
    pub mid_room : Room w (length (gap_and_chord p b e t (chord_of cs j))) s.at heads₁ keys₁
    mid_room = going_room room m.going (gap_and_chord p b e t (chord_of cs j)) _ (ahead_more cs j h m.ahead early p)

    pub mid_more : {heads₂ keys₂ : List ℕ} {r : Split} → 0 < p → b < e
        → Pushed w (gap_and_chord p b e t (chord_of cs j)) (gap_and_chord_left p b e t (chord_of cs j)) s heads₁ keys₁ heads₂ keys₂ r
        → Midbar w p b e cs from heads₀ keys₀ heads₂ keys₂ r (min e (chord_of cs j).end) (j + 1)
    unfolding gap_and_chord_left
    mid_more {r = r} some_ticks bar put =
        record {
          within = omega arith;
          ahead = ahead_next cs j h m.ahead early;
          going = going_more room m.going (gap_and_chord p b e t (chord_of cs j)) _ (ahead_more cs j h m.ahead early p) put.items;
          leaves = omega (arith, put.left, ahead_more_left cs j h m.ahead early p, m.leaves);
          few =
              let sounds = ahead_sounds cs j h m.ahead early bar in
              sum_few s.left r.left t (max b (chord_of cs j).start) (min e (chord_of cs j).end) m.few (ahead_gap cs j h m.ahead)
              (omega (arith, sounds.long, sounds.late))
              put.left (left_few p (max b (chord_of cs j).start - t) some_ticks) (left_few p _ some_ticks);
        }
      where
        sum_few : (l r t m n : ℕ) {x y : ℕ} → l ≤ t → t ≤ m → m ≤ n → r ≡ l + (x + y) → x ≤ m - t → y ≤ n - m → r ≤ n
        sum_few l r t m n h k o e x y = omega arith
