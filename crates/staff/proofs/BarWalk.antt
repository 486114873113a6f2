-- A bar half written: the voices up to one, and those ahead.
use Prim.Native.Nat.{ℕ, ◌+◌, ◌-◌, ◌*◌, ◌≤◌, ◌<◌}
use mathlib.Core.Bool.{Bool, true, false}
use mathlib.Core.List.{List, [], ◌∷◌, ◌++◌, map, flatten, map-append}
use mathlib.Core.Logic.{inl, inr}
use mathlib.Core.Path.{◌≡◌, refl, sym, ap, ◌∙◌}
use native.Mathlib.Numerals.{add-one}
use native.Mathlib.Omega.{arith}
use lib.Dec.{eqb}
use lib.ListN.{length, get_or, set, length-map, length-set}
use lib.Seq.{set_split, drop-drop, get_or-set_same, get_or-set_other}
use Rattle.rules.specs.Items.{Item}
use Rattle.laws.specs.Sort.{count}
use Rattle.laws.proofs.Order.{by_eq}
use Rattle.laws.proofs.Sort.{count_cons, count_none}
use Rattle.laws.specs.Places.{up_to}
use Rattle.laws.proofs.Places.{up_to_length, up_to_more}
use Rattle.items.specs.declared.Measure.{Measure}
use Rattle.items.specs.Putting.{Put}
use Rattle.items.proofs.Putting.{put_none, put_length, put_append}
use Rattle.items.proofs.Appending.{Going, going_start, going_room, going_more, going_done, going_heads, going_keys}
use Rattle.staff.specs.declared.Engraving.{Engraving}
use Rattle.staff.specs.declared.Reached.{Reached}
use Rattle.bar_voice.specs.Voices.{voice_of}
use Rattle.staff.specs.Bars.{CanCount, Counted, bar_voice, bar_voices, bar_left, AllPast, CanPush, BarPut}

-- one word, written or not
pub put_one : (x at : ℕ) (l : List ℕ) → at < length l → Put true (x ∷ []) at l (set l at x)
put_one x at l h = record { is = set_split l at x h ∙ rw drop-drop (rw add-one) }

pub put_no : (x at : ℕ) (l : List ℕ) → Put false (x ∷ []) at l l
put_no x at l = record { is = refl }

-- what f gives at v to 3, one after the other
abbrev ahead : (ℕ → List Item) → ℕ → List Item
ahead f v = flatten (map f (count v (4 - v)))

ahead_one : (f : ℕ → List Item) (v : ℕ) → v < 4 → ahead f v ≡ f v ++ ahead f (v + 1)
unfolding flatten
ahead_one f v h = rw (count_cons v 4 h)

ahead_no : (f : ℕ → List Item) (v : ℕ) → 4 ≤ v → ahead f v ≡ []
unfolding flatten
ahead_no f v h = rw (count_none v 4 h)

-- the voices before v are written
module _ (write : Bool) (p n : ℕ) (w lens : List ℕ) (bar : Measure) (s : Engraving) (counts₀ heads₀ keys₀ leftovers₀ : List ℕ) where
  abbrev in_bar : ℕ → List Item
  in_bar v = bar_voice p n w lens bar.start bar.end v

  abbrev left_in_bar : ℕ → ℕ
  left_in_bar v = bar_left p n w lens bar.start bar.end v

  pub record Midway (counts₁ heads₁ keys₁ leftovers₁ nexts₁ : List ℕ) (at v : ℕ) : Type 0 where
    pub within : v ≤ 4
    pub four : length nexts₁ ≡ 4
    pub nexts : AllPast n w lens bar.start nexts₁
    pub going : Going write (flatten (bar_voices p n w lens bar.start bar.end)) (ahead in_bar v) s.items heads₀ keys₀ heads₁ keys₁ at
    pub counts : Put write (map length (up_to in_bar v)) (4 * s.bars) counts₀ counts₁
    pub leftovers : Put write (up_to left_in_bar v) (4 * s.bars) leftovers₀ leftovers₁

  module _ (can : CanPush write p n w lens bar s counts₀ heads₀ keys₀ leftovers₀) where
    pub midway_start : Midway counts₀ heads₀ keys₀ leftovers₀ s.nexts s.items 0
    unfolding count
    midway_start =
        record {
          within = omega arith;
          four = can.four;
          nexts = can.nexts;
          going = going_start write _ s.items heads₀ keys₀;
          counts = put_none write (4 * s.bars) counts₀;
          leftovers = put_none write (4 * s.bars) leftovers₀;
        }

    module _ {counts₁ heads₁ keys₁ leftovers₁ nexts₁ : List ℕ} {at v : ℕ} (m : Midway counts₁ heads₁ keys₁ leftovers₁ nexts₁ at v) where
      so_many : length (map length (up_to in_bar v)) ≡ v
      so_many = length-map (up_to in_bar v) length ∙ up_to_length in_bar v

      counts_fit : write ≡ true → 4 * s.bars + length (map length (up_to in_bar v)) ≤ length counts₀
      counts_fit e = omega (arith, can.counts_fit e, so_many, m.within)

      leftovers_fit : write ≡ true → 4 * s.bars + length (up_to left_in_bar v) ≤ length leftovers₀
      leftovers_fit e = omega (arith, can.leftovers_fit e, up_to_length left_in_bar v, m.within)

      -- the outputs keep their lengths
      pub midway_counts : length counts₁ ≡ length counts₀
      midway_counts = put_length write counts_fit m.counts

      pub midway_heads : length heads₁ ≡ length heads₀
      midway_heads = going_heads can.room m.going

      pub midway_keys : length keys₁ ≡ length keys₀
      midway_keys = going_keys can.room m.going

      pub midway_leftovers : length leftovers₁ ≡ length leftovers₀
      midway_leftovers = put_length write leftovers_fit m.leftovers

      module _ (h : v < 4) where
        -- what `push_counted` asks
        pub midway_can :
            CanCount write p (eqb v 0) (voice_of n w v (get_or lens v 0)) (get_or nexts₁ v 0) bar (4 * s.bars + v) at counts₁ heads₁ keys₁ leftovers₁
        midway_can =
            record {
              some_bar = can.some_bar;
              short = can.short;
              past = m.nexts v h;
              counts_fit = λ e. omega (arith, can.counts_fit e, midway_counts);
              leftovers_fit = λ e. omega (arith, can.leftovers_fit e, midway_leftovers);
              room = going_room can.room m.going (in_bar v) (ahead in_bar (v + 1)) (ahead_one in_bar v h);
            }

        pub midway_more : {counts₂ heads₂ keys₂ leftovers₂ : List ℕ} {r : Reached}
            → Counted write p (eqb v 0) (voice_of n w v (get_or lens v 0)) bar (4 * s.bars + v) at
            counts₁ heads₁ keys₁ leftovers₁ counts₂ heads₂ keys₂ leftovers₂ r
            → Midway counts₂ heads₂ keys₂ leftovers₂ (set nexts₁ v r.next) r.at (v + 1)
        midway_more {r = r} c =
            let place : 4 * s.bars + v ≡ 4 * s.bars + length (map length (up_to in_bar v)) = ap (λ (k : ℕ). 4 * s.bars + k) (sym so_many) in
            let left_place : 4 * s.bars + v ≡ 4 * s.bars + length (up_to left_in_bar v)
            = ap (λ (k : ℕ). 4 * s.bars + k) (sym (up_to_length left_in_bar v)) in
            record {
              within = omega arith;
              four = length-set nexts₁ v r.next ∙ m.four;
              nexts =
                  λ u h'.
                  elim (by_eq u v) [
                    | inl e ↦ rw (e, get_or-set_same nexts₁ v r.next 0 (omega (arith, m.four))) c.past
                    | inr ne ↦ rw (get_or-set_other nexts₁ v u r.next 0 ne) (m.nexts u h')
                  ];
              going = going_more can.room m.going (in_bar v) (ahead in_bar (v + 1)) (ahead_one in_bar v h) c.items;
              counts = rw (up_to_more in_bar v, map-append) (put_append write counts_fit m.counts (rw place at c.counts));
              leftovers = rw (up_to_more left_in_bar v) (put_append write leftovers_fit m.leftovers (rw left_place at c.leftovers));
            }

      pub midway_end : 4 ≤ v → (r : Engraving) → r.bars ≡ s.bars + 1 → r.items ≡ at → r.nexts ≡ nexts₁
          → BarPut write p n w lens bar s counts₀ heads₀ keys₀ leftovers₀ counts₁ heads₁ keys₁ leftovers₁ r
      midway_end h r bars items nexts =
          let all : v ≡ 4 = omega (arith, m.within) in
          record {
            bars = bars;
            four = ap length nexts ∙ m.four;
            nexts = rw nexts m.nexts;
            items = rw items (going_done can.room m.going (ahead_no in_bar v h));
            counts = rw all at m.counts;
            leftovers = rw all at m.leftovers;
          }
