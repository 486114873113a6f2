-- Notes that are off the grid are counted one by one, and bars are measured one by one.
use Prim.Native.Nat.{ℕ, ◌+◌, ◌-◌, ◌/◌, ◌%◌, ◌^◌, ◌≤◌, ◌<◌}
use mathlib.Core.Bool.{Bool, true, false, ◌&&◌, and_assoc, and-true}
use mathlib.Core.List.{List, [], ◌∷◌, map}
use mathlib.Core.Logic.{inl, inr}
use mathlib.Core.Path.{◌≡◌, refl, sym, ap, ◌∙◌}
use native.Mathlib.Omega.{arith}
use borrow.Author.Tests.{lt-ltb, le-ltb}
use lib.Dec.{eqb, ltb}
use lib.ListN.{length}
use mir.Val.{bool_byte}
use Rattle.rules.specs.Lists.{every, keep, last_or, flag}
use Rattle.rules.specs.Bars.{Bar, bar_end, bars_in, last_bar_end}
use Rattle.rules.specs.Grid.{sixteenth, is_off_grid, off_count}
use Rattle.laws.proofs.Order.{by_bool}
use Rattle.track_events.specs.Track.{events_of}
use Rattle.bar_walk.specs.declared.Walker.{Walker}
use Rattle.bar_walk.specs.Steps.{next_of}
use Rattle.bar_walk.specs.Walk.{first_walker, Settled}
use Rattle.bar_walk.proofs.WalkLaws.{Walking, walking_start, walking_on, bar_of, bars_ahead, ahead_all, ahead_last, ahead_more, ahead_end}
use Rattle.proofread_notes.specs.Columns.{raw_at}
use Rattle.proofread_notes.proofs.Rests.{rest_of, rest_all, rest_cons, rest_none}
use Rattle.proofread_staff.specs.Staffs.{raws_at, with_bar, Measures}
use Rattle.proofread_staff.specs.declared.Measured.{Measured}

-- ---- notes off the grid

module _ (p n m : ℕ) (w : List ℕ) where
  -- those from note i on
  abbrev pub off_left : ℕ → ℕ
  off_left i = off_count p (rest_of (raw_at n w) m i)

  pub off_all : off_left 0 ≡ off_count p (raws_at n m w)
  off_all = ap (off_count p) (sym (rest_all (raw_at n w) m))

  pub off_one : (i : ℕ) → i < m → off_left i ≡ flag (is_off_grid p (raw_at n w i).start) + off_left (i + 1)
  unfolding keep
  off_one i h =
      rw (rest_cons (raw_at n w) m i h)
      (elim (by_bool (is_off_grid p (raw_at n w i).start)) [ inl t ↦ rw t (omega arith) | inr t ↦ rw t (omega arith) ])

  pub off_none : (i : ℕ) → m ≤ i → off_left i ≡ 0
  unfolding keep
  off_none i h = rw (rest_none (raw_at n w) m i h)

-- ---- bars

-- a bar's length is a multiple of u
abbrev pub even : ℕ → Bar → Bool
even u b = eqb (b.len % u) 0

pub record Measuring (ds ws : List ℕ) (p end limit u : ℕ) (walker : Walker) (x : Measured) : Type 0 where
  pub walking : Walking ds ws p walker
  pub few : x.bars ≤ limit
  pub reached : x.end ≡ walker.start
  pub bars : x.bars + length (bars_ahead ds ws end (limit - x.bars) walker) ≡ length (bars_in limit p (events_of ds ws) end)
  pub last : last_or x.end (map bar_end (bars_ahead ds ws end (limit - x.bars) walker)) ≡ last_bar_end (bars_in limit p (events_of ds ws) end)
  pub evens : (x.even && every (even u) (bars_ahead ds ws end (limit - x.bars) walker)) ≡ every (even u) (bars_in limit p (events_of ds ws) end)

module _ {ds ws : List ℕ} {p end limit u : ℕ} where
  pub measuring_start : {walker : Walker} → Settled ds ws (first_walker ds ws p) walker
      → Measuring ds ws p end limit u walker (record { bars = 0; end = 0; even = true })
  measuring_start s =
      let all = ahead_all end limit p s in
      record {
        walking = walking_start s;
        few = omega arith;
        reached = sym s.same.start;
        bars = omega (arith, ap length all);
        last = ap (λ (bs : List Bar). last_or 0 (map bar_end bs)) all;
        evens = ap (every (even u)) all;
      }

  module _ {walker : Walker} {x : Measured} (now : Measuring ds ws p end limit u walker x) where
    pub measuring_end : limit ≤ x.bars → Measures limit (bars_in limit p (events_of ds ws) end) u x
    unfolding every
    measuring_end h =
        let none = ahead_end ds ws walker end h in
        record {
          bars = omega (arith, now.bars, ap length none);
          few = now.few;
          end = rw none at now.last;
          even = sym (and-true x.even) ∙ rw none at now.evens;
        }

    module _ (h : x.bars < limit) (len : ℕ) (long : len ≡ (bar_of walker).len) where
      -- one bar in front of those that follow
      evens_step : (bs : List Bar) → bars_ahead ds ws end (limit - x.bars) walker ≡ bar_of walker ∷ bs
          → ((x.even && eqb (len % u) 0) && every (even u) bs) ≡ every (even u) (bars_in limit p (events_of ds ws) end)
      unfolding every
      evens_step bs q =
          rw long
          (and_assoc x.even (eqb ((bar_of walker).len % u) 0) (every (even u) bs)
          ∙ sym (ap (λ (l : List Bar). x.even && every (even u) l) q)
          ∙ now.evens)

      pub measuring_last : end ≤ (next_of walker).start → Measures limit (bars_in limit p (events_of ds ws) end) u (with_bar x len (next_of walker).start u)
      unfolding every
      measuring_last o =
          let q = ahead_last now.walking.bar end h o in
          record {
            bars = omega (arith, now.bars, ap length q);
            few = omega arith;
            end = rw q at now.last;
            even = sym (and-true (x.even && eqb (len % u) 0)) ∙ evens_step [] q;
          }

      pub measuring_more : {next : Walker} → end < 2 ^ 48 → Settled ds ws (next_of walker) next → (next_of walker).start < end
          → Measuring ds ws p end limit u next (with_bar x len (next_of walker).start u)
      measuring_more {next} small s on =
          let q = ahead_more now.walking.bar end h s on in
          record {
            walking = walking_on now.walking s end small on;
            few = omega arith;
            reached = sym s.same.start;
            bars = omega (arith, now.bars, ap length q);
            last = sym (ap (λ (l : List Bar). last_or x.end (map bar_end l)) q) ∙ now.last;
            evens = evens_step (bars_ahead ds ws end (limit - (x.bars + 1)) next) q;
          }

-- the next bar's start less the bar's is the bar's length
pub long : (w : Walker) → (next_of w).start - w.start ≡ (bar_of w).len
long w = omega arith

-- ---- a start off the grid, q being the sixteenth
module _ (p start q : ℕ) (e : q ≡ sixteenth p) where
  pub off_by : q / 4 < start % q → ltb (start % q) (q - q / 4) ≡ is_off_grid p start
  unfolding is_off_grid
  off_by h = rw (← e, lt-ltb (q / 4) (start % q) h)

  pub on_by : start % q ≤ q / 4 → ltb (q / 4) (start % q) ≡ is_off_grid p start
  unfolding is_off_grid
  on_by h = rw (← e, le-ltb (q / 4) (start % q) h)

-- ---- a flag as a number
pub byte_flag : (b : Bool) → bool_byte b ≡ flag b
byte_flag true = refl
byte_flag false = refl

pub byte_one : (b : Bool) → bool_byte b ≤ 1
byte_one true = omega arith
byte_one false = omega arith
