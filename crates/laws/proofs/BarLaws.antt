-- Bars: section 4's bars follow one another, and every bar lies before the last bar's end.
use Prim.Native.Nat.{ℕ, zero, suc, ◌+◌, ◌*◌, ◌/◌, ◌≤◌, ◌<◌, ◌^◌, max}
use mathlib.Core.Bool.{Bool, false}
use mathlib.Core.List.{List, [], ◌∷◌, map}
use mathlib.Core.Logic.{◌⊎◌, inl, inr}
use mathlib.Core.Path.{◌≡◌, refl, ap}
use lib.Dec.{eqb, leb}
use lib.ListN.{length, length-map}
use native.Mathlib.Nat.{mod-lt, mul-le-mul_left, div-le_self}
use native.Mathlib.Omega.{arith}
use borrow.Author.Tests.{le-leb, lt-leb}
use Rattle.rules.specs.Lists.{first_or, last_or, keep, sum, All}
use Rattle.rules.specs.Piece.{Piece, Event}
use Rattle.rules.specs.Changes.{Change, Meter, Key, meter_changes, first_meter, common_time, tempo_changes, key_changes}
use Rattle.rules.specs.Bars.{Bar, bar_length, bar_end, meter_at, bars_from, end_of_piece, bars_up_to, last_bar_end, printed, printed_from, marks_from, starts_of, marks_in}
use Rattle.rules.specs.Voices.{Chord}
use Rattle.rules.specs.Staff.{voice_in, voices_in, voice_left, voices_left}
use Rattle.laws.specs.Claims.{BarsStop}
use Rattle.laws.specs.Lines.{Consecutive}
use Rattle.laws.proofs.Lists.{All-map, All-keep, All-all}
use Rattle.laws.proofs.Order.{by_lt}

-- ---- the bars of a meter

-- the bar at tick t
abbrev pub bar_at : ℕ → (ℕ → Meter) → ℕ → Bar
bar_at p m t = record { start = t; len = bar_length p (m t); meter = m t }

pub bars_none : (p : ℕ) (m : ℕ → Meter) (end t : ℕ) → bars_from zero p m end t ≡ []
unfolding bars_from
bars_none p m end t = refl

module _ (n p : ℕ) (m : ℕ → Meter) (end t : ℕ) where
  pub bars_last : end ≤ t + bar_length p (m t) → bars_from (suc n) p m end t ≡ bar_at p m t ∷ []
  unfolding bars_from
  bars_last h = rw (le-leb end (t + bar_length p (m t)) h)

  pub bars_more : t + bar_length p (m t) < end
      → bars_from (suc n) p m end t ≡ bar_at p m t ∷ bars_from n p m end (t + bar_length p (m t))
  unfolding bars_from
  bars_more h = rw (lt-leb end (t + bar_length p (m t)) h)

  -- the first bar is always there
  pub bars_some : 0 < length (bars_from (suc n) p m end t)
  unfolding bars_from
  bars_some = omega arith

pub bars_consecutive : (n p : ℕ) (m : ℕ → Meter) (end t : ℕ) → Consecutive t (bars_from n p m end t)
bars_consecutive zero p m end t = rw (bars_none p m end t) tt
bars_consecutive (suc n) p m end t =
    elim (by_lt (t + bar_length p (m t)) end) [
      | inl h ↦ rw (bars_more n p m end t h) (refl, omega arith, bars_consecutive n p m end (t + bar_length p (m t)))
      | inr h ↦ rw (bars_last n p m end t h) (refl, omega arith, tt)
    ]

-- ---- how long

abbrev SmallMeter : Meter → Type 0
SmallMeter m = m.upper < 256

first_small : (m : Meter) (ms : List Meter) → SmallMeter m → All SmallMeter ms → SmallMeter (first_or m ms)
first_small m [] h hs = h
first_small m (x ∷ xs) h hs = hs.0

last_small : (m : Meter) (ms : List Meter) → SmallMeter m → All SmallMeter ms → SmallMeter (last_or m ms)
last_small m [] h hs = h
last_small m (x ∷ xs) h hs = last_small x xs hs.0 hs.1

abbrev SmallChange : Change Meter → Type 0
SmallChange c = SmallMeter c.to

kept_small : (f : Change Meter → Bool) (cs : List (Change Meter)) → All SmallChange cs → All SmallMeter (map (λ (c : Change Meter). c.to) (keep f cs))
kept_small f cs h = All-map SmallMeter (λ (c : Change Meter). c.to) (λ c k. k.0) (keep f cs) (All-keep SmallChange f cs h)

-- upper figures are bytes
changes_small : (es : List Event) → All SmallChange (meter_changes es)
changes_small es =
    All-map {P = λ (e : Event). Unit {0}} SmallChange _ (λ e _. mod-lt (e.word / 2 ^ 16) (omega arith)) (keep _ es) (All-all (λ e. tt) (keep _ es))

pub meter_small : (es : List Event) (t : ℕ) → (meter_at (meter_changes es) (first_meter es) t).upper < 256
meter_small es t =
    let cs : List (Change Meter) = meter_changes es in
    let all : All SmallChange cs = changes_small es in
    let zero? : Change Meter → Bool = λ c. eqb c.tick 0 in
    let past? : Change Meter → Bool = λ c. leb c.tick t in
    last_small (first_meter es) (map (λ (c : Change Meter). c.to) (keep past? cs))
    (first_small common_time (map (λ (c : Change Meter). c.to) (keep zero? cs)) (omega arith) (kept_small zero? cs all))
    (kept_small past? cs all)

-- so that a bar is short
pub bar_short : (p : ℕ) (m : Meter) → m.upper < 256 → bar_length p m ≤ max 1 (1020 * p)
bar_short p m k =
    let l : 4 * p * m.upper ≤ 4 * p * 255 = mul-le-mul_left (4 * p) (omega arith) in
    omega (arith, div-le_self (4 * p * m.upper) m.lower)

-- bars of meters that make short bars
pub bars_few_long : (most n p : ℕ) (m : ℕ → Meter) → ((t : ℕ) → bar_length p (m t) ≤ most) → (end t : ℕ)
    → All (λ (b : Bar). b.len ≤ most) (bars_from n p m end t)
bars_few_long most zero p m short end t = rw (bars_none p m end t) tt
bars_few_long most (suc n) p m short end t =
    elim (by_lt (t + bar_length p (m t)) end) [
      | inl h ↦ rw (bars_more n p m end t h) (short t, bars_few_long most n p m short end (t + bar_length p (m t)))
      | inr h ↦ rw (bars_last n p m end t h) (short t, tt)
    ]

-- ---- where the bars stop

-- no more bars than the limit
bars_few : (n p : ℕ) (m : ℕ → Meter) (end t : ℕ) → length (bars_from n p m end t) ≤ n
bars_few zero p m end t = rw (bars_none p m end t) (omega arith)
bars_few (suc n) p m end t =
    elim (by_lt (t + bar_length p (m t)) end) [
      | inl h ↦ rw (bars_more n p m end t h) (omega (arith, bars_few n p m end (t + bar_length p (m t))))
      | inr h ↦ rw (bars_last n p m end t h) (omega arith)
    ]

-- with fewer the end is reached; d is the end of the bar before
bars_reach : (n p : ℕ) (m : ℕ → Meter) (end t d : ℕ) → length (bars_from n p m end t) < n → end ≤ last_or d (map bar_end (bars_from n p m end t))
bars_reach zero p m end t d few = absurd (omega arith)
bars_reach (suc n) p m end t d few =
    elim (by_lt (t + bar_length p (m t)) end) [
      | inl h ↦
          let fewer : length (bars_from n p m end (t + bar_length p (m t))) < n = omega (arith, rw (bars_more n p m end t h) at few) in
          rw (bars_more n p m end t h) (bars_reach n p m end (t + bar_length p (m t)) (t + bar_length p (m t)) fewer)
      | inr h ↦ rw (bars_last n p m end t h) h
    ]

-- a bar behind the first starts before the end
bars_start : (n p : ℕ) (m : ℕ → Meter) (end t : ℕ) → (t ≡ 0) ⊎ (t < end)
    → All (λ (b : Bar). (b.start ≡ 0) ⊎ (b.start < end)) (bars_from n p m end t)
bars_start zero p m end t first = rw (bars_none p m end t) tt
bars_start (suc n) p m end t first =
    elim (by_lt (t + bar_length p (m t)) end) [
      | inl h ↦ rw (bars_more n p m end t h) (first, bars_start n p m end (t + bar_length p (m t)) (inr h))
      | inr h ↦ rw (bars_last n p m end t h) (first, tt)
    ]

pub bars_stop : (x : Piece) → BarsStop x
unfolding bars_up_to
bars_stop x =
    record {
      most = bars_few 10000 _ _ _ 0;
      reached = bars_reach 10000 _ _ (end_of_piece x) 0 0;
      before = bars_start 10000 _ _ (end_of_piece x) 0 (inl refl);
    }

-- ---- the last bar's end

abbrev pub lengths : List Bar → List ℕ
lengths bs = map (λ (b : Bar). b.len) bs

last_from : (t : ℕ) (bs : List Bar) → Consecutive t bs → last_or t (map bar_end bs) ≡ t + sum (lengths bs)
unfolding sum
last_from t [] h = omega arith
last_from t (b ∷ bs) h = omega (arith, last_from (bar_end b) bs h.2)

-- a row of bars from tick 0
pub last_bar_end_from_zero : (bs : List Bar) → Consecutive 0 bs → last_bar_end bs ≡ sum (lengths bs)
last_bar_end_from_zero bs h = omega (arith, last_from 0 bs h)

-- a row of bars from any tick
pub last_bar_end_from : (t : ℕ) (bs : List Bar) → 0 < length bs → Consecutive t bs → last_bar_end bs ≡ t + sum (lengths bs)
last_bar_end_from t [] some h = absurd (omega arith)
last_bar_end_from t (b ∷ bs) some h = last_from t (b ∷ bs) h

bars_before : (e t : ℕ) (bs : List Bar) → t + sum (lengths bs) ≤ e → Consecutive t bs
    → All (λ (b : Bar). (b.start < e) × (bar_end b ≤ e)) bs
unfolding sum
bars_before e t [] room h = tt
bars_before e t (b ∷ bs) room h = ((omega arith, omega arith), bars_before e (bar_end b) bs (omega arith) h.2)

-- a bar starts before the last bar's end, and ends there at the latest
pub last_bar_end_lem : (t : ℕ) (bs : List Bar) → Consecutive t bs
    → All (λ (b : Bar). (b.start < last_bar_end bs) × (bar_end b ≤ last_bar_end bs)) bs
last_bar_end_lem t [] h = tt
last_bar_end_lem t (b ∷ bs) h =
    bars_before (last_bar_end (b ∷ bs)) t (b ∷ bs) (omega (arith, last_from t (b ∷ bs) h)) h

-- a bar has as many voices as the staff
pub bar_length_lem : (p : ℕ) (vs : List (List Chord)) (b : Bar) → length (voices_in p vs b) ≡ length vs
bar_length_lem p [] b = refl
bar_length_lem p (v ∷ vs) b = ap suc (length-map vs (voice_in p false b))

-- and as many leftovers
pub bar_left_length : (p : ℕ) (vs : List (List Chord)) (b : Bar) → length (voices_left p vs b) ≡ length vs
bar_left_length p [] b = refl
bar_left_length p (v ∷ vs) b = ap suc (length-map vs (voice_left p false b))

-- ---- what is given of them

-- one mark a bar
printed_length : (m : Meter) (bs : List Bar) → length (printed_from m bs) ≡ length bs
unfolding printed_from
printed_length m [] = refl
printed_length m (b ∷ bs) = let h = printed_length b.meter bs in omega arith

marks_from_lem : (ts : List (Change ℕ)) (ks : List (Change Key)) (bs : List Bar) (ps : List Bool) → length ps ≡ length bs
    → length (marks_from ts ks bs ps) ≡ length bs
unfolding marks_from
marks_from_lem ts ks [] ps h = refl
marks_from_lem ts ks (b ∷ bs) [] h = absurd (omega arith)
marks_from_lem ts ks (b ∷ bs) (p ∷ ps) h = let r = marks_from_lem ts ks bs ps (omega arith) in omega arith

all_printed : (bs : List Bar) → length (printed bs) ≡ length bs
all_printed [] = refl
all_printed (b ∷ bs) = let h = printed_length b.meter bs in omega arith

pub marks_length : (es : List Event) (bs : List Bar) → length (marks_in es bs) ≡ length bs
marks_length es bs = marks_from_lem (tempo_changes es) (key_changes es) bs (printed bs) (all_printed bs)

pub starts_length : (bs : List Bar) → length (starts_of bs) ≡ length bs
starts_length bs = length-map bs _
