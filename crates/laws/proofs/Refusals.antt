-- The first refusal that applies: how lists of refusals are joined, and what the numbers 1 to 5 leave known of a piece.
use Prim.Native.Nat.{ℕ, suc, ◌+◌, ◌*◌, ◌≤◌, ◌<◌, ◌^◌}
use mathlib.Core.Bool.{true, and-eq-true_iff}
use mathlib.Core.Logic.{inl, inr}
use mathlib.Core.List.{List, [], ◌∷◌, ◌++◌}
use mathlib.Core.Path.{◌≡◌, refl, ap}
use native.Mathlib.Nat.{pos_of_ne-zero}
use native.Mathlib.Omega.{arith}
use borrow.Author.Tests.{ltb-false, leb-true, eqb-true, eqb-false, not-false}
use lib.ListN.{length, take, drop, length-take, length-drop}
use Rattle.rules.specs.Lists.{All, sum, bit}
use Rattle.rules.specs.Piece.{Piece, Event, largest_size, division, track_count, event_counts, sizes_agree, well_formed, timecode, ticks_per_quarter, timed, cut_tracks}
use Rattle.rules.specs.Refusals.{Result, refused, given, answers, Refusal, unless, first_number, event_refusals, piece_refusals, note_refusals, most_events}
use Rattle.rules.specs.Refusals.{part_refusals, largest_delta}
use Rattle.laws.specs.Admitted.{Passes, Admitted, TicksBelow, TicksStayBelow, TicksPerQuarterPositive}
use Rattle.laws.proofs.Order.{by_bool}
use Rattle.laws.proofs.Lists.{All-append, All-left, All-take, All-drop}

module _ {A : Type 0} where
  pub passes_given : (rs : List Refusal) (a : A) → Passes rs → unless rs a ≡ given a
  unfolding unless
  passes_given [] a h = refl
  passes_given (r ∷ rs) a h = rw h.0 (passes_given rs a h.1)

  pub passes_append : (rs ss : List Refusal) (a : A) → Passes rs → unless (rs ++ ss) a ≡ unless ss a
  unfolding unless
  passes_append [] ss a h = refl
  passes_append (r ∷ rs) ss a h = rw h.0 (passes_append rs ss a h.1)

  -- two answers that agree where no refusal applies give the same result
  pub unless_agree : (rs : List Refusal) (a b : A) → (Passes rs → a ≡ b) → unless rs a ≡ unless rs b
  unfolding unless
  unless_agree [] a b h = ap given (h tt)
  unless_agree (r ∷ rs) a b h =
      elim (by_bool r.applies) [ inl t ↦ rw t | inr t ↦ rw t (unless_agree rs a b (λ k. h (t, k))) ]

-- ---- the first number

-- every refusal of a list has a number of its own, not 0
abbrev pub Numbered : List Refusal → Type 0
Numbered rs = All (λ (r : Refusal). 0 < r.number) rs

pub number_none : (rs : List Refusal) → Passes rs → first_number rs ≡ 0
unfolding first_number
number_none [] h = refl
number_none (r ∷ rs) h = rw h.0 (number_none rs h.1)

pub number_passes : (rs : List Refusal) → Numbered rs → first_number rs ≡ 0 → Passes rs
unfolding first_number
number_passes [] n h = tt
number_passes (r ∷ rs) n h =
    elim (by_bool r.applies) [
      | inl t ↦ let z : r.number ≡ 0 = (rw t at h) in absurd (omega (arith, n.0))
      | inr t ↦ (t, number_passes rs n.1 (rw t at h))
    ]

-- a list whose first number is not 0 gives it, whatever follows
pub number_refused : {A : Type 0} (rs ss : List Refusal) (a : A) (k : ℕ) → first_number rs ≡ k → 0 < k → unless (rs ++ ss) a ≡ refused k
unfolding first_number unless
number_refused [] ss a k h l = absurd (omega arith)
number_refused (r ∷ rs) ss a k h l =
    elim (by_bool r.applies) [ inl t ↦ rw t (ap refused (rw t at h)) | inr t ↦ rw t (number_refused rs ss a k (rw t at h) l) ]

pub number_first : (rs ss : List Refusal) (k : ℕ) → first_number rs ≡ k → 0 < k → first_number (rs ++ ss) ≡ k
unfolding first_number
number_first [] ss k h l = absurd (omega arith)
number_first (r ∷ rs) ss k h l =
    elim (by_bool r.applies) [ inl t ↦ rw t (rw t at h) | inr t ↦ rw t (number_first rs ss k (rw t at h) l) ]

-- a list of which none applies leaves it to what follows
pub number_after : (rs ss : List Refusal) → Passes rs → first_number (rs ++ ss) ≡ first_number ss
unfolding first_number
number_after [] ss h = refl
number_after (r ∷ rs) ss h = rw h.0 (number_after rs ss h.1)

-- ---- what was refused, what was given

module _ {A : Type 0} (a : A) where
  pub refused_first : (rs : List Refusal) (n : ℕ) → Numbered rs → refused n ≡ unless rs a → (first_number rs ≡ n) × (0 < n)
  unfolding unless first_number
  refused_first [] n m h =
      let z : ◌≡◌ {A = ℕ} 0 1 = cc in
      absurd (omega arith)
  refused_first (r ∷ rs) n m h =
      elim (by_bool r.applies) [
        | inl t ↦
            let e : n ≡ r.number = (let g = rw t at h in cc) in
            (rw (t, e), rw e m.0)
        | inr t ↦ rw t (refused_first rs n m.1 (rw t at h))
      ]

  pub given_first : (rs : List Refusal) (b : A) → given b ≡ unless rs a → Passes rs × (b ≡ a)
  unfolding unless
  given_first [] b h = (tt, cc)
  given_first (r ∷ rs) b h =
      elim (by_bool r.applies) [
        | inl t ↦
            let g = rw t at h in
            let z : ◌≡◌ {A = ℕ} 0 1 = cc in
            absurd (omega arith)
        | inr t ↦ let (p, e) = given_first rs b (rw t at h) in ((t, p), e)
      ]

-- a result from what is answered of it by value
module _ {A B : Type 0} (f : A → B) where
  pub answers_refused : (r : Result A) (n : ℕ) → refused n ≡ answers f r → refused n ≡ r
  answers_refused (refused m) n h =
      let e : n ≡ m = cc in
      ap refused e
  answers_refused (given a) n h =
      let z : ◌≡◌ {A = ℕ} 0 1 = cc in
      absurd (omega arith)

  pub answers_given : (r : Result A) (b : B) → given b ≡ answers f r → (a : A) × (given a ≡ r) × (b ≡ f a)
  answers_given (refused m) b h =
      let z : ◌≡◌ {A = ℕ} 0 1 = cc in
      absurd (omega arith)
  answers_given (given a) b h = (a, refl, cc)

-- ---- numbers 1 to 5

event_numbers : (ds ws : List ℕ) → Numbered (event_refusals ds ws)
unfolding event_refusals
event_numbers [] ws = tt
event_numbers (d ∷ ds) [] = tt
event_numbers (d ∷ ds) (w ∷ ws) = (omega arith, (omega arith, event_numbers ds ws))

pub piece_numbers : (x : Piece) → Numbered (piece_refusals x)
unfolding piece_refusals
piece_numbers x = (omega arith, (omega arith, (omega arith, event_numbers x.deltas x.words)))

pub note_numbers : (x : Piece) → Numbered (note_refusals x)
note_numbers x = All-append _ (piece_refusals x) _ (piece_numbers x) (omega arith, tt)

events_pass : (ds ws : List ℕ) → length ds ≡ length ws → Passes (event_refusals ds ws)
    → All (λ d. d ≤ largest_delta) ds × All (λ w. well_formed w ≡ true) ws
unfolding event_refusals
events_pass [] [] l h = (tt, tt)
events_pass [] (w ∷ ws) l h = absurd (omega arith)
events_pass (d ∷ ds) [] l h = absurd (omega arith)
events_pass (d ∷ ds) (w ∷ ws) l h =
    let (p, q) = events_pass ds ws (omega arith) h.1.1 in
    ((ltb-false largest_delta d h.0, p), (not-false (well_formed w) h.1.0, q))

-- what sizes that agree say
pub record Agree (x : Piece) : Type 0 where
  pub sizes : length x.sizes ≡ 2 + track_count x
  pub deltas : length x.deltas ≡ sum (event_counts x)
  pub words : length x.words ≡ sum (event_counts x)
  pub tracks : track_count x ≤ largest_size
  pub division : division x ≤ largest_size

pub sizes_agree_lem : (x : Piece) → sizes_agree x ≡ true → Agree x
unfolding sizes_agree
sizes_agree_lem x h =
    let h₄ = (and-eq-true_iff _ _).0 h in
    let h₃ = (and-eq-true_iff _ _).0 h₄.0 in
    let h₂ = (and-eq-true_iff _ _).0 h₃.0 in
    let h₁ = (and-eq-true_iff _ _).0 h₂.0 in
    record {
      sizes = eqb-true _ _ h₁.0;
      deltas = eqb-true _ _ h₁.1;
      words = eqb-true _ _ h₂.1;
      tracks = leb-true _ _ h₃.1;
      division = leb-true _ _ h₄.1;
    }

pub admitted : (x : Piece) → Passes (piece_refusals x) → Admitted x
unfolding piece_refusals
admitted x h =
    let agree = sizes_agree_lem x (not-false (sizes_agree x) h.0) in
    let events = events_pass x.deltas x.words (omega arith) h.1.1.1 in
    record {
      sizes = not-false (sizes_agree x) h.0;
      divided = pos_of_ne-zero (eqb-false (division x) 0 h.1.0);
      events = ltb-false most_events (length x.deltas) h.1.1.0;
      deltas = events.0;
      words = events.1;
    }

-- a part that passes is one of an admitted piece
pub admitted_part : (x : Piece) (k : ℕ) → Passes (part_refusals x k) → Admitted x
admitted_part x k h = admitted x (All-left _ (piece_refusals x) _ (All-left _ (note_refusals x) _ h))

pub ticks_per_quarter_positive : TicksPerQuarterPositive
ticks_per_quarter_positive x h = elim (by_bool (timecode x)) [ inl t ↦ rw t (omega arith) | inr t ↦ rw t h.divided ]

-- bit 15 is timecode's, so that a quarter has at most 32,767 ticks
pub quarter_short : (x : Piece) → Admitted x → ticks_per_quarter x ≤ 32767
quarter_short x h =
    elim (by_bool (timecode x)) [
      | inl t ↦ rw t (omega arith)
      | inr t ↦ rw t (let low = eqb-false (bit 15 (division x)) 1 t in omega (arith, (sizes_agree_lem x h.sizes).division))
    ]

-- ---- ticks

-- the ticks of events whose deltas are small, from tick t on
timed_below : (top n t : ℕ) (ds ws : List ℕ) → t + length ds * largest_delta < top → All (λ d. d ≤ largest_delta) ds
    → All (λ (e : Event). e.tick < top) (timed n t ds ws)
unfolding timed
timed_below top n t [] ws l h = tt
timed_below top n t (d ∷ ds) [] l h = tt
timed_below top n t (d ∷ ds) (w ∷ ws) l h = (omega arith, timed_below top (suc n) (t + d) ds ws (omega arith) h.1)

tracks_below : (top : ℕ) (ns ds ws : List ℕ) → length ds * largest_delta < top → All (λ d. d ≤ largest_delta) ds → TicksBelow top (cut_tracks ns ds ws)
unfolding cut_tracks
tracks_below top [] ds ws l h = tt
tracks_below top (n ∷ ns) ds ws l h = (
  timed_below top 0 0 (take n ds) (take n ws) (omega (arith, length-take n ds)) (All-take _ n ds h),
  tracks_below top ns (drop n ds) (drop n ws) (omega (arith, length-drop n ds)) (All-drop _ n ds h),
)

pub ticks_stay_below : TicksStayBelow
ticks_stay_below x h = tracks_below (2 ^ 47) (event_counts x) x.deltas x.words (omega (arith, h.events)) h.deltas
