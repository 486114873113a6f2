-- The staff of voices in bars: its playback is the voices, its values are a staff's, its bars are full, its items clean and its ties meet.
use Prim.Native.Nat.{ℕ, ◌-◌, ◌<◌, ◌∣◌}
use mathlib.Core.Bool.{Bool, true, false}
use mathlib.Core.List.{List, [], ◌∷◌, map, reverse-reverse}
use mathlib.Core.Logic.{inl, inr}
use mathlib.Core.Option.{Option, none, some}
use mathlib.Core.Path.{◌≡◌, refl, ◌∙◌}
use native.Mathlib.Nat.{dvd-add, dvd-zero}
use native.Mathlib.Omega.{arith}
use lib.ListN.{length}
use Rattle.rules.specs.Lists.{All, sum, keep, any, last_or}
use Rattle.rules.specs.Bars.{Bar, bar_end, last_bar_end}
use Rattle.rules.specs.Items.{Item}
use Rattle.rules.specs.Values.{Value, split_span}
use Rattle.rules.specs.Voices.{Chord}
use Rattle.rules.specs.Staff.{rest_of, sounds_in, filled, voice_in, voices_in, staff_of}
use Rattle.rules.specs.ProofReader.{Timed, Played, Tie, StaffValue, Clean, Values, AllClean, Fill, EmptyOrFill, Full, Meets, FreeAt, Tied, Ties}
use Rattle.rules.specs.ProofReader.{timed_from, voice_items, voice_timed, playback, played}
use Rattle.laws.specs.Lines.{Line, Consecutive}
use Rattle.laws.specs.Ladder.{StaffPiece}
use Rattle.laws.proofs.BarLaws.{bar_length_lem}
use Rattle.laws.proofs.Order.{by_bool}
use Rattle.laws.proofs.Lists.{All-all, All-map, any_none, keep_none, by_four}
use Rattle.playback.specs.Performance.{heard_to}
use Rattle.playback.proofs.Run.{State, quiet, Walk, stop, walk_append, walk_plays, walk_ties}
use Rattle.playback.proofs.Run.{Run, done, item, run_walk, run_fills, run_values, run_clean}
use Rattle.playback.proofs.VoiceBar.{tie_of, state_at, state_late, bar_run}

-- ---- one voice in one bar

-- a bar with a length, its start and length multiples of u
record EvenBar (u : ℕ) (b : Bar) : Type 0 where
  long : 0 < b.len
  starts : u ∣ b.start
  lasts : u ∣ b.len

even_bars : (u t : ℕ) (bs : List Bar) → u ∣ t → Consecutive t bs → All (λ (b : Bar). u ∣ b.len) bs → All (EvenBar u) bs
even_bars u t [] ut c d = tt
even_bars u t (b ∷ bs) ut c d =
    let ub : u ∣ b.start = rw c.0 ut in
    (record { long = c.1; starts = ub; lasts = d.0 }, even_bars u (bar_end b) bs (dvd-add u ub d.0) c.2 d.1)

-- the items of a voice in a bar
record InBar (p : ℕ) (b : Bar) (s : State) (is : List Item) (z : State) : Type 0 where
  walk : Walk s (timed_from p b.start is) z
  fills : EmptyOrFill p b is
  values : All (StaffValue p) is
  clean : All Clean is

no_tie : (h : Option Tie) (t : Timed) → t.item.tie_in ≡ false → Meets h t → h ≡ none
no_tie none t f m = refl
no_tie (some h) t f m = cc (f, m.0)

-- Rests change nothing.
rests_quiet : (p : ℕ) (vs : List Value) {t m : ℕ} {s z : State} → Run p t s (map rest_of vs) m z → s ≡ z
rests_quiet p [] (done e) = refl
rests_quiet p (v ∷ vs) (item {s = s} x y m r) =
    let same : s ≡ quiet s.chords = (λ i. record { chords = s.chords; tie = no_tie s.tie _ refl m i }) in
    same ∙ rests_quiet p vs r

tie_free : (e : ℕ) (cs : List Chord) → FreeAt e (tie_of e cs)
tie_free e [] = tt
tie_free e (c ∷ cs) = refl

run_fill : (p : ℕ) (b : Bar) {s z : State} {is : List Item} → Run p b.start s is (bar_end b) z → Fill p b is
run_fill p b r = omega (arith, run_fills r)

or_empty : (p : ℕ) (b : Bar) (is : List Item) → Fill p b is → EmptyOrFill p b is
or_empty p b [] f = tt
or_empty p b (i ∷ is) f = f

-- ---- the staff's shape

pub staff_shape : (p : ℕ) (vs : List (List Chord)) (bs : List Bar) → length vs ≡ 4 → All (λ (bar : List (List Item)). length bar ≡ 4) (staff_of p vs bs)
staff_shape p vs bs four = All-map _ (voices_in p vs) (λ b e. e ∙ four) bs (All-all (bar_length_lem p vs) bs)

-- what is shown of the staff of voices in bars
pub record Engraves (p : ℕ) (vs : List (List Chord)) (bs : List Bar) : Type 0 where
  pub plays : played p bs (staff_of p vs bs) ≡ map (heard_to (last_bar_end bs)) vs
  pub values : Values p (staff_of p vs bs)
  pub full : Full p bs (staff_of p vs bs)
  pub clean : AllClean (staff_of p vs bs)
  pub ties : Ties p bs (staff_of p vs bs)

module _ (p u : ℕ) (split_total : (t : ℕ) → u ∣ t → sum (map (λ (v : Value). v.ticks) (split_span p t).pieces) ≡ t)
    (split_staff : (t : ℕ) → All (StaffPiece p) (split_span p t).pieces) where
  voice_run_lem : (b : Bar) (cs : List Chord) (a : List Played) → EvenBar u b → Line u 0 cs
      → Run p b.start (state_at b.start cs a) (filled p b.start (bar_end b) b.start (keep (sounds_in b.start (bar_end b)) cs))
      (bar_end b) (state_at (bar_end b) cs a)
  voice_run_lem b cs a g l =
      bar_run p u split_total split_staff b.start (bar_end b) (omega (arith, g.long)) g.starts (dvd-add u g.starts g.lasts) cs a l

  first_fills : (b : Bar) (cs : List Chord) → EvenBar u b → Line u 0 cs → Fill p b (voice_in p true b cs)
  unfolding voice_in
  first_fills b cs g l = run_fill p b (voice_run_lem b cs [] g l)

  in_bar : (b : Bar) {s z : State} (is : List Item) → Run p b.start s is (bar_end b) z → InBar p b s is z
  in_bar b is r = record { walk = run_walk r; fills = or_empty p b is (run_fill p b r); values = run_values r; clean = run_clean r }

  voice_in_lem : (is_first : Bool) (b : Bar) (cs : List Chord) (a : List Played) → EvenBar u b → Line u 0 cs
      → InBar p b (state_at b.start cs a) (voice_in p is_first b cs) (state_at (bar_end b) cs a)
  unfolding voice_in filled timed_from
  voice_in_lem true b cs a g l = in_bar b _ (voice_run_lem b cs a g l)
  voice_in_lem false b cs a g l =
      elim (by_bool (any (sounds_in b.start (bar_end b)) cs)) [
        | inl t ↦ rw t (in_bar b _ (voice_run_lem b cs a g l))
        | inr t ↦
            let same : state_at b.start cs a ≡ state_at (bar_end b) cs a =
            rests_quiet p (split_span p (bar_end b - b.start)).pieces (rw (keep_none _ cs (any_none _ cs t)) at (voice_run_lem b cs a g l)) in
            rw (t, same) (record { walk = stop; fills = tt; values = tt; clean = tt })
      ]

  -- ---- one voice in all bars

  module _ (vs : List (List Chord)) (v : ℕ) (is_first : Bool) (cs : List Chord)
      (chosen : (b : Bar) → voice_items v (voices_in p vs b) ≡ voice_in p is_first b cs) (line : Line u 0 cs) where
    voice_walk : (t : ℕ) (bs : List Bar) → Consecutive t bs → All (EvenBar u) bs
        → Walk (state_at t cs []) (voice_timed p v bs (staff_of p vs bs)) (state_at (last_or t (map bar_end bs)) cs [])
    unfolding voice_timed
    voice_walk t [] c g = stop
    voice_walk t (b ∷ bs) c g =
        rw (← c.0, chosen b) (walk_append (voice_in_lem is_first b cs [] g.0 line).walk (voice_walk (bar_end b) bs c.2 g.1))

    module _ (bs : List Bar) (row : Consecutive 0 bs) (even : All (EvenBar u) bs) where
      from_start : Walk (quiet []) (voice_timed p v bs (staff_of p vs bs)) (state_at (last_bar_end bs) cs [])
      from_start = rw (state_late u 0 0 cs [] line (omega arith)) at (voice_walk 0 bs row even)

      voice_plays : playback (voice_timed p v bs (staff_of p vs bs)) ≡ heard_to (last_bar_end bs) cs
      unfolding state_at
      voice_plays = rw (walk_plays from_start) (reverse-reverse _)

      voice_ties : Tied (last_bar_end bs) none (voice_timed p v bs (staff_of p vs bs))
      unfolding state_at
      voice_ties = let e : ℕ = last_bar_end bs in walk_ties e from_start (tie_free e (keep (sounds_in e e) cs))

  -- ---- the staff

  voices_all : (P : List Item → Type 0) (b : Bar) → ((is_first : Bool) (cs : List Chord) → Line u 0 cs → P (voice_in p is_first b cs))
      → (vs : List (List Chord)) → All (Line u 0) vs → All P (voices_in p vs b)
  voices_all P b h [] l = tt
  voices_all P b h (v ∷ vs) l = (h true v l.0, All-map P (voice_in p false b) (h false) vs l.1)

  full_from : (v : List Chord) (vs : List (List Chord)) → All (Line u 0) (v ∷ vs) → (bs : List Bar) → All (EvenBar u) bs
      → Full p bs (staff_of p (v ∷ vs) bs)
  full_from v vs l [] g = tt
  full_from v vs l (b ∷ bs) g =
      let each : All (EmptyOrFill p b) (voices_in p (v ∷ vs) b) =
      voices_all (EmptyOrFill p b) b (λ f cs k. (voice_in_lem f b cs [] g.0 k).fills) (v ∷ vs) l in
      (first_fills b v g.0 l.0, each, full_from v vs l bs g.1)

  module _ (vs : List (List Chord)) (lines : All (Line u 0) vs) (four : length vs ≡ 4) (bs : List Bar) (row : Consecutive 0 bs)
      (even : All (λ (b : Bar). u ∣ b.len) bs) where
    bars : All (EvenBar u) bs
    bars = even_bars u 0 bs (dvd-zero u) row even

    pub staff_plays : played p bs (staff_of p vs bs) ≡ map (heard_to (last_bar_end bs)) vs
    staff_plays =
        by_four (λ ws. All (Line u 0) ws → played p bs (staff_of p ws bs) ≡ map (heard_to (last_bar_end bs)) ws)
        (λ a b c d l i.
        let ws : List (List Chord) = a ∷ b ∷ c ∷ d ∷ [] in
        voice_plays ws 0 true a (λ x. refl) l.0 bs row bars i
        ∷ voice_plays ws 1 false b (λ x. refl) l.1.0 bs row bars i
        ∷ voice_plays ws 2 false c (λ x. refl) l.1.1.0 bs row bars i
        ∷ voice_plays ws 3 false d (λ x. refl) l.1.1.1.0 bs row bars i
        ∷ [])
        vs four lines

    pub staff_ties : Ties p bs (staff_of p vs bs)
    staff_ties =
        by_four (λ ws. All (Line u 0) ws → Ties p bs (staff_of p ws bs))
        (λ a b c d l.
        let ws : List (List Chord) = a ∷ b ∷ c ∷ d ∷ [] in (
          voice_ties ws 0 true a (λ x. refl) l.0 bs row bars,
          (
            voice_ties ws 1 false b (λ x. refl) l.1.0 bs row bars,
            (
              voice_ties ws 2 false c (λ x. refl) l.1.1.0 bs row bars,
              (voice_ties ws 3 false d (λ x. refl) l.1.1.1.0 bs row bars, tt),
            ),
          ),
        ))
        vs four lines

    pub staff_full : Full p bs (staff_of p vs bs)
    staff_full =
        by_four (λ ws. All (Line u 0) ws → Full p bs (staff_of p ws bs)) (λ a b c d l. full_from a (b ∷ c ∷ d ∷ []) l bs bars) vs four lines

    -- what holds of every voice of every bar
    staff_all : (P : List Item → Type 0)
        → ((is_first : Bool) (b : Bar) (cs : List Chord) → EvenBar u b → Line u 0 cs → P (voice_in p is_first b cs)) → All (All P) (staff_of p vs bs)
    staff_all P h = All-map (All P) (voices_in p vs) (λ b g. voices_all P b (λ f cs. h f b cs g) vs lines) bs bars

    pub staff_values : Values p (staff_of p vs bs)
    staff_values = staff_all (All (StaffValue p)) (λ f b cs g l. (voice_in_lem f b cs [] g l).values)

    pub staff_clean : AllClean (staff_of p vs bs)
    staff_clean = staff_all (All Clean) (λ f b cs g l. (voice_in_lem f b cs [] g l).clean)

    pub staff_engraves : Engraves p vs bs
    staff_engraves =
        record { plays = staff_plays; values = staff_values; full = staff_full; clean = staff_clean; ties = staff_ties }
