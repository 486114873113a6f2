-- Walks over a voice's items: the chords heard and the open tie before them and after them.
use Prim.Native.Nat.{ℕ, ◌+◌, ◌<◌}
use mathlib.Core.Bool.{Bool, true, false, cond, true≢false, false≢true}
use mathlib.Core.List.{List, [], ◌∷◌, ◌++◌, map}
use mathlib.Core.Option.{Option, none, some}
use mathlib.Core.Path.{◌≡◌, refl}
use native.Mathlib.Omega.{arith}
use Rattle.rules.specs.Lists.{All, sum}
use Rattle.rules.specs.Items.{Item}
use Rattle.rules.specs.Values.{Value}
use Rattle.rules.specs.Voices.{Chord}
use Rattle.rules.specs.Staff.{rest_of, piece_of, pieces}
use Rattle.rules.specs.ProofReader.{Timed, Played, Tie, StaffValue, Clean, Meets, FreeAt, Tied, item_ticks, timed_from, hear, heard_after, tie_after}
use Rattle.laws.specs.Ladder.{StaffPiece}

-- what a voice has come to: the chords heard, the last one first, and the open tie-out
pub record State : Type 0 where
  pub chords : List Played
  pub tie : Option Tie

abbrev pub next : Timed → State → State
next t s = record { chords = hear t s.chords; tie = tie_after t }

-- timed items whose ties meet, from a state to a state
pub data Walk : State → List Timed → State → Type 0 where
  stop : {s : State} → Walk s [] s
  go : {s z : State} {t : Timed} {ts : List Timed} → Meets s.tie t → Walk (next t s) ts z → Walk s (t ∷ ts) z

pub walk_append : {s z y : State} {xs ys : List Timed} → Walk s xs z → Walk z ys y → Walk s (xs ++ ys) y
walk_append stop w = w
walk_append (go m r) w = go m (walk_append r w)

pub walk_plays : {s z : State} {ts : List Timed} → Walk s ts z → heard_after s.chords ts ≡ z.chords
unfolding heard_after
walk_plays stop = refl
walk_plays (go m r) = walk_plays r

pub walk_ties : (e : ℕ) {s z : State} {ts : List Timed} → Walk s ts z → FreeAt e z.tie → Tied e s.tie ts
walk_ties e stop f = f
walk_ties e (go m r) f = (m, walk_ties e r f)

abbrev pub timed : ℕ → ℕ → Item → Timed
timed p t i = record { from = t; to = t + item_ticks p i; item = i }

-- staff items from a tick and a state to a tick and a state
pub data Run (p : ℕ) : ℕ → State → List Item → ℕ → State → Type 0 where
  done : {t m : ℕ} {s : State} → t ≡ m → Run p t s [] m s
  item : {t m : ℕ} {s z : State} {i : Item} {is : List Item} → StaffValue p i → Clean i
      → Meets s.tie (timed p t i)
      → Run p (t + item_ticks p i) (next (timed p t i) s) is m z → Run p t s (i ∷ is) m z

module _ {p : ℕ} where
  pub run_append : {t m n : ℕ} {s z y : State} {xs ys : List Item} → Run p t s xs m z → Run p m z ys n y → Run p t s (xs ++ ys) n y
  run_append (done e) r = rw e r
  run_append (item v c m q) r = item v c m (run_append q r)

  pub run_walk : {t m : ℕ} {s z : State} {is : List Item} → Run p t s is m z → Walk s (timed_from p t is) z
  unfolding timed_from
  run_walk (done e) = stop
  run_walk (item v c m q) = go m (run_walk q)

  pub run_fills : {t m : ℕ} {s z : State} {is : List Item} → Run p t s is m z → t + sum (map (item_ticks p) is) ≡ m
  unfolding sum
  run_fills (done e) = omega arith
  run_fills (item v c m q) = omega (arith, run_fills q)

  pub run_values : {t m : ℕ} {s z : State} {is : List Item} → Run p t s is m z → All (StaffValue p) is
  run_values (done e) = tt
  run_values (item v c m q) = (v, run_values q)

  pub run_clean : {t m : ℕ} {s z : State} {is : List Item} → Run p t s is m z → All Clean is
  run_clean (done e) = tt
  run_clean (item v c m q) = (c, run_clean q)

-- ---- rests and the pieces of a chord

abbrev pub quiet : List Played → State
quiet a = record { chords = a; tie = none }

-- a chord heard up to tick t, tied on or not
abbrev pub heard : Bool → ℕ → Chord → List Played → State
heard is_out t c a =
    record {
      chords = record { start = c.start; end = t; keys = c.keys; unpitched = c.unpitched } ∷ a;
      tie = cond is_out (some (record { tick = t; keys = c.keys; unpitched = c.unpitched })) none;
    }

-- before a chord's piece at tick t that is tied in, or is not
abbrev pub before : Bool → ℕ → Chord → List Played → State
before is_in t c a = cond is_in (heard true t c a) (quiet a)

rest_clean : (v : Value) → Clean (rest_of v)
rest_clean v =
    record {
      keyless = λ r. refl;
      untied_in = λ r. refl;
      untied_out = λ r. refl;
      unmarked = λ r. refl;
      keyed = λ r. absurd (true≢false r);
    }

piece_clean : (c : Chord) (is_in is_out : Bool) (v : Value) → 0 < c.keys → Clean (piece_of c is_in is_out v)
piece_clean c is_in is_out v k =
    record {
      keyless = λ r. absurd (false≢true r);
      untied_in = λ r. absurd (false≢true r);
      untied_out = λ r. absurd (false≢true r);
      unmarked = λ r. absurd (false≢true r);
      keyed = λ r. k;
    }

module _ (p : ℕ) where
  pub run_rests : (t m : ℕ) (a : List Played) (vs : List Value) → All (StaffPiece p) vs → t + sum (map (λ (v : Value). v.ticks) vs) ≡ m
      → Run p t (quiet a) (map rest_of vs) m (quiet a)
  unfolding sum
  run_rests t m a [] h e = let n : t ≡ m = omega arith in done n
  run_rests t m a (v ∷ vs) h e =
      item (record { code = h.0.code; dots = h.0.dots; whole = h.0.whole }) (rest_clean v) refl
      (run_rests (t + item_ticks p (rest_of v)) m a vs h.1 (omega (arith, h.0.ticks)))

  module _ (c : Chord) (keyed : 0 < c.keys) where
    -- one piece of the chord, and what follows it
    run_piece : (is_in is_out : Bool) (t m : ℕ) (a : List Played) (v : Value) (is : List Item) (z : State) → (is_in ≡ false → c.start ≡ t)
        → StaffPiece p v → Run p (t + item_ticks p (rest_of v)) (heard is_out (t + item_ticks p (rest_of v)) c a) is m z
        → Run p t (before is_in t c a) (piece_of c is_in is_out v ∷ is) m z
    run_piece true is_out t m a v is z h s r =
        item {s = heard true t c a} (record { code = s.code; dots = s.dots; whole = s.whole }) (piece_clean c _ _ v keyed)
        (refl, refl, refl, refl) r
    run_piece false is_out t m a v is z h s r =
        item (record { code = s.code; dots = s.dots; whole = s.whole }) (piece_clean c _ _ v keyed) refl (rw (h refl) at r)

    run_some : (is_in is_out : Bool) (t m : ℕ) (a : List Played) (v : Value) (vs : List Value) → (is_in ≡ false → c.start ≡ t)
        → All (StaffPiece p) (v ∷ vs) → t + sum (map (λ (w : Value). w.ticks) (v ∷ vs)) ≡ m
        → Run p t (before is_in t c a) (pieces c is_in is_out (v ∷ vs)) m (heard is_out m c a)
    unfolding sum pieces
    run_some is_in is_out t m a v [] b h e =
        let n : t + item_ticks p (rest_of v) ≡ m = omega (arith, h.0.ticks) in
        run_piece is_in is_out t m a v _ _ b h.0 (rw n (done refl))
    run_some is_in is_out t m a v (w ∷ vs) b h e =
        run_piece is_in true t m a v _ _ b h.0
        (run_some true is_out (t + item_ticks p (rest_of v)) m a w vs (λ f. absurd (true≢false f)) h.1 (omega (arith, h.0.ticks)))

    pub run_pieces : (is_in is_out : Bool) (t m : ℕ) (a : List Played) (vs : List Value) → (is_in ≡ false → c.start ≡ t) → All (StaffPiece p) vs
        → t < m → t + sum (map (λ (v : Value). v.ticks) vs) ≡ m → Run p t (before is_in t c a) (pieces c is_in is_out vs) m (heard is_out m c a)
    unfolding sum
    run_pieces is_in is_out t m a [] b h l e = absurd (omega arith)
    run_pieces is_in is_out t m a (v ∷ vs) b h l e = run_some is_in is_out t m a v vs b h e
