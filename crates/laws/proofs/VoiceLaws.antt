-- What holds of a part's four voices: their chords follow one another, with keys and ends that are the notes', and each note is in one.
use Prim.Native.Nat.{ℕ, ◌≤◌, ◌<◌, ◌∣◌, zero-le}
use mathlib.Core.Bool.{true, false, false≢true}
use mathlib.Core.List.{List, [], ◌∷◌, map, foldl, reverse, reverse_aux}
use mathlib.Core.Logic.{◌⊎◌, inl, inr}
use mathlib.Core.Path.{◌≡◌, refl, sym, ◌∙◌}
use native.Mathlib.Nat.{le_refl, dvd_refl}
use native.Mathlib.Omega.{arith}
use lib.ListN.{length, length-set, length-map}
use borrow.Author.Tests.{eqb-true, eqb-false, leb-true}
use Rattle.rules.specs.Lists.{any, change_first, All, Some, here, later}
use Rattle.rules.specs.RawNotes.{RawNote}
use Rattle.rules.specs.Grid.{snapped}
use Rattle.rules.specs.ProofReader.{HasKey}
use Rattle.rules.specs.Voices.{Chord, Voice, chords, is_free, starts_with, voice_end, ends_earliest, Choice, free}
use Rattle.rules.specs.Voices.{together, cut, choose, give_keys, cut_to, placed, place, no_voices, voices}
use Rattle.laws.specs.Lines.{Sound, Line, EndsNoted, Closed}
use Rattle.laws.proofs.Order.{by_bool}
use Rattle.laws.proofs.Lists.{All-imp, All-all, All-map, All-both, Some-imp, Some-map, any_none, least}
use Rattle.laws.proofs.Folds.{All-change, All-reverse, Some-reverse, Some-change, Some-changed, set_position, foldl_keeps, foldl_rises, foldl_brings}
use Rattle.laws.proofs.Reflection.{says_le, says_every, says_any}
use Rattle.laws.proofs.KeyBits.{key_left, key_right}
use Rattle.laws.proofs.ChordLaws.{Good, Whole, Has, chord_start, more_keys, chords_rise, chords_whole, chords_have}

-- ---- the three ways of a chord

pub placed_length : (c : Chord) (vs : List Voice) (x : Choice) → length (placed c vs x) ≡ length vs
placed_length c vs (free i) = length-set vs i _
placed_length c vs (together i) = length-set vs i _
placed_length c vs (cut i) = length-set vs i _

pub place_length : (vs : List Voice) (c : Chord) → length (place vs c) ≡ length vs
unfolding place
place_length vs c = placed_length c vs (choose c vs)

-- what holds after a chord is placed: in each of the three ways the first voice that passes a test is changed
pub place_by : (P : List Voice → Type 0) (vs : List Voice) (c : Chord)
    → (any (is_free c) vs ≡ true → P (change_first (is_free c) (λ v. c ∷ v) vs))
    → (any (starts_with c) vs ≡ true → P (change_first (starts_with c) (give_keys c) vs))
    → (any (is_free c) vs ≡ false → any (starts_with c) vs ≡ false → P (change_first (ends_earliest vs) (λ v. c ∷ cut_to c.start v) vs))
    → P (place vs c)
unfolding place choose
place_by P vs c f t k =
    elim (by_bool (any (is_free c) vs)) [
      | inl e ↦ rw (e, set_position (is_free c) (λ v. c ∷ v) [] vs) (f e)
      | inr e ↦
          elim (by_bool (any (starts_with c) vs)) [
            | inl o ↦ rw (e, o, set_position (starts_with c) (give_keys c) [] vs) (t o)
            | inr o ↦ rw (e, o, set_position (ends_earliest vs) (λ v. c ∷ cut_to c.start v) [] vs) (k e o)
          ]
    ]

-- of voices that are not none one ends earliest
pub some_earliest : (vs : List Voice) → 0 < length vs → any (ends_earliest vs) vs ≡ true
some_earliest [] h = absurd (omega arith)
some_earliest (v ∷ vs) h =
    let (b, low, met) = least voice_end v vs in
    (says_any (λ w. says_every (λ x. says_le (voice_end w) (voice_end x)) (v ∷ vs)) (v ∷ vs)).1
    (Some-imp (λ w e. All-imp (λ x o. omega arith) (v ∷ vs) low) met)

-- ---- a voice so far

-- the chords of a voice that stand behind tick a, the last first
abbrev pub Behind : ℕ → List RawNote → ℕ → Voice → Type 0
Behind u ns a [] = Unit {0}
Behind u ns a (c ∷ v) = (c.end ≤ a) × Good u ns c × (EndsNoted ns c ⊎ (c.end ≡ a)) × Behind u ns c.start v

-- a voice so far whose last chord starts at tick s or before
abbrev pub SoFar : ℕ → List RawNote → ℕ → Voice → Type 0
SoFar u ns s [] = Unit {0}
SoFar u ns s (c ∷ v) = (c.start ≤ s) × Whole u ns c × Behind u ns c.start v

module _ (u : ℕ) (ns : List RawNote) where
  later_on : (s t : ℕ) → s ≤ t → (v : Voice) → SoFar u ns s v → SoFar u ns t v
  later_on s t l [] h = tt
  later_on s t l (c ∷ v) h = (omega arith, h.1, h.2)

  module _ (c : Chord) (w : Whole u ns c) where
    push : (s : ℕ) (v : Voice) → is_free c v ≡ true → SoFar u ns s v → SoFar u ns c.start (c ∷ v)
    push s [] t h = (le_refl c.start, w, tt)
    push s (l ∷ v) t h = (le_refl c.start, w, (leb-true l.end c.start t, h.1.good, inl h.1.noted, h.2))

    give : (s : ℕ) → s ≤ c.start → (v : Voice) → starts_with c v ≡ true → SoFar u ns s v → SoFar u ns c.start (give_keys c v)
    give s o [] t h = tt
    give s o (l ∷ v) t h = (
      omega arith,
      more_keys u ns l c.keys l.unpitched
          (λ k b. Some-imp (λ n e. (e.0 ∙ sym (eqb-true l.start c.start t), e.1)) (w.good.meant k b)) h.1,
      h.2,
    )

    squeeze : (s : ℕ) → s ≤ c.start → (v : Voice) → starts_with c v ≡ false → SoFar u ns s v → SoFar u ns c.start (c ∷ cut_to c.start v)
    squeeze s o [] t h = (le_refl c.start, w, tt)
    squeeze s o (l ∷ v) t h =
        let k : Sound u l = h.1.good.sound in
        let n : l.start < c.start = omega (arith, eqb-false l.start c.start t) in
        let d : Sound u (record { start = l.start; end = c.start; keys = l.keys; unpitched = l.unpitched }) =
        record { long = n; starts = k.starts; ends = w.good.sound.starts; keyed = k.keyed } in
        (le_refl c.start, w, (le_refl c.start, record { sound = d; meant = h.1.good.meant }, inr refl, h.2))

  -- a chord that comes in order leaves each voice in order
  pub place_so_far : (s : ℕ) (vs : List Voice) (c : Chord) → s ≤ c.start → Whole u ns c → All (SoFar u ns s) vs
      → All (SoFar u ns c.start) (place vs c)
  place_so_far s vs c o w h =
      place_by (All (SoFar u ns c.start)) vs c
      (λ e. All-change _ _ (SoFar u ns s) _ (later_on s c.start o) (push c w s) vs h)
      (λ e. All-change _ _ (SoFar u ns s) _ (later_on s c.start o) (give c w s o) vs h)
      (λ e t.
      All-change _ _ (λ v. (starts_with c v ≡ false) × SoFar u ns s v) _ (λ v k. later_on s c.start o v k.1)
      (λ v p k. squeeze c w s o v k.0 k.1) vs (All-both _ (SoFar u ns s) vs (any_none (starts_with c) vs t) h))

-- ---- a voice turned round

module _ (u : ℕ) (ns : List RawNote) where
  line_down : (a b : ℕ) (cs : List Chord) → b ≤ a → Line u a cs → Line u b cs
  line_down a b [] l h = tt
  line_down a b (c ∷ cs) l h = (omega arith, h.1, h.2)

  behind_line : (a : ℕ) (v cs : List Chord) → Behind u ns a v → Line u a cs → Line u 0 (reverse_aux v cs)
  behind_line a [] cs h k = line_down a 0 cs (omega arith) k
  behind_line a (c ∷ v) cs h k =
      behind_line c.start v (c ∷ cs) h.3 (le_refl c.start, h.1.sound, line_down a c.end cs h.0 k)

  so_far_line : (s : ℕ) (v : Voice) → SoFar u ns s v → Line u 0 (reverse v)
  so_far_line s [] h = tt
  so_far_line s (c ∷ v) h = behind_line c.start v (c ∷ []) h.2 (le_refl c.start, h.1.good.sound, tt)

  behind_closed : (d : Chord) (v cs : List Chord) → Behind u ns d.start v → Closed ns (d ∷ cs) → Closed ns (reverse_aux v (d ∷ cs))
  behind_closed d [] cs h k = k
  behind_closed d (c ∷ v) cs h k = behind_closed c v (d ∷ cs) h.3 (h.2, k)

  so_far_closed : (s : ℕ) (v : Voice) → SoFar u ns s v → Closed ns (reverse v)
  so_far_closed s [] h = tt
  so_far_closed s (c ∷ v) h = behind_closed c v [] h.2 h.1.noted

  behind_good : (a : ℕ) (v : Voice) → Behind u ns a v → All (Good u ns) v
  behind_good a [] h = tt
  behind_good a (c ∷ v) h = (h.1, behind_good c.start v h.3)

  so_far_good : (s : ℕ) (v : Voice) → SoFar u ns s v → All (Good u ns) (reverse v)
  so_far_good s [] h = tt
  so_far_good s (c ∷ v) h = All-reverse (Good u ns) (c ∷ v) [] (h.1.good, behind_good c.start v h.2) tt

-- ---- keys stay, and arrive

place_keeps : (a k : ℕ) (vs : List Voice) (c : Chord) → Some (Some (Has a k)) vs → Some (Some (Has a k)) (place vs c)
place_keeps a k vs c s =
    place_by (Some (Some (Has a k))) vs c (λ e. Some-change _ _ (λ v p. later p) s) (λ e. Some-change _ _ given s)
    (λ e t. Some-change _ _ (λ v p. later (cut_keeps v p)) s)
  where
    given : (v : Voice) → Some (Has a k) v → Some (Has a k) (give_keys c v)
    given [] s = elim s [ ]
    given (l ∷ v) (here p) = here (p.0, key_left k l.keys c.keys p.1)
    given (l ∷ v) (later p) = later p

    cut_keeps : (v : Voice) → Some (Has a k) v → Some (Has a k) (cut_to c.start v)
    cut_keeps [] s = elim s [ ]
    cut_keeps (l ∷ v) (here p) = here p
    cut_keeps (l ∷ v) (later p) = later p

place_has : (a k : ℕ) (vs : List Voice) (c : Chord) → 0 < length vs → Has a k c → Some (Some (Has a k)) (place vs c)
place_has a k vs c l h =
    place_by (Some (Some (Has a k))) vs c (λ e. Some-changed _ _ _ (λ v t. here h) vs e) (λ e. Some-changed _ _ _ given vs e)
    (λ e t. Some-changed _ _ _ (λ v p. here h) vs (some_earliest vs l))
  where
    given : (v : Voice) → starts_with c v ≡ true → Some (Has a k) (give_keys c v)
    given [] t = absurd (false≢true t)
    given (l ∷ v) t = here (eqb-true l.start c.start t ∙ h.0, key_right k l.keys c.keys h.1)

-- ---- the four voices

-- the voices before they are turned round
abbrev pub spread : List Chord → List Voice
spread cs = foldl place no_voices cs

pub spread_length : (cs : List Chord) → length (spread cs) ≡ 4
spread_length cs =
    foldl_keeps place (λ vs. length vs ≡ 4) (λ c. Unit {0}) (λ vs c u e. place_length vs c ∙ e) cs no_voices (All-all (λ c. tt) cs) refl

pub voices_four : (g : ℕ) (ns : List RawNote) → length (voices g ns) ≡ 4
unfolding voices
voices_four g ns = length-map (spread (chords g ns)) reverse ∙ spread_length (chords g ns)

-- what each voice so far makes good, each voice has
voices_by : (u g : ℕ) (ns : List RawNote) → 0 < g → u ∣ g → (P : List Chord → Type 0)
    → ((s : ℕ) (v : Voice) → SoFar u (map (snapped g) ns) s v → P (reverse v)) → All P (voices g ns)
unfolding voices
voices_by u g ns p d P f =
    let (s, h) =
    foldl_rises place (λ s. All (SoFar u _ s)) (Whole u _) chord_start (place_so_far u _) (chords g ns) 0 no_voices (All-all (λ c. zero-le) (chords g ns))
    (chords_rise g ns)
    (chords_whole u g ns p d) (tt, (tt, (tt, (tt, tt)))) in
    All-map P reverse (f s) (spread (chords g ns)) h

-- The chords of a voice follow one another, with a length and a key, on multiples of whatever the grid is a multiple of.
pub voices_line : (u g : ℕ) (ns : List RawNote) → 0 < g → u ∣ g → All (Line u 0) (voices g ns)
voices_line u g ns p d = voices_by u g ns p d (Line u 0) (so_far_line u _)

module _ (g : ℕ) (ns : List RawNote) (some_grid : 0 < g) where
  -- Each note's key is in a chord of its start.
  pub voices_found : All (λ (n : RawNote). Some (Some (λ (c : Chord). (c.start ≡ n.start) × HasKey n.key c.keys)) (voices g ns))
      (map (snapped g) ns)
  unfolding voices
  voices_found =
      All-imp
      (λ n (s : Some (Has n.start n.key) (chords g ns)).
      Some-map _ reverse (λ v t. Some-reverse [] t)
      (foldl_brings place (λ vs. length vs ≡ 4) (Some (Some (Has n.start n.key))) _ (λ vs c e. place_length vs c ∙ e)
      (place_keeps _ _) (λ vs c e h. place_has _ _ vs c (omega arith) h) s no_voices refl))
      (map (snapped g) ns) (chords_have g ns)

  -- Each key of a chord is that of a note of its start.
  pub voices_meant : All
      (All (λ (c : Chord). (k : ℕ) → HasKey k c.keys → Some (λ (n : RawNote). (n.start ≡ c.start) × (n.key ≡ k)) (map (snapped g) ns)))
      (voices g ns)
  voices_meant =
      voices_by g g ns some_grid (dvd_refl g) _ (λ s v h. All-imp (λ c w. w.meant) (reverse v) (so_far_good g _ s v h))

  -- Each chord ends with a note of its start, or where its voice's next chord starts.
  pub voices_closed : All (Closed (map (snapped g) ns)) (voices g ns)
  voices_closed = voices_by g g ns some_grid (dvd_refl g) (Closed (map (snapped g) ns)) (so_far_closed g _)
