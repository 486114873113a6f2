-- What holds of a part's chords: each has a length, keys and an end that are its notes', they come in order of start, and each note is in one.
use Prim.Native.Nat.{ℕ, ◌^◌, ◌≤◌, ◌<◌, ◌∣◌, zero-le}
use mathlib.Core.Bool.{Bool, true, and-eq-true_iff}
use mathlib.Core.List.{List, [], ◌∷◌, map, foldl}
use mathlib.Core.Logic.{inl, inr, ⊎_elim}
use mathlib.Core.Path.{◌≡◌, refl, sym, ◌∙◌, subst}
use native.Mathlib.Nat.{le_refl, dvd-mul_left, dvd_trans, dvd-add}
use native.Mathlib.Omega.{arith}
use lib.Bits.{bit_or}
use lib.Pow.{pow_pos}
use borrow.Author.Tests.{eqb-true}
use Rattle.rules.specs.Lists.{any, change_first, All, Some, here, later}
use Rattle.rules.specs.RawNotes.{RawNote}
use Rattle.rules.specs.Grid.{snap, snapped}
use Rattle.rules.specs.ProofReader.{HasKey}
use Rattle.rules.specs.Voices.{Chord, by_falling_key, sorted_notes, opened, joins, joined, join_or_open, chords}
use Rattle.laws.specs.Lines.{Sound, KeysNoted, EndsNoted}
use Rattle.laws.specs.Sort.{Rises, FallsFrom}
use Rattle.laws.proofs.Order.{by_bool, dvd_max}
use Rattle.laws.proofs.Lists.{All-imp, All-all, All-self, All-map, All-both, Some-imp}
use Rattle.laws.proofs.Folds.{All-reverse, All-change, Some-change, Some-changed, Some-reverse}
use Rattle.laws.proofs.Folds.{falls_up, reverse_rises, foldl_keeps, foldl_rises, foldl_brings}
use Rattle.laws.proofs.Sort.{All-sort, Some-sort, rises_sort, rises_by}
use Rattle.laws.proofs.KeyBits.{key_left, key_right, key_cases, key_own, key_only, keyed_or}

-- ---- snapped notes

-- m starts and ends with n and has its key
pub record Same (n m : RawNote) : Type 0 where
  pub start : m.start ≡ n.start
  pub end : m.end ≡ n.end
  pub key : m.key ≡ n.key

-- a note with a length, its start and end multiples of u
pub record Snapped (u : ℕ) (n : RawNote) : Type 0 where
  pub long : n.start < n.end
  pub starts : u ∣ n.start
  pub ends : u ∣ n.end

-- a note as above, one of ns
abbrev pub SnappedOf : ℕ → List RawNote → RawNote → Type 0
SnappedOf u ns n = Snapped u n × Some (Same n) ns

pub same_self : (n : RawNote) → Same n n
same_self n = record { start = refl; end = refl; key = refl }

module _ (u g : ℕ) (ns : List RawNote) (some_grid : 0 < g) (fits : u ∣ g) where
  dvd_snap : (t : ℕ) → u ∣ snap g t
  dvd_snap t = dvd_trans u fits (dvd-mul_left g _)

  snapped_fits : (n : RawNote) → Snapped u (snapped g n)
  snapped_fits n =
      record {
        long = omega arith;
        starts = dvd_snap n.start;
        ends = dvd_max u _ _ (dvd_snap n.end) (dvd-add u (dvd_snap n.start) fits);
      }

  pub snapped_all : All (SnappedOf u (map (snapped g) ns)) (map (snapped g) ns)
  snapped_all =
      All-both (Snapped u) _ (map (snapped g) ns) (All-map (Snapped u) (snapped g) (λ n s. s) ns (All-all snapped_fits ns))
      (All-self Same same_self (map (snapped g) ns))

-- ---- chords

-- a chord with a length and a key, on multiples of u, each of its keys that of a note of its start
pub record Good (u : ℕ) (ns : List RawNote) (c : Chord) : Type 0 where
  pub sound : Sound u c
  pub meant : KeysNoted ns c.start c.keys

-- a good chord that ends with a note of its start
pub record Whole (u : ℕ) (ns : List RawNote) (c : Chord) : Type 0 where
  pub good : Good u ns c
  pub noted : EndsNoted ns c

-- a chord of start a with key k
abbrev pub Has : ℕ → ℕ → Chord → Type 0
Has a k c = (c.start ≡ a) × HasKey k c.keys

abbrev pub chord_start : Chord → ℕ
chord_start c = c.start

abbrev pub note_start : RawNote → ℕ
note_start n = n.start

-- what holds after a note has joined or opened
join_by : (P : List Chord → Type 0) (cs : List Chord) (n : RawNote) → (any (joins n) cs ≡ true → P (change_first (joins n) (joined n) cs))
    → P (opened n ∷ cs) → P (join_or_open cs n)
unfolding join_or_open
join_by P cs n f p = elim (by_bool (any (joins n) cs)) [ inl t ↦ rw t (f t) | inr t ↦ rw t p ]

joins_start : (n : RawNote) (c : Chord) → joins n c ≡ true → c.start ≡ n.start
joins_start n c t = eqb-true _ _ ((and-eq-true_iff _ _).0 t).0

module _ (u : ℕ) (ns : List RawNote) where
  open_whole : (n : RawNote) → SnappedOf u ns n → Whole u ns (opened n)
  open_whole n h =
      record {
        good =
            record {
              sound = record { long = h.0.long; starts = h.0.starts; ends = h.0.ends; keyed = pow_pos n.key };
              meant = λ k b. Some-imp (λ m s. (s.start, s.key ∙ key_only n.key k b)) h.1;
            };
        noted = Some-imp (λ m s. (s.start, s.end)) h.1;
      }

  -- a chord that takes more keys of notes of its start
  pub more_keys : (c : Chord) (m : ℕ) (b : Bool) → KeysNoted ns c.start m → Whole u ns c
      → Whole u ns (record { start = c.start; end = c.end; keys = bit_or c.keys m; unpitched = b })
  more_keys c m b f w =
      let s : Sound u c = w.good.sound in
      record {
        good =
            record {
              sound = record { long = s.long; starts = s.starts; ends = s.ends; keyed = keyed_or c.keys m s.keyed };
              meant = λ k h. ⊎_elim (w.good.meant k) (f k) (key_cases k c.keys m h);
            };
        noted = w.noted;
      }

  joined_whole : (n : RawNote) (c : Chord) → SnappedOf u ns n → joins n c ≡ true → Whole u ns c → Whole u ns (joined n c)
  joined_whole n c h t w =
      more_keys c (2 ^ n.key) _
      (λ k b. Some-imp (λ m s. (s.start ∙ sym (joins_start n c t), s.key ∙ key_only n.key k b)) h.1) w

  join_whole : (cs : List Chord) (n : RawNote) → SnappedOf u ns n → All (Whole u ns) cs → All (Whole u ns) (join_or_open cs n)
  join_whole cs n h w =
      join_by (All (Whole u ns)) cs n
      (λ t. All-change _ _ (Whole u ns) (Whole u ns) (λ c k. k) (λ c t k. joined_whole n c h t k) cs w) (open_whole n h, w)

change_falls : (n : RawNote) (a : ℕ) (cs : List Chord) → FallsFrom chord_start a cs → FallsFrom chord_start a (change_first (joins n) (joined n) cs)
unfolding change_first
change_falls n a [] h = tt
change_falls n a (c ∷ cs) h = elim (by_bool (joins n c)) [ inl t ↦ rw t h | inr t ↦ rw t (h.0, change_falls n c.start cs h.1) ]

-- notes that come in order of start leave the chords in order, the most recent first
pub join_falls : (s : ℕ) (cs : List Chord) (n : RawNote) → s ≤ n.start → FallsFrom chord_start s cs → FallsFrom chord_start n.start (join_or_open cs n)
join_falls s cs n l h =
    join_by (FallsFrom chord_start n.start) cs n (λ t. falls_up chord_start s _ (change_first (joins n) (joined n) cs) l (change_falls n s cs h))
    (le_refl n.start, falls_up chord_start s _ cs l h)

join_keeps : (a k : ℕ) (cs : List Chord) (n : RawNote) → Some (Has a k) cs → Some (Has a k) (join_or_open cs n)
join_keeps a k cs n s =
    join_by (Some (Has a k)) cs n (λ t. Some-change _ _ (λ c p. (p.0, key_left k c.keys _ p.1)) s) (later s)

join_has : (cs : List Chord) (n : RawNote) → Some (Has n.start n.key) (join_or_open cs n)
join_has cs n =
    join_by (Some (Has n.start n.key)) cs n
    (λ t. Some-changed _ _ _ (λ c t. (joins_start n c t, key_right n.key c.keys _ (key_own n.key))) cs t)
    (here (refl, key_own n.key))

-- the sorted notes come in order of start
pub sorted_rises : (g : ℕ) (ns : List RawNote) → Rises note_start (sorted_notes g ns)
sorted_rises g ns = rises_by by_falling_key note_start (λ x y l. omega arith) (sorted_notes g ns) (rises_sort by_falling_key (map (snapped g) ns))

-- the chords so far, the most recent first
abbrev pub gathered : List RawNote → List Chord
gathered ns = foldl join_or_open [] ns

pub chords_rise : (g : ℕ) (ns : List RawNote) → Rises chord_start (chords g ns)
chords_rise g ns =
    let (t, h) =
    foldl_rises join_or_open (FallsFrom chord_start) (λ n. Unit {0}) note_start (λ s cs n l q h. join_falls s cs n l h) (sorted_notes g ns) 0 []
    (All-all (λ n. zero-le) (sorted_notes g ns)) (sorted_rises g ns) (All-all (λ n. tt) (sorted_notes g ns)) tt in
    reverse_rises chord_start t (gathered (sorted_notes g ns)) [] h tt tt

pub chords_whole : (u g : ℕ) (ns : List RawNote) → 0 < g → u ∣ g → All (Whole u (map (snapped g) ns)) (chords g ns)
chords_whole u g ns p d =
    All-reverse (Whole u (map (snapped g) ns)) (gathered (sorted_notes g ns)) []
    (foldl_keeps join_or_open (All (Whole u _)) (SnappedOf u _) (λ cs n h w. join_whole u _ cs n h w) (sorted_notes g ns) []
    (All-sort by_falling_key (SnappedOf u (map (snapped g) ns)) (map (snapped g) ns) (snapped_all u g ns p d)) tt)
    tt

-- each note's key is in a chord of its start
pub chords_have : (g : ℕ) (ns : List RawNote) → All (λ (n : RawNote). Some (Has n.start n.key) (chords g ns)) (map (snapped g) ns)
chords_have g ns =
    All-imp
    (λ n (s : Some (Same n) (map (snapped g) ns)). Some-reverse []
    (foldl_brings join_or_open (λ cs. Unit {0}) (Some (Has n.start n.key)) (Same n) (λ cs m i. tt)
    (λ cs m h. join_keeps _ _ cs m h)
    (λ cs m i e. Some-imp (λ c h. (h.0 ∙ e.start, subst (λ (k : ℕ). HasKey k c.keys) e.key h.1)) (join_has cs m))
    (Some-sort by_falling_key s) [] tt))
    (map (snapped g) ns) (All-self Same same_self (map (snapped g) ns))
