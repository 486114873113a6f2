-- M-101: a span, a chord, a gap and a voice in a bar: what is written and what is left are the whole; of an even part nothing is left.
use Prim.Native.Nat.{ℕ, zero, suc, ◌+◌, ◌-◌, ◌*◌, ◌/◌, ◌%◌, ◌≤◌, ◌<◌, ◌∣◌, min, max}
use mathlib.Core.Bool.{Bool, true, false, cond, ◌||◌}
use mathlib.Core.List.{List, [], ◌∷◌, ◌++◌, map, flatten, map-append}
use mathlib.Core.Logic.{inl, inr}
use mathlib.Core.Path.{◌≡◌, refl, ap, ◌∙◌}
use native.Mathlib.Nat.{one-dvd, dvd-zero, dvd-add, dvd-sub}
use native.Mathlib.Omega.{arith}
use borrow.Author.Tests.{ne_eqb}
use lib.Dec.{eqb, ltb}
use lib.ListN.{length, get_or, length-append, get_or-append}
use lib.Seq.{get_or-append-add}
use Rattle.rules.specs.Lists.{All, sum, keep, any}
use Rattle.rules.specs.Piece.{ticks_per_quarter, first_track}
use Rattle.rules.specs.Bars.{Bar, bar_end, bar_length, meter_at, bars, bars_up_to, end_of_piece, most_bars}
use Rattle.rules.specs.Changes.{Meter, meter_changes, first_meter}
use Rattle.rules.specs.Grid.{grid}
use Rattle.rules.specs.Voices.{Chord, voices}
use Rattle.rules.specs.Values.{Value, split_span, smallest}
use Rattle.rules.specs.Items.{Item}
use Rattle.rules.specs.Staff.{rest_of, rests, pieces, chord_in, sounds_in, is_written, filled, voice_in, voices_in, staff_of}
use Rattle.rules.specs.Staff.{rests_left, chord_left, filled_left, voice_left, voices_left, leftovers_of}
use Rattle.rules.specs.Calls.{part_notes}
use Rattle.laws.specs.Ladder.{StaffPiece}
use Rattle.laws.specs.Leftovers.{written_ticks, bar_at, LeftoversAddUp, PartAddsUp, EvenLeavesNothing, EvenPartLeavesNothing}
use Rattle.laws.specs.Leftovers.{BarsShort, LeftoversShort}
use Rattle.laws.specs.Lines.{Line, Consecutive}
use Rattle.laws.proofs.BarLaws.{bar_length_lem, bar_left_length, bars_consecutive, bars_few_long, meter_small, bar_short}
use Rattle.laws.proofs.Grid.{grid_some}
use Rattle.laws.proofs.Lists.{All-imp, All-both, All-append, All-map, All-keep, sum_append}
use Rattle.laws.proofs.Order.{by_bool, by_lt, dvd_min, dvd_max}
use Rattle.laws.proofs.Refusals.{ticks_per_quarter_positive, quarter_short}
use Rattle.laws.proofs.Sounding.{over, not_yet, keep_here, keep_not}
use Rattle.laws.proofs.Splits.{split_whole, split_staff, split_even}
use Rattle.laws.proofs.Verdict.{says_even}
use Rattle.laws.proofs.VoiceLaws.{voices_four, voices_line}

-- ---- written lengths

total : List Value → ℕ
total vs = sum (map (λ (v : Value). v.ticks) vs)

written_append : (p : ℕ) (xs ys : List Item) → written_ticks p (xs ++ ys) ≡ written_ticks p xs + written_ticks p ys
written_append p xs ys = rw map-append (sum_append _ _)

module _ (p : ℕ) where
  rests_ticks : (vs : List Value) → All (StaffPiece p) vs → written_ticks p (map rest_of vs) ≡ total vs
  unfolding sum total
  rests_ticks [] h = refl
  rests_ticks (v ∷ vs) h = omega (arith, rests_ticks vs h.1, h.0.ticks)

  pieces_ticks : (c : Chord) (is_in is_out : Bool) (vs : List Value) → All (StaffPiece p) vs → written_ticks p (pieces c is_in is_out vs) ≡ total vs
  unfolding sum pieces total
  pieces_ticks c is_in is_out [] h = refl
  pieces_ticks c is_in is_out (v ∷ vs) h = omega (arith, pieces_ticks c true is_out vs h.1, h.0.ticks)

-- ---- a voice in the bar from b to e

module _ (p : ℕ) (some_ticks : 0 < p) where
  rests_whole : (t : ℕ) → written_ticks p (rests p t) + rests_left p t ≡ t
  unfolding total
  rests_whole t = omega (arith, rests_ticks p (split_span p t).pieces (split_staff p t), split_whole p t some_ticks)

  chord_whole : (b e : ℕ) (c : Chord) → written_ticks p (chord_in p b e c) + chord_left p b e c ≡ min e c.end - max b c.start
  unfolding total
  chord_whole b e c =
      let t : ℕ = min e c.end - max b c.start in
      omega (arith, pieces_ticks p c (ltb c.start b) (ltb e c.end) (split_span p t).pieces (split_staff p t), split_whole p t some_ticks)

  module _ (b e : ℕ) where
    add_up : (m n t w₁ l₁ w₂ l₂ w₃ l₃ : ℕ) → t ≤ m → m ≤ n → n ≤ e → w₁ + l₁ ≡ m - t → w₂ + l₂ ≡ n - m → w₃ + l₃ ≡ e - n
        → (w₁ + (w₂ + w₃)) + (l₁ + (l₂ + l₃)) ≡ e - t
    add_up m n t w₁ l₁ w₂ l₂ w₃ l₃ h k l x y z = omega arith

    Whole : ℕ → List Chord → Type 0
    Whole t cs = written_ticks p (filled p b e t cs) + filled_left p b e t cs ≡ e - t

    one : (t : ℕ) (c : Chord) (cs : List Chord) → t ≤ max b c.start → max b c.start ≤ min e c.end → Whole (min e c.end) cs → Whole t (c ∷ cs)
    unfolding Whole filled filled_left
    one t c cs h k more =
        let m : ℕ = max b c.start in
        let n : ℕ = min e c.end in
        rw (written_append p (rests p (m - t)) (chord_in p b e c ++ filled p b e n cs), written_append p (chord_in p b e c) (filled p b e n cs))
        (add_up m n t _ _ _ _ _ _ h k (omega arith) (rests_whole (m - t)) (chord_whole b e c) more)

    whole : (from t : ℕ) (cs : List Chord) → Line 1 from cs → b < e → b ≤ t → t ≤ e → t ≤ max b from → Whole t (keep (sounds_in b e) cs)
    whole from t [] l h a k o = unfold Whole filled filled_left keep in rests_whole (e - t)
    whole from t (c ∷ cs) l h a k o =
        let long : c.start < c.end = l.1.long in
        elim (by_lt b c.end) [
          | inl s ↦
              elim (by_lt c.start e) [
                | inl r ↦
                    rw (keep_here b e c cs s r)
                    (one t c (keep (sounds_in b e) cs) (omega (arith, l.0)) (omega arith)
                    (whole c.end (min e c.end) cs l.2 h (omega arith) (omega arith) (omega arith)))
                | inr r ↦ rw (keep_not b e c cs (not_yet b e c r)) (whole c.end t cs l.2 h a k (omega (arith, l.0)))
              ]
          | inr s ↦ rw (keep_not b e c cs (over b e c s)) (whole c.end t cs l.2 h a k (omega (arith, l.0)))
        ]

    bar_whole : (cs : List Chord) → Line 1 0 cs → b < e
        → written_ticks p (filled p b e b (keep (sounds_in b e) cs)) + filled_left p b e b (keep (sounds_in b e) cs) ≡ e - b
    unfolding Whole
    bar_whole cs l h = whole 0 b cs l h (omega arith) (omega arith) (omega arith)

  pub voice_left_few : (is_first : Bool) (b e : ℕ) (cs : List Chord) → b < e → Line 1 0 cs
      → cond (is_first || any (sounds_in b e) cs) (filled_left p b e b (keep (sounds_in b e) cs)) 0 ≤ e - b
  voice_left_few is_first b e cs h l =
      elim (by_bool (is_first || any (sounds_in b e) cs)) [ inl t ↦ rw t (omega (arith, bar_whole b e cs l h)) | inr t ↦ rw t (omega arith) ]

-- four leftovers a bar
pub leftovers_length : (p : ℕ) (vs : List (List Chord)) → length vs ≡ 4 → (bs : List Bar) → length (leftovers_of p vs bs) ≡ 4 * length bs
unfolding flatten
leftovers_length p vs four [] = refl
leftovers_length p vs four (b ∷ bs) =
    rw (length-append (voices_left p vs b)) (omega (arith, bar_left_length p vs b, leftovers_length p vs four bs))

-- behind the first four
behind : {A : Type 0} (xs ys : List A) (i : ℕ) (d : A) → length xs ≡ 4 → 4 ≤ i → get_or (xs ++ ys) i d ≡ get_or ys (i - 4) d
behind xs ys i d four h = let place : i ≡ length xs + (i - 4) = omega arith in ap (λ (k : ℕ). get_or (xs ++ ys) k d) place ∙ get_or-append-add xs ys (i - 4) d

-- ---- bar by bar and voice by voice

module _ (p : ℕ) (some_ticks : 0 < p) where
  -- a voice in a bar
  pub record VoiceAdds (is_first : Bool) (b : Bar) (v : List Chord) (is : List Item) (l : ℕ) : Type 0 where
    pub whole : is_written is_first b v ≡ true → written_ticks p is + l ≡ b.len
    pub silent : is_written is_first b v ≡ false → l ≡ 0

  voice_adds : (is_first : Bool) (b : Bar) (v : List Chord) → 0 < b.len → Line 1 0 v → VoiceAdds is_first b v (voice_in p is_first b v) (voice_left p is_first b v)
  unfolding voice_in voice_left
  voice_adds is_first b v h l =
      record {
        whole = λ t. rw t (omega (arith, bar_whole p some_ticks b.start (bar_end b) v l (omega arith)));
        silent = λ f. rw f;
      }

  later_voice : (b : Bar) → 0 < b.len → (vs : List (List Chord)) → All (Line 1 0) vs → (j : ℕ) → j < length vs
      → VoiceAdds false b (get_or vs j []) (get_or (map (voice_in p false b) vs) j []) (get_or (map (voice_left p false b) vs) j 0)
  later_voice b h [] ls j k = absurd (omega arith)
  later_voice b h (v ∷ vs) ls zero k = voice_adds false b v h ls.0
  later_voice b h (v ∷ vs) ls (suc j) k = later_voice b h vs ls.1 j (omega arith)

  bar_voice : (b : Bar) → 0 < b.len → (vs : List (List Chord)) → All (Line 1 0) vs → (j : ℕ) → j < length vs
      → VoiceAdds (eqb j 0) b (get_or vs j []) (get_or (voices_in p vs b) j []) (get_or (voices_left p vs b) j 0)
  bar_voice b h [] ls j k = absurd (omega arith)
  bar_voice b h (v ∷ vs) ls zero k = voice_adds true b v h ls.0
  bar_voice b h (v ∷ vs) ls (suc j) k = rw (ne_eqb (suc j) 0 (λ e. omega arith)) (later_voice b h vs ls.1 j (omega arith))

  module _ (vs : List (List Chord)) (four : length vs ≡ 4) (lines : All (Line 1 0) vs) where
    At : List Bar → ℕ → Type 0
    At bs i = VoiceAdds (eqb (i % 4) 0) (bar_at bs i) (get_or vs (i % 4) []) (get_or (flatten (staff_of p vs bs)) i []) (get_or (leftovers_of p vs bs) i 0)

    at_each : (bs : List Bar) → All (λ (b : Bar). 0 < b.len) bs → (i : ℕ) → i < 4 * length bs → At bs i
    unfolding At flatten
    at_each [] h i k = absurd (omega arith)
    at_each (b ∷ bs) h i k =
        elim (by_lt i 4) [
          | inl s ↦
              let q : i / 4 ≡ 0 = omega arith in
              let r : i % 4 ≡ i = omega arith in
              rw (
                q,
                r,
                get_or-append (voices_in p vs b) (flatten (staff_of p vs bs)) [] i (omega (arith, bar_length_lem p vs b, four)),
                get_or-append (voices_left p vs b) (leftovers_of p vs bs) 0 i (omega (arith, bar_left_length p vs b, four)),
              )
              (bar_voice b h.0 vs lines i (omega (arith, four)))
          | inr s ↦
              let j : ℕ = i - 4 in
              let q : i / 4 ≡ suc (j / 4) = omega arith in
              let r : i % 4 ≡ j % 4 = omega arith in
              rw (
                q,
                r,
                behind (voices_in p vs b) (flatten (staff_of p vs bs)) i [] (bar_length_lem p vs b ∙ four) s,
                behind (voices_left p vs b) (leftovers_of p vs bs) i 0 (bar_left_length p vs b ∙ four) s,
              )
              (at_each bs h.1 j (omega arith))
        ]

-- what each leftover is, by its bar and its voice
each_left : (p : ℕ) (P : ℕ → Type 0) (Q : Bar → Type 0) (R : List Chord → Type 0)
    → ((is_first : Bool) (b : Bar) → Q b → (v : List Chord) → R v → P (voice_left p is_first b v))
    → (vs : List (List Chord)) → All R vs → (bs : List Bar) → All Q bs → All P (leftovers_of p vs bs)
unfolding flatten
each_left p P Q R each vs rs [] h = tt
each_left p P Q R each vs rs (b ∷ bs) h =
    All-append P (voices_left p vs b) (leftovers_of p vs bs) (in_bar vs rs) (each_left p P Q R each vs rs bs h.1)
  where
    in_bar : (vs : List (List Chord)) → All R vs → All P (voices_left p vs b)
    in_bar [] rs = tt
    in_bar (v ∷ vs) rs = (each true b h.0 v rs.0, All-map P (voice_left p false b) (λ w r. each false b h.0 w r) vs rs.1)

-- ---- the theorems

pub leftovers_add_up : LeftoversAddUp
unfolding At
leftovers_add_up p g ns bs h k lens =
    let vs : List (List Chord) = voices g ns in
    let all = at_each p h vs (voices_four g ns) (voices_line 1 g ns k (one-dvd g)) bs lens in
    record {
      four = leftovers_length p vs (voices_four g ns) bs;
      whole = λ i s. (all i s).whole;
      silent = λ i s. (all i s).silent;
    }

lengths : (t : ℕ) (bs : List Bar) → Consecutive t bs → All (λ (b : Bar). 0 < b.len) bs
lengths t [] c = tt
lengths t (b ∷ bs) c = (c.1, lengths (bar_end b) bs c.2)

pub part_adds_up : PartAddsUp
unfolding bars_up_to
part_adds_up x k known =
    leftovers_add_up (ticks_per_quarter x) (grid (ticks_per_quarter x) (part_notes x k)) (part_notes x k) (bars x) (ticks_per_quarter_positive x known)
    (grid_some (ticks_per_quarter x) (part_notes x k)) (lengths 0 (bars x) (bars_consecutive _ _ _ _ 0))

-- ---- an even part

module _ (p : ℕ) (some_ticks : 0 < p) where
  abbrev u : ℕ
  u = smallest p

  Zero : ℕ → Type 0
  Zero n = n ≡ 0

  -- chords between multiples of the smallest value
  abbrev Placed : Chord → Type 0
  Placed c = (u ∣ c.start) × (u ∣ c.end)

  filled_none : (b e t : ℕ) (cs : List Chord) → u ∣ b → u ∣ e → u ∣ t → All Placed cs → filled_left p b e t cs ≡ 0
  unfolding filled_left
  filled_none b e t [] ub ue ut h = split_even p (e - t) some_ticks (dvd-sub u ue ut)
  filled_none b e t (c ∷ cs) ub ue ut h =
      let um : u ∣ max b c.start = dvd_max u _ _ ub h.0.0 in
      let un : u ∣ min e c.end = dvd_min u _ _ ue h.0.1 in
      omega (
        arith,
        split_even p (max b c.start - t) some_ticks (dvd-sub u um ut),
        split_even p (min e c.end - max b c.start) some_ticks (dvd-sub u un um),
        filled_none b e (min e c.end) cs ub ue un h.1,
      )

  line_placed : (a : ℕ) (cs : List Chord) → Line u a cs → All Placed cs
  line_placed a [] l = tt
  line_placed a (c ∷ cs) l = ((l.1.starts, l.1.ends), line_placed c.end cs l.2)

  voice_none : (is_first : Bool) (b : Bar) → u ∣ b.start → u ∣ b.len → (v : List Chord) → Line u 0 v → voice_left p is_first b v ≡ 0
  unfolding voice_left
  voice_none is_first b ub ul v l =
      elim (by_bool (is_written is_first b v)) [
        | inl t ↦
            rw t
            (filled_none b.start (bar_end b) b.start (keep (sounds_in b.start (bar_end b)) v) ub (dvd-add u ub ul) ub
            (All-imp (λ (c : Chord) (h : Placed c × (sounds_in b.start (bar_end b) c ≡ true)). h.0) (keep (sounds_in b.start (bar_end b)) v)
            (All-keep Placed (sounds_in b.start (bar_end b)) v (line_placed 0 v l))))
        | inr t ↦ rw t
      ]

  -- a bar that starts at a multiple and is a multiple long
  abbrev Even : Bar → Type 0
  Even b = (u ∣ b.start) × (u ∣ b.len)

  bars_even : (t : ℕ) (bs : List Bar) → u ∣ t → Consecutive t bs → All (λ (b : Bar). u ∣ b.len) bs → All Even bs
  bars_even t [] ut c h = tt
  bars_even t (b ∷ bs) ut c h =
      let ub : u ∣ b.start = rw c.0 ut in
      ((ub, h.0), bars_even (bar_end b) bs (dvd-add u ub h.0) c.2 h.1)

pub even_leaves_nothing : EvenLeavesNothing
unfolding Zero
even_leaves_nothing p g ns bs h k d row lens =
    each_left p (Zero p h) (Even p h) (Line (smallest p) 0) (λ is_first b e v l. voice_none p h is_first b e.0 e.1 v l) (voices g ns)
    (voices_line (smallest p) g ns k d) bs (bars_even p h 0 bs (dvd-zero (smallest p)) row lens)

pub even_part_leaves_nothing : EvenPartLeavesNothing
unfolding bars_up_to
even_part_leaves_nothing x k known even =
    let evens = (says_even _ _ _).0 even in
    even_leaves_nothing (ticks_per_quarter x) (grid (ticks_per_quarter x) (part_notes x k)) (part_notes x k) (bars x) (ticks_per_quarter_positive x known)
    (grid_some (ticks_per_quarter x) (part_notes x k)) evens.0 (bars_consecutive _ _ _ _ 0) evens.1

-- ---- 32 bits

pub bars_short : BarsShort
unfolding bars_up_to
bars_short x known =
    bars_few_long 33422340 most_bars (ticks_per_quarter x) (meter_at (meter_changes (first_track x)) (first_meter (first_track x))) short (end_of_piece x) 0
  where
    short : (t : ℕ) → bar_length (ticks_per_quarter x) (meter_at (meter_changes (first_track x)) (first_meter (first_track x)) t) ≤ 33422340
    short t =
        let m : Meter = meter_at (meter_changes (first_track x)) (first_meter (first_track x)) t in
        omega (arith, bar_short (ticks_per_quarter x) m (meter_small (first_track x) t), quarter_short x known)

pub leftovers_short : LeftoversShort
unfolding bars_up_to voice_left
leftovers_short x k known =
    let p : ℕ = ticks_per_quarter x in
    let g : ℕ = grid p (part_notes x k) in
    each_left p (λ n. n ≤ 33422340) (λ (b : Bar). (b.len ≤ 33422340) × (0 < b.len)) (Line 1 0)
    (λ is_first b h v l. few p (ticks_per_quarter_positive x known) is_first b v l h.0 h.1)
    (voices g (part_notes x k)) (voices_line 1 g (part_notes x k) (grid_some p (part_notes x k)) (one-dvd g)) (bars x)
    (All-both (λ (b : Bar). b.len ≤ 33422340) (λ (b : Bar). 0 < b.len) (bars x) (bars_short x known) (lengths 0 (bars x) (bars_consecutive _ _ _ _ 0)))
  where
    few : (p : ℕ) → 0 < p → (is_first : Bool) (b : Bar) (v : List Chord) → Line 1 0 v → b.len ≤ 33422340 → 0 < b.len → voice_left p is_first b v ≤ 33422340
    few p h is_first b v l short long = omega (arith, voice_left_few p h is_first b.start (bar_end b) v (omega arith) l)
