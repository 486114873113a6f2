-- The round trip: a staff's three arrays are well shaped, and reading them gives the staff back.
use Prim.Native.Nat.{ℕ, ◌+◌, ◌-◌, ◌*◌, ◌%◌, ◌^◌, ◌≤◌, ◌<◌, min, max}
use mathlib.Core.Bool.{Bool, true, false}
use mathlib.Core.List.{List, [], ◌∷◌, ◌++◌, map, flat_map, flatten}
use mathlib.Core.Logic.{inl, inr}
use mathlib.Core.Path.{◌≡◌, refl, ap₂}
use lib.Dec.{eqb, ltb}
use lib.ListN.{length, length-map}
use lib.Seq.{take-append_seam, drop-append_seam}
use native.Mathlib.Omega.{arith}
use Rattle.rules.specs.Lists.{bit, flag, All, keep}
use Rattle.rules.specs.Bars.{Bar, bar_end}
use Rattle.rules.specs.Items.{Item, Staff, head_of, head_limit, low_keys, high_keys, item_of, items_of, arrays_of, read_items, cut_by, by_fours, read_staff}
use Rattle.rules.specs.RawNotes.{RawNote}
use Rattle.rules.specs.Staff.{rest_of, rests, pieces, chord_in, sounds_in, is_written, filled, voice_in, voices_in, staff_of}
use Rattle.rules.specs.Values.{Value, split_span}
use Rattle.rules.specs.Voices.{Chord}
use Rattle.rules.specs.ProofReader.{Values, Right, Shaped, WellFormed}
use Rattle.rules.specs.ProofReaderTests.{verdict_on}
use Rattle.laws.specs.Ladder.{StaffPiece}
use Rattle.laws.proofs.Lists.{All-imp, All-append, All-map, All-all, All-flatten, by_four, length_flatten, length_flatten_each}
use Rattle.laws.proofs.Order.{by_bool}
use Rattle.laws.proofs.Splits.{split_staff}
use Rattle.laws.proofs.Tests.{flag_small}
use Rattle.laws.proofs.Verdict.{says_verdict_on, right_bars}

-- an item whose code and dots have room in a head
abbrev pub Encodable : Item → Type 0
Encodable i = (i.code ≤ 15) × (i.dots ≤ 1)

-- ---- one item

low_bit : (n f q : ℕ) → n ≡ f + 2 * q → f ≤ 1 → n % 2 ≡ f
low_bit n f q e small = omega arith

-- a bit that is a flag's
flag_back : (b : Bool) (n : ℕ) → n ≡ flag b → eqb n 1 ≡ b
flag_back true n e = rw e
flag_back false n e = rw e

module _ {c d a b u r : ℕ} (hc : c ≤ 15) (hd : d ≤ 1) (ha : a ≤ 1) (hb : b ≤ 1) (hu : u ≤ 1) (hr : r ≤ 1) where
  bit_4 : bit 4 (c + d * 16 + a * 32 + b * 64 + u * 128 + r * 256) ≡ d
  bit_4 = low_bit _ d (a + b * 2 + u * 4 + r * 8) (omega arith) hd

  bit_5 : bit 5 (c + d * 16 + a * 32 + b * 64 + u * 128 + r * 256) ≡ a
  bit_5 = low_bit _ a (b + u * 2 + r * 4) (omega arith) ha

  bit_6 : bit 6 (c + d * 16 + a * 32 + b * 64 + u * 128 + r * 256) ≡ b
  bit_6 = low_bit _ b (u + r * 2) (omega arith) hb

  bit_7 : bit 7 (c + d * 16 + a * 32 + b * 64 + u * 128 + r * 256) ≡ u
  bit_7 = low_bit _ u r (omega arith) hu

  bit_8 : bit 8 (c + d * 16 + a * 32 + b * 64 + u * 128 + r * 256) ≡ r
  bit_8 = low_bit _ r 0 (omega arith) hr

module _ (i : Item) (code : i.code ≤ 15) (dots : i.dots ≤ 1) where
  pub head_small : head_of i < head_limit
  head_small =
      omega (arith, flag_small i.tie_in, flag_small i.tie_out, flag_small i.unpitched, flag_small i.rest)

  pub item_head : item_of (head_of i) (low_keys i) (high_keys i) ≡ i
  item_head =
      let a : flag i.tie_in ≤ 1 = flag_small i.tie_in in
      let b : flag i.tie_out ≤ 1 = flag_small i.tie_out in
      let u : flag i.unpitched ≤ 1 = flag_small i.unpitched in
      let r : flag i.rest ≤ 1 = flag_small i.rest in
      let code_same : head_of i % 16 ≡ i.code = omega arith in
      let keys_same : low_keys i + high_keys i * 2 ^ 64 ≡ i.keys = omega arith in
      λ j.
      record {
        code = code_same j;
        dots = bit_4 code dots a b u r j;
        tie_in = flag_back i.tie_in _ (bit_5 code dots a b u r) j;
        tie_out = flag_back i.tie_out _ (bit_6 code dots a b u r) j;
        unpitched = flag_back i.unpitched _ (bit_7 code dots a b u r) j;
        rest = flag_back i.rest _ (bit_8 code dots a b u r) j;
        keys = keys_same j;
      }

-- ---- the three arrays, read back

read_items_lem : (is : List Item) → All Encodable is
    → read_items (map head_of is) (flat_map (λ i. low_keys i ∷ high_keys i ∷ []) is) ≡ is
unfolding read_items flat_map
read_items_lem [] h = refl
read_items_lem (i ∷ is) h = ap₂ ◌∷◌ (item_head i h.0.0 h.0.1) (read_items_lem is h.1)

module _ {A : Type 0} where
  cut_flatten : (xss : List (List A)) → cut_by (map length xss) (flatten xss) ≡ xss
  unfolding cut_by flatten
  cut_flatten [] = refl
  cut_flatten (xs ∷ xss) = rw (take-append_seam, drop-append_seam, cut_flatten xss)

  four : (xs ys : List A) → length xs ≡ 4 → by_fours (xs ++ ys) ≡ xs ∷ by_fours ys
  unfolding by_fours
  four xs ys = by_four (λ zs. by_fours (zs ++ ys) ≡ zs ∷ by_fours ys) (λ a b c d. refl) xs

  fours_flatten : (xss : List (List A)) → All (λ xs. length xs ≡ 4) xss → by_fours (flatten xss) ≡ xss
  unfolding by_fours flatten
  fours_flatten [] h = refl
  fours_flatten (xs ∷ xss) h = rw (four xs (flatten xss) h.0, fours_flatten xss h.1)

-- a list cut by the counts of its voices
pub read_voices : (st : Staff) → All (All (All Encodable)) st
    → cut_by (arrays_of st).counts (read_items (arrays_of st).heads (arrays_of st).keys) ≡ flatten st
read_voices st small =
    rw (read_items_lem (items_of st) (All-flatten Encodable (flatten st) (All-flatten (All Encodable) st small))) (cut_flatten (flatten st))

-- ---- the staff

pair_words : (is : List Item) → length (flat_map (λ i. low_keys i ∷ high_keys i ∷ []) is) ≡ 2 * length is
unfolding flat_map
pair_words [] = refl
pair_words (i ∷ is) = omega (arith, pair_words is)

module _ (st : Staff) (fours : All (λ bar. length bar ≡ 4) st) (small : All (All (All Encodable)) st) where
  small_items : All Encodable (items_of st)
  small_items = All-flatten Encodable (flatten st) (All-flatten (All Encodable) st small)

  pub read_written : read_staff (arrays_of st) ≡ st
  read_written = rw (read_items_lem (items_of st) small_items, cut_flatten (flatten st), fours_flatten st fours)

  pub shaped_written : (bs : List Bar) → length st ≡ length bs → Shaped bs (arrays_of st)
  shaped_written bs same =
      record {
        counts = rw length-map (omega (arith, length_flatten_each 4 st fours));
        heads = rw length-map (length_flatten (flatten st));
        keys = rw (← length_flatten (flatten st)) (pair_words (items_of st));
        bits = All-map (λ h. h < head_limit) head_of (λ i e. head_small i e.0 e.1) (items_of st) small_items;
      }

-- ---- engraved staffs, at any division

module _ (p : ℕ) where
  pieces_encodable : (c : Chord) (is_in is_out : Bool) (vs : List Value) → All (StaffPiece p) vs → All Encodable (pieces c is_in is_out vs)
  unfolding pieces
  pieces_encodable c is_in is_out [] h = tt
  pieces_encodable c is_in is_out (v ∷ vs) h = ((omega (arith, h.0.code), h.0.dots), pieces_encodable c true is_out vs h.1)

  rests_encodable : (t : ℕ) → All Encodable (rests p t)
  rests_encodable t = All-map Encodable rest_of (λ v h. (omega (arith, h.code), h.dots)) (split_span p t).pieces (split_staff p t)

  filled_encodable : (b e t : ℕ) (cs : List Chord) → All Encodable (filled p b e t cs)
  unfolding filled
  filled_encodable b e t [] = rests_encodable (e - t)
  filled_encodable b e t (c ∷ cs) =
      All-append Encodable (rests p (max b c.start - t)) _ (rests_encodable (max b c.start - t))
      (All-append Encodable (chord_in p b e c) _
      (pieces_encodable c (ltb c.start b) (ltb e c.end) (split_span p (min e c.end - max b c.start)).pieces (split_staff p _))
      (filled_encodable b e (min e c.end) cs))

  voice_encodable : (is_first : Bool) (b : Bar) (v : List Chord) → All Encodable (voice_in p is_first b v)
  unfolding voice_in
  voice_encodable is_first b v =
      elim (by_bool (is_written is_first b v)) [
        | inl t ↦ rw t (filled_encodable b.start (bar_end b) b.start (keep (sounds_in b.start (bar_end b)) v))
        | inr t ↦ rw t tt
      ]

  voices_encodable : (vs : List (List Chord)) (b : Bar) → All (All Encodable) (voices_in p vs b)
  voices_encodable [] b = tt
  voices_encodable (v ∷ vs) b = (
    voice_encodable true b v,
    All-map {P = λ (w : List Chord). Unit {0}} (All Encodable) (voice_in p false b) (λ w _. voice_encodable false b w) vs (All-all (λ w. tt) vs),
  )

  pub staff_encodable : (vs : List (List Chord)) (bs : List Bar) → All (All (All Encodable)) (staff_of p vs bs)
  staff_encodable vs bs =
      All-map {P = λ (b : Bar). Unit {0}} (All (All Encodable)) (voices_in p vs) (λ b _. voices_encodable vs b) bs (All-all (λ b. tt) bs)

-- ---- right staffs

pub values_encodable : (p : ℕ) (st : Staff) → Values p st → All (All (All Encodable)) st
values_encodable p = All-imp (All-imp (All-imp (λ i v. (omega arith, v.dots))))

module _ (p g : ℕ) (notes : List RawNote) (bs : List Bar) (st : Staff) (fours : All (λ bar. length bar ≡ 4) st) (right : Right p g notes bs st) where
  small : All (All (All Encodable)) st
  small = values_encodable p st right.values

  -- the arrays of a right staff are well formed, ..
  formed_written : WellFormed p bs (arrays_of st)
  formed_written =
      let same : read_staff (arrays_of st) ≡ st = read_written st fours small in
      record {
        shaped = shaped_written st fours small bs (right_bars p g notes bs st right);
        values = rw same right.values;
        clean = rw same right.clean;
        ties = rw same right.ties;
      }

  -- .. and get yes
  pub yes_written : verdict_on p g notes bs (arrays_of st) ≡ true
  yes_written = (says_verdict_on p g notes bs (arrays_of st)).1 (formed_written, rw (read_written st fours small) right)
