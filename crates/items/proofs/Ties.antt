-- Ties taken off the ends of items that stand in an output: what is left are the chord's pieces.
use Prim.Native.Nat.{ℕ, suc, zero, ◌+◌, ◌-◌, ◌/◌, ◌%◌, ◌≤◌, ◌<◌, ◌^◌, min, max}
use mathlib.Core.Bool.{Bool, true, false, ◌&&◌, false≢true}
use mathlib.Core.List.{List, [], ◌∷◌, ◌++◌, map}
use mathlib.Core.Logic.{inl, inr}
use mathlib.Core.Path.{◌≡◌, refl, sym, ap, subst, ◌∙◌}
use native.Mathlib.Nat.{add-zero, zero-add, suc-add}
use native.Mathlib.Omega.{arith}
use borrow.Author.Tests.{ltb-true, lt-ltb, le-ltb}
use lib.Dec.{ltb}
use lib.ListN.{length, get_or, set, take, drop, length-set, length-map, get_or-append}
use lib.Seq.{length-take-le, get_or-set_same, get_or-set_other, set-append_left, get_or-append-add}
use Rattle.rules.specs.Items.{head_of}
use Rattle.rules.specs.Staff.{pieces, rests, rest_of, chord_in, rests_left, chord_left}
use Rattle.rules.specs.Values.{Value, split_span}
use Rattle.rules.specs.Voices.{Chord}
use Rattle.laws.proofs.Order.{by_eq}
use Rattle.chords.specs.Columns.{keys_of}
use Rattle.chords.specs.declared.Keys.{Keys}
use Rattle.chords.proofs.Stores.{keys_low, keys_high}
use Rattle.values.specs.Table.{piece_word, span_words}
use Rattle.values.specs.declared.Split.{Split}
use Rattle.items.specs.Putting.{put_at, Put}
use Rattle.items.specs.Writing.{Pushed, span_items, SpanPut, untied, freed, BothTied}
use Rattle.items.proofs.Putting.{put_length}
use Rattle.items.proofs.Pieces.{tied_bits, rest_heads, rest_keys, pieces_length, pieces_keys, piece_heads}

-- ---- in an output

set_after : (xs ys : List ℕ) (i a : ℕ) → set (xs ++ ys) (length xs + i) a ≡ xs ++ set ys i a
set_after [] ys i a = rw (zero-add i)
set_after (x ∷ xs) ys i a = rw suc-add (ap (λ (l : List ℕ). x ∷ l) (set_after xs ys i a))

module _ (ws : List ℕ) (from : ℕ) (l : List ℕ) (fits : from + length ws ≤ length l) where
  front : length (take from l) ≡ from
  front = length-take-le from l (omega arith)

  pub put_get : (j : ℕ) → j < length ws → get_or (put_at ws from l) (from + j) 0 ≡ get_or ws j 0
  put_get j h =
      ap (λ (k : ℕ). get_or (put_at ws from l) (k + j) 0) (sym front) ∙ get_or-append-add (take from l) (ws ++ drop (length ws) (drop from l)) j 0
      ∙ get_or-append ws (drop (length ws) (drop from l)) 0 j h

  put_set : (j a : ℕ) → j < length ws → set (put_at ws from l) (from + j) a ≡ put_at (set ws j a) from l
  put_set j a h =
      ap (λ (k : ℕ). set (put_at ws from l) (k + j) a) (sym front) ∙ set_after (take from l) (ws ++ drop (length ws) (drop from l)) j a
      ∙ rw (set-append_left ws (drop (length ws) (drop from l)) j a h, length-set)

  untied_put : (bit j : ℕ) (tied : Bool) → j < length ws → untied bit (from + j) tied (put_at ws from l) ≡ put_at (untied bit j tied ws) from l
  untied_put bit j true h = refl
  untied_put bit j false h = rw (put_get j h) (put_set j (get_or ws j 0 - bit) h)

untied_length : (bit i : ℕ) (tied : Bool) (l : List ℕ) → length (untied bit i tied l) ≡ length l
untied_length bit i true l = refl
untied_length bit i false l = length-set l i (get_or l i 0 - bit)

-- the last item is tied out after the first has lost its tie-in
module _ {some : Bool} {from to : ℕ} {l : List ℕ} (b : BothTied some from to l) (t : some ≡ true) where
  pub still_tied : (is_in : Bool) → (to - 1 < length (untied 32 from is_in l)) × (64 ≤ get_or (untied 32 from is_in l) (to - 1) 0)
  still_tied true = (omega (arith, b.inside t, b.order t), omega (arith, b.last t))
  still_tied false =
      let inside : from < length l = omega (arith, b.inside t, b.order t) in (
        simp length-set (omega (arith, b.inside t, b.order t)),
        elim (by_eq (to - 1) from) [
          | inl e ↦ rw e (rw (get_or-set_same l from (get_or l from 0 - 32) 0 inside) (omega (arith, b.first t)))
          | inr ne ↦ rw (get_or-set_other l from (to - 1) (get_or l from 0 - 32) 0 ne) (omega (arith, b.last t))
        ],
      )

-- ---- rests

pub rests_length : (p t : ℕ) → length (rests p t) ≡ span_items p t
rests_length p t = length-map (split_span p t).pieces rest_of

pub span_rests : {w : Bool} {p t : ℕ} {from : Split} {heads₀ keys₀ heads₁ keys₁ : List ℕ} {r : Split}
    → SpanPut w p t 256 0 0 from heads₀ keys₀ heads₁ keys₁ r → Pushed w (rests p t) (rests_left p t) from heads₀ keys₀ heads₁ keys₁ r
span_rests {w} {p} {t} s =
    record {
      items =
          record {
            next = rw (rests_length p t) s.next;
            heads = rw (rest_heads (split_span p t).pieces) s.heads;
            keys = rw (rest_keys (split_span p t).pieces) s.keys;
          };
      left = s.left;
    }

-- ---- a chord

-- each word of a span has its bits
word_least : (bits : ℕ) (vs : List Value) (j : ℕ) → j < length vs → bits ≤ get_or (map (piece_word bits) vs) j 0
word_least bits [] j h = absurd (omega arith)
word_least bits (v ∷ vs) zero h = omega arith
word_least bits (v ∷ vs) (suc j) h = word_least bits vs j (omega arith)

-- what `free_ends` asks
pub span_tied : (w : Bool) {p t bits low high : ℕ} {from : Split} {heads₀ keys₀ heads₁ keys₁ : List ℕ} {r : Split} → 96 ≤ bits
    → (w ≡ true → from.at + span_items p t ≤ length heads₀) → SpanPut w p t bits low high from heads₀ keys₀ heads₁ keys₁ r
    → BothTied (w && ltb from.at r.at) from.at r.at heads₁
span_tied false some fits s =
    record {
      order = λ e. absurd (false≢true e);
      inside = λ e. absurd (false≢true e);
      first = λ e. absurd (false≢true e);
      last = λ e. absurd (false≢true e);
    }
span_tied true {p} {t} {bits} {low} {high} {from} {heads₀} {keys₀} {heads₁} {keys₁} {r} some fits s =
    let ws : List ℕ = span_words p t bits in
    let many : length ws ≡ span_items p t = length-map (split_span p t).pieces (piece_word bits) in
    let room : from.at + length ws ≤ length heads₀ = omega (arith, fits refl) in
    let word : (j : ℕ) → j < span_items p t → 96 ≤ get_or heads₁ (from.at + j) 0 =
    (λ j h.
    rw (s.heads.is, put_get ws from.at heads₀ room j (omega arith))
    (let l = word_least bits (split_span p t).pieces j h in omega arith)) in
    record {
      order = λ e. ltb-true from.at r.at e;
      inside = λ e. omega (arith, s.next, put_length true (λ _. room) s.heads);
      first = λ e. rw add-zero at (word 0 (omega (arith, s.next, ltb-true from.at r.at e)));
      last =
          λ e.
          let place : r.at - 1 ≡ from.at + (span_items p t - 1) = omega (arith, s.next, ltb-true from.at r.at e) in
          rw place (word (span_items p t - 1) (omega (arith, s.next, ltb-true from.at r.at e)));
    }

-- the words of a span that is tied on both sides, with its ends freed, are those of a chord's pieces
freed_pieces : (c : Chord) (is_in is_out : Bool) (vs : List Value) (from : ℕ) (l : List ℕ) → from + length vs ≤ length l
    → freed true from (from + length vs) is_in is_out (put_at (map (piece_word (tied_bits c.unpitched)) vs) from l)
    ≡ put_at (map head_of (pieces c is_in is_out vs)) from l
unfolding pieces
freed_pieces c is_in is_out [] from l h = rw (add-zero, le-ltb from from (omega arith))
freed_pieces c is_in is_out (v ∷ vs) from l h =
    let ws : List ℕ = map (piece_word (tied_bits c.unpitched)) (v ∷ vs) in
    let many : length ws ≡ suc (length vs) = length-map (v ∷ vs) (piece_word (tied_bits c.unpitched)) in
    let place : from + length (v ∷ vs) - 1 ≡ from + length vs = omega arith in
    rw (lt-ltb from (from + length (v ∷ vs)) (omega arith), place)
    (ap (untied 64 (from + length vs) is_out)
    (ap (λ (i : ℕ). untied 32 i is_in (put_at ws from l)) (sym (add-zero from)) ∙ untied_put ws from l (omega arith) 32 0 is_in (omega arith))
    ∙ untied_put (untied 32 0 is_in ws) from l (rw (untied_length 32 0 is_in ws) (omega arith)) 64 (length vs) is_out
    (rw (untied_length 32 0 is_in ws) (omega arith))
    ∙ ap (λ (ys : List ℕ). put_at ys from l) (piece_heads c is_in is_out v vs))

span_pieces : (c : Chord) (k : Keys) (is_in is_out : Bool) {w : Bool} {p t : ℕ} {from : Split} {heads₀ keys₀ heads₁ keys₁ heads₂ : List ℕ} {r : Split}
    → k.low < 2 ^ 64 → c.keys ≡ keys_of k → (w ≡ true → from.at + span_items p t ≤ length heads₀)
    → SpanPut w p t (tied_bits c.unpitched) k.low k.high from heads₀ keys₀ heads₁ keys₁ r → heads₂ ≡ freed w from.at r.at is_in is_out heads₁
    → Pushed w (pieces c is_in is_out (split_span p t).pieces) (split_span p t).left from heads₀ keys₀ heads₂ keys₁ r
span_pieces c k is_in is_out {w} {p} {t} {from} {heads₀} {keys₀} {heads₁} {keys₁} {heads₂} {r} small keys fits s e =
    let vs : List Value = (split_span p t).pieces in
    let lows : c.keys % 2 ^ 64 ≡ k.low = rw keys (keys_low k small) in
    let highs : c.keys / 2 ^ 64 ≡ k.high = rw keys (keys_high k small) in
    record {
      items =
          record {
            next = rw (pieces_length c is_in is_out vs) s.next;
            heads = freed_put w fits s e;
            keys = rw (pieces_keys c is_in is_out vs, lows, highs) s.keys;
          };
      left = s.left;
    }
  where
    freed_put : (w : Bool) → (w ≡ true → from.at + span_items p t ≤ length heads₀)
        → SpanPut w p t (tied_bits c.unpitched) k.low k.high from heads₀ keys₀ heads₁ keys₁ r
        → heads₂ ≡ freed w from.at r.at is_in is_out heads₁
        → Put w (map head_of (pieces c is_in is_out (split_span p t).pieces)) from.at heads₀ heads₂
    freed_put true fits s e =
        record { is = e ∙ rw (s.next, s.heads.is) (freed_pieces c is_in is_out (split_span p t).pieces from.at heads₀ (fits refl)) }
    freed_put false fits s e = record { is = e ∙ s.heads.is }

-- a chord in the bar from b to e: a span of as many ticks as it sounds there
pub span_chord : (c : Chord) (k : Keys) (b e t : ℕ) {w : Bool} {p : ℕ} {from : Split} {heads₀ keys₀ heads₁ keys₁ heads₂ : List ℕ} {r : Split}
    → t ≡ min e c.end - max b c.start → k.low < 2 ^ 64 → c.keys ≡ keys_of k → (w ≡ true → from.at + span_items p t ≤ length heads₀)
    → SpanPut w p t (tied_bits c.unpitched) k.low k.high from heads₀ keys₀ heads₁ keys₁ r
    → heads₂ ≡ freed w from.at r.at (ltb c.start b) (ltb e c.end) heads₁
    → Pushed w (chord_in p b e c) (chord_left p b e c) from heads₀ keys₀ heads₂ keys₁ r
span_chord c k b e t {w} {p} {from} {heads₀} {keys₀} {heads₁} {keys₁} {heads₂} {r} same small keys fits s h =
    subst
    (λ (u : ℕ). Pushed w (pieces c (ltb c.start b) (ltb e c.end) (split_span p u).pieces) (split_span p u).left from heads₀ keys₀ heads₂ keys₁ r)
    same
    (span_pieces c k (ltb c.start b) (ltb e c.end) small keys fits s h)
