-- What is heard of a voice item by item is section 8's playback, and its tests are section 8's.
use Prim.Native.Nat.{ℕ}
use mathlib.Core.Bool.{Bool, true, false, cond, ◌&&◌, ◌||◌, and_assoc, and-true, and-false, and_comm}
use mathlib.Core.List.{List, [], ◌∷◌, ◌++◌, reverse, reverse-cons, foldl-append}
use mathlib.Core.Option.{Option, none, some}
use mathlib.Core.Path.{◌≡◌, refl, sym, ap, ◌∙◌}
use lib.Dec.{eqb}
use Rattle.rules.specs.Lists.{every}
use Rattle.rules.specs.RawNotes.{RawNote}
use Rattle.rules.specs.Bars.{Bar}
use Rattle.rules.specs.Items.{Item, Staff}
use Rattle.rules.specs.ProofReader.{Timed, timed_from, voice_items, voice_timed, Played, prolonged, hear, heard_after, playback, Tie, tie_after}
use Rattle.rules.specs.ProofReaderTests.{staff_value?, clean?, meets?, free_at?, tied?, keys_meant?, ends_with_note?, ends_meant?}
use Rattle.proofread_notes.specs.Chords.{chord_ok?}
use Rattle.proofread_items.specs.Playing.{Heard, fits?, last_ok?, closed_with, prolonged_to, sound_ok?, chord_after, closed_after, hear_one, run}
use Rattle.proofread_voices.specs.Voices.{filled?, with_ok, voice_run, silent, voice_ok?}

-- ---- tests in another order

and_swap : (a b c : Bool) → ((a && b) && c) ≡ ((a && c) && b)
and_swap true b c = and_comm b c
and_swap false b c = refl

pub and_cross : (a b A B : Bool) → ((a && b) && (A && B)) ≡ ((a && A) && (b && B))
and_cross true true A B = refl
and_cross true false true B = refl
and_cross true false false B = refl
and_cross false b A B = refl

-- ---- the last chord, and those before it

abbrev pub last_of : List Played → Option Played
last_of [] = none
last_of (c ∷ cs) = some c

abbrev pub earlier_of : List Played → List Played
earlier_of [] = []
earlier_of (c ∷ cs) = cs

-- what is heard, the chords cs being the voice's and `base` those of voices read before
abbrev pub heard_in : Bool → Option Tie → List Played → List Played → Heard
heard_in ok h cs base = record { ok = ok; tie = h; chord = last_of cs; closed = earlier_of cs ++ base }

module _ (p e : ℕ) (ns : List RawNote) where
  hear_chord : (t : Timed) (cs : List Played) → chord_after (last_of cs) t ≡ last_of (hear t cs)
  hear_chord t cs = by t.item.rest t.item.tie_in cs
    where
      by : (r i : Bool) (cs : List Played)
          → cond r (last_of cs)
          (cond i (prolonged_to t.to (last_of cs))
          (some (record { start = t.from; end = t.to; keys = t.item.keys; unpitched = t.item.unpitched })))
          ≡ last_of
          (cond r cs
          (cond i (prolonged t.to cs) (record { start = t.from; end = t.to; keys = t.item.keys; unpitched = t.item.unpitched } ∷ cs)))
      by true i cs = refl
      by false true [] = refl
      by false true (c ∷ cs) = refl
      by false false cs = refl

  hear_closed : (t : Timed) (cs base : List Played) → closed_after (last_of cs) t (earlier_of cs ++ base) ≡ earlier_of (hear t cs) ++ base
  hear_closed t cs base = by t.item.rest t.item.tie_in cs
    where
      by : (r i : Bool) (cs : List Played)
          → cond r (earlier_of cs ++ base) (cond i (earlier_of cs ++ base) (closed_with (last_of cs) (earlier_of cs ++ base)))
          ≡ earlier_of
          (cond r cs
          (cond i (prolonged t.to cs) (record { start = t.from; end = t.to; keys = t.item.keys; unpitched = t.item.unpitched } ∷ cs)))
          ++ base
      by true i cs = refl
      by false true [] = refl
      by false true (c ∷ cs) = refl
      by false false [] = refl
      by false false (c ∷ cs) = refl

  -- the tests of all items, with the tie h open and the chords cs heard
  unfoldable pub ok_after : Bool → Option Tie → List Played → List Timed → Bool
  ok_after ok h cs [] = ok
  ok_after ok h cs (t ∷ ts) = ok_after (ok && (fits? p h t && sound_ok? e ns (last_of cs) t)) (tie_after t) (hear t cs) ts

  unfoldable pub tie_last : Option Tie → List Timed → Option Tie
  tie_last h [] = h
  tie_last h (t ∷ ts) = tie_last (tie_after t) ts

  pub run_is : (ok : Bool) (h : Option Tie) (cs base : List Played) (ts : List Timed)
      → run p e ns (heard_in ok h cs base) ts ≡ heard_in (ok_after ok h cs ts) (tie_last h ts) (heard_after cs ts) base
  unfolding ok_after tie_last heard_after hear_one
  run_is ok h cs base [] = refl
  run_is ok h cs base (t ∷ ts) =
      ap (λ (a : Heard). run p e ns a ts) (one ok h cs base t) ∙ run_is (ok && (fits? p h t && sound_ok? e ns (last_of cs) t)) (tie_after t) (hear t cs) base ts
    where
      one : (ok : Bool) (h : Option Tie) (cs base : List Played) (t : Timed)
          → hear_one p e ns (heard_in ok h cs base) t ≡ heard_in (ok && (fits? p h t && sound_ok? e ns (last_of cs) t)) (tie_after t) (hear t cs) base
      one ok h cs base t =
          λ i. record { ok = ok && (fits? p h t && sound_ok? e ns (last_of cs) t); tie = tie_after t; chord = hear_chord t cs i; closed = hear_closed t cs base i }

  -- ---- the tests one by one

  abbrev pub good_item? : Item → Bool
  good_item? i = staff_value? p i && clean? i

  unfoldable pub meet_all? : Option Tie → List Timed → Bool
  meet_all? h [] = true
  meet_all? h (t ∷ ts) = meets? h t && meet_all? (tie_after t) ts

  unfoldable pub close_all? : List Played → List Timed → Bool
  close_all? cs [] = true
  close_all? cs (t ∷ ts) = sound_ok? e ns (last_of cs) t && close_all? (hear t cs) ts

  pub ok_parts : (ok : Bool) (h : Option Tie) (cs : List Played) (ts : List Timed)
      → ok_after ok h cs ts ≡ (ok && (every (λ (t : Timed). good_item? t.item) ts && (meet_all? h ts && close_all? cs ts)))
  unfolding ok_after meet_all? close_all? every
  ok_parts ok h cs [] = sym (and-true ok)
  ok_parts ok h cs (t ∷ ts) =
      ok_parts (ok && (fits? p h t && sound_ok? e ns (last_of cs) t)) (tie_after t) (hear t cs) ts
      ∙ shuffle ok (good_item? t.item) (meets? h t) (sound_ok? e ns (last_of cs) t) (every (λ (t : Timed). good_item? t.item) ts)
      (meet_all? (tie_after t) ts) (close_all? (hear t cs) ts)
    where
      shuffle : (o g m s G M C : Bool) → ((o && ((g && m) && s)) && (G && (M && C))) ≡ (o && ((g && G) && ((m && M) && (s && C))))
      shuffle false g m s G M C = refl
      shuffle true false m s G M C = refl
      shuffle true true false s false M C = refl
      shuffle true true false s true M C = refl
      shuffle true true true s false M C = and-false s
      shuffle true true true false true true C = refl
      shuffle true true true false true false C = refl
      shuffle true true true true true M C = refl

  pub ties_are : (h : Option Tie) (ts : List Timed) → (meet_all? h ts && free_at? e (tie_last h ts)) ≡ tied? e h ts
  unfolding meet_all? tie_last tied?
  ties_are h [] = refl
  ties_are h (t ∷ ts) =
      and_assoc (meets? h t) (meet_all? (tie_after t) ts) (free_at? e (tie_last (tie_after t) ts))
      ∙ ap (λ (b : Bool). meets? h t && b) (ties_are (tie_after t) ts)

  -- ---- chords

  -- the chords, the latest first, the tick `next` following them
  unfoldable pub chords_ok? : ℕ → List Played → Bool
  chords_ok? next [] = true
  chords_ok? next (c ∷ cs) = chord_ok? e ns c next && chords_ok? c.start cs

  -- the chords before the last
  abbrev pub earlier_ok? : List Played → Bool
  earlier_ok? [] = true
  earlier_ok? (c ∷ cs) = chords_ok? c.start cs

  chords_last : (next : ℕ) (cs : List Played) → chords_ok? next cs ≡ (last_ok? e ns (last_of cs) next && earlier_ok? cs)
  unfolding chords_ok?
  chords_last next [] = refl
  chords_last next (c ∷ cs) = refl

  hear_earlier : (t : Timed) (cs : List Played) → earlier_ok? (hear t cs) ≡ (sound_ok? e ns (last_of cs) t && earlier_ok? cs)
  hear_earlier t cs = by t.item.rest t.item.tie_in cs
    where
      by : (r i : Bool) (cs : List Played)
          → earlier_ok?
          (cond r cs
          (cond i (prolonged t.to cs) (record { start = t.from; end = t.to; keys = t.item.keys; unpitched = t.item.unpitched } ∷ cs)))
          ≡ (cond r true (cond i true (last_ok? e ns (last_of cs) t.from)) && earlier_ok? cs)
      by true i cs = refl
      by false true [] = refl
      by false true (c ∷ cs) = refl
      by false false cs = chords_last t.from cs

  pub chords_are : (cs : List Played) (ts : List Timed)
      → ((close_all? cs ts && last_ok? e ns (last_of (heard_after cs ts)) e) && earlier_ok? cs) ≡ chords_ok? e (heard_after cs ts)
  unfolding close_all? heard_after
  chords_are cs [] = sym (chords_last e cs)
  chords_are cs (t ∷ ts) =
      shuffle (sound_ok? e ns (last_of cs) t) (close_all? (hear t cs) ts) (last_ok? e ns (last_of (heard_after (hear t cs) ts)) e) (earlier_ok? cs)
      ∙ ap (λ (b : Bool). (close_all? (hear t cs) ts && last_ok? e ns (last_of (heard_after (hear t cs) ts)) e) && b) (sym (hear_earlier t cs))
      ∙ chords_are (hear t cs) ts
    where
      shuffle : (s c l x : Bool) → (((s && c) && l) && x) ≡ ((c && l) && (s && x))
      shuffle true c l x = refl
      shuffle false true l x = sym (and-false l)
      shuffle false false l x = refl

  -- the same chords in order
  unfoldable in_order? : ℕ → List Played → Bool
  in_order? next [] = true
  in_order? next (c ∷ []) = chord_ok? e ns c next
  in_order? next (c ∷ d ∷ cs) = chord_ok? e ns c d.start && in_order? next (d ∷ cs)

  order_more : (next : ℕ) (cs : List Played) (c : Played) → in_order? next (cs ++ (c ∷ [])) ≡ (in_order? c.start cs && chord_ok? e ns c next)
  unfolding in_order?
  order_more next [] c = refl
  order_more next (x ∷ []) c = refl
  order_more next (x ∷ y ∷ cs) c =
      ap (λ (b : Bool). chord_ok? e ns x y.start && b) (order_more next (y ∷ cs) c)
      ∙ sym (and_assoc (chord_ok? e ns x y.start) (in_order? c.start (y ∷ cs)) (chord_ok? e ns c next))

  chords_order : (next : ℕ) (cs : List Played) → chords_ok? next cs ≡ in_order? next (reverse cs)
  unfolding chords_ok? in_order?
  chords_order next [] = refl
  chords_order next (c ∷ cs) =
      ap (λ (b : Bool). chord_ok? e ns c next && b) (chords_order c.start cs)
      ∙ and_comm (chord_ok? e ns c next) (in_order? c.start (reverse cs))
      ∙ sym (ap (in_order? next) (reverse-cons c cs) ∙ order_more next (reverse cs) c)

  order_points : (cs : List Played) → in_order? e cs ≡ (every (keys_meant? e ns) cs && ends_meant? e ns cs)
  unfolding in_order? every ends_meant? chord_ok?
  order_points [] = refl
  order_points (c ∷ []) = last (keys_meant? e ns c) (ends_with_note? ns c) (eqb c.end e)
    where
      last : (k w f : Bool) → (k && (w || f || f)) ≡ ((k && true) && (w || f))
      last true true f = refl
      last true false true = refl
      last true false false = refl
      last false w f = refl
  order_points (c ∷ d ∷ cs) =
      ap (λ (b : Bool). (keys_meant? e ns c && (ends_with_note? ns c || eqb c.end d.start || eqb c.end e)) && b) (order_points (d ∷ cs))
      ∙ and_cross (keys_meant? e ns c) (ends_with_note? ns c || eqb c.end d.start || eqb c.end e)
      (every (keys_meant? e ns) (d ∷ cs)) (ends_meant? e ns (d ∷ cs))

  -- the chords of a voice that are heard are those that are meant
  pub chords_points : (cs : List Played) → chords_ok? e cs ≡ (every (keys_meant? e ns) (reverse cs) && ends_meant? e ns (reverse cs))
  chords_points cs = chords_order e cs ∙ order_points (reverse cs)

  -- ---- a voice through the bars

  -- the tests at the bars' ends
  unfoldable pub full_in? : ℕ → List Bar → Staff → Bool
  full_in? v [] st = true
  full_in? v (b ∷ bs) [] = true
  full_in? v (b ∷ bs) (bar ∷ st) = filled? p v b (voice_items v bar) && full_in? v bs st

  run_with : (a : Heard) (b : Bool) (ts : List Timed) → run p e ns (with_ok a b) ts ≡ with_ok (run p e ns a ts) b
  unfolding hear_one
  run_with a b [] = refl
  run_with a b (t ∷ ts) =
      ap (λ (x : Heard). run p e ns x ts)
      (λ i.
      record {
        ok = and_swap a.ok b (fits? p a.tie t && sound_ok? e ns a.chord t) i;
        tie = tie_after t;
        chord = chord_after a.chord t;
        closed = closed_after a.chord t a.closed;
      })
      ∙ run_with (hear_one p e ns a t) b ts

  voice_run_lem : (v : ℕ) (a : Heard) (bs : List Bar) (st : Staff) → voice_run p e ns v a bs st ≡ with_ok (run p e ns a (voice_timed p v bs st)) (full_in? v bs st)
  unfolding voice_run voice_timed full_in?
  voice_run_lem v a [] st = λ i. record { ok = sym (and-true a.ok) i; tie = a.tie; chord = a.chord; closed = a.closed }
  voice_run_lem v a (b ∷ bs) [] = λ i. record { ok = sym (and-true a.ok) i; tie = a.tie; chord = a.chord; closed = a.closed }
  voice_run_lem v a (b ∷ bs) (bar ∷ st) =
      let is : List Item = voice_items v bar in
      let x : Heard = run p e ns a (timed_from p b.start is) in
      let y : Heard = run p e ns x (voice_timed p v bs st) in
      voice_run_lem v (with_ok x (filled? p v b is)) bs st
      ∙ ap (λ (z : Heard). with_ok z (full_in? v bs st)) (run_with x (filled? p v b is) (voice_timed p v bs st))
      ∙ (λ i. record { ok = and_assoc y.ok (filled? p v b is) (full_in? v bs st) i; tie = y.tie; chord = y.chord; closed = y.closed })
      ∙ ap (λ (z : Heard). with_ok z (filled? p v b is && full_in? v bs st))
      (sym (foldl-append (hear_one p e ns) a (timed_from p b.start is) (voice_timed p v bs st)))

  -- voice v from the beginning
  module _ (v : ℕ) (base : List Played) (bs : List Bar) (st : Staff) where
    whole : voice_run p e ns v (silent base) bs st
        ≡ with_ok
        (heard_in (ok_after true none [] (voice_timed p v bs st)) (tie_last none (voice_timed p v bs st)) (heard_after [] (voice_timed p v bs st)) base)
        (full_in? v bs st)
    whole = voice_run_lem v (silent base) bs st ∙ ap (λ (z : Heard). with_ok z (full_in? v bs st)) (run_is true none [] base (voice_timed p v bs st))

    -- its chords, those of voices read before behind them
    pub voice_chords : closed_with (voice_run p e ns v (silent base) bs st).chord (voice_run p e ns v (silent base) bs st).closed
        ≡ heard_after [] (voice_timed p v bs st) ++ base
    voice_chords = ap (λ (a : Heard). closed_with a.chord a.closed) whole ∙ all (heard_after [] (voice_timed p v bs st))
      where
        all : (cs : List Played) → closed_with (last_of cs) (earlier_of cs ++ base) ≡ cs ++ base
        all [] = refl
        all (c ∷ cs) = refl

    -- its answer, point by point
    pub voice_points : voice_ok? e ns (voice_run p e ns v (silent base) bs st)
        ≡ (every (λ (t : Timed). good_item? t.item) (voice_timed p v bs st) && full_in? v bs st && tied? e none (voice_timed p v bs st)
        && (every (keys_meant? e ns) (playback (voice_timed p v bs st)) && ends_meant? e ns (playback (voice_timed p v bs st))))
    voice_points =
        let us : List Timed = voice_timed p v bs st in
        ap (voice_ok? e ns) whole
        ∙ ap (λ (b : Bool). (b && full_in? v bs st) && free_at? e (tie_last none us) && last_ok? e ns (last_of (heard_after [] us)) e) (ok_parts true none [] us)
        ∙ shuffle (every (λ (t : Timed). good_item? t.item) us) (meet_all? none us) (close_all? [] us) (full_in? v bs st) (free_at? e (tie_last none us))
        (last_ok? e ns (last_of (heard_after [] us)) e)
        ∙ (λ i. every (λ (t : Timed). good_item? t.item) us && full_in? v bs st && ties_are none us i
        && (chords_are [] us ∙ chords_points (heard_after [] us)) i)
      where
        shuffle : (g m c f t l : Bool) → (((g && (m && c)) && f) && t && l) ≡ (g && f && (m && t) && ((c && l) && true))
        shuffle false m c f t l = refl
        shuffle true true true true t l = ap (λ (b : Bool). t && b) (sym (and-true l))
        shuffle true true true false t l = refl
        shuffle true true false true t l = sym (and-false t)
        shuffle true true false false t l = refl
        shuffle true false c true t l = refl
        shuffle true false c false t l = refl
