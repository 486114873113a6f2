-- The order of the starts still pending reaches no staff: where it tells, two notes differ in the channel alone, and such neighbours make one chord.
use Prim.Native.Nat.{ℕ, ◌+◌, ◌<◌, max}
use mathlib.Core.Bool.{Bool, true, ◌&&◌, and_comm, and_assoc, or-false, and-eq-true_iff}
use mathlib.Core.List.Permᴰ
use mathlib.Core.List.{List, [], ◌∷◌, map, foldl, reverse}
use mathlib.Core.Logic.{inl, inr}
use mathlib.Core.Path.{◌≡◌, refl, sym, ap, ◌∙◌}
use native.Mathlib.Omega.{arith}
use borrow.Author.Tests.{eq-eqb, eqb-true, leb-true}
use lib.Dec.{eqb, leb}
use lib.ListN.{length}
use Rattle.rules.specs.Lists.{All, keep, any, change_first, sort_by}
use Rattle.rules.specs.Piece.{Event, kind_of, byte_a, byte_b, byte_c, well_formed, is_on}
use Rattle.rules.specs.RawNotes.{NoteEvent, note_events, RawNote, raw_note, pairing, by_channel, by_start, raw_notes_of, last_tick}
use Rattle.rules.specs.Grid.{is_off_grid, grid, snap, snapped}
use Rattle.rules.specs.Voices.{Chord, by_falling_key, joins, joined, opened, join_or_open, chords, no_voices, place, voices}
use Rattle.rules.specs.Staff.{staff_of}
use Rattle.laws.specs.HashOrder.{unclosed, OrderByChannel, OneStaff, OrderOfUnclosed}
use Rattle.laws.specs.Notes.{on_onset, ons_of}
use Rattle.laws.specs.Orders.{SameUpToOrder}
use Rattle.laws.proofs.ChordLaws.{Same}
use Rattle.laws.proofs.Folds.{any_change, change_both}
use Rattle.laws.proofs.Lists.{All-keep, All-map}
use Rattle.laws.proofs.Notes.{pending_begin}
use Rattle.laws.proofs.Order.{by_bool}
use Rattle.laws.proofs.Orders.{sort_order, order_length, order_tally, order_largest, All-order}
use Rattle.laws.proofs.Swaps.{Swapped, swapped_order, order_swapped, swapped_after, sort_swapped, map_swapped, foldl_swapped}
use Rattle.laws.proofs.Tests.{tally_keeps}

-- ---- neighbours that differ in the channel alone make one chord

abbrev note : ℕ → ℕ → ℕ → ℕ → RawNote
note s e k c = record { start = s; end = e; key = k; channel = c }

and_swap : (a b c : Bool) → a && b && c ≡ a && c && b
and_swap a b c = and_assoc a b c ∙ ap (λ (d : Bool). a && d) (and_comm b c) ∙ sym (and_assoc a c b)

joined_swap : (s e k c d : ℕ) (x : Chord) → joined (note s e k d) (joined (note s e k c) x) ≡ joined (note s e k c) (joined (note s e k d) x)
joined_swap s e k c d x = rw (and_swap x.unpitched (eqb c 9) (eqb d 9))

-- the second of two such notes joins what the first has opened
opened_joins : (s e k c d : ℕ) (cs : List Chord) → join_or_open (opened (note s e k c) ∷ cs) (note s e k d) ≡ joined (note s e k d) (opened (note s e k c)) ∷ cs
unfolding join_or_open any change_first
opened_joins s e k c d cs = rw (eq-eqb s s refl, eq-eqb e e refl)

join_swap : (s e k c d : ℕ) (cs : List Chord)
    → join_or_open (join_or_open cs (note s e k c)) (note s e k d) ≡ join_or_open (join_or_open cs (note s e k d)) (note s e k c)
unfolding join_or_open
join_swap s e k c d cs =
    let n = note s e k c in
    let m = note s e k d in
    elim (by_bool (any (joins n) cs)) [
      | inl t ↦
          rw t
          (rw (any_change (joins n) (joined n) (λ x. refl) cs, any_change (joins m) (joined m) (λ x. refl) cs, t)
          (change_both (joins n) (joined n) (joined m) (λ x. refl) (λ x. refl) (joined_swap s e k c d) cs))
      | inr t ↦ rw t (opened_joins s e k c d cs ∙ rw (and_comm (eqb c 9) (eqb d 9)) (sym (opened_joins s e k d c cs)))
    ]

-- two notes of one start, end and key leave the same chords in either order
join_same : (cs : List Chord) (n m : RawNote) → Same n m → join_or_open (join_or_open cs n) m ≡ join_or_open (join_or_open cs m) n
join_same cs n m h =
    let is : m ≡ note n.start n.end n.key m.channel =
    λ i. record { start = h.start i; end = h.end i; key = h.key i; channel = m.channel } in
    rw is (join_swap n.start n.end n.key n.channel m.channel cs)

snapped_same : (g : ℕ) (n m : RawNote) → Same n m → Same (snapped g n) (snapped g m)
snapped_same g n m h =
    record { start = ap (snap g) h.start; end = rw (h.start, h.end); key = h.key }

-- ---- such exchanges reach no staff

module _ {ns ms : List RawNote} (d : Swapped Same ns ms) where
  chords_swapped : (g : ℕ) → chords g ns ≡ chords g ms
  chords_swapped g =
      ap reverse
      (foldl_swapped join_or_open join_same
      (sort_swapped Same by_falling_key (λ n m h. rw (h.start, h.key)) Same (λ n m h e. h) (map_swapped Same (snapped g) (snapped_same g) d)) [])

  voices_swapped : (g : ℕ) → voices g ns ≡ voices g ms
  unfolding voices
  voices_swapped g = ap (λ (cs : List Chord). map reverse (foldl place no_voices cs)) (chords_swapped g)

  grid_swapped : (p : ℕ) → grid p ns ≡ grid p ms
  unfolding grid
  grid_swapped p =
      let off : RawNote → Bool = λ n. is_off_grid p n.start in
      let offs : length (keep off ns) ≡ length (keep off ms) =
      tally_keeps off ns ∙ order_tally off (swapped_order d) ∙ sym (tally_keeps off ms) in
      rw (order_length (swapped_order d), offs)

  staff_swapped : OneStaff ns ms
  staff_swapped =
      record {
        in_chords = chords_swapped;
        in_voices = voices_swapped;
        in_grid = grid_swapped;
        in_end = order_largest (Permᴰ.map (λ (n : RawNote). n.end) (swapped_order d));
        in_staff = λ p bs. rw (grid_swapped p) (ap (λ vs. staff_of p vs bs) (voices_swapped (grid p ms)));
      }

-- ---- the starts still pending

-- a well formed on has a key below 128
on_key : (w : ℕ) → well_formed w ≡ true → is_on w ≡ true → byte_b w < 128
unfolding well_formed
on_key w formed on =
    let kind : kind_of w ≡ 9 = eqb-true _ _ ((and-eq-true_iff _ _).0 on).0 in
    let a = leb (byte_a w) 15 in
    let b = leb (byte_b w) 127 in
    let c = leb (byte_c w) 127 in
    let bytes : a && b && c ≡ true = simp (kind, or-false) at formed in
    let small : b ≡ true = ((and-eq-true_iff a b).0 ((and-eq-true_iff (a && b) c).0 bytes).0).1 in
    omega (arith, leb-true (byte_b w) 127 small)

abbrev LowKey : NoteEvent → Type 0
LowKey s = s.key < 128

keys_low : (es : List Event) → All (λ (e : Event). well_formed e.word ≡ true) es → All LowKey (unclosed es)
keys_low es h =
    pending_begin (λ o. o.key < 128) es
    (All-map (λ o. o.key < 128) on_onset (λ e k. on_key e.word k.0 k.1) (ons_of es)
    (All-keep (λ (e : Event). well_formed e.word ≡ true) (λ e. is_on e.word) es h))

-- unclosed notes of one start and key end together
end_together : (last : ℕ) (s t : NoteEvent) → LowKey s × LowKey t → by_start (raw_note s last) ≡ by_start (raw_note t last)
    → Same (raw_note s last) (raw_note t last)
end_together last s t k e =
    let tick : t.tick ≡ s.tick = omega arith in
    record { start = tick; end = ap (λ (n : ℕ). max last (n + 1)) tick; key = omega arith }

pub order_by_channel : OrderByChannel
unfolding raw_notes_of
order_by_channel es = refl

pub order_of_unclosed : OrderOfUnclosed
order_of_unclosed es us formed d =
    let ends : NoteEvent → RawNote = λ s. raw_note s (last_tick es) in
    let Level : RawNote → RawNote → Type 0 = λ n m. by_start n ≡ by_start m → Same n m in
    let all : SameUpToOrder us (sort_by by_channel (unclosed es)) = Permᴰ.trans d (Permᴰ.symm (sort_order by_channel (unclosed es))) in
    rw (order_by_channel es)
    (staff_swapped
    (sort_swapped Same by_start (λ n m h. rw (h.start, h.key)) Level (λ n m q. q)
    (swapped_after (pairing (note_events es)).closed
    (map_swapped Level ends (end_together (last_tick es)) (order_swapped LowKey all (All-order LowKey (Permᴰ.symm d) (keys_low es formed)))))))
