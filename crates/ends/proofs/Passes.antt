-- A pass agrees with the pairing of the same events: the count of a channel and key is the number of its pending starts, and the
-- largest end is that of the notes closed and of the starts pending, as if each of these ended at its start + 1.
use Prim.Native.Nat.{ℕ, suc, ◌+◌, ◌-◌, ◌≤◌, ◌<◌, max}
use mathlib.Core.Bool.{Bool, true, false, cond, ◌&&◌, ◌||◌, and-eq-true_iff}
use mathlib.Core.List.{List, [], ◌∷◌, ◌++◌, map, foldl, head?, map-map}
use mathlib.Core.Logic.{inl, inr}
use mathlib.Core.Option.{Option, none, some}
use mathlib.Core.Path.{◌≡◌, refl, sym, ap, ◌∙◌}
use native.Mathlib.Nat.{max-zero}
use native.Mathlib.Omega.{arith}
use borrow.Author.Tests.{eqb-true, lt-ltb, le-ltb}
use lib.Dec.{eqb, ltb}
use lib.ListN.{length, length-append}
use Rattle.rules.specs.Lists.{keep, largest, last_or, All}
use Rattle.rules.specs.Piece.{Event, well_formed, byte_a, byte_b, is_on, is_off}
use Rattle.rules.specs.RawNotes.{NoteEvent, note_event, note_events, RawNote, raw_note, Pairing, same_key, without_oldest}
use Rattle.rules.specs.RawNotes.{take_off, take_on, pair_one, no_pairs, by_channel, by_start, raw_notes_of}
use Rattle.laws.proofs.Order.{by_bool}
use Rattle.track_events.proofs.Tracks.{note_bounds}
use Rattle.ends.specs.declared.Pass.{Pass}
use Rattle.ends.specs.Pass.{track_end, cell, put, no_counts, Reached, nothing, pass_over, begin, close, finish, step, step_on, end_of}
use Rattle.laws.proofs.Largest.{largest_map_append, largest_sort, max_moved, max_both, max_last}
use Rattle.laws.proofs.Tests.{length_keep_last, length_more}
use Rattle.laws.proofs.Places.{head_none, head_some}
use Rattle.ends.proofs.Grids.{Grid, zeros, zeros_cell, all_zero, put_cell, put_grid}

-- whether a start is of channel c and key k
abbrev at : ℕ → ℕ → NoteEvent → Bool
at c k s = eqb c s.channel && eqb k s.key

-- the end of a start that ends at once
abbrev due : NoteEvent → ℕ
due s = s.tick + 1

abbrev ends_at : RawNote → ℕ
ends_at n = n.end

pub record Agrees (p : Pairing) (x : Reached) : Type 0 where
  pub grid : Grid x.counts
  pub counts : (c k : ℕ) → c < 16 → k < 128 → cell x.counts c k ≡ length (keep (at c k) p.pending)
  pub started : x.pass.started ≡ x.pass.ended + length p.pending
  pub end : x.pass.end ≡ max (largest (map ends_at p.closed)) (largest (map due p.pending))

-- ---- the oldest start of a channel and key is taken

record Without (n s : NoteEvent) (ss : List NoteEvent) : Type 0 where
  counts : (c k : ℕ) → length (keep (at c k) ss) ≡ length (keep (at c k) (without_oldest n ss)) + cond (at c k n) 1 0
  one : length ss ≡ suc (length (without_oldest n ss))
  dues : largest (map due ss) ≡ max (due s) (largest (map due (without_oldest n ss)))

at_same : (n s : NoteEvent) → same_key n s ≡ true → (c k : ℕ) → at c k s ≡ at c k n
at_same n s t c k =
    let h = (and-eq-true_iff _ _).0 t in
    rw (eqb-true n.channel s.channel h.0, eqb-true n.key s.key h.1)

without : (n s : NoteEvent) (ss : List NoteEvent) → head? (keep (same_key n) ss) ≡ some s → Without n s ss
unfolding keep without_oldest
without n s [] h = let z : ◌≡◌ {A = ℕ} 0 1 = cc in absurd (omega arith)
without n s (x ∷ ss) h =
    elim (by_bool (same_key n x)) [
      | inl t ↦
          let e : some x ≡ some s = rw t at h in
          let same : x ≡ s = cc in
          record {
            counts = λ c k. rw (t, at_same n x t c k) (length_more (at c k n) x (keep (at c k) ss));
            one = rw t;
            dues = rw (t, same);
          }
      | inr t ↦
          let w = without n s ss (rw t at h) in
          record {
            counts = λ c k.
                rw t
                (omega (arith, w.counts c k, length_more (at c k x) x (keep (at c k) ss), length_more (at c k x) x (keep (at c k) (without_oldest n ss))));
            one = rw t (ap suc w.one);
            dues = rw t (omega (arith, w.dues));
          }
    ]

-- ---- one event

one_more : (b : Bool) (m : ℕ) → cond b (m + 1) m ≡ m + cond b 1 0
one_more true m = refl
one_more false m = omega arith

one_less : (b : Bool) (m l : ℕ) → m ≡ l + cond b 1 0 → cond b (m - 1) m ≡ l
one_less true m l h = omega arith
one_less false m l h = omega arith

pub pair_on : (p : Pairing) (n : NoteEvent) → n.on ≡ true → pair_one p n ≡ take_on n p
unfolding pair_one
pair_on p n t = rw t

pub pair_off : (p : Pairing) (n : NoteEvent) → n.on ≡ false → pair_one p n ≡ take_off n p (head? (keep (same_key n) p.pending))
unfolding pair_one
pair_off p n f = rw f

module _ (x : Reached) (t w : ℕ) where
  pub step_on_lem : is_on w ≡ true → step x t w ≡ begin x t (byte_a w) (byte_b w)
  unfolding step
  step_on_lem h = rw h

  pub step_off : is_on w ≡ false → is_off w ≡ true → step x t w ≡ finish x t (byte_a w) (byte_b w)
  unfolding step
  step_off f h = rw (f, h)

  pub step_over : is_on w ≡ false → is_off w ≡ false → step x t w ≡ pass_over x t
  unfolding step
  step_over f g = rw (f, g)

  -- what holds of a start, of an end and of neither holds of any step
  pub step_cases : (P : Reached → Type 0) → P (begin x t (byte_a w) (byte_b w)) → P (close x t (byte_a w) (byte_b w)) → P (pass_over x t) → P (step x t w)
  step_cases P b c o =
      elim (by_bool (is_on w)) [
        | inl h ↦ rw (step_on_lem h) b
        | inr f ↦
            elim (by_bool (is_off w)) [
              | inl h ↦
                  rw (step_off f h)
                  (elim (by_bool (ltb 0 (cell x.counts (byte_a w) (byte_b w)))) [ inl l ↦ rw l c | inr l ↦ rw l o ])
              | inr g ↦ rw (step_over f g) o
            ]
      ]

  pub step_tick : (step x t w).pass.tick ≡ t
  step_tick = step_cases (λ y. y.pass.tick ≡ t) refl refl refl

module _ {p : Pairing} {x : Reached} (a : Agrees p x) where
  agrees_over : (t : ℕ) (u : List NoteEvent) → Agrees (record { pending = p.pending; closed = p.closed; unmatched = u }) (pass_over x t)
  agrees_over t u = record { grid = a.grid; counts = a.counts; started = a.started; end = a.end }

  module _ (n : NoteEvent) (h : n.channel < 16) (l : n.key < 128) where
    -- the count of n's channel and key is changed by f
    changed : (f : ℕ → ℕ) (c k : ℕ)
        → cell (put x.counts n.channel n.key (f (cell x.counts n.channel n.key))) c k
        ≡ cond (at c k n) (f (cell x.counts c k)) (cell x.counts c k)
    changed f c k =
        put_cell x.counts n.channel n.key (f (cell x.counts n.channel n.key)) a.grid h l c k
        ∙ elim (by_bool (at c k n)) [ inl t ↦ rw t (ap f (same t)) | inr t ↦ rw t ]
      where
        same : at c k n ≡ true → cell x.counts n.channel n.key ≡ cell x.counts c k
        same t =
            let e = (and-eq-true_iff _ _).0 t in
            rw (eqb-true c n.channel e.0, eqb-true k n.key e.1)

    agrees_on : Agrees (take_on n p) (begin x n.tick n.channel n.key)
    agrees_on =
        record {
          grid = put_grid x.counts n.channel n.key _ a.grid h l;
          counts = λ c k hc hk.
              changed (λ m. m + 1) c k
              ∙ rw (a.counts c k hc hk) (one_more (at c k n) (length (keep (at c k) p.pending)))
              ∙ sym (length_keep_last (at c k) p.pending n);
          started = simp length-append (omega (arith, a.started));
          end = omega (arith, a.end, largest_map_append due p.pending (n ∷ []));
        }

    agrees_off : (o : Option NoteEvent) → head? (keep (same_key n) p.pending) ≡ o → Agrees (take_off n p o) (finish x n.tick n.channel n.key)
    agrees_off none e =
        rw (le-ltb 0 (cell x.counts n.channel n.key) (omega (arith, a.counts n.channel n.key h l, head_none (keep (same_key n) p.pending) e)))
        (agrees_over n.tick (p.unmatched ++ (n ∷ [])))
    agrees_off (some s) e =
        let w = without n s p.pending e in
        rw (lt-ltb 0 (cell x.counts n.channel n.key)
        (omega (arith, a.counts n.channel n.key h l, head_some (keep (same_key n) p.pending) s e)))
        record {
          grid = put_grid x.counts n.channel n.key _ a.grid h l;
          counts = λ c k hc hk.
              changed (λ m. m - 1) c k
              ∙ one_less (at c k n) (cell x.counts c k) (length (keep (at c k) (without_oldest n p.pending))) (a.counts c k hc hk ∙ w.counts c k);
          started = omega (arith, a.started, w.one);
          end = rw (a.end, w.dues, largest_map_append ends_at p.closed (raw_note s n.tick ∷ []), max-zero) (max_moved _ (due s) _ n.tick);
        }

  module _ (e : Event) (formed : well_formed e.word ≡ true) where
    one_on : is_on e.word ≡ true → Agrees (pair_one p (note_event e)) (step_on x e)
    one_on t =
        let b = note_bounds e.word formed (inl t) in
        rw (pair_on p (note_event e) t, step_on_lem x e.tick e.word t) (agrees_on (note_event e) b.channel b.first)

    one_off : is_on e.word ≡ false → is_off e.word ≡ true → Agrees (pair_one p (note_event e)) (step_on x e)
    one_off f t =
        let b = note_bounds e.word formed (inr t) in
        rw (pair_off p (note_event e) f, step_off x e.tick e.word f t)
        (agrees_off (note_event e) b.channel b.first (head? (keep (same_key (note_event e)) p.pending)) refl)

    one_over : is_on e.word ≡ false → is_off e.word ≡ false → Agrees p (step_on x e)
    one_over f g = rw (step_over x e.tick e.word f g) (agrees_over e.tick p.unmatched)

-- ---- a track

notes_in : (e : Event) (es : List Event) → is_on e.word || is_off e.word ≡ true → note_events (e ∷ es) ≡ note_event e ∷ note_events es
unfolding keep
notes_in e es h = rw h

notes_out : (e : Event) (es : List Event) → is_on e.word || is_off e.word ≡ false → note_events (e ∷ es) ≡ note_events es
unfolding keep
notes_out e es h = rw h

agrees_all : (es : List Event) (p : Pairing) (x : Reached) → All (λ (e : Event). well_formed e.word ≡ true) es → Agrees p x
    → Agrees (foldl pair_one p (note_events es)) (foldl step_on x es)
unfolding keep
agrees_all [] p x h a = a
agrees_all (e ∷ es) p x h a =
    elim (by_bool (is_on e.word)) [
      | inl t ↦ rw (notes_in e es (rw t)) (agrees_all es (pair_one p (note_event e)) (step_on x e) h.1 (one_on a e h.0 t))
      | inr f ↦
          elim (by_bool (is_off e.word)) [
            | inl t ↦ rw (notes_in e es (rw (f, t))) (agrees_all es (pair_one p (note_event e)) (step_on x e) h.1 (one_off a e h.0 f t))
            | inr g ↦ rw (notes_out e es (rw (f, g))) (agrees_all es p (step_on x e) h.1 (one_over a e h.0 f g))
          ]
    ]

agrees_first : Agrees no_pairs nothing
unfolding keep nothing
agrees_first = record { grid = zeros; counts = λ c k _ _. zeros_cell c k; started = refl; end = refl }

last_tick : (es : List Event) (x : Reached) → (foldl step_on x es).pass.tick ≡ last_or x.pass.tick (map (λ (e : Event). e.tick) es)
last_tick [] x = refl
last_tick (e ∷ es) x = last_tick es (step_on x e) ∙ rw (step_tick x e.tick e.word)

-- starts pending at the last tick
pending_ends : (last : ℕ) (s : NoteEvent) (ss : List NoteEvent)
    → largest (map (λ s. (raw_note s last).end) (s ∷ ss)) ≡ max last (largest (map due (s ∷ ss)))
pending_ends last s [] = omega arith
pending_ends last s (r ∷ ss) = rw (pending_ends last r ss) (max_both last (due s) (largest (map due (r ∷ ss))))

pass_end : (p : Pass) (ss : List NoteEvent) (closed : ℕ) → p.started ≡ p.ended + length ss → p.end ≡ max closed (largest (map due ss))
    → end_of p ≡ max closed (largest (map (λ s. (raw_note s p.tick).end) ss))
pass_end p [] closed h e = rw (le-ltb p.ended p.started (omega arith)) e
pass_end p (s ∷ ss) closed h e =
    rw (lt-ltb p.ended p.started (omega arith)) (rw (pending_ends p.tick s ss, e) (max_last closed p.tick (largest (map due (s ∷ ss)))))

-- The pass finds the largest end of a track's raw notes.
pub pass_finds : (es : List Event) → All (λ (e : Event). well_formed e.word ≡ true) es → end_of (foldl step_on nothing es).pass ≡ track_end es
unfolding track_end raw_notes_of nothing
pass_finds es h =
    let x = foldl step_on nothing es in
    let a = agrees_all es no_pairs nothing h agrees_first in
    let p = foldl pair_one no_pairs (note_events es) in
    pass_end x.pass p.pending (largest (map ends_at p.closed)) a.started a.end
    ∙ rw (last_tick es nothing)
    (sym (largest_sort ends_at by_start _ ∙ largest_map_append ends_at p.closed _ ∙ ap (max _) (rw map-map (largest_sort _ by_channel p.pending))))

-- ---- the counts after a track

-- as many ended as started
none_pending : (ss : List NoteEvent) (n m : ℕ) → n ≡ m + length ss → n ≤ m → ss ≡ []
none_pending [] n m e h = refl
none_pending (s ∷ ss) n m e h = absurd (omega arith)

-- Where every start has ended the counts are all zero, as they were before the track.
pub pass_clears : (es : List Event) → All (λ (e : Event). well_formed e.word ≡ true) es
    → (foldl step_on nothing es).pass.started ≤ (foldl step_on nothing es).pass.ended → (foldl step_on nothing es).counts ≡ no_counts
unfolding keep
pass_clears es h k =
    let x = foldl step_on nothing es in
    let p = foldl pair_one no_pairs (note_events es) in
    let a = agrees_all es no_pairs nothing h agrees_first in
    let e : p.pending ≡ [] = none_pending p.pending x.pass.started x.pass.ended a.started k in
    all_zero a.grid (λ c k i j. a.counts c k i j ∙ rw e)
