-- A scan of the notes of a chord's start: what is known of them up to place i, and the marks put so far.
use Prim.Native.Nat.{ℕ, ◌+◌, ◌*◌, ◌^◌, ◌≤◌, ◌<◌, max}
use mathlib.Core.Bool.{Bool, true, false, cond, ◌&&◌, ◌||◌, or_assoc, or-false}
use mathlib.Core.List.{List, map}
use mathlib.Core.Logic.{inl, inr}
use mathlib.Core.Path.{◌≡◌, refl, sym, ap, ◌∙◌}
use native.Mathlib.Nat.{zero-div}
use native.Mathlib.Omega.{arith}
use borrow.Author.Tests.{eq-eqb, ne_eqb}
use lib.Dec.{eqb}
use lib.ListN.{length, get_or, set, length-set}
use lib.Seq.{get_or-set_same, get_or-set_other}
use Rattle.rules.specs.Lists.{any, bit, flag}
use Rattle.rules.specs.RawNotes.{RawNote}
use Rattle.rules.specs.ProofReader.{Played}
use Rattle.rules.specs.ProofReaderTests.{has_key?}
use Rattle.laws.proofs.Order.{by_eq, by_lt}
use Rattle.laws.proofs.Largest.{max_assoc}
use Rattle.laws.specs.Sort.{count}
use Rattle.proofread_notes.specs.Columns.{snap_at, Readable, Same, Skipped, hears?}
use Rattle.proofread_notes.specs.Chords.{played_of, keys_of, is_note?, WithNote, Took, Gathered, Scanned}
use Rattle.proofread_notes.specs.declared.Chord.{Chord}
use Rattle.proofread_notes.specs.declared.Group.{Group}
use Rattle.proofread_notes.proofs.Areas.{same_self, same_then, snap_same}
use Rattle.proofread_notes.proofs.Rests.{rest_of, any_one, none_left, none_before, flag_or}

-- a note of the chord's start and end
abbrev pub is_end? : Played → RawNote → Bool
is_end? c n = eqb n.start c.start && eqb n.end c.end

pub record Partly (f : ℕ → RawNote) (m : ℕ) (c : Played) (i : ℕ) (x : Group) : Type 0 where
  pub ended : (x.ended || any (is_end? c) (rest_of f m i)) ≡ any (is_end? c) (map f (count 0 m))
  pub low : (k : ℕ) → k < 64 → max (bit k x.low) (flag (any (is_note? c.start k) (rest_of f m i))) ≡ flag (any (is_note? c.start k) (map f (count 0 m)))
  pub high : (k : ℕ) → k < 64
      → max (bit k x.high) (flag (any (is_note? c.start (64 + k)) (rest_of f m i))) ≡ flag (any (is_note? c.start (64 + k)) (map f (count 0 m)))

abbrev pub no_group : Group
no_group = record { low = 0; high = 0; ended = false }

-- a note of another start is none of the chord's
other_note : (a s : ℕ) (b : Bool) → (a ≡ s → ⊥) → (eqb a s && b) ≡ false
other_note a s b h = rw (ne_eqb a s h)

module _ (f : ℕ → RawNote) (m : ℕ) (c : Played) where
  none_yet : (k : ℕ) → bit k 0 ≡ 0
  none_yet k = rw (zero-div (2 ^ k))

  partly_start : (i : ℕ) → i ≤ m → ((j : ℕ) → j < i → (f j).start < c.start) → Partly f m c i no_group
  partly_start i l h =
      record {
        ended = sym (none_before f m (is_end? c) i l (λ j o. other_note (f j).start c.start _ (λ e. omega (arith, h j o))));
        low =
            λ k o. omega (
              arith,
              none_yet k,
              ap flag (none_before f m (is_note? c.start k) i l (λ j b. other_note (f j).start c.start _ (λ e. omega (arith, h j b)))),
            );
        high =
            λ k o. omega (
              arith,
              none_yet k,
              ap flag (none_before f m (is_note? c.start (64 + k)) i l (λ j b. other_note (f j).start c.start _ (λ e. omega (arith, h j b)))),
            );
      }

  module _ (i : ℕ) (x r : Group) (h : i < m) (here : (f i).start ≡ c.start) where
    key_step : (k : ℕ) (a b : ℕ) → b ≡ max a (flag (eqb (f i).key k))
        → max b (flag (any (is_note? c.start k) (rest_of f m (i + 1)))) ≡ max a (flag (any (is_note? c.start k) (rest_of f m i)))
    key_step k a b e =
        rw (any_one f m (is_note? c.start k) i h, eq-eqb (f i).start c.start here, flag_or, e)
        (sym (max_assoc a (flag (eqb (f i).key k)) (flag (any (is_note? c.start k) (rest_of f m (i + 1))))))

    partly_more : r.ended ≡ (x.ended || eqb (f i).end c.end) → ((k : ℕ) → k < 64 → bit k r.low ≡ max (bit k x.low) (flag (eqb (f i).key k)))
        → ((k : ℕ) → k < 64 → bit k r.high ≡ max (bit k x.high) (flag (eqb (f i).key (64 + k)))) → Partly f m c i x → Partly f m c (i + 1) r
    partly_more e lows highs p =
        record {
          ended = rw (e, or_assoc) (sym (rw (any_one f m (is_end? c) i h, eq-eqb (f i).start c.start here)) ∙ p.ended);
          low = λ k o. key_step k (bit k x.low) (bit k r.low) (lows k o) ∙ p.low k o;
          high = λ k o. key_step (64 + k) (bit k x.high) (bit k r.high) (highs k o) ∙ p.high k o;
        }

  partly_end : (i : ℕ) (x : Group) → ((j : ℕ) → i ≤ j → j < m → c.start < (f j).start) → Partly f m c i x → Gathered (map f (count 0 m)) c x
  partly_end i x h p =
      let none : (k : ℕ) → any (is_note? c.start k) (rest_of f m i) ≡ false = λ k. none_left f m (is_note? c.start k) i
      (λ j l o. other_note (f j).start c.start _ (λ e. omega (arith, h j l o))) in
      record {
        ended =
            sym (or-false x.ended)
            ∙ sym
            (ap (λ (b : Bool). x.ended || b) (none_left f m (is_end? c) i (λ j l o. other_note (f j).start c.start _ (λ e. omega (arith, h j l o)))))
            ∙ p.ended;
        low = λ k o. omega (arith, p.low k o, ap flag (none k));
        high = λ k o. omega (arith, p.high k o, ap flag (none (64 + k)));
      }

-- ---- the work area

pub record Scanning (g n m : ℕ) (c : Chord) (from : ℕ) (w₀ w : List ℕ) (i : ℕ) (x : Group) : Type 0 where
  pub begun : from ≤ i
  pub within : i ≤ m
  pub same : Same n w₀ w
  pub part : Partly (snap_at g n w₀) m (played_of c) i x
  pub done : (j : ℕ) → j < i → get_or w (2 * n + j) 0 ≡ cond (hears? (snap_at g n w₀ j) (played_of c)) 1 (get_or w₀ (2 * n + j) 0)
  pub todo : (j : ℕ) → i ≤ j → j < m → get_or w (2 * n + j) 0 ≡ get_or w₀ (2 * n + j) 0

-- a note of another start is not heard in the chord
unheard : (c : Played) (x : RawNote) (v : ℕ) → (x.start ≡ c.start → ⊥) → v ≡ cond (hears? x c) 1 v
unheard c x v h = rw (ne_eqb c.start x.start (λ e. h (sym e)))

module _ {g n m : ℕ} {c : Chord} {w₀ : List ℕ} (ready : Readable g n m w₀) where
  pub scan_start : {from : ℕ} → Skipped g n m w₀ c.start from → Scanning g n m c from w₀ w₀ from no_group
  scan_start {from} s =
      let early = s.before.earlier in
      record {
        begun = omega arith;
        within = s.within;
        same = same_self n w₀;
        part = partly_start (snap_at g n w₀) m (played_of c) from s.within early;
        done = λ j h. unheard (played_of c) (snap_at g n w₀ j) (get_or w₀ (2 * n + j) 0) (λ e. omega (arith, early j h));
        todo = λ j l h. refl;
      }

  module _ {from i : ℕ} {w : List ℕ} {x : Group} (now : Scanning g n m c from w₀ w i x) (h : i < m) where
    in_area : 2 * n + i < length w
    in_area = omega (arith, now.same.kept, ready.area, ready.room)

    note_same : snap_at g n w i ≡ snap_at g n w₀ i
    note_same = snap_same now.same g i (omega (arith, ready.room))

    mark_other : (b : Bool) (j : ℕ) → (j ≡ 2 * n + i → ⊥) → get_or (cond b (set w (2 * n + i) 1) w) j 0 ≡ get_or w j 0
    mark_other true j l = get_or-set_other w (2 * n + i) j 1 0 l
    mark_other false j l = refl

    mark_here : (b : Bool) → get_or (cond b (set w (2 * n + i) 1) w) (2 * n + i) 0 ≡ cond b 1 (get_or w (2 * n + i) 0)
    mark_here true = get_or-set_same w (2 * n + i) 1 0 in_area
    mark_here false = refl

    kept_length : (b : Bool) → length (cond b (set w (2 * n + i) 1) w) ≡ length w
    kept_length true = simp length-set
    kept_length false = refl

    pub scan_more : {w' : List ℕ} {r : Group} → (snap_at g n w i).start ≡ c.start → Took g n i c x w w' r → Scanning g n m c from w₀ w' (i + 1) r
    scan_more {r = r} here took =
        let b : Bool = has_key? (snap_at g n w i).key (keys_of c) in
        let s : (snap_at g n w₀ i).start ≡ c.start = sym (ap (λ (y : RawNote). y.start) note_same) ∙ here in
        let area = took.area in
        let heard : hears? (snap_at g n w₀ i) (played_of c) ≡ b =
        rw (eq-eqb c.start (snap_at g n w₀ i).start (sym s)) (ap (λ (y : RawNote). has_key? y.key (keys_of c)) (sym note_same)) in
        record {
          begun = omega (arith, now.begun);
          within = omega arith;
          same = same_then now.same (record { kept = rw area (kept_length b); notes = λ j l. rw area (mark_other b j (λ e. omega arith)) });
          part =
              partly_more (snap_at g n w₀) m (played_of c) i x r h s
              (took.ended ∙ ap (λ (y : RawNote). x.ended || eqb y.end c.end) note_same)
              (λ k l. took.low k l ∙ ap (λ (y : RawNote). max (bit k x.low) (flag (eqb y.key k))) note_same)
              (λ k l. took.high k l ∙ ap (λ (y : RawNote). max (bit k x.high) (flag (eqb y.key (64 + k)))) note_same)
              now.part;
          done =
              λ j l.
              elim (by_eq j i) [
                | inl e ↦ rw (e, area) (mark_here b ∙ rw heard (ap (cond b 1) (now.todo i (omega arith) h)))
                | inr e ↦ rw area (mark_other b (2 * n + j) (λ q. e (omega arith)) ∙ now.done j (omega arith))
              ];
          todo = λ j l o. rw area (mark_other b (2 * n + j) (λ e. omega arith) ∙ now.todo j (omega arith) o);
        }

  -- no note of the chord's start is left
  scan_end : {from i : ℕ} {w : List ℕ} {x : Group} → Scanning g n m c from w₀ w i x
      → ((j : ℕ) → i ≤ j → j < m → c.start < (snap_at g n w₀ j).start) → Scanned g n m c w₀ w x
  scan_end {from} {i} {w} {x} now later =
      record {
        group = partly_end (snap_at g n w₀) m (played_of c) i x later now.part;
        same = now.same;
        marks =
            λ j h.
            elim (by_lt j i) [
              | inl l ↦ now.done j l
              | inr l ↦ now.todo j l h ∙ unheard (played_of c) (snap_at g n w₀ j) (get_or w₀ (2 * n + j) 0) (λ e. omega (arith, later j l h))
            ];
      }

  pub scan_last : {from i : ℕ} {w : List ℕ} {x : Group} → Scanning g n m c from w₀ w i x → m ≤ i → Scanned g n m c w₀ w x
  scan_last now h = scan_end now (λ j l o. absurd (omega arith))

  pub scan_stop : {from i : ℕ} {w : List ℕ} {x : Group} → Skipped g n m w₀ c.start from → Scanning g n m c from w₀ w i x → i < m
      → ((snap_at g n w i).start ≡ c.start → ⊥) → Scanned g n m c w₀ w x
  scan_stop {from} {i} {w} s now h other =
      let begun = now.begun in
      let first : c.start ≤ (snap_at g n w₀ from).start = s.from (omega arith) in
      let up : (snap_at g n w₀ from).start ≤ (snap_at g n w₀ i).start = ready.rises from i begun h in
      let here : (snap_at g n w i).start ≡ (snap_at g n w₀ i).start = ap (λ (y : RawNote). y.start) (snap_same now.same g i (omega (arith, ready.room))) in
      let less : c.start < (snap_at g n w₀ i).start = elim (by_lt c.start (snap_at g n w₀ i).start) [ inl l ↦ l | inr l ↦ absurd (other (omega arith)) ] in
      scan_end now (λ j l o. omega (arith, ready.rises i j l o))

-- ---- one note
took : (g n i end : ℕ) (c : Chord) {x r : Group} (w : List ℕ) {w' : List ℕ} → end ≡ (snap_at g n w i).end → WithNote x (snap_at g n w i).key (eqb end c.end) r
    → w' ≡ cond (has_key? (snap_at g n w i).key (keys_of c)) (set w (2 * n + i) 1) w → Took g n i c x w w' r
took g n i end c {x} w e k area =
    record { ended = k.ended ∙ ap (λ (t : ℕ). x.ended || eqb t c.end) e; low = k.low; high = k.high; area = area }

module _ (g n i end : ℕ) (c : Chord) {x r : Group} (w : List ℕ) {b : Bool} (e : end ≡ (snap_at g n w i).end)
    (k : WithNote x (snap_at g n w i).key (eqb end c.end) r) (has : b ≡ has_key? (snap_at g n w i).key (keys_of c)) where
  pub took_marked : b ≡ true → Took g n i c x w (set w (2 * n + i) 1) r
  took_marked t = took g n i end c w e k (rw (← has, t))

  pub took_left : b ≡ false → Took g n i c x w w r
  took_left t = took g n i end c w e k (rw (← has, t))
