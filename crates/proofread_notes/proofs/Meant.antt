-- The test of a chord by the group of its start says what section 8 says of its keys and its end.
use Prim.Native.Nat.{ℕ, ◌+◌, ◌-◌, ◌*◌, ◌^◌, ◌≤◌, ◌<◌}
use mathlib.Core.Bool.{Bool, true, false, cond, ◌||◌}
use mathlib.Core.List.{List, ◌∷◌}
use mathlib.Core.Logic.{◌⊎◌, inl, inr}
use mathlib.Core.Path.{◌≡◌, refl, sym, ap, subst, ◌∙◌}
use native.Mathlib.Omega.{arith}
use borrow.Author.Tests.{lt-ltb, le-ltb}
use lib.Dec.{eqb}
use Rattle.std.specs.Prelude as std
use Rattle.rules.specs.Lists.{any, bit, flag, Some, here, later}
use Rattle.rules.specs.RawNotes.{RawNote}
use Rattle.rules.specs.ProofReader.{Played, HasKey, KeysMeant}
use Rattle.rules.specs.ProofReaderTests.{keys_meant?}
use Rattle.laws.specs.Says.{Says}
use Rattle.laws.proofs.Reflection.{says_eq, says_and, says_any, says_as}
use Rattle.laws.proofs.Lists.{Some-imp}
use Rattle.laws.proofs.Order.{by_lt}
use Rattle.laws.proofs.Verdict.{says_meant}
use Rattle.proofread_notes.specs.Columns.{snap_at, notes_at, Readable, Skipped, hears?, Marks}
use Rattle.proofread_notes.specs.Chords.{played_of, is_note?, keys_fit?, chord_ok?, Gathered, Scanned, Checks}
use Rattle.proofread_notes.specs.declared.Chord.{Chord}
use Rattle.proofread_notes.specs.declared.Group.{Group}
use Rattle.proofread_notes.proofs.Areas.{snap_same}
use Rattle.proofread_notes.proofs.KeyWords.{says_covers, says_none, low_bit, high_bit}

-- two tests that say the same are equal
pub says_same : {A : Type 0} {a b : Bool} → Says a A → Says b A → a ≡ b
says_same {a = true} {b = true} p q = refl
says_same {a = true} {b = false} p q = sym (q.1 (p.0 refl))
says_same {a = false} {b = true} p q = p.1 (q.0 refl)
says_same {a = false} {b = false} p q = refl

flag_true : (b : Bool) → flag b ≡ 1 → b ≡ true
flag_true true e = refl
flag_true false e = absurd (omega arith)

-- a key of two words is one of the first, or one of the second
by_word : (k l h : ℕ) → k < 128 → l < 2 ^ 64 → HasKey k (l + h * 2 ^ 64) → ((k < 64) × HasKey k l) ⊎ ((64 ≤ k) × HasKey (k - 64) h)
by_word k l h lt small has =
    elim (by_lt k 64) [
      | inl o ↦ inl (o, sym (low_bit k l h o small) ∙ has)
      | inr o ↦ let e : k ≡ 64 + (k - 64) = omega arith in inr (o, sym (high_bit (k - 64) l h small) ∙ ap (λ (j : ℕ). bit j (l + h * 2 ^ 64)) (sym e) ∙ has)
    ]

module _ (e : ℕ) (ns : List RawNote) (c : Chord) (x : Group) (g : Gathered ns (played_of c) x)
    (cl : c.low < 2 ^ 64) (ch : c.high < 2 ^ 64) (xl : x.low < 2 ^ 64) (xh : x.high < 2 ^ 64) where
  abbrev Noted : ℕ → Type 0
  Noted k = Some (λ (n : RawNote). (n.start < e) × (n.start ≡ c.start) × (n.key ≡ k)) ns

  -- a note of the chord's start and of key k
  says_note : (k : ℕ) → c.start < e → Says (any (is_note? c.start k) ns) (Noted k)
  says_note k l =
      says_as (says_any (λ (n : RawNote). says_and (says_eq n.start c.start) (says_eq n.key k)) ns)
      (Some-imp (λ n h. (omega (arith, h.0), h.0, h.1)), Some-imp (λ n h. (h.1, h.2)))

  before_end : c.start < e → Says (keys_fit? c x e) (KeysMeant e ns (played_of c))
  before_end l =
      rw (lt-ltb c.start e l)
      (says_as (says_and (says_covers c.low x.low cl xl) (says_covers c.high x.high ch xh)) (
        λ f k o has.
            elim (by_word k c.low c.high o cl has) [
              | inl w ↦ (says_note k l).0 (flag_true _ (sym (g.low k w.0) ∙ f.0 k w.0 w.1))
              | inr w ↦
                  let q : 64 + (k - 64) ≡ k = omega arith in
                  subst Noted q ((says_note (64 + (k - 64)) l).0 (flag_true _ (sym (g.high (k - 64) (omega arith)) ∙ f.1 (k - 64) (omega arith) w.1)))
            ],
        λ f. (
          λ k o has. g.low k o ∙ ap flag ((says_note k l).1 (f k (omega arith) (low_bit k c.low c.high o cl ∙ has))),
          λ k o has. g.high k o ∙ ap flag ((says_note (64 + k) l).1 (f (64 + k) (omega arith) (high_bit k c.low c.high cl ∙ has))),
        ),
      ))

  no_note : e ≤ c.start → (k : ℕ) → Noted k → ⊥
  no_note l k s = none s
    where
      none : {xs : List RawNote} → Some (λ (n : RawNote). (n.start < e) × (n.start ≡ c.start) × (n.key ≡ k)) xs → ⊥
      none (here h) = omega (arith, h.0, h.1)
      none (later t) = none t

  behind_end : e ≤ c.start → Says (keys_fit? c x e) (KeysMeant e ns (played_of c))
  behind_end l =
      rw (le-ltb c.start e l)
      (says_as (says_and (says_none c.low cl) (says_none c.high ch)) (
        λ f k o has. elim (by_word k c.low c.high o cl has)
            [ inl w ↦ absurd (f.0 k w.0 w.1) | inr w ↦ absurd (f.1 (k - 64) (omega arith) w.1) ],
        λ f. (
          λ k o has. no_note l k (f k (omega arith) (low_bit k c.low c.high o cl ∙ has)),
          λ k o has. no_note l (64 + k) (f (64 + k) (omega arith) (high_bit k c.low c.high cl ∙ has)),
        ),
      ))

  pub keys_fit : keys_fit? c x e ≡ keys_meant? e ns (played_of c)
  keys_fit = says_same (elim (by_lt c.start e) [ inl l ↦ before_end l | inr l ↦ behind_end l ]) (says_meant e ns (played_of c))

  -- the chord's test, by its keys and its end
  pub chord_yes : (next : ℕ) → keys_fit? c x e ≡ true → (x.ended || eqb c.end next || eqb c.end e) ≡ chord_ok? e ns (played_of c) next
  unfolding chord_ok?
  chord_yes next h = rw (← keys_fit, h, g.ended)

  pub chord_no : (next : ℕ) → keys_fit? c x e ≡ false → false ≡ chord_ok? e ns (played_of c) next
  unfolding chord_ok?
  chord_no next h = rw (← keys_fit, h)

-- the marks with one chord more
module _ {g n m : ℕ} {c : Chord} {w w' : List ℕ} {x : Group} (ready : Readable g n m w) (s : Scanned g n m c w w' x) where
  flag_heard : (a b : Bool) → cond a 1 (flag b) ≡ flag (a || b)
  flag_heard true b = refl
  flag_heard false b = refl

  pub marks_more : (cs : List Played) → Marks g n m w cs → Marks g n m w' (played_of c ∷ cs)
  unfolding any
  marks_more cs k =
      record {
        mark =
            λ i h.
            s.marks i h ∙ ap (cond (hears? (snap_at g n w i) (played_of c)) 1) (k.mark i h)
            ∙ flag_heard (hears? (snap_at g n w i) (played_of c)) (any (hears? (snap_at g n w i)) cs)
            ∙ ap (λ (y : RawNote). flag (hears? y (played_of c) || any (hears? y) cs)) (sym (snap_same s.same g i (omega (arith, ready.room))));
      }

-- ---- the whole
module _ {g n m e : ℕ} {c : Chord} {next : ℕ} {w w' : List ℕ} {x : Group} {at : ℕ} (ready : Readable g n m w) (s : Scanned g n m c w w' x)
    (skipped : Skipped g n m w c.start at) (cl : c.low < 2 ^ 64) (ch : c.high < 2 ^ 64) (xl : x.low < 2 ^ 64) (xh : x.high < 2 ^ 64) {fit : Bool}
    (f : fit ≡ keys_fit? c x e) where
  pub checks_yes : fit ≡ true → true ≡ (x.ended || eqb c.end next || eqb c.end e) → Checks g n m e c next w w' (std.Ok at)
  checks_yes t o =
      record {
        ok = o ∙ chord_yes e (notes_at g n m w) c x s.group cl ch xl xh next (sym f ∙ t);
        same = s.same;
        skipped = skipped;
        marks = marks_more ready s;
      }

  pub checks_end : fit ≡ true → false ≡ (x.ended || eqb c.end next || eqb c.end e) → Checks g n m e c next w w' (std.Err at)
  checks_end t o =
      record {
        ok = o ∙ chord_yes e (notes_at g n m w) c x s.group cl ch xl xh next (sym f ∙ t);
        same = s.same;
        skipped = skipped;
        marks = marks_more ready s;
      }

  pub checks_no : fit ≡ false → Checks g n m e c next w w' (std.Err at)
  checks_no t =
      record { ok = chord_no e (notes_at g n m w) c x s.group cl ch xl xh next (sym f ∙ t); same = s.same; skipped = skipped; marks = marks_more ready s }
