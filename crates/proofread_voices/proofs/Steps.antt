-- One bar of a voice, and the voice's end.
use Prim.Native.Nat.{ℕ, zero, suc, ◌+◌, ◌≤◌}
use mathlib.Core.Bool.{true, false, cond, and-false, true≢false}
use mathlib.Core.List.{List, [], ◌∷◌, map}
use mathlib.Core.Logic.{inl, inr}
use mathlib.Core.Path.{◌≡◌, refl, sym, ap, subst, ◌∙◌}
use native.Mathlib.Omega.{arith}
use borrow.Author.Tests.{eq-eqb, ne_eqb, eqb-true}
use lib.Dec.{eqb}
use Rattle.std.specs.Prelude as std
use Rattle.std.specs.Result.{is_ok}
use Rattle.rules.specs.Lists.{sum, is_empty}
use Rattle.rules.specs.Bars.{Bar}
use Rattle.rules.specs.Items.{Item}
use Rattle.rules.specs.ProofReader.{item_ticks, timed_from, Played}
use Rattle.rules.specs.ProofReaderTests.{free_at?}
use Rattle.proofread_notes.specs.Columns.{notes_at}
use Rattle.proofread_notes.proofs.Areas.{same_self}
use Rattle.proofread_items.specs.Playing.{Heard, run, tie_of, heard_of, Closes, Holds, TakesAll}
use Rattle.proofread_items.specs.declared.Voice.{Voice}
use Rattle.proofread_items.proofs.Steps.{heard_is, start_within}
use Rattle.laws.proofs.Order.{by_eq}
use Rattle.proofread_voices.specs.Voices.{filled?, full?, ReadsBar, EndsVoice}

-- the test at a bar's end is section 8's
pub full_is : (p v : ℕ) (b : Bar) (is : List Item) → full? p v b.start (b.start + b.len) is ≡ filled? p v b is
full_is p v b is = by v is
  where
    plain : (s : ℕ) → eqb (b.start + s) (b.start + b.len) ≡ eqb s b.len
    plain s = elim (by_eq s b.len) [
      | inl e ↦ eq-eqb (b.start + s) (b.start + b.len) (omega arith) ∙ sym (eq-eqb s b.len e)
      | inr e ↦ ne_eqb (b.start + s) (b.start + b.len) (λ q. e (omega arith)) ∙ sym (ne_eqb s b.len e)
    ]

    by : (v : ℕ) (is : List Item) → full? p v b.start (b.start + b.len) is ≡ filled? p v b is
    by zero is = plain (sum (map (item_ticks p) is))
    by (suc v) [] = rw (ne_eqb (suc v) 0 (λ e. omega arith))
    by (suc v) (i ∷ is) = rw (ne_eqb (suc v) 0 (λ e. omega arith)) (plain (sum (map (item_ticks p) (i ∷ is))))

-- and it is the code's
pub full_code : (p v start until count tick : ℕ) (is : List Item) → tick ≡ start + sum (map (item_ticks p) is) → is_empty is ≡ eqb count 0
    → cond (eqb v 0) (eqb tick until) (cond (eqb count 0) true (eqb tick until)) ≡ full? p v start until is
full_code p v start until count tick is t n = rw (t, n)

-- ---- one bar

-- where a bar passes its test, its items end with it at the latest
full_reached : (p v start until : ℕ) (is : List Item) → start ≤ until → full? p v start until is ≡ true → start + sum (map (item_ticks p) is) ≤ until
unfolding sum
full_reached p v start until is l h =
    elim (by_eq v 0) [
      | inl e ↦ let q = eqb-true (start + sum (map (item_ticks p) is)) until (rw (eq-eqb v 0 e) at h) in omega arith
      | inr e ↦ others is (rw (ne_eqb v 0 e) at h)
    ]
  where
    others : (is : List Item) → cond (is_empty is) true (eqb (start + sum (map (item_ticks p) is)) until) ≡ true → start + sum (map (item_ticks p) is) ≤ until
    others [] q = omega arith
    others (i ∷ is) q = let r = eqb-true (start + sum (map (item_ticks p) (i ∷ is))) until q in omega arith

-- `at` is the voice at the bar's start
module _ (g n m e p start until v : ℕ) (is : List Item) (w : List ℕ) (voice at : Voice)
    (same : (cs : List Played) → heard_of at cs ≡ heard_of voice cs)
    (tick : at.tick ≡ start) where
  abbrev heard : List Played → Heard
  heard cs = run p e (notes_at g n m w) (heard_of voice cs) (timed_from p start is)

  from_start : (cs : List Played) → run p e (notes_at g n m w) (heard_of at cs) (timed_from p at.tick is) ≡ heard cs
  from_start cs = λ i. run p e (notes_at g n m w) (same cs i) (timed_from p (tick i) is)

  pub bar_fails : {w' : List ℕ} → TakesAll g n m e p is w w' at std.None → ReadsBar g n m e p v start until is w w' voice std.None
  bar_fails t =
      record { same = t.hears.same; is_read = λ cs c. rw (sym (ap (λ (a : Heard). a.ok) (from_start cs)) ∙ t.hears.is cs c) }

  pub bar_short : {w' : List ℕ} {s : Voice} → full? p v start until is ≡ false → TakesAll g n m e p is w w' at (std.Some s)
      → ReadsBar g n m e p v start until is w w' voice std.None
  bar_short f t = record { same = t.hears.same; is_read = λ cs c. rw f (and-false (heard cs).ok) }

  pub bar_full : {w' : List ℕ} {s : Voice} → at.from ≡ voice.from → at.chord ≡ voice.chord → start ≤ until → full? p v start until is ≡ true → TakesAll g n m e p is w w' at (std.Some s)
      → ReadsBar g n m e p v start until is w w' voice (std.Some s)
  bar_full {w'} {s} from chord l f t =
      let pace = t.hears.is.paced in
      record {
        same = t.hears.same;
        is_read =
            record {
              holds =
                  λ cs c.
                  let held : Holds g n m w' (heard cs) s = subst (λ (a : Heard). Holds g n m w' a s) (from_start cs) (t.hears.is.holds cs c) in
                  let fine : (heard cs).ok ≡ true = sym (ap (λ (a : Heard). a.ok) held.is) in
                  record {
                    marks = held.marks;
                    is = heard_is (rw (fine, f)) (ap (λ (a : Heard). a.tie) held.is) (ap (λ (a : Heard). a.chord) held.is) refl;
                  };
              within = pace.within;
              before = pace.before;
              stays = λ o b. t.stays o (rw (from, chord) b);
              reached = start_within s.tick until s.chord (omega (arith, pace.reached, t.tick, full_reached p v start until is l f));
              ticked = pace.reached;
            };
      }

-- ---- the voice's end
module _ {g n m e : ℕ} {w w' : List ℕ} {v : Voice} where
  pub ends_closed : {r : std.Result ℕ ℕ} → free_at? e (tie_of v) ≡ true → Closes g n m e e w w' v r → EndsVoice g n m e w w' v (is_ok r)
  ends_closed f c = record { same = c.same; ok = rw f c.ok; marks = λ t. c.marks }

pub ends_tied : {g n m e : ℕ} {w : List ℕ} {v : Voice} → free_at? e (tie_of v) ≡ false → EndsVoice g n m e w w v false
ends_tied {n = n} {w = w} f = record { same = same_self n w; ok = rw f; marks = λ t. absurd (true≢false (sym t)) }
