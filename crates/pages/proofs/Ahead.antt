-- The lines ahead of a spot, line by line: counts without a line, the part's line, an item, a bar, the end.
use Prim.Native.Nat.{ℕ, suc, ◌+◌, ◌-◌, ◌*◌, ◌/◌, ◌%◌, ◌≤◌, ◌<◌}
use mathlib.Core.List.{List, [], ◌∷◌, ◌++◌}
use mathlib.Core.Path.{◌≡◌, refl, ap, sym, subst, ◌∙◌}
use native.Mathlib.Omega.{arith}
use borrow.Author.Tests.{eq-eqb, ne_eqb}
use lib.ListN.{get_or}
use Rattle.item_lines.specs.Items.{item_line}
use Rattle.bar_lines.specs.Lines.{bar_line, part_line}
use Rattle.pages.specs.Page.{Line}
use Rattle.std.specs.Prelude.{Some, None}
use Rattle.pages.specs.Spots.{Sheet, items_at, bar_at, counts_at, items_from, ahead, Fits, LinePut, PutsLine}
use Rattle.pages.specs.Steps.{titled_of, item_put, in_voice, Steps, Passed, DueAt}
use Rattle.pages.specs.declared.Spot.{Spot}
use Rattle.pages.specs.declared.Put.{Put}

-- ---- the first of the counts, of the items

module _ (s : Sheet) (c end : ℕ) (l : c < end) where
  more : end - c ≡ suc (end - (c + 1))
  more = omega arith

  first_count : (p i : ℕ)
      → counts_at s p (end - c) c i
      ≡ bar_at s p c ++ (items_at s (c % 4) (get_or s.counts c 0) i ++ counts_at s p (end - (c + 1)) (c + 1) (i + get_or s.counts c 0))
  unfolding counts_at
  first_count p i = ap (λ n. counts_at s p n c i) more

  first_sum : items_from s (end - c) c ≡ get_or s.counts c 0 + items_from s (end - (c + 1)) (c + 1)
  unfolding items_from
  first_sum = ap (λ n. items_from s n c) more

abbrev item_line_at : Sheet → ℕ → ℕ → Line
item_line_at s voice i = item_line voice (get_or s.heads i 0) (get_or s.keys (2 * i) 0) (get_or s.keys (2 * i + 1) 0)

first_item : (s : Sheet) (voice n i : ℕ) → 0 < n → items_at s voice n i ≡ item_line_at s voice i ∷ items_at s voice (n - 1) (i + 1)
unfolding items_at
first_item s voice n i h =
    let e : n ≡ suc (n - 1) = omega arith in
    ap (λ k. items_at s voice k i) e

-- ---- counts without a line

pub passed_none : (cs : List ℕ) (c end : ℕ) → c ≤ end → Passed cs c end c
passed_none cs c end h = record { from = omega arith; within = h; lines = λ s p i e. refl; items = λ s e. refl }

module _ (s : Sheet) (k end : ℕ) (l : k < end) (no_item : get_or s.counts k 0 ≡ 0) where
  skip_lines : (p i : ℕ) → (k % 4 ≡ 0 → ⊥) → counts_at s p (end - k) k i ≡ counts_at s p (end - (k + 1)) (k + 1) i
  unfolding items_at
  skip_lines p i no_bar =
      let z : i + 0 ≡ i = omega arith in
      rw (first_count s k end l p i, ne_eqb _ _ no_bar, no_item, z)

  skip_items : items_from s (end - k) k ≡ items_from s (end - (k + 1)) (k + 1)
  skip_items = omega (arith, first_sum s k end l)

module _ {cs : List ℕ} {c end k : ℕ} (h : Passed cs c end k) where
  pub passed_more : k < end → (k % 4 ≡ 0 → ⊥) → get_or cs k 0 ≡ 0 → Passed cs c end (k + 1)
  passed_more l no_bar no_item =
      record {
        from = omega arith;
        within = omega arith;
        lines = λ s p i e. h.lines s p i e ∙ skip_lines s k end l (ap (λ (x : List ℕ). get_or x k 0) e ∙ no_item) p i no_bar;
        items = λ s e. h.items s e ∙ skip_items s k end l (ap (λ (x : List ℕ). get_or x k 0) e ∙ no_item);
      }

-- ---- a line

module _ (s : Sheet) (t : Spot) where
  title_ahead : {k : ℕ} → t.title ≡ Some k → ahead s t ≡ part_line k t.bars ∷ ahead s (titled_of t)
  title_ahead h = rw h

  title_fits : Fits s t → Fits s (titled_of t)
  title_fits f =
      record {
        small = f.small;
        next = f.next;
        counts = f.counts;
        starts = f.starts;
        marks = f.marks;
        heads = f.heads;
        keys = f.keys;
      }

  item_fits : 0 < t.left → Fits s t → Fits s (item_put t)
  item_fits h f =
      record {
        small = f.small;
        next = f.next;
        counts = f.counts;
        starts = f.starts;
        marks = f.marks;
        heads = omega arith;
        keys = omega arith;
      }

  module _ (titled : t.title ≡ None) where
    item_ahead : 0 < t.left → ahead s t ≡ item_line_at s t.voice t.item ∷ ahead s (item_put t)
    item_ahead h =
        let n : t.item + t.left ≡ t.item + 1 + (t.left - 1) = omega arith in
        rw (titled, n, first_item s t.voice t.left t.item h)

    module _ (none : t.left ≡ 0) where
      -- no count is left
      end_ahead : {c : ℕ} → c ≡ 4 * t.bars → Passed s.counts t.next (4 * t.bars) c → ahead s t ≡ []
      unfolding items_at counts_at
      end_ahead {c} e d =
          let z : 4 * t.bars - c ≡ 0 = omega arith in
          rw (titled, none, d.lines s t.p (t.item + 0) refl, z)

      -- a count's voice is entered
      module _ (c : ℕ) (l : c < 4 * t.bars) (d : Passed s.counts t.next (4 * t.bars) c) where
        voice_ahead : ahead s t ≡ bar_at s t.p c ++ ahead s (in_voice t c (get_or s.counts c 0))
        unfolding items_at
        voice_ahead =
            let z : t.item + 0 ≡ t.item = omega arith in
            rw (titled, none, z, d.lines s t.p t.item refl, first_count s c (4 * t.bars) l t.p t.item)

        voice_fits : Fits s t → Fits s (in_voice t c (get_or s.counts c 0))
        voice_fits f =
            let e = d.items s refl in
            let g = first_sum s c (4 * t.bars) l in
            record {
              small = f.small;
              next = omega arith;
              counts = f.counts;
              starts = f.starts;
              marks = f.marks;
              heads = omega arith;
              keys = omega arith;
            }

-- ---- a line that was put is the first ahead

puts_line : {s : Sheet} {t u : Spot} {line : Line} {at : ℕ} {o q : List ℕ} {r : Put}
    → ahead s t ≡ line ∷ ahead s u → Fits s u → Steps line u at o r q → LinePut s t at o r q
puts_line {s} {t} {u} {line} e f h =
    record {
      line = line;
      went = e ∙ ap (λ (v : Spot). line ∷ ahead s v) (sym h.spot);
      adds = h.adds;
      fits = subst (λ (v : Spot). Fits s v) (sym h.spot) f;
    }

module _ {s : Sheet} {t : Spot} (f : Fits s t) {at : ℕ} {o q : List ℕ} {r : Put} where
  pub puts_title : {k : ℕ} → t.title ≡ Some k → Steps (part_line k t.bars) (titled_of t) at o r q → LinePut s t at o r q
  puts_title h w = puts_line (title_ahead s t h) (title_fits s t f) w

  pub puts_item : t.title ≡ None → 0 < t.left → Steps (item_line_at s t.voice t.item) (item_put t) at o r q → LinePut s t at o r q
  puts_item titled h w = puts_line (item_ahead s t titled h) (item_fits s t h f) w

module _ {s : Sheet} {t here : Spot} {c : ℕ} (d : DueAt s t c) (e : here ≡ in_voice t c (get_or s.counts c 0)) where
  pub here_fits : Fits s here
  here_fits =
      subst (λ (v : Spot). Fits s v) (sym e) (voice_fits s t d.titled d.none c d.within d.due.passed d.fits)

  here_ahead : ahead s t ≡ bar_at s t.p c ++ ahead s here
  here_ahead =
      voice_ahead s t d.titled d.none c d.within d.due.passed ∙ ap (λ (v : Spot). bar_at s t.p c ++ ahead s v) (sym e)

  pub some_left : (c % 4 ≡ 0 → ⊥) → 0 < here.left
  some_left h = rw e (d.due.found d.within h)

  module _ {at : ℕ} {o q : List ℕ} {r : Put} where
    pub puts_bar : c % 4 ≡ 0
        → Steps (bar_line here.p (c / 4 + 1) (get_or s.starts (c / 4) 0) (get_or s.marks (c / 4) 0)) here at o r q → LinePut s t at o r q
    puts_bar h w =
        let p : here.p ≡ t.p = ap (λ (v : Spot). v.p) e in
        puts_line (here_ahead ∙ rw (eq-eqb _ _ h, p)) here_fits w

    pub puts_first : (c % 4 ≡ 0 → ⊥) → Steps (item_line_at s here.voice here.item) (item_put here) at o r q → LinePut s t at o r q
    puts_first h w =
        let titled : here.title ≡ None = ap (λ (v : Spot). v.title) e ∙ d.titled in
        puts_line (here_ahead ∙ rw (ne_eqb _ _ h) (item_ahead s here titled (some_left h))) (item_fits s here (some_left h) here_fits) w

-- no line is left
pub puts_none : (s : Sheet) (t : Spot) {c : ℕ} (at : ℕ) (o : List ℕ) → t.title ≡ None → t.left ≡ 0
    → c ≡ 4 * t.bars → Passed s.counts t.next (4 * t.bars) c → PutsLine s t at o None o
puts_none s t at o titled none e d = (end_ahead s t titled none e d, refl)
