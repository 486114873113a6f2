-- The items of a voice in a bar, one after the other: what is left to be heard.
use Prim.Native.Nat.{ℕ, ◌+◌, ◌-◌, ◌*◌, ◌≤◌, ◌<◌}
use mathlib.Core.Bool.{false}
use mathlib.Core.List.{List, [], ◌∷◌, map}
use mathlib.Core.Path.{◌≡◌, refl, sym, ap, subst, ◌∙◌}
use Rattle.std.specs.Prelude as std
use native.Mathlib.Nat.{sub-zero, add-zero}
use native.Mathlib.Omega.{arith}
use lib.ListN.{length, take, drop}
use Rattle.rules.specs.Lists.{sum}
use Rattle.rules.specs.RawNotes.{RawNote}
use Rattle.rules.specs.Items.{read_items}
use Rattle.rules.specs.Items as items
use Rattle.rules.specs.ProofReader.{item_ticks, Timed, timed_from, Played}
use Rattle.proofread_notes.specs.Columns.{notes_at, Same, Marks}
use Rattle.proofread_notes.proofs.Areas.{same_self, same_then, notes_same}
use Rattle.proofread_items.specs.Playing.{Heard, hear_one, run, as_item, timed_at, heard_of, Paced, StaysBefore, Takes, TakesAll}
use Rattle.proofread_items.specs.declared.Item.{Item}
use Rattle.proofread_items.specs.declared.Voice.{Voice}
use Rattle.proofread_items.proofs.Lengths.{item_at, items_cons, items_none}

-- what has failed stays so
pub run_failed : (p e : ℕ) (ns : List RawNote) (a : Heard) (ts : List Timed) → a.ok ≡ false → (run p e ns a ts).ok ≡ false
unfolding hear_one
run_failed p e ns a [] h = h
run_failed p e ns a (t ∷ ts) h = run_failed p e ns (hear_one p e ns a t) ts (rw h)

-- the items `left` are still to come, of the items `all`
pub record Left (g n m e p : ℕ) (ns : List RawNote) (all left : List items.Item) (v₀ : Voice) (cs : List Played) (w : List ℕ) (v : Voice) : Type 0 where
  pub closed : List Played
  pub marks : Marks g n m w closed
  pub same : run p e ns (heard_of v closed) (timed_from p v.tick left) ≡ run p e ns (heard_of v₀ cs) (timed_from p v₀.tick all)

pub record Reading (g n m e p : ℕ) (all left : List items.Item) (w₀ w : List ℕ) (v₀ v : Voice) : Type 0 where
  pub area : Same n w₀ w
  pub paced : Paced g n m w v
  pub stays : StaysBefore g n w₀ w v₀ v
  pub hears : (cs : List Played) → Marks g n m w₀ cs → Left g n m e p (notes_at g n m w₀) all left v₀ cs w v
  pub ticks : v.tick + sum (map (item_ticks p) left) ≡ v₀.tick + sum (map (item_ticks p) all)

pub reading_start : {g n m e p : ℕ} {all : List items.Item} {w : List ℕ} {v : Voice} → Paced g n m w v → Reading g n m e p all all w w v v
reading_start {n = n} {w = w} k =
    record { area = same_self n w; paced = k; stays = λ o b. b; hears = λ cs c. record { closed = cs; marks = c; same = refl }; ticks = refl }

module _ {g n m e p : ℕ} {all left : List items.Item} {w₀ w : List ℕ} {v₀ v : Voice} (i : Item) (room : m ≤ n)
    (now : Reading g n m e p all (as_item i ∷ left) w₀ w v₀ v) where
  -- what the rules hear of the next item
  step : (cs : List Played) (c : Marks g n m w₀ cs)
      → run p e (notes_at g n m w₀) (hear_one p e (notes_at g n m w) (heard_of v (now.hears cs c).closed) (timed_at p v i))
      (timed_from p (v.tick + item_ticks p (as_item i)) left)
      ≡ run p e (notes_at g n m w₀) (heard_of v₀ cs) (timed_from p v₀.tick all)
  unfolding timed_from
  step cs c = rw (notes_same now.area g m room) (now.hears cs c).same

  pub reading_more : {w' : List ℕ} {r : Voice} → Takes g n m e p i w w' v (std.Some r) → Reading g n m e p all left w₀ w' v₀ r
  unfolding sum
  reading_more {w'} {r} t =
      record {
        area = same_then now.area t.hears.same;
        paced = t.hears.is.paced;
        stays = λ o b. t.stays o (now.stays o b);
        hears =
            λ cs c.
            let before = now.hears cs c in
            let held = t.hears.is.holds before.closed before.marks in
            record {
              closed = (hear_one p e (notes_at g n m w) (heard_of v before.closed) (timed_at p v i)).closed;
              marks = held.marks;
              same =
                  rw t.tick
                  (ap (λ (a : Heard). run p e (notes_at g n m w₀) a (timed_from p (v.tick + item_ticks p (as_item i)) left)) held.is ∙ step cs c);
            };
        ticks = omega (arith, t.tick, now.ticks);
      }

  pub reading_failed : {w' : List ℕ} → Takes g n m e p i w w' v std.None → TakesAll g n m e p all w₀ w' v₀ std.None
  reading_failed t =
      record {
        hears =
            record {
              same = same_then now.area t.hears.same;
              is =
                  λ cs c.
                  let before = now.hears cs c in
                  sym (ap (λ (a : Heard). a.ok) (step cs c)) ∙ run_failed p e (notes_at g n m w₀)
                  (hear_one p e (notes_at g n m w) (heard_of v before.closed) (timed_at p v i)) (timed_from p (v.tick + item_ticks p (as_item i)) left)
                  (t.hears.is before.closed before.marks);
            };
        stays = tt;
        tick = tt;
      }

pub reading_end : {g n m e p : ℕ} {all : List items.Item} {w₀ w : List ℕ} {v₀ v : Voice} → Reading g n m e p all [] w₀ w v₀ v
    → TakesAll g n m e p all w₀ w v₀ (std.Some v)
unfolding timed_from sum
reading_end {g} {n} {m} {e} {p} {all} {w₀} {w} {v₀} {v} now =
    record {
      hears =
          record {
            same = now.area;
            is =
                record {
                  holds =
                      λ cs c.
                      let done = now.hears cs c in
                      let q = ap (λ (a : Heard). a.closed) done.same in
                      record {
                        marks = subst (Marks g n m w) q done.marks;
                        is =
                            subst (λ (l : List Played). heard_of v l ≡ run p e (notes_at g n m w₀) (heard_of v₀ cs) (timed_from p v₀.tick all)) q done.same;
                      };
                  paced = now.paced;
                };
          };
      stays = now.stays;
      tick = omega (arith, now.ticks);
    }

-- ---- the items of the arrays

-- the items from item `first` on, `count` of them, and those of them from item i on
abbrev pub items_of : List ℕ → List ℕ → ℕ → ℕ → List items.Item
items_of hs ks first count = take count (drop first (read_items hs ks))

abbrev pub items_left : List ℕ → List ℕ → ℕ → ℕ → ℕ → List items.Item
items_left hs ks first count i = take (count - i) (drop (first + i) (read_items hs ks))

module _ {g n m e p : ℕ} {w₀ w : List ℕ} {v₀ v : Voice} (hs ks : List ℕ) (first count : ℕ) where
  pub arrays_start : Reading g n m e p (items_of hs ks first count) (items_of hs ks first count) w₀ w v₀ v
      → Reading g n m e p (items_of hs ks first count) (items_left hs ks first count 0) w₀ w v₀ v
  arrays_start r = rw (sub-zero count, add-zero first) r

  pub arrays_next : {i : ℕ} (it : Item) → i < count → first + count ≤ length hs → 2 * length hs ≤ length ks → as_item it ≡ item_at hs ks (first + i)
      → Reading g n m e p (items_of hs ks first count) (items_left hs ks first count i) w₀ w v₀ v
      → Reading g n m e p (items_of hs ks first count) (as_item it ∷ items_left hs ks first count (i + 1)) w₀ w v₀ v
  arrays_next {i} it h l o q r =
      subst (λ (is : List items.Item). Reading g n m e p (items_of hs ks first count) is w₀ w v₀ v)
      (items_cons hs ks first count i h l o ∙ ap (λ (x : items.Item). x ∷ items_left hs ks first count (i + 1)) (sym q)) r

  pub arrays_end : {i : ℕ} → count ≤ i → Reading g n m e p (items_of hs ks first count) (items_left hs ks first count i) w₀ w v₀ v
      → TakesAll g n m e p (items_of hs ks first count) w₀ w v₀ (std.Some v)
  arrays_end {i} h r =
      reading_end
      (subst (λ (is : List items.Item). Reading g n m e p (items_of hs ks first count) is w₀ w v₀ v)
      (items_none (drop (first + i) (read_items hs ks)) count i h) r)
