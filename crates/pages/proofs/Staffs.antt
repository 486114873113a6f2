-- The lines ahead of a part's front are the part's: items, voices and bars are read from the arrays at the places where they are written.
use Prim.Native.Nat.{ℕ, suc, ◌+◌, ◌-◌, ◌*◌, ◌/◌, ◌%◌, ◌≤◌, ◌<◌}
use mathlib.Core.Bool.{cond}
use mathlib.Core.List.{List, [], ◌∷◌, ◌++◌, map, flat_map, flatten, append_assoc}
use mathlib.Core.Path.{◌≡◌, refl, ap, sym, subst, ◌∙◌}
use native.Mathlib.Omega.{arith}
use lib.Dec.{eqb}
use lib.ListN.{length, get_or, drop, length-append, length-map}
use lib.Seq.{get_or-drop, drop-drop}
use Rattle.rules.specs.Lists.{written, All, sum}
use Rattle.rules.specs.Piece.{Piece, first_track, ticks_per_quarter}
use Rattle.rules.specs.Bars.{bars, starts, marks}
use Rattle.rules.specs.RawNotes.{RawNote, raw_notes}
use Rattle.rules.specs.Grid.{grid}
use Rattle.rules.specs.Voices.{voices}
use Rattle.rules.specs.Items.{Item, Staff, head_of, items_of, arrays_of}
use Rattle.rules.specs.Staff.{engraved, part_staff}
use Rattle.rules.specs.Calls.{part_track}
use Rattle.laws.proofs.Lists.{by_four, length_flatten, length_flatten_each}
use Rattle.laws.proofs.VoiceLaws.{voices_four}
use Rattle.playback.proofs.Engraved.{staff_shape}
use Rattle.items.specs.Writing.{key_words}
use Rattle.items.proofs.Appending.{keys_length}
use Rattle.bar_lines.specs.Lines.{bar_line, part_line}
use Rattle.pages.specs.Page.{Line, voice_lines, voices_lines, bars_lines}
use Rattle.pages.specs.Spots.{Sheet, sheet, items_at, counts_at, items_from, begun, ahead, Fits}
use Rattle.pages.specs.Claims.{PartAhead}
use Rattle.laws.proofs.BarLaws.{marks_length}

-- ---- an array that holds a list from a place on

record From (l : List ℕ) (n : ℕ) (xs : List ℕ) : Type 0 where
  behind : List ℕ
  is : drop n l ≡ xs ++ behind

from_front : (xs ys : List ℕ) → From (xs ++ ys) 0 xs
from_front xs ys = record { behind = ys; is = refl }

module _ {l : List ℕ} {n x : ℕ} {xs : List ℕ} (h : From l n (x ∷ xs)) where
  from_first : get_or l n 0 ≡ x
  from_first =
      let z : n + 0 ≡ n = omega arith in
      sym (rw z at (get_or-drop n l 0 0)) ∙ ap (λ ys. get_or ys 0 0) h.is

  from_rest : From l (n + 1) xs
  from_rest = record { behind = h.behind; is = sym (drop-drop 1 n l) ∙ ap (drop 1) h.is }

-- ---- items

-- items from item i on
record Holds (s : Sheet) (i : ℕ) (is : List Item) : Type 0 where
  heads : From s.heads i (map head_of is)
  keys : From s.keys (2 * i) (flat_map key_words is)

holds_rest : {s : Sheet} {i : ℕ} {x : Item} {is : List Item} → Holds s i (x ∷ is) → Holds s (i + 1) is
unfolding flat_map
holds_rest {s} {i} {x} {is} h =
    let e : 2 * i + 1 + 1 ≡ 2 * (i + 1) = omega arith in
    record { heads = from_rest h.heads; keys = subst (λ n. From s.keys n (flat_map key_words is)) e (from_rest (from_rest h.keys)) }

-- those behind some
holds_past : {s : Sheet} {i : ℕ} (is js : List Item) → Holds s i (is ++ js) → Holds s (i + length is) js
holds_past {s} {i} [] js h =
    let e : i ≡ i + 0 = omega arith in
    subst (λ n. Holds s n js) e h
holds_past {s} {i} (x ∷ is) js h =
    let e : i + 1 + length is ≡ i + suc (length is) = omega arith in
    subst (λ n. Holds s n js) e (holds_past {i = i + 1} is js (holds_rest h))

item_lines : {s : Sheet} {i : ℕ} (voice : ℕ) (is js : List Item) → Holds s i (is ++ js) → items_at s voice (length is) i ≡ voice_lines voice is
unfolding items_at flat_map
item_lines voice [] js h = refl
item_lines {i = i} voice (x ∷ is) js h =
    rw (from_first h.heads, from_first h.keys, from_first (from_rest h.keys), item_lines {i = i + 1} voice is js (holds_rest h))

-- ---- counts

module _ (s : Sheet) where
  sums_items : {c : ℕ} (vs : List (List Item)) → From s.counts c (map length vs) → items_from s (length vs) c ≡ sum (map length vs)
  unfolding items_from sum
  sums_items [] h = refl
  sums_items {c = c} (is ∷ vs) h = rw (from_first h, sums_items {c = c + 1} vs (from_rest h))

  module _ (p b : ℕ) where
    abbrev line_of : Line
    line_of = bar_line p (b + 1) (get_or s.starts b 0) (get_or s.marks b 0)

    -- voice v of bar b, behind the bar's line where it is the first
    voice_lines_lem : {i c : ℕ} {ns : List ℕ} (v n : ℕ) (is js : List Item) → v < 4 → c ≡ 4 * b + v
        → From s.counts c (length is ∷ ns) → Holds s i (is ++ js)
        → counts_at s p (suc n) c i ≡ cond (eqb v 0) (line_of ∷ []) [] ++ (voice_lines v is ++ counts_at s p n (c + 1) (i + length is))
    unfolding counts_at
    voice_lines_lem {c = c} v n is js l e h k =
        let m : c % 4 ≡ v = omega arith in
        let q : c / 4 ≡ b = omega arith in
        rw (m, q, from_first h, item_lines v is js k)

    bar_lines : {i : ℕ} {ns : List ℕ} (n : ℕ) (v0 v1 v2 v3 js : List Item)
        → From s.counts (4 * b) (length v0 ∷ length v1 ∷ length v2 ∷ length v3 ∷ ns) → Holds s i (v0 ++ (v1 ++ (v2 ++ (v3 ++ js))))
        → counts_at s p (suc (suc (suc (suc n)))) (4 * b) i
        ≡ line_of
        ∷ (voices_lines 0 (v0 ∷ v1 ∷ v2 ∷ v3 ∷ [])
        ++ counts_at s p n (4 * (b + 1)) (i + length v0 + length v1 + length v2 + length v3))
    unfolding voices_lines
    bar_lines n v0 v1 v2 v3 js h k =
        let h1 = from_rest h in
        let h2 = from_rest h1 in
        let h3 = from_rest h2 in
        let k1 = holds_past v0 (v1 ++ (v2 ++ (v3 ++ js))) k in
        let k2 = holds_past v1 (v2 ++ (v3 ++ js)) k1 in
        let k3 = holds_past v2 (v3 ++ js) k2 in
        let e : 4 * b + 1 + 1 + 1 + 1 ≡ 4 * (b + 1) = omega arith in
        voice_lines_lem 0 _ v0 _ (omega arith) (omega arith) h k
        ∙ rw (
          voice_lines_lem 1 _ v1 _ (omega arith) (omega arith) h1 k1,
          voice_lines_lem 2 _ v2 _ (omega arith) (omega arith) h2 k2,
          voice_lines_lem 3 n v3 js (omega arith) (omega arith) h3 k3,
          e,
        ) (simp append_assoc)

  -- the bars of a staff, from bar b on
  staff_lines : {i : ℕ} (p b : ℕ) (st : Staff) (ss ms : List ℕ) → All (λ (bar : List (List Item)). length bar ≡ 4) st
      → length ss ≡ length st → length ms ≡ length st → From s.counts (4 * b) (map length (flatten st)) → Holds s i (items_of st)
      → From s.starts b ss → From s.marks b ms → counts_at s p (4 * length st) (4 * b) i ≡ bars_lines p (b + 1) ss ms st
  unfolding counts_at flatten bars_lines
  staff_lines p b [] [] ms f es em h k hs hm = refl
  staff_lines p b [] (x ∷ ss) ms f es em h k hs hm = absurd (omega arith)
  staff_lines p b (vs ∷ st) [] ms f es em h k hs hm = absurd (omega arith)
  staff_lines p b (vs ∷ st) (x ∷ ss) [] f es em h k hs hm = absurd (omega arith)
  staff_lines {i} p b (vs ∷ st) (x ∷ ss) (m ∷ ms) f es em h k hs hm =
      by_four
      (λ (bar : List (List Item)). From s.counts (4 * b) (map length (flatten (bar ∷ st))) → Holds s i (items_of (bar ∷ st))
      → counts_at s p (4 * suc (length st)) (4 * b) i ≡ bars_lines p (b + 1) (x ∷ ss) (m ∷ ms) (bar ∷ st))
      (λ v0 v1 v2 v3 h k.
      let js = items_of st in
      let e : 4 * suc (length st) ≡ suc (suc (suc (suc (4 * length st)))) = omega arith in
      let c : 4 * b + 1 + 1 + 1 + 1 ≡ 4 * (b + 1) = omega arith in
      let h4 = from_rest (from_rest (from_rest (from_rest h))) in
      let k4 = holds_past v3 js (holds_past v2 (v3 ++ js) (holds_past v1 (v2 ++ (v3 ++ js)) (holds_past v0 (v1 ++ (v2 ++ (v3 ++ js))) k))) in
      rw (e, bar_lines p b (4 * length st) v0 v1 v2 v3 js h k, from_first hs, from_first hm)
      (rw (staff_lines {i = i + length v0 + length v1 + length v2 + length v3} p (b + 1) st ss ms f.1 (omega arith) (omega arith) (rw c at h4) k4 (from_rest hs) (from_rest hm))))
      vs f.0 h k

-- ---- a staff, written to the front of the arrays

room_written : (xs l : List ℕ) → length xs ≤ length (written xs l)
room_written xs l = rw length-append (omega arith)

module _ (p k n : ℕ) (st : Staff) (ss ms : List ℕ) (fours : All (λ (bar : List (List Item)). length bar ≡ 4) st)
    (bars_same : length st ≡ n) (starts_same : length ss ≡ n) (marks_same : length ms ≡ n) (c₀ h₀ k₀ s₀ m₀ : List ℕ) where
  abbrev staff_sheet : Sheet
  staff_sheet =
      sheet (written (arrays_of st).counts c₀) (written (arrays_of st).heads h₀) (written (arrays_of st).keys k₀) (written ss s₀) (written ms m₀)

  staff_ahead : ahead staff_sheet (begun k p n) ≡ part_line k n ∷ bars_lines p 1 ss ms st
  unfolding items_at
  staff_ahead =
      let e : 4 * n - 0 ≡ 4 * length st = omega arith in
      let held : Holds staff_sheet 0 (items_of st) = record { heads = from_front _ _; keys = from_front _ _ } in
      let ss_same = starts_same ∙ sym bars_same in
      let ms_same = marks_same ∙ sym bars_same in
      rw (e, staff_lines staff_sheet p 0 st ss ms fours ss_same ms_same (from_front _ _) held (from_front _ _) (from_front _ _))

  voices_many : length (flatten st) ≡ 4 * n
  voices_many = omega (arith, length_flatten_each 4 st fours)

  items_many : items_from staff_sheet (4 * n - 0) 0 ≡ length (items_of st)
  items_many =
      let e : 4 * n - 0 ≡ length (flatten st) = omega (arith, voices_many) in
      rw e (sums_items staff_sheet (flatten st) (from_front _ _) ∙ sym (length_flatten (flatten st)))

  staff_fits : p ≤ 65535 → Fits staff_sheet (begun k p n)
  staff_fits h =
      record {
        small = h;
        next = omega arith;
        counts = omega (arith, room_written (arrays_of st).counts c₀, length-map (flatten st) length, voices_many);
        starts = omega (arith, room_written ss s₀);
        marks = omega (arith, room_written ms m₀);
        heads = omega (arith, room_written (arrays_of st).heads h₀, length-map (items_of st) head_of, items_many);
        keys = omega (arith, room_written (arrays_of st).keys k₀, keys_length (items_of st), items_many);
      }

-- ---- the marks: one a bar

-- ---- a part

four_each : (x : Piece) (ns : List RawNote)
    → All (λ (bar : List (List Item)). length bar ≡ 4) (engraved (ticks_per_quarter x) ns (bars x))
four_each x ns =
    let g = grid (ticks_per_quarter x) ns in
    staff_shape (ticks_per_quarter x) (voices g ns) (bars x) (voices_four g ns)

pub part_ahead : PartAhead
part_ahead x k c₀ h₀ k₀ s₀ m₀ =
    let p = ticks_per_quarter x in
    let n = length (bars x) in
    let st = part_staff x (part_track x k) in
    let four = four_each x (raw_notes (part_track x k)) in
    let one = marks_length (first_track x) (bars x) in (
      staff_ahead p k n st (starts x) (marks x) four (length-map (bars x) _) (length-map (bars x) _) one c₀ h₀ k₀ s₀ m₀,
      staff_fits p k n st (starts x) (marks x) four (length-map (bars x) _) (length-map (bars x) _) one c₀ h₀ k₀ s₀ m₀,
    )
