-- A part opened: engraving is not refused where the opening found room, and the part's lines are ahead of its front.
use Prim.Native.Nat.{ℕ, suc, ◌+◌, ◌-◌, ◌<◌, ◌≤◌}
use mathlib.Core.Bool.{false}
use Rattle.std.specs.Prelude.{None, Some}
use Rattle.std.proofs.lemmas.Option.{same_Some}
use Rattle.pages.specs.declared.Spot.{Spot}
use mathlib.Core.List.{List, [], ◌∷◌, ◌++◌}
use mathlib.Core.Path.{◌≡◌, refl, sym, ap, subst, ◌∙◌}
use native.Mathlib.Omega.{arith}
use borrow.Author.Tests.{ltb-false}
use lib.ListN.{length}
use Rattle.rules.specs.Lists.{written}
use Rattle.rules.specs.Piece.{Piece, Event, ticks_per_quarter}
use Rattle.rules.specs.RawNotes.{parts}
use Rattle.rules.specs.Bars.{bars, starts, marks}
use Rattle.rules.specs.Refusals.{Result, refused, given, piece_refusals, note_refusals, as_it_is, work_needed, answers}
use Rattle.rules.specs.Calls.{StaffSize, part_size, part_arrays, EngravedLists, part_lists, engrave_call, EngraveCalled}
use Rattle.laws.specs.Admitted.{Passes}
use Rattle.laws.proofs.BarLaws.{bars_stop}
use Rattle.laws.proofs.Refusals.{admitted}
use Rattle.tracks.proofs.Ranges.{quarter_fits}
use Rattle.laws.proofs.Lists.{All-left, All-right, All-get, All-unmap}
use Rattle.staffs.proofs.PartSizes.{engraves_part}
use Rattle.pages.specs.Page.{Line, part_lines, parts_lines, Room, many_items, room_for}
use Rattle.pages.specs.Spots.{Sheet, sheet, begun, ahead, Fits}
use Rattle.pages.specs.Claims.{part_sheet, PartAhead}
use Rattle.page_openings.specs.Places.{lines_at, Ready, Rooms, PartOpened}
use Rattle.page_openings.specs.declared.Place.{Place}
use Rattle.page_room.proofs.Numbers.{part_passes}

-- a piece with a part to open has ticks per quarter that a bar's line takes
pub opened_small : (x : Piece) {r : Room} {s : Sheet} {t : Place} → Ready x r s t → t.next < t.parts → ticks_per_quarter x ≤ 65535
opened_small x ready left =
    quarter_fits x (admitted x (All-left _ (piece_refusals x) _ (All-left _ (note_refusals x) _ (ready.passes left))))

titled_some : (l : Line) (ls : List Line) → l ∷ ls ≡ [] → ⊥
titled_some l ls e =
    let z : ◌≡◌ {A = ℕ} 0 1 = cc in
    omega arith

-- the parts from one on: its own lines, and the others
pub parts_here : (x : Piece) (k n : ℕ) → k < n → parts_lines x k (n - k) ≡ part_lines x k ++ parts_lines x (k + 1) (n - (k + 1))
unfolding parts_lines
parts_here x k n l =
    let e : n - k ≡ suc (n - (k + 1)) = omega arith in
    rw e

module _ (ahead_is : PartAhead) (x : Piece) (t : Place) {c₀ h₀ k₀ l₀ w₀ c₁ h₁ k₁ l₁ w₁ ss ms : List ℕ} {answer : Result StaffSize}
    (ready : Ready x (record { items = length h₀; work = length w₀ }) (sheet c₀ h₀ k₀ ss ms) t) (rooms : Rooms (sheet c₀ h₀ k₀ ss ms))
    (leftovers : 40000 ≤ length l₀) (none : t.number ≡ 0) (closed : t.spot ≡ None) (left : t.next < t.parts)
    (run : EngraveCalled as_it_is (part_size x t.next) (engrave_call x t.next (length c₀) (length h₀) (length k₀) (length l₀) (length w₀))
    c₀ h₀ k₀ l₀ w₀ answer c₁ h₁ k₁ l₁ w₁) where
  abbrev k : ℕ
  k = t.next

  passes : Passes (note_refusals x ++ room_for (record { items = length h₀; work = length w₀ }) x)
  passes = ready.passes left

  here : k < length (parts x)
  here = omega (arith, ready.parts left)

  room : Passes (room_for (record { items = length h₀; work = length w₀ }) x)
  room = All-right _ (note_refusals x) _ passes

  few_items : (part_size x k).items ≤ length h₀
  few_items =
      ltb-false (length h₀) (part_size x k).items
      (All-get (λ (es : List Event). (many_items (length h₀) x es).applies ≡ false) (parts x) k []
      (All-unmap _ (many_items (length h₀) x) (parts x) room.1) here)

  engraves : engrave_call x k (length c₀) (length h₀) (length k₀) (length l₀) (length w₀) ≡ given (part_lists x k)
  engraves =
      let few = (bars_stop x).most in
      engraves_part x k (length c₀) (length h₀) (length k₀) (length l₀) (length w₀) (part_passes x k (All-left _ (note_refusals x) _ passes) here)
      (ltb-false (length w₀) (work_needed x) room.0) (omega (arith, rooms.counts)) few_items (omega (arith, few_items, rooms.keys))
      (omega (arith, leftovers))

  answered : answer ≡ given (part_size x k)
  answered = run.answered ∙ ap (answers (λ (s : EngravedLists). part_size x k)) engraves

  pub not_refused : (n : ℕ) → refused n ≡ answer → ⊥
  not_refused n h =
      let e = answered in
      let z : ◌≡◌ {A = ℕ} 0 1 = cc in
      omega arith

  size_is : (s : StaffSize) → given s ≡ answer → s.bars ≡ length (bars x)
  size_is s h =
      let e = answered in
      let same : s ≡ part_size x k = cc in
      ap (λ (z : StaffSize). z.bars) same

  written_sheet : sheet c₁ h₁ k₁ ss ms ≡ part_sheet x k c₀ h₀ k₀ ss ms
  written_sheet =
      let ec : c₁ ≡ written (part_arrays x k).counts c₀ = rw engraves at run.counts in
      let eh : h₁ ≡ written (part_arrays x k).heads h₀ = rw engraves at run.heads in
      let ek : k₁ ≡ written (part_arrays x k).keys k₀ = rw engraves at run.keys in
      let es : ss ≡ written (starts x) ss = ready.starts left in
      let em : ms ≡ written (marks x) ms = ready.marks left in
      λ i. sheet (ec i) (eh i) (ek i) (es i) (em i)

  ahead_here : (s : StaffSize) → given s ≡ answer → ahead (sheet c₁ h₁ k₁ ss ms) (begun k (ticks_per_quarter x) s.bars) ≡ part_lines x k
  ahead_here s h =
      (λ i. ahead (written_sheet i) (begun k (ticks_per_quarter x) (size_is s h i))) ∙ (ahead_is x k c₀ h₀ k₀ ss ms).0

  closed_lines : parts_lines x k (t.parts - k) ≡ lines_at x (sheet c₀ h₀ k₀ ss ms) t
  closed_lines = rw (none, closed)

  begun_lines : (u : Spot) → lines_at x (sheet c₁ h₁ k₁ ss ms) (record { number = t.number; parts = t.parts; next = k + 1; spot = Some u })
      ≡ ahead (sheet c₁ h₁ k₁ ss ms) u ++ parts_lines x (k + 1) (t.parts - (k + 1))
  begun_lines u = rw none

  pub part_opened : (small : ticks_per_quarter x ≤ 65535) (s : StaffSize) → given s ≡ answer
      → PartOpened x (record { items = length h₀; work = length w₀ }) (sheet c₀ h₀ k₀ ss ms) t (sheet c₁ h₁ k₁ ss ms)
      (record { number = t.number; parts = t.parts; next = t.next + 1; spot = Some (begun t.next (ticks_per_quarter x) s.bars) })
  part_opened small s h =
      record {
        lines =
            begun_lines (begun k (ticks_per_quarter x) s.bars)
            ∙ ap (λ ls. ls ++ parts_lines x (k + 1) (t.parts - (k + 1))) (ahead_here s h) ∙ sym (parts_here x k t.parts left) ∙ closed_lines;
        ready =
            record {
              passes = λ _. passes;
              parts = λ _. ready.parts left;
              starts = λ _. ready.starts left;
              marks = λ _. ready.marks left;
              fits = λ v e. subst (λ (u : Spot). Fits (sheet c₁ h₁ k₁ ss ms) u) (same_Some _ v e) begun_fits;
            };
        number = refl;
        opened = λ _ _. refl;
        titled = λ _ v e z. titled_some _ _ (subst (λ (u : Spot). ahead (sheet c₁ h₁ k₁ ss ms) u ≡ []) (sym (same_Some _ v e)) z);
      }
    where
      begun_fits : Fits (sheet c₁ h₁ k₁ ss ms) (begun k (ticks_per_quarter x) s.bars)
      begun_fits = rw (size_is s h, written_sheet) ((ahead_is x k c₀ h₀ k₀ ss ms).1 small)
