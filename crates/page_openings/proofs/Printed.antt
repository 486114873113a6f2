-- What a run writes is the page: each turn's bytes are those of the lines that are no longer ahead.
use Prim.Native.Nat.{ℕ, ◌-◌, ◌≤◌}
use mathlib.Core.Bool.{false, true≢false}
use mathlib.Core.List.{List, [], ◌++◌, flatten}
use mathlib.Core.Logic.{inl, inr}
use mathlib.Core.Path.{◌≡◌, sym, ap, ◌∙◌}
use native.Mathlib.Omega.{arith}
use borrow.Author.Tests.{eq-eqb, ne_eqb, ltb-false}
use Rattle.std.specs.Prelude.{None}
use lib.ListN.{take}
use Rattle.rules.specs.Piece.{Piece}
use Rattle.laws.proofs.Lists.{flatten_append}
use Rattle.laws.proofs.Order.{by_eq}
use Rattle.pages.specs.Page.{parts_lines, Room}
use Rattle.pages.specs.Spots.{Sheet}
use Rattle.page_openings.specs.Places.{lines_at, goes_on, held_piece}
use Rattle.page_openings.specs.Claims.{Prints, ends, turns, PrintsPage}
use Rattle.page_openings.specs.declared.Place.{Place}
use Rattle.page_openings.proofs.Turns.{by_option}

-- no line is ahead where none goes on
no_parts : (x : Piece) (s : Sheet) (t : Place) → t.number ≡ 0 → t.spot ≡ None → t.parts ≤ t.next → lines_at x s t ≡ []
unfolding parts_lines
no_parts x s t n o l =
    let z : t.parts - t.next ≡ 0 = omega arith in
    rw (n, o, z)

ended_lines : (x : Piece) (s : Sheet) (t : Place) → goes_on t ≡ false → lines_at x s t ≡ []
ended_lines x s t g =
    elim (by_eq t.number 0) [
      | inr n ↦ absurd (true≢false (rw (ne_eqb t.number 0 n) at g))
      | inl n ↦
          elim (by_option t.spot) [
            | inr o ↦ absurd (true≢false (rw (eq-eqb t.number 0 n, o.1) at g))
            | inl o ↦ no_parts x s t n o (ltb-false t.next t.parts (rw (eq-eqb t.number 0 n, o) at g))
          ]
    ]

printed_lines : (x : Piece) (r : Room) {s : Sheet} {t : Place} {bytes : List ℕ} → Prints x r s t bytes → bytes ≡ flatten (lines_at x s t)
unfolding flatten
printed_lines x r {s} {t} (ends g) = sym (ap flatten (ended_lines x s t g))
printed_lines x r (turns {s₁ = s₁} out a g opened put rest) =
    ap (λ l. take a.at out ++ l) (printed_lines x r rest)
    ∙ ap (λ l. l ++ flatten (lines_at x s₁ a.place)) put.page
    ∙ sym (flatten_append put.lines (lines_at x s₁ a.place))
    ∙ sym (ap flatten (sym opened.lines ∙ put.ahead_of x))

pub prints_page : PrintsPage
prints_page page r ss ds ws st mk o s bytes opens run = printed_lines (held_piece o ss ds ws) r run ∙ ap flatten (opens.ahead_of s)
