-- A piece opened: its page is ahead, that of a refusal or that of all parts.
use Prim.Native.Nat.{ℕ, ◌<◌, ◌≤◌}
use mathlib.Core.List.{List, [], ◌∷◌, ◌++◌, map, append-nil}
use mathlib.Core.Path.{◌≡◌, refl, sym, ap, ◌∙◌}
use native.Mathlib.Nat.{sub-zero}
use native.Mathlib.Omega.{arith}
use borrow.Author.Tests.{ne_eqb}
use lib.ListN.{length, drop}
use lib.Seq.{drop-append_seam}
use Rattle.rules.specs.Lists.{written}
use Rattle.rules.specs.Piece.{Piece, Event}
use Rattle.rules.specs.RawNotes.{parts}
use Rattle.rules.specs.Bars.{bars, starts, marks}
use Rattle.rules.specs.Refusals.{Result, refused, given, Refusal, first_number, note_refusals, as_it_is}
use Rattle.std.proofs.lemmas.Option.{none-some}
use Rattle.rules.specs.Calls.{part_count_call, bars_call, BarsCalled}
use Rattle.laws.specs.Admitted.{Passes}
use Rattle.laws.proofs.BarLaws.{bars_stop}
use Rattle.laws.proofs.Lists.{All-append}
use Rattle.laws.proofs.Refusals.{Numbered, passes_given, number_passes, number_first, number_after, number_refused}
use Rattle.laws.proofs.Refusals.{note_numbers, refused_first, given_first}
use Rattle.bars.proofs.BarOutcomes.{enough}
use Rattle.pages.specs.Page.{parts_lines, page_of, Room, many_items, room_for}
use Rattle.pages.specs.Spots.{Sheet}
use Rattle.page_openings.specs.Places.{lines_at, turned_back, to_open, Ready, PieceOpened}

-- ---- refusals

-- no refusal is number 0, so the place of one has its line ahead
pub refused_lines : (x : Piece) (s : Sheet) (rs : List Refusal) (n : ℕ) → first_number rs ≡ n → 0 < n → lines_at x s (turned_back n) ≡ page_of rs x
unfolding page_of
refused_lines x s rs n e l = rw (ne_eqb n 0 (λ z. omega (arith, z)), ← append-nil rs, number_refused rs [] _ n e l)

-- all parts are ahead where none applies
pub opened_lines : (x : Piece) (s : Sheet) (rs : List Refusal) (n : ℕ) → Passes rs → n ≡ length (parts x) → lines_at x s (to_open n) ≡ page_of rs x
unfolding page_of
opened_lines x s rs n p e = rw (passes_given rs (parts_lines x 0 (length (parts x))) p, e, sub-zero)

-- a place that has nothing to open needs nothing
pub refused_ready : (x : Piece) (r : Room) (s : Sheet) (n : ℕ) → Ready x r s (turned_back n)
refused_ready x r s n =
    record {
      passes = λ l. absurd (omega (arith, l));
      parts = λ l. absurd (omega (arith, l));
      starts = λ l. absurd (omega (arith, l));
      marks = λ l. absurd (omega (arith, l));
      fits = λ t e. absurd (none-some t e);
    }

-- ---- turned back

module _ (x : Piece) (r : Room) (ss ms : List ℕ) where
  -- turned back by 1 to 6
  pub piece_refused : (n : ℕ) → refused n ≡ part_count_call x → PieceOpened x r ss ms (turned_back n)
  piece_refused n h =
      let (e, l) = refused_first (length (parts x)) (note_refusals x) n (note_numbers x) h in
      record {
        page = λ s. refused_lines x s (note_refusals x ++ room_for r x) n (number_first (note_refusals x) (room_for r x) n e l) l;
        ready = λ s _ _. refused_ready x r s n;
      }

  -- or let pass by them, and turned back by 8
  pub room_refused : (n : ℕ) → Passes (note_refusals x) → n ≡ first_number (room_for r x) → 0 < n → PieceOpened x r ss ms (turned_back n)
  room_refused n p e l =
      record {
        page = λ s. refused_lines x s (note_refusals x ++ room_for r x) n (number_after (note_refusals x) (room_for r x) p ∙ sym e) l;
        ready = λ s _ _. refused_ready x r s n;
      }

pub count_given : (x : Piece) (n : ℕ) → given n ≡ part_count_call x → Passes (note_refusals x) × (n ≡ length (parts x))
count_given x n h = given_first (length (parts x)) (note_refusals x) n h

-- ---- or opened

-- what is written stays when it is written again
pub written_again : (xs l l₁ : List ℕ) → l₁ ≡ written xs l → l₁ ≡ written xs l₁
written_again xs l l₁ h = h ∙ ap (λ l₂. xs ++ l₂) (sym (rw h (drop-append_seam xs (drop (length xs) l))))

room_numbers : (x : Piece) (r : Room) (ess : List (List Event)) → Numbered (map (many_items r.items x) ess)
room_numbers x r [] = tt
room_numbers x r (es ∷ ess) = (omega arith, room_numbers x r ess)

module _ (x : Piece) (r : Room) (n : ℕ) {ss₀ ms₀ ss ms : List ℕ} {answer : Result ℕ} (p : Passes (note_refusals x)) (c : n ≡ length (parts x))
    (e : first_number (room_for r x) ≡ 0) (hs : 10000 ≤ length ss₀) (hm : 10000 ≤ length ms₀)
    (b : BarsCalled as_it_is (bars_call x (length ss₀) (length ms₀)) ss₀ ms₀ answer ss ms) where
  passes : Passes (note_refusals x ++ room_for r x)
  passes = All-append _ (note_refusals x) (room_for r x) p (number_passes (room_for r x) (omega arith, room_numbers x r (parts x)) e)

  both : bars_call x (length ss₀) (length ms₀) ≡ given (record { starts = starts x; marks = marks x })
  both =
      let few = (bars_stop x).most in
      enough x p (length (bars x)) refl ss₀ ms₀ (omega arith) (omega arith)

  pub piece_opened : PieceOpened x r ss ms (to_open n)
  piece_opened =
      record {
        page = λ s. opened_lines x s (note_refusals x ++ room_for r x) n passes c;
        ready = λ s es em. record {
          passes = λ _. passes;
          parts = λ _. c;
          starts = λ _. rw es (written_again (starts x) ss₀ ss (rw both at b.starts));
          marks = λ _. rw em (written_again (marks x) ms₀ ms (rw both at b.marks));
          fits = λ t e. absurd (none-some t e);
        };
      }
