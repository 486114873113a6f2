-- A turn: the lines that it puts, and those that are ahead behind it.
use Prim.Native.Nat.{ℕ, ◌+◌, ◌-◌, ◌<◌, ◌≤◌}
use mathlib.Core.Bool.{Bool, true, false, false≢true, true≢false}
use mathlib.Core.List.{List, [], ◌∷◌, ◌++◌, flatten, append_assoc, append-nil}
use mathlib.Core.Logic.{◌⊎◌, inl, inr}
use mathlib.Core.Path.{◌≡◌, refl, sym, ap, subst, ◌∙◌}
use Rattle.std.specs.Prelude.{Option, None, Some}
use Rattle.std.specs.Option.{is_some}
use Rattle.std.proofs.lemmas.Option.{none-some, same_Some}
use native.Mathlib.Omega.{arith}
use borrow.Author.Tests.{eq-eqb, ne_eqb, le-ltb}
use lib.ListN.{length, length-append}
use Rattle.rules.specs.Lists.{flag}
use Rattle.rules.specs.Piece.{Piece}
use Rattle.bar_lines.specs.Lines.{refused_line}
use Rattle.laws.proofs.Order.{by_eq}
use Rattle.line_text.specs.Text.{Adds}
use Rattle.pages.specs.Page.{Line, parts_lines, Room}
use Rattle.pages.specs.Spots.{Sheet, ahead, ahead_on, PutsLines}
use Rattle.pages.specs.declared.Lines.{Lines}
use Rattle.pages.specs.declared.Spot.{Spot}
use Rattle.page_openings.specs.Places.{lines_at, goes_on, turned_back, behind_put, Ready, PartOpened, LinesPut, weight}
use Rattle.page_openings.specs.declared.Place.{Place}
use Rattle.page_openings.specs.declared.Turn.{Turn}
use Rattle.page_openings.proofs.PieceOpened.{refused_ready}

-- ---- what is there or is not

module _ {A : Type 0} where
  pub by_option : (o : Option A) → (o ≡ None) ⊎ ((a : A) × (o ≡ Some a))
  by_option None = inl refl
  by_option (Some a) = inr (a, refl)

  pub none_there : (o : Option A) → is_some o ≡ false → o ≡ None
  none_there None e = refl
  none_there (Some a) e = absurd (true≢false e)

  pub one_there : (o : Option A) → is_some o ≡ true → o ≡ None → ⊥
  one_there None e z = absurd (false≢true e)
  one_there (Some a) e z = none-some a (sym z)

module _ (x : Piece) (r : Room) where
  -- a place stays as it is: a refusal's line is ahead, a part is open already, or none is left
  pub stays_refused : (s : Sheet) (t : Place) → Ready x r s t → (t.number ≡ 0 → ⊥) → PartOpened x r s t s t
  stays_refused s t ready n =
      record {
        lines = refl;
        ready = ready;
        number = refl;
        opened = λ _ z. absurd (n z);
        titled = λ c v o _. none-some v (sym c ∙ o);
      }

  pub stays_open : (s : Sheet) (t : Place) → Ready x r s t → is_some t.spot ≡ true → PartOpened x r s t s t
  stays_open s t ready o =
      record {
        lines = refl;
        ready = ready;
        number = refl;
        opened = λ _ _. o;
        titled = λ c v e _. none-some v (sym c ∙ e);
      }

  pub stays_closed : (s : Sheet) (t : Place) → Ready x r s t → t.spot ≡ None → t.parts ≤ t.next → PartOpened x r s t s t
  stays_closed s t ready o l =
      record {
        lines = refl;
        ready = ready;
        number = refl;
        opened = λ g n. absurd (false≢true (sym (ended_place n) ∙ g));
        titled = λ c v e _. none-some v (sym c ∙ e);
      }
    where
      ended_place : t.number ≡ 0 → goes_on t ≡ false
      ended_place n = rw (eq-eqb t.number 0 n, o, le-ltb t.next t.parts l)

-- ---- lines put

some_line : (l : Line) (ls : List Line) → l ∷ ls ≡ [] → ⊥
some_line l ls e =
    let z : ◌≡◌ {A = ℕ} 0 1 = cc in
    omega arith

-- a refusal's line, and the end behind it
module _ (s : Sheet) (t : Place) (out₀ out : List ℕ) (a : Turn) (n : t.number ≡ 0 → ⊥) (room : 4096 ≤ length out)
    (adds : Adds 4096 (refused_line t.number) 0 out₀ a.at out) (e : a.place ≡ turned_back 0) where
  nothing_left : (x : Piece) → lines_at x s a.place ≡ []
  unfolding parts_lines
  nothing_left x = rw e

  refused_ahead : (x : Piece) → lines_at x s t ≡ refused_line t.number ∷ []
  refused_ahead x = rw (ne_eqb t.number 0 n)

  pub put_refusal : LinesPut s t out a
  unfolding flatten
  put_refusal =
      record {
        lines = refused_line t.number ∷ [];
        ahead_of = λ x. refused_ahead x ∙ ap (λ ls. refused_line t.number ∷ ls) (sym (nothing_left x));
        page = adds.text ∙ sym (append-nil (refused_line t.number));
        within = omega (arith, adds.grown);
        ready = λ x r _. rw e (refused_ready x r s 0);
        refusal = λ _. (λ z. some_line _ _ z, rw e);
        stops = λ z _ _ _. absurd (n z);
      }

-- no part is open, and no line is put
pub put_none : (s : Sheet) (t : Place) (out : List ℕ) → t.number ≡ 0 → t.spot ≡ None → LinesPut s t out (record { at = 0; place = t })
unfolding flatten
put_none s t out n o =
    record {
      lines = [];
      ahead_of = λ x. refl;
      page = refl;
      within = omega arith;
      ready = λ x r h. h;
      refusal = λ z. absurd (z n);
      stops = λ _ v c _. absurd (none-some v (sym o ∙ c));
    }

-- the lines of the part that is open
module _ (s : Sheet) (t : Place) (out : List ℕ) (p : Lines) (here : Spot) (n : t.number ≡ 0) (o : t.spot ≡ Some here) (puts : PutsLines s here p out) where
  put_ahead : (x : Piece) → lines_at x s t ≡ puts.lines ++ lines_at x s (behind_put t p).place
  put_ahead x =
      let rest : List Line = parts_lines x t.next (t.parts - t.next) in
      let first : lines_at x s t ≡ ahead s here ++ rest = rw (n, o) in
      first
      ∙ ap (λ ls. ls ++ rest) puts.ahead_of
      ∙ append_assoc puts.lines (ahead_on s p.rest) rest

  stops_here : puts.lines ≡ [] → (ahead s here ≡ []) × (p.rest ≡ None)
  stops_here z =
      elim (by_option p.rest) [
        | inl e ↦ (puts.ahead_of ∙ ap (λ ls. ls ++ ahead_on s p.rest) z ∙ rw e, e)
        | inr e ↦ absurd (puts.some e.0 e.1 z)
      ]

  pub put_part : LinesPut s t out (behind_put t p)
  put_part =
      record {
        lines = puts.lines;
        ahead_of = put_ahead;
        page = puts.page;
        within = puts.within;
        ready = λ x r h. record { passes = h.passes; parts = h.parts; starts = h.starts; marks = h.marks; fits = puts.fits };
        refusal = λ z. absurd (z n);
        stops = λ _ v e z. subst (λ (u : Spot). (ahead s u ≡ []) × (p.rest ≡ None)) (same_Some here v (sym o ∙ e)) (stops_here z);
      }

-- ---- each turn goes on

module _ (x : Piece) (r : Room) (s₀ s₁ : Sheet) (t₀ t₁ : Place) (out : List ℕ) (a : Turn) (opened : PartOpened x r s₀ t₀ s₁ t₁) (put : LinesPut s₁ t₁ out a)
    (goes : goes_on t₀ ≡ true) where
  count : length (lines_at x s₀ t₀) ≡ length put.lines + length (lines_at x s₁ a.place)
  count = ap length (sym opened.lines ∙ put.ahead_of x) ∙ length-append put.lines _

  by_length : (ls : List Line) → (ls ≡ []) ⊎ (0 < length ls)
  by_length [] = inl refl
  by_length (l ∷ ls) = inr (omega arith)

  flag_most : (b : Bool) → flag b ≤ 1
  flag_most true = omega arith
  flag_most false = omega arith

  turn_part : t₀.number ≡ 0 → put.lines ≡ [] → weight x s₁ a.place < weight x s₀ t₀
  turn_part n z =
      elim (by_option t₁.spot) [
        | inl e ↦ absurd (one_there t₁.spot (opened.opened goes n) e)
        | inr e ↦
            let stops = put.stops (opened.number ∙ n) e.0 e.1 z in
            elim (by_option t₀.spot) [
              | inl o ↦ absurd (opened.titled o e.0 e.1 stops.0)
              | inr o ↦ omega (arith, count, ap length z, ap (λ (v : Option Spot). flag (is_some v)) o.1, ap (λ (v : Option Spot). flag (is_some v)) stops.1)
            ]
      ]

  pub turn_goes : weight x s₁ a.place < weight x s₀ t₀
  turn_goes =
      elim (by_length put.lines) [
        | inr l ↦ omega (arith, l, count, flag_most (is_some a.place.spot))
        | inl z ↦
            elim (by_eq t₀.number 0) [
              | inl n ↦ turn_part n z
              | inr n ↦ absurd ((put.refusal (λ e. n (sym opened.number ∙ e))).0 z)
            ]
      ]
