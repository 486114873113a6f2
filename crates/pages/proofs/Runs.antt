-- Lines put one after another from the front of a page: the lines so far, one more, and the two ends of a run.
use Prim.Native.Nat.{ℕ, ◌+◌, ◌-◌, ◌≤◌, ◌<◌}
use mathlib.Core.List.{List, [], ◌∷◌, ◌++◌, flatten, append_assoc, append-nil}
use mathlib.Core.Path.{◌≡◌, refl, ap, sym, subst, ◌∙◌}
use Rattle.std.proofs.lemmas.Option.{none-some, same_Some}
use native.Mathlib.Omega.{arith}
use lib.ListN.{length, take, length-take}
use Rattle.pages.specs.Page.{Line}
use Rattle.std.specs.Prelude.{Some, None}
use Rattle.pages.specs.Spots.{Sheet, ahead, Fits, LinePut, PutsLines}
use Rattle.pages.specs.declared.Spot.{Spot}
use Rattle.pages.specs.declared.Put.{Put}

-- the lines so far, the place and the spot behind them
pub record Run (s : Sheet) (t : Spot) (n at : ℕ) (here : Spot) (out : List ℕ) : Type 0 where
  pub lines : List Line
  pub ahead_of : ahead s t ≡ lines ++ ahead s here
  pub page : (ls : List Line) → take at out ++ flatten ls ≡ flatten (lines ++ ls)
  pub within : at ≤ length out
  pub room : length out ≡ n
  pub fits : Fits s here

pub run_none : {s : Sheet} {t : Spot} (out : List ℕ) → Fits s t → Run s t (length out) 0 t out
run_none out f = record { lines = []; ahead_of = refl; page = λ ls. refl; within = omega arith; room = refl; fits = f }

module _ {s : Sheet} {t here : Spot} {n at : ℕ} {out : List ℕ} (g : Run s t n at here out) where
  pub run_more : {q : Put} {out' : List ℕ} → LinePut s here at out q out'
      → length out' ≡ length out → at + 4096 ≤ length out → Run s t n q.at q.spot out'
  unfolding flatten
  run_more {q} w k room =
      record {
        lines = g.lines ++ (w.line ∷ []);
        ahead_of = g.ahead_of ∙ ap (λ l. g.lines ++ l) w.went ∙ sym (append_assoc g.lines (w.line ∷ []) (ahead s q.spot));
        page = λ ls. rw (w.adds.text, append_assoc (take at out) w.line (flatten ls), g.page (w.line ∷ ls), append_assoc);
        within = omega (arith, w.adds.grown);
        room = k ∙ g.room;
        fits = w.fits;
      }

  pub run_shorter : {q : Put} {out' : List ℕ} → LinePut s here at out q out'
      → length (ahead s q.spot) < length (ahead s here)
  run_shorter w = rw w.went (omega arith)

  run_page : take at out ≡ flatten g.lines
  unfolding flatten
  run_page = sym (append-nil _) ∙ g.page [] ∙ ap flatten (append-nil g.lines)

  -- nothing is left
  pub run_ended : {out' : List ℕ} → ahead s here ≡ [] → out' ≡ out → PutsLines s t (record { at = at; rest = None }) out'
  run_ended none same =
      record {
        lines = g.lines;
        ahead_of = g.ahead_of ∙ ap (λ l. g.lines ++ l) none;
        page = rw same run_page;
        within = rw same g.within;
        fits = λ h e. absurd (none-some h e);
        some = λ h e. absurd (none-some h e);
      }

  -- no room is left
  pub run_full : 4096 ≤ n → length out - at < 4096 → PutsLines s t (record { at = at; rest = Some here }) out
  unfolding flatten
  run_full h l =
      record {
        lines = g.lines;
        ahead_of = g.ahead_of;
        page = run_page;
        within = g.within;
        fits = λ v e. subst (λ (u : Spot). Fits s u) (same_Some here v e) g.fits;
        some =
            λ v e none.
            let z : length (take at out) ≡ 0 = ap length (run_page ∙ ap flatten none) in
            omega (arith, length-take at out, g.room, g.within);
      }
