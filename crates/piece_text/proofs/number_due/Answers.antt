-- `piece_text::number_due` answers 0 where the arrays hold the piece whole, else its number: 1, 2 or 3.
use Rattle.piece_text.proofs.Large.{whole_piece}
use Prim.Native.Nat.{◌≤◌}
use mathlib.Core.Path.{refl}
use Rattle.rules.specs.Refusals.{first_number, piece_refusals}
use mathlib.Core.Path.{◌∙◌}
use Rattle.piece_text.proofs.Large.{held_whole, too_many_sizes}
use Rattle.rules.specs.Piece.{piece}
use lib.Seq.{length-take-le}
use lib.ListN.{length}
use native.Mathlib.Omega.{arith}
use mathlib.Core.Path.{sym, ap}
use mathlib.Core.Logic.{inl, inr}
use Rattle.piece_text.proofs.number_due.Goals as goal

pub returns-then-sizes-n : goal.returns-then-sizes-n
returns-then-sizes-n c = record {
  fits = λ z. absurd (omega (arith, z));
  due = λ x h. record {
    whole = λ z. absurd (omega (arith, z));
    number = λ _. sym (too_many_sizes x (omega (arith, c.if-sizes-n.true, h.sizes.counted.within)));
  };
}

pub slice_bounds-large_number-end : goal.slice_bounds-large_number-end
slice_bounds-large_number-end c =
    sym (length-take-le c.args.counts.sizes
    c.args.sizes.now (omega arith))

pub large_number-requires : goal.large_number-requires
large_number-requires c = inl (omega (arith, c.if-deltas-counts.true))

pub returns-then-deltas-counts : goal.returns-then-deltas-counts
returns-then-deltas-counts c =
    let a = c.args in record {
      fits = λ z. absurd (omega (arith, z, c.large_number.ensures.result_nonzero));
      due = λ x h. record {
        whole = λ z. absurd (omega (arith, z, c.large_number.ensures.result_nonzero));
        number = λ _. c.large_number.ensures.by_index x.deltas x.words h.deltas.counted h.words.counted
            ∙ ap (λ ss. first_number (piece_refusals (piece ss x.deltas x.words)))
            (sym (held_whole x.sizes _ a.sizes.now h.sizes (omega (arith, c.if-sizes-n.false)) (omega arith)));
      };
    }

pub slice_bounds-large_number-end-then-words-counts : goal.slice_bounds-large_number-end-then-words-counts
slice_bounds-large_number-end-then-words-counts c =
    sym (length-take-le c.args.counts.sizes
    c.args.sizes.now (omega arith))

pub large_number-requires-then-words-counts : goal.large_number-requires-then-words-counts
large_number-requires-then-words-counts c = inr (omega (arith, c.if-words-counts.true))

pub returns-then-words-counts : goal.returns-then-words-counts
returns-then-words-counts c =
    let a = c.args in record {
      fits = λ z. absurd (omega (arith, z, c.large_number-then-words-counts.ensures.result_nonzero));
      due = λ x h. record {
        whole = λ z. absurd (omega (arith, z, c.large_number-then-words-counts.ensures.result_nonzero));
        number = λ _. c.large_number-then-words-counts.ensures.by_index x.deltas x.words h.deltas.counted h.words.counted
            ∙ ap (λ ss. first_number (piece_refusals (piece ss x.deltas x.words)))
            (sym (held_whole x.sizes _ a.sizes.now h.sizes (omega (arith, c.if-sizes-n.false))
            (omega arith)));
      };
    }

pub returns : goal.returns
returns c =
    let a = c.args in
    let fs : a.counts.sizes ≤ length a.sizes.now = omega (arith, c.if-sizes-n.false) in
    let fd : a.counts.deltas ≤ length a.deltas.now = omega (arith, c.if-deltas-counts.false) in
    let fw : a.counts.words ≤ length a.words.now = omega (arith, c.if-words-counts.false) in record {
      fits = λ z. record { sizes = fs; deltas = fd; words = fw };
      due = λ x h. record {
        whole = λ z.
            whole_piece x _ _ _ (held_whole x.sizes _ a.sizes.now h.sizes fs (omega arith))
            (held_whole x.deltas _ a.deltas.now h.deltas fd (omega arith)) (held_whole x.words _ a.words.now h.words fw (omega arith));
        number = λ d. absurd (d refl);
      };
    }
