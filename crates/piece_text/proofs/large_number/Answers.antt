-- `piece_text::large_number` is the first number of a piece with more events than the arrays hold.
use Prim.Native.Nat.{ℕ, ◌+◌, ◌^◌, ◌≤◌, ◌<◌}
use mathlib.Core.Bool.{true}
use mathlib.Core.List.{List}
use mathlib.Core.Logic.{⊎_elim}
use mathlib.Core.Path.{◌≡◌, ap, ◌∙◌, sym}
use native.Mathlib.Omega.{arith}
use lib.ListN.{length, get_or, drop}
use Rattle.rules.specs.Lists.{sum}
use Rattle.rules.specs.Piece.{piece, sizes_agree}
use Rattle.laws.proofs.Loops.{take_rest}
use Rattle.admission.proofs.Numbers.{agrees, disagrees, number_one, number_two, number_three}
use Rattle.piece_text.specs.Held.{most_counted}
use Rattle.piece_text.proofs.Large.{same_count, other_count, small_sum}
use Rattle.piece_text.proofs.large_number.Goals as goal

-- ---- the event counts of sizes that agree with their length
module _ (x : List ℕ) (words : (i : ℕ) → get_or x i 0 < 2 ^ 32) (many : length x ≡ 2 + get_or x 1 0) (few : get_or x 1 0 ≤ 65535) where
  small : sum (drop 2 x) < most_counted
  small = small_sum x words (omega arith)

  agree : get_or x 0 0 ≤ 65535 → (ds ws : List ℕ) → length ds ≡ sum (drop 2 x) → length ws ≡ sum (drop 2 x) → sizes_agree (piece x ds ws) ≡ true
  agree division ds ws d w = agrees (piece x ds ws) (record { sizes = many; deltas = d; words = w; tracks = few; division = division })

-- ---- the numbers
pub returns-then-sizes-lt2 : goal.returns-then-sizes-lt2
returns-then-sizes-lt2 c =
    let x = c.args.sizes.now in
    record {
      result_nonzero = omega arith;
      by_index = λ ds ws kd kw. sym (number_one (piece x ds ws) (disagrees (piece x ds ws) (λ a. omega (arith, a.sizes))));
    }

pub returns-then-sizes-gt-LARGEST_SIZE : goal.returns-then-sizes-gt-LARGEST_SIZE
returns-then-sizes-gt-LARGEST_SIZE c =
    let x = c.args.sizes.now in
    record {
      result_nonzero = omega arith;
      by_index = λ ds ws kd kw. sym (number_one (piece x ds ws) (disagrees (piece x ds ws) (λ a. omega (arith, a.tracks))));
    }

pub returns-then-sizes-tracks : goal.returns-then-sizes-tracks
returns-then-sizes-tracks c =
    let x = c.args.sizes.now in record {
      result_nonzero = omega arith;
      by_index = λ ds ws kd kw.
          sym (number_one (piece x ds ws) (disagrees (piece x ds ws) (λ a. omega (arith, a.sizes))));
    }

pub returns-then-sizes-gt-LARGEST_SIZE-2 : goal.returns-then-sizes-gt-LARGEST_SIZE-2
returns-then-sizes-gt-LARGEST_SIZE-2 c =
    let x = c.args.sizes.now in
    record {
      result_nonzero = omega arith;
      by_index = λ ds ws kd kw. sym (number_one (piece x ds ws) (disagrees (piece x ds ws) (λ a. omega (arith, a.division))));
    }

pub returns-then-deltas-events : goal.returns-then-deltas-events
returns-then-deltas-events c =
    let x = c.args.sizes.now in
    let words : (i : ℕ) → get_or x i 0 < 2 ^ 32 = λ i. omega (arith, c.type_inv.sizes i) in
    let many : length x ≡ 2 + get_or x 1 0 = omega arith in
    let few : get_or x 1 0 ≤ 65535 = omega (arith, c.if-sizes-gt-LARGEST_SIZE.false) in
    let summed : c.total-events.result ≡ sum (drop 2 x) = c.total-events.ensures ∙ ap sum (take_rest 2 x) in
    let other : c.args.deltas ≡ sum (drop 2 x) → ⊥ =
    λ e. c.if-deltas-events.true (e ∙ sym summed) in record {
      result_nonzero = omega arith;
      by_index = λ ds ws kd kw.
          sym (number_one (piece x ds ws) (disagrees (piece x ds ws) (λ a. other_count kd _ (small x words many few) other a.deltas)));
    }

pub returns-then-words-events : goal.returns-then-words-events
returns-then-words-events c =
    let x = c.args.sizes.now in
    let words : (i : ℕ) → get_or x i 0 < 2 ^ 32 = λ i. omega (arith, c.type_inv.sizes i) in
    let many : length x ≡ 2 + get_or x 1 0 = omega arith in
    let few : get_or x 1 0 ≤ 65535 = omega (arith, c.if-sizes-gt-LARGEST_SIZE.false) in
    let summed : c.total-events.result ≡ sum (drop 2 x) = c.total-events.ensures ∙ ap sum (take_rest 2 x) in
    let other : c.args.words ≡ sum (drop 2 x) → ⊥ =
    λ e. c.if-words-events.true (e ∙ sym summed) in record {
      result_nonzero = omega arith;
      by_index = λ ds ws kd kw.
          sym (number_one (piece x ds ws) (disagrees (piece x ds ws) (λ a. other_count kw _ (small x words many few) other a.words)));
    }

pub returns-then-sizes-eq0 : goal.returns-then-sizes-eq0
returns-then-sizes-eq0 c =
    let x = c.args.sizes.now in
    let words : (i : ℕ) → get_or x i 0 < 2 ^ 32 = λ i. omega (arith, c.type_inv.sizes i) in
    let many : length x ≡ 2 + get_or x 1 0 = omega arith in
    let few : get_or x 1 0 ≤ 65535 = omega (arith, c.if-sizes-gt-LARGEST_SIZE.false) in
    let summed : c.total-events.result ≡ sum (drop 2 x) = c.total-events.ensures ∙ ap sum (take_rest 2 x) in
    let division : get_or x 0 0 ≤ 65535 = omega (arith, c.if-sizes-gt-LARGEST_SIZE-2.false) in record {
      result_nonzero = omega arith;
      by_index = λ ds ws kd kw.
          let d = same_count kd _ (small x words many few) (omega (arith, summed, c.if-deltas-events.false)) in
          let w = same_count kw _ (small x words many few) (omega (arith, summed, c.if-words-events.false)) in
          sym (number_two (piece x ds ws) (agree x words many few division ds ws d w) c.if-sizes-eq0.true);
    }

pub returns : goal.returns
returns c =
    let x = c.args.sizes.now in
    let words : (i : ℕ) → get_or x i 0 < 2 ^ 32 = λ i. omega (arith, c.type_inv.sizes i) in
    let many : length x ≡ 2 + get_or x 1 0 = omega arith in
    let few : get_or x 1 0 ≤ 65535 = omega (arith, c.if-sizes-gt-LARGEST_SIZE.false) in
    let summed : c.total-events.result ≡ sum (drop 2 x) = c.total-events.ensures ∙ ap sum (take_rest 2 x) in
    let division : get_or x 0 0 ≤ 65535 = omega (arith, c.if-sizes-gt-LARGEST_SIZE-2.false) in record {
      result_nonzero = omega arith;
      by_index = λ ds ws kd kw.
          let d = same_count kd _ (small x words many few) (omega (arith, summed, c.if-deltas-events.false)) in
          let w = same_count kw _ (small x words many few) (omega (arith, summed, c.if-words-events.false)) in
          sym (number_three (piece x ds ws) (agree x words many few division ds ws d w) c.if-sizes-eq0.false
          (⊎_elim
          (λ h. omega (arith, h, d, summed, c.if-deltas-events.false))
          (λ h. omega (arith, h, d, summed, c.if-words-events.false))
          c.requires));
    }
