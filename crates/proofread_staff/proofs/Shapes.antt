-- The test of malformed arrays, and the smallest written value, step by step.
use Prim.Native.Nat.{ℕ, ◌+◌, ◌-◌, ◌*◌, ◌/◌, ◌%◌, ◌≤◌, ◌<◌}
use mathlib.Core.Bool.{Bool, true, false, true≢false}
use mathlib.Core.List.{List}
use mathlib.Core.Path.{◌≡◌, sym, ap, ◌∙◌}
use native.Mathlib.Numerals.{add-one}
use native.Mathlib.Omega.{arith}
use borrow.Author.Tests.{lt-ltb, le-ltb, eq-eqb, ne_eqb}
use lib.ListN.{length, get_or, take, drop, drop_of_length-le}
use lib.Seq.{drop-cons, take_all}
use Rattle.rules.specs.Lists.{every, sum}
use Rattle.laws.specs.Ladder.{halved}
use Rattle.laws.proofs.Values.{halved_step}
use Rattle.proofread_staff.specs.Staffs.{heads_mean?, Shapes}

-- ---- heads

module _ (hs : List ℕ) (i : ℕ) where
  pub mean_fails : {b : Bool} → i < length hs → 512 ≤ get_or hs i 0 → heads_mean? (drop i hs) ≡ b → false ≡ b
  unfolding every
  mean_fails h l left = sym (rw (drop-cons hs i 0 h, le-ltb (get_or hs i 0) 512 l)) ∙ left

  pub mean_goes : {b : Bool} → i < length hs → get_or hs i 0 < 512 → heads_mean? (drop i hs) ≡ b → heads_mean? (drop (i + 1) hs) ≡ b
  unfolding every
  mean_goes h l left = rw add-one (sym (rw (drop-cons hs i 0 h, lt-ltb (get_or hs i 0) 512 l)) ∙ left)

  pub mean_end : {b : Bool} → length hs ≤ i → heads_mean? (drop i hs) ≡ b → true ≡ b
  unfolding every
  mean_end h left = sym (rw (drop_of_length-le hs h)) ∙ left

-- ---- the smallest value

pub smallest_step : (k u : ℕ) {s : ℕ} → k < 4 → u % 2 ≡ 0 → halved (4 - k) u ≡ s → halved (4 - (k + 1)) (u / 2) ≡ s
smallest_step k u h e left =
    let q : 4 - k - 1 ≡ 4 - (k + 1) = omega arith in
    sym (halved_step (4 - k) u (omega arith) e ∙ ap (λ (j : ℕ). halved j (u / 2)) q) ∙ left

-- ---- the arrays

all_counts : (counts : List ℕ) {total : ℕ} → total ≡ sum (take (length counts) (drop 0 counts)) → total ≡ sum counts
all_counts counts t = t ∙ ap sum (take_all (length counts) counts (omega arith))

module _ {bars : ℕ} {counts heads keys : List ℕ} where
  pub shape_counts : (length counts ≡ 4 * bars → ⊥) → Shapes bars counts heads keys false
  shape_counts h = record { is = rw (ne_eqb (length counts) (4 * bars) h); few = λ y. absurd (true≢false (sym y)); small = λ y. absurd (true≢false (sym y)) }

  module _ (few : bars ≤ 10000) (h : length counts ≡ 4 * bars) {total : ℕ} (t : total ≡ sum (take (length counts) (drop 0 counts)))
      (bound : total ≤ length counts * 4294967295) where
    pub shape_heads : (length heads ≡ total → ⊥) → Shapes bars counts heads keys false
    shape_heads o =
        record {
          is = rw (eq-eqb (length counts) (4 * bars) h, ne_eqb (length heads) (sum counts) (λ e. o (e ∙ sym (all_counts counts t))));
          few = λ y. absurd (true≢false (sym y));
          small = λ y. absurd (true≢false (sym y));
        }

    pub shape_keys : length heads ≡ total → (length keys ≡ 2 * total → ⊥) → Shapes bars counts heads keys false
    shape_keys q o =
        record {
          is =
              rw (
                eq-eqb (length counts) (4 * bars) h,
                eq-eqb (length heads) (sum counts) (q ∙ all_counts counts t),
                ne_eqb (length keys) (2 * sum counts) (λ e. o (e ∙ ap (λ (x : ℕ). 2 * x) (sym (all_counts counts t)))),
              );
          few = λ y. absurd (true≢false (sym y));
          small = λ y. absurd (true≢false (sym y));
        }

    pub shape_bits : length heads ≡ total → length keys ≡ 2 * total → {r : Bool} → r ≡ heads_mean? heads → Shapes bars counts heads keys r
    shape_bits q o m =
        record {
          is =
              m
              ∙ sym
              (rw (
                eq-eqb (length counts) (4 * bars) h,
                eq-eqb (length heads) (sum counts) (q ∙ all_counts counts t),
                eq-eqb (length keys) (2 * sum counts) (o ∙ ap (λ (x : ℕ). 2 * x) (all_counts counts t)),
              ));
          few = λ y. omega arith;
          small = λ y. omega arith;
        }
