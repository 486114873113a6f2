-- Engraving, then proof-reading what was written: a refused engraving has its number, any other is handed over whole.
use Prim.Native.Nat.{ℕ, ◌*◌, ◌≤◌}
use mathlib.Core.Bool.{Bool, true, false, false≢true}
use mathlib.Core.List.{List, [], ◌∷◌, ◌++◌}
use mathlib.Core.Path.{◌≡◌, refl, sym, ap, ◌∙◌}
use native.Mathlib.Omega.{arith}
use borrow.Author.Tests.{ltb-false, le-ltb}
use lib.ListN.{length, take, drop, replicate, length-replicate}
use lib.Seq.{take_at}
use Rattle.rules.specs.Lists.{written}
use Rattle.rules.specs.Piece.{Piece}
use Rattle.rules.specs.Refusals.{Result, refused, given, Refusal, unless, answers, writes, part_refusals, short_work, short_output, uneven_part}
use Rattle.rules.specs.Refusals.{as_it_is, work_needed}
use Rattle.rules.specs.Calls.{StaffSize, part_size, part_arrays, part_leftovers, part_lists, part_even, EngravedLists, engrave_call}
use Rattle.rules.specs.Calls.{EngraveCalled, proof_read_call, ProofReadCalled}
use Rattle.laws.specs.Admitted.{Passes}
use Rattle.laws.proofs.Lists.{All-left, All-right}
use Rattle.laws.proofs.Refusals.{passes_append, passes_given, given_first, answers_refused, answers_given}
use Rattle.staffs.proofs.PartSizes.{counts_used, heads_used, keys_used, leftovers_used}
use Rattle.playback.proofs.Demand.{engraved_yes}
use Rattle.std.specs.Prelude as std
use Rattle.std.specs.Result.{result_ok}
use Rattle.basics.specs.declared.Refusal as declared
use Rattle.proofread.specs.Answers.{read_answer}
use Rattle.agreement.specs.Together.{verdict_of, Together}
use Rattle.agreement.specs.Demand.{used, used_leftovers}

-- ---- refused or given

is_given : {A : Type 0} → Result A → Bool
is_given (refused n) = false
is_given (given a) = true

-- what is answered of a refused call is its number, whatever else would be told
refused_both : {A B C : Type 0} (f : A → B) (g : A → C) (r : Result A) (n : ℕ) → refused n ≡ answers f r → refused n ≡ answers g r
refused_both f g r n h = ap (answers g) (answers_refused f r n h)

-- a call that answers a value refused nothing
given_passes : {A B : Type 0} (f : A → B) (a : A) (rs : List Refusal) (s : B) → given s ≡ answers f (unless rs a) → Passes rs × (s ≡ f a)
given_passes f a rs s h =
    let (b, e, k) = answers_given f (unless rs a) s h in
    let (p, same) = given_first a rs b e in
    (p, k ∙ ap f same)

-- with 9 alone left to ask, a refusal is number 9
only_nine : (even : Bool) {n : ℕ} → refused n ≡ unless (uneven_part even ∷ []) true → refused 9 ≡ unless (uneven_part even ∷ []) true
unfolding unless is_given
only_nine true h = absurd (false≢true (ap is_given h))
only_nine false h = refl

-- ---- with 9 alone left to ask

module _ (x : Piece) (k : ℕ) where
  -- 9 alone is left of the proof-reader's numbers where the others let the part pass
  nine_left : (work : ℕ) → Passes (part_refusals x k) → work_needed x ≤ work
      → proof_read_call x k (part_arrays x k) work ≡ unless (uneven_part (part_even x k) ∷ []) true
  nine_left work part enough =
      engraved_yes x k work
      ∙ passes_append (part_refusals x k) _ true part
      ∙ passes_append (short_work x work ∷ []) _ true (le-ltb work (work_needed x) enough, tt)

-- the front of an output that was written
front : (xs l l₁ : List ℕ) (n : ℕ) → n ≡ length xs → l₁ ≡ written xs l → take n l₁ ≡ xs
front xs l l₁ n e w = rw w (take_at xs (drop (length xs) l) n (sym e))

-- ---- a run of engraving

module _ (x : Piece) (k : ℕ) {counts₀ heads₀ keys₀ leftovers₀ work₀ counts₁ heads₁ keys₁ leftovers₁ work₁ : List ℕ} {answer : Result StaffSize}
    (engraved : EngraveCalled as_it_is (part_size x k)
    (engrave_call x k (length counts₀) (length heads₀) (length keys₀) (length leftovers₀) (length work₀))
    counts₀ heads₀ keys₀ leftovers₀ work₀ answer counts₁ heads₁ keys₁ leftovers₁ work₁)
  where
    -- the number of an engraving that is refused
    pub engraving_refused : (n : ℕ) → refused n ≡ answer
        → Together x k counts₀ heads₀ keys₀ leftovers₀ work₀ (refused n) counts₁ heads₁ keys₁ leftovers₁ work₁
    engraving_refused n h =
        record {
          answered =
              refused_both _ _ (engrave_call x k (length counts₀) (length heads₀) (length keys₀) (length leftovers₀) (length work₀)) n
              (h ∙ engraved.answered);
          counts = engraved.counts;
          heads = engraved.heads;
          keys = engraved.keys;
          leftovers = engraved.leftovers;
          work = engraved.work;
        }

    module _ (s : StaffSize) (h : given s ≡ answer) where
      abbrev short : List Refusal
      short =
          short_work x (length work₀)
          ∷ short_output (length counts₀) (part_arrays x k).counts
          ∷ short_output (length heads₀) (part_arrays x k).heads
          ∷ short_output (length keys₀) (part_arrays x k).keys
          ∷ short_output (length leftovers₀) (part_leftovers x k)
          ∷ []

      passed : Passes (part_refusals x k ++ short) × (s ≡ part_size x k)
      passed = given_passes (λ (s : EngravedLists). part_size x k) (part_lists x k) (part_refusals x k ++ short) s (h ∙ engraved.answered)

      pub part_passes : Passes (part_refusals x k)
      part_passes = All-left _ (part_refusals x k) short passed.0

      rooms : Passes short
      rooms = All-right _ (part_refusals x k) short passed.0

      engraves : engrave_call x k (length counts₀) (length heads₀) (length keys₀) (length leftovers₀) (length work₀) ≡ given (part_lists x k)
      engraves = passes_given (part_refusals x k ++ short) (part_lists x k) passed.0

      pub counts_fit : 4 * s.bars ≤ length counts₀
      counts_fit = rw passed.1 (omega (arith, counts_used x k, ltb-false (length counts₀) (length (part_arrays x k).counts) rooms.1.0))

      pub heads_fit : s.items ≤ length heads₀
      heads_fit = rw passed.1 (omega (arith, heads_used x k, ltb-false (length heads₀) (length (part_arrays x k).heads) rooms.1.1.0))

      pub keys_fit : 2 * s.items ≤ length keys₀
      keys_fit = rw passed.1 (omega (arith, keys_used x k, ltb-false (length keys₀) (length (part_arrays x k).keys) rooms.1.1.1.0))

      -- what is handed over is the part's staff
      pub handed : used s (record { counts = counts₁; heads = heads₁; keys = keys₁ }) ≡ part_arrays x k
      handed =
          let r = engraves in
          rw passed.1
          (λ i.
          record {
            counts =
                front (part_arrays x k).counts counts₀ counts₁ _ (counts_used x k)
                (engraved.counts ∙ ap (λ o. written (writes (λ (s : EngravedLists). s.staff.counts) o) counts₀) r) i;
            heads =
                front (part_arrays x k).heads heads₀ heads₁ _ (heads_used x k)
                (engraved.heads ∙ ap (λ o. written (writes (λ (s : EngravedLists). s.staff.heads) o) heads₀) r) i;
            keys =
                front (part_arrays x k).keys keys₀ keys₁ _ (keys_used x k)
                (engraved.keys ∙ ap (λ o. written (writes (λ (s : EngravedLists). s.staff.keys) o) keys₀) r) i;
          })

      -- and of the leftovers, the part's
      pub handed_leftovers : used_leftovers s leftovers₁ ≡ part_leftovers x k
      handed_leftovers =
          rw passed.1
          (front (part_leftovers x k) leftovers₀ leftovers₁ _ (leftovers_used x k)
          (engraved.leftovers ∙ ap (λ o. written (writes (λ (s : EngravedLists). s.leftovers) o) leftovers₀) engraves))

      -- the proof-reader's answer to it, with a work area that has room
      pub read_is : {r : Result Bool} {area₀ area₁ : List ℕ} → work_needed x ≤ length area₀
          → ProofReadCalled as_it_is (proof_read_call x k (used s (record { counts = counts₁; heads = heads₁; keys = keys₁ })) (length area₀)) area₀ r area₁
          → r ≡ unless (uneven_part (part_even x k) ∷ []) true
      read_is {area₀ = area₀} enough read =
          read.answered ∙ ap (λ a. proof_read_call x k a (length area₀)) handed ∙ nine_left x k (length area₀) part_passes enough

      -- ---- and then proof-reading in the same work area

      same_work : length work₁ ≡ length work₀
      same_work = ap (length {A = ℕ}) engraved.work ∙ length-replicate (length work₀) 0

      module _ {r : Result Bool} {work₂ : List ℕ}
          (read : ProofReadCalled as_it_is (proof_read_call x k (used s (record { counts = counts₁; heads = heads₁; keys = keys₁ })) (length work₁)) work₁ r work₂)
        where
          answered : r ≡ unless (uneven_part (part_even x k) ∷ []) true
          answered = read_is (omega (arith, same_work, ltb-false (length work₀) (work_needed x) rooms.0)) read

          told : (v : Result Bool) → v ≡ unless (uneven_part (part_even x k) ∷ []) true
              → Together x k counts₀ heads₀ keys₀ leftovers₀ work₀ (given (record { size = s; verdict = v })) counts₁ heads₁ keys₁ leftovers₁ work₂
          told v e =
              record {
                answered = rw engraves (λ i. given (record { size = passed.1 i; verdict = e i }));
                counts = engraved.counts;
                heads = engraved.heads;
                keys = engraved.keys;
                leftovers = engraved.leftovers;
                work = read.work ∙ ap (λ n. replicate n 0) same_work;
              }

          pub read_uneven : {n : ℕ} → refused n ≡ r
              → Together x k counts₀ heads₀ keys₀ leftovers₀ work₀ (given (record { size = s; verdict = refused 9 }))
              counts₁ heads₁ keys₁ leftovers₁ work₂
          read_uneven e = told (refused 9) (only_nine (part_even x k) (e ∙ answered))

          pub read_told : {b : Bool} → given b ≡ r
              → Together x k counts₀ heads₀ keys₀ leftovers₀ work₀ (given (record { size = s; verdict = given b }))
              counts₁ heads₁ keys₁ leftovers₁ work₂
          read_told {b} e = told (given b) (e ∙ answered)

      -- a refusal to read is dropped, since it can be 9 alone
      pub read_both : (r : std.Result Bool declared.Refusal) {work₂ : List ℕ}
          → ProofReadCalled as_it_is (proof_read_call x k (used s (record { counts = counts₁; heads = heads₁; keys = keys₁ })) (length work₁)) work₁ (read_answer r)
          work₂
          → Together x k counts₀ heads₀ keys₀ leftovers₀ work₀ (given (record { size = s; verdict = verdict_of (result_ok r) })) counts₁ heads₁ keys₁ leftovers₁
          work₂
      read_both (std.Err e) read = read_uneven read refl
      read_both (std.Ok b) read = read_told read refl
