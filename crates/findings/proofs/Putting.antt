-- Diagnostics put one after another, and what the outputs hold where they have room for all.
use Prim.Native.Nat.{ℕ, suc, ◌+◌, ◌≤◌}
use mathlib.Core.List.{List, [], ◌∷◌, ◌++◌, map, map-append}
use mathlib.Core.Path.{◌≡◌, refl, sym, ap, ◌∙◌}
use native.Mathlib.Nat.{add-zero, zero-add}
use native.Mathlib.Omega.{arith}
use lib.ListN.{length, set, length-append, length-map}
use lib.Seq.{sets, length-sets, sets-eq}
use Rattle.rules.specs.Lists.{written}
use Rattle.rules.specs.Diagnostics.{Diagnostic, place_of, detail_of}
use Rattle.findings.specs.Found.{Found, FoundIn}

sets_append : (xs ys l : List ℕ) (n m : ℕ) → m ≡ n + length xs → sets (sets l n xs) m ys ≡ sets l n (xs ++ ys)
sets_append [] ys l n m e = ap (λ (k : ℕ). sets l k ys) (e ∙ add-zero n)
sets_append (x ∷ xs) ys l n m e = sets_append xs ys (set l n x) (suc n) m (omega arith)

pub sets_written : (xs l : List ℕ) → length xs ≤ length l → sets l 0 xs ≡ written xs l
sets_written xs l h = rw zero-add at (sets-eq xs l 0 (omega arith))

-- one output: ds were put by f from n on, and then es
module _ (f : Diagnostic → ℕ) (ds es : List Diagnostic) (l : List ℕ) (n m : ℕ) (e : m ≡ n + length ds) where
  put_append : sets (sets l n (map f ds)) m (map f es) ≡ sets l n (map f (ds ++ es))
  put_append = sets_append (map f ds) (map f es) l n m (rw length-map e) ∙ ap (sets l n) (sym (map-append f ds es))

pub found_none : (at : ℕ) (places details : List ℕ) → Found [] at places details at places details
found_none at places details = record { count = omega arith; places = refl; details = refl }

pub found_append : {ds es : List Diagnostic} {at m r : ℕ} {p₀ d₀ p d p₁ d₁ : List ℕ} → Found ds at p₀ d₀ m p d → Found es m p d r p₁ d₁
    → Found (ds ++ es) at p₀ d₀ r p₁ d₁
found_append {ds} {es} {at} {m} {r} {p₀} {d₀} a b =
    record {
      count = simp length-append (omega (arith, a.count, b.count));
      places = b.places ∙ ap (λ (l : List ℕ). sets l m (map place_of es)) a.places ∙ put_append place_of ds es p₀ at m a.count;
      details = b.details ∙ ap (λ (l : List ℕ). sets l m (map detail_of es)) a.details ∙ put_append detail_of ds es d₀ at m a.count;
    }

pub found_as : {ds es : List Diagnostic} {at r : ℕ} {p₀ d₀ p d : List ℕ} → ds ≡ es → Found ds at p₀ d₀ r p d → Found es at p₀ d₀ r p d
found_as e a = rw e at a

module _ {ds : List Diagnostic} {at r : ℕ} {p₀ d₀ p d : List ℕ} (a : Found ds at p₀ d₀ r p d) where
  pub places_kept : length p ≡ length p₀
  places_kept = ap length a.places ∙ length-sets p₀ at (map place_of ds)

  pub details_kept : length d ≡ length d₀
  details_kept = ap length a.details ∙ length-sets d₀ at (map detail_of ds)

-- all are put
module _ {ds : List Diagnostic} {r : ℕ} {p₀ d₀ p d : List ℕ} (a : Found ds 0 p₀ d₀ r p d) where
  pub places_written : length ds ≤ length p₀ → p ≡ written (map place_of ds) p₀
  places_written h = a.places ∙ sets_written (map place_of ds) p₀ (rw length-map h)

  pub details_written : length ds ≤ length d₀ → d ≡ written (map detail_of ds) d₀
  details_written h = a.details ∙ sets_written (map detail_of ds) d₀ (rw length-map h)

pub found_in_append : {ds es : List Diagnostic} {j k at m r : ℕ} {p₀ d₀ p d p₁ d₁ : List ℕ} → FoundIn ds j at p₀ d₀ m p d → FoundIn es k m p d r p₁ d₁
    → FoundIn (ds ++ es) (j + k) at p₀ d₀ r p₁ d₁
found_in_append a b = record { found = found_append a.found b.found; few = omega (arith, a.few, b.few) }
