-- What the code chooses from starts and ends is what the rules choose from the voices.
use Prim.Native.Nat.{ℕ, ◌≤◌, ◌<◌}
use mathlib.Core.Bool.{Bool, false, true≢false, false≢true}
use mathlib.Core.Logic.{inl, inr}
use mathlib.Core.List.{List, [], ◌∷◌, map}
use mathlib.Core.Path.{◌≡◌, refl, sym, ap, ◌∙◌}
use native.Mathlib.Omega.{arith}
use borrow.Author.Tests.{le-leb, lt-leb, lt-ltb, le-ltb, ltb-true, ltb-false}
use lib.Dec.{eqb, leb, ltb}
use lib.ListN.{length, get_or, length-map}
use Rattle.std.specs.List as library
use Rattle.std.specs.List.{position_or_len, IsFirstBest}
use Rattle.std.specs.Prelude.{Some, None, unwrap_or, is_some}
use Rattle.rules.specs.Lists.{any, every, position}
use Rattle.rules.specs.Voices.{Chord, Voice, is_free, starts_with, voice_end, ends_earliest, free, together, cut, choose}
use Rattle.laws.proofs.Order.{by_bool, by_lt}
use Rattle.laws.proofs.Lists.{All-imp, All-all, any_none}
use Rattle.voices.specs.Placing.{Lasts, voice_start, Known}
use Rattle.laws.proofs.Tests.{position_at, position_found, position_lost, position_agree, position_map, every_passes, every_fails, every_map}

-- ---- the first that passes a test, as the library gives it and as the rules do
module _ {A : Type 0} (f : A → Bool) where
  pub first_place : (xs : List A) → position_or_len f xs ≡ position f xs
  unfolding position
  first_place [] = refl
  first_place (x ∷ xs) = elim (by_bool (f x)) [ inl t ↦ rw t | inr t ↦ rw t (omega (arith, first_place xs)) ]

  pub first_some : (xs : List A) {v : ℕ} → library.position f xs ≡ Some v → (v ≡ position f xs) × (v < length xs)
  first_some xs {v} e =
      elim (by_lt (position_or_len f xs) (length xs)) [
        | inl h ↦
            let same : Some (position_or_len f xs) ≡ Some v = rw (lt-ltb _ _ h) at e in
            let found : position_or_len f xs ≡ v = ap (λ o. unwrap_or o 0) same in
            (sym found ∙ first_place xs, omega (arith, found))
        | inr h ↦ let none : None ≡ Some v = rw (le-ltb _ _ h) at e in absurd (false≢true (ap is_some none))
      ]

  pub first_none : (xs : List A) → library.position f xs ≡ None → length xs ≤ position f xs
  first_none xs e =
      elim (by_lt (position_or_len f xs) (length xs)) [
        | inl h ↦ let some : Some (position_or_len f xs) ≡ None = rw (lt-ltb _ _ h) at e in absurd (true≢false (ap is_some some))
        | inr h ↦ omega (arith, first_place xs)
      ]

-- ---- the earliest end
pub best_is : (ends : List ℕ) {best : ℕ} → length ends ≡ 4 → IsFirstBest ltb ends 4 best → best ≡ position (λ e. every (leb e) ends) ends
best_is ends {best} four b =
    let lowest = b.1 in
    let first = b.2 in
    let inside : best < 4 = b.0 in
    sym (position_at (λ e. every (leb e) ends) ends best 0 (omega arith)
    (λ u l. every_fails (leb (get_or ends u 0)) ends 0 best (omega arith) (lt-leb (get_or ends u 0) (get_or ends best 0) (ltb-true _ _ (first u 0 l))))
    (every_passes (leb (get_or ends best 0)) ends 0
    (λ u l. le-leb (get_or ends best 0) (get_or ends u 0) (ltb-false _ _ (lowest u 0 (omega arith))))))

-- ---- the voices
module _ (c : Chord) where
  free_is : (v : Voice) → is_free c v ≡ leb (voice_end v) c.start
  free_is [] = sym (le-leb 0 c.start (omega arith))
  free_is (l ∷ v) = refl

  together_is : (v : Voice) → is_free c v ≡ false → starts_with c v ≡ eqb (voice_start v) c.start
  together_is [] e = absurd (true≢false e)
  together_is (l ∷ v) e = refl

  module _ (vs : List Voice) where
    free_position : position (is_free c) vs ≡ position (λ e. leb e c.start) (map voice_end vs)
    free_position =
        position_agree (is_free c) (λ v. leb (voice_end v) c.start) vs (All-all free_is vs) ∙ sym (position_map (λ e. leb e c.start) voice_end vs)

    together_position : any (is_free c) vs ≡ false → position (starts_with c) vs ≡ position (λ s. eqb s c.start) (map voice_start vs)
    together_position e =
        position_agree (starts_with c) (λ v. eqb (voice_start v) c.start) vs (All-imp together_is vs (any_none (is_free c) vs e))
        ∙ sym (position_map (λ s. eqb s c.start) voice_start vs)

    earliest_position : position (ends_earliest vs) vs ≡ position (λ e. every (leb e) (map voice_end vs)) (map voice_end vs)
    earliest_position =
        position_agree (ends_earliest vs) (λ v. every (leb (voice_end v)) (map voice_end vs)) vs (All-all (λ v. sym (every_map (leb (voice_end v)) voice_end vs)) vs)
        ∙ sym (position_map (λ e. every (leb e) (map voice_end vs)) voice_end vs)

    -- ---- the three ways
    pub chosen_free : {v : ℕ} → v ≡ position (λ e. leb e c.start) (map voice_end vs) → v < length vs → free v ≡ choose c vs
    unfolding choose
    chosen_free e h = rw (position_found (is_free c) vs (omega (arith, free_position))) (ap free (e ∙ sym free_position))

    not_free : length vs ≤ position (λ e. leb e c.start) (map voice_end vs) → any (is_free c) vs ≡ false
    not_free h = position_lost (is_free c) vs (omega (arith, free_position))

    pub chosen_together : {v : ℕ} → length vs ≤ position (λ e. leb e c.start) (map voice_end vs)
        → v ≡ position (λ s. eqb s c.start) (map voice_start vs) → v < length vs → together v ≡ choose c vs
    unfolding choose
    chosen_together f e h =
        let n = not_free f in
        let p = together_position n in
        rw (n, position_found (starts_with c) vs (omega arith)) (ap together (e ∙ sym p))

    pub chosen_cut : {v : ℕ} → length vs ≤ position (λ e. leb e c.start) (map voice_end vs) → length vs ≤ position (λ s. eqb s c.start) (map voice_start vs)
        → v ≡ position (λ e. every (leb e) (map voice_end vs)) (map voice_end vs) → cut v ≡ choose c vs
    unfolding choose
    chosen_cut f g e =
        let n = not_free f in
        let p = together_position n in
        rw (n, position_lost (starts_with c) vs (omega arith)) (ap cut (e ∙ sym earliest_position))

-- ---- by what is known of the voices
module _ {l : Lasts} {vs : List Voice} {start : ℕ} (c : Chord) (e : c.start ≡ start) (k : Known l vs) where
  four_ends : length l.ends ≡ 4
  four_ends = ap length k.ends ∙ length-map vs voice_end ∙ k.four

  pub known_free : {v : ℕ} → library.position (λ x. leb x start) l.ends ≡ Some v → free v ≡ choose c vs
  known_free p =
      let found = rw (← e, k.ends) at (first_some (λ x. leb x start) l.ends p) in
      chosen_free c vs found.0 (omega (arith, found.1, length-map vs voice_end))

  pub known_together : {v : ℕ} → library.position (λ x. leb x start) l.ends ≡ None → library.position (λ x. eqb x start) l.starts ≡ Some v
      → together v ≡ choose c vs
  known_together q p =
      let lost = rw (← e, k.ends) at (first_none (λ x. leb x start) l.ends q) in
      let found = rw (← e, k.starts) at (first_some (λ x. eqb x start) l.starts p) in
      chosen_together c vs (omega (arith, lost, length-map vs voice_end)) found.0 (omega (arith, found.1, length-map vs voice_start))

  pub known_cut : {v : ℕ} → library.position (λ x. leb x start) l.ends ≡ None → library.position (λ x. eqb x start) l.starts ≡ None
      → IsFirstBest ltb l.ends 4 v → cut v ≡ choose c vs
  known_cut q q' b =
      let lost = rw (← e, k.ends) at (first_none (λ x. leb x start) l.ends q) in
      let lost' = rw (← e, k.starts) at (first_none (λ x. eqb x start) l.starts q') in
      chosen_cut c vs (omega (arith, lost, length-map vs voice_end)) (omega (arith, lost', length-map vs voice_start))
      (rw k.ends at (best_is l.ends four_ends b))
