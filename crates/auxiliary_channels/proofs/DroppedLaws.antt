-- From the array of bases to the definition: a clash or a chained spare cancels all, and a spare is dropped where it mirrors the base that is held for it.
use Prim.Native.Nat.{ℕ, ◌<◌}
use mathlib.Core.Bool.{Bool, true, false, not, ◌&&◌, true≢false, false≢true}
use mathlib.Core.List.{List}
use mathlib.Core.Logic.{inl, inr}
use mathlib.Core.Path.{◌≡◌, refl, sym, ap, ◌∙◌}
use borrow.Author.Tests.{eq-eqb, ne_eqb}
use lib.Dec.{eqb}
use lib.ListN.{length, get_or, replicate, get_or-replicate}
use Rattle.std.specs.Prelude.{Option, None, Some}
use Rattle.rules.specs.Lists.{any}
use Rattle.rules.specs.Piece.{Event}
use Rattle.rules.specs.Automation.{Marker, markers, cancelled, is_dropped, mirrors}
use Rattle.laws.proofs.Order.{by_bool, by_eq}
use Rattle.laws.proofs.Reflection.{says_not, says_below}
use Rattle.auxiliary_channels.specs.declared.Pairs.{Pairs}
use Rattle.auxiliary_channels.specs.Markers.{marker, at_base, is_chained, none_chained, mirrors_at, Mirrors, Drops}
use Rattle.laws.proofs.Tests.{any_member, any_never}
use Rattle.auxiliary_channels.proofs.MarkerLaws.{some_same, Held, Noted, Known}

-- the base that passes a test
has_base : (f : ℕ → Bool) (o : Option ℕ) → at_base f o ≡ true → (b : ℕ) × (o ≡ Some b) × (f b ≡ true)
has_base f None t = absurd (false≢true t)
has_base f (Some b) t = (b, refl, t)

-- ---- what is cancelled

-- the two halves of `cancelled`
abbrev two_bases : List Marker → Bool
two_bases ms = any (λ (m : Marker). any (λ (n : Marker). eqb m.spare n.spare && not (eqb m.base n.base)) ms) ms

abbrev base_is_spare : List Marker → Bool
base_is_spare ms = any (λ (m : Marker). any (λ (n : Marker). eqb m.base n.spare) ms) ms

clash_cancels : {ms : List Marker} → Known ms None → cancelled ms ≡ true
unfolding cancelled
clash_cancels {ms} known =
    let (m, n, t) = known in
    let found : two_bases ms ≡ true = any_member _ (any_member _ (rw (eq-eqb _ _ t.spare, ne_eqb _ _ t.bases)) t.second) t.first in
    rw found

module _ {ms : List Marker} {q : Pairs} (noted : Noted ms q) where
  one_base : two_bases ms ≡ false
  one_base = any_never _ ms (λ m i. any_never _ ms (λ n j. apart m n (noted.held m i) (noted.held n j)))
    where
      apart : (m n : Marker) → Held q.bases m → Held q.bases n → eqb m.spare n.spare && not (eqb m.base n.base) ≡ false
      apart m n h k =
          elim (by_eq m.spare n.spare) [
            | inl e ↦
                let same : m.base ≡ n.base = some_same (sym h.is ∙ ap (λ s. get_or q.bases s None) e ∙ k.is) in
                rw (eq-eqb _ _ e, eq-eqb _ _ same)
            | inr ne ↦ rw (ne_eqb _ _ ne)
          ]

  -- a marker whose base is the spare of another: its spare is chained
  chained_of : {m n : Marker} → Held q.bases m → Held q.bases n → m.base ≡ n.spare → is_chained q.bases m.spare ≡ true
  chained_of {m} {n} h k e =
      let there : get_or q.bases m.base None ≡ Some n.base = ap (λ s. get_or q.bases s None) e ∙ k.is in
      rw (h.is, there)

  -- and the other way round
  of_chained : (s : ℕ) → s < 16 → is_chained q.bases s ≡ true → base_is_spare ms ≡ true
  of_chained s h t =
      let (b, is, spare) = has_base _ _ t in
      let (a, there, _) = has_base _ _ spare in
      any_member _ (any_member _ (eq-eqb b b refl) (noted.marked b a (noted.channels.below s b h is) there)) (noted.marked s b h is)

  base_spare : base_is_spare ms ≡ not (none_chained q.bases)
  base_spare =
      let says = says_below (λ s. says_not (is_chained q.bases s)) 16 in
      elim (by_bool (none_chained q.bases)) [
        | inl none ↦
            rw none (any_never (λ (m : Marker). any (λ (n : Marker). eqb m.base n.spare) ms) ms (λ m i. any_never (λ (n : Marker). eqb m.base n.spare) ms (λ n j.
            let h = noted.held m i in
            let k = noted.held n j in
            elim (by_eq m.base n.spare) [
              | inl e ↦ absurd (true≢false (sym (chained_of h k e) ∙ says.0 none m.spare h.spare))
              | inr ne ↦ ne_eqb _ _ ne
            ])))
        | inr some ↦
            rw some (elim (by_bool (base_is_spare ms)) [
              | inl t ↦ t
              | inr f ↦
                  absurd (true≢false (sym (says.1 (λ s h. elim (by_bool (is_chained q.bases s)) [
                    | inl t ↦ absurd (true≢false (sym (of_chained s h t) ∙ f))
                    | inr u ↦ u
                  ])) ∙ some))
            ])
      ]

  chained_cancels : cancelled ms ≡ not (none_chained q.bases)
  unfolding cancelled
  chained_cancels = rw (one_base, base_spare)

  -- a test of the markers of a spare is the test of the one marker that is held
  held_only : (f : Marker → Bool) (ch : ℕ) → ch < 16
      → any (λ (m : Marker). eqb m.spare ch && f m) ms ≡ at_base (λ b. f (marker b ch)) (get_or q.bases ch None)
  held_only f ch h =
      elim (by_bool (at_base (λ b. f (marker b ch)) (get_or q.bases ch None))) [
        | inl t ↦
            let (b, is, passes) = has_base _ _ t in
            rw t (any_member _ (rw (eq-eqb ch ch refl) passes) (noted.marked ch b h is))
        | inr u ↦ rw u (any_never _ ms (λ m i. other u m (noted.held m i)))
      ]
    where
      other : at_base (λ b. f (marker b ch)) (get_or q.bases ch None) ≡ false → (m : Marker) → Held q.bases m → eqb m.spare ch && f m ≡ false
      other u m k =
          elim (by_eq m.spare ch) [
            | inl e ↦
                let v : at_base (λ b. f (marker b m.spare)) (get_or q.bases m.spare None) ≡ false = (rw e u) in
                let fails : f m ≡ false = (rw k.is at v) in
                rw (eq-eqb _ _ e) fails
            | inr ne ↦ rw (ne_eqb _ _ ne)
          ]

-- ---- which spares mirror their base

-- the channels below n are answered
pub record Mirroring (es : List Event) (bases : List (Option ℕ)) (r : List Bool) (n : ℕ) : Type 0 where
  pub size : length r ≡ 16
  pub at : (ch : ℕ) → ch < n → get_or r ch false ≡ mirrors_at es bases ch

-- ---- what is dropped

none_dropped : {es : List Event} → cancelled (markers es) ≡ true → Drops es (replicate 16 false)
unfolding is_dropped
none_dropped c = record { at = λ ch h. rw c (get_or-replicate 16 ch false false h) }

pub drops_clash : {es : List Event} → Known (markers es) None → Drops es (replicate 16 false)
drops_clash known = none_dropped (clash_cancels known)

module _ {es : List Event} {q : Pairs} (noted : Noted (markers es) q) where
  pub drops_chained : none_chained q.bases ≡ false → Drops es (replicate 16 false)
  drops_chained n = none_dropped (chained_cancels noted ∙ ap not n)

  pub drops_mirrors : none_chained q.bases ≡ true → {r : List Bool} → Mirrors es q.bases r → Drops es r
  unfolding is_dropped
  drops_mirrors n m =
      record { at = λ ch h. m.at ch h ∙ sym (rw (chained_cancels noted ∙ ap not n) (held_only noted (mirrors es) ch h)) }
