-- What a word's kind, as the code names it, says of its number.
use Prim.Native.Nat.{ℕ}
use mathlib.Core.Bool.{true, false, cond}
use mathlib.Core.Path.{◌≡◌, refl, sym, ap, subst, ◌∙◌}
use borrow.Author.Tests.{eq-eqb, ne_eqb}
use lib.Dec.{eqb}
use Rattle.std.specs.Prelude.{◌↔◌, Option, None, Some}
use Rattle.track_events.specs.declared.Kind.{Kind}
use Rattle.track_events.specs.declared.Kind.TheVariants.{Meta, System, Tempo, Meter, Key, Marker, EndOfTrack}
use Rattle.track_events.specs.declared.Kind.TheVariants.{NoteOff, NoteOn, KeyPressure, Controller, Program, ChannelPressure, Bend}
use Rattle.track_events.specs.Kinds.{kind_number, IsKind}

-- a number's kind, to tell two kinds apart by their numbers
kind_at : ℕ → Kind
kind_at n =
    cond (eqb n 0) Meta
    (cond (eqb n 1) System
    (cond (eqb n 2) Tempo
    (cond (eqb n 3) Meter
    (cond (eqb n 4) Key
    (cond (eqb n 5) Marker
    (cond (eqb n 6) EndOfTrack
    (cond (eqb n 8) NoteOff
    (cond (eqb n 9) NoteOn
    (cond (eqb n 10) KeyPressure
    (cond (eqb n 11) Controller
    (cond (eqb n 12) Program
    (cond (eqb n 13) ChannelPressure Bend))))))))))))

at_number : (k : Kind) → kind_at (kind_number k) ≡ k
unfolding kind_at
at_number Meta = refl
at_number System = refl
at_number Tempo = refl
at_number Meter = refl
at_number Key = refl
at_number Marker = refl
at_number EndOfTrack = refl
at_number NoteOff = refl
at_number NoteOn = refl
at_number KeyPressure = refl
at_number Controller = refl
at_number Program = refl
at_number ChannelPressure = refl
at_number Bend = refl

-- two kinds share no number
pub same_kind : (j k : Kind) → kind_number j ≡ kind_number k → j ≡ k
same_kind j k e = sym (at_number j) ∙ ap kind_at e ∙ at_number k

-- the kind's number
pub kind_some : {n : ℕ} {o : Option Kind} (k : Kind) → IsKind n o → o ≡ Some k → n ≡ kind_number k
kind_some {n} k h e = subst (IsKind n) e h

-- a number that a kind has
pub some_kind : {n : ℕ} {o : Option Kind} (k : Kind) → IsKind n o → n ≡ kind_number k → o ≡ Some k
some_kind {o = None} k h e = absurd (h k e)
some_kind {o = Some j} k h e = ap Some (same_kind j k (sym h ∙ e))

pub kind_iff : {n : ℕ} {o : Option Kind} (k : Kind) → IsKind n o → (n ≡ kind_number k) ↔ (o ≡ Some k)
kind_iff k h = (some_kind k h, kind_some k h)

-- another kind, or none, has not this number
pub no_kind : (n : ℕ) {o : Option Kind} (k : Kind) → IsKind n o → (o ≡ Some k → ⊥) → eqb n (kind_number k) ≡ false
no_kind n k h not = ne_eqb n (kind_number k) (λ e. not (some_kind k h e))

pub is_kind : (n : ℕ) {o : Option Kind} (k : Kind) → IsKind n o → o ≡ Some k → eqb n (kind_number k) ≡ true
is_kind n k h e = eq-eqb n (kind_number k) (kind_some k h e)

-- no kind has the number of a word that has no kind
pub kind_none : {n : ℕ} {o : Option Kind} → IsKind n o → o ≡ None → (k : Kind) → n ≡ kind_number k → ⊥
kind_none {n} h e = subst (IsKind n) e h

-- two numbers, the first a kind's, are the same where the code's kinds are
pub kinds_agree : {m n : ℕ} {o p : Option Kind} (k : Kind) → IsKind m o → IsKind n p → o ≡ Some k → (m ≡ n) ↔ (o ≡ p)
kinds_agree k h g e = (
  λ q. e ∙ sym (some_kind k g (sym q ∙ kind_some k h e)),
  λ q. kind_some k h e ∙ sym (kind_some k g (sym q ∙ e)),
)

-- a word of kind j is not of another kind
pub other_kind : (n : ℕ) {o : Option Kind} {j : Kind} → IsKind n o → o ≡ Some j → (k : Kind) → (j ≡ k → ⊥) → eqb n (kind_number k) ≡ false
other_kind n {j = j} h e k not = ne_eqb n (kind_number k) (λ q. not (same_kind j k (sym (kind_some j h e) ∙ q)))
