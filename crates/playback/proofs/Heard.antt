-- What holds of the voices' chords holds of playback too, where it stops at tick e: points 5, 6 and 7 of a right staff.
use Prim.Native.Nat.{ℕ, ◌≤◌, ◌<◌, min}
use mathlib.Core.Bool.{Bool, true}
use mathlib.Core.List.{List, [], ◌∷◌, map}
use mathlib.Core.Logic.{◌⊎◌, inl, inr, ⊎_elim}
use mathlib.Core.Path.{◌≡◌, refl}
use lib.Dec.{ltb}
use native.Mathlib.Omega.{arith}
use borrow.Author.Tests.{ltb-true, lt-ltb}
use Rattle.rules.specs.Lists.{keep, All, Some}
use Rattle.rules.specs.RawNotes.{RawNote}
use Rattle.rules.specs.Voices.{Chord}
use Rattle.rules.specs.ProofReader.{Played, HasKey, NoteFound, KeysMeant, EndsWithNote, EndsMeant}
use Rattle.laws.specs.Lines.{Line, KeysNoted, EndsNoted, Closed}
use Rattle.laws.proofs.Order.{by_lt}
use Rattle.laws.proofs.Lists.{All-imp, All-map, All-keep, Some-imp, Some-map, Some-keep}
use Rattle.laws.proofs.ChordLaws.{Has}
use Rattle.playback.specs.Performance.{ended_by, heard_to}
use Rattle.playback.proofs.VoiceBar.{heard_late}

-- ---- points 5 and 6

module _ (e : ℕ) where
  voice_found : (n : RawNote) → n.start < e → {cs : List Chord} → Some (Has n.start n.key) cs
      → Some (λ (c : Played). (c.start ≡ n.start) × HasKey n.key c.keys) (heard_to e cs)
  unfolding heard_to
  voice_found n early s =
      Some-map _ (ended_by e) (λ c x. x) (Some-keep (λ (c : Chord). ltb c.start e) (λ c x. lt-ltb c.start e (omega arith)) s)

  voice_meant : (ns : List RawNote) (cs : List Chord) → All (λ (c : Chord). KeysNoted ns c.start c.keys) cs → All (KeysMeant e ns) (heard_to e cs)
  unfolding heard_to
  voice_meant ns cs h =
      let begun : Chord → Bool = λ c. ltb c.start e in
      All-map (KeysMeant e ns) (ended_by e) meant (keep begun cs) (All-keep _ begun cs h)
    where
      meant : (c : Chord) → KeysNoted ns c.start c.keys × (ltb c.start e ≡ true) → KeysMeant e ns (ended_by e c)
      meant c x k small has =
          let early : c.start < e = ltb-true c.start e x.1 in
          Some-imp (λ n y. (omega arith, y.0, y.1)) (x.0 k has)

module _ (e : ℕ) (ns : List RawNote) (vs : List (List Chord)) where
  pub heard_found : All (λ (n : RawNote). Some (Some (Has n.start n.key)) vs) ns → All (NoteFound e (map (heard_to e) vs)) ns
  heard_found = All-imp (λ n s early. Some-map _ (heard_to e) (λ cs. voice_found e n early) s) ns

  pub heard_meant : All (All (λ (c : Chord). KeysNoted ns c.start c.keys)) vs → All (All (KeysMeant e ns)) (map (heard_to e) vs)
  heard_meant = All-map (All (KeysMeant e ns)) (heard_to e) (voice_meant e ns) vs

-- ---- point 7

pub heard_none : (e : ℕ) → heard_to e [] ≡ []
unfolding heard_to keep
heard_none e = refl

module _ (e : ℕ) (c : Chord) (cs : List Chord) where
  pub heard_first : c.start < e → heard_to e (c ∷ cs) ≡ ended_by e c ∷ heard_to e cs
  unfolding heard_to keep
  heard_first h = rw (lt-ltb c.start e h)

module _ (e : ℕ) (ns : List RawNote) where
  -- a chord that ends with a note ends so, or at tick e
  noted : (c : Chord) → EndsNoted ns c → EndsWithNote ns (ended_by e c) ⊎ (min e c.end ≡ e)
  noted c s = elim (by_lt e c.end) [ inl h ↦ inr (omega arith) | inr h ↦ inl (Some-imp (λ n x. (x.0, omega arith)) s) ]

  -- the next chord, d, is heard
  before : (d c : Chord) → c.end ≤ d.start → d.start < e → EndsNoted ns c ⊎ (c.end ≡ d.start)
      → EndsWithNote ns (ended_by e c) ⊎ (min e c.end ≡ d.start) ⊎ (min e c.end ≡ e)
  before d c order early (inl s) = ⊎_elim (λ x. inl x) (λ x. inr (inr x)) (noted c s)
  before d c order early (inr q) = inr (inl (omega arith))

  -- the next chord, d, is not heard
  last : (d c : Chord) → e ≤ d.start → EndsNoted ns c ⊎ (c.end ≡ d.start) → EndsWithNote ns (ended_by e c) ⊎ (min e c.end ≡ e)
  last d c past (inl s) = noted c s
  last d c past (inr q) = inr (omega arith)

  voice_ends : (u a : ℕ) (cs : List Chord) → Line u a cs → Closed ns cs → EndsMeant e ns (heard_to e cs)
  voice_ends u a [] l closed = rw (heard_none e) tt
  voice_ends u a (c ∷ []) l closed =
      elim (by_lt c.start e) [
        | inl h ↦ rw (heard_first e c [] h, heard_none e) (noted c closed)
        | inr h ↦ rw (heard_late u e c.start (c ∷ []) (omega arith, l.1, l.2) h) tt
      ]
  voice_ends u a (c ∷ d ∷ cs) l closed =
      let rest : EndsMeant e ns (heard_to e (d ∷ cs)) = voice_ends u c.end (d ∷ cs) l.2 closed.1 in
      elim (by_lt c.start e) [
        | inl h ↦
            elim (by_lt d.start e) [
              | inl k ↦
                  rw (heard_first e c (d ∷ cs) h, heard_first e d cs k)
                  (before d c (omega arith) k closed.0, rw (heard_first e d cs k) at rest)
              | inr k ↦
                  rw (heard_first e c (d ∷ cs) h, heard_late u e d.start (d ∷ cs) (omega arith, l.2.1, l.2.2) k)
                  (last d c k closed.0)
            ]
        | inr h ↦ rw (heard_late u e c.start (c ∷ d ∷ cs) (omega arith, l.1, l.2) h) tt
      ]

  pub heard_ends : (u : ℕ) (vs : List (List Chord)) → All (Line u 0) vs → All (Closed ns) vs → All (EndsMeant e ns) (map (heard_to e) vs)
  heard_ends u [] ls closed = tt
  heard_ends u (v ∷ vs) ls closed = (voice_ends u 0 v ls.0 closed.0, heard_ends u vs ls.1 closed.1)
