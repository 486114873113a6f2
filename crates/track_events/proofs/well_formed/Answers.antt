-- `well_formed` answers by the table of kinds: each arm has its row of the table, from WordTable.
use mathlib.Core.Bool.{Bool, ◌&&◌}
use mathlib.Core.Logic.{inl, inr}
use mathlib.Core.Path.{◌≡◌, sym, ap, subst, ◌∙◌}
use native.Mathlib.Omega.{arith}
use lib.Dec.{leb}
use Rattle.std.specs.Prelude.{ℕ, Some}
use Rattle.rules.specs.Piece.{kind_of, well_formed}
use Rattle.track_events.specs.declared.Kind.{Kind}
use Rattle.track_events.specs.declared.Kind.TheVariants.{Meta, System, EndOfTrack, NoteOff, NoteOn, KeyPressure, Controller, Program, ChannelPressure, Bend}
use Rattle.track_events.specs.declared.Word.{Word}
use Rattle.track_events.specs.Kinds.{kind_number, IsKind}
use Rattle.track_events.specs.Track.{IsWord}
use Rattle.track_events.proofs.KindNumbers.{kind_some}
use Rattle.track_events.proofs.WordTable.{limits, meta_word, tempo_word, meter_word, key_word, marker_word, note_word, program_word, no_word}
use Rattle.track_events.proofs.well_formed.Goals as goal

module _ {w : ℕ} {x : Word} (is : IsWord w x) where
  number : {k : Kind} (j : Kind) → x.kind ≡ Some k → k ≡ j → kind_of w ≡ kind_number j
  number j e h = kind_some j is.kind (e ∙ ap Some h)

  row : {r : Bool} (a b c : ℕ) → r ≡ (leb x.a a && leb x.b b && leb x.c c) → well_formed w ≡ limits w a b c → r ≡ well_formed w
  row a b c e h = e ∙ rw (is.a, is.b, is.c) (sym h)

pub returns-in_default : goal.returns-in_default
returns-in_default c = no_word _ (subst (IsKind (kind_of c.args.w)) c.in_default.is c.take_apart-x.ensures.kind)

pub returns-in-Meta : goal.returns-in-Meta
returns-in-Meta c =
    let n = λ (k : Kind). number c.take_apart-x.ensures k c.in-Some.is in
    row c.take_apart-x.ensures _ _ _ c.within.ensures
    (meta_word _ (elim c.in-Meta.is [
      | inl k ↦ inr (omega (arith, n Meta k))
      | inr h ↦ elim h [ inl k ↦ inr (omega (arith, n System k)) | inr k ↦ inl (n EndOfTrack k) ]
    ]))

pub returns-in-Tempo : goal.returns-in-Tempo
returns-in-Tempo c = tempo_word _ (number c.take_apart-x.ensures _ c.in-Some.is c.in-Tempo.is)

pub returns-in-Meter : goal.returns-in-Meter
returns-in-Meter c =
    row c.take_apart-x.ensures _ _ _ c.within-in-Meter.ensures
    (meter_word _ (number c.take_apart-x.ensures _ c.in-Some.is c.in-Meter.is))

pub returns-in-Key : goal.returns-in-Key
returns-in-Key c =
    row c.take_apart-x.ensures _ _ _ c.within-in-Key.ensures
    (key_word _ (number c.take_apart-x.ensures _ c.in-Some.is c.in-Key.is))

pub returns-in-Marker : goal.returns-in-Marker
returns-in-Marker c =
    row c.take_apart-x.ensures _ _ _ c.within-in-Marker.ensures
    (marker_word _ (number c.take_apart-x.ensures _ c.in-Some.is c.in-Marker.is))

pub returns-in-NoteOff : goal.returns-in-NoteOff
returns-in-NoteOff c =
    let n = λ (k : Kind). number c.take_apart-x.ensures k c.in-Some.is in
    row c.take_apart-x.ensures _ _ _ c.within-in-NoteOff.ensures
    (note_word _ (elim c.in-NoteOff.is [
      | inl k ↦ inr (omega (arith, n NoteOff k), omega (arith, n NoteOff k))
      | inr h ↦
          elim h [
            | inl k ↦ inr (omega (arith, n NoteOn k), omega (arith, n NoteOn k))
            | inr h ↦
                elim h [
                  | inl k ↦ inr (omega (arith, n KeyPressure k), omega (arith, n KeyPressure k))
                  | inr h ↦
                      elim h [
                        | inl k ↦ inr (omega (arith, n Controller k), omega (arith, n Controller k))
                        | inr k ↦ inl (n Bend k)
                      ]
                ]
          ]
    ]))

pub returns-in-Program : goal.returns-in-Program
returns-in-Program c =
    let n = λ (k : Kind). number c.take_apart-x.ensures k c.in-Some.is in
    elim c.in-Program.is [
      | inl k ↦
          row c.take_apart-x.ensures _ _ _ c.within-in-Program.ensures
          (program_word _ (omega (arith, n Program k)) (omega (arith, n Program k)))
      | inr k ↦
          row c.take_apart-x.ensures _ _ _ c.within-in-Program.ensures
          (program_word _ (omega (arith, n ChannelPressure k)) (omega (arith, n ChannelPressure k)))
    ]
