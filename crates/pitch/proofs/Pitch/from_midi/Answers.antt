-- `Pitch::from_midi` meets its contract: the name of the key within its octave, and the octave. Assumes nothing.
use borrow.Author.Rules.{rules}
use mathlib.Core.Path.{◌≡◌, ap, ◌∙◌}
use Prim.Native.Nat.{◌%◌}
use lib.ListN.{get_or}
use mir.Facts.{to_z-of_z}
use mir.Syntax.{w8}
use mir.Val.{SFits}
use Rattle.rules.specs.Refusals.{given}
use Rattle.rules.specs.Spelling.{C, natural}
use Rattle.pitch.specs.Calls.{name_of, spelling_of}
use Rattle.pitch.proofs.Laws.{octave_fits, octave_is, names, given_key, refused_key}
use Rattle.pitch.proofs.Pitch.from_midi.Goals as goal
use Rattle.pitch.proofs.Pitch.from_midi.Goals.{then-prefer_flat, else-prefer_flat}

pub returns-then-key-gt127 : goal.returns-then-key-gt127
returns-then-key-gt127 c = refused_key c.args.key c.args.prefer_flat c.if-key-gt127.true

pub overflow_sub-octave : goal.overflow_sub-octave
overflow_sub-octave c = octave_fits c.args.key c.if-key-gt127.false

pub returns : goal.returns
returns c =
    let named : (name_of c.if-prefer_flat.name ≡ get_or (names c.args.prefer_flat) (c.args.key % 12) (natural C)) = elim c.if-prefer_flat.branch [
      | then-prefer_flat w ↦ rw w.if-prefer_flat.true (ap name_of w.name-is ∙ w.flat_name-name.ensures)
      | else-prefer_flat w ↦ rw w.if-prefer_flat.false (ap name_of w.name-is ∙ w.sharp_name-name.ensures)
    ] in
    let alter_fits : (SFits w8 c.if-prefer_flat.name.1) = search rules in
    let h = c.if-key-gt127.false in
    let key = c.args.key in
    ap (λ p. given (spelling_of p)) c.with_alter.ensures
    ∙ rw (octave_is key h, to_z-of_z (alter_fits)) (given_key key c.args.prefer_flat (name_of c.if-prefer_flat.name) h (named))
