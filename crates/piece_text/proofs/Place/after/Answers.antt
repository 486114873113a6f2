-- `piece_text::Place::after` is the place behind one byte more.
use mathlib.Core.Path.{sym}
use borrow.Author.Tests.{lt-ltb, le-ltb, eq-eqb, ne_eqb}
use Rattle.piece_text.specs.Text.{place_after}
use Rattle.piece_text.proofs.Place.after.Goals as goal

pub returns-then-self-gt2 : goal.returns-then-self-gt2
unfolding place_after
returns-then-self-gt2 c = rw (lt-ltb _ _ c.if-self-gt2.true) c.spoil.ensures

pub returns-then-is_ascii_digit : goal.returns-then-is_ascii_digit
unfolding place_after
returns-then-is_ascii_digit c =
    rw (
      le-ltb _ _ c.if-self-gt2.false,
      sym c.if-is_ascii_digit.ensures.value,
    ) c.digit.ensures

pub returns-then-is_blank : goal.returns-then-is_blank
unfolding place_after
returns-then-is_blank c =
    rw (
      le-ltb _ _ c.if-self-gt2.false,
      sym c.if-is_ascii_digit.ensures.value,
      sym c.if-is_blank.ensures,
    ) c.end_number.ensures

pub returns-then-b-eq10 : goal.returns-then-b-eq10
unfolding place_after
returns-then-b-eq10 c =
    rw (
      le-ltb _ _ c.if-self-gt2.false,
      sym c.if-is_ascii_digit.ensures.value,
      sym c.if-is_blank.ensures,
      eq-eqb _ _ c.if-b-eq10.true,
    ) c.end_line.ensures

pub returns : goal.returns
unfolding place_after
returns c =
    rw (
      le-ltb _ _ c.if-self-gt2.false,
      sym c.if-is_ascii_digit.ensures.value,
      sym c.if-is_blank.ensures,
      ne_eqb _ _ c.if-b-eq10.false,
    ) c.spoil-2.ensures
