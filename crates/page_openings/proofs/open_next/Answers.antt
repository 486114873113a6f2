-- `page_openings::open_next` leaves a refusal's place, and one with an open part or with none left, as it is, and opens the next part otherwise.
use mathlib.Core.Path.{◌∙◌, sym}
use native.Mathlib.Omega.{arith}
use Rattle.page_openings.proofs.Turns.{none_there, stays_refused, stays_open, stays_closed}
use Rattle.page_openings.proofs.open_next.Goals as goal

pub returns-then-place-ne0 : goal.returns-then-place-ne0
returns-then-place-ne0 c =
    stays_refused _ _ _ _ c.requires.ready c.if-place-ne0.true

pub returns-then-is_some : goal.returns-then-is_some
returns-then-is_some c =
    stays_open _ _ _ _ c.requires.ready (sym c.is_some.ensures ∙ c.if-is_some.true)

pub returns-then-place : goal.returns-then-place
returns-then-place c =
    stays_closed _ _ _ _ c.requires.ready (none_there _ (sym c.is_some.ensures ∙ c.if-is_some.false)) c.if-place.true

pub open_part-requires : goal.open_part-requires
open_part-requires c =
    record {
      ready = c.requires.ready;
      rooms = c.requires.rooms;
      number_value = (
        c.if-place-ne0.false,
        none_there _ (sym c.is_some.ensures ∙ c.if-is_some.false),
        omega (arith, c.if-place.false),
      );
    }
