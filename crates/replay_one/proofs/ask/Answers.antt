-- `replay_one::ask` meets its contract: what the call leaves, compared.
use mathlib.Core.Path.{◌∙◌, refl, sym}
use Rattle.replay_one.proofs.ask.Goals as goal

pub make-requires : goal.make-requires
make-requires c = (
  record {
    said_room_lem = refl;
    a_room = c.requires.a_room;
    b_room = c.requires.b_room;
    c_room = c.requires.c_room;
    d_room = c.requires.d_room;
  },
  c.requires.e_room,
  c.requires.work_room,
)

pub slice_bounds-compare-end : goal.slice_bounds-compare-end
slice_bounds-compare-end c =
    let at_make = c.make in
    sym at_make.auto.said

pub compare-requires : goal.compare-requires
compare-requires c =
    let at_make = c.make in
    let pre = c.requires in
    let kept = at_make.auto in (
      rw kept.said pre.said_fits,
      rw (kept.a ∙ pre.a_room) pre.a_fits,
      rw (kept.b ∙ pre.b_room) pre.b_fits,
      rw (kept.c ∙ pre.c_room) pre.c_fits,
      rw (kept.d ∙ pre.d_room) pre.d_fits,
      rw (kept.e ∙ pre.e_room) pre.e_fits,
    )

pub returns : goal.returns
returns c =
    let at_make = c.make in
    c.compare.ensures ∙ rw at_make.ensures
