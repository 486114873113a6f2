-- `replay_one::one` meets its contract: the call is read, and where it was, it is made and compared.
use mathlib.Core.Path.{sym, ◌∙◌}
use native.Mathlib.Nat.{le_trans}
use lib.Dec.{lit≤}
use lib.Seq.{length-take-le}
use Rattle.replay_one.proofs.Laws.{called_unread, called_made}
use Rattle.replay_one.proofs.one.Goals as goal

pub returns-then-is_some : goal.returns-then-is_some
returns-then-is_some c =
    let at_next_call = c.next_call-q in
    called_unread _ _ _ _ _ _ at_next_call.ensures.is (sym c.is_some.ensures ∙ c.if-is_some.true) c.unread.ensures

pub slice_bounds-ask-end : goal.slice_bounds-ask-end
slice_bounds-ask-end c =
    let at_next_call = c.next_call-q in
    le_trans at_next_call.ensures.within.a c.requires.a_room

pub slice_bounds-ask-end-2 : goal.slice_bounds-ask-end-2
slice_bounds-ask-end-2 c =
    let at_next_call = c.next_call-q in
    sym (length-take-le _ _ (le_trans at_next_call.ensures.within.a c.requires.a_room))

pub slice_bounds-ask-end-3 : goal.slice_bounds-ask-end-3
slice_bounds-ask-end-3 c =
    let at_next_call = c.next_call-q in
    le_trans at_next_call.ensures.within.b c.requires.b_room

pub slice_bounds-ask-end-4 : goal.slice_bounds-ask-end-4
slice_bounds-ask-end-4 c =
    let at_next_call = c.next_call-q in
    sym (length-take-le _ _ (le_trans at_next_call.ensures.within.b c.requires.b_room))

pub slice_bounds-ask-end-5 : goal.slice_bounds-ask-end-5
slice_bounds-ask-end-5 c =
    let at_next_call = c.next_call-q in
    le_trans at_next_call.ensures.within.c c.requires.c_room

pub slice_bounds-ask-end-6 : goal.slice_bounds-ask-end-6
slice_bounds-ask-end-6 c =
    let at_next_call = c.next_call-q in
    sym (length-take-le _ _ (le_trans at_next_call.ensures.within.c c.requires.c_room))

pub slice_bounds-ask-end-7 : goal.slice_bounds-ask-end-7
slice_bounds-ask-end-7 c =
    let at_next_call = c.next_call-q in
    le_trans at_next_call.ensures.within.d c.requires.d_room

pub slice_bounds-ask-end-8 : goal.slice_bounds-ask-end-8
slice_bounds-ask-end-8 c =
    let at_next_call = c.next_call-q in
    sym (length-take-le _ _ (le_trans at_next_call.ensures.within.d c.requires.d_room))

pub slice_bounds-ask-end-9 : goal.slice_bounds-ask-end-9
slice_bounds-ask-end-9 c =
    let at_next_call = c.next_call-q in
    le_trans at_next_call.ensures.within.e c.requires.e_room

pub slice_bounds-ask-end-10 : goal.slice_bounds-ask-end-10
slice_bounds-ask-end-10 c =
    let at_next_call = c.next_call-q in
    sym (length-take-le _ _ (le_trans at_next_call.ensures.within.e c.requires.e_room))

pub slice_bounds-ask-end-11 : goal.slice_bounds-ask-end-11
slice_bounds-ask-end-11 c =
    let at_next_call = c.next_call-q in
    le_trans at_next_call.ensures.within.work c.requires.work_room

pub slice_bounds-ask-end-12 : goal.slice_bounds-ask-end-12
slice_bounds-ask-end-12 c =
    let at_next_call = c.next_call-q in
    sym (length-take-le _ _ (le_trans at_next_call.ensures.within.work c.requires.work_room))

pub ask-requires : goal.ask-requires
ask-requires c =
    let at_next_call = c.next_call-q in
    let within = at_next_call.ensures.within in
    let pre = c.requires in
    record {
      said_fits = le_trans (lit≤ tt) pre.scratch_room;
      a_fits = le_trans within.a pre.scratch_room;
      b_fits = le_trans within.b pre.scratch_room;
      c_fits = le_trans within.c pre.scratch_room;
      d_fits = le_trans within.d pre.scratch_room;
      e_fits = le_trans within.e pre.scratch_room;
      a_room = length-take-le _ _ (le_trans within.a pre.a_room);
      b_room = length-take-le _ _ (le_trans within.b pre.b_room);
      c_room = length-take-le _ _ (le_trans within.c pre.c_room);
      d_room = length-take-le _ _ (le_trans within.d pre.d_room);
      e_room = length-take-le _ _ (le_trans within.e pre.e_room);
      work_room = length-take-le _ _ (le_trans within.work pre.work_room);
    }

pub returns : goal.returns
returns c =
    let at_ask = c.ask in
    let at_next_call = c.next_call-q in
    called_made _ _ _ _ _ _ at_next_call.ensures.is (sym c.is_some.ensures ∙ c.if-is_some.false) at_ask.ensures
