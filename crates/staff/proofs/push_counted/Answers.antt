-- `push_counted`: the voice, then its count and its leftover.
use Prim.Native.Nat.{◌-◌, ◌<◌, ◌^◌}
use mathlib.Core.Path.{◌≡◌}
use native.Mathlib.Omega.{arith}
use lib.Dec.{eqb}
use lib.ListN.{length}
use Rattle.items.specs.Writing.{quarter}
use Rattle.bar_voice.specs.Voices.{voice_of, voice_from, voice_left_from}
use Rattle.bar_voice.proofs.Few.{voice_few}
use Rattle.laws.proofs.Leftovers.{voice_left_few}
use Rattle.staff.proofs.push_counted.Goals as goal

pub overflow_sub-pushed : goal.overflow_sub-pushed
overflow_sub-pushed c = omega (arith, c.push_voice-pushed.ensures.items.next)

pub put_number-requires : goal.put_number-requires
put_number-requires c =
    let pre = c.requires in
    -- the voice's items are as many as its count can hold
    let few : c.push_voice-pushed.result.at - c.args.from < 2 ^ 32 =
    omega (
      arith,
      voice_few (quarter c.args.values.now) (eqb c.args.v 0) pre.2.some_bar pre.1.line c.skip_past-first.ensures,
      c.push_voice-pushed.ensures.items.next,
      pre.2.short,
    ) in
    (pre.2.counts_fit, few)

pub put_number-requires-2 : goal.put_number-requires-2
put_number-requires-2 c =
    let pre = c.requires in
    -- the ticks that they leave are no more than the bar's
    let few_left : c.push_voice-pushed.result.left < 2 ^ 32 =
    omega (
      arith,
      voice_left_few (quarter c.args.values.now) pre.0.some_ticks (eqb c.args.v 0) c.args.bar.start c.args.bar.end
          (voice_of c.args.n c.args.work.now c.args.v c.args.len) pre.2.some_bar pre.1.line,
      c.push_voice-pushed.ensures.left,
      pre.2.short,
    ) in
    (pre.2.leftovers_fit, few_left)

pub returns : goal.returns
returns c =
    let voice = c.push_voice-pushed.ensures in
    let given = c.args in
    let many : c.push_voice-pushed.result.at - given.from
    ≡ length
    (voice_from (quarter given.values.now) (eqb given.v 0) given.bar.start given.bar.end
    (voice_of given.n given.work.now given.v given.len))
    = omega (arith, voice.items.next) in
    let left : c.push_voice-pushed.result.left
    ≡ voice_left_from (quarter given.values.now) (eqb given.v 0) given.bar.start given.bar.end
    (voice_of given.n given.work.now given.v given.len)
    = omega (arith, voice.left) in
    record {
      past = c.skip_past-first.ensures.past;
      items = voice.items;
      counts = rw many at c.put_number.ensures;
      leftovers = rw left at c.put_number-2.ensures;
    }
