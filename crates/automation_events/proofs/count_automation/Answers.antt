use native.Mathlib.Omega.{arith}
use Rattle.track_events.proofs.Tracks.{formed_at}
use Rattle.automation_events.proofs.CountLaws.{counting_few, counting_more, counting_end}
use Rattle.automation_events.proofs.count_automation.Goals as goal

pub count-counts-requires : goal.count-counts-requires
count-counts-requires c =
    let track = c.requires.0 in
    (formed_at track _ (omega (arith, track.same)), counting_few c.loop-word.invariant (omega (arith, track.same, track.few)))

pub loop-word-preserved : goal.loop-word-preserved
loop-word-preserved c = counting_more c.loop-word.invariant (omega arith) c.count-counts.ensures

pub returns : goal.returns
returns c = counting_end c.loop-word.invariant c.requires.0 c.requires.1 (omega arith)
