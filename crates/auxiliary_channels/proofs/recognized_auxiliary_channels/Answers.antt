-- `recognized_auxiliary_channels` answers from the array of bases, which is noted of the track's markers.
use mathlib.Core.Path.{sym, ◌∙◌, subst}
use Rattle.rules.specs.Automation.{markers}
use Rattle.auxiliary_channels.proofs.MarkerLaws.{Known, known_track}
use Rattle.auxiliary_channels.proofs.DroppedLaws.{drops_clash, drops_chained, drops_mirrors}
use Rattle.auxiliary_channels.proofs.recognized_auxiliary_channels.Goals as goal

pub returns-in_default : goal.returns-in_default
returns-in_default c =
    drops_clash (subst (Known (markers _)) (sym c.collect_markers.ensures ∙ c.in_default.is) (known_track c.requires))

pub none_chained-requires : goal.none_chained-requires
none_chained-requires c =
    let noted = subst (Known (markers _)) (sym c.collect_markers.ensures ∙ c.in-Some.is) (known_track c.requires) in
    noted.channels

pub returns-then-none_chained : goal.returns-then-none_chained
returns-then-none_chained c =
    let noted = subst (Known (markers _)) (sym c.collect_markers.ensures ∙ c.in-Some.is) (known_track c.requires) in
    drops_mirrors noted (sym c.none_chained.ensures ∙ c.if-none_chained.true) c.mirrored_channels.ensures

pub returns-else-none_chained : goal.returns-else-none_chained
returns-else-none_chained c =
    let noted = subst (Known (markers _)) (sym c.collect_markers.ensures ∙ c.in-Some.is) (known_track c.requires) in
    drops_chained noted (sym c.none_chained.ensures ∙ c.if-none_chained.false)
