-- After each list the outputs hold all events of the lists so far, and then what stood there.
use Rattle.automation_events.specs.declared.Kind.TheVariants.{Bend, Controller, Program, Pressure}
use Rattle.automation_events.proofs.StageLaws.{stage_start, stage_more, stage_room, stage_end, fits_bends}
use Rattle.automation_events.proofs.StageLaws.{fits_controllers, fits_programs, fits_pressures}
use Rattle.automation_events.proofs.collect_automation.Goals as goal

pub collect_kind-n-requires : goal.collect_kind-n-requires
collect_kind-n-requires c =
    let can = c.requires in
    let s₀ = stage_start _ _ _ in
    (can.track, stage_room can s₀ Bend c.new-bend.ensures (fits_bends can))

pub collect_kind-n-requires-2 : goal.collect_kind-n-requires-2
collect_kind-n-requires-2 c =
    let can = c.requires in
    let s₀ = stage_start _ _ _ in
    let s₁ = stage_more can s₀ Bend c.new-bend.ensures c.collect_kind-n.ensures in
    (can.track, stage_room can s₁ Controller c.new-controller.ensures (fits_controllers can))

pub collect_kind-n-requires-3 : goal.collect_kind-n-requires-3
collect_kind-n-requires-3 c =
    let can = c.requires in
    let s₀ = stage_start _ _ _ in
    let s₁ = stage_more can s₀ Bend c.new-bend.ensures c.collect_kind-n.ensures in
    let s₂ = stage_more can s₁ Controller c.new-controller.ensures c.collect_kind-n-2.ensures in
    (can.track, stage_room can s₂ Program c.new-program.ensures (fits_programs can))

pub collect_kind-requires : goal.collect_kind-requires
collect_kind-requires c =
    let can = c.requires in
    let s₀ = stage_start _ _ _ in
    let s₁ = stage_more can s₀ Bend c.new-bend.ensures c.collect_kind-n.ensures in
    let s₂ = stage_more can s₁ Controller c.new-controller.ensures c.collect_kind-n-2.ensures in
    let s₃ = stage_more can s₂ Program c.new-program.ensures c.collect_kind-n-3.ensures in
    (can.track, stage_room can s₃ Pressure c.new-pressure.ensures (fits_pressures can))

pub returns : goal.returns
returns c =
    let can = c.requires in
    let s₀ = stage_start _ _ _ in
    let s₁ = stage_more can s₀ Bend c.new-bend.ensures c.collect_kind-n.ensures in
    let s₂ = stage_more can s₁ Controller c.new-controller.ensures c.collect_kind-n-2.ensures in
    let s₃ = stage_more can s₂ Program c.new-program.ensures c.collect_kind-n-3.ensures in
    let s₄ = stage_more can s₃ Pressure c.new-pressure.ensures c.collect_kind.ensures in
    let e = stage_end can s₄ in
    record { ticks = e.0; words = e.1 }
