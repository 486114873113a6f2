-- What the functions of changes answer, against section 3's definitions.
use Rattle.std.specs.Prelude.{ℕ, List, ◌≡◌, length}
use Rattle.std.specs.Prelude as std
use Rattle.std.proofs.Math.Option.{Option, none, some}
use Rattle.rules.specs.Changes as rules
use Rattle.rules.specs.Changes.{part_head}
use Rattle.track_events.specs.Track.{events_of}
use Rattle.changes.specs.declared.Head.{Head}
use Rattle.changes.specs.declared.Key.{Key}
use Rattle.changes.specs.declared.PartHead.{PartHead}

-- the key that the code's `Option` stands for
abbrev pub told_key : std.Option Key → Option rules.Key
told_key std.None = none
told_key (std.Some k) = some (record { fifths = k.fifths; minor = k.minor })

-- r is the head h
pub record HeadIs (h : rules.Head) (r : Head) : Type 0 where
  pub tempo : r.tempo ≡ h.tempo
  pub upper : r.upper ≡ h.meter.upper
  pub lower : r.lower ≡ h.meter.lower
  pub key : h.key ≡ told_key r.key

-- r is the head of a part whose words are ws, whatever its deltas
pub record PartHeadIs (ws : List ℕ) (r : PartHead) : Type 0 where
  pub channel : (ds : List ℕ) → length ds ≡ length ws → r.channel ≡ (part_head (events_of ds ws)).channel
  pub program : (ds : List ℕ) → length ds ≡ length ws → r.program ≡ (part_head (events_of ds ws)).program
