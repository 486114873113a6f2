-- What the entries for C answer: a number, 0 where the call is answered, and the values. Beside a refusal every value is 0.
use Rattle.std.specs.Prelude.{ℕ, Bool, pos}
use Rattle.std.proofs.Math.Option.{Option, none, some}
use Rattle.rules.specs.Lists.{flag}
use Rattle.rules.specs.Calls.{StaffSize, AutomationCounts, PieceSize}
use Rattle.rules.specs.Changes as rules
use Rattle.rules.specs.Refusals.{Result, refused, given}
use Rattle.acorde.specs.declared.AcordeHead.{AcordeHead}
use Rattle.acorde.specs.declared.AcordeAutomation.{AcordeAutomation}
use Rattle.acorde.specs.declared.AcordeCount.{AcordeCount}
use Rattle.acorde.specs.declared.AcordePartHead.{AcordePartHead}
use Rattle.acorde.specs.declared.AcordeStaff.{AcordeStaff}
use Rattle.acorde.specs.declared.AcordeReading.{AcordeReading}
use Rattle.acorde.specs.declared.AcordePiece.{AcordePiece}

-- the entry of a head: has_key is 1 where there is a key; where there is none, fifths and minor are 0
abbrev pub key_entry : ℕ → rules.Meter → Option rules.Key → AcordeHead
key_entry tempo m none =
    record { number = 0; tempo = tempo; upper = m.upper; lower = m.lower; has_key = 0; fifths = pos 0; minor = 0 }
key_entry tempo m (some k) =
    record { number = 0; tempo = tempo; upper = m.upper; lower = m.lower; has_key = 1; fifths = k.fifths; minor = flag k.minor }

abbrev pub head_entry : Result rules.Head → AcordeHead
head_entry (refused n) = record { number = n; tempo = 0; upper = 0; lower = 0; has_key = 0; fifths = pos 0; minor = 0 }
head_entry (given h) = key_entry h.tempo h.meter h.key

abbrev pub count_entry : Result ℕ → AcordeCount
count_entry (refused n) = record { number = n; count = 0 }
count_entry (given n) = record { number = 0; count = n }

abbrev pub part_head_entry : Result rules.PartHead → AcordePartHead
part_head_entry (refused n) = record { number = n; channel = 0; program = 0 }
part_head_entry (given h) = record { number = 0; channel = h.channel; program = h.program }

abbrev pub automation_entry : Result AutomationCounts → AcordeAutomation
automation_entry (refused n) = record { number = n; bends = 0; controllers = 0; programs = 0; pressures = 0 }
automation_entry (given c) =
    record { number = 0; bends = c.bends; controllers = c.controllers; programs = c.programs; pressures = c.pressures }

abbrev pub staff_entry : Result StaffSize → AcordeStaff
staff_entry (refused n) = record { number = n; bars = 0; items = 0 }
staff_entry (given s) = record { number = 0; bars = s.bars; items = s.items }

abbrev pub reading_entry : Result Bool → AcordeReading
reading_entry (refused n) = record { number = n; right = 0 }
reading_entry (given b) = record { number = 0; right = flag b }

abbrev pub piece_entry : Result PieceSize → AcordePiece
piece_entry (refused n) = record { number = n; sizes = 0; events = 0 }
piece_entry (given s) = record { number = 0; sizes = s.sizes; events = s.events }
