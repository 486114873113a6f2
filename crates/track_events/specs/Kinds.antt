-- The kinds by their numbers, and what the code's `Option` says of a number.
use Rattle.std.specs.Prelude.{ℕ, ◌≡◌, Option, None, Some}
use Rattle.track_events.specs.declared.Kind.{Kind}
use Rattle.track_events.specs.declared.Kind.TheVariants.{Meta, System, Tempo, Meter, Key, Marker, EndOfTrack}
use Rattle.track_events.specs.declared.Kind.TheVariants.{NoteOff, NoteOn, KeyPressure, Controller, Program, ChannelPressure, Bend}

abbrev pub kind_number : Kind → ℕ
kind_number Meta = 0
kind_number System = 1
kind_number Tempo = 2
kind_number Meter = 3
kind_number Key = 4
kind_number Marker = 5
kind_number EndOfTrack = 6
kind_number NoteOff = 8
kind_number NoteOn = 9
kind_number KeyPressure = 10
kind_number Controller = 11
kind_number Program = 12
kind_number ChannelPressure = 13
kind_number Bend = 14

-- n is the number of the kind, and where there is none no kind has it
abbrev pub IsKind : ℕ → Option Kind → Type 0
IsKind n None = (k : Kind) → n ≡ kind_number k → ⊥
IsKind n (Some k) = n ≡ kind_number k
