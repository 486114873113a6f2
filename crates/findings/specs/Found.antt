-- Diagnostics put into two outputs, as far as these have room.
use Rattle.std.specs.Prelude.{ℕ, ◌+◌, ◌≤◌, ◌<◌, ◌^◌, List, map, ◌≡◌, length}
use Rattle.std.proofs.lemmas.List.Edits.{sets}
use Rattle.rules.specs.Piece.{largest_size}
use Rattle.rules.specs.Diagnostics as rules
use Rattle.rules.specs.Diagnostics.{absent, place_of, detail_of}
use Rattle.findings.specs.declared.Diagnostic.{Diagnostic}

-- the diagnostic that a struct stands for
abbrev pub diagnostic_of : Diagnostic → rules.Diagnostic
diagnostic_of d =
    record { code = d.code; track = d.track; event = d.event; tick = d.tick; channel = d.channel; key = d.key }

abbrev pub event_at : ℕ → ℕ → ℕ → ℕ → Diagnostic
event_at code track event tick =
    record { code = code; track = track; event = event; tick = tick; channel = absent; key = absent }

abbrev pub off_at : ℕ → ℕ → ℕ → ℕ → Diagnostic
off_at track event tick channel =
    record { code = 4; track = track; event = event; tick = tick; channel = channel; key = absent }

abbrev pub on_at : ℕ → ℕ → ℕ → ℕ → ℕ → Diagnostic
on_at track event tick channel key =
    record { code = 5; track = track; event = event; tick = tick; channel = channel; key = key }

-- place and detail have room for each part
pub record Packs (d : Diagnostic) : Type 0 where
  pub code : d.code ≤ 5
  pub track : d.track ≤ largest_size
  pub event : d.event < 2 ^ 32
  pub tick : d.tick < 2 ^ 47
  pub channel : d.channel ≤ 255
  pub key : d.key ≤ 255

-- ds are put from `at` on, as far as the outputs go; r is where the next goes
pub record Found (ds : List rules.Diagnostic) (at : ℕ) (places₀ details₀ : List ℕ) (r : ℕ) (places₁ details₁ : List ℕ) : Type 0 where
  pub count : r ≡ at + length ds
  pub places : places₁ ≡ sets places₀ at (map place_of ds)
  pub details : details₁ ≡ sets details₀ at (map detail_of ds)

-- and they are at most so many
pub record FoundIn (ds : List rules.Diagnostic) (most at : ℕ) (places₀ details₀ : List ℕ) (r : ℕ) (places₁ details₁ : List ℕ) : Type 0 where
  pub found : Found ds at places₀ details₀ r places₁ details₁
  pub few : r ≤ at + most
