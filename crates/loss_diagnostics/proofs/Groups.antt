-- The groups, one after another.
use Prim.Native.Nat.{ℕ, ◌≤◌}
use mathlib.Core.List.{List}
use native.Mathlib.Omega.{arith}
use Rattle.rules.specs.Piece.{Piece, tracks}
use Rattle.rules.specs.Diagnostics.{timecode_found, off_measure_found, in_tracks, system_found, unmatched_found, diagnostics}
use Rattle.rules.specs.Refusals.{most_events}
use Rattle.findings.specs.Found.{FoundIn}
use Rattle.loss_diagnostics.specs.Pieces.{most_diagnostics}
use Rattle.findings.proofs.Putting.{found_in_append}

pub all_found : (x : Piece) {k a b c r : ℕ} {p₀ d₀ p₁ d₁ p₂ d₂ p₃ d₃ p d : List ℕ} → k ≤ most_events → FoundIn (timecode_found x) 1 0 p₀ d₀ a p₁ d₁
    → FoundIn (off_measure_found x) k a p₁ d₁ b p₂ d₂ → FoundIn (in_tracks system_found 0 (tracks x)) k b p₂ d₂ c p₃ d₃
    → FoundIn (in_tracks unmatched_found 0 (tracks x)) k c p₃ d₃ r p d → FoundIn (diagnostics x) most_diagnostics 0 p₀ d₀ r p d
unfolding diagnostics
all_found x few one two three four =
    let all = found_in_append one (found_in_append two (found_in_append three four)) in
    record { found = all.found; few = omega (arith, all.few) }
