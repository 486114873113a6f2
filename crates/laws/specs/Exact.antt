-- A double that is a whole number of 256ths, exactly: what section 6's `beats` answers.
use Rattle.std.specs.Prelude.{ℕ, false, Float}
use Rattle.std.specs.Float.Ieee.Exact.{HasValue}

-- x is finite, not negative, and n / 256
abbrev pub Is256 : Float → ℕ → Type 0
Is256 x n = HasValue x false n 256
