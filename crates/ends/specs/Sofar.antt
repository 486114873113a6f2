-- The tracks one after the other: a track whose end is above 0 is one part more.
use Rattle.std.specs.Prelude.{ℕ, ◌+◌, max, cond, ltb}
use Rattle.ends.specs.declared.Sofar.{Sofar}

-- a track that ends at e, 0 where it has no notes
abbrev pub taken : Sofar → ℕ → Sofar
taken s e = cond (ltb 0 e) (record { parts = s.parts + 1; end = max s.end e }) s
