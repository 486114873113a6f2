-- What playback of an engraved staff is: the voices' chords up to the last bar's end.
use Rattle.std.specs.Prelude.{ℕ, min, List, map, ltb}
use Rattle.rules.specs.Lists.{keep}
use Rattle.rules.specs.Voices.{Chord}
use Rattle.rules.specs.ProofReader.{Played}

-- a chord that ends at tick e at the latest
abbrev pub ended_by : ℕ → Chord → Played
ended_by e c = record { start = c.start; end = min e c.end; keys = c.keys; unpitched = c.unpitched }

-- the chords that start before tick e, each end cut at e
unfoldable pub heard_to : ℕ → List Chord → List Played
heard_to e cs = map (ended_by e) (keep (λ (c : Chord). ltb c.start e) cs)
