-- The markers of a track as an array: the base of each spare.
use Rattle.std.specs.Prelude.{ℕ, ◌<◌, Bool, true, false, cond, not, ◌&&◌, ◌≡◌, eqb, get_or, set, replicate, Option, None, Some}
use mathlib.Core.List.{List, foldl}
use Rattle.rules.specs.Lists.{below}
use Rattle.rules.specs.Piece.{Event, byte_a, byte_b, is_kind}
use Rattle.rules.specs.Automation.{Marker, counts?, mirrors, is_dropped}
use Rattle.auxiliary_channels.specs.declared.Pairs.{Pairs}

abbrev pub marker : ℕ → ℕ → Marker
marker b s = record { base = b; spare = s }

abbrev pub no_pairs : Pairs
no_pairs = record { bases = replicate 16 None }

-- a channel has a base, and the base passes a test
abbrev pub at_base : (ℕ → Bool) → Option ℕ → Bool
at_base f None = false
at_base f (Some b) = f b

-- each base is a channel
pub record Channels (bases : List (Option ℕ)) : Type 0 where
  pub below : (s b : ℕ) → s < 16 → get_or bases s None ≡ Some b → b < 16

-- the pairs, unless there is no answer
abbrev pub kept : Option (Unit {0}) → Pairs → Option Pairs
kept None q = None
kept (Some u) q = Some q

-- a spare's first base is held; with another there is no answer
abbrev pub added_to : Option ℕ → Pairs → ℕ → ℕ → Option Pairs
added_to None q b s = Some (record { bases = set q.bases s (Some b) })
added_to (Some held) q b s = cond (eqb held b) (Some q) None

abbrev pub added : Pairs → ℕ → ℕ → Option Pairs
added q b s = added_to (get_or q.bases s None) q b s

-- a word that is no marker, or one that is skipped, changes nothing
abbrev pub taken : Pairs → ℕ → Option Pairs
taken q w = cond (is_kind 5 w && counts? (marker (byte_a w) (byte_b w))) (added q (byte_a w) (byte_b w)) (Some q)

-- after two bases of one spare nothing is an answer
abbrev pub then_taken : Option Pairs → ℕ → Option Pairs
then_taken None w = None
then_taken (Some q) w = taken q w

abbrev pub pairs_of : List ℕ → Option Pairs
pairs_of ws = foldl then_taken (Some no_pairs) ws

-- a channel is a spare
abbrev pub is_spare : List (Option ℕ) → ℕ → Bool
is_spare bases s = at_base (λ b. true) (get_or bases s None)

-- a spare's base is a spare
abbrev pub is_chained : List (Option ℕ) → ℕ → Bool
is_chained bases s = at_base (is_spare bases) (get_or bases s None)

abbrev pub none_chained : List (Option ℕ) → Bool
none_chained bases = below 16 (λ s. not (is_chained bases s))

-- a channel is a spare that mirrors its base
abbrev pub mirrors_at : List Event → List (Option ℕ) → ℕ → Bool
mirrors_at es bases ch = at_base (λ b. mirrors es (marker b ch)) (get_or bases ch None)

-- r says of each channel whether it is a spare that mirrors its base
pub record Mirrors (es : List Event) (bases : List (Option ℕ)) (r : List Bool) : Type 0 where
  pub at : (ch : ℕ) → ch < 16 → get_or r ch false ≡ mirrors_at es bases ch

-- r says of each channel whether its automation is dropped
pub record Drops (es : List Event) (r : List Bool) : Type 0 where
  pub at : (ch : ℕ) → ch < 16 → get_or r ch false ≡ is_dropped es ch
