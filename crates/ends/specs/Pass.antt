-- The end of a track from one pass that pairs nothing: how many starts are pending for each channel and key is enough.
use Rattle.std.specs.Prelude.{ℕ, ◌+◌, ◌-◌, ◌*◌, ◌≤◌, max, cond, List, [], map, ltb, get_or, set, replicate}
use Rattle.rules.specs.Lists.{largest}
use Rattle.rules.specs.Piece.{Event, byte_a, byte_b, is_on, is_off}
use Rattle.rules.specs.RawNotes.{RawNote, raw_notes}
use Rattle.rules.specs.Refusals.{largest_delta}
use Rattle.ends.specs.declared.Pass.{Pass}

-- A track's end: the largest end of its raw notes, 0 where it has none.
unfoldable pub track_end : List Event → ℕ
track_end es = largest (map (λ (n : RawNote). n.end) (raw_notes es))

-- ---- counts, sixteen rows of 128
abbrev pub cell : List (List ℕ) → ℕ → ℕ → ℕ
cell rows c k = get_or (get_or rows c []) k 0

abbrev pub put : List (List ℕ) → ℕ → ℕ → ℕ → List (List ℕ)
put rows c k v = set rows c (set (get_or rows c []) k v)

-- all zero: no start is pending
abbrev pub no_counts : List (List ℕ)
no_counts = replicate 16 (replicate 128 0)

-- ---- the pass
-- The pass between two events: the starts pending for each channel and key, and its numbers.
pub record Reached : Type 0 where
  pub counts : List (List ℕ)
  pub pass : Pass

abbrev pub reached : List (List ℕ) → Pass → Reached
reached rows p = record { counts = rows; pass = p }

unfoldable pub nothing : Reached
nothing = reached no_counts (record { tick = 0; started = 0; ended = 0; end = 0 })

-- an event at tick t that is no on and ends no start
abbrev pub pass_over : Reached → ℕ → Reached
pass_over x t =
    reached x.counts (record { tick = t; started = x.pass.started; ended = x.pass.ended; end = x.pass.end })

-- A start of channel c and key k at tick t: its note ends at t + 1 or later.
abbrev pub begin : Reached → ℕ → ℕ → ℕ → Reached
begin x t c k =
    reached (put x.counts c k (cell x.counts c k + 1))
    (record { tick = t; started = x.pass.started + 1; ended = x.pass.ended; end = max x.pass.end (t + 1) })

-- a start of channel c and key k ends at tick t
abbrev pub close : Reached → ℕ → ℕ → ℕ → Reached
close x t c k =
    reached (put x.counts c k (cell x.counts c k - 1))
    (record { tick = t; started = x.pass.started; ended = x.pass.ended + 1; end = max x.pass.end t })

-- An off counts only where a start of its channel and key is pending.
abbrev pub finish : Reached → ℕ → ℕ → ℕ → Reached
finish x t c k = cond (ltb 0 (cell x.counts c k)) (close x t c k) (pass_over x t)

-- the event at tick t with the word w
unfoldable pub step : Reached → ℕ → ℕ → Reached
step x t w = cond (is_on w) (begin x t (byte_a w) (byte_b w)) (cond (is_off w) (finish x t (byte_a w) (byte_b w)) (pass_over x t))

abbrev pub step_on : Reached → Event → Reached
step_on x e = step x e.tick e.word

-- The largest end: starts still pending end at the last tick.
abbrev pub end_of : Pass → ℕ
end_of p = cond (ltb p.ended p.started) (max p.end p.tick) p.end

-- n events have passed: no count is above n, and no tick above that of n large deltas
pub record Within (n : ℕ) (x : Reached) : Type 0 where
  pub counts : (c k : ℕ) → cell x.counts c k ≤ n
  pub started : x.pass.started ≤ n
  pub ended : x.pass.ended ≤ n
  pub tick : x.pass.tick ≤ n * largest_delta
