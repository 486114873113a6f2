-- The first bad event, from some event on and within a block; blocks in which none is bad; the bits that a word must not have.
use Rattle.std.specs.Prelude.{ℕ, ◌+◌, ◌-◌, ◌*◌, ◌^◌, ◌≤◌, ◌<◌, true, List, [], ◌∷◌, ◌≡◌, drop, get_or}
use Rattle.rules.specs.Piece.{well_formed}
use Rattle.rules.specs.Refusals.{first_number, event_refusals, largest_delta}

-- the number of the first bad event from event i on
abbrev pub bad : List ℕ → List ℕ → ℕ → ℕ
bad ds ws i = first_number (event_refusals (drop i ds) (drop i ws))

-- r is the first bad event's number, or 0 where the events from the one to the other are all good
pub record FirstBad (ds ws : List ℕ) (from to r : ℕ) : Type 0 where
  pub none : r ≡ 0 → bad ds ws from ≡ bad ds ws to
  pub some : (r ≡ 0 → ⊥) → r ≡ bad ds ws from

-- the deltas from the one to the other are not too large
pub record AllSmall (ds : List ℕ) (from to : ℕ) : Type 0 where
  pub each : (i : ℕ) → from ≤ i → i < to → get_or ds i 0 ≤ largest_delta

-- the words from the one to the other are well formed
pub record AllFormed (ws : List ℕ) (from to : ℕ) : Type 0 where
  pub each : (i : ℕ) → from ≤ i → i < to → well_formed (get_or ws i 0) ≡ true

-- all bits of a, b and c but the lowest i, j and k
abbrev pub mask : ℕ → ℕ → ℕ → ℕ
mask i j k = (256 - 2 ^ i) * 65536 + (256 - 2 ^ j) * 256 + (256 - 2 ^ k)

-- the mask of each kind; 7 is no kind
abbrev pub masks : List ℕ
masks =
    mask 0 0 0
    ∷ mask 0 0 0
    ∷ mask 8 8 8
    ∷ mask 8 3 0
    ∷ mask 8 1 0
    ∷ mask 8 8 0
    ∷ mask 0 0 0
    ∷ 4294967295
    ∷ mask 4 7 7
    ∷ mask 4 7 7
    ∷ mask 4 7 7
    ∷ mask 4 7 7
    ∷ mask 4 7 0
    ∷ mask 4 7 0
    ∷ mask 4 7 7
    ∷ []

-- the masks of the kinds before n stand in the table, and all bits behind them
pub record Masked (table : List ℕ) (n : ℕ) : Type 0 where
  pub before : (k : ℕ) → k < n → get_or table k 0 ≡ get_or masks k 0
  pub behind : (k : ℕ) → n ≤ k → k < 256 → get_or table k 0 ≡ 4294967295

-- the table of all numbers that a word's first byte may be
abbrev pub HasMasks : List ℕ → Type 0
HasMasks table = Masked table 15
