-- Decimals of a text, byte by byte. A number is its digits and ends at the first byte that is none.
-- Where a label may stand, every byte that is no digit is a gap; elsewhere only blanks and line ends are, and any other is a word.
use Rattle.std.specs.Prelude.{ℕ, ◌+◌, ◌*◌, ◌-◌, ◌^◌, Bool, true, false, cond, ◌&&◌, ◌||◌, List, [], ◌∷◌, leb, ltb}
use Rattle.replayed.specs.declared.Scanned.{Scanned}
use Rattle.replayed.specs.declared.Scanned.TheVariants.{Before, Inside, Number, Word, Large}
use Rattle.replayed.specs.declared.Stopped.{Stopped}

-- 0 is 48 and 9 is 57
abbrev pub digit : ℕ → Bool
digit b = leb 48 b && leb b 57

-- a byte between two numbers
abbrev pub gap : Bool → ℕ → Bool
gap label b = label || leb b 32

-- the digits v and then the digit b
abbrev pub shifted : ℕ → ℕ → ℕ
shifted v b = v * 10 + (b - 48)

-- a number's first byte, or one before it
unfoldable pub begun_by : Bool → ℕ → Scanned
begun_by label b = cond (digit b) (Inside (b - 48)) (cond (gap label b) Before Word)

-- a byte behind digits that are v
unfoldable pub gone_on_by : Bool → ℕ → ℕ → Scanned
gone_on_by label v b =
    cond (digit b)
    (cond (ltb (shifted v b) (2 ^ 64)) (Inside (shifted v b)) Large)
    (cond (gap label b) (Number v) Word)

-- one byte more
abbrev pub stepped : Bool → Scanned → ℕ → Scanned
stepped label Before b = begun_by label b
stepped label (Inside v) b = gone_on_by label v b
stepped label (Number v) b = Number v
stepped label Word b = Word
stepped label Large b = Large

-- no byte more is read
abbrev pub ended : Scanned → Bool
ended Before = false
ended (Inside v) = false
ended (Number v) = true
ended Word = true
ended Large = true

-- what is known and where, once the number or the text has ended
unfoldable pub scanned : Bool → List ℕ → Scanned → ℕ → Stopped
scanned label [] s at = record { found = s; at = at }
scanned label (b ∷ bs) s at = cond (ended s) (record { found = s; at = at }) (scanned label bs (stepped label s b) (at + 1))

-- the number that digits stand for, behind digits that are v
unfoldable pub decimal : ℕ → List ℕ → ℕ
decimal v [] = v
decimal v (b ∷ bs) = decimal (shifted v b) bs
