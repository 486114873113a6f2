-- Section 6 in forms to prove and to compute with: the written values as a ladder of halvings, a span's split by division, the smallest
-- value by halving. proofs/Values.antt shows that each is what the rules say.
use Rattle.std.specs.Prelude.{ℕ, zero, suc, ◌+◌, ◌-◌, ◌*◌, ◌/◌, ◌%◌, ◌≤◌, ◌<◌, true, cond, List, [], ◌∷◌, ◌++◌, ◌≡◌, eqb, replicate}
use Rattle.std.proofs.Math.Option.{Option, none, some}
use Rattle.rules.specs.Lists.{All}
use Rattle.rules.specs.Values.{Value, Split, ticks_of, is_whole, split_span}

-- code c of l ticks, without a dot and with one
abbrev pub plain : ℕ → ℕ → Value
plain c l = record { code = c; dots = 0; ticks = l }

abbrev pub with_dot : ℕ → ℕ → Value
with_dot c l = record { code = c; dots = 1; ticks = l + l / 2 }

-- The values of n codes from code c on, which is l ticks long. Where l is even, the dotted code and the next code are whole numbers of
-- ticks; where it is odd, neither is, and the ladder ends.
unfoldable pub ladder : ℕ → ℕ → ℕ → List Value
ladder zero c l = []
ladder (suc n) c l = cond (eqb (l % 2) 0) (with_dot c l ∷ plain c l ∷ ladder n (suc c) (l / 2)) (plain c l ∷ [])

-- the ladder of staffs: nine codes from the longa
abbrev pub ladder_of : ℕ → List Value
ladder_of p = ladder 9 0 (16 * p)

-- each value is longer than all that follow
abbrev pub Falls : List Value → Type 0
Falls [] = Unit {0}
Falls (v ∷ vs) = All (λ (w : Value). w.ticks < v.ticks) vs × Falls vs

-- A span's values: each value as often as it goes into what those before it left.
unfoldable pub split : List Value → ℕ → List Value
split [] t = []
split (v ∷ vs) t = replicate (t / v.ticks) v ++ split vs (t % v.ticks)

-- the ticks that all of them leave
unfoldable pub left : List Value → ℕ → ℕ
left [] t = t
left (v ∷ vs) t = left vs (t % v.ticks)

-- A span by the longest value that fits: none, or that one in front of the split of what it leaves.
abbrev pub taken : ℕ → ℕ → Option Value → Split
taken p t none = record { pieces = []; left = t }
taken p t (some v) = record { pieces = v ∷ (split_span p (t - v.ticks)).pieces; left = (split_span p (t - v.ticks)).left }

-- l halved while it is even, at most n times
unfoldable pub halved : ℕ → ℕ → ℕ
halved zero l = l
halved (suc n) l = cond (eqb (l % 2) 0) (halved n (l / 2)) l

-- what a value of a staff is: a code and dots of staffs, a whole number of ticks, and as long as the two say
pub record StaffPiece (p : ℕ) (v : Value) : Type 0 where
  pub code : v.code ≤ 8
  pub dots : v.dots ≤ 1
  pub whole : is_whole p v.code v.dots ≡ true
  pub ticks : v.ticks ≡ ticks_of p v.code v.dots
