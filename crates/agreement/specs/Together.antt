-- A part engraved into lent arrays, and what was written proof-read: the answer, and what the arrays hold.
use Rattle.std.specs.Prelude.{ℕ, Bool, true, List, [], ◌∷◌, ◌≡◌, length}
use Rattle.rules.specs.Lists.{written, cleared}
use Rattle.rules.specs.Piece.{Piece}
use Rattle.rules.specs.Refusals.{Result, refused, given, unless, answers, writes, uneven_part}
use Rattle.rules.specs.Calls.{StaffSize, part_size, part_even, EngravedLists, engrave_call}
use Rattle.engraver.specs.Sizes.{size_of}
use Rattle.std.specs.Prelude as std
use Rattle.basics.specs.declared.Refusal.{Refusal}
use Rattle.basics.specs.Refusals.{told_by}
use Rattle.agreement.specs.declared.Both.{Both}

-- a staff that was engraved: its size, and the proof-reader's yes or no, or its number
pub record Checked : Type 0 where
  pub size : StaffSize
  pub verdict : Result Bool

-- number 9 of an uneven part, or yes or no
abbrev pub verdict_of : std.Option Bool → Result Bool
verdict_of std.None = refused 9
verdict_of (std.Some b) = given b

abbrev pub checked_of : Both → Checked
checked_of r = record { size = size_of r.size; verdict = verdict_of r.right }

-- document 01's number and values for each case: engraving's number, or the size with the proof-reader's answer
abbrev pub both_answer : std.Result Both Refusal → Result Checked
both_answer r = told_by checked_of r

-- Engraving's number where it is refused, 1 to 8. Else the staff's size, with 9 for an uneven part and yes for an even one: there is no other answer.
abbrev pub together_call : Piece → ℕ → ℕ → ℕ → ℕ → ℕ → ℕ → Result Checked
together_call x k room_counts room_heads room_keys room_leftovers work =
    answers (λ (s : EngravedLists). record { size = part_size x k; verdict = unless (uneven_part (part_even x k) ∷ []) true })
    (engrave_call x k room_counts room_heads room_keys room_leftovers work)

-- after the call: the outputs are as engraving leaves them, unchanged where it was refused
pub record Together
    (x : Piece) (k : ℕ) (counts₀ heads₀ keys₀ leftovers₀ work₀ : List ℕ) (answer : Result Checked) (counts₁ heads₁ keys₁ leftovers₁ work₁ : List ℕ)
    : Type 0 where
  pub answered : answer ≡ together_call x k (length counts₀) (length heads₀) (length keys₀) (length leftovers₀) (length work₀)
  pub counts : counts₁
      ≡ written (writes (λ (s : EngravedLists). s.staff.counts)
      (engrave_call x k (length counts₀) (length heads₀) (length keys₀) (length leftovers₀) (length work₀))) counts₀
  pub heads : heads₁
      ≡ written (writes (λ (s : EngravedLists). s.staff.heads)
      (engrave_call x k (length counts₀) (length heads₀) (length keys₀) (length leftovers₀) (length work₀))) heads₀
  pub keys : keys₁
      ≡ written (writes (λ (s : EngravedLists). s.staff.keys)
      (engrave_call x k (length counts₀) (length heads₀) (length keys₀) (length leftovers₀) (length work₀))) keys₀
  pub leftovers : leftovers₁
      ≡ written (writes (λ (s : EngravedLists). s.leftovers)
      (engrave_call x k (length counts₀) (length heads₀) (length keys₀) (length leftovers₀) (length work₀))) leftovers₀
  pub work : work₁ ≡ cleared work₀
