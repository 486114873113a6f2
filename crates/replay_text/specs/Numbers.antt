-- Numbers and lists of a text, each read from a cursor on: what is read, and the cursor behind it. After a fault every number is 0 and the cursor stays.
use Rattle.std.specs.Prelude.{ℕ, zero, suc, ◌-◌, ◌^◌, ◌≤◌, Bool, true, false, cond, List, [], ◌∷◌, ◌≡◌, Option, Some, None, leb, length, drop}
use Rattle.std.specs.Option.{is_some}
use Rattle.rules.specs.Lists.{written}
use Rattle.replayed.specs.Decimals.{scanned}
use Rattle.replayed.specs.declared.Scanned.{Scanned}
use Rattle.replayed.specs.declared.Scanned.TheVariants.{Before, Inside, Number, Word, Large}
use Rattle.replay_text.specs.declared.Cursor.{Cursor}
use Rattle.replay_text.specs.declared.Fault.{Fault}
use Rattle.replay_text.specs.declared.Fault.TheVariants as faults
use Rattle.replay_text.specs.declared.Numbered.{Numbered}
use Rattle.replay_text.specs.declared.Listed.{Listed}

-- the faults: the text ends early, a word, too large a number, too long a list
abbrev pub ends : Fault
ends = faults.Ends

abbrev pub word : Fault
word = faults.Word

abbrev pub large : Fault
large = faults.Large

abbrev pub long : Fault
long = faults.Long

-- the largest numbers of 64, 32 and 8 bits
abbrev pub most_wide : ℕ
most_wide = 2 ^ 64 - 1

abbrev pub most_narrow : ℕ
most_narrow = 2 ^ 32 - 1

abbrev pub most_byte : ℕ
most_byte = 255

abbrev pub numbered : ℕ → ℕ → Option Fault → Numbered
numbered value at fault = record { value = value; next = record { at = at; fault = fault } }

-- what the scanner knew where it stopped, as a number; the text's end ends a number, too
abbrev pub settled : Scanned → ℕ → Numbered
settled (Number v) at = numbered v at None
settled (Inside v) at = numbered v at None
settled Before at = numbered 0 at (Some ends)
settled Word at = numbered 0 at (Some word)
settled Large at = numbered 0 at (Some large)

-- the next number; where a label may stand, it is passed over
unfoldable pub number_at : Bool → List ℕ → Cursor → Numbered
number_at label text p =
    cond (is_some p.fault)
    (record { value = 0; next = p })
    (settled (scanned label (drop p.at text) Before p.at).found (scanned label (drop p.at text) Before p.at).at)

-- no more than a limit; 0 and a fault where it is more
unfoldable pub held_to : ℕ → Fault → Numbered → Numbered
held_to most why n = cond (leb n.value most) n (numbered 0 n.next.at (Some why))

abbrev pub bounded_at : Bool → ℕ → Fault → List ℕ → Cursor → Numbered
bounded_at label most why text p = held_to most why (number_at label text p)

-- numbers one after another, and the cursor behind them
pub record Numbers : Type 0 where
  pub all : List ℕ
  pub next : Cursor

-- so many
unfoldable pub row : (Cursor → Numbered) → ℕ → Cursor → Numbers
row one zero p = record { all = []; next = p }
row one (suc n) p =
    record {
      all = (one p).value ∷ (row one n (one p).next).all;
      next = (row one n (one p).next).next;
    }

-- a list: its length, which is at most the room, and so many numbers, none above `most`
unfoldable pub list_at : ℕ → List ℕ → ℕ → Cursor → Numbers
list_at most text room p =
    row (bounded_at false most large text) (bounded_at true room long text p).value (bounded_at true room long text p).next

-- after a list was read to the front of an array
pub record ListRead (l : Numbers) (out₀ : List ℕ) (r : Listed) (out₁ : List ℕ) : Type 0 where
  pub count : r.count ≡ length l.all
  pub fits : length l.all ≤ length out₀
  pub next : r.next ≡ l.next
  pub out : out₁ ≡ written l.all out₀
