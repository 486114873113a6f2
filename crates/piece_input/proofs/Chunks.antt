-- A text read in chunks is read as one.
use Prim.Native.Nat.{ℕ}
use mathlib.Core.List.{List, [], ◌∷◌, ◌++◌}
use mathlib.Core.Path.{◌≡◌, refl}
use Rattle.piece_text.specs.Text.{Reading, stepped, read_on, nothing_read, ended}
use Rattle.piece_text.specs.Held.{ReadingHeld, Answers}
use Rattle.piece_text.specs.declared.Reader.{Reader}
use Rattle.piece_text.specs.declared.Counts.{Counts}
use Rattle.std.specs.Prelude.{Option}
use Rattle.piece_input.specs.Input.{SoFar, ReadText}

read_both : (a : Reading) (xs ys : List ℕ) → read_on (read_on a xs) ys ≡ read_on a (xs ++ ys)
unfolding read_on
read_both a [] ys = refl
read_both a (x ∷ xs) ys = read_both (stepped a x) xs ys

pub chunk_more : (r₀ r₁ : Reader) {ss₀ ds₀ ws₀ ss ds ws : List ℕ} (chunk : List ℕ) → SoFar r₀ ss₀ ds₀ ws₀
    → ((a : Reading) → ReadingHeld a r₀ ss₀ ds₀ ws₀ → ReadingHeld (read_on a chunk) r₁ ss ds ws) → SoFar r₁ ss ds ws
chunk_more r₀ r₁ chunk h step =
    record { bytes = h.bytes ++ chunk; held = rw (read_both nothing_read h.bytes chunk) at (step (read_on nothing_read h.bytes) h.held) }

pub none_read : (r : Reader) (ss ds ws : List ℕ) → ((ss ds ws : List ℕ) → ReadingHeld nothing_read r ss ds ws) → SoFar r ss ds ws
unfolding read_on
none_read r ss ds ws h = record { bytes = []; held = h ss ds ws }

pub text_read : (r : Reader) (t : Option Counts) {ss₀ ds₀ ws₀ ss ds ws : List ℕ} → SoFar r ss₀ ds₀ ws₀
    → ((a : Reading) → ReadingHeld a r ss₀ ds₀ ws₀ → Answers (ended a) t ss ds ws) → ReadText t ss ds ws
text_read r t h step = record { bytes = h.bytes; held = step (read_on nothing_read h.bytes) h.held }
