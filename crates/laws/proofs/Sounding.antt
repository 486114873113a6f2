-- Chords before, in and after a bar, from tick b to tick e.
use Prim.Native.Nat.{ℕ, ◌≤◌, ◌<◌}
use mathlib.Core.Bool.{false, and-false}
use mathlib.Core.List.{List, ◌∷◌}
use mathlib.Core.Path.{◌≡◌}
use borrow.Author.Tests.{lt-ltb, le-ltb}
use lib.Dec.{ltb}
use Rattle.rules.specs.Lists.{keep}
use Rattle.rules.specs.Voices.{Chord}
use Rattle.rules.specs.Staff.{sounds_in}

module _ (b e : ℕ) where
  pub over : (c : Chord) → c.end ≤ b → sounds_in b e c ≡ false
  over c h = rw (le-ltb b c.end h)

  pub not_yet : (c : Chord) → e ≤ c.start → sounds_in b e c ≡ false
  not_yet c h = rw (le-ltb c.start e h) (and-false (ltb b c.end))

  -- the first chord sounds
  pub keep_here : (c : Chord) (cs : List Chord) → b < c.end → c.start < e → keep (sounds_in b e) (c ∷ cs) ≡ c ∷ keep (sounds_in b e) cs
  unfolding keep
  keep_here c cs h k = rw (lt-ltb b c.end h, lt-ltb c.start e k)

  -- or not
  pub keep_not : (c : Chord) (cs : List Chord) → sounds_in b e c ≡ false → keep (sounds_in b e) (c ∷ cs) ≡ keep (sounds_in b e) cs
  unfolding keep
  keep_not c cs h = rw h
