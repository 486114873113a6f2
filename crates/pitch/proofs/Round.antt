-- `to_midi` undoes the spellings: the two claims. Assumes nothing.
use mathlib.Core.Path.{◌≡◌, refl, ap, ◌∙◌}
use Prim.Native.Nat.{ℕ, zero, suc, ◌+◌, ◌*◌, ◌/◌, ◌%◌, ◌<◌}
use native.Mathlib.Nat.{not-suc-le-zero, le_of_suc-le-suc}
use native.Mathlib.Omega.{arith}
use mathlib.Core.Bool.{Bool, true, false, cond}
use mathlib.Core.List.{List, [], ◌∷◌}
use lib.Dec.{ltb}
use lib.IntN.{ℤ, pos, ◌+ℤ◌, ◌*ℤ◌, +ℤ_assoc, -ℤ-+ℤ_cancel}
use lib.ListN.{length, get_or}
use Rattle.rules.specs.Refusals.{refused, given, unless}
use Rattle.rules.specs.Spelling.{Name, C, natural, semitone, sharp_names, flat_names, spelled_by, spelled_either, sounds}
use Rattle.pitch.specs.Calls.{spelling_of}
use Rattle.pitch.specs.Claims.{SoundsItsKey, Undone}

-- the key of a name within the octave of key 0
abbrev name_key : Name → ℤ
name_key n = pos (semitone n.step) +ℤ n.alter

-- each name stands at its key, counted from i
abbrev Placed : ℕ → List Name → Type 0
Placed i [] = Unit {0}
Placed i (n ∷ ns) = (name_key n ≡ pos i) × Placed (suc i) ns

placed_at : (i : ℕ) (ns : List Name) → Placed i ns → (k : ℕ) → k < length ns → name_key (get_or ns k (natural C)) ≡ pos (i + k)
placed_at i [] p k h = absurd (not-suc-le-zero h)
placed_at i (n ∷ ns) p zero h = p.0 ∙ ap pos (omega arith)
placed_at i (n ∷ ns) p (suc k) h = placed_at (suc i) ns p.1 k (le_of_suc-le-suc h) ∙ ap pos (omega arith)

sounds_by : (names : List Name) (key : ℕ) → Placed 0 names → key % 12 < length names → sounds (spelled_by names key) ≡ pos key
sounds_by names key p h =
    let n = get_or names (key % 12) (natural C) in
    ap (λ z. z *ℤ pos 12 +ℤ pos (semitone n.step) +ℤ n.alter) (-ℤ-+ℤ_cancel (pos (key / 12)) (pos 1))
    ∙ +ℤ_assoc (pos (key / 12 * 12)) (pos (semitone n.step)) n.alter
    ∙ ap (λ z. pos (key / 12 * 12) +ℤ z) (placed_at 0 names p (key % 12) h)
    ∙ ap pos (omega arith)

pub sounds_its_key : SoundsItsKey
sounds_its_key key true =
    sounds_by flat_names key (refl, (refl, (refl, (refl, (refl, (refl, (refl, (refl, (refl, (refl, (refl, (refl, tt)))))))))))) (omega arith)
sounds_its_key key false =
    sounds_by sharp_names key (refl, (refl, (refl, (refl, (refl, (refl, (refl, (refl, (refl, (refl, (refl, (refl, tt)))))))))))) (omega arith)

pub undone : Undone
unfolding unless
undone key flat p e = go (ltb 127 key) e
  where
    go : (b : Bool) → given (spelling_of p) ≡ cond b (refused 10) (given (spelled_either key flat)) → sounds (spelling_of p) ≡ pos key
    go true e = absurd (let z : ◌≡◌ {A = ℕ} 0 1 = cc in omega arith)
    go false e = let same : spelling_of p ≡ spelled_either key flat = cc in ap sounds same ∙ sounds_its_key key flat
