-- The chords of a voice, read one by one: what a program that goes through the voices needs.
use Prim.Native.Nat.{ℕ, ◌+◌, ◌*◌, ◌^◌, ◌≤◌, ◌<◌}
use mathlib.Core.List.{List, []}
use mathlib.Core.Path.{◌≡◌, sym, ap, ◌∙◌}
use native.Mathlib.Omega.{arith}
use lib.ListN.{length, get_or}
use lib.Seq.{get_or-take, length-take-le}
use Rattle.rules.specs.Voices.{Chord}
use Rattle.laws.specs.Parts.{part}
use Rattle.laws.proofs.Lists.{All-get}
use Rattle.laws.proofs.Parts.{part_get, part_length}
use Rattle.chords.specs.Columns.{chord_at}
use Rattle.laws.proofs.Places.{get_d_map}
use Rattle.voices.specs.Placing.{number_at}
use Rattle.voices.specs.VoicesIn.{numbers_of, VoicesIn}
use Rattle.voices.specs.declared.Voices.{Voices}
use Rattle.voices.proofs.Cells.{column_end}

-- chord j of voice v
module _ {vs : List (List Chord)} {n : ℕ} {r : Voices} {w : List ℕ} (given : VoicesIn vs n r w) (area : 16 * n ≤ length w) (v j : ℕ) (v4 : v < 4)
    (h : j < get_or r.lens v 0) where
  number_is : get_or (numbers_of n w r v) j 0 ≡ number_at n w v j
  number_is =
      get_or-take (get_or r.lens v 0) (part ((10 + v) * n) n w) j 0 h ∙ part_get ((10 + v) * n) n w j 0 (omega (arith, given.room v v4))

  numbers_length : length (numbers_of n w r v) ≡ get_or r.lens v 0
  numbers_length =
      length-take-le (get_or r.lens v 0) (part ((10 + v) * n) n w)
      (omega (arith, given.room v v4, part_length ((10 + v) * n) n w (omega (arith, column_end n v v4))))

  -- its number
  pub number_small : number_at n w v j < n
  number_small =
      let l = All-get (λ i. i < n) (numbers_of n w r v) j 0 (given.numbers v v4) (omega (arith, numbers_length)) in omega (arith, number_is)

  -- its words
  pub chord_read : (d : Chord) → chord_at n w (number_at n w v j) ≡ get_or (get_or vs v []) j d
  chord_read d =
      ap (chord_at n w) (sym number_is) ∙ sym (get_d_map (chord_at n w) (numbers_of n w r v) j d 0 (omega (arith, numbers_length)))
      ∙ ap (λ (cs : List Chord). get_or cs j d) (given.chords v v4)

  -- its start and end
  pub chord_small : (d : Chord) → ((get_or (get_or vs v []) j d).start < 2 ^ 48) × ((get_or (get_or vs v []) j d).end < 2 ^ 48)
  chord_small d =
      All-get (λ (c : Chord). (c.start < 2 ^ 48) × (c.end < 2 ^ 48)) (get_or vs v []) j d (given.small v v4) (omega (arith, given.lens v v4))
