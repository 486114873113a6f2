-- The voices that stand in the work area are the notes', and a grid is in range.
use Prim.Native.Nat.{ℕ, ◌*◌, ◌<◌, ◌≤◌}
use mathlib.Core.List.{List, []}
use mathlib.Core.Path.{◌≡◌, sym}
use native.Mathlib.Nat.{one-dvd}
use native.Mathlib.Omega.{arith}
use lib.ListN.{length, get_or}
use Rattle.rules.specs.RawNotes.{RawNote}
use Rattle.rules.specs.Voices.{voices}
use Rattle.laws.specs.Lines.{Line}
use Rattle.laws.proofs.Lists.{All-get}
use Rattle.laws.proofs.VoiceLaws.{voices_four, voices_line}
use Rattle.laws.proofs.Places.{up_to_is}
use Rattle.chords.specs.Columns.{chord_at}
use Rattle.voices.specs.Placing.{number_at}
use Rattle.voices.specs.VoicesIn.{VoicesIn}
use Rattle.voices.specs.declared.Voices.{Voices}
use Rattle.voices.proofs.Reading.{number_small, chord_read}
use Rattle.bar_voice.specs.Voices.{voice_of, no_chord}
use Rattle.staff.specs.Bars.{voices_of, VoicesHeld}

module _ (g : ℕ) (ns : List RawNote) {n : ℕ} {r : Voices} {w : List ℕ} (given : VoicesIn (voices g ns) n r w) (area : 16 * n ≤ length w) where
  voice_same : (v : ℕ) → v < 4 → voice_of n w v (get_or r.lens v 0) ≡ get_or (voices g ns) v []
  voice_same v h =
      up_to_is (λ j. chord_at n w (number_at n w v j)) (get_or r.lens v 0) no_chord (get_or (voices g ns) v []) (sym (given.lens v h))
      (λ j l. chord_read given area v j h l no_chord)

  pub voices_same : voices_of n w r.lens ≡ voices g ns
  voices_same = up_to_is (λ v. voice_of n w v (get_or r.lens v 0)) 4 [] (voices g ns) (voices_four g ns) voice_same

  pub voices_held : 0 < g → VoicesHeld n w r.lens
  voices_held some_grid v h =
      record {
        four = h;
        area = area;
        room = given.room v h;
        numbers = λ j l. number_small given area v j h l;
        line = rw (voice_same v h) (All-get (Line 1 0) (voices g ns) v [] (voices_line 1 g ns some_grid (one-dvd g)) (omega (arith, voices_four g ns)));
      }
