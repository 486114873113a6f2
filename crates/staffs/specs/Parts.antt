-- A part's voices in the work area, and what an answer on its staff means.
use Rattle.std.specs.Prelude as std
use Rattle.std.specs.Result.{IfOk, IfErr}
use Rattle.std.specs.Prelude.{ℕ, ◌*◌, ◌<◌, ◌≤◌, List, ◌≡◌, length}
use Rattle.rules.specs.Lists.{keep}
use Rattle.rules.specs.Piece.{Piece, Event, is_on, ticks_per_quarter}
use Rattle.rules.specs.RawNotes.{RawNote, raw_notes, most_notes}
use Rattle.rules.specs.Grid.{grid}
use Rattle.rules.specs.Voices.{voices}
use Rattle.rules.specs.Refusals.{Result, refused, part_refusals, work_for}
use Rattle.rules.specs.Calls.{StaffSize, part_track, staff_size_call, engrave_call}
use Rattle.laws.specs.Admitted.{Passes, Admitted}
use Rattle.track_events.specs.Track.{Track, events_of}
use Rattle.staff.specs.Bars.{voices_of, VoicesHeld}
use Rattle.basics.specs.declared.Refusal.{Refusal}
use Rattle.basics.specs.Refusals.{number, told_by}
use Rattle.bar_source.specs.Source.{IsBarSource}
use Rattle.engraver.specs.Sizes.{size_of}
use Rattle.engraver.specs.declared.Size.{Size}
use Rattle.staffs.specs.declared.PartVoices.{PartVoices}

abbrev pub answer_of : std.Result Size Refusal → Result StaffSize
answer_of r = told_by size_of r

-- a track whose notes fit the work area
pub record HasTrack (ds ws : List ℕ) (p : ℕ) (w : List ℕ) (n : ℕ) : Type 0 where
  pub track : Track ds ws
  pub ons : length (keep (λ (e : Event). is_on e.word) (events_of ds ws)) ≤ n
  pub area : 16 * n ≤ length w
  pub positive : 0 < p
  pub small : p ≤ 65535

-- the voices of some notes, on their own grid, stand in the work area
pub record TrackVoices (p : ℕ) (ns : List RawNote) (n : ℕ) (lens w : List ℕ) : Type 0 where
  pub held : VoicesHeld n w lens
  pub are : voices_of n w lens ≡ voices (grid p ns) ns

-- none of 1 to 8 applies to part k and a work area of this room, the part's voices stand in it, and the bars are walked from the source
pub record PartReady (x : Piece) (k room : ℕ) (w : List ℕ) (r : PartVoices) : Type 0 where
  pub known : Admitted x
  pub passes : Passes (part_refusals x k)
  pub source : IsBarSource x r.source
  pub most : r.most ≡ most_notes x
  pub enough : work_for r.most ≤ room
  pub voices : TrackVoices (ticks_per_quarter x) (raw_notes (part_track x k)) r.most r.lens w

-- the part is ready, or both calls refuse it by its number, whatever their outputs
pub record PartVoiced (x : Piece) (k room : ℕ) (w : List ℕ) (r : std.Result PartVoices Refusal) : Type 0 where
  pub no_size : IfErr r (λ e. staff_size_call x k room ≡ refused (number e))
  pub no_staff : IfErr r (λ e. (counts heads keys leftovers : ℕ) → engrave_call x k counts heads keys leftovers room ≡ refused (number e))
  pub ready : IfOk r (PartReady x k room w)
