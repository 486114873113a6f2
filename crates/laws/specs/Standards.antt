-- What is claimed of the sections' lists: of each event they take what its meaning says by the two standards, and nothing else.
use Rattle.std.specs.Prelude.{ℕ, ◌%◌, ◌≤◌, ◌<◌, Bool, true, false, not, List, [], ◌∷◌, ◌↔◌, ◌⊎◌, ◌≡◌, ℤ}
use Rattle.rules.specs.Lists.{All, keep, first_or, is_empty}
use Rattle.rules.specs.Piece.{Piece, Event, first_track, is_on, well_formed}
use Rattle.rules.specs.Standard.{Meaning, note_off, note_on, key_pressure, control_change, program_change, channel_pressure, pitch_bend, set_tempo}
use Rattle.rules.specs.Standard.{time_signature, key_signature, sequencer_specific, system_event}
use Rattle.rules.specs.Meanings.{meaning, marker_data}
use Rattle.rules.specs.RawNotes.{NoteEvent, note_events, has_notes}
use Rattle.rules.specs.Changes.{Change, Meter, Key, PartHead, tempo_of, clamp_fifths, tempo_changes, meter_changes, key_changes, part_head}
use Rattle.rules.specs.Automation.{Marker, markers, is_automation_of, mirrors, is_dropped, automation, is_bend, is_controller, is_program, is_pressure}
use Rattle.rules.specs.Diagnostics.{Diagnostic, at_event, any_meter_length, off_measure_found, system_found}

-- ---- reading by meaning

-- R e m x says that x is read of the event e, if m is its meaning. A list is read of events if each event gives one element, or none can be read of it.
pub data Reads {A : Type 0} (R : Event → Meaning → A → Type 0) : List Event → List A → Type 0 where
  none : Reads R [] []
  taken : {e : Event} {x : A} {es : List Event} {xs : List A} → R e (meaning e.word) x → Reads R es xs → Reads R (e ∷ es) (x ∷ xs)
  passed : {e : Event} {es : List Event} {xs : List A} → ((x : A) → R e (meaning e.word) x → ⊥) → Reads R es xs → Reads R (e ∷ es) xs

-- a list is read of events exactly if it is the list that a section gives
abbrev pub IsRead : {A : Type 0} → (Event → Meaning → A → Type 0) → (List Event → List A) → Type 0
IsRead {A} R f = (es : List Event) (xs : List A) → Reads R es xs ↔ (xs ≡ f es)

-- ---- section 2

-- a Note On above velocity 0 and a Note Off are note events
pub data NoteOf (e : Event) : Meaning → NoteEvent → Type 0 where
  on : {ch k v : ℕ} → NoteOf e (note_on ch k v) (record { number = e.number; tick = e.tick; channel = ch; key = k; on = true })
  off : {ch k v : ℕ} → NoteOf e (note_off ch k v) (record { number = e.number; tick = e.tick; channel = ch; key = k; on = false })

-- the note-ons above velocity 0, which N counts
pub data OnOf (e : Event) : Meaning → Event → Type 0 where
  on : {ch k v : ℕ} → OnOf e (note_on ch k v) e

-- ---- section 3

pub data TempoOf (e : Event) : Meaning → Change ℕ → Type 0 where
  tempo : {v : ℕ} → (v ≡ 0 → ⊥) → TempoOf e (set_tempo v) (record { tick = e.tick; to = tempo_of v })

pub data MeterOf (e : Event) : Meaning → Change Meter → Type 0 where
  meter : {u l : ℕ} → MeterOf e (time_signature u l []) (record { tick = e.tick; to = record { upper = u; lower = l } })

pub data KeyOf (e : Event) : Meaning → Change Key → Type 0 where
  key : {f : ℤ} {m : Bool} → KeyOf e (key_signature f m) (record { tick = e.tick; to = record { fifths = clamp_fifths f; minor = m } })

pub data ProgramOf (e : Event) : Meaning → PartHead → Type 0 where
  program : {ch p : ℕ} → ProgramOf e (program_change ch p) (record { channel = ch; program = p })

-- ---- section 9

-- the four kinds of automation, each with its channel
pub data Bend : Meaning → ℕ → Type 0 where
  bend : {ch : ℕ} {v : ℤ} → Bend (pitch_bend ch v) ch

pub data Controller : Meaning → ℕ → Type 0 where
  controller : {ch n v : ℕ} → Controller (control_change ch n v) ch

pub data Program : Meaning → ℕ → Type 0 where
  program : {ch p : ℕ} → Program (program_change ch p) ch

pub data Pressure : Meaning → ℕ → Type 0 where
  of_key : {ch k v : ℕ} → Pressure (key_pressure ch k v) ch
  of_channel : {ch v : ℕ} → Pressure (channel_pressure ch v) ch

-- an event of one kind, on a channel that is not dropped
abbrev pub Kept : (Meaning → ℕ → Type 0) → (ℕ → Bool) → Event → Meaning → Event → Type 0
Kept Kind dropped e m x = (ch : ℕ) × Kind m ch × (dropped ch ≡ false) × (x ≡ e)

-- an event of any of the four, on a channel
abbrev pub AutomationOf : ℕ → Event → Meaning → Event → Type 0
AutomationOf ch e m x = (Bend m ch ⊎ Controller m ch ⊎ Program m ch ⊎ Pressure m ch) × (x ≡ e)

-- a marker's data, base and spare at most 15 and not equal
pub data MarkerOf (e : Event) : Meaning → Marker → Type 0 where
  marker : {b s : ℕ} → b ≤ 15 → s ≤ 15 → (b ≡ s → ⊥) → MarkerOf e (sequencer_specific (marker_data b s)) (record { base = b; spare = s })

-- equal messages, the channels aside
pub data SameBut : Meaning → Meaning → Type 0 where
  bends : {c d : ℕ} {v : ℤ} → SameBut (pitch_bend c v) (pitch_bend d v)
  controllers : {c d n v : ℕ} → SameBut (control_change c n v) (control_change d n v)
  programs : {c d p : ℕ} → SameBut (program_change c p) (program_change d p)
  key_pressures : {c d k v : ℕ} → SameBut (key_pressure c k v) (key_pressure d k v)
  channel_pressures : {c d v : ℕ} → SameBut (channel_pressure c v) (channel_pressure d v)

-- events of equal ticks and messages, one by one
abbrev pub Mirrored : List Event → List Event → Type 0
Mirrored [] [] = Unit {0}
Mirrored [] (e ∷ es) = ⊥
Mirrored (d ∷ ds) [] = ⊥
Mirrored (d ∷ ds) (e ∷ es) = (d.tick ≡ e.tick) × SameBut (meaning d.word) (meaning e.word) × Mirrored ds es

-- ---- section 10

-- a tick after 0 that is no multiple of a length, which is not 0
abbrev pub OffMeasure : ℕ → ℕ → Type 0
OffMeasure l t = (0 < t) × (t % l ≡ 0 → ⊥) × (l ≡ 0 → ⊥)

pub data OffMeasureOf (l : ℕ) (e : Event) : Meaning → Diagnostic → Type 0 where
  tempo : {v : ℕ} → OffMeasure l e.tick → OffMeasureOf l e (set_tempo v) (at_event 2 0 e)
  meter : {u k : ℕ} → OffMeasure l e.tick → OffMeasureOf l e (time_signature u k []) (at_event 2 0 e)

pub data SystemOf (track : ℕ) (e : Event) : Meaning → Diagnostic → Type 0 where
  system : SystemOf track e system_event (at_event 3 track e)

-- ---- what is claimed

pub record ByMeaning : Type 0 where
  pub notes : IsRead NoteOf note_events
  pub ons : IsRead OnOf (keep (λ e. is_on e.word))
  pub has_notes_lem : (es xs : List Event) → Reads OnOf es xs → has_notes es ≡ not (is_empty xs)
  pub tempos : IsRead TempoOf tempo_changes
  pub meters : IsRead MeterOf meter_changes
  pub keys : IsRead KeyOf key_changes
  pub part_head_lem : (es : List Event) → (xs : List PartHead) × Reads ProgramOf es xs × (part_head es ≡ first_or (record { channel = 0; program = 0 }) xs)
  pub bends : (es xs : List Event) → Reads (Kept Bend (is_dropped es)) es xs ↔ (xs ≡ automation is_bend es)
  pub controllers : (es xs : List Event) → Reads (Kept Controller (is_dropped es)) es xs ↔ (xs ≡ automation is_controller es)
  pub programs : (es xs : List Event) → Reads (Kept Program (is_dropped es)) es xs ↔ (xs ≡ automation is_program es)
  pub pressures : (es xs : List Event) → Reads (Kept Pressure (is_dropped es)) es xs ↔ (xs ≡ automation is_pressure es)
  pub marked : IsRead MarkerOf markers
  pub on_channel : (ch : ℕ) → IsRead (AutomationOf ch) (keep (is_automation_of ch))
  pub mirrored : (es bs ss : List Event) (m : Marker) → All (λ e. well_formed e.word ≡ true) es → Reads (AutomationOf m.base) es bs
      → Reads (AutomationOf m.spare) es ss → (mirrors es m ≡ true) ↔ Mirrored bs ss
  pub off_measures : (x : Piece) (ds : List Diagnostic) → Reads (OffMeasureOf (any_meter_length x)) (first_track x) ds ↔ (ds ≡ off_measure_found x)
  pub systems : (track : ℕ) → IsRead (SystemOf track) (system_found track)
