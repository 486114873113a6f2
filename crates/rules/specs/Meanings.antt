-- What a word means, by the two standards: document 01's table of kinds, each kind as the bytes that the standards' tables give a meaning.
use Rattle.std.specs.Prelude.{ℕ, Bool, true, cond, ◌&&◌, List, [], ◌∷◌, ◌↔◌, ◌≡◌, eqb, ℤ, length, get_or}
use Rattle.rules.specs.Piece.{kind_of, byte_a, byte_b, byte_c, is_kind, channel_of, tempo_value, upper_figure, lower_figure, signed_fifths, is_minor}
use Rattle.rules.specs.Piece.{bend_value, is_on, is_off, well_formed}
use Rattle.rules.specs.Standard.{Meaning, note_off, note_on, key_pressure, control_change, program_change, channel_pressure, pitch_bend, set_tempo}
use Rattle.rules.specs.Standard.{time_signature, key_signature, sequencer_specific, meta, system_exclusive, escape, end_of_track}
use Rattle.rules.specs.Standard.{other_meta, system_event, unknown}
use Rattle.rules.specs.Standard.{channel_voice, meta_event}

-- The marker (serialize.rs): the letters ACRD1, a base and a spare channel.
abbrev pub marker_data : ℕ → ℕ → List ℕ
marker_data base spare = 0x41 ∷ 0x43 ∷ 0x52 ∷ 0x44 ∷ 0x31 ∷ base ∷ spare ∷ []

-- The meaning of a word's bytes: the kind, a, b, c.
unfoldable pub meaning_of : ℕ → ℕ → ℕ → ℕ → Meaning
meaning_of kind a b c =
    -- 0, 1: another meta event, a system event
    cond (eqb kind 0) other_meta
    (cond (eqb kind 1) system_event
    -- 2: FF 51 03 a b c
    (cond (eqb kind 2) (meta_event 0x51 (a ∷ b ∷ c ∷ []))
    -- 3: FF 58 04 a b, and two bytes that are not kept
    (cond (eqb kind 3) (meta_event 0x58 (a ∷ b ∷ []))
    -- 4: FF 59 02 a b
    (cond (eqb kind 4) (meta_event 0x59 (a ∷ b ∷ []))
    -- 5: FF 7F 07, a marker's data
    (cond (eqb kind 5) (meta_event 0x7f (marker_data a b))
    -- 6: FF 2F 00
    (cond (eqb kind 6) (meta_event 0x2f [])
    -- 8 to 14: the kind is the status byte's high nibble, a its low nibble, b and c the data
    (channel_voice kind a b c)))))))

abbrev pub meaning : ℕ → Meaning
meaning w = meaning_of (kind_of w) (byte_a w) (byte_b w) (byte_c w)

-- ---- what the table keeps

-- A sequencer meta of seven bytes beginning ACRD1 is a marker.
abbrev pub is_marker : List ℕ → Bool
is_marker bs =
    eqb (length bs) 7
    && eqb (get_or bs 0 0) 0x41
    && eqb (get_or bs 1 0) 0x43
    && eqb (get_or bs 2 0) 0x52
    && eqb (get_or bs 3 0) 0x44
    && eqb (get_or bs 4 0) 0x31

-- What document 01's table keeps of a meaning: all other metas, and sequencer metas that are no marker, are one; F0 and F7 are one; a meter loses its
-- last two bytes; everything else is unchanged.
unfoldable pub kept : Meaning → Meaning
kept (meta type bs) = other_meta
kept (sequencer_specific bs) = cond (is_marker bs) (sequencer_specific bs) other_meta
kept (system_exclusive bs) = system_event
kept (escape bs) = system_event
kept (time_signature u l bs) = time_signature u l []
kept (note_off ch k v) = note_off ch k v
kept (note_on ch k v) = note_on ch k v
kept (key_pressure ch k v) = key_pressure ch k v
kept (control_change ch n v) = control_change ch n v
kept (program_change ch p) = program_change ch p
kept (channel_pressure ch v) = channel_pressure ch v
kept (pitch_bend ch v) = pitch_bend ch v
kept (set_tempo v) = set_tempo v
kept (key_signature f m) = key_signature f m
kept other_meta = other_meta
kept system_event = system_event
kept end_of_track = end_of_track
kept unknown = unknown

-- ---- what is claimed

-- Document 01's table reads each word as the standards mean it: a word means one thing, with these values, exactly if its test in the table holds
-- and the values are those that the sections read.
pub record ReadAsStandard (w : ℕ) : Type 0 where
  pub other : (meaning w ≡ other_meta) ↔ (is_kind 0 w ≡ true)
  pub system : (meaning w ≡ system_event) ↔ (is_kind 1 w ≡ true)
  pub tempo : (v : ℕ) → (meaning w ≡ set_tempo v) ↔ ((is_kind 2 w ≡ true) × (v ≡ tempo_value w))
  pub meter : (u l : ℕ) → (meaning w ≡ time_signature u l []) ↔ ((is_kind 3 w ≡ true) × (u ≡ upper_figure w) × (l ≡ lower_figure w))
  pub key : (f : ℤ) (m : Bool) → (meaning w ≡ key_signature f m) ↔ ((is_kind 4 w ≡ true) × (f ≡ signed_fifths w) × (m ≡ is_minor w))
  pub marker : (bs : List ℕ) → (meaning w ≡ sequencer_specific bs) ↔ ((is_kind 5 w ≡ true) × (bs ≡ marker_data (byte_a w) (byte_b w)))
  pub end : (meaning w ≡ end_of_track) ↔ (is_kind 6 w ≡ true)
  -- an off is a Note Off, or a Note On of velocity 0
  pub off : (ch k v : ℕ) → (meaning w ≡ note_off ch k v) ↔ ((is_off w ≡ true) × (ch ≡ channel_of w) × (k ≡ byte_b w) × (v ≡ byte_c w))
  -- an on is a Note On above velocity 0
  pub on : (ch k v : ℕ) → (meaning w ≡ note_on ch k v) ↔ ((is_on w ≡ true) × (ch ≡ channel_of w) × (k ≡ byte_b w) × (v ≡ byte_c w))
  pub key_pressure_lem : (ch k v : ℕ) → (meaning w ≡ key_pressure ch k v) ↔ ((is_kind 10 w ≡ true) × (ch ≡ channel_of w) × (k ≡ byte_b w) × (v ≡ byte_c w))
  pub controller : (ch n v : ℕ) → (meaning w ≡ control_change ch n v) ↔ ((is_kind 11 w ≡ true) × (ch ≡ channel_of w) × (n ≡ byte_b w) × (v ≡ byte_c w))
  pub program : (ch p : ℕ) → (meaning w ≡ program_change ch p) ↔ ((is_kind 12 w ≡ true) × (ch ≡ channel_of w) × (p ≡ byte_b w))
  pub channel_pressure_lem : (ch v : ℕ) → (meaning w ≡ channel_pressure ch v) ↔ ((is_kind 13 w ≡ true) × (ch ≡ channel_of w) × (v ≡ byte_b w))
  pub bend : (ch : ℕ) (v : ℤ) → (meaning w ≡ pitch_bend ch v) ↔ ((is_kind 14 w ≡ true) × (ch ≡ channel_of w) × (v ≡ bend_value w))
  -- a word that document 01 takes has a meaning
  pub known : well_formed w ≡ true → meaning w ≡ unknown → ⊥
