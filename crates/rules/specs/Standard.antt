-- What an event means by the two standards that document 01's table of kinds follows: MIDI 1.0 (Detailed Specification, Table II, Channel Voice
-- Messages) and Standard MIDI Files 1.0 (Events; Meta-Event Definitions).
use Rattle.std.specs.Prelude.{ℕ, zero, suc, ◌+◌, ◌*◌, ◌/◌, ◌%◌, ◌^◌, Bool, cond, eqb, ltb, ℤ}
use mathlib.Core.List.{List, [], ◌∷◌, foldl}
use Rattle.std.proofs.Math.IntN.{sub_ℕ}

pub data Meaning : Type 0 where
  -- channel, key, velocity
  note_off note_on : ℕ → ℕ → ℕ → Meaning
  -- channel, key or controller, value
  key_pressure control_change : ℕ → ℕ → ℕ → Meaning
  -- channel, value
  program_change channel_pressure : ℕ → ℕ → Meaning
  -- channel, value around 0
  pitch_bend : ℕ → ℤ → Meaning
  -- microseconds per quarter
  set_tempo : ℕ → Meaning
  -- upper figure, lower figure, and the bytes behind them: clocks in a click, 32nds in a quarter
  time_signature : ℕ → ℕ → List ℕ → Meaning
  -- fifths, minor
  key_signature : ℤ → Bool → Meaning
  -- data of a maker's own
  sequencer_specific : List ℕ → Meaning
  -- a meta event of any other type: its type, its data
  meta : ℕ → List ℕ → Meaning
  -- F0 and F7 of a file: their data
  system_exclusive escape : List ℕ → Meaning
  -- another meta event, a system event, of which nothing more is known
  other_meta system_event : Meaning
  end_of_track unknown : Meaning

-- A Note On with velocity 0 is a Note Off (MIDI 1.0, Note On).
abbrev pub note_on_or_off : ℕ → ℕ → ℕ → Meaning
note_on_or_off channel key zero = note_off channel key zero
note_on_or_off channel key (suc v) = note_on channel key (suc v)

-- MIDI 1.0, Table II: the status byte's high nibble, its channel, and two data bytes (8nH to EnH; CnH and DnH have one).
abbrev pub channel_voice : ℕ → ℕ → ℕ → ℕ → Meaning
channel_voice nibble channel x y =
    -- 8nH Note Off: key, velocity
    cond (eqb nibble 0x8) (note_off channel x y)
    -- 9nH Note On: key, velocity
    (cond (eqb nibble 0x9) (note_on_or_off channel x y)
    -- AnH Polyphonic Key Pressure: key, value
    (cond (eqb nibble 0xa) (key_pressure channel x y)
    -- BnH Control Change: controller, value
    (cond (eqb nibble 0xb) (control_change channel x y)
    -- CnH Program Change: program
    (cond (eqb nibble 0xc) (program_change channel x)
    -- DnH Channel Pressure: value
    (cond (eqb nibble 0xd) (channel_pressure channel x)
    -- EnH Pitch Bend Change: least, then most significant seven bits; 2000H is the centre
    (cond (eqb nibble 0xe) (pitch_bend channel (sub_ℕ (y * 0x80 + x) 0x2000)) unknown))))))

-- a number from its bytes, most significant first
abbrev pub big_endian : List ℕ → ℕ
big_endian bs = foldl (λ n b. n * 0x100 + b) 0 bs

-- a byte of eight bits, two's complement
abbrev pub signed_byte : ℕ → ℤ
signed_byte b = cond (ltb b 0x80) (sub_ℕ b 0) (sub_ℕ b 0x100)

-- Standard MIDI Files 1.0, Meta-Event Definitions.
-- FF 51 03 tttttt Set Tempo: microseconds per quarter-note
abbrev pub tempo_meta : List ℕ → Meaning
tempo_meta bs = set_tempo (big_endian bs)

-- FF 58 04 nn dd cc bb Time Signature: the denominator is a negative power of two
abbrev pub time_signature_meta : List ℕ → Meaning
time_signature_meta (nn ∷ dd ∷ rest) = time_signature nn (2 ^ dd) rest
time_signature_meta [] = unknown
time_signature_meta (nn ∷ []) = unknown

-- FF 59 02 sf mi Key Signature: sf sharps, flats below 0; mi 0 major, 1 minor
abbrev pub key_signature_meta : List ℕ → Meaning
key_signature_meta (sf ∷ mi ∷ rest) = key_signature (signed_byte sf) (eqb mi 1)
key_signature_meta [] = unknown
key_signature_meta (sf ∷ []) = unknown

-- a meta event's type and its data bytes; FF 2F 00 is End of Track, FF 7F Sequencer-Specific
abbrev pub meta_event : ℕ → List ℕ → Meaning
meta_event type bs =
    cond (eqb type 0x2f) end_of_track
    (cond (eqb type 0x51) (tempo_meta bs)
    (cond (eqb type 0x58) (time_signature_meta bs)
    (cond (eqb type 0x59) (key_signature_meta bs)
    (cond (eqb type 0x7f) (sequencer_specific bs) (meta type bs)))))

-- An event of a file, behind its delta-time: <MIDI event> | <sysex event> | <meta-event>.
pub data Message : Type 0 where
  -- a channel message: its status byte and two data bytes, the second 0 where it has one only
  channel : ℕ → ℕ → ℕ → Message
  -- F0 or F7, its data
  system : ℕ → List ℕ → Message
  -- FF: its type, its data
  meta : ℕ → List ℕ → Message

-- the meaning that the standards give it; F0 is system exclusive, F7 its escape
abbrev pub message_meaning : Message → Meaning
message_meaning (Message.channel s x y) = channel_voice (s / 0x10) (s % 0x10) x y
message_meaning (Message.system s bs) = cond (eqb s 0xf0) (system_exclusive bs) (escape bs)
message_meaning (Message.meta type bs) = meta_event type bs
