-- Section 7, the spelling of a key (pitch.rs, midi_to_pitch): a step, an octave and an alteration. Middle C, key 60, is C 4.
use Rattle.std.specs.Prelude.{ℕ, ◌/◌, ◌%◌, Bool, cond, List, [], ◌∷◌, ℤ, pos, negsuc, ◌+ℤ◌, ◌*ℤ◌, get_or}
use Rattle.std.proofs.Math.IntN.{sub_ℕ}

pub data Step : Type 0 where
  C D E F G A B : Step

-- semitones above C
abbrev pub semitone : Step → ℕ
semitone C = 0
semitone D = 2
semitone E = 4
semitone F = 5
semitone G = 7
semitone A = 9
semitone B = 11

pub record Spelling : Type 0 where
  pub step : Step
  pub octave : ℤ
  pub alter : ℤ

-- a name within the octave: a step and its alteration
pub record Name : Type 0 where
  pub step : Step
  pub alter : ℤ

abbrev pub natural : Step → Name
natural s = record { step = s; alter = pos 0 }

abbrev pub sharp : Step → Name
sharp s = record { step = s; alter = pos 1 }

abbrev pub flat : Step → Name
flat s = record { step = s; alter = negsuc 0 }

-- the twelve names with sharps, and with flats
abbrev pub sharp_names : List Name
sharp_names =
    natural C ∷ sharp C ∷ natural D ∷ sharp D ∷ natural E ∷ natural F ∷ sharp F ∷ natural G ∷ sharp G ∷ natural A ∷ sharp A ∷ natural B ∷ []

abbrev pub flat_names : List Name
flat_names =
    natural C ∷ flat D ∷ natural D ∷ flat E ∷ natural E ∷ natural F ∷ flat G ∷ natural G ∷ flat A ∷ natural A ∷ flat B ∷ natural B ∷ []

-- The octave of a key is key / 12 - 1.
abbrev pub spelled_by : List Name → ℕ → Spelling
spelled_by names key =
    record {
      step = (get_or names (key % 12) (natural C)).step;
      octave = sub_ℕ (key / 12) 1;
      alter = (get_or names (key % 12) (natural C)).alter;
    }

-- Document 01's spelling: sharps.
abbrev pub spelled : ℕ → Spelling
spelled key = spelled_by sharp_names key

-- pitch.rs spells both ways.
abbrev pub spelled_either : ℕ → Bool → Spelling
spelled_either key prefer_flat = cond prefer_flat (spelled_by flat_names key) (spelled_by sharp_names key)

-- the key that a spelling sounds: 12 for each octave above octave -1
abbrev pub sounds : Spelling → ℤ
sounds s = (s.octave +ℤ pos 1) *ℤ pos 12 +ℤ pos (semitone s.step) +ℤ s.alter

-- The largest key.
abbrev pub largest_key : ℕ
largest_key = 127
