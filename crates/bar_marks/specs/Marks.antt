-- A bar's mark as a number, and its fields read back: what is packed is the mark of section 4, and unpacking gives back what was packed.
use Rattle.std.specs.Prelude.{ℕ, ◌+◌, ◌*◌, ◌<◌, ◌^◌, Bool, false, ◌≡◌, eqb, pos, ◌+ℤ◌, nat_abs}
use Rattle.std.proofs.Math.Option.{Option, none, some}
use Rattle.rules.specs.Lists.{flag}
use Rattle.rules.specs.Changes.{Meter, Key}
use Rattle.rules.specs.Bars.{mark_of, mark_upper, mark_lower, mark_printed, mark_tempo, mark_fifths, mark_minor}
use Rattle.bar_marks.specs.declared.Mark.{Mark}

-- the bits of a key: fifths + 8 from bit 27 on, and minor
abbrev pub key_packed : ℕ → Bool → ℕ
key_packed fifths minor = fifths * 2 ^ 27 + flag minor * 2 ^ 32

abbrev pub packed : Mark → ℕ
packed m =
    m.upper + m.lower * 2 ^ 8 + flag m.printed * 2 ^ 16 + m.tempo * 2 ^ 17 + key_packed m.fifths m.minor

abbrev pub unpacked : ℕ → Mark
unpacked mark =
    record {
      upper = mark_upper mark;
      lower = mark_lower mark;
      printed = eqb (mark_printed mark) 1;
      tempo = mark_tempo mark;
      fifths = mark_fifths mark;
      minor = eqb (mark_minor mark) 1;
    }

-- ---- what is packed is section 4's mark

abbrev pub key_fifths : Option Key → ℕ
key_fifths none = 0
key_fifths (some k) = nat_abs (k.fifths +ℤ pos 8)

abbrev pub key_minor : Option Key → Bool
key_minor none = false
key_minor (some k) = k.minor

-- A bar's mark by section 4's meter, tempo and key.
abbrev pub mark_for : Meter → Bool → ℕ → Option Key → Mark
mark_for m is_printed tempo key =
    record {
      upper = m.upper;
      lower = m.lower;
      printed = is_printed;
      tempo = tempo;
      fifths = key_fifths key;
      minor = key_minor key;
    }

abbrev pub PacksMark : Type 0
PacksMark = (m : Meter) (is_printed : Bool) (tempo : ℕ) (key : Option Key) → packed (mark_for m is_printed tempo key) ≡ mark_of m is_printed tempo key

-- ---- unpacking gives back what was packed

-- each field fits its bits
pub record Fits (m : Mark) : Type 0 where
  pub upper : m.upper < 2 ^ 8
  pub lower : m.lower < 2 ^ 8
  pub tempo : m.tempo < 2 ^ 10
  pub fifths : m.fifths < 2 ^ 5

abbrev pub UnpacksPacked : Type 0
UnpacksPacked = (m : Mark) → Fits m → unpacked (packed m) ≡ m
