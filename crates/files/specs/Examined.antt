-- A file that was examined: its header, and what is known where no number is to be given.
use Rattle.std.specs.Prelude.{ℕ, ◌≤◌, ◌<◌, Bool, cond, not, ◌&&◌, ◌||◌, ◌≡◌, eqb, ltb, length, drop, Ok, Err}
use Rattle.std.specs.Prelude as std
use mathlib.Core.List.{List, flatten}
use Rattle.std.proofs.Math.Option.{Option, some}
use Rattle.rules.specs.Refusals.{first_number, most_events}
use Rattle.rules.specs.File.{Front, Header, header, header_of, tracks_of, file_tracks, file_refusals, most_bytes}
use Rattle.laws.specs.Admitted.{Passes}
use Rattle.basics.specs.declared.Refusal.{Refusal}
use Rattle.basics.specs.Refusals.{number}
use Rattle.file_events.specs.Events.{found}
use Rattle.files.specs.declared.Header as place
use Rattle.files.specs.declared.Examined.{Examined}

-- the header of a file
pub record HeaderIs (bs : List ℕ) (h : Front Header) (k : place.Header) : Type 0 where
  pub format : k.format ≡ h.read.format
  pub count : k.count ≡ h.read.count
  pub division : k.division ≡ h.read.division
  pub rest : h.rest ≡ drop k.next bs
  pub ahead : 8 ≤ k.next
  pub within : k.next ≤ length bs
  pub few : k.count < 65536

abbrev pub header_read : std.Option place.Header → Option place.Header
header_read = found

-- count_fits, by what the program knows
abbrev pub count_fits_header : place.Header → ℕ → Bool
count_fits_header k n = eqb n k.count && (not (eqb k.format 0) || eqb n 1)

-- the number for what is behind the header, 0 for none: 12 where the count does not fit, 2, 3, and 5 where some word is bad
abbrev pub number_behind : Bool → ℕ → ℕ → Bool → ℕ
number_behind fits division events good =
    cond (not fits) 12 (cond (eqb division 0) 2 (cond (ltb most_events events) 3 (cond good 0 5)))

-- the file is not too large, and this is its header, of format 0 or 1
pub record HeaderStands (bs : List ℕ) (k : place.Header) : Type 0 where
  pub head : Front Header
  pub read : header bs ≡ some head
  pub is : HeaderIs bs head k
  pub format : k.format ≤ 1
  pub small : length bs ≤ most_bytes

-- a file of which none of 11, 12, 13, 2, 3, 5 is to be given
pub record Whole (bs : List ℕ) (e : Examined) : Type 0 where
  pub passes : Passes (file_refusals bs)
  pub division : e.division ≡ (header_of bs).read.division
  pub ahead : 8 ≤ e.start
  pub within : e.start ≤ length bs
  pub small : length bs ≤ most_bytes
  pub read : tracks_of (drop e.start bs) ≡ some (file_tracks bs)
  pub tracks : e.tracks ≡ length (file_tracks bs)
  pub events : e.events ≡ length (flatten (file_tracks bs))
  pub few : e.tracks < 65536

abbrev pub Examines : List ℕ → std.Result Examined Refusal → Type 0
Examines bs (Err r) = first_number (file_refusals bs) ≡ number r
Examines bs (Ok e) = Whole bs e
