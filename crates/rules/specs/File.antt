-- Request M-100: a file's bytes read as a piece, by Standard MIDI Files 1.0, the request's own rules going first.
use Rattle.std.specs.Prelude.{ℕ, zero, suc, ◌+◌, ◌-◌, ◌*◌, ◌/◌, ◌%◌, Bool, true, false, cond, not, ◌&&◌, ◌||◌, eqb, leb, ltb, length, get_or, take, drop}
use mathlib.Core.List.{List, [], ◌∷◌, map, flatten}
use Rattle.std.proofs.Math.Option.{Option, none, some}
use Rattle.rules.specs.Lists.{is_empty}
use Rattle.rules.specs.Standard.{Message, channel, system, meta, big_endian}
use Rattle.rules.specs.Meanings.{is_marker}
use Rattle.rules.specs.Piece.{Piece, piece, word}
use Rattle.rules.specs.Refusals.{Refusal, refuse, piece_refusals}

-- ---- what may be missing

abbrev pub and_then : {A B : Type 0} → Option A → (A → Option B) → Option B
and_then none f = none
and_then (some a) f = f a

abbrev pub is_some : {A : Type 0} → Option A → Bool
is_some none = false
is_some (some a) = true

abbrev pub or_else : {A : Type 0} → A → Option A → A
or_else d none = d
or_else d (some a) = a

-- what stands at the front of some bytes, and the bytes behind it
pub record Front (A : Type 0) : Type 0 where
  pub read : A
  pub rest : List ℕ

abbrev pub front : {A : Type 0} → A → List ℕ → Front A
front a bs = record { read = a; rest = bs }

-- ---- numbers

-- A variable-length quantity of at most k bytes, padded or not: seven bits a byte, bit 7 set on all bytes but the last. v is the value so far.
unfoldable pub number_in : ℕ → ℕ → List ℕ → Option (Front ℕ)
number_in zero v bs = none
number_in (suc k) v [] = none
number_in (suc k) v (b ∷ bs) = cond (ltb b 0x80) (some (front (v * 0x80 + b) bs)) (number_in k (v * 0x80 + (b - 0x80)) bs)

-- Delta numbers and lengths have at most four bytes.
abbrev pub number : List ℕ → Option (Front ℕ)
number bs = number_in 4 0 bs

-- n bytes, where there are as many
unfoldable pub bytes_of : ℕ → List ℕ → Option (Front (List ℕ))
bytes_of n bs = cond (leb n (length bs)) (some (front (take n bs) (drop n bs))) none

-- <length> <bytes>
abbrev pub sized : List ℕ → Option (Front (List ℕ))
sized bs = and_then (number bs) (λ (n : Front ℕ). bytes_of n.read n.rest)

-- ---- events

-- a data byte
unfoldable pub data_byte : List ℕ → Option (Front ℕ)
data_byte [] = none
data_byte (b ∷ bs) = cond (ltb b 0x80) (some (front b bs)) none

-- CnH and DnH have one data byte, the other channel messages two.
abbrev pub has_one_byte : ℕ → Bool
has_one_byte s = eqb (s / 0x10) 0xc || eqb (s / 0x10) 0xd

-- a channel message behind its status
unfoldable pub channel_message : ℕ → List ℕ → Option (Front Message)
channel_message s bs =
    and_then (data_byte bs) (λ (x : Front ℕ).
    cond (has_one_byte s) (some (front (channel s x.read 0) x.rest))
    (and_then (data_byte x.rest) (λ (y : Front ℕ). some (front (channel s x.read y.read) y.rest))))

-- End of Track, tempo, meter and key metas have lengths 0, 3, 4 and 2; other metas any.
unfoldable pub meta_fits : ℕ → ℕ → Bool
meta_fits type n =
    cond (eqb type 0x2f) (eqb n 0)
    (cond (eqb type 0x51) (eqb n 3)
    (cond (eqb type 0x58) (eqb n 4)
    (cond (eqb type 0x59) (eqb n 2) true)))

-- <type> <length> <bytes>, the type below 128
unfoldable pub meta_message : List ℕ → Option (Front Message)
meta_message [] = none
meta_message (type ∷ bs) =
    cond (ltb type 0x80)
    (and_then (sized bs) (λ (d : Front (List ℕ)). cond (meta_fits type (length d.read)) (some (front (meta type d.read) d.rest)) none))
    none

-- <length> <bytes> behind F0 or F7
unfoldable pub system_message : ℕ → List ℕ → Option (Front Message)
system_message s bs = and_then (sized bs) (λ (d : Front (List ℕ)). some (front (system s d.read) d.rest))

-- An event behind its delta: channel messages, FF, F0, F7, no other status. A first byte below 128 is data under the running status, 0 where none is
-- in force.
unfoldable pub message : ℕ → List ℕ → Option (Front Message)
message running [] = none
message running (s ∷ bs) =
    cond (ltb s 0x80) (cond (eqb running 0) none (channel_message running (s ∷ bs)))
    (cond (ltb s 0xf0) (channel_message s bs)
    (cond (eqb s 0xff) (meta_message bs)
    (cond (eqb s 0xf0 || eqb s 0xf7) (system_message s bs) none)))

-- The running status behind an event: meta and system events cancel it.
abbrev pub status_after : Message → ℕ
status_after (channel s x y) = s
status_after (system s bs) = 0
status_after (meta type bs) = 0

abbrev pub is_end : Message → Bool
is_end (channel s x y) = false
is_end (system s bs) = false
is_end (meta type bs) = eqb type 0x2f

-- ---- tracks

pub record Timed : Type 0 where
  pub delta : ℕ
  pub message : Message

abbrev pub timed_by : ℕ → Message → Timed
timed_by d m = record { delta = d; message = m }

-- <delta-time> <event>
unfoldable pub timed_message : ℕ → List ℕ → Option (Front Timed)
timed_message running bs =
    and_then (number bs) (λ (d : Front ℕ).
    and_then (message running d.rest) (λ (m : Front Message). some (front (timed_by d.read m.read) m.rest)))

-- Each track ends with one End of Track, nothing after it. k is at least the number of events.
unfoldable pub events_in : ℕ → ℕ → List ℕ → Option (List Timed)
events_in zero running bs = none
events_in (suc k) running bs =
    and_then (timed_message running bs) (λ (e : Front Timed).
    cond (is_end e.read.message) (cond (is_empty e.rest) (some (e.read ∷ [])) none)
    (and_then (events_in k (status_after e.read.message) e.rest) (λ (es : List Timed). some (e.read ∷ es))))

-- no running status at a track's start
abbrev pub track_of : List ℕ → Option (List Timed)
track_of bs = events_in (length bs) 0 bs

-- ---- chunks

pub record Chunk : Type 0 where
  pub type : ℕ
  pub body : List ℕ

-- four bytes of type, four of length, as many bytes
unfoldable pub chunk : List ℕ → Option (Front Chunk)
chunk bs =
    cond (leb 8 (length bs))
    (and_then (bytes_of (big_endian (take 4 (drop 4 bs))) (drop 8 bs)) (λ (b : Front (List ℕ)).
    some (front (record { type = big_endian (take 4 bs); body = b.read }) b.rest)))
    none

-- the letters MThd and MTrk
abbrev pub MThd : ℕ
MThd = 0x4d546864

abbrev pub MTrk : ℕ
MTrk = 0x4d54726b

-- The tracks of the chunks behind the header: a second header is broken, unknown chunks are skipped. k is at least the number of chunks.
unfoldable pub tracks_in : ℕ → List ℕ → Option (List (List Timed))
tracks_in zero bs = cond (is_empty bs) (some []) none
tracks_in (suc k) bs =
    cond (is_empty bs) (some [])
    (and_then (chunk bs) (λ (c : Front Chunk).
    cond (eqb c.read.type MThd) none
    (cond (eqb c.read.type MTrk)
    (and_then (track_of c.read.body) (λ (t : List Timed).
    and_then (tracks_in k c.rest) (λ (ts : List (List Timed)). some (t ∷ ts))))
    (tracks_in k c.rest))))

abbrev pub tracks_of : List ℕ → Option (List (List Timed))
tracks_of bs = tracks_in (length bs) bs

pub record Header : Type 0 where
  pub format : ℕ
  pub count : ℕ
  pub division : ℕ

-- The file begins with a header chunk of six bytes or more; a longer one is read by its first six.
unfoldable pub header : List ℕ → Option (Front Header)
header bs =
    and_then (chunk bs) (λ (c : Front Chunk).
    cond (eqb c.read.type MThd && leb 6 (length c.read.body))
    (some (front
    (record {
      format = big_endian (take 2 c.read.body);
      count = big_endian (take 2 (drop 2 c.read.body));
      division = big_endian (take 2 (drop 4 c.read.body));
    })
    c.rest))
    none)

-- The header's track count equals the tracks found; format 0 has exactly one.
abbrev pub count_fits : Header → List (List Timed) → Bool
count_fits h ts = eqb (length ts) h.count && (not (eqb h.format 0) || eqb (length ts) 1)

-- the tracks behind a header
unfoldable pub behind : Front Header → Option (List (List Timed))
behind h = and_then (tracks_of h.rest) (λ (ts : List (List Timed)). cond (count_fits h.read ts) (some ts) none)

-- ---- the piece

-- A sequencer meta that is a marker is kind 5. The last two bytes of a meter are not kept.
unfoldable pub meta_word : ℕ → List ℕ → ℕ
meta_word type bs =
    cond (eqb type 0x2f) (word 6 0 0 0)
    (cond (eqb type 0x51) (word 2 (get_or bs 0 0) (get_or bs 1 0) (get_or bs 2 0))
    (cond (eqb type 0x58) (word 3 (get_or bs 0 0) (get_or bs 1 0) 0)
    (cond (eqb type 0x59) (word 4 (get_or bs 0 0) (get_or bs 1 0) 0)
    (cond (eqb type 0x7f && is_marker bs) (word 5 (get_or bs 5 0) (get_or bs 6 0) 0) (word 0 0 0 0)))))

abbrev pub word_of : Message → ℕ
word_of (channel s x y) = word (s / 0x10) (s % 0x10) x y
word_of (system s bs) = word 1 0 0 0
word_of (meta type bs) = meta_word type bs

abbrev pub deltas_of : List Timed → List ℕ
deltas_of es = map (λ (e : Timed). e.delta) es

abbrev pub words_of : List Timed → List ℕ
words_of es = map (λ (e : Timed). word_of e.message) es

abbrev pub piece_from : ℕ → List (List Timed) → Piece
piece_from division ts = piece (division ∷ length ts ∷ map length ts) (deltas_of (flatten ts)) (words_of (flatten ts))

-- ---- the file: 11, 12, 13, 12, then the piece's own numbers

-- The largest file.
abbrev pub most_bytes : ℕ
most_bytes = 67108864

abbrev pub no_header : Front Header
no_header = front (record { format = 0; count = 0; division = 0 }) []

abbrev pub header_of : List ℕ → Front Header
header_of bs = or_else no_header (header bs)

abbrev pub file_tracks : List ℕ → List (List Timed)
file_tracks bs = or_else [] (behind (header_of bs))

abbrev pub file_piece : List ℕ → Piece
file_piece bs = piece_from (header_of bs).read.division (file_tracks bs)

-- 11 file too large; 12 the header is not whole; 13 format above 1; 12 anything behind the header; then 1 to 5.
unfoldable pub file_refusals : List ℕ → List Refusal
file_refusals bs =
    refuse 11 (ltb most_bytes (length bs))
    ∷ refuse 12 (not (is_some (header bs)))
    ∷ refuse 13 (ltb 1 (header_of bs).read.format)
    ∷ refuse 12 (not (is_some (behind (header_of bs))))
    ∷ piece_refusals (file_piece bs)
