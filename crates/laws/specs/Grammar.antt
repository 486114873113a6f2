-- The grammar of Standard MIDI Files 1.0, as a relation between bytes and what they are; and what is claimed of the reader by it.
use Rattle.std.specs.Prelude.{ℕ, suc, ◌+◌, ◌-◌, ◌*◌, ◌^◌, ◌≤◌, ◌<◌, true, false, List, [], ◌∷◌, ◌++◌, ◌↔◌, ◌≡◌, length}
use Rattle.std.proofs.Math.Option.{some}
use Rattle.rules.specs.Standard.{Message, big_endian}
use Rattle.rules.specs.Refusals.{first_number}
use Rattle.rules.specs.File.{is_some, front, has_one_byte, meta_fits, status_after, is_end, Timed, timed_by, MThd, MTrk, Header, header, header_of, behind}
use Rattle.rules.specs.File.{file_tracks, file_piece, piece_from, most_bytes, file_refusals}

-- ---- the grammar

-- <variable-length quantity>, of at most k bytes: seven bits a byte, most significant first; all bytes but the last have bit 7 set.
pub data Quantity : ℕ → List ℕ → ℕ → Type 0 where
  last : {k b : ℕ} → b < 0x80 → Quantity (suc k) (b ∷ []) b
  more : {k b n : ℕ} {bs : List ℕ} → 0x80 ≤ b → Quantity k bs n → Quantity (suc k) (b ∷ bs) ((b - 0x80) * 0x80 ^ length bs + n)

-- <length> <bytes>: a quantity of at most four bytes, and as many bytes
pub data Counted : List ℕ → List ℕ → Type 0 where
  counted : {ls ds : List ℕ} → Quantity 4 ls (length ds) → Counted (ls ++ ds) ds

-- the data bytes of a <MIDI event> of status s, below 80H: CnH and DnH have one, the others two
pub data Data (s : ℕ) : List ℕ → Message → Type 0 where
  one : {x : ℕ} → has_one_byte s ≡ true → x < 0x80 → Data s (x ∷ []) (Message.channel s x 0)
  two : {x y : ℕ} → has_one_byte s ≡ false → x < 0x80 → y < 0x80 → Data s (x ∷ y ∷ []) (Message.channel s x y)

-- <event> ::= <MIDI event> | <sysex event> | <meta-event>
pub data Event (running : ℕ) : List ℕ → Message → Type 0 where
  -- <MIDI event>: its status, its data
  said : {s : ℕ} {bs : List ℕ} {m : Message} → 0x80 ≤ s → s < 0xf0 → Data s bs m → Event running (s ∷ bs) m
  -- running status: the data alone, where a status is in force
  kept : {bs : List ℕ} {m : Message} → (running ≡ 0 → ⊥) → Data running bs m → Event running bs m
  -- <sysex event>: F0 <length> <bytes>, or F7 <length> <bytes>
  exclusive : {bs ds : List ℕ} → Counted bs ds → Event running (0xf0 ∷ bs) (Message.system 0xf0 ds)
  escape : {bs ds : List ℕ} → Counted bs ds → Event running (0xf7 ∷ bs) (Message.system 0xf7 ds)
  -- <meta-event>: FF <type> <length> <bytes>
  meta : {type : ℕ} {bs ds : List ℕ} → type < 0x80 → meta_fits type (length ds) ≡ true → Counted bs ds
      → Event running (0xff ∷ type ∷ bs) (Message.meta type ds)

-- <MTrk event> ::= <delta-time> <event>
pub data TrackEvent (running : ℕ) : List ℕ → Timed → Type 0 where
  timed : {ds bs : List ℕ} {d : ℕ} {m : Message} → Quantity 4 ds d → Event running bs m → TrackEvent running (ds ++ bs) (timed_by d m)

-- <MTrk event>+, the last an End of Track, and no other; the running status goes from event to event
pub data TrackEvents : ℕ → List ℕ → List Timed → Type 0 where
  last : {running : ℕ} {bs : List ℕ} {e : Timed} → is_end e.message ≡ true → TrackEvent running bs e → TrackEvents running bs (e ∷ [])
  more : {running : ℕ} {bs cs : List ℕ} {e : Timed} {es : List Timed} → is_end e.message ≡ false → TrackEvent running bs e
      → TrackEvents (status_after e.message) cs es → TrackEvents running (bs ++ cs) (e ∷ es)

-- <chunk>: four bytes of type, four of length, and as many bytes
pub data ChunkOf : List ℕ → ℕ → List ℕ → Type 0 where
  chunk : (type size : List ℕ) {body : List ℕ} → length type ≡ 4 → length size ≡ 4 → big_endian size ≡ length body
      → ChunkOf (type ++ size ++ body) (big_endian type) body

-- the <Header Chunk>'s bytes: <format> <ntrks> <division>, two bytes each; what stands behind them is passed over
pub data HeaderBytes : List ℕ → Header → Type 0 where
  fields : (format count division others : List ℕ) → length format ≡ 2 → length count ≡ 2 → length division ≡ 2
      → HeaderBytes (format ++ count ++ division ++ others)
      (record { format = big_endian format; count = big_endian count; division = big_endian division })

-- the chunks behind the header: <Track Chunk>, no running status at its start, or a chunk of an alien type
pub data Chunks : List ℕ → List (List Timed) → Type 0 where
  none : Chunks [] []
  track : {bs body cs : List ℕ} {t : List Timed} {ts : List (List Timed)} → ChunkOf bs MTrk body → TrackEvents 0 body t → Chunks cs ts
      → Chunks (bs ++ cs) (t ∷ ts)
  alien : {type : ℕ} {bs body cs : List ℕ} {ts : List (List Timed)} → (type ≡ MThd → ⊥) → (type ≡ MTrk → ⊥) → ChunkOf bs type body → Chunks cs ts
      → Chunks (bs ++ cs) ts

-- a file: the header chunk, then the chunks; there are as many tracks as it says, one in format 0
pub data File : List ℕ → Header → List (List Timed) → Type 0 where
  file : {bs body cs : List ℕ} {h : Header} {ts : List (List Timed)} → ChunkOf bs MThd body → HeaderBytes body h → Chunks cs ts
      → length ts ≡ h.count → (h.format ≡ 0 → length ts ≡ 1) → File (bs ++ cs) h ts

-- ---- what is claimed

-- the reader finds a header, and tracks behind it
abbrev pub Reads : List ℕ → Header → List (List Timed) → Type 0
Reads bs h ts = (rest : List ℕ) × (header bs ≡ some (front h rest)) × (behind (front h rest) ≡ some ts)

-- The reader finds exactly what the grammar derives: nothing else, and nothing less.
abbrev pub ReadsExactly : Type 0
ReadsExactly = (bs : List ℕ) (h : Header) (ts : List (List Timed)) → File bs h ts ↔ Reads bs h ts

-- The grammar derives one header and one list of tracks of a file, and so one piece.
abbrev pub OnePiece : Type 0
OnePiece = (bs : List ℕ) (h h' : Header) (ts ts' : List (List Timed)) → File bs h ts → File bs h' ts' → (h ≡ h') × (ts ≡ ts')

pub record FileRead (bs : List ℕ) : Type 0 where
  -- A file that 11, 12 and 13 let pass is derived by its header and tracks, of which its piece is made.
  pub passed : first_number (file_refusals bs) ≤ 10 → File bs (header_of bs).read (file_tracks bs)
  -- A file whose header and all behind it are there is derived by that header and those tracks.
  pub derives : is_some (header bs) ≡ true → is_some (behind (header_of bs)) ≡ true → File bs (header_of bs).read (file_tracks bs)
  -- A file that is derived has both, and its piece is the one that is derived.
  pub derived : (h : Header) (ts : List (List Timed)) → File bs h ts
      → (is_some (header bs) ≡ true) × (is_some (behind (header_of bs)) ≡ true) × (file_piece bs ≡ piece_from h.division ts)
  -- It is refused with 12 exactly if it is not too large, of no format above 1, and nothing is derived.
  pub twelve : (first_number (file_refusals bs) ≡ 12)
      ↔ ((length bs ≤ most_bytes) × ((header_of bs).read.format ≤ 1) × ((h : Header) (ts : List (List Timed)) → File bs h ts → ⊥))
