-- Which number a file has at the limits that no row computes.
use Prim.Native.Nat.{ℕ, zero, suc, ◌+◌, ◌*◌, ◌/◌, ◌%◌, ◌^◌, ◌≤◌, ◌<◌}
use mathlib.Core.Bool.{true, false, ◌&&◌, true≢false}
use mathlib.Core.List.{List, [], ◌∷◌, ◌++◌, flatten, append-nil}
use mathlib.Core.Logic.{inl, inr}
use mathlib.Core.Option.{none, some}
use mathlib.Core.Path.{◌≡◌, refl, ap, ◌∙◌}
use native.Mathlib.Omega.{arith}
use borrow.Author.Tests.{eq-eqb, lt-ltb, le-ltb, le-leb}
use lib.Dec.{eqb, leb-zero}
use lib.ListN.{length, replicate, length-replicate, length-append, length-map}
use lib.Seq.{take-append_seam, drop-append_seam}
use Rattle.rules.specs.Lists.{All, sum}
use Rattle.rules.specs.Piece.{Piece, sizes_agree, well_formed}
use Rattle.rules.specs.Standard.{meta, big_endian}
use Rattle.rules.specs.Refusals.{Refusal, given, unless, event_refusals, piece_refusals}
use Rattle.rules.specs.File.{Front, front, bytes_of, number_in, meta_fits, meta_message, message, Timed, timed_by, timed_message, events_in, chunk}
use Rattle.rules.specs.File.{tracks_in, Header, header, behind, meta_word, words_of, deltas_of, piece_from, most_bytes, file_refusals}
use Rattle.rules.specs.Calls.{piece_size}
use Rattle.rules.specs.RefusalExamples.{number_of}
use Rattle.rules.specs.FileExamples.{hex, chunk_of, head, track, alien, alone, number, metas, AtTheFileLimits}
use Rattle.rules.proofs.Cases.{by_bool}

-- ---- 11

too_large : (bs : List ℕ) → 67108864 < length bs → number bs ≡ 11
unfolding unless file_refusals
too_large bs h = rw (lt-ltb most_bytes (length bs) h)

-- a refusal of the number 11 does not apply
abbrev Others : List Refusal → Type 0
Others rs = All (λ (r : Refusal). eqb r.number 11 && r.applies ≡ false) rs

never : {A : Type 0} (rs : List Refusal) (a : A) → Others rs → number_of (unless rs a) ≡ 11 → ⊥
unfolding unless
never [] a h e = omega arith
never (r ∷ rs) a h e =
    elim (by_bool r.applies) [
      | inl t ↦ let is : r.number ≡ 11 = rw t at e in true≢false (rw (is, t) at h.0)
      | inr t ↦ never rs a h.1 (rw t at e)
    ]

events_others : (ds ws : List ℕ) → Others (event_refusals ds ws)
unfolding event_refusals
events_others [] ws = tt
events_others (d ∷ ds) [] = tt
events_others (d ∷ ds) (w ∷ ws) = (refl, (refl, events_others ds ws))

file_others : (bs : List ℕ) → length bs ≤ 67108864 → Others (file_refusals bs)
unfolding file_refusals piece_refusals
file_others bs h = (le-ltb most_bytes (length bs) h, (refl, (refl, (refl, (refl, (refl, (refl, events_others _ _)))))))

-- ---- a chunk at the front

four : (v : ℕ) → v < 2 ^ 32 → big_endian (hex 4 v) ≡ v
unfolding hex
four v h =
    let a : v / 16777216 % 256 ≡ v / 16777216 = omega arith in
    let b : v / 16777216 * 256 + v / 65536 % 256 ≡ v / 65536 = omega arith in
    let c : v / 65536 * 256 + v / 256 % 256 ≡ v / 256 = omega arith in
    rw a (omega arith)

seam : (bs rest : List ℕ) → bytes_of (length bs) (bs ++ rest) ≡ some (front bs rest)
unfolding bytes_of
seam bs rest =
    rw (le-leb (length bs) (length (bs ++ rest)) (omega (arith, length-append bs rest)), take-append_seam bs rest, drop-append_seam bs rest)

chunk_front : (letters : ℕ) (bs rest : List ℕ) → letters < 2 ^ 32 → length bs < 2 ^ 32
    → chunk (chunk_of letters bs ++ rest) ≡ some (front (record { type = letters; body = bs }) rest)
unfolding chunk hex
chunk_front letters bs rest a b =
    rw (le-leb 8 (length (chunk_of letters bs ++ rest)) (omega arith), four (length bs) b, seam bs rest, four letters a)

-- the last chunk of a file
last_chunk : (letters : ℕ) (bs : List ℕ) → letters < 2 ^ 32 → length bs < 2 ^ 32
    → chunk (chunk_of letters bs) ≡ some (front (record { type = letters; body = bs }) [])
last_chunk letters bs a b = rw append-nil at (chunk_front letters bs [] a b)

header_front : (f c : ℕ) (rest : List ℕ)
    → header (head f c 96 ++ rest) ≡ some (front (record { format = big_endian (hex 2 f); count = big_endian (hex 2 c); division = 96 }) rest)
unfolding header hex
header_front f c rest = rw (chunk_front 0x4d546864 (hex 2 f ++ (hex 2 c ++ hex 2 96)) rest (omega arith) (omega arith))

-- a file that is read has the number of its piece
read_by : (bs : List ℕ) (h : Front Header) (ts : List (List Timed)) → length bs ≤ most_bytes → header bs ≡ some h → h.read.format ≤ 1 → behind h ≡ some ts
    → number bs ≡ number_of (unless (piece_refusals (piece_from h.read.division ts)) (piece_size (piece_from h.read.division ts)))
unfolding unless file_refusals
read_by bs h ts l e f b = rw (le-ltb most_bytes (length bs) l, e, le-ltb 1 h.read.format f, b)

broken_by : (bs : List ℕ) (h : Front Header) → length bs ≤ most_bytes → header bs ≡ some h → h.read.format ≤ 1 → behind h ≡ none → number bs ≡ 12
unfolding unless file_refusals
broken_by bs h l e f b = rw (le-ltb most_bytes (length bs) l, e, le-ltb 1 h.read.format f, b)

-- ---- one chunk of many bytes

one_alien : (n : ℕ) → n < 2 ^ 32 → behind (front (record { format = 1; count = 0; division = 96 }) (alien (replicate n 0))) ≡ some []
unfolding behind tracks_in hex
one_alien n h = rw (last_chunk 0x41424344 (replicate n 0) (omega arith) (omega (arith, length-replicate {A = ℕ} n 0)))

most_bytes_lem : (n : ℕ) → n ≤ 67108842 → number (head 1 0 96 ++ alien (replicate n 0)) ≡ 0
unfolding hex unless piece_refusals event_refusals flatten sum sizes_agree
most_bytes_lem n h =
    read_by (head 1 0 96 ++ alien (replicate n 0)) (front (record { format = 1; count = 0; division = 96 }) (alien (replicate n 0))) []
    (omega (arith, length-replicate {A = ℕ} n 0)) (header_front 1 0 (alien (replicate n 0))) (omega arith) (one_alien n (omega arith))

-- ---- one track of many events

metas_length : (n : ℕ) → length (metas n) ≡ 4 * n + 4
unfolding metas hex
metas_length zero = refl
metas_length (suc n) = omega (arith, metas_length n)

read_metas : ℕ → List Timed
read_metas zero = timed_by 0 (meta 0x2f []) ∷ []
read_metas (suc n) = timed_by 0 (meta 1 []) ∷ read_metas n

metas_read : (n k : ℕ) → n < k → events_in k 0 (metas n) ≡ some (read_metas n)
unfolding events_in timed_message message meta_message meta_fits number_in bytes_of metas read_metas hex
metas_read n zero h = absurd (omega arith)
metas_read zero (suc k) h = refl
metas_read (suc n) (suc k) h = rw (leb-zero (length (metas n)), metas_read n k (omega arith))

one_track : (n : ℕ) → n ≤ 16777209 → behind (front (record { format = 0; count = 1; division = 96 }) (track (metas n))) ≡ some (read_metas n ∷ [])
unfolding behind tracks_in hex
one_track n h =
    rw
    (last_chunk 0x4d54726b (metas n) (omega arith) (omega (arith, metas_length n)), metas_read n (length (metas n)) (omega (arith, metas_length n)))

read_length : (n : ℕ) → length (read_metas n) ≡ suc n
unfolding read_metas
read_length zero = refl
read_length (suc n) = ap suc (read_length n)

-- its piece
module _ (n : ℕ) where
  abbrev metas_piece : Piece
  metas_piece = piece_from 96 (read_metas n ∷ [])

  deltas_length : length metas_piece.deltas ≡ suc n
  unfolding flatten
  deltas_length = rw (length-map, append-nil, read_length)

  words_length : length metas_piece.words ≡ suc n
  unfolding flatten
  words_length = rw (length-map, append-nil, read_length)

  agrees : sizes_agree metas_piece ≡ true
  unfolding sizes_agree sum
  agrees = rw (deltas_length, words_length, read_length, eq-eqb (suc n) (suc n + 0) (omega arith))

-- its events are not refused
plain_metas : {A : Type 0} (n : ℕ) (a : A) → unless (event_refusals (deltas_of (read_metas n)) (words_of (read_metas n))) a ≡ given a
unfolding unless event_refusals read_metas meta_word well_formed
plain_metas zero a = refl
plain_metas (suc n) a = plain_metas n a

-- ---- a byte behind the track

broken_track : (n : ℕ) → n ≤ 16777208
    → behind (front (record { format = 0; count = 1; division = 96 }) (track (metas n) ++ (0 ∷ []))) ≡ none
unfolding behind tracks_in hex chunk
broken_track n h =
    rw (
      chunk_front 0x4d54726b (metas n) (0 ∷ []) (omega arith) (omega (arith, metas_length n)),
      metas_read n (length (metas n)) (omega (arith, metas_length n)),
    )

broken : (n : ℕ) → n ≤ 16777208 → number (alone (metas n) ++ (0 ∷ [])) ≡ 12
unfolding hex
broken n h =
    broken_by (alone (metas n) ++ (0 ∷ [])) (front (record { format = 0; count = 1; division = 96 }) (track (metas n) ++ (0 ∷ [])))
    (omega (arith, metas_length n, length-append (metas n) (0 ∷ []))) (header_front 0 1 (track (metas n) ++ (0 ∷ []))) (omega arith) (broken_track n h)

-- ---- all

many_metas : (n : ℕ) → n ≤ 16777209 → number (alone (metas n)) ≡ number_of (unless (piece_refusals (metas_piece n)) (piece_size (metas_piece n)))
unfolding hex
many_metas n h =
    read_by (alone (metas n)) (front (record { format = 0; count = 1; division = 96 }) (track (metas n))) (read_metas n ∷ [])
    (omega (arith, metas_length n)) (header_front 0 1 (track (metas n))) (omega arith) (one_track n h)

pub at_the_file_limits : AtTheFileLimits
unfolding unless piece_refusals flatten
at_the_file_limits =
    record {
      too_large = too_large;
      not_too_large = λ bs h. never (file_refusals bs) _ (file_others bs h);
      most_bytes = most_bytes_lem;
      many_events_lem = λ n l h. many_metas n h ∙ rw (agrees n, deltas_length n, lt-ltb 500000 (suc n) (omega arith));
      most_events = λ n h. many_metas n (omega arith) ∙ rw (agrees n, deltas_length n, le-ltb 500000 (suc n) (omega arith), append-nil, plain_metas);
      broken = broken;
    }
