-- What a file's bytes bound: the numbers in it, its events and its sizes.
use Prim.Native.Nat.{ℕ, suc, ◌+◌, ◌-◌, ◌*◌, ◌^◌, ◌≤◌, ◌<◌}
use mathlib.Core.Bool.{true, cond}
use mathlib.Core.List.{List, [], ◌∷◌, ◌++◌, map, flatten}
use mathlib.Core.Logic.{inl, inr}
use mathlib.Core.Path.{◌≡◌, refl}
use native.Mathlib.Nat.{mul-le-mul_right, pow-le-pow_right}
use native.Mathlib.Omega.{arith}
use borrow.Author.Tests.{le-ltb, le-leb, eq-eqb}
use lib.ListN.{length, length-append, length-map}
use Rattle.rules.specs.Lists.{All, every, sum}
use Rattle.rules.specs.Standard.{big_endian}
use Rattle.rules.specs.Piece.{sizes_agree, well_formed, largest_size}
use Rattle.rules.specs.Refusals.{first_number, event_refusals, piece_refusals, largest_delta}
use Rattle.rules.specs.File.{front, Timed, Header, header, behind, header_of, file_tracks, file_piece, piece_from, deltas_of, words_of, MTrk}
use Rattle.laws.specs.Files.{Bytes, Suffices, FileNumbers}
use Rattle.laws.specs.Grammar.{Quantity, TrackEvent, timed, TrackEvents, ChunkOf, HeaderBytes, fields, Chunks}
use Rattle.laws.proofs.Order.{by_bool}
use Rattle.laws.proofs.Lists.{All-left, All-right, All-flatten, All-map, length_flatten}
use Rattle.laws.proofs.FileSteps.{by_option, timed_shorter, chunk_shorter}
use Rattle.laws.proofs.Grammar.{timed_read, chunk_read, header_derived, behind_derived}

-- ---- the numbers in it

weighs : (b n l : ℕ) → b ≤ 127 → n < 0x80 ^ l → b * 0x80 ^ l + n < 0x80 ^ suc l
weighs b n l h k = omega (arith, mul-le-mul_right (0x80 ^ l) h)

quantity_below : {k n : ℕ} {qs : List ℕ} → Quantity k qs n → Bytes qs → n < 0x80 ^ length qs
quantity_below (Quantity.last l) h = omega arith
quantity_below (Quantity.more {b = b} {n = n} {bs = bs} l q) h =
    weighs (b - 0x80) n (length bs) (omega (arith, h.0)) (quantity_below q h.1)

quantity_length : {k n : ℕ} {qs : List ℕ} → Quantity k qs n → length qs ≤ k
quantity_length (Quantity.last l) = omega arith
quantity_length (Quantity.more l q) = omega (arith, quantity_length q)

-- four bytes of seven bits
quantity_most : {n : ℕ} {qs : List ℕ} → Quantity 4 qs n → Bytes qs → n ≤ largest_delta
quantity_most {qs = qs} q h =
    let i : 0x80 ^ length qs ≤ 0x80 ^ 4 = pow-le-pow_right (omega arith) (quantity_length q) in
    omega (arith, quantity_below q h)

abbrev InRange : List Timed → Type 0
InRange es = All (λ (e : Timed). e.delta ≤ largest_delta) es

event_range : {running : ℕ} {bs : List ℕ} {e : Timed} → TrackEvent running bs e → Bytes bs → e.delta ≤ largest_delta
event_range (timed {ds} {bs} q v) h = quantity_most q (All-left _ ds bs h)

track_range : {running : ℕ} {bs : List ℕ} {es : List Timed} → TrackEvents running bs es → Bytes bs → InRange es
track_range (TrackEvents.last t d) h = (event_range d h, tt)
track_range (TrackEvents.more {bs = bs} {cs} t d r) h = (event_range d (All-left _ bs cs h), track_range r (All-right _ bs cs h))

chunk_bytes : {bs body : List ℕ} {type : ℕ} → ChunkOf bs type body → Bytes bs → Bytes body
chunk_bytes (ChunkOf.chunk type size {body} l k e) h = All-right _ (type ++ size) body h

chunks_range : {bs : List ℕ} {ts : List (List Timed)} → Chunks bs ts → Bytes bs → All InRange ts
chunks_range Chunks.none h = tt
chunks_range (Chunks.track {bs} {cs = cs} c t r) h = (track_range t (chunk_bytes c (All-left _ bs cs h)), chunks_range r (All-right _ bs cs h))
chunks_range (Chunks.alien {bs = bs} {cs = cs} n m c r) h = chunks_range r (All-right _ bs cs h)

two_bytes : (xs : List ℕ) → length xs ≡ 2 → Bytes xs → big_endian xs ≤ largest_size
two_bytes [] l h = absurd (omega arith)
two_bytes (x ∷ []) l h = absurd (omega arith)
two_bytes (x ∷ y ∷ []) l h = omega arith
two_bytes (x ∷ y ∷ z ∷ xs) l h = absurd (omega arith)

fields_range : {body : List ℕ} {h : Header} → HeaderBytes body h → Bytes body → (h.count ≤ largest_size) × (h.division ≤ largest_size)
fields_range (fields format count division others f c d) h =
    let h = All-left _ (format ++ count ++ division) others h in
    let k = All-left _ (format ++ count) division h in
    (two_bytes count c (All-right _ format count k), two_bytes division d (All-right _ (format ++ count) division h))

-- ---- its events and its sizes

-- each event has two bytes or more, End of Track four
track_size : {running : ℕ} {bs : List ℕ} {es : List Timed} → TrackEvents running bs es → (2 * length es + 2 ≤ length bs) × (0 < length es)
track_size (TrackEvents.last {running} {bs} {e} t d) =
    let i = (timed_shorter running (bs ++ []) (front e []) (timed_read d [])).1 t in
    (omega (arith, length-append bs []), omega arith)
track_size (TrackEvents.more {running} {bs} {cs} {e} t d r) =
    let i = (timed_shorter running (bs ++ cs) (front e cs) (timed_read d cs)).0 in
    (omega (arith, track_size r), omega arith)

-- each track has eight bytes besides
chunks_size : {bs : List ℕ} {ts : List (List Timed)} → Chunks bs ts → (12 * length ts ≤ length bs) × (2 * length (flatten ts) ≤ length bs)
unfolding flatten
chunks_size Chunks.none = (omega arith, omega arith)
chunks_size (Chunks.track {bs} {body} {cs} {t} {ts} c d r) =
    let i = chunk_shorter (bs ++ cs) (front (record { type = MTrk; body = body }) cs) (chunk_read c cs) in
    let k = track_size d in
    let j = chunks_size r in
    (omega arith, rw (length-append t (flatten ts)) (omega arith))
chunks_size (Chunks.alien {type} {bs} {body} {cs} n m c r) =
    let i = chunk_shorter (bs ++ cs) (front (record { type = type; body = body }) cs) (chunk_read c cs) in
    let j = chunks_size r in
    (omega arith, omega arith)

-- ---- the numbers 1 to 5

-- with deltas in range, a bad word is all that can be wrong with an event
event_numbers : (ds ws : List ℕ) → length ds ≡ length ws → All (λ d. d ≤ largest_delta) ds
    → first_number (event_refusals ds ws) ≡ cond (every well_formed ws) 0 5
unfolding first_number event_refusals every
event_numbers [] [] l h = refl
event_numbers [] (w ∷ ws) l h = absurd (omega arith)
event_numbers (d ∷ ds) [] l h = absurd (omega arith)
event_numbers (d ∷ ds) (w ∷ ws) l h =
    rw (le-ltb largest_delta d h.0)
    (elim (by_bool (well_formed w)) [ inl t ↦ rw t (event_numbers ds ws (omega arith) h.1) | inr t ↦ rw t ])

-- sizes that count the tracks agree
sizes_agree_lem : (division : ℕ) (ts : List (List Timed)) → division ≤ largest_size → length ts ≤ largest_size → sizes_agree (piece_from division ts) ≡ true
unfolding sizes_agree
sizes_agree_lem division ts d n =
    let e : length (flatten ts) ≡ sum (map length ts) = length_flatten ts in
    rw (
      eq-eqb (length (division ∷ length ts ∷ map length ts)) (2 + length ts) (rw length-map (omega arith)),
      eq-eqb (length (deltas_of (flatten ts))) (sum (map length ts)) (rw length-map e),
      eq-eqb (length (words_of (flatten ts))) (sum (map length ts)) (rw length-map e),
      le-leb (length ts) largest_size n,
      le-leb division largest_size d,
    )

module _ (bs : List ℕ) where
  rest_size : length (header_of bs).rest ≤ length bs
  rest_size =
      elim (by_option (header bs)) [
        | inl n ↦ rw n (omega arith)
        | inr (h, e) ↦
            let (xs, body, c, f, i) = header_derived bs h e in
            rw e (rw i (simp length-append (omega arith)))
      ]

  piece_size : (12 * length (file_tracks bs) ≤ length bs) × (2 * length (flatten (file_tracks bs)) ≤ length bs)
  unfolding flatten
  piece_size =
      let l = rest_size in
      elim (by_option (behind (header_of bs))) [
        | inl n ↦ rw n (omega arith, omega arith)
        | inr (ts, e) ↦
            let j = chunks_size (behind_derived (header_of bs) ts e).0 in
            rw e (omega arith, omega arith)
      ]

  pub suffices : Suffices bs
  suffices =
      let l = piece_size in
      record { deltas = rw length-map (omega arith); words = rw length-map (omega arith); sizes = rw length-map (omega arith) }

  module _ (h : Bytes bs) where
    header_range : Bytes (header_of bs).rest × ((header_of bs).read.count ≤ largest_size) × ((header_of bs).read.division ≤ largest_size)
    header_range =
        elim (by_option (header bs)) [
          | inl n ↦ rw n (tt, omega arith, omega arith)
          | inr (r, e) ↦
              let (xs, body, c, f, i) = header_derived bs r e in
              let k : Bytes (xs ++ r.rest) = rw i at h in
              let (n, d) = fields_range f (chunk_bytes c (All-left _ xs r.rest k)) in
              rw e (All-right _ xs r.rest k, n, d)
        ]

    tracks_range : (length (file_tracks bs) ≤ largest_size) × All InRange (file_tracks bs)
    tracks_range =
        let (b, n, d) = header_range in
        elim (by_option (behind (header_of bs))) [
          | inl n ↦ rw n (omega arith, tt)
          | inr (ts, e) ↦ let (c, l, o) = behind_derived (header_of bs) ts e in rw e (omega arith, chunks_range c b)
        ]

    deltas_range : All (λ d. d ≤ largest_delta) (file_piece bs).deltas
    deltas_range =
        All-map (λ d. d ≤ largest_delta) (λ (e : Timed). e.delta) (λ e k. k) (flatten (file_tracks bs))
        (All-flatten (λ (e : Timed). e.delta ≤ largest_delta) (file_tracks bs) tracks_range.1)

    agree : sizes_agree (file_piece bs) ≡ true
    agree = sizes_agree_lem (header_of bs).read.division (file_tracks bs) header_range.2 tracks_range.0

    pub file_numbers : FileNumbers bs
    unfolding first_number piece_refusals
    file_numbers =
        record {
          sizes = agree;
          deltas = deltas_range;
          number = rw (agree, event_numbers (file_piece bs).deltas (file_piece bs).words (rw (length-map, length-map)) deltas_range);
        }
