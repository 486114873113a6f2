-- What the grammar derives is read, and what is read it derives.
use Prim.Native.Nat.{ℕ, zero, suc, ◌+◌, ◌-◌, ◌*◌, ◌^◌, ◌≤◌, ◌<◌}
use mathlib.Core.Bool.{Bool, true, false, cond, not, ◌&&◌, ◌||◌, and-eq-true_iff, false≢true, true≢false}
use mathlib.Core.List.{List, [], ◌∷◌, ◌++◌, append_assoc, append-nil}
use mathlib.Core.Logic.{◌⊎◌, inl, inr, ⊎_elim}
use mathlib.Core.Option.{some, some-injective, none-ne-some}
use mathlib.Core.Path.{◌≡◌, refl, ap, sym, ◌∙◌, subst}
use native.Mathlib.Omega.{arith}
use borrow.Author.Tests.{ltb-true, ltb-false, leb-true, eqb-true, eqb-false, lt-ltb, le-ltb, le-leb, eq-eqb, ne_eqb, not-true, not-false}
use lib.Dec.{leb, ltb, eqb}
use lib.ListN.{length, take, drop, length-append, length-take, length-drop, take-append-drop}
use lib.Seq.{take-append_seam, drop-append_seam, take_at, drop_at, drop-drop}
use Rattle.rules.specs.Lists.{is_empty}
use Rattle.rules.specs.Standard.{Message, system, big_endian}
use Rattle.rules.specs.File.{Front, front, number_in, number, bytes_of, sized, data_byte, has_one_byte, channel_message, meta_fits, meta_message, system_message}
use Rattle.rules.specs.File.{message, status_after, is_end, Timed, timed_message, events_in, track_of, chunk, MThd, MTrk, Header, Chunk, tracks_in, tracks_of}
use Rattle.rules.specs.File.{header, behind, count_fits, is_some, header_of, file_tracks, file_piece, piece_from, most_bytes, file_refusals}
use Rattle.rules.specs.Piece.{Piece, division, sizes_agree, well_formed}
use Rattle.rules.specs.Refusals.{first_number, event_refusals, piece_refusals, most_events, largest_delta}
use Rattle.laws.specs.Files.{events_from}
use Rattle.laws.specs.Grammar.{Quantity, Counted, counted, Data, one, two, Event, TrackEvent, timed, TrackEvents, ChunkOf, HeaderBytes, fields, Chunks}
use Rattle.laws.specs.Grammar.{File, file, Reads, ReadsExactly, OnePiece, FileRead}
use Rattle.laws.proofs.Order.{by_bool, by_or}
use Rattle.laws.proofs.Lists.{by_four}
use Rattle.laws.proofs.FileSteps.{guarded, by_option, by_test, and_then_lem, bytes_taken, events_end, events_more, tracks_done, tracks_track}
use Rattle.laws.proofs.FileSteps.{tracks_skip}

-- ---- what is derived is read, whatever stands behind it

shift : (v b l n : ℕ) → (v * 0x80 + b) * 0x80 ^ l + n ≡ v * 0x80 ^ suc l + (b * 0x80 ^ l + n)
shift v b l n = let e : 0x80 ^ suc l ≡ 0x80 * 0x80 ^ l = omega arith in rw e (omega arith)

quantity_read : {k n : ℕ} {qs : List ℕ} → Quantity k qs n → (v : ℕ) (bs : List ℕ) → number_in k v (qs ++ bs) ≡ some (front (v * 0x80 ^ length qs + n) bs)
unfolding number_in
quantity_read (Quantity.last {b = b} h) v bs = rw (lt-ltb b 0x80 h) (ap (λ (i : ℕ). some (front i bs)) (omega arith))
quantity_read (Quantity.more {k = k} {b = b} {n = n} {bs = qs} h q) v bs =
    rw (le-ltb b 0x80 h, quantity_read q (v * 0x80 + (b - 0x80)) bs) (ap (λ (i : ℕ). some (front i bs)) (shift v (b - 0x80) (length qs) n))

number_read : {n : ℕ} {qs : List ℕ} → Quantity 4 qs n → (bs : List ℕ) → number (qs ++ bs) ≡ some (front n bs)
number_read q bs = quantity_read q 0 bs ∙ ap (λ (i : ℕ). some (front i bs)) (omega arith)

bytes_read : (ds bs : List ℕ) → bytes_of (length ds) (ds ++ bs) ≡ some (front ds bs)
unfolding bytes_of
bytes_read ds bs = rw (le-leb (length ds) (length (ds ++ bs)) (simp length-append (omega arith)), take-append_seam, drop-append_seam)

counted_read : {cs ds : List ℕ} → Counted cs ds → (bs : List ℕ) → sized (cs ++ bs) ≡ some (front ds bs)
counted_read (counted {ls} {ds} q) bs = rw (append_assoc, number_read q (ds ++ bs)) (bytes_read ds bs)

data_read : {s : ℕ} {xs : List ℕ} {m : Message} → Data s xs m → (bs : List ℕ) → channel_message s (xs ++ bs) ≡ some (front m bs)
unfolding channel_message data_byte
data_read (one {x = x} t h) bs = rw (lt-ltb x 0x80 h, t)
data_read (two {x = x} {y = y} t h g) bs = rw (lt-ltb x 0x80 h, t, lt-ltb y 0x80 g)

runs : {running : ℕ} {xs : List ℕ} {m : Message} → (running ≡ 0 → ⊥) → Data running xs m → (bs : List ℕ)
    → message running (xs ++ bs) ≡ channel_message running (xs ++ bs)
unfolding message
runs {running} n (one {x = x} t h) bs = rw (lt-ltb x 0x80 h, ne_eqb running 0 n)
runs {running} n (two {x = x} t h g) bs = rw (lt-ltb x 0x80 h, ne_eqb running 0 n)

event_read : {running : ℕ} {xs : List ℕ} {m : Message} → Event running xs m → (bs : List ℕ) → message running (xs ++ bs) ≡ some (front m bs)
unfolding message system_message meta_message
event_read (Event.said {s} l u d) bs = rw (le-ltb s 0x80 l, lt-ltb s 0xf0 u) (data_read d bs)
event_read (Event.kept n d) bs = runs n d bs ∙ data_read d bs
event_read (Event.exclusive c) bs = rw (counted_read c bs)
event_read (Event.escape c) bs = rw (counted_read c bs)
event_read (Event.meta {type} l f c) bs = rw (lt-ltb type 0x80 l, counted_read c bs, f)

pub timed_read : {running : ℕ} {xs : List ℕ} {e : Timed} → TrackEvent running xs e → (bs : List ℕ) → timed_message running (xs ++ bs) ≡ some (front e bs)
unfolding timed_message
timed_read (timed {bs = xs} q e) bs = rw (append_assoc, number_read q (xs ++ bs), event_read e bs)

events_read : {running : ℕ} {bs : List ℕ} {es : List Timed} → TrackEvents running bs es → events_from running bs ≡ some es
events_read (TrackEvents.last {running} {bs} {e} t d) = events_end running bs (front e []) (rw append-nil at (timed_read d [])) t
events_read (TrackEvents.more {running} {bs} {cs} {e} t d r) = events_more running (bs ++ cs) (front e cs) (timed_read d cs) t ∙ rw (events_read r)

pub chunk_read : {xs body : List ℕ} {type : ℕ} → ChunkOf xs type body → (bs : List ℕ) → chunk (xs ++ bs) ≡ some (front (record { type = type; body = body }) bs)
unfolding chunk
chunk_read (ChunkOf.chunk type size {body} l k e) bs =
    by_four (λ type. chunk (type ++ size ++ body ++ bs) ≡ some (front (record { type = big_endian type; body = body }) bs))
    (λ a b c d. by_four (λ size. big_endian size ≡ length body
    → chunk (a ∷ b ∷ c ∷ d ∷ (size ++ body ++ bs)) ≡ some (front (record { type = big_endian (a ∷ b ∷ c ∷ d ∷ []); body = body }) bs))
    (λ p q r s e. rw (le-leb 8 (length (a ∷ b ∷ c ∷ d ∷ p ∷ q ∷ r ∷ s ∷ (body ++ bs))) (omega arith), e, bytes_read body bs)) size k e) type l

chunks_read : {bs : List ℕ} {ts : List (List Timed)} → Chunks bs ts → tracks_of bs ≡ some ts
chunks_read Chunks.none = tracks_done [] refl
chunks_read (Chunks.track {bs} {body} {cs} c t r) =
    tracks_track (bs ++ cs) (front (record { type = MTrk; body = body }) cs) (chunk_read c cs) refl ∙ rw (events_read t, chunks_read r)
chunks_read (Chunks.alien {type} {bs} {body} {cs} n m c r) =
    tracks_skip (bs ++ cs) (front (record { type = type; body = body }) cs) (chunk_read c cs) n m ∙ chunks_read r

-- the header that the first six bytes say
abbrev first_six : List ℕ → Header
first_six body =
    record { format = big_endian (take 2 body); count = big_endian (take 2 (drop 2 body)); division = big_endian (take 2 (drop 4 body)) }

header_bytes : {body : List ℕ} {h : Header} → HeaderBytes body h → (6 ≤ length body) × (first_six body ≡ h)
header_bytes (fields format count division others f c d) =
    simp append_assoc (
      simp length-append (omega arith),
      rw (
        take_at format (count ++ (division ++ others)) 2 f,
        ← drop-drop 2 2 (format ++ (count ++ (division ++ others))),
        drop_at format (count ++ (division ++ others)) 2 f,
        take_at count (division ++ others) 2 c,
        drop_at count (division ++ others) 2 c,
        take_at division others 2 d,
      ),
    )

header_read : {xs body : List ℕ} {h : Header} → ChunkOf xs MThd body → HeaderBytes body h → (bs : List ℕ) → header (xs ++ bs) ≡ some (front h bs)
unfolding header
header_read {body = body} c f bs =
    let (l, e) = header_bytes f in
    rw (chunk_read c bs, le-leb 6 (length body) l, e)

behind_read : (h : Header) (bs : List ℕ) (ts : List (List Timed)) → tracks_of bs ≡ some ts → length ts ≡ h.count → (h.format ≡ 0 → length ts ≡ 1)
    → behind (front h bs) ≡ some ts
unfolding behind
behind_read h bs ts r n o =
    rw (r, eq-eqb (length ts) h.count n)
    (elim (by_bool (eqb h.format 0)) [ inl t ↦ rw (t, eq-eqb (length ts) 1 (o (eqb-true h.format 0 t))) | inr t ↦ rw t ])

derived_read : {bs : List ℕ} {h : Header} {ts : List (List Timed)} → File bs h ts → Reads bs h ts
derived_read (file {cs = cs} {h} {ts} c f r n o) = (cs, header_read c f cs, behind_read h cs ts (chunks_read r) n o)

-- ---- what is read is derived

-- the front of some bytes, as a relation has it
abbrev Derived : {A : Type 0} → (List ℕ → A → Type 0) → List ℕ → Front A → Type 0
Derived R bs f = (xs : List ℕ) × R xs f.read × (bs ≡ xs ++ f.rest)

joined : {bs cs : List ℕ} (xs ys ds : List ℕ) → bs ≡ xs ++ cs → cs ≡ ys ++ ds → bs ≡ xs ++ ys ++ ds
joined xs ys ds e f = rw append_assoc (rw f at e)

quantity_derived : (k v : ℕ) (bs : List ℕ) (n : Front ℕ) → number_in k v bs ≡ some n
    → (qs : List ℕ) × (q : ℕ) × Quantity k qs q × (bs ≡ qs ++ n.rest) × (n.read ≡ v * 0x80 ^ length qs + q)
unfolding number_in
quantity_derived zero v bs n h = absurd (none-ne-some _ h)
quantity_derived (suc k) v [] n h = absurd (none-ne-some _ h)
quantity_derived (suc k) v (b ∷ bs) n h =
    elim (by_test (ltb b 0x80) _ _ n h) [
      | inl g ↦ rw (← some-injective _ _ g.1) (b ∷ [], b, Quantity.last (ltb-true b 0x80 g.0), refl, omega arith)
      | inr g ↦
          let (qs, q, d, e, r) = quantity_derived k (v * 0x80 + (b - 0x80)) bs n g.1 in
          (b ∷ qs, _, Quantity.more (ltb-false b 0x80 g.0) d, ap (λ (l : List ℕ). b ∷ l) e, r ∙ shift v (b - 0x80) (length qs) q)
    ]

number_derived : (bs : List ℕ) (n : Front ℕ) → number bs ≡ some n → Derived (Quantity 4) bs n
number_derived bs n h =
    let (qs, q, d, e, r) = quantity_derived 4 0 bs n h in
    let i : q ≡ n.read = omega arith in
    (qs, rw i at d, e)

bytes_derived : (n : ℕ) (bs : List ℕ) (d : Front (List ℕ)) → bytes_of n bs ≡ some d → (bs ≡ d.read ++ d.rest) × (n ≡ length d.read)
bytes_derived n bs d h = let t = bytes_taken n bs d h in (rw (t.0, t.1, take-append-drop), sym t.2)

counted_derived : (bs : List ℕ) (d : Front (List ℕ)) → sized bs ≡ some d → Derived Counted bs d
counted_derived bs d h =
    let (n, r, g) = and_then_lem (number bs) _ d h in
    let (qs, q, e) = number_derived bs n r in
    let (f, l) = bytes_derived n.read n.rest d g in
    (qs ++ d.read, counted {ds = d.read} (rw l at q), joined qs d.read d.rest e f)

data_derived : (bs : List ℕ) (x : Front ℕ) → data_byte bs ≡ some x → (x.read < 0x80) × (bs ≡ x.read ∷ x.rest)
unfolding data_byte
data_derived [] x h = absurd (none-ne-some _ h)
data_derived (b ∷ bs) x h = let (t, g) = guarded (ltb b 0x80) _ x h in rw (← some-injective _ _ g) (ltb-true b 0x80 t, refl)

channel_derived : (s : ℕ) (bs : List ℕ) (m : Front Message) → channel_message s bs ≡ some m → Derived (Data s) bs m
unfolding channel_message
channel_derived s bs m h =
    let (x, r, g) = and_then_lem (data_byte bs) _ m h in
    let (l, e) = data_derived bs x r in
    elim (by_test (has_one_byte s) _ _ m g) [
      | inl k ↦ rw (← some-injective _ _ k.1) (x.read ∷ [], one k.0 l, e)
      | inr k ↦
          let (y, q, f) = and_then_lem (data_byte x.rest) _ m k.1 in
          let (o, i) = data_derived x.rest y q in
          rw (← some-injective _ _ f) (x.read ∷ y.read ∷ [], two k.0 l o, joined (x.read ∷ []) (y.read ∷ []) y.rest e i)
    ]

message_derived : (running : ℕ) (bs : List ℕ) (m : Front Message) → message running bs ≡ some m → Derived (Event running) bs m
unfolding message meta_message system_message
message_derived running [] m h = absurd (none-ne-some _ h)
message_derived running (s ∷ bs) m h =
    elim (by_test (ltb s 0x80) _ _ m h) [
      | inl g ↦ elim (by_test (eqb running 0) _ _ m g.1) [
        | inl k ↦ absurd (none-ne-some _ k.1)
        | inr k ↦
            let (xs, d, e) = channel_derived running (s ∷ bs) m k.1 in
            (xs, Event.kept (eqb-false running 0 k.0) d, e)
      ]
      | inr g ↦ elim (by_test (ltb s 0xf0) _ _ m g.1) [
        | inl k ↦
            let (xs, d, e) = channel_derived s bs m k.1 in
            (s ∷ xs, Event.said (ltb-false s 0x80 g.0) (ltb-true s 0xf0 k.0) d, ap (λ (l : List ℕ). s ∷ l) e)
        | inr k ↦ elim (by_test (eqb s 0xff) _ _ m k.1) [
          | inl o ↦ rw (eqb-true s 0xff o.0) (meta_derived running bs m o.1)
          | inr o ↦
              let (t, f) = guarded (eqb s 0xf0 || eqb s 0xf7) _ m o.1 in
              let (d, r, i) = and_then_lem (sized bs) _ m f in
              let (xs, c, e) = counted_derived bs d r in
              rw (← some-injective _ _ i) (s ∷ xs, system_derived running s xs d.read (by_or _ _ t) c, ap (λ (l : List ℕ). s ∷ l) e)
        ]
      ]
    ]
  where
    meta_derived : (running : ℕ) (bs : List ℕ) (m : Front Message) → meta_message bs ≡ some m → Derived (Event running) (0xff ∷ bs) m
    meta_derived running [] m h = absurd (none-ne-some _ h)
    meta_derived running (type ∷ bs) m h =
        let (l, g) = guarded (ltb type 0x80) _ m h in
        let (d, r, f) = and_then_lem (sized bs) _ m g in
        let (t, i) = guarded (meta_fits type (length d.read)) _ m f in
        let (xs, c, e) = counted_derived bs d r in
        rw (← some-injective _ _ i) (0xff ∷ type ∷ xs, Event.meta (ltb-true type 0x80 l) t c, ap (λ (l : List ℕ). 0xff ∷ type ∷ l) e)

    system_derived : (running s : ℕ) (xs ds : List ℕ) → (eqb s 0xf0 ≡ true) ⊎ (eqb s 0xf7 ≡ true) → Counted xs ds → Event running (s ∷ xs) (system s ds)
    system_derived running s xs ds (inl t) c = rw (eqb-true s 0xf0 t) (Event.exclusive c)
    system_derived running s xs ds (inr t) c = rw (eqb-true s 0xf7 t) (Event.escape c)

timed_derived : (running : ℕ) (bs : List ℕ) (e : Front Timed) → timed_message running bs ≡ some e → Derived (TrackEvent running) bs e
unfolding timed_message
timed_derived running bs e h =
    let (d, r, g) = and_then_lem (number bs) _ e h in
    let (m, q, f) = and_then_lem (message running d.rest) _ e g in
    let (ds, n, i) = number_derived bs d r in
    let (ms, v, j) = message_derived running d.rest m q in
    rw (← some-injective _ _ f) (ds ++ ms, timed n v, joined ds ms m.rest i j)

-- a track's last event; one before it
end_at : (running : ℕ) (bs xs cs : List ℕ) (e : Timed) → bs ≡ xs ++ cs → is_empty cs ≡ true → is_end e.message ≡ true → TrackEvent running xs e
    → TrackEvents running bs (e ∷ [])
end_at running bs xs [] e i n t d = rw (i, append-nil) (TrackEvents.last t d)
end_at running bs xs (c ∷ cs) e i n t d = absurd (false≢true n)

more_at : (running : ℕ) (bs xs cs : List ℕ) (e : Timed) (es : List Timed) → bs ≡ xs ++ cs → is_end e.message ≡ false → TrackEvent running xs e
    → TrackEvents (status_after e.message) cs es → TrackEvents running bs (e ∷ es)
more_at running bs xs cs e es i t d r = rw i (TrackEvents.more t d r)

events_derived : (k running : ℕ) (bs : List ℕ) (es : List Timed) → events_in k running bs ≡ some es → TrackEvents running bs es
unfolding events_in
events_derived zero running bs es h = absurd (none-ne-some _ h)
events_derived (suc k) running bs es h =
    let (e, r, g) = and_then_lem (timed_message running bs) _ es h in
    let (xs, d, i) = timed_derived running bs e r in
    elim (by_test (is_end e.read.message) _ _ es g) [
      | inl q ↦
          let (t, f) = guarded (is_empty e.rest) _ es q.1 in
          rw (← some-injective _ _ f) (end_at running bs xs e.rest e.read i t q.0 d)
      | inr q ↦
          let (fs, t, f) = and_then_lem (events_in k (status_after e.read.message) e.rest) _ es q.1 in
          rw (← some-injective _ _ f)
          (more_at running bs xs e.rest e.read fs i q.0 d (events_derived k (status_after e.read.message) e.rest fs t))
    ]

chunk_derived : (bs : List ℕ) (c : Front Chunk) → chunk bs ≡ some c → Derived (λ xs c. ChunkOf xs c.type c.body) bs c
unfolding chunk
chunk_derived bs c h =
    let (l, g) = guarded (leb 8 (length bs)) _ c h in
    let (b, r, f) = and_then_lem (bytes_of (big_endian (take 4 (drop 4 bs))) (drop 8 bs)) _ c g in
    let (i, n) = bytes_derived (big_endian (take 4 (drop 4 bs))) (drop 8 bs) b r in
    rw (← some-injective _ _ f) (
      take 4 bs ++ take 4 (drop 4 bs) ++ b.read,
      ChunkOf.chunk (take 4 bs) (take 4 (drop 4 bs)) (four_of bs l) (next_of bs l) n,
      joined (take 4 bs ++ take 4 (drop 4 bs)) b.read b.rest (eight_of bs) i,
    )
  where
    four_of : (bs : List ℕ) → leb 8 (length bs) ≡ true → length (take 4 bs) ≡ 4
    four_of bs l = rw length-take (omega (arith, leb-true 8 (length bs) l))

    next_of : (bs : List ℕ) → leb 8 (length bs) ≡ true → length (take 4 (drop 4 bs)) ≡ 4
    next_of bs l = rw (length-take, length-drop) (omega (arith, leb-true 8 (length bs) l))

    eight_of : (bs : List ℕ) → bs ≡ take 4 bs ++ take 4 (drop 4 bs) ++ drop 8 bs
    eight_of bs = rw (← drop-drop 4 4 bs, append_assoc, take-append-drop, take-append-drop)

track_at : (bs xs cs body : List ℕ) (type : ℕ) (t : List Timed) (ts : List (List Timed)) → bs ≡ xs ++ cs → type ≡ MTrk → ChunkOf xs type body
    → TrackEvents 0 body t → Chunks cs ts → Chunks bs (t ∷ ts)
track_at bs xs cs body type t ts i e c d r = rw i (Chunks.track (rw e at c) d r)

alien_at : (bs xs cs body : List ℕ) (type : ℕ) (ts : List (List Timed)) → bs ≡ xs ++ cs → (type ≡ MThd → ⊥) → (type ≡ MTrk → ⊥) → ChunkOf xs type body
    → Chunks cs ts → Chunks bs ts
alien_at bs xs cs body type ts i n m c r = rw i (Chunks.alien n m c r)

none_at : (bs : List ℕ) (ts : List (List Timed)) → is_empty bs ≡ true → [] ≡ ts → Chunks bs ts
none_at [] ts t e = rw (← e) Chunks.none
none_at (b ∷ bs) ts t e = absurd (false≢true t)

tracks_derived : (k : ℕ) (bs : List ℕ) (ts : List (List Timed)) → tracks_in k bs ≡ some ts → Chunks bs ts
unfolding tracks_in
tracks_derived zero bs ts h = let (t, g) = guarded (is_empty bs) _ ts h in none_at bs ts t (some-injective _ _ g)
tracks_derived (suc k) bs ts h =
    elim (by_test (is_empty bs) _ _ ts h) [
      | inl q ↦ none_at bs ts q.0 (some-injective _ _ q.1)
      | inr q ↦
          let (c, r, g) = and_then_lem (chunk bs) _ ts q.1 in
          let (xs, d, i) = chunk_derived bs c r in
          elim (by_test (eqb c.read.type MThd) _ _ ts g) [
            | inl o ↦ absurd (none-ne-some _ o.1)
            | inr o ↦ elim (by_test (eqb c.read.type MTrk) _ _ ts o.1) [
              | inl p ↦
                  let (t, u, f) = and_then_lem (track_of c.read.body) _ ts p.1 in
                  let (us, v, j) = and_then_lem (tracks_in k c.rest) _ ts f in
                  rw (← some-injective _ _ j)
                  (track_at bs xs c.rest c.read.body c.read.type t us i (eqb-true c.read.type MTrk p.0) d
                  (events_derived (length c.read.body) 0 c.read.body t u) (tracks_derived k c.rest us v))
              | inr p ↦
                  alien_at bs xs c.rest c.read.body c.read.type ts i (eqb-false c.read.type MThd o.0)
                  (eqb-false c.read.type MTrk p.0) d (tracks_derived k c.rest ts p.1)
            ]
          ]
    ]

six_of : (body : List ℕ) → body ≡ take 2 body ++ take 2 (drop 2 body) ++ take 2 (drop 4 body) ++ drop 6 body
six_of body =
    simp append_assoc (rw (← drop-drop 2 4 body, take-append-drop 2 (drop 4 body), ← drop-drop 2 2 body, take-append-drop 2 (drop 2 body), take-append-drop))

header_fields : (body : List ℕ) → 6 ≤ length body → HeaderBytes body (first_six body)
header_fields body l =
    subst (λ b. HeaderBytes b (first_six body)) (sym (six_of body))
    (fields (take 2 body) (take 2 (drop 2 body)) (take 2 (drop 4 body)) (drop 6 body) (rw length-take (omega arith))
    (rw (length-take, length-drop) (omega arith)) (rw (length-take, length-drop) (omega arith)))

pub header_derived : (bs : List ℕ) (h : Front Header) → header bs ≡ some h
    → (xs body : List ℕ) × ChunkOf xs MThd body × HeaderBytes body h.read × (bs ≡ xs ++ h.rest)
unfolding header
header_derived bs h e =
    let (c, r, g) = and_then_lem (chunk bs) _ h e in
    let (t, f) = guarded (eqb c.read.type MThd && leb 6 (length c.read.body)) _ h g in
    let (xs, d, i) = chunk_derived bs c r in
    let (m, l) = (and-eq-true_iff (eqb c.read.type MThd) (leb 6 (length c.read.body))).0 t in
    rw (← some-injective _ _ f)
    (xs, c.read.body, rw (eqb-true c.read.type MThd m) at d, header_fields c.read.body (leb-true 6 (length c.read.body) l), i)

pub behind_derived : (h : Front Header) (ts : List (List Timed)) → behind h ≡ some ts
    → Chunks h.rest ts × (length ts ≡ h.read.count) × (h.read.format ≡ 0 → length ts ≡ 1)
unfolding behind
behind_derived h ts b =
    let (us, t, g) = and_then_lem (tracks_of h.rest) _ ts b in
    let (f, j) = guarded (count_fits h.read us) _ ts g in
    let (n, o) = (and-eq-true_iff (eqb (length us) h.read.count) (not (eqb h.read.format 0) || eqb (length us) 1)).0 f in
    rw (← some-injective _ _ j)
    (tracks_derived (length h.rest) h.rest us t, eqb-true (length us) h.read.count n, one_track h.read.format (length us) o)
  where
    one_track : (format n : ℕ) → not (eqb format 0) || eqb n 1 ≡ true → format ≡ 0 → n ≡ 1
    one_track format n o z = eqb-true n 1 (rw (eq-eqb format 0 z) at o)

file_derived : (bs : List ℕ) (h : Header) (ts : List (List Timed)) → Reads bs h ts → File bs h ts
file_derived bs h ts (cs, r, b) =
    let (xs, body, c, d, i) = header_derived bs (front h cs) r in
    let (k, n, o) = behind_derived (front h cs) ts b in
    rw i (file c d k n o)

-- ---- what is claimed

pub reads_exactly : ReadsExactly
reads_exactly bs h ts = (derived_read, file_derived bs h ts)

pub one_piece : OnePiece
one_piece bs h h' ts ts' f g =
    let (r, i, j) = derived_read f in
    let (s, k, l) = derived_read g in
    let e : front h r ≡ front h' s = some-injective _ _ (sym i ∙ k) in
    (ap (λ (x : Front Header). x.read) e, some-injective _ _ (sym j ∙ rw e l))

-- ---- the numbers

-- a piece's own end with 5
event_number : (ds ws : List ℕ) → first_number (event_refusals ds ws) ≤ 5
unfolding first_number event_refusals
event_number [] ws = omega arith
event_number (d ∷ ds) [] = omega arith
event_number (d ∷ ds) (w ∷ ws) =
    elim (by_bool (ltb largest_delta d)) [
      | inl t ↦ rw t (omega arith)
      | inr t ↦ elim (by_bool (well_formed w)) [ inl k ↦ rw (t, k) (event_number ds ws) | inr k ↦ rw (t, k) (omega arith) ]
    ]

piece_number : (x : Piece) → first_number (piece_refusals x) ≤ 5
unfolding first_number piece_refusals
piece_number x =
    elim (by_bool (sizes_agree x)) [
      | inl s ↦ elim (by_bool (eqb (division x) 0)) [
        | inl d ↦ rw (s, d) (omega arith)
        | inr d ↦ elim (by_bool (ltb most_events (length x.deltas))) [
          | inl m ↦ rw (s, d, m) (omega arith)
          | inr m ↦ rw (s, d, m) (event_number x.deltas x.words)
        ]
      ]
      | inr s ↦ rw s (omega arith)
    ]

-- 12 comes from the second or the fourth of a file's refusals
twelve_where : (a b c d : Bool) (n : ℕ) → n ≤ 5 → cond a 11 (cond b 12 (cond c 13 (cond d 12 n))) ≡ 12
    → (a ≡ false) × ((b ≡ true) ⊎ ((c ≡ false) × (d ≡ true)))
twelve_where true b c d n l e = absurd (omega arith)
twelve_where false true c d n l e = (refl, inl refl)
twelve_where false false true d n l e = absurd (omega arith)
twelve_where false false false true n l e = (refl, inr (refl, refl))
twelve_where false false false false n l e = absurd (omega arith)

-- below 11, neither of them applies
passed_where : (a b c d : Bool) (n : ℕ) → cond a 11 (cond b 12 (cond c 13 (cond d 12 n))) ≤ 10 → (b ≡ false) × (d ≡ false)
passed_where true b c d n l = absurd (omega arith)
passed_where false true c d n l = absurd (omega arith)
passed_where false false true d n l = absurd (omega arith)
passed_where false false false true n l = absurd (omega arith)
passed_where false false false false n l = (refl, refl)

-- the header, and what is behind it, where they are there
module _ (bs : List ℕ) where
  derives : is_some (header bs) ≡ true → is_some (behind (header_of bs)) ≡ true → File bs (header_of bs).read (file_tracks bs)
  derives s t =
      elim (by_option (header bs)) [
        | inl n ↦ absurd (false≢true (rw n at s))
        | inr (h, e) ↦ elim (by_option (behind h)) [
          | inl n ↦ absurd (false≢true (rw (e, n) at t))
          | inr (ts, f) ↦ rw (e, f) (file_derived bs h.read ts (h.rest, e, f))
        ]
      ]

  derived : (h : Header) (ts : List (List Timed)) → File bs h ts
      → (is_some (header bs) ≡ true) × (is_some (behind (header_of bs)) ≡ true) × (file_piece bs ≡ piece_from h.division ts)
  derived h ts f = let (r, i, j) = derived_read f in rw (i, j) (refl, refl, refl)

  passed : first_number (file_refusals bs) ≤ 10 → File bs (header_of bs).read (file_tracks bs)
  unfolding first_number file_refusals
  passed l =
      let (s, t) = passed_where (ltb most_bytes (length bs)) _ (ltb 1 (header_of bs).read.format) _ (first_number (piece_refusals (file_piece bs))) l in
      derives (not-false _ s) (not-false _ t)

  no_format : not (is_some (header bs)) ≡ true → (header_of bs).read.format ≤ 1
  no_format t = elim (by_option (header bs)) [ inl n ↦ rw n (omega arith) | inr (h, e) ↦ absurd (false≢true (rw e at t)) ]

  refused_twelve : first_number (file_refusals bs) ≡ 12
      → (length bs ≤ most_bytes) × ((header_of bs).read.format ≤ 1) × ((h : Header) (ts : List (List Timed)) → File bs h ts → ⊥)
  unfolding first_number file_refusals
  refused_twelve e =
      let (l, o) = twelve_where (ltb most_bytes (length bs)) _ _ _ _ (piece_number (file_piece bs)) e in (
        ltb-false _ _ l,
        ⊎_elim no_format (λ k. ltb-false _ _ k.0) o,
        λ h ts f. let (p, q, r) = derived h ts f in ⊎_elim (λ t. true≢false (sym p ∙ not-true _ t)) (λ k. true≢false (sym q ∙ not-true _ k.1)) o,
      )

  twelve_refused : length bs ≤ most_bytes → (header_of bs).read.format ≤ 1 → ((h : Header) (ts : List (List Timed)) → File bs h ts → ⊥)
      → first_number (file_refusals bs) ≡ 12
  unfolding first_number file_refusals
  twelve_refused l f n =
      rw (le-ltb most_bytes (length bs) l)
      (elim (by_bool (is_some (header bs))) [
        | inl s ↦ elim (by_bool (is_some (behind (header_of bs)))) [
          | inl t ↦ absurd (n _ _ (derives s t))
          | inr t ↦ rw (s, le-ltb 1 (header_of bs).read.format f, t)
        ]
        | inr s ↦ rw s
      ])

pub file_read : (bs : List ℕ) → FileRead bs
file_read bs =
    record { passed = passed bs; derives = derives bs; derived = derived bs; twelve = (refused_twelve bs, λ k. twelve_refused bs k.0 k.1 k.2) }
