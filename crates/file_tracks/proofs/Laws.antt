-- What is gathered: arrays filled as far as they go, one event, one track, one chunk more, and what is left to read.
use Prim.Native.Nat.{ℕ, ◌+◌, ◌-◌, ◌≤◌, ◌<◌}
use mathlib.Core.Bool.{Bool, true, false, cond, ◌&&◌, and-true, and_assoc}
use mathlib.Core.List.{List, [], ◌∷◌, ◌++◌, map, flatten, append-nil, append_assoc, map-append}
use mathlib.Core.Logic.{inl, inr}
use mathlib.Core.Option.{Option, none, some}
use mathlib.Core.Path.{◌≡◌, refl, ap, sym, ◌∙◌}
use native.Mathlib.Omega.{arith}
use borrow.Author.Tests.{lt-ltb, le-ltb, le-leb, lt-leb, ltb-true, ltb-false, eqb-true, eqb-false}
use lib.Dec.{ltb, eqb}
use lib.ListN.{length, take, drop, set, length-append, length-take, length-drop, length-map, drop_of_length-le}
use lib.Seq.{take-nil, take_all, take-append-le, append_snoc, drop-cons, drop-drop}
use Rattle.std.specs.Prelude as std
use Rattle.std.specs.Prelude.{Some}
use Rattle.std.specs.Bool.{then_some}
use Rattle.rules.specs.Lists.{every, written, is_empty}
use Rattle.rules.specs.Standard.{big_endian}
use Rattle.rules.specs.Piece.{well_formed}
use Rattle.rules.specs.File.{and_then, Front, Timed, deltas_of, words_of, word_of, timed_message, is_end, status_after, track_of}
use Rattle.rules.specs.File.{front, bytes_of, Chunk, chunk, MThd, MTrk, tracks_of}
use Rattle.laws.specs.Files.{events_from}
use Rattle.laws.specs.Parsed.{Agrees}
use Rattle.laws.proofs.Filling.{Wrote, wrote_more}
use Rattle.laws.proofs.FileSteps.{events_none, events_broken, events_end, events_more, tracks_done}
use Rattle.laws.proofs.FileSteps.{tracks_broken, tracks_header, tracks_track, tracks_skip}
use Rattle.laws.proofs.Order.{by_bool}
use Rattle.laws.proofs.Parsed.{both_some, both_none}
use Rattle.file_events.specs.declared.TimedEvent.{TimedEvent}
use Rattle.file_events.specs.Events.{EventIs, status_of}
use Rattle.file_tracks.specs.declared.Gathered.{Gathered}
use Rattle.file_tracks.specs.declared.Chunk as place
use Rattle.file_tracks.specs.Gathering.{gathered_read, Grown, fitted, stored, EventsHeld, TracksHeld, ChunkIs, chunk_tracks}
use Rattle.laws.proofs.Lists.{flatten_append}

-- ---- arrays

pub fitted_none : (l : List ℕ) → fitted [] l ≡ l
fitted_none l = rw (take-nil {A = ℕ} (length l))

pub fitted_length : (xs l : List ℕ) → length (fitted xs l) ≡ length l
fitted_length xs l = simp (length-append, length-take, length-drop) (omega arith)

pub fitted_all : (xs l : List ℕ) → length xs ≤ length l → fitted xs l ≡ written xs l
fitted_all xs l h = rw (take_all (length l) xs h)

module _ (xs l : List ℕ) (v : ℕ) where
  room : length xs < length l → stored (fitted xs l) (length xs) v ≡ fitted (xs ++ (v ∷ [])) l
  room h =
      let more : Wrote (xs ++ (v ∷ [])) (length xs + 1) l (set (fitted xs l) (length xs) v) =
      wrote_more {xs = xs} v (rw (fitted_length xs l) h) (record { count = refl; kept = fitted_length xs l; is = fitted_all xs l (omega arith) }) in
      rw (fitted_length xs l, lt-ltb (length xs) (length l) h)
      (more.is ∙ sym (fitted_all (xs ++ (v ∷ [])) l (simp length-append (omega arith)) ∙ rw more.count))

  full : length l ≤ length xs → stored (fitted xs l) (length xs) v ≡ fitted (xs ++ (v ∷ [])) l
  full h = rw (fitted_length xs l, le-ltb (length xs) (length l) h) (rw (take-append-le (length l) xs (v ∷ []) h))

  -- one element more
  pub fitted_more : stored (fitted xs l) (length xs) v ≡ fitted (xs ++ (v ∷ [])) l
  fitted_more = elim (by_bool (ltb (length xs) (length l))) [ inl t ↦ room (ltb-true _ _ t) | inr t ↦ full (ltb-false _ _ t) ]

-- ---- one event more

every_snoc : {A : Type 0} (f : A → Bool) (xs : List A) (x : A) → every f (xs ++ (x ∷ [])) ≡ every f xs && f x
unfolding every
every_snoc f [] x = and-true (f x)
every_snoc f (y ∷ ys) x = rw (every_snoc f ys x) (sym (and_assoc (f y) (every f ys) (f x)))

module _ (es : List Timed) (e : Timed) (g h : Gathered) (ds ws d w : List ℕ) (held : EventsHeld es g ds ws d w) where
  deltas_more : stored d g.events e.delta ≡ fitted (deltas_of (es ++ (e ∷ []))) ds
  deltas_more =
      let n : g.events ≡ length (deltas_of es) = held.count ∙ sym (length-map es (λ (t : Timed). t.delta)) in
      rw (n, held.deltas, map-append (λ (t : Timed). t.delta) es (e ∷ [])) (fitted_more (deltas_of es) ds e.delta)

  words_more : stored w g.events (word_of e.message) ≡ fitted (words_of (es ++ (e ∷ []))) ws
  words_more =
      let n : g.events ≡ length (words_of es) = held.count ∙ sym (length-map es (λ (t : Timed). word_of t.message)) in
      rw (n, held.words, map-append (λ (t : Timed). word_of t.message) es (e ∷ [])) (fitted_more (words_of es) ws (word_of e.message))

  pub event_more : h.events ≡ g.events + 1 → eqb h.bad 0 ≡ eqb g.bad 0 && well_formed (word_of e.message)
      → EventsHeld (es ++ (e ∷ [])) h ds ws (stored d g.events e.delta) (stored w g.events (word_of e.message))
  event_more c k =
      record {
        count = rw (c, held.count, length-append es (e ∷ []));
        good = rw (k, held.good, map-append (λ (t : Timed). word_of t.message) es (e ∷ []))
            (sym (every_snoc well_formed (words_of es) (word_of e.message)));
        deltas = deltas_more;
        words = words_more;
      }

-- the same of an event as it was read
pub event_put : (bs : List ℕ) (at : ℕ) (e : Front Timed) (t : TimedEvent) (es : List Timed) (g h : Gathered) (ds ws d w d₁ w₁ : List ℕ)
    → EventIs bs at e t → EventsHeld es g ds ws d w → h.events ≡ g.events + 1 → eqb h.bad 0 ≡ eqb g.bad 0 && t.event.good
    → d₁ ≡ stored d g.events t.delta → w₁ ≡ stored w g.events t.event.word → EventsHeld (es ++ (e.read ∷ [])) h ds ws d₁ w₁
event_put bs at e t es g h ds ws d w d₁ w₁ is held c k f i =
    rw (f, i, is.delta, is.word) (event_more es e.read g h ds ws d w held c (k ∙ rw (is.good, is.word)))

-- ---- what is left to read

-- what was read, and then what is read of the rest
abbrev pub prepend : {A : Type 0} → List A → Option (List A) → Option (List A)
prepend done none = none
prepend done (some xs) = some (done ++ xs)

module _ {A : Type 0} where
  pub prepend_none : (o : Option (List A)) → prepend [] o ≡ o
  prepend_none none = refl
  prepend_none (some xs) = refl

  pub prepend_snoc : (done : List A) (x : A) (o : Option (List A))
      → prepend done (and_then o (λ (xs : List A). some (x ∷ xs))) ≡ prepend (done ++ (x ∷ [])) o
  prepend_snoc done x none = refl
  prepend_snoc done x (some xs) = ap some (sym (append_snoc done x xs))

  pub prepend_append : (done more : List A) (o : Option (List A)) → prepend done (prepend more o) ≡ prepend (done ++ more) o
  prepend_append done more none = refl
  prepend_append done more (some xs) = ap some (sym (append_assoc done more xs))

pub at_end : (bs : List ℕ) (next : ℕ) → next ≤ length bs → is_empty (drop next bs) ≡ eqb next (length bs)
at_end bs next h =
    elim (by_bool (eqb next (length bs))) [
      | inl t ↦ rw (t, drop_of_length-le bs {i = next} (omega (arith, eqb-true next (length bs) t)))
      | inr t ↦ rw (t, drop-cons bs next 0 (let d = eqb-false next (length bs) t in omega arith))
    ]

module _ (body : List ℕ) (done : List Timed) (running at : ℕ) (h : track_of body ≡ prepend done (events_from running (drop at body))) where
  pub track_broken : timed_message running (drop at body) ≡ none → track_of body ≡ none
  track_broken t = h ∙ rw (events_broken running (drop at body) t)

  module _ (e : Front Timed) (next : ℕ) (t : timed_message running (drop at body) ≡ some e) (r : e.rest ≡ drop next body) where
    pub track_end : next ≤ length body → is_end e.read.message ≡ true
        → track_of body ≡ cond (eqb next (length body)) (some (done ++ (e.read ∷ []))) none
    track_end l k =
        h ∙ rw (events_end running (drop at body) e t k, r, at_end body next l)
        (elim (by_bool (eqb next (length body))) [ inl q ↦ rw q | inr q ↦ rw q ])

    pub track_more : is_end e.read.message ≡ false
        → track_of body ≡ prepend (done ++ (e.read ∷ [])) (events_from (status_after e.read.message) (drop next body))
    track_more k =
        h ∙ rw (events_more running (drop at body) e t k, r)
        (prepend_snoc done e.read (events_from (status_after e.read.message) (drop next body)))

-- the bytes end before the track does
pub track_short : (body : List ℕ) (done : List Timed) (running at : ℕ) → track_of body ≡ prepend done (events_from running (drop at body))
    → length body ≤ at → track_of body ≡ none
track_short body done running at h l = h ∙ rw (drop_of_length-le body {i = at} l, events_none running)

-- how far a track is read: some events were, behind es, and what is left is what the rest gives
pub record Progress (body : List ℕ) (es : List Timed) (g : Gathered) (running at : ℕ) (ds ws d w : List ℕ) : Type 0 where
  pub done : List Timed
  pub left : track_of body ≡ prepend done (events_from running (drop at body))
  pub held : EventsHeld (es ++ done) g ds ws d w

pub progress_start : (body : List ℕ) (es : List Timed) (g : Gathered) (ds ws d w : List ℕ) → EventsHeld es g ds ws d w → Progress body es g 0 0 ds ws d w
progress_start body es g ds ws d w h = record { done = []; left = sym (prepend_none (track_of body)); held = rw (append-nil es) h }

module _ (body : List ℕ) (es : List Timed) (g : Gathered) (running at : ℕ) (ds ws d w : List ℕ) (p : Progress body es g running at ds ws d w) where
  abbrev Held : Gathered → List ℕ → List ℕ → List Timed → Type 0
  Held h d₁ w₁ t = EventsHeld (es ++ t) h ds ws d₁ w₁

  pub progress_broken : (d₁ w₁ : List ℕ) → timed_message running (drop at body) ≡ none
      → Agrees (λ (t : List Timed) (h : Gathered). Held h d₁ w₁ t) (track_of body) none
  progress_broken d₁ w₁ t = both_none _ (track_broken body p.done running at p.left t)

  pub progress_short : (d₁ w₁ : List ℕ) → length body ≤ at → Agrees (λ (t : List Timed) (h : Gathered). Held h d₁ w₁ t) (track_of body) none
  progress_short d₁ w₁ l = both_none _ (track_short body p.done running at p.left l)

  module _ (e : Front Timed) (t : TimedEvent) (h : Gathered) (d₁ w₁ : List ℕ) (r : timed_message running (drop at body) ≡ some e) (is : EventIs body at e t)
      (put : (fs : List Timed) → EventsHeld fs g ds ws d w → EventsHeld (fs ++ (e.read ∷ [])) h ds ws d₁ w₁)
    where
      held_more : Held h d₁ w₁ (p.done ++ (e.read ∷ []))
      held_more = rw (append_assoc es p.done (e.read ∷ [])) at (put (es ++ p.done) p.held)

      pub progress_more : t.event.ends ≡ false → Progress body es h (status_of t.event.running) t.event.next ds ws d₁ w₁
      progress_more k =
          record {
            done = p.done ++ (e.read ∷ []);
            left = rw is.running
                (track_more body p.done running at p.left e t.event.next r is.behind.rest (sym is.ends ∙ k));
            held = held_more;
          }

      pub progress_end : t.event.ends ≡ true
          → Agrees (λ (t : List Timed) (h : Gathered). Held h d₁ w₁ t) (track_of body) (gathered_read (then_some (eqb t.event.next (length body)) h))
      progress_end k =
          let ends = track_end body p.done running at p.left e t.event.next r is.behind.rest is.behind.within (sym is.ends ∙ k) in
          elim (by_bool (eqb t.event.next (length body))) [
            | inl q ↦ rw q (both_some _ _ (rw q at ends) held_more)
            | inr q ↦ rw q (both_none _ (rw q at ends))
          ]

-- ---- one track more

flatten_snoc : {A : Type 0} (xs : List (List A)) (x : List A) → flatten (xs ++ (x ∷ [])) ≡ flatten xs ++ x
unfolding flatten
flatten_snoc xs x = flatten_append xs (x ∷ []) ∙ rw (append-nil x)

pub track_put : (ts : List (List Timed)) (t : List Timed) (g h k : Gathered) (ss ds ws s d w s₁ d₁ w₁ : List ℕ) → TracksHeld ts g ss ds ws s d w
    → EventsHeld (flatten ts ++ t) h ds ws d₁ w₁ → k.tracks ≡ g.tracks + 1 → k.events ≡ h.events → k.bad ≡ h.bad
    → s₁ ≡ stored s g.tracks (h.events - g.events) → TracksHeld (ts ++ (t ∷ [])) k ss ds ws s₁ d₁ w₁
track_put ts t g h k ss ds ws s d w s₁ d₁ w₁ held more a b e f =
    let n : g.tracks ≡ length (map length ts) = held.count ∙ sym (length-map ts length) in
    let m : h.events - g.events ≡ length t = rw (more.count, held.events.count, length-append (flatten ts) t) (omega arith) in
    record {
      count = rw (a, held.count, length-append ts (t ∷ []));
      events = rw (flatten_snoc ts t) (record { count = b ∙ more.count; good = rw e more.good; deltas = more.deltas; words = more.words });
      sizes = f ∙ rw (m, n, held.sizes, map-append length ts (t ∷ [])) (fitted_more (map length ts) ss (length t));
    }

pub grown_some : (g : Gathered) (n k : ℕ) {h : Gathered} {r : std.Option Gathered} → r ≡ Some h → Grown g n k r
    → (g.events ≤ h.events) × (h.events ≤ g.events + n) × (h.tracks ≤ g.tracks + k)
grown_some g n k is grown = rw is at grown

-- what is answered at a track's end has grown as what was gathered
pub grown_ended : (last : Bool) (g h : Gathered) (n : ℕ) → g.events ≤ h.events → h.events ≤ g.events + n → h.tracks ≡ g.tracks
    → Grown g n 0 (then_some last h)
grown_ended true g h n a b t = (a, b, omega (arith, t))
grown_ended false g h n a b t = tt

-- ---- chunks

module _ (bs : List ℕ) (at : ℕ) where
  abbrev size : ℕ
  size = big_endian (take 4 (drop (at + 4) bs))

  pub chunk_short : length bs - at < 8 → chunk (drop at bs) ≡ none
  unfolding chunk
  chunk_short h = rw (length-drop at bs, lt-leb 8 (length bs - at) h)

  module _ (h : at + 8 ≤ length bs) where
    pub chunk_cut : (n : ℕ) → n ≡ size → length bs - (at + 8) < n → chunk (drop at bs) ≡ none
    unfolding chunk bytes_of
    chunk_cut n e c =
        rw (
          length-drop at bs,
          le-leb 8 (length bs - at) (omega arith),
          drop-drop 4 at bs,
          drop-drop 8 at bs,
          length-drop (at + 8) bs,
          sym e,
          lt-leb n (length bs - (at + 8)) c,
        )

    chunk_is : (n : ℕ) → n ≡ size → n ≤ length bs - (at + 8)
        → chunk (drop at bs)
        ≡ some (front (record { type = big_endian (take 4 (drop at bs)); body = take n (drop (at + 8) bs) }) (drop (at + 8 + n) bs))
    unfolding chunk bytes_of
    chunk_is n e c =
        rw (
          length-drop at bs,
          le-leb 8 (length bs - at) (omega arith),
          drop-drop 4 at bs,
          drop-drop 8 at bs,
          length-drop (at + 8) bs,
          sym e,
          le-leb n (length bs - (at + 8)) c,
          drop-drop n (at + 8) bs,
        )

    pub chunk_found : (kind n : ℕ) → kind ≡ big_endian (take 4 (drop at bs)) → n ≡ size → n ≤ length bs - (at + 8)
        → Agrees (ChunkIs bs at) (chunk (drop at bs)) (some (record { kind = kind; from = at + 8; to = at + 8 + n }))
    chunk_found kind n k e c =
        let same : n ≡ at + 8 + n - (at + 8) = omega arith in
        both_some (ChunkIs bs at) _ (chunk_is n e c)
        (record {
          kind = k;
          body = ap (λ (m : ℕ). take m (drop (at + 8) bs)) same;
          rest = refl;
          ahead = refl;
          from = omega arith;
          within = omega arith;
        })

-- ---- chunk after chunk

-- the tracks that a chunk adds, where it is one track
pub agrees_one : {A B : Type 0} (P : List A → B → Type 0) (o : Option A) (r : Option B) → Agrees (λ (x : A) (b : B). P (x ∷ []) b) o r
    → Agrees P (and_then o (λ (x : A). some (x ∷ []))) r
unfolding Agrees
agrees_one P none none h = h
agrees_one P none (some b) h = h
agrees_one P (some a) none h = h
agrees_one P (some a) (some b) h = h

module _ (bs : List ℕ) (at : ℕ) (c : Front Chunk) (h : place.Chunk) (r : chunk (drop at bs) ≡ some c) (is : ChunkIs bs at c h) where
  abbrev body : List ℕ
  body = take (h.to - h.from) (drop h.from bs)

  chunk_step : tracks_of (drop at bs)
      ≡ and_then (chunk_tracks h.kind body) (λ (more : List (List Timed)). prepend more (tracks_of (drop h.to bs)))
  chunk_step =
      elim (by_bool (eqb h.kind MThd)) [
        | inl t ↦
            let e : c.read.type ≡ MThd = sym is.kind ∙ eqb-true h.kind MThd t in
            tracks_header (drop at bs) c r e ∙ rw t
        | inr t ↦
            elim (by_bool (eqb h.kind MTrk)) [
              | inl k ↦
                  let e : c.read.type ≡ MTrk = sym is.kind ∙ eqb-true h.kind MTrk k in
                  tracks_track (drop at bs) c r e ∙ rw (t, k, is.body, is.rest) (one (track_of body) (tracks_of (drop h.to bs)))
              | inr k ↦
                  tracks_skip (drop at bs) c r (λ e. eqb-false h.kind MThd t (is.kind ∙ e)) (λ e. eqb-false h.kind MTrk k (is.kind ∙ e))
                  ∙ rw (t, k, is.rest) (sym (prepend_none (tracks_of (drop h.to bs))))
            ]
      ]
    where
      one : (o : Option (List Timed)) (p : Option (List (List Timed)))
          → and_then o (λ (t : List Timed). and_then p (λ (ts : List (List Timed)). some (t ∷ ts)))
          ≡ and_then (and_then o (λ (t : List Timed). some (t ∷ []))) (λ (more : List (List Timed)). prepend more p)
      one none p = refl
      one (some t) none = refl
      one (some t) (some ts) = refl

-- how far the chunks are read
pub record Chunks (bs : List ℕ) (start : ℕ) (g : Gathered) (at : ℕ) (ss ds ws s d w : List ℕ) : Type 0 where
  pub done : List (List Timed)
  pub left : tracks_of (drop start bs) ≡ prepend done (tracks_of (drop at bs))
  pub held : TracksHeld done g ss ds ws s d w

pub chunks_start : (bs : List ℕ) (start : ℕ) (ss ds ws : List ℕ) → Chunks bs start (record { tracks = 0; events = 0; bad = 0 }) start ss ds ws ss ds ws
unfolding flatten every
chunks_start bs start ss ds ws =
    record {
      done = [];
      left = sym (prepend_none (tracks_of (drop start bs)));
      held = record {
        count = refl;
        events = record { count = refl; good = refl; deltas = sym (fitted_none ds); words = sym (fitted_none ws) };
        sizes = sym (fitted_none ss);
      };
    }

module _ (bs : List ℕ) (start : ℕ) (g : Gathered) (at : ℕ) (ss ds ws s d w : List ℕ) (p : Chunks bs start g at ss ds ws s d w) where
  pub chunks_broken : at < length bs → chunk (drop at bs) ≡ none → tracks_of (drop start bs) ≡ none
  chunks_broken l e = p.left ∙ rw (tracks_broken (drop at bs) (rw (length-drop at bs) (omega arith)) e)

  pub chunks_end : length bs ≤ at → tracks_of (drop start bs) ≡ some p.done
  chunks_end l = p.left ∙ rw (tracks_done (drop at bs) (rw (length-drop at bs) (omega arith)), append-nil p.done)

  module _ (c : Front Chunk) (h : place.Chunk) (r : chunk (drop at bs) ≡ some c) (is : ChunkIs bs at c h) where
    pub chunks_stopped : chunk_tracks h.kind (take (h.to - h.from) (drop h.from bs)) ≡ none → tracks_of (drop start bs) ≡ none
    chunks_stopped e = p.left ∙ rw (chunk_step bs at c h r is, e)

    pub chunks_more : (more : List (List Timed)) (k : Gathered) (s₁ d₁ w₁ : List ℕ)
        → chunk_tracks h.kind (take (h.to - h.from) (drop h.from bs)) ≡ some more → TracksHeld (p.done ++ more) k ss ds ws s₁ d₁ w₁
        → Chunks bs start k h.to ss ds ws s₁ d₁ w₁
    chunks_more more k s₁ d₁ w₁ e held =
        record {
          done = p.done ++ more;
          left = p.left ∙ rw (chunk_step bs at c h r is, e) (prepend_append p.done more (tracks_of (drop h.to bs)));
          held = held;
        }
