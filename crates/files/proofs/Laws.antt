-- A file examined: its header, the number to give, and what is written.
use Prim.Native.Nat.{ℕ, suc, ◌+◌, ◌-◌, ◌≤◌, ◌<◌}
use mathlib.Core.Bool.{Bool, true, false, and-false, and-eq-true_iff}
use mathlib.Core.List.{List, [], ◌∷◌, ◌++◌, map, flatten, append-nil}
use mathlib.Core.Logic.{inl, inr}
use mathlib.Core.Option.{none, some}
use mathlib.Core.Path.{◌≡◌, refl, ap, sym, ◌∙◌}
use native.Mathlib.Nat.{add-zero}
use native.Mathlib.Omega.{arith}
use borrow.Author.Tests.{lt-ltb, le-ltb, le-leb, lt-leb, eq-eqb, ne_eqb, eqb-true}
use lib.Dec.{leb, eqb}
use lib.ListN.{length, get_or, take, drop, set, length-set, length-drop, length-map}
use lib.Seq.{take-add, take-take, drop_at, drop-drop, length-take-le, take-length}
use Rattle.std.specs.Prelude as std
use Rattle.std.specs.Prelude.{Ok, Err}
use Rattle.basics.specs.declared.Refusal.{Refusal}
use Rattle.basics.specs.declared.Refusal.TheVariants.{SizesDisagree, DivisionZero, TooManyEvents, LargeDelta, BadWord, NoNotes, NoSuchPart}
use Rattle.basics.specs.declared.Refusal.TheVariants.{NoRoom, UnevenPart, OutOfRange, TooManyBytes, BrokenFile, UnknownFormat}
use Rattle.basics.specs.Refusals.{number}
use Rattle.rules.specs.Lists.{every, written}
use Rattle.rules.specs.Standard.{big_endian}
use Rattle.rules.specs.Piece.{well_formed}
use Rattle.rules.specs.Refusals.{refused, given, unless, as_it_is, short_output, first_number, piece_refusals}
use Rattle.rules.specs.Calls.{piece_size, read_size_call, read_call, ReadCalled}
use Rattle.rules.specs.File.{Front, Header, Chunk, chunk, MThd, header, header_of, behind, count_fits, tracks_of}
use Rattle.rules.specs.File.{file_tracks, file_piece, piece_from, file_refusals, most_bytes, Timed}
use Rattle.rules.specs.File.{word_of, words_of}
use Rattle.laws.specs.Files.{Bytes}
use Rattle.laws.specs.Parsed.{Agrees}
use Rattle.laws.proofs.FileBounds.{file_numbers}
use Rattle.laws.proofs.Order.{by_bool}
use Rattle.laws.proofs.Parsed.{both_some}
use Rattle.laws.proofs.Refusals.{Numbered, piece_numbers, number_passes, number_refused, passes_given, passes_append}
use Rattle.laws.proofs.Parts.{part_length, put_rest}
use borrow.Rule.Slice.PartMut.{put_mid, same_len_mid}
use Rattle.file_tracks.proofs.Laws.{fitted_all}
use Rattle.file_tracks.specs.declared.Chunk as place
use Rattle.file_tracks.specs.Gathering.{ChunkIs}
use Rattle.file_tracks.specs.Gathering.{fitted}
use Rattle.files.specs.declared.Header as head
use Rattle.files.specs.declared.Examined.{Examined}
use Rattle.files.specs.Examined.{HeaderIs, count_fits_header, number_behind, Whole, Examines}

-- ---- bytes

pub all_bytes : (bs : List ℕ) → ((i : ℕ) → get_or bs i 0 < 0x100) → Bytes bs
all_bytes [] h = tt
all_bytes (b ∷ bs) h = (h 0, all_bytes bs (λ i. h (suc i)))

-- a part of a part
part_of : (l : List ℕ) (n k m : ℕ) → k + m ≤ n → n ≤ length l → take m (drop k (take n l)) ≡ take m (drop k l)
part_of l n k m h g =
    let sum : n ≡ k + (n - k) = omega arith in
    let split : take n l ≡ take k l ++ take (n - k) (drop k l) = ap (λ j. take j l) sum ∙ take-add k (n - k) l in
    rw (split, drop_at (take k l) (take (n - k) (drop k l)) k (length-take-le k l (omega arith))) (take-take m (n - k) (drop k l) (omega arith))

-- ---- the header

module _ (bs : List ℕ) where
  pub no_chunk : chunk bs ≡ none → header bs ≡ none
  unfolding header
  no_chunk h = rw h

  module _ (c : Front Chunk) (k : place.Chunk) (h : chunk bs ≡ some c) (is : ChunkIs bs 0 c k) where
    pub other_chunk : (k.kind ≡ MThd → ⊥) → header bs ≡ none
    unfolding header
    other_chunk n = rw (h, ne_eqb c.read.type MThd (λ e. n (is.kind ∙ e)))

    body_size : length c.read.body ≡ k.to - k.from
    body_size = ap length is.body ∙ part_length k.from (k.to - k.from) bs (omega (arith, is.from, is.within))

    pub short_header : k.to - k.from < 6 → header bs ≡ none
    unfolding header
    short_header l = rw (h, body_size, lt-leb 6 (k.to - k.from) l) (rw (and-false (eqb c.read.type MThd)))

    module _ (t : k.kind ≡ MThd) (l : 6 ≤ k.to - k.from) where
      -- two bytes of the header, n bytes into it
      field : (n : ℕ) → n + 2 ≤ 6 → take 2 (drop n c.read.body) ≡ take 2 (drop (k.from + n) bs)
      field n g =
          rw (is.body, part_of (drop k.from bs) (k.to - k.from) n 2 (omega arith) (rw (length-drop k.from bs) (omega (arith, is.within))))
          (ap (take 2) (drop-drop n k.from bs))

      pub header_found : (f n d : ℕ) → f ≡ big_endian (take 2 (drop k.from bs)) → n ≡ big_endian (take 2 (drop (k.from + 2) bs)) → n < 65536
          → d ≡ big_endian (take 2 (drop (k.from + 4) bs))
          → Agrees (HeaderIs bs) (header bs) (some (record { format = f; count = n; division = d; next = k.to }))
      unfolding header
      header_found f n d a b few e =
          let six : leb 6 (length c.read.body) ≡ true = rw body_size (le-leb 6 (k.to - k.from) l) in
          both_some (HeaderIs bs) _ (rw (h, eq-eqb c.read.type MThd (sym is.kind ∙ t), six))
          (record {
            format = a ∙ ap big_endian (sym (rw (add-zero k.from) at (field 0 (omega arith))));
            count = b ∙ ap big_endian (sym (field 2 (omega arith)));
            division = e ∙ ap big_endian (sym (field 4 (omega arith)));
            rest = is.rest;
            ahead = omega (arith, is.ahead, is.from);
            within = is.within;
            few = few;
          })

-- ---- the number

refusal_numbered : (r : Refusal) → 0 < number r
refusal_numbered SizesDisagree = omega arith
refusal_numbered DivisionZero = omega arith
refusal_numbered TooManyEvents = omega arith
refusal_numbered LargeDelta = omega arith
refusal_numbered BadWord = omega arith
refusal_numbered NoNotes = omega arith
refusal_numbered NoSuchPart = omega arith
refusal_numbered NoRoom = omega arith
refusal_numbered UnevenPart = omega arith
refusal_numbered OutOfRange = omega arith
refusal_numbered TooManyBytes = omega arith
refusal_numbered BrokenFile = omega arith
refusal_numbered UnknownFormat = omega arith

-- each number is above 0
file_numbered : (bs : List ℕ) → Numbered (file_refusals bs)
unfolding file_refusals
file_numbered bs = (omega arith, (omega arith, (omega arith, (omega arith, piece_numbers (file_piece bs)))))

module _ (bs : List ℕ) where
  pub number_large : most_bytes < length bs → first_number (file_refusals bs) ≡ 11
  unfolding first_number file_refusals
  number_large l = rw (lt-ltb most_bytes (length bs) l)

  module _ (s : length bs ≤ most_bytes) where
    pub number_headless : header bs ≡ none → first_number (file_refusals bs) ≡ 12
    unfolding first_number file_refusals
    number_headless h = rw (le-ltb most_bytes (length bs) s, h)

    module _ (h : Front Header) (r : header bs ≡ some h) where
      pub number_format : 1 < h.read.format → first_number (file_refusals bs) ≡ 13
      unfolding first_number file_refusals
      number_format f = rw (le-ltb most_bytes (length bs) s, r, lt-ltb 1 h.read.format f)

      module _ (f : h.read.format ≤ 1) where
        number_behind_lem : behind h ≡ none → first_number (file_refusals bs) ≡ 12
        unfolding first_number file_refusals
        number_behind_lem b = rw (le-ltb most_bytes (length bs) s, r, le-ltb 1 h.read.format f, b)

        number_piece : (ts : List (List Timed)) → behind h ≡ some ts
            → first_number (file_refusals bs) ≡ first_number (piece_refusals (piece_from h.read.division ts))
        unfolding first_number file_refusals
        number_piece ts b = rw (le-ltb most_bytes (length bs) s, r, le-ltb 1 h.read.format f, b)

-- ---- behind a header of format 0 or 1

module _ (bs : List ℕ) (k : head.Header) (h : Front Header) (r : header bs ≡ some h) (is : HeaderIs bs h k) (low : k.format ≤ 1)
    (small : length bs ≤ most_bytes)
  where
    format_low : h.read.format ≤ 1
    format_low = omega (arith, is.format)

    stands_behind : behind h ≡ none → first_number (file_refusals bs) ≡ 12
    stands_behind = number_behind_lem bs small h r format_low

    pub exit_broken : tracks_of (drop k.next bs) ≡ none → first_number (file_refusals bs) ≡ 12
    unfolding behind
    exit_broken t = stands_behind (rw (is.rest, t))

    module _ (ts : List (List Timed)) (t : tracks_of (drop k.next bs) ≡ some ts) where
      same_count : count_fits h.read ts ≡ count_fits_header k (length ts)
      same_count = rw (sym is.count, sym is.format)

      unfit : count_fits_header k (length ts) ≡ false → first_number (file_refusals bs) ≡ 12
      unfolding behind
      unfit f = stands_behind (rw (is.rest, t, same_count ∙ f))

      module _ (f : count_fits_header k (length ts) ≡ true) where
        is_behind : behind h ≡ some ts
        unfolding behind
        is_behind = rw (is.rest, t, same_count ∙ f)

        tracks_are : file_tracks bs ≡ ts
        tracks_are = rw (r, is_behind)

        division_is : (header_of bs).read.division ≡ k.division
        division_is = rw r (sym is.division)

        by_number : Bytes bs → first_number (file_refusals bs)
            ≡ number_behind true k.division (length (flatten ts)) (every well_formed (words_of (flatten ts)))
        by_number b =
            number_piece bs small h r format_low ts is_behind
            ∙ rw (sym is.division) (rw (tracks_are, division_is, length-map (flatten ts) (λ (e : Timed). e.delta)) at (file_numbers bs b).number)

        whole : (e : Examined) → first_number (file_refusals bs) ≡ 0 → e.division ≡ k.division → e.start ≡ k.next → e.tracks ≡ length ts
            → e.events ≡ length (flatten ts) → Whole bs e
        whole e z d s n m =
            record {
              passes = number_passes (file_refusals bs) (file_numbered bs) z;
              division = d ∙ sym division_is;
              ahead = rw s is.ahead;
              within = rw s is.within;
              small = small;
              read = rw (s, tracks_are) t;
              tracks = rw tracks_are n;
              events = rw tracks_are m;
              few = omega (arith, n, eqb-true (length ts) k.count ((and-eq-true_iff _ _).0 f).0, is.few);
            }

      -- the number that the program finds
      pub exit_number : Bytes bs → (fits good : Bool) (tracks events : ℕ) → fits ≡ count_fits_header k tracks → tracks ≡ length ts
          → events ≡ length (flatten ts) → good ≡ every well_formed (words_of (flatten ts))
          → first_number (file_refusals bs) ≡ number_behind fits k.division events good
      exit_number b fits good tracks events e n m w =
          rw (e, n, m, w) (elim (by_bool (count_fits_header k (length ts))) [ inl f ↦ by_number f b ∙ rw f | inr f ↦ unfit f ∙ rw f ])

      -- where it finds none
      pub exit_whole : (e : Examined) → first_number (file_refusals bs) ≡ 0 → e.division ≡ k.division → e.start ≡ k.next → e.tracks ≡ length ts
          → e.events ≡ length (flatten ts) → Whole bs e
      exit_whole e z d s n m =
          elim (by_bool (count_fits_header k (length ts))) [
            | inl f ↦ whole f e z d s n m
            | inr f ↦ let no : ◌≡◌ {A = ℕ} 12 0 = sym (unfit f) ∙ z in absurd (omega arith)
          ]

-- ---- what is written

-- the sizes: the division and the count of tracks, and then the counts of events, as the part behind them was lent and came back
pub sizes_put : (l : List ℕ) (d n : ℕ) (cs x : List ℕ) → 2 + length cs ≤ length l
    → x ≡ fitted cs (take (length (set (set l 0 d) 1 n) - 2) (drop 2 (set (set l 0 d) 1 n)))
    → put_mid 2 (length (set (set l 0 d) 1 n) - 2) (set (set l 0 d) 1 n) x ≡ written (d ∷ n ∷ cs) l
sizes_put [] d n cs x h f = absurd (omega arith)
sizes_put (a ∷ []) d n cs x h f = absurd (omega arith)
sizes_put (a ∷ b ∷ l) d n cs x h f =
    let same : length (d ∷ n ∷ l) - 2 ≡ length l = omega arith in
    let is : x ≡ written cs l = rw (same, take-length l) at f ∙ fitted_all cs l (omega arith) in
    put_rest 2 (d ∷ n ∷ l) x (omega arith) ∙ rw is

pub sizes_kept : (l : List ℕ) (d n : ℕ) (x : List ℕ)
    → length x ≡ length (take (length (set (set l 0 d) 1 n) - 2) (drop 2 (set (set l 0 d) 1 n)))
    → length (put_mid 2 (length (set (set l 0 d) 1 n) - 2) (set (set l 0 d) 1 n) x) ≡ length l
sizes_kept l d n x h = same_len_mid 2 (length (set (set l 0 d) 1 n) - 2) (set (set l 0 d) 1 n) x h ∙ length-set (set l 0 d) 1 n ∙ length-set l 0 d

-- what a call answers, where no number but 8 may be given
module _ (bs : List ℕ) (e : Examined) (w : Whole bs e) (ss ds ws : List ℕ) where
  pub sizes_long : length (file_piece bs).sizes ≡ 2 + e.tracks
  sizes_long = rw (w.tracks, length-map (file_tracks bs) length) (omega arith)

  pub sizes_are : e.division ∷ e.tracks ∷ map length (file_tracks bs) ≡ (file_piece bs).sizes
  sizes_are = rw (w.division, w.tracks)

  pub deltas_long : length (file_piece bs).deltas ≡ e.events
  deltas_long = length-map (flatten (file_tracks bs)) (λ (t : Timed). t.delta) ∙ sym w.events

  pub words_long : length (file_piece bs).words ≡ e.events
  words_long = length-map (flatten (file_tracks bs)) (λ (t : Timed). word_of t.message) ∙ sym w.events

  rooms : read_call bs (length ss) (length ds) (length ws)
      ≡ unless
      (short_output (length ss) (file_piece bs).sizes ∷ short_output (length ds) (file_piece bs).deltas ∷ short_output (length ws) (file_piece bs).words ∷ [])
      (file_piece bs)
  rooms = passes_append (file_refusals bs) _ (file_piece bs) w.passes

  pub sizes_short : length ss < 2 + e.tracks → read_call bs (length ss) (length ds) (length ws) ≡ refused 8
  unfolding unless
  sizes_short h = rooms ∙ rw (sizes_long, lt-ltb (length ss) (2 + e.tracks) h)

  module _ (a : 2 + e.tracks ≤ length ss) where
    pub deltas_short : length ds < e.events → read_call bs (length ss) (length ds) (length ws) ≡ refused 8
    unfolding unless
    deltas_short h = rooms ∙ rw (sizes_long, le-ltb (length ss) (2 + e.tracks) a, deltas_long, lt-ltb (length ds) e.events h)

    module _ (b : e.events ≤ length ds) where
      pub words_short : length ws < e.events → read_call bs (length ss) (length ds) (length ws) ≡ refused 8
      unfolding unless
      words_short h =
          rooms
          ∙ rw (sizes_long, le-ltb (length ss) (2 + e.tracks) a, deltas_long, le-ltb (length ds) e.events b, words_long, lt-ltb (length ws) e.events h)

      pub read_given : (c : e.events ≤ length ws) (ss₁ ds₁ ws₁ : List ℕ) → ss₁ ≡ written (file_piece bs).sizes ss
          → ds₁ ≡ written (file_piece bs).deltas ds → ws₁ ≡ written (file_piece bs).words ws
          → ReadCalled as_it_is (read_call bs (length ss) (length ds) (length ws)) ss ds ws (given (record { sizes = 2 + e.tracks; events = e.events }))
          ss₁ ds₁ ws₁
      unfolding unless
      read_given c ss₁ ds₁ ws₁ f g h =
          let all : read_call bs (length ss) (length ds) (length ws) ≡ given (file_piece bs) =
          rooms
          ∙ rw (
            sizes_long,
            le-ltb (length ss) (2 + e.tracks) a,
            deltas_long,
            le-ltb (length ds) e.events b,
            words_long,
            le-ltb (length ws) e.events c,
          ) in
          rw all (record { answered = rw (sizes_long, deltas_long); sizes = f; deltas = g; words = h })

-- a number: nothing is written
pub read_refused : (bs ss ds ws : List ℕ) (n : ℕ) → read_call bs (length ss) (length ds) (length ws) ≡ refused n
    → ReadCalled as_it_is (read_call bs (length ss) (length ds) (length ws)) ss ds ws (refused n) ss ds ws
read_refused bs ss ds ws n e = rw e (record { answered = refl; sizes = refl; deltas = refl; words = refl })

pub read_numbered : (bs ss ds ws : List ℕ) (n : ℕ) → 0 < n → first_number (file_refusals bs) ≡ n
    → ReadCalled as_it_is (read_call bs (length ss) (length ds) (length ws)) ss ds ws (refused n) ss ds ws
read_numbered bs ss ds ws n l e = read_refused bs ss ds ws n (number_refused (file_refusals bs) _ (file_piece bs) n e l)

pub size_numbered : (bs : List ℕ) (n : ℕ) → 0 < n → first_number (file_refusals bs) ≡ n → refused n ≡ read_size_call bs
size_numbered bs n l e = sym (rw append-nil at (number_refused (file_refusals bs) [] (piece_size (file_piece bs)) n e l))

-- the number of a file that was examined, and what the calls answer by it
module _ (bs : List ℕ) {r : std.Result Examined Refusal} {n : Refusal} (is : r ≡ Err n) (h : Examines bs r) where
  pub examined_number : first_number (file_refusals bs) ≡ number n
  examined_number = rw is at h

  pub examined_read : (ss ds ws : List ℕ)
      → ReadCalled as_it_is (read_call bs (length ss) (length ds) (length ws)) ss ds ws (refused (number n)) ss ds ws
  examined_read ss ds ws = read_numbered bs ss ds ws (number n) (refusal_numbered n) examined_number

  pub examined_size : refused (number n) ≡ read_size_call bs
  examined_size = size_numbered bs (number n) (refusal_numbered n) examined_number

pub examined_whole : (bs : List ℕ) {r : std.Result Examined Refusal} {e : Examined} → r ≡ Ok e → Examines bs r → Whole bs e
examined_whole bs is h = rw is at h

pub size_given : (bs : List ℕ) (e : Examined) → Whole bs e → given (record { sizes = 2 + e.tracks; events = e.events }) ≡ read_size_call bs
size_given bs e w =
    let same : piece_size (file_piece bs) ≡ record { sizes = 2 + e.tracks; events = e.events } = rw (sizes_long bs e w [] [] [], deltas_long bs e w [] [] []) in
    ap given (sym same) ∙ sym (passes_given (file_refusals bs) (piece_size (file_piece bs)) w.passes)
