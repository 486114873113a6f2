-- A file opened: too large, not held, refused by its own numbers, or the piece that the arrays hold.
use Prim.Native.Nat.{ℕ, ◌<◌, ◌≤◌}
use mathlib.Core.List.{List, [], ◌∷◌, ◌++◌}
use mathlib.Core.Logic.{inl, inr}
use mathlib.Core.Path.{◌≡◌, refl, sym, ap, ◌∙◌}
use native.Mathlib.Nat.{pos_of_ne-zero}
use native.Mathlib.Omega.{arith}
use borrow.Author.Tests.{lt-ltb, le-ltb}
use lib.ListN.{length, take, drop, length-append}
use lib.Seq.{take_at}
use Rattle.rules.specs.Lists.{written}
use Rattle.rules.specs.Piece.{Piece, piece}
use Rattle.rules.specs.File.{file_piece, file_refusals, most_bytes}
use Rattle.rules.specs.Refusals.{Result, refused, given, Refusal, first_number, piece_refusals, note_refusals, short_output, answers, as_it_is}
use Rattle.rules.specs.Calls.{PieceSize, piece_size, read_call, ReadCalled}
use Rattle.basics.specs.declared.Refusal.TheVariants.{NoRoom, TooManyBytes}
use Rattle.basics.specs.Refusals.{number}
use Rattle.admission.proofs.Refused.{positive}
use Rattle.laws.specs.Admitted.{Passes}
use Rattle.laws.proofs.Lists.{All-append, All-left}
use Rattle.laws.proofs.Order.{by_eq}
use Rattle.laws.proofs.Refusals.{Numbered, piece_numbers, passes_append, number_none, number_passes, number_first}
use Rattle.laws.proofs.Refusals.{refused_first, given_first, answers_refused, answers_given, admitted, sizes_agree_lem}
use Rattle.piece_text.specs.Held.{Fit}
use Rattle.pages.specs.Page.{page_of, file_page, Room, room_for, any_file, bytes_for}
use Rattle.page_openings.specs.Places.{held_piece, no_piece, Opens, FrontOpened, FileRead}
use Rattle.page_openings.specs.declared.Opened.{Opened}
use Rattle.page_openings.proofs.Read.{number_page, no_piece_opens}

file_numbered : (bs : List ℕ) → Numbered (file_refusals bs)
unfolding file_refusals
file_numbered bs = (omega arith, (omega arith, (omega arith, (omega arith, piece_numbers (file_piece bs)))))

-- the piece of a file that is not refused fits any arrays of these lengths
module _ (bs : List ℕ) (p : Passes (file_refusals bs)) where
  own_passes : Passes (piece_refusals (file_piece bs))
  unfolding file_refusals
  own_passes = p.1.1.1.1

  pub file_sizes : length (file_piece bs).sizes ≤ 65537
  file_sizes =
      let s = sizes_agree_lem (file_piece bs) (admitted (file_piece bs) own_passes).sizes in
      omega (arith, s.sizes, s.tracks)

  pub file_deltas : length (file_piece bs).deltas ≤ 500000
  file_deltas = (admitted (file_piece bs) own_passes).events

  pub file_words : length (file_piece bs).words ≡ length (file_piece bs).deltas
  file_words =
      let s = sizes_agree_lem (file_piece bs) (admitted (file_piece bs) own_passes).sizes in
      omega (arith, s.words, s.deltas)

-- ---- what reading answered

module _ (bs : List ℕ) (a b c : ℕ) (ha : 65537 ≤ a) (hb : 500000 ≤ b) (hc : 500000 ≤ c) where
  abbrev shorts : List Refusal
  shorts =
      short_output a (file_piece bs).sizes ∷ short_output b (file_piece bs).deltas ∷ short_output c (file_piece bs).words ∷ []

  shorts_pass : Passes (file_refusals bs) → Passes shorts
  shorts_pass p = (
    le-ltb a (length (file_piece bs).sizes) (omega (arith, file_sizes bs p)),
    (
      le-ltb b (length (file_piece bs).deltas) (omega (arith, file_deltas bs p)),
      (le-ltb c (length (file_piece bs).words) (omega (arith, file_words bs p, file_deltas bs p)), tt),
    ),
  )

  pub read_refused : (n : ℕ) → refused n ≡ answers piece_size (read_call bs a b c) → (first_number (file_refusals bs) ≡ n) × (0 < n)
  read_refused n h =
      let (e, l) =
      refused_first (file_piece bs) (file_refusals bs ++ shorts) n
      (All-append _ (file_refusals bs) shorts (file_numbered bs) (omega arith, (omega arith, (omega arith, tt))))
      (answers_refused piece_size (read_call bs a b c) n h)
      in
      elim (by_eq (first_number (file_refusals bs)) 0) [
        | inl z ↦
            let p = number_passes (file_refusals bs) (file_numbered bs) z in
            absurd (omega (arith, l, e, number_none (file_refusals bs ++ shorts) (All-append _ (file_refusals bs) shorts p (shorts_pass p))))
        | inr z ↦ (sym (number_first (file_refusals bs) shorts _ refl (pos_of_ne-zero z)) ∙ e, l)
      ]

  pub read_given : (s : PieceSize) → given s ≡ answers piece_size (read_call bs a b c)
      → Passes (file_refusals bs) × (read_call bs a b c ≡ given (file_piece bs)) × (s ≡ piece_size (file_piece bs))
  read_given s h =
      let (x, e, k) = answers_given piece_size (read_call bs a b c) s h in
      let (p, same) = given_first (file_piece bs) (file_refusals bs ++ shorts) x e in
      (All-left _ (file_refusals bs) shorts p, sym e ∙ ap given same, k ∙ ap piece_size same)

-- ---- its page

pub passed_page : (x : Piece) (rs ss : List Refusal) → Passes rs → page_of (rs ++ ss) x ≡ page_of ss x
unfolding page_of
passed_page x rs ss p = rw (passes_append rs ss _ p)

front_of : (xs l l₁ : List ℕ) (n : ℕ) → n ≡ length xs → l₁ ≡ written xs l → take n l₁ ≡ xs
front_of xs l l₁ n e w = rw w (take_at xs (drop (length xs) l) n (sym e))

fits : (xs l l₁ : List ℕ) → l₁ ≡ written xs l → length xs ≤ length l₁
fits xs l l₁ h = rw h (omega (arith, length-append xs (drop (length xs) l)))

module _ (bs : List ℕ) {ss₀ ds₀ ws₀ ss ds ws : List ℕ} {answer : Result PieceSize}
    (hs : 65537 ≤ length ss₀) (hd : 500000 ≤ length ds₀) (hw : 500000 ≤ length ws₀)
    (run : ReadCalled as_it_is (read_call bs (length ss₀) (length ds₀) (length ws₀)) ss₀ ds₀ ws₀ answer ss ds ws) where
  pub bytes_refused : (r : Room) (st mk : List ℕ) (n : ℕ) → refused n ≡ answer → Opens (file_page any_file (room_for r) bs) r ss ds ws st mk (no_piece n)
  bytes_refused r st mk n h =
      let (e, l) = read_refused bs (length ss₀) (length ds₀) (length ws₀) hs hd hw n (h ∙ run.answered) in
      no_piece_opens r ss ds ws st mk _ n l (number_page (file_piece bs) _ n (number_first (file_refusals bs) _ n e l) l)

  module _ (s : PieceSize) (h : given s ≡ answer) where
    known : Passes (file_refusals bs) × (read_call bs (length ss₀) (length ds₀) (length ws₀) ≡ given (file_piece bs)) × (s ≡ piece_size (file_piece bs))
    known = read_given bs (length ss₀) (length ds₀) (length ws₀) hs hd hw s (h ∙ run.answered)

    sizes_are : s.sizes ≡ length (file_piece bs).sizes
    sizes_are = ap (λ (z : PieceSize). z.sizes) known.2

    events_are : s.events ≡ length (file_piece bs).deltas
    events_are = ap (λ (z : PieceSize). z.events) known.2

    words_are : s.events ≡ length (file_piece bs).words
    words_are = events_are ∙ sym (file_words bs known.0)

    sizes_in : ss ≡ written (file_piece bs).sizes ss₀
    sizes_in = rw known.1 at run.sizes

    deltas_in : ds ≡ written (file_piece bs).deltas ds₀
    deltas_in = rw known.1 at run.deltas

    words_in : ws ≡ written (file_piece bs).words ws₀
    words_in = rw known.1 at run.words

    pub bytes_fit : Fit (record { sizes = s.sizes; deltas = s.events; words = s.events }) ss ds ws
    bytes_fit =
        record {
          sizes = rw sizes_are (fits (file_piece bs).sizes ss₀ ss sizes_in);
          deltas = rw events_are (fits (file_piece bs).deltas ds₀ ds deltas_in);
          words = rw words_are (fits (file_piece bs).words ws₀ ws words_in);
        }

    module _ (r : Room) (st mk : List ℕ) (o : Opened)
        (front : FrontOpened (record { sizes = s.sizes; deltas = s.events; words = s.events }) r ss ds ws st mk o) where
      held_is : held_piece o ss ds ws ≡ file_piece bs
      held_is =
          let es = front_of (file_piece bs).sizes ss₀ ss o.sizes (front.sizes ∙ sizes_are) sizes_in in
          let ed = front_of (file_piece bs).deltas ds₀ ds o.deltas (front.deltas ∙ events_are) deltas_in in
          let ew = front_of (file_piece bs).words ws₀ ws o.words (front.words ∙ words_are) words_in in
          λ i. piece (es i) (ed i) (ew i)

      pub bytes_open : Opens (file_page any_file (room_for r) bs) r ss ds ws st mk o
      bytes_open =
          let x = held_piece o ss ds ws in
          record {
            ahead_of =
                λ s. front.opened.page s
                ∙ ap (λ (y : Piece). page_of (note_refusals y ++ room_for r y) y) held_is
                ∙ sym (passed_page (file_piece bs) (file_refusals bs) _ known.0);
            ready = front.opened.ready;
          }

-- ---- what of it was read

module _ (bs file : List ℕ) (read most : ℕ) (r : Room) (ss ds ws st mk : List ℕ) (h : FileRead bs file read most) where
  pub too_large : most_bytes < read → Opens (file_page (bytes_for most) (room_for r) bs) r ss ds ws st mk (no_piece (number TooManyBytes))
  unfolding first_number
  too_large l =
      let above = positive TooManyBytes in
      no_piece_opens r ss ds ws st mk _ (number TooManyBytes) above
      (number_page (file_piece bs) _ (number TooManyBytes) (rw (lt-ltb most_bytes (length bs) (omega (arith, h.within)))) above)

  module _ (few : read ≤ most_bytes) where
    pub not_held : most < read → Opens (file_page (bytes_for most) (room_for r) bs) r ss ds ws st mk (no_piece (number NoRoom))
    unfolding first_number
    not_held l =
        let e = h.counted few in
        let above = positive NoRoom in
        no_piece_opens r ss ds ws st mk _ (number NoRoom) above
        (number_page (file_piece bs) _ (number NoRoom) (rw (le-ltb most_bytes (length bs) (omega arith), lt-ltb most (length bs) (omega arith))) above)

    pub all_held : (o : Opened) → read ≤ most → Opens (file_page any_file (room_for r) file) r ss ds ws st mk o
        → Opens (file_page (bytes_for most) (room_for r) bs) r ss ds ws st mk o
    all_held o l k =
        let e = h.counted few in
        record {
          ahead_of =
              λ s. k.ahead_of s
              ∙ ap (file_page any_file (room_for r)) (h.whole l)
              ∙ sym (passed_page (file_piece bs) (bytes_for most bs) _ (le-ltb most_bytes (length bs) (omega arith), (le-ltb most (length bs) (omega arith), tt)));
          ready = k.ready;
        }
