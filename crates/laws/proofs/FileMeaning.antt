-- Each word that is read from a file means what its bytes mean.
use Prim.Native.Nat.{ℕ, zero, suc, ◌+◌, ◌/◌, ◌%◌, ◌≤◌, ◌<◌}
use mathlib.Core.Bool.{Bool, true, false, cond, ◌&&◌, ◌||◌, false≢true, and-eq-true_iff}
use mathlib.Core.List.{List, [], ◌∷◌, map, flatten}
use mathlib.Core.Logic.{◌⊎◌, inl, inr}
use mathlib.Core.Option.{Option, none, some}
use mathlib.Core.Path.{◌≡◌, refl, sym, ap, ◌∙◌}
use native.Mathlib.Omega.{arith}
use borrow.Author.Tests.{eqb-true, eqb-false, ltb-true, ltb-false}
use lib.Dec.{eqb, leb, ltb}
use lib.ListN.{length, get_or, drop}
use lib.Seq.{drop-cons, drop-length}
use Rattle.rules.specs.Lists.{All, is_empty}
use Rattle.rules.specs.Piece.{well_formed, largest_power, word}
use Rattle.rules.specs.Standard.{Message, channel, system, meta, note_on_or_off, channel_voice, meta_event, message_meaning, sequencer_specific}
use Rattle.rules.specs.Meanings.{marker_data, is_marker, kept, meaning_of, meaning}
use Rattle.rules.specs.File.{and_then, or_else, Front, number_in, bytes_of, sized, data_byte, has_one_byte, channel_message, meta_fits, meta_message}
use Rattle.rules.specs.File.{system_message, message, status_after, is_end, Timed, timed_message, events_in, Chunk, chunk, MThd, MTrk}
use Rattle.rules.specs.File.{tracks_in, Header, header, count_fits, behind, meta_word, word_of, header_of, no_header, file_tracks}
use Rattle.rules.proofs.Meanings.{up}
use Rattle.laws.specs.Files.{Bytes}
use Rattle.laws.specs.FileMeaning.{EventsMeanTheirBytes}
use Rattle.laws.proofs.FileWords.{word_kind, word_a, word_b, word_c, word_tempo, word_meter, word_key, word_marker, word_plain, word_channel}
use Rattle.laws.proofs.Lists.{All-get, All-take, All-drop, All-flatten}
use Rattle.laws.proofs.Order.{by_bool, by_or}

-- ---- what holds of a message of a file

pub record ChannelFormed (s x y : ℕ) : Type 0 where
  pub low : 0x80 ≤ s
  pub high : s < 0xf0
  pub first : x < 0x80
  pub second : y < 0x80
  pub one : has_one_byte s ≡ true → y ≡ 0

pub record MetaFormed (type : ℕ) (bs : List ℕ) : Type 0 where
  pub known : type < 0x80
  pub fits : meta_fits type (length bs) ≡ true
  pub bytes : Bytes bs

abbrev pub Formed : Message → Type 0
Formed (channel s x y) = ChannelFormed s x y
Formed (system s bs) = (s ≡ 0xf0) ⊎ (s ≡ 0xf7)
Formed (meta type bs) = MetaFormed type bs

-- ---- what holds of what is read, if anything is

data Gives {A : Type 0} (P : A → Type 0) : Option A → Type 0 where
  nothing : Gives P none
  one : {a : A} → P a → Gives P (some a)

gives_then : {A B : Type 0} {P : A → Type 0} {Q : B → Type 0} {o : Option A} (f : A → Option B)
    → Gives P o → ((a : A) → P a → Gives Q (f a)) → Gives Q (and_then o f)
gives_then f nothing k = nothing
gives_then f (one {a} h) k = k a h

gives_cond : {A : Type 0} {P : A → Type 0} (b : Bool) {x y : Option A} → (b ≡ true → Gives P x) → (b ≡ false → Gives P y) → Gives P (cond b x y)
gives_cond true h k = h refl
gives_cond false h k = k refl

gives_or : {A : Type 0} (P : A → Type 0) (d : A) {o : Option A} → P d → Gives P o → P (or_else d o)
gives_or P d h nothing = h
gives_or P d h (one k) = k

-- something of which P holds, and bytes behind it
abbrev Then : {A : Type 0} → (A → Type 0) → Front A → Type 0
Then P a = P a.read × Bytes a.rest

abbrev Any : {A : Type 0} → A → Type 0
Any a = Unit {0}

-- ---- numbers and bytes

number_gives : (k v : ℕ) (bs : List ℕ) → Bytes bs → Gives (Then Any) (number_in k v bs)
unfolding number_in
number_gives zero v bs h = nothing
number_gives (suc k) v [] h = nothing
number_gives (suc k) v (b ∷ bs) h = gives_cond (ltb b 0x80) (λ t. one (tt, h.1)) (λ t. number_gives k _ bs h.1)

bytes_give : (n : ℕ) (bs : List ℕ) → Bytes bs → Gives (Then Bytes) (bytes_of n bs)
unfolding bytes_of
bytes_give n bs h = gives_cond (leb n (length bs)) (λ t. one (All-take _ n bs h, All-drop _ n bs h)) (λ t. nothing)

sized_gives : (bs : List ℕ) → Bytes bs → Gives (Then Bytes) (sized bs)
sized_gives bs h = gives_then _ (number_gives 4 0 bs h) (λ n k. bytes_give n.read n.rest k.1)

data_gives : (bs : List ℕ) → Bytes bs → Gives (Then (λ b. b < 0x80)) (data_byte bs)
unfolding data_byte
data_gives [] h = nothing
data_gives (b ∷ bs) h = gives_cond (ltb b 0x80) (λ t. one (ltb-true b 0x80 t, h.1)) (λ t. nothing)

-- ---- messages

channel_gives : (s : ℕ) (bs : List ℕ) → 0x80 ≤ s → s < 0xf0 → Bytes bs → Gives (Then Formed) (channel_message s bs)
unfolding channel_message
channel_gives s bs lo hi h =
    gives_then _ (data_gives bs h) λ x p.
    gives_cond (has_one_byte s) (λ t. one (record { low = lo; high = hi; first = p.0; second = omega arith; one = λ u. refl }, p.1)) λ t.
    gives_then _ (data_gives x.rest p.1) λ y q.
    one (record { low = lo; high = hi; first = p.0; second = q.0; one = λ u. absurd (false≢true (sym t ∙ u)) }, q.1)

meta_gives : (bs : List ℕ) → Bytes bs → Gives (Then Formed) (meta_message bs)
unfolding meta_message
meta_gives [] h = nothing
meta_gives (type ∷ bs) h =
    gives_cond (ltb type 0x80) (λ t.
    gives_then _ (sized_gives bs h.1) λ d p.
    gives_cond (meta_fits type (length d.read)) (λ u. one (record { known = ltb-true type 0x80 t; fits = u; bytes = p.0 }, p.1)) (λ u. nothing))
    (λ t. nothing)

system_gives : (s : ℕ) (bs : List ℕ) → (s ≡ 0xf0) ⊎ (s ≡ 0xf7) → Bytes bs → Gives (Then Formed) (system_message s bs)
unfolding system_message
system_gives s bs f h = gives_then _ (sized_gives bs h) (λ d p. one (f, p.1))

-- the status in force is that of a channel message, or none
abbrev Running : ℕ → Type 0
Running r = (r ≡ 0 → ⊥) → (0x80 ≤ r) × (r < 0xf0)

message_gives : (r : ℕ) (bs : List ℕ) → Running r → Bytes bs → Gives (Then Formed) (message r bs)
unfolding message
message_gives r [] run h = nothing
message_gives r (s ∷ bs) run h =
    gives_cond (ltb s 0x80)
    (λ t. gives_cond (eqb r 0) (λ u. nothing) λ u. let k = run (eqb-false r 0 u) in channel_gives r (s ∷ bs) k.0 k.1 h) λ t.
    gives_cond (ltb s 0xf0) (λ u. channel_gives s bs (ltb-false s 0x80 t) (ltb-true s 0xf0 u) h.1) λ u.
    gives_cond (eqb s 0xff) (λ v. meta_gives bs h.1) λ v.
    gives_cond (eqb s 0xf0 || eqb s 0xf7) (λ e.
    system_gives s bs
    (elim (by_or (eqb s 0xf0) (eqb s 0xf7) e) [ inl i ↦ inl (eqb-true s 0xf0 i) | inr i ↦ inr (eqb-true s 0xf7 i) ]) h.1) (λ e. nothing)

runs_on : (m : Message) → Formed m → Running (status_after m)
runs_on (channel s x y) f = λ n. (f.low, f.high)
runs_on (system s bs) f = λ n. absurd (n refl)
runs_on (meta type bs) f = λ n. absurd (n refl)

-- ---- tracks

abbrev pub TimedFormed : Timed → Type 0
TimedFormed e = Formed e.message

timed_gives : (r : ℕ) (bs : List ℕ) → Running r → Bytes bs → Gives (Then TimedFormed) (timed_message r bs)
unfolding timed_message
timed_gives r bs run h =
    gives_then _ (number_gives 4 0 bs h) λ d p.
    gives_then _ (message_gives r d.rest run p.1) λ m q. one q

events_give : (k r : ℕ) (bs : List ℕ) → Running r → Bytes bs → Gives (All TimedFormed) (events_in k r bs)
unfolding events_in
events_give zero r bs run h = nothing
events_give (suc k) r bs run h =
    gives_then _ (timed_gives r bs run h) λ e p.
    gives_cond (is_end e.read.message) (λ t. gives_cond (is_empty e.rest) (λ u. one (p.0, tt)) (λ u. nothing)) λ t.
    gives_then _ (events_give k _ e.rest (runs_on e.read.message p.0) p.1) λ es q.
    one (p.0, q)

-- ---- chunks

abbrev BodyIsBytes : Chunk → Type 0
BodyIsBytes c = Bytes c.body

chunk_gives : (bs : List ℕ) → Bytes bs → Gives (Then BodyIsBytes) (chunk bs)
unfolding chunk
chunk_gives bs h =
    gives_cond (leb 8 (length bs)) (λ t.
    gives_then _ (bytes_give _ (drop 8 bs) (All-drop _ 8 bs h)) λ b p. one p) (λ t. nothing)

tracks_give : (k : ℕ) (bs : List ℕ) → Bytes bs → Gives (All (All TimedFormed)) (tracks_in k bs)
unfolding tracks_in
tracks_give zero bs h = gives_cond (is_empty bs) (λ t. one tt) (λ t. nothing)
tracks_give (suc k) bs h =
    gives_cond (is_empty bs) (λ t. one tt) λ t.
    gives_then _ (chunk_gives bs h) λ c p.
    gives_cond (eqb c.read.type MThd) (λ u. nothing) λ u.
    gives_cond (eqb c.read.type MTrk) (λ v.
    gives_then _ (events_give _ 0 c.read.body (λ n. absurd (n refl)) p.0) λ t q.
    gives_then _ (tracks_give k c.rest p.1) λ ts qs. one (q, qs)) λ v.
    tracks_give k c.rest p.1

header_gives : (bs : List ℕ) → Bytes bs → Gives (Then Any) (header bs)
unfolding header
header_gives bs h =
    gives_then _ (chunk_gives bs h) λ c p.
    gives_cond (eqb c.read.type MThd && leb 6 (length c.read.body)) (λ t. one (tt, p.1)) (λ t. nothing)

behind_gives : (h : Front Header) → Bytes h.rest → Gives (All (All TimedFormed)) (behind h)
unfolding behind
behind_gives h k =
    gives_then _ (tracks_give _ h.rest k) λ ts p. gives_cond (count_fits h.read ts) (λ t. one p) (λ t. nothing)

-- every event of a file
pub file_formed : (bs : List ℕ) → Bytes bs → All TimedFormed (flatten (file_tracks bs))
file_formed bs h =
    let rest : Bytes (header_of bs).rest = (gives_or (Then Any) no_header (tt, tt) (header_gives bs h)).1 in
    All-flatten TimedFormed (file_tracks bs) (gives_or (All (All TimedFormed)) [] tt (behind_gives (header_of bs) rest))

-- ---- what a word of four bytes means

word_means : (k a b c : ℕ) → a < 0x100 → b < 0x100 → c < 0x100 → meaning (word k a b c) ≡ meaning_of k a b c
word_means k a b c ha hb hc = rw (word_kind k a b c ha hb hc, word_a k a b c ha hb hc, word_b k a b c ha hb hc, word_c k a b c ha hb hc)

-- ---- channel messages

kept_note : (ch x y : ℕ) → kept (note_on_or_off ch x y) ≡ note_on_or_off ch x y
unfolding kept
kept_note ch x zero = refl
kept_note ch x (suc y) = refl

kept_channel : (a x y k : ℕ) → 8 ≤ k → k ≤ 14 → meaning_of k a x y ≡ kept (channel_voice k a x y)
unfolding kept meaning_of
kept_channel a x y k lo hi =
    let Same : ℕ → Type 0 = λ k. meaning_of k a x y ≡ kept (channel_voice k a x y) in
    up Same k 8 lo refl λ h.
    up Same k 9 h (sym (kept_note a x y)) λ h.
    up Same k 10 h refl λ h.
    up Same k 11 h refl λ h.
    up Same k 12 h refl λ h.
    up Same k 13 h refl λ h.
    up Same k 14 h refl λ h. absurd (omega arith)

-- ---- metas

-- the numbers of a list from place i on
cells : ℕ → ℕ → List ℕ → List ℕ
cells i zero bs = []
cells i (suc n) bs = get_or bs i 0 ∷ cells (suc i) n bs

all_cells : (n i : ℕ) (bs : List ℕ) → i + n ≡ length bs → drop i bs ≡ cells i n bs
unfolding cells
all_cells zero i bs e = let all : i ≡ length bs = omega arith in rw (all, drop-length)
all_cells (suc n) i bs e = drop-cons bs i 0 (omega arith) ∙ ap (λ l. get_or bs i 0 ∷ l) (all_cells n (suc i) bs (omega arith))

-- a type of no meta that the table names
abbrev Unnamed : ℕ → Type 0
Unnamed type = (eqb type 0x2f ≡ false) × (eqb type 0x51 ≡ false) × (eqb type 0x58 ≡ false) × (eqb type 0x59 ≡ false) × (eqb type 0x7f ≡ false)

by_type : (P : ℕ → Type 0) → P 0x2f → P 0x51 → P 0x58 → P 0x59 → P 0x7f → ((type : ℕ) → Unnamed type → P type) → (type : ℕ) → P type
by_type P end tempo meter key sequencer other type =
    elim (by_bool (eqb type 0x2f)) [
      | inl t ↦ rw (eqb-true type 0x2f t) end
      | inr t ↦
          elim (by_bool (eqb type 0x51)) [
            | inl u ↦ rw (eqb-true type 0x51 u) tempo
            | inr u ↦
                elim (by_bool (eqb type 0x58)) [
                  | inl v ↦ rw (eqb-true type 0x58 v) meter
                  | inr v ↦
                      elim (by_bool (eqb type 0x59)) [
                        | inl w ↦ rw (eqb-true type 0x59 w) key
                        | inr w ↦ elim (by_bool (eqb type 0x7f)) [ inl x ↦ rw (eqb-true type 0x7f x) sequencer | inr x ↦ other type (t, u, v, w, x) ]
                      ]
                ]
          ]
    ]

module _ (bs : List ℕ) (bytes : Bytes bs) where
  byte : (i : ℕ) → i < length bs → get_or bs i 0 < 0x100
  byte i h = All-get _ bs i 0 bytes h

  kept_tempo : length bs ≡ 3 → meaning (meta_word 0x51 bs) ≡ kept (meta_event 0x51 bs)
  unfolding kept meaning_of meta_word cells
  kept_tempo e =
      rw (
        word_means 2 (get_or bs 0 0) (get_or bs 1 0) (get_or bs 2 0) (byte 0 (omega arith)) (byte 1 (omega arith)) (byte 2 (omega arith)),
        all_cells 3 0 bs (sym e),
      )

  kept_meter : length bs ≡ 4 → meaning (meta_word 0x58 bs) ≡ kept (meta_event 0x58 bs)
  unfolding kept meaning_of meta_word cells
  kept_meter e = rw (word_means 3 (get_or bs 0 0) (get_or bs 1 0) 0 (byte 0 (omega arith)) (byte 1 (omega arith)) (omega arith), all_cells 4 0 bs (sym e))

  kept_key : length bs ≡ 2 → meaning (meta_word 0x59 bs) ≡ kept (meta_event 0x59 bs)
  unfolding kept meaning_of meta_word cells
  kept_key e = rw (word_means 4 (get_or bs 0 0) (get_or bs 1 0) 0 (byte 0 (omega arith)) (byte 1 (omega arith)) (omega arith), all_cells 2 0 bs (sym e))

  marker_is : is_marker bs ≡ true → (length bs ≡ 7) × (bs ≡ marker_data (get_or bs 5 0) (get_or bs 6 0))
  unfolding cells
  marker_is t =
      let t₅ = (and-eq-true_iff _ _).0 t in
      let t₄ = (and-eq-true_iff _ _).0 t₅.0 in
      let t₃ = (and-eq-true_iff _ _).0 t₄.0 in
      let t₂ = (and-eq-true_iff _ _).0 t₃.0 in
      let t₁ = (and-eq-true_iff _ _).0 t₂.0 in
      let e : length bs ≡ 7 = eqb-true _ _ t₁.0 in (
        e,
        all_cells 7 0 bs (sym e)
            ∙ rw (
              eqb-true (get_or bs 0 0) 0x41 t₁.1,
              eqb-true (get_or bs 1 0) 0x43 t₂.1,
              eqb-true (get_or bs 2 0) 0x52 t₃.1,
              eqb-true (get_or bs 3 0) 0x44 t₄.1,
              eqb-true (get_or bs 4 0) 0x31 t₅.1,
            ),
      )

  kept_marker : is_marker bs ≡ true → meaning (meta_word 0x7f bs) ≡ kept (meta_event 0x7f bs)
  unfolding kept meaning_of meta_word
  kept_marker t =
      let is = marker_is t in
      rw (t, word_means 5 (get_or bs 5 0) (get_or bs 6 0) 0 (byte 5 (omega arith)) (byte 6 (omega arith)) (omega arith)) (ap sequencer_specific (sym is.1))

  kept_sequencer : meaning (meta_word 0x7f bs) ≡ kept (meta_event 0x7f bs)
  unfolding kept meaning_of meta_word
  kept_sequencer = elim (by_bool (is_marker bs)) [ inl m ↦ kept_marker m | inr m ↦ rw m ]

  kept_meta : (type : ℕ) → meta_fits type (length bs) ≡ true → meaning (meta_word type bs) ≡ kept (meta_event type bs)
  unfolding kept meaning_of meta_word meta_fits
  kept_meta =
      by_type (λ type. meta_fits type (length bs) ≡ true → meaning (meta_word type bs) ≡ kept (meta_event type bs)) (λ f. refl)
      (λ f. kept_tempo (eqb-true _ _ f)) (λ f. kept_meter (eqb-true _ _ f)) (λ f. kept_key (eqb-true _ _ f)) (λ f. kept_sequencer)
      (λ type p f. rw (p.0, p.1, p.2, p.3, p.4))

  -- a meter is taken by its power, a key by minor, all others always
  taken_meta : (type : ℕ) → meta_fits type (length bs) ≡ true
      → well_formed (meta_word type bs) ≡ cond (eqb type 0x58) (leb (get_or bs 1 0) largest_power) (cond (eqb type 0x59) (leb (get_or bs 1 0) 1) true)
  unfolding meta_word meta_fits
  taken_meta =
      by_type (λ type. meta_fits type (length bs) ≡ true
      → well_formed (meta_word type bs) ≡ cond (eqb type 0x58) (leb (get_or bs 1 0) largest_power) (cond (eqb type 0x59) (leb (get_or bs 1 0) 1) true))
      (λ f. word_plain.2)
      (λ f. let e = eqb-true (length bs) 3 f in word_tempo _ _ _ (byte 0 (omega arith)) (byte 1 (omega arith)) (byte 2 (omega arith)))
      (λ f. let e = eqb-true (length bs) 4 f in word_meter _ _ (byte 0 (omega arith)) (byte 1 (omega arith)))
      (λ f. let e = eqb-true (length bs) 2 f in word_key _ _ (byte 0 (omega arith)) (byte 1 (omega arith)))
      (λ f. elim (by_bool (is_marker bs)) [
        | inl m ↦ let is = marker_is m in rw m (word_marker _ _ (byte 5 (omega arith)) (byte 6 (omega arith)))
        | inr m ↦ rw m word_plain.0
      ])
      (λ type p f. rw (p.0, p.1, p.2, p.3, p.4) word_plain.0)

-- ---- all messages

kept_system : (s : ℕ) (bs : List ℕ) → meaning (word_of (system s bs)) ≡ kept (message_meaning (system s bs))
unfolding kept meaning_of
kept_system s bs = elim (by_bool (eqb s 0xf0)) [ inl t ↦ rw t | inr t ↦ rw t ]

pub kept_word : (m : Message) → Formed m → meaning (word_of m) ≡ kept (message_meaning m)
kept_word (channel s x y) f =
    word_means (s / 0x10) (s % 0x10) x y (omega arith) (omega (arith, f.first)) (omega (arith, f.second))
    ∙ kept_channel (s % 0x10) x y (s / 0x10) (omega (arith, f.low)) (omega (arith, f.high))
kept_word (system s bs) f = kept_system s bs
kept_word (meta type bs) f = kept_meta bs f.bytes type f.fits

kept_words : (es : List Timed) → All TimedFormed es
    → map meaning (map (λ (e : Timed). word_of e.message) es) ≡ map (λ (e : Timed). kept (message_meaning e.message)) es
kept_words [] h = refl
kept_words (e ∷ es) h = rw (kept_word e.message h.0, kept_words es h.1)

pub events_mean_their_bytes : EventsMeanTheirBytes
events_mean_their_bytes = record { words = λ bs h. kept_words (flatten (file_tracks bs)) (file_formed bs h) }

-- ---- which words document 01 takes

pub channel_formed : (s x y : ℕ) → Formed (channel s x y) → well_formed (word_of (channel s x y)) ≡ true
channel_formed s x y f = word_channel s x y (omega (arith, f.low)) (omega (arith, f.high)) f.first f.second f.one

pub system_formed : (s : ℕ) (bs : List ℕ) → well_formed (word_of (system s bs)) ≡ true
system_formed s bs = word_plain.1

pub meta_formed : (type : ℕ) (bs : List ℕ) → Formed (meta type bs)
    → well_formed (word_of (meta type bs)) ≡ cond (eqb type 0x58) (leb (get_or bs 1 0) largest_power) (cond (eqb type 0x59) (leb (get_or bs 1 0) 1) true)
meta_formed type bs f = taken_meta bs f.bytes type f.fits
