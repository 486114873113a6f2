-- What the definitions read at a position of a track, by the bytes that stand there.
use Prim.Native.Nat.{ℕ, zero, suc, ◌+◌, ◌-◌, ◌*◌, ◌/◌, ◌≤◌, ◌<◌, ◌^◌}
use mathlib.Core.Bool.{true, false, cond, false≢true}
use mathlib.Core.List.{List, [], ◌∷◌}
use mathlib.Core.Logic.{◌⊎◌, inl, ⊎_elim}
use mathlib.Core.Option.{Option, none, some}
use Rattle.std.proofs.lemmas.Bool.{ltb-true, ltb-false}
use Rattle.std.specs.Prelude as std
use Rattle.std.specs.Prelude.{None, Some}
use mathlib.Core.Path.{◌≡◌, refl, sym, ap, ◌∙◌}
use native.Mathlib.Nat.{pow-suc, pow-le-pow_right}
use native.Mathlib.Numerals.{add-one}
use native.Mathlib.Omega.{arith}
use borrow.Author.Tests.{eqb-true, lt-ltb, le-ltb, le-leb, lt-leb, ne_eqb}
use lib.Dec.{eqb, ltb}
use lib.ListN.{length, get_or, take, drop, length-drop, drop_of_length-le, get_or-eq_default}
use lib.Seq.{drop-cons, drop-drop}
use Rattle.rules.specs.Meanings.{is_marker}
use Rattle.rules.specs.Piece.{well_formed}
use Rattle.rules.specs.Standard.{Message, channel, system, meta}
use Rattle.rules.specs.File.{Front, front, number_in, number, bytes_of, sized, data_byte, has_one_byte, channel_message, meta_fits, meta_message, system_message}
use Rattle.rules.specs.File.{message, timed_by, timed_message, meta_word}
use Rattle.laws.specs.Parsed.{Agrees}
use Rattle.laws.proofs.FileWords.{word_channel, word_plain}
use Rattle.laws.proofs.Order.{by_le, by_eq}
use Rattle.laws.proofs.Parsed.{agrees_some, agrees_none, both_some, both_none}
use Rattle.track_events.proofs.Tracks.{length_stretch}
use Rattle.file_events.specs.declared.Quantity.{Quantity}
use Rattle.file_events.specs.declared.Span.{Span}
use Rattle.file_events.specs.declared.Taken.{Taken}
use Rattle.file_events.specs.Events.{found, NumberIs, SpanIs, ChannelStatus, channel_taken, MessageIs, EventIs}

-- ---- what agrees

module _ {A B : Type 0} where
  -- what the program finds, the definition finds
  pub something : (P : A → B → Type 0) {o : Option A} {r : std.Option B} {b : B} → r ≡ Some b → Agrees P o (found r) → (a : A) × (o ≡ some a) × P a b
  something P {o} {r} {b} is h = agrees_some P o b (rw is at h)

  found_by : (P : A → B → Type 0) {C : Type 0} {o : Option A} {r : std.Option B} {b : B} → r ≡ Some b → Agrees P o (found r)
      → ((a : A) → o ≡ some a → P a b → C) → C
  found_by P {C} {o} {r} {b} is h f =
      let both = something P is h in
      f both.0 both.1 both.2

  -- where the program finds nothing, nor does the definition
  pub nothing : (P : A → B → Type 0) {o : Option A} {r : std.Option B} → r ≡ None → Agrees P o (found r) → o ≡ none
  nothing P {o} {r} is h = agrees_none P o (rw is at h)

  weaker : (P Q : A → B → Type 0) → ((a : A) (b : B) → P a b → Q a b) → (o : Option A) (o' : Option B) → Agrees P o o' → Agrees Q o o'
  unfolding Agrees
  weaker P Q f none none h = tt
  weaker P Q f none (some b) h = h
  weaker P Q f (some a) none h = h
  weaker P Q f (some a) (some b) h = f a b h

-- ---- bytes

-- a byte that is there, whatever stands for none
pub get_d_any : (bs : List ℕ) (i d e : ℕ) → i < length bs → get_or bs i d ≡ get_or bs i e
get_d_any [] i d e h = absurd (omega arith)
get_d_any (b ∷ bs) zero d e h = refl
get_d_any (b ∷ bs) (suc i) d e h = get_d_any bs i d e (omega arith)

-- 256 stands for none
module _ (bs : List ℕ) (at : ℕ) where
  pub byte_there : true ≡ ltb at (length bs) → {b : ℕ} (d : ℕ) → b ≡ get_or bs at d → b ≡ get_or bs at 256
  byte_there h d e = e ∙ get_d_any bs at d 256 (ltb-true at (length bs) (sym h))

  pub no_byte : false ≡ ltb at (length bs) → 256 ≡ get_or bs at 256
  no_byte h = sym (get_or-eq_default bs 256 (ltb-false at (length bs) (sym h)))

  pub there : get_or bs at 256 < 256 → at < length bs
  there h = ⊎_elim (λ past. absurd (omega (arith, get_or-eq_default bs 256 past))) (λ lt. lt) (by_le (length bs) at)

  pub drop_byte : get_or bs at 256 < 256 → drop at bs ≡ get_or bs at 256 ∷ drop (at + 1) bs
  drop_byte h = rw add-one (drop-cons bs at 256 (there h))

-- ---- numbers

number_nothing : (k v : ℕ) → number_in k v [] ≡ none
unfolding number_in
number_nothing zero v = refl
number_nothing (suc k) v = refl

-- a number's bytes are read up to position i: v is the value so far
pub record Partly (bs : List ℕ) (at v i : ℕ) : Type 0 where
  pub bytes : i ≤ at + 4
  pub ahead : at ≤ i
  pub small : v < 128 ^ (i - at)
  pub left : number_in (at + 4 - i) v (drop i bs) ≡ number (drop at bs)

module _ (bs : List ℕ) (at : ℕ) where
  pub partly_none : Partly bs at 0 at
  partly_none =
      let start : at - at ≡ 0 = omega arith in
      let four : at + 4 - at ≡ 4 = omega arith in
      record { bytes = omega arith; ahead = omega arith; small = rw start (omega arith); left = rw four }

  module _ (v i : ℕ) (p : Partly bs at v i) where
    -- a fourth byte's value fits
    pub partly_small : i < at + 4 → v < 128 ^ 3
    partly_small h = omega (arith, p.small, pow-le-pow_right {n = 128} (omega arith) {i = i - at} {j = 3} (omega arith))

    pub partly_past : length bs ≤ i → Agrees (NumberIs bs at) (number (drop at bs)) none
    partly_past h = both_none _ (sym p.left ∙ rw (drop_of_length-le bs h) (number_nothing (at + 4 - i) v))

    pub partly_long : at + 4 ≤ i → Agrees (NumberIs bs at) (number (drop at bs)) none
    unfolding number_in
    partly_long h =
        let all : at + 4 - i ≡ 0 = omega arith in
        both_none _ (rw all at (sym p.left))

    pub partly_last : i < at + 4 → i < length bs → get_or bs i 0 < 128
        → Agrees (NumberIs bs at) (number (drop at bs)) (some (record { value = v * 128 + get_or bs i 0; next = i + 1 }))
    unfolding number_in
    partly_last h lt b =
        let turn : at + 4 - i ≡ suc (at + 3 - i) = omega arith in
        both_some _ (front (v * 128 + get_or bs i 0) (drop (i + 1) bs))
        (sym p.left ∙ rw (turn, drop-cons bs i 0 lt) (rw (lt-ltb _ _ b, add-one)))
        (record { value = refl; behind = record { rest = refl; ahead = omega (arith, p.ahead); within = omega arith } })

    pub partly_more : i < at + 4 → i < length bs → 128 ≤ get_or bs i 0 → get_or bs i 0 < 256 → Partly bs at (v * 128 + (get_or bs i 0 - 128)) (i + 1)
    unfolding number_in
    partly_more h lt b top =
        let turn : at + 4 - i ≡ suc (at + 4 - (i + 1)) = omega arith in
        let next : number_in (at + 4 - i) v (drop i bs) ≡ number_in (at + 4 - (i + 1)) (v * 128 + (get_or bs i 0 - 128)) (drop (i + 1) bs) =
        rw (turn, drop-cons bs i 0 lt) (rw (le-ltb _ _ b, add-one i)) in
        let step : i + 1 - at ≡ suc (i - at) = omega (arith, p.ahead) in
        let power : 128 ^ (i + 1 - at) ≡ 128 ^ (i - at) * 128 = rw step (pow-suc 128 (i - at)) in
        record {
          bytes = omega arith;
          ahead = omega (arith, p.ahead);
          small = omega (arith, p.small);
          left = sym next ∙ p.left;
        }

-- ---- data

module _ (bs : List ℕ) (at : ℕ) where
  bytes_behind : (q : Quantity) (n : Front ℕ) → number (drop at bs) ≡ some n → NumberIs bs at n q
      → sized (drop at bs) ≡ bytes_of q.value (drop q.next bs)
  bytes_behind q n e p = rw (e, p.value, ← p.behind.rest)

  pub span_broken : {r : std.Option Quantity} → r ≡ None → Agrees (NumberIs bs at) (number (drop at bs)) (found r)
      → Agrees (SpanIs bs at) (sized (drop at bs)) none
  span_broken is h = both_none _ (rw (nothing _ is h))

  module _ {q : Quantity} {r : std.Option Quantity} (is : r ≡ Some q) (h : Agrees (NumberIs bs at) (number (drop at bs)) (found r)) where
    pub number_behind : (at < q.next) × (q.next ≤ length bs)
    number_behind = found_by _ is h λ n e p. (p.behind.ahead, p.behind.within)

    pub span_short : length bs - q.next < q.value → Agrees (SpanIs bs at) (sized (drop at bs)) none
    unfolding bytes_of
    span_short lt = found_by _ is h λ n e p. both_none _ (bytes_behind q n e p ∙ rw (length-drop, lt-leb _ _ lt))

    pub span_whole : q.value ≤ length bs - q.next
        → Agrees (SpanIs bs at) (sized (drop at bs)) (some (record { from = q.next; to = q.next + q.value }))
    unfolding bytes_of
    span_whole le =
        let size : q.next + q.value - q.next ≡ q.value = omega arith in
        found_by _ is h λ n e p.
        both_some _ (front (take q.value (drop q.next bs)) (drop q.value (drop q.next bs)))
        (bytes_behind q n e p ∙ rw (length-drop, le-leb _ _ le))
        (record {
          is = rw size;
          from = omega arith;
          behind = record {
            rest = drop-drop q.value q.next bs;
            ahead = omega (arith, p.behind.ahead);
            within = omega (arith, p.behind.within);
          };
        })

  pub span_within : {d : Span} {r : std.Option Span} → r ≡ Some d → Agrees (SpanIs bs at) (sized (drop at bs)) (found r) → (d.from ≤ d.to) × (d.to ≤ length bs)
  span_within is h = found_by _ is h λ a e p. (p.from, p.behind.within)

-- ---- channel messages

module _ (bs : List ℕ) (at : ℕ) where
  no_data : 127 < get_or bs at 256 → data_byte (drop at bs) ≡ none
  unfolding data_byte
  no_data h =
      ⊎_elim
      (λ past. rw (drop_of_length-le bs past))
      (λ lt. rw (drop-cons bs at 256 lt) (rw (le-ltb (get_or bs at 256) 128 h)))
      (by_le (length bs) at)

  some_data : get_or bs at 256 ≤ 127 → data_byte (drop at bs) ≡ some (front (get_or bs at 256) (drop (at + 1) bs))
  unfolding data_byte
  some_data h = rw (drop_byte bs at (omega arith)) (rw (lt-ltb (get_or bs at 256) 128 (omega arith)))

  module _ (s : ℕ) where
    -- what is taken of a channel message that ends before `next`
    channel_is : ChannelStatus s → (x y next : ℕ) → x ≤ 127 → y ≤ 127 → (has_one_byte s ≡ true → y ≡ 0) → at < next → next ≤ length bs
        → MessageIs bs at (front (channel s x y) (drop next bs)) (channel_taken s x y next)
    channel_is k x y next hx hy one ahead within =
        let low : 8 ≤ s / 16 = omega (arith, k.least) in
        let high : s / 16 ≤ 14 = omega (arith, k.most) in
        record {
          word = refl;
          good = sym (word_channel s x y low high (omega arith) (omega arith) one);
          ends = refl;
          running = refl;
          status = k;
          behind = record { rest = refl; ahead = ahead; within = within };
        }

    pub channel_none : 127 < get_or bs at 256 → Agrees (MessageIs bs at) (channel_message s (drop at bs)) none
    unfolding channel_message
    channel_none h = both_none _ (rw (no_data h))

    pub channel_one : ChannelStatus s → get_or bs at 256 ≤ 127 → has_one_byte s ≡ true
        → Agrees (MessageIs bs at) (channel_message s (drop at bs)) (some (channel_taken s (get_or bs at 256) 0 (at + 1)))
    unfolding channel_message
    channel_one k h one =
        both_some _ (front (channel s (get_or bs at 256) 0) (drop (at + 1) bs))
        (rw (some_data h) (rw one))
        (channel_is k (get_or bs at 256) 0 (at + 1) h (omega arith) (λ _. refl) (omega arith) (omega (arith, there bs at (omega arith))))

module _ (bs : List ℕ) (s at : ℕ) (h : get_or bs at 256 ≤ 127) (two : has_one_byte s ≡ false) where
  pub channel_half : 127 < get_or bs (at + 1) 256 → Agrees (MessageIs bs at) (channel_message s (drop at bs)) none
  unfolding channel_message
  channel_half k = both_none _ (rw (some_data bs at h) (rw (two, no_data bs (at + 1) k)))

  pub channel_two : ChannelStatus s → get_or bs (at + 1) 256 ≤ 127
      → Agrees (MessageIs bs at) (channel_message s (drop at bs)) (some (channel_taken s (get_or bs at 256) (get_or bs (at + 1) 256) (at + 2)))
  unfolding channel_message
  channel_two status k =
      let next : at + 1 + 1 ≡ at + 2 = omega arith in
      both_some _ (front (channel s (get_or bs at 256) (get_or bs (at + 1) 256)) (drop (at + 2) bs))
      (rw (some_data bs at h) (rw (two, some_data bs (at + 1) k) (rw next)))
      (channel_is bs at s status (get_or bs at 256) (get_or bs (at + 1) 256) (at + 2) h k (λ one. cc)
      (omega arith) (omega (arith, there bs (at + 1) (omega arith))))

-- ---- meta and system events

-- the lengths that are asked
module _ (kind n : ℕ) (fits : meta_fits kind n ≡ true) where
  pub tempo_size : kind ≡ 81 → n ≡ 3
  unfolding meta_fits
  tempo_size k = eqb-true n 3 (rw k at fits)

  pub meter_size : kind ≡ 88 → n ≡ 4
  unfolding meta_fits
  meter_size k = eqb-true n 4 (rw k at fits)

  pub key_size : kind ≡ 89 → n ≡ 2
  unfolding meta_fits
  key_size k = eqb-true n 2 (rw k at fits)

pub marker_size : (bs : List ℕ) → is_marker bs ≡ true → length bs ≡ 7
marker_size bs h = ⊎_elim (λ e. e) (λ other. absurd (false≢true (rw (ne_eqb (length bs) 7 other) at h))) (by_eq (length bs) 7)

module _ (bs : List ℕ) (at kind : ℕ) (byte : kind ≡ get_or bs at 256) where
  pub meta_none : 127 < kind → Agrees (MessageIs bs at) (meta_message (drop at bs)) none
  unfolding meta_message
  meta_none h =
      both_none _
      (⊎_elim
      (λ past. rw (drop_of_length-le bs past))
      (λ lt. rw (drop-cons bs at 256 lt, ← byte) (rw (le-ltb kind 128 h)))
      (by_le (length bs) at))

  module _ (low : kind ≤ 127) where
    pub meta_broken : {r : std.Option Span} → r ≡ None → Agrees (SpanIs bs (at + 1)) (sized (drop (at + 1) bs)) (found r)
        → Agrees (MessageIs bs at) (meta_message (drop at bs)) none
    unfolding meta_message
    meta_broken is h = both_none _ (rw (drop_byte bs at (omega arith), ← byte) (rw (lt-ltb kind 128 (omega arith), nothing _ is h)))

    module _ {d : Span} {r : std.Option Span} (is : r ≡ Some d) (h : Agrees (SpanIs bs (at + 1)) (sized (drop (at + 1) bs)) (found r)) where
      -- the data's length decides
      meta_by : (a : Front (List ℕ)) → sized (drop (at + 1) bs) ≡ some a → SpanIs bs (at + 1) a d
          → meta_message (drop at bs) ≡ cond (meta_fits kind (d.to - d.from)) (some (front (meta kind a.read) a.rest)) none
      unfolding meta_message
      meta_by a e p =
          let size : length a.read ≡ d.to - d.from = ap length p.is ∙ length_stretch d.from d.to bs p.from p.behind.within in
          rw (drop_byte bs at (omega arith), ← byte) (rw (lt-ltb kind 128 (omega arith), e) (rw size))

      pub meta_unfit : meta_fits kind (d.to - d.from) ≡ false → Agrees (MessageIs bs at) (meta_message (drop at bs)) none
      meta_unfit unfit = found_by _ is h λ a e p. both_none _ (meta_by a e p ∙ rw unfit)

      pub meta_read : meta_fits kind (d.to - d.from) ≡ true → {w : ℕ} → w ≡ meta_word kind (take (d.to - d.from) (drop d.from bs))
          → Agrees (MessageIs bs at) (meta_message (drop at bs))
          (some (record { word = w; good = well_formed w; ends = eqb kind 47; running = None; next = d.to }))
      meta_read fit {w} word =
          found_by _ is h λ a e p.
          both_some _ (front (meta kind a.read) a.rest) (meta_by a e p ∙ rw fit)
          (record {
            word = rw p.is word;
            good = refl;
            ends = refl;
            running = refl;
            status = tt;
            behind = record { rest = p.behind.rest; ahead = omega (arith, p.behind.ahead); within = p.behind.within };
          })

module _ (bs : List ℕ) (s at : ℕ) where
  pub system_broken : {r : std.Option Span} → r ≡ None → Agrees (SpanIs bs at) (sized (drop at bs)) (found r)
      → Agrees (MessageIs bs at) (system_message s (drop at bs)) none
  unfolding system_message
  system_broken is h = both_none _ (rw (nothing _ is h))

  pub system_read : {d : Span} {r : std.Option Span} → r ≡ Some d → Agrees (SpanIs bs at) (sized (drop at bs)) (found r)
      → Agrees (MessageIs bs at) (system_message s (drop at bs))
      (some (record { word = 16777216; good = true; ends = false; running = None; next = d.to }))
  unfolding system_message
  system_read is h =
      found_by _ is h λ a e p.
      both_some _ (front (system s a.read) a.rest) (rw e)
      (record { word = refl; good = sym word_plain.1; ends = refl; running = refl; status = tt; behind = p.behind })

-- ---- events behind their delta

module _ (bs : List ℕ) (running at s : ℕ) (byte : s ≡ get_or bs at 256) where
  pub under_none : s < 128 → running ≡ 0 → Agrees (MessageIs bs at) (message running (drop at bs)) none
  unfolding message
  under_none low stop = both_none _ (rw (drop_byte bs at (omega arith), ← byte) (rw (lt-ltb s 128 low, stop)))

  pub under_status : s < 128 → (running ≡ 0 → ⊥) → message running (drop at bs) ≡ channel_message running (drop at bs)
  unfolding message
  under_status low held = rw (drop_byte bs at (omega arith), ← byte) (rw (lt-ltb s 128 low, ne_eqb running 0 held))

  module _ (high : 128 ≤ s) where
    pub by_status : s < 240 → message running (drop at bs) ≡ channel_message s (drop (at + 1) bs)
    unfolding message
    by_status h = rw (drop_byte bs at (omega arith), ← byte) (rw (le-ltb s 128 high, lt-ltb s 240 h))

    module _ (above : 240 ≤ s) where
      pub by_meta : s ≡ 255 → message running (drop at bs) ≡ meta_message (drop (at + 1) bs)
      unfolding message
      by_meta e = rw (drop_byte bs at (omega arith), ← byte, e)

      pub by_system : (s ≡ 240) ⊎ (s ≡ 247) → message running (drop at bs) ≡ system_message s (drop (at + 1) bs)
      unfolding message
      by_system = ⊎_elim
          (λ e. rw (drop_byte bs at (omega arith), ← byte, e))
          (λ e. rw (drop_byte bs at (omega arith), ← byte, e))

      pub by_none : (s ≡ 255 → ⊥) → (s ≡ 240 → ⊥) → (s ≡ 247 → ⊥) → Agrees (MessageIs bs at) (message running (drop at bs)) none
      unfolding message
      by_none x y z =
          both_none _
          (⊎_elim
          (λ past. rw (drop_of_length-le bs past))
          (λ lt. rw (drop-cons bs at 256 lt, ← byte) (rw (le-ltb s 128 high, le-ltb s 240 above, ne_eqb s 255 x, ne_eqb s 240 y, ne_eqb s 247 z)))
          (by_le (length bs) at))

-- an event read behind its status, seen from the status
pub from_status : (bs : List ℕ) (at : ℕ) (o : Option (Front Message)) (t : Option Taken) → Agrees (MessageIs bs (at + 1)) o t → Agrees (MessageIs bs at) o t
from_status bs at =
    weaker (MessageIs bs (at + 1)) (MessageIs bs at)
    (λ m t p. record {
      word = p.word;
      good = p.good;
      ends = p.ends;
      running = p.running;
      status = p.status;
      behind = record { rest = p.behind.rest; ahead = omega (arith, p.behind.ahead); within = p.behind.within };
    })

-- a system event of F0, behind its status
pub system_first : (bs : List ℕ) (running at s : ℕ) (t : Option Taken) → s ≡ 240 → at < length bs → s ≡ get_or bs at 0
    → Agrees (MessageIs bs (at + 1)) (system_message s (drop (at + 1) bs)) t → Agrees (MessageIs bs at) (message running (drop at bs)) t
system_first bs running at s t e lt byte h =
    rw (by_system bs running at s (byte ∙ get_d_any bs at 0 256 lt) (omega arith) (omega arith) (inl e)) (from_status bs at _ t h)

-- ---- events with their delta

module _ (bs : List ℕ) (running at : ℕ) where
  pub event_late : {r : std.Option Quantity} → r ≡ None → Agrees (NumberIs bs at) (number (drop at bs)) (found r)
      → Agrees (EventIs bs at) (timed_message running (drop at bs)) none
  unfolding timed_message
  event_late is h = both_none _ (rw (nothing _ is h))

  module _ {q : Quantity} {r : std.Option Quantity} (is : r ≡ Some q) (h : Agrees (NumberIs bs at) (number (drop at bs)) (found r)) where
    pub event_broken : {m : std.Option Taken} → m ≡ None → Agrees (MessageIs bs q.next) (message running (drop q.next bs)) (found m)
        → Agrees (EventIs bs at) (timed_message running (drop at bs)) none
    unfolding timed_message
    event_broken late k = found_by _ is h λ n e p. both_none _ (rw e (rw (p.behind.rest, nothing _ late k)))

    pub event_read : {m : std.Option Taken} {t : Taken} → m ≡ Some t → Agrees (MessageIs bs q.next) (message running (drop q.next bs)) (found m)
        → Agrees (EventIs bs at) (timed_message running (drop at bs)) (some (record { delta = q.value; event = t }))
    unfolding timed_message
    event_read taken k =
        found_by _ is h λ n e p.
        found_by _ taken k λ m f b.
        both_some _ (front (timed_by n.read m.read) m.rest) (rw e (rw (p.behind.rest, f)))
        (record {
          delta = p.value;
          word = b.word;
          good = b.good;
          ends = b.ends;
          running = b.running;
          status = b.status;
          behind = record { rest = b.behind.rest; ahead = omega (arith, p.behind.ahead, b.behind.ahead); within = b.behind.within };
        })
