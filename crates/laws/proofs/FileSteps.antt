-- What is read is taken from the front: each part of a file leaves fewer bytes, so that a reader's steps need no count of them.
use Prim.Native.Nat.{ℕ, zero, suc, ◌+◌, ◌-◌, ◌*◌, ◌≤◌, ◌<◌}
use mathlib.Core.Bool.{Bool, true, false, cond, ◌||◌, true≢false}
use mathlib.Core.List.{List, [], ◌∷◌}
use mathlib.Core.Logic.{◌⊎◌, inl, inr}
use mathlib.Core.Option.{Option, none, some, none-ne-some, some-injective}
use mathlib.Core.Path.{◌≡◌, refl, sym, ◌∙◌}
use native.Mathlib.Omega.{arith}
use native.Mathlib.Nat.{le_refl}
use borrow.Author.Tests.{leb-true, eq-eqb, ne_eqb}
use lib.Dec.{leb, ltb, eqb}
use lib.ListN.{length, take, drop, length-take, length-drop}
use Rattle.rules.specs.Lists.{is_empty}
use Rattle.rules.specs.Standard.{Message, big_endian}
use Rattle.rules.specs.File.{and_then, Front, front, number_in, number, bytes_of, sized, data_byte, has_one_byte, channel_message, meta_fits, meta_message}
use Rattle.rules.specs.File.{system_message, message, status_after, is_end, Timed, timed_by, timed_message, events_in, track_of, Chunk, chunk, MThd, MTrk, tracks_in}
use Rattle.rules.specs.File.{tracks_of}
use Rattle.laws.specs.Files.{events_from}
use Rattle.laws.proofs.Order.{by_bool}

-- ---- what was given

module _ {A : Type 0} where
  pub guarded : (t : Bool) (o : Option A) (a : A) → cond t o none ≡ some a → (t ≡ true) × (o ≡ some a)
  guarded true o a h = (refl, h)
  guarded false o a h = absurd (none-ne-some _ h)

  pub by_option : (o : Option A) → (o ≡ none) ⊎ ((a : A) × (o ≡ some a))
  by_option none = inl refl
  by_option (some a) = inr (a, refl)

  pub by_test : (t : Bool) (o p : Option A) (a : A) → cond t o p ≡ some a → ((t ≡ true) × (o ≡ some a)) ⊎ ((t ≡ false) × (p ≡ some a))
  by_test true o p a h = inl (refl, h)
  by_test false o p a h = inr (refl, h)

pub and_then_lem : {A B : Type 0} (o : Option A) (f : A → Option B) (b : B) → and_then o f ≡ some b → (a : A) × (o ≡ some a) × (f a ≡ some b)
and_then_lem none f b h = absurd (none-ne-some _ h)
and_then_lem (some a) f b h = (a, refl, h)

-- ---- each part leaves fewer bytes

pub number_shorter : (k v : ℕ) (bs : List ℕ) (n : Front ℕ) → number_in k v bs ≡ some n → length n.rest < length bs
unfolding number_in
number_shorter zero v bs n h = absurd (none-ne-some _ h)
number_shorter (suc k) v [] n h = absurd (none-ne-some _ h)
number_shorter (suc k) v (b ∷ bs) n h =
    elim (by_bool (ltb b 0x80)) [
      | inl t ↦ rw (← some-injective _ _ (rw t at h)) (omega arith)
      | inr t ↦ let l = number_shorter k (v * 0x80 + (b - 0x80)) bs n (rw t at h) in omega arith
    ]

pub bytes_taken : (n : ℕ) (bs : List ℕ) (d : Front (List ℕ)) → bytes_of n bs ≡ some d
    → (d.read ≡ take n bs) × (d.rest ≡ drop n bs) × (length d.read ≡ n) × (length d.rest + n ≡ length bs)
unfolding bytes_of
bytes_taken n bs d h =
    let g = guarded (leb n (length bs)) _ d h in
    let l : n ≤ length bs = leb-true _ _ g.0 in
    rw (← some-injective _ _ g.1) (refl, refl, simp length-take (omega arith), simp length-drop (omega arith))

pub sized_shorter : (bs : List ℕ) (d : Front (List ℕ)) → sized bs ≡ some d → length d.read + length d.rest < length bs
sized_shorter bs d h =
    let (n, r, s) = and_then_lem (number bs) _ d h in
    let t = bytes_taken n.read n.rest d s in
    omega (arith, number_shorter 4 0 bs n r)

pub data_shorter : (bs : List ℕ) (x : Front ℕ) → data_byte bs ≡ some x → length x.rest < length bs
unfolding data_byte
data_shorter [] x h = absurd (none-ne-some _ h)
data_shorter (b ∷ bs) x h = rw (← some-injective _ _ (guarded (ltb b 0x80) _ x h).1) (omega arith)

pub channel_shorter : (s : ℕ) (bs : List ℕ) (m : Front Message) → channel_message s bs ≡ some m
    → (length m.rest < length bs) × (is_end m.read ≡ false)
unfolding channel_message
channel_shorter s bs m h =
    let (x, r, g) = and_then_lem (data_byte bs) _ m h in
    let l = data_shorter bs x r in
    elim (by_test (has_one_byte s) _ _ m g) [
      | inl k ↦ rw (← some-injective _ _ k.1) (omega arith, refl)
      | inr k ↦
          let (y, q, e) = and_then_lem (data_byte x.rest) _ m k.1 in
          let o = data_shorter x.rest y q in
          rw (← some-injective _ _ e) (omega arith, refl)
    ]

pub meta_shorter : (bs : List ℕ) (m : Front Message) → meta_message bs ≡ some m → length m.rest + 2 ≤ length bs
unfolding meta_message
meta_shorter [] m h = absurd (none-ne-some _ h)
meta_shorter (type ∷ bs) m h =
    let (d, r, g) = and_then_lem (sized bs) _ m (guarded (ltb type 0x80) _ m h).1 in
    let l = sized_shorter bs d r in
    rw (← some-injective _ _ (guarded (meta_fits type (length d.read)) _ m g).1) (omega arith)

pub system_shorter : (s : ℕ) (bs : List ℕ) (m : Front Message) → system_message s bs ≡ some m
    → (length m.rest < length bs) × (is_end m.read ≡ false)
unfolding system_message
system_shorter s bs m h =
    let (d, r, g) = and_then_lem (sized bs) _ m h in
    let l = sized_shorter bs d r in
    rw (← some-injective _ _ g) (omega arith, refl)

-- an event has one byte or more, End of Track three
pub message_shorter : (running : ℕ) (bs : List ℕ) (m : Front Message) → message running bs ≡ some m
    → (length m.rest < length bs) × (is_end m.read ≡ true → length m.rest + 3 ≤ length bs)
unfolding message
message_shorter running [] m h = absurd (none-ne-some _ h)
message_shorter running (s ∷ bs) m h =
    elim (by_test (ltb s 0x80) _ _ m h) [
      | inl g ↦ elim (by_test (eqb running 0) _ _ m g.1) [
        | inl k ↦ absurd (none-ne-some _ k.1)
        | inr k ↦ not_end (channel_shorter running (s ∷ bs) m k.1)
      ]
      | inr g ↦ elim (by_test (ltb s 0xf0) _ _ m g.1) [
        | inl k ↦ not_end (longer (channel_shorter s bs m k.1))
        | inr k ↦ elim (by_test (eqb s 0xff) _ _ m k.1) [
          | inl o ↦ let l = meta_shorter bs m o.1 in (omega arith, λ e. omega arith)
          | inr o ↦ not_end (longer (system_shorter s bs m (guarded (eqb s 0xf0 || eqb s 0xf7) _ m o.1).1))
        ]
      ]
    ]
  where
    longer : (length m.rest < length bs) × (is_end m.read ≡ false) → (length m.rest < length (s ∷ bs)) × (is_end m.read ≡ false)
    longer k = (omega (arith, k.0), k.1)

    not_end : (length m.rest < length (s ∷ bs)) × (is_end m.read ≡ false)
        → (length m.rest < length (s ∷ bs)) × (is_end m.read ≡ true → length m.rest + 3 ≤ length (s ∷ bs))
    not_end k = (k.0, λ e. absurd (true≢false (sym e ∙ k.1)))

pub timed_shorter : (running : ℕ) (bs : List ℕ) (e : Front Timed) → timed_message running bs ≡ some e
    → (length e.rest + 2 ≤ length bs) × (is_end e.read.message ≡ true → length e.rest + 4 ≤ length bs)
unfolding timed_message
timed_shorter running bs e h =
    let (d, r, g) = and_then_lem (number bs) _ e h in
    let (m, q, f) = and_then_lem (message running d.rest) (λ (m : Front Message). some (front (timed_by d.read m.read) m.rest)) e g in
    let l = number_shorter 4 0 bs d r in
    let k = message_shorter running d.rest m q in
    rw (← some-injective _ _ f) (omega arith, λ t. omega (arith, k.1 t))

pub chunk_shorter : (bs : List ℕ) (c : Front Chunk) → chunk bs ≡ some c → length c.rest + length c.read.body + 8 ≡ length bs
unfolding chunk
chunk_shorter bs c h =
    let (l, g) = guarded (leb 8 (length bs)) _ c h in
    let k : 8 ≤ length bs = leb-true _ _ l in
    let (b, r, f) = and_then_lem (bytes_of (big_endian (take 4 (drop 4 bs))) (drop 8 bs)) _ c g in
    let t = bytes_taken _ _ b r in
    rw (← some-injective _ _ f) (omega (arith, simp length-drop at t.3))

-- ---- events, one by one

events_empty : (k running : ℕ) (bs : List ℕ) → length bs ≡ 0 → events_in k running bs ≡ none
unfolding events_in timed_message number_in
events_empty zero running bs h = refl
events_empty (suc k) running [] h = refl
events_empty (suc k) running (b ∷ bs) h = absurd (omega arith)

-- any count is as good that is no less than the bytes are many
events_same : (k j running : ℕ) (bs : List ℕ) → length bs ≤ k → length bs ≤ j → events_in k running bs ≡ events_in j running bs
unfolding events_in
events_same zero j running bs h g = sym (events_empty j running bs (omega arith))
events_same (suc k) zero running bs h g = events_empty (suc k) running bs (omega arith)
events_same (suc k) (suc j) running bs h g =
    elim (by_option (timed_message running bs)) [
      | inl n ↦ rw n
      | inr (e, s) ↦
          let l = (timed_shorter running bs e s).0 in
          rw (s, events_same k j (status_after e.read.message) e.rest (omega arith) (omega arith))
    ]

pub events_fuel : (k running : ℕ) (bs : List ℕ) → length bs ≤ k → events_in k running bs ≡ events_from running bs
events_fuel k running bs h = events_same k (length bs) running bs h (le_refl (length bs))

pub events_none : (running : ℕ) → events_from running [] ≡ none
events_none running = events_empty 0 running [] refl

module _ (running : ℕ) (bs : List ℕ) where
  -- a count of one more, for the step that follows
  events_suc : events_from running bs ≡ events_in (suc (length bs)) running bs
  events_suc = sym (events_fuel (suc (length bs)) running bs (omega arith))

  pub events_broken : timed_message running bs ≡ none → events_from running bs ≡ none
  unfolding events_in
  events_broken h = events_suc ∙ rw h

  module _ (e : Front Timed) (h : timed_message running bs ≡ some e) where
    pub events_end : is_end e.read.message ≡ true → events_from running bs ≡ cond (is_empty e.rest) (some (e.read ∷ [])) none
    unfolding events_in
    events_end t = events_suc ∙ rw (h, t)

    pub events_more : is_end e.read.message ≡ false
        → events_from running bs ≡ and_then (events_from (status_after e.read.message) e.rest) (λ (es : List Timed). some (e.read ∷ es))
    unfolding events_in
    events_more t =
        let l = (timed_shorter running bs e h).0 in
        events_suc ∙ rw (h, t, events_fuel (length bs) (status_after e.read.message) e.rest (omega arith))

-- ---- chunks, one by one

tracks_empty : (k : ℕ) (bs : List ℕ) → length bs ≡ 0 → tracks_in k bs ≡ some []
unfolding tracks_in
tracks_empty zero [] h = refl
tracks_empty (suc k) [] h = refl
tracks_empty k (b ∷ bs) h = absurd (omega arith)

tracks_same : (k j : ℕ) (bs : List ℕ) → length bs ≤ k → length bs ≤ j → tracks_in k bs ≡ tracks_in j bs
unfolding tracks_in
tracks_same zero j bs h g = tracks_empty zero bs (omega arith) ∙ sym (tracks_empty j bs (omega arith))
tracks_same (suc k) zero bs h g = tracks_empty (suc k) bs (omega arith) ∙ sym (tracks_empty zero bs (omega arith))
tracks_same (suc k) (suc j) bs h g =
    elim (by_option (chunk bs)) [
      | inl n ↦ rw n
      | inr (c, s) ↦ let l = chunk_shorter bs c s in rw (s, tracks_same k j c.rest (omega arith) (omega arith))
    ]

pub tracks_fuel : (k : ℕ) (bs : List ℕ) → length bs ≤ k → tracks_in k bs ≡ tracks_of bs
tracks_fuel k bs h = tracks_same k (length bs) bs h (le_refl (length bs))

pub tracks_done : (bs : List ℕ) → length bs ≡ 0 → tracks_of bs ≡ some []
tracks_done bs h = tracks_empty (length bs) bs h

-- one step, where there are bytes
tracks_step : (bs : List ℕ) → 0 < length bs
    → tracks_of bs
    ≡ and_then (chunk bs) (λ (c : Front Chunk).
    cond (eqb c.read.type MThd) none
    (cond (eqb c.read.type MTrk)
    (and_then (track_of c.read.body) (λ (t : List Timed). and_then (tracks_in (length bs) c.rest) (λ (ts : List (List Timed)). some (t ∷ ts))))
    (tracks_in (length bs) c.rest)))
unfolding tracks_in
tracks_step [] h = absurd (omega arith)
tracks_step (b ∷ bs) h = sym (tracks_fuel (suc (length (b ∷ bs))) (b ∷ bs) (omega arith))

module _ (bs : List ℕ) where
  pub tracks_broken : 0 < length bs → chunk bs ≡ none → tracks_of bs ≡ none
  tracks_broken l h = tracks_step bs l ∙ rw h

  module _ (c : Front Chunk) (h : chunk bs ≡ some c) where
    step : tracks_of bs
        ≡ cond (eqb c.read.type MThd) none
        (cond (eqb c.read.type MTrk)
        (and_then (track_of c.read.body) (λ (t : List Timed). and_then (tracks_of c.rest) (λ (ts : List (List Timed)). some (t ∷ ts))))
        (tracks_of c.rest))
    step =
        let l = chunk_shorter bs c h in
        tracks_step bs (omega arith) ∙ rw (h, tracks_fuel (length bs) c.rest (omega arith))

    pub tracks_header : c.read.type ≡ MThd → tracks_of bs ≡ none
    tracks_header t = step ∙ rw (eq-eqb c.read.type MThd t)

    pub tracks_track : c.read.type ≡ MTrk
        → tracks_of bs
        ≡ and_then (track_of c.read.body) (λ (t : List Timed). and_then (tracks_of c.rest) (λ (ts : List (List Timed)). some (t ∷ ts)))
    tracks_track t = step ∙ rw (ne_eqb c.read.type MThd (λ e. omega arith), eq-eqb c.read.type MTrk t)

    pub tracks_skip : (c.read.type ≡ MThd → ⊥) → (c.read.type ≡ MTrk → ⊥) → tracks_of bs ≡ tracks_of c.rest
    tracks_skip t s = step ∙ rw (ne_eqb c.read.type MThd t, ne_eqb c.read.type MTrk s)
