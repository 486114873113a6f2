-- Reading a head: what is read, and else the first change of tick 0 among the events left, is the head of the whole track.
use Prim.Native.Nat.{ℕ, suc, ◌+◌, ◌≤◌, ◌<◌}
use mathlib.Core.Bool.{Bool}
use mathlib.Core.List.{List, [], ◌∷◌, map, head?}
use mathlib.Core.Logic.{inl, inr}
use mathlib.Core.Option.{Option, none}
use mathlib.Core.Path.{◌≡◌, refl, sym, ap}
use native.Mathlib.Omega.{arith}
use borrow.Author.Tests.{ne_eqb}
use lib.Dec.{eqb}
use lib.ListN.{length, get_or, drop}
use Rattle.std.specs.Prelude as std
use Rattle.std.specs.Option.{option_or, unwrap_or}
use Rattle.rules.specs.Lists.{keep, All}
use Rattle.rules.specs.Piece.{Event, timed, kind_of, tempo_value}
use Rattle.rules.specs.Changes as rules
use Rattle.rules.specs.Changes.{Change, tempo_changes, meter_changes, key_changes, at_zero, first_tempo, first_meter, first_key, key_if_at_zero, head_in}
use Rattle.laws.proofs.Order.{by_bool, by_eq}
use Rattle.laws.proofs.Lists.{All-map, All-keep}
use Rattle.track_events.specs.Track.{left}
use Rattle.track_events.proofs.Tracks.{left_cons}
use Rattle.changes.specs.declared.Key.{Key}
use Rattle.changes.specs.declared.Meter.{Meter}
use Rattle.changes.specs.declared.Reading.{Reading}
use Rattle.changes.specs.Heads.{told_key, HeadIs}
use Rattle.changes.specs.Reads.{tempo_in, meter_in, key_in, took, four_four, head_read}

abbrev meter_or : std.Option Meter → rules.Meter → rules.Meter
meter_or std.None m = m
meter_or (std.Some x) m = record { upper = x.upper; lower = x.lower }

abbrev key_or : std.Option Key → Option rules.Key → Option rules.Key
key_or std.None k = k
key_or (std.Some x) k = told_key (std.Some x)

-- r is what is read of the events es before those left
pub record Reads (es left : List Event) (r : Reading) : Type 0 where
  pub tempo : unwrap_or r.tempo (first_tempo left) ≡ first_tempo es
  pub meter : meter_or r.meter (first_meter left) ≡ first_meter es
  pub key : key_or r.key (first_key left) ≡ first_key es

pub reads_start : (es : List Event) → Reads es es (record { tempo = std.None; meter = std.None; key = std.None })
reads_start es = record { tempo = refl; meter = refl; key = refl }

module _ (es left : List Event) (e : Event) (here : e.tick ≡ 0) where
  tempo_next : kind_of e.word ≡ 2 → (o : std.Option ℕ) → unwrap_or o (first_tempo (e ∷ left)) ≡ first_tempo es
      → unwrap_or (option_or o (tempo_in e.word)) (first_tempo left) ≡ first_tempo es
  unfolding keep
  tempo_next k (std.Some x) h = h
  tempo_next k std.None h =
      elim (by_bool (eqb (tempo_value e.word) 0)) [ inl v ↦ rw v (rw (k, v) at h) | inr v ↦ rw v (rw (k, v, here) at h) ]

  meter_next : kind_of e.word ≡ 3 → (o : std.Option Meter) → meter_or o (first_meter (e ∷ left)) ≡ first_meter es
      → meter_or (option_or o (std.Some (meter_in e.word))) (first_meter left) ≡ first_meter es
  unfolding keep
  meter_next k (std.Some x) h = h
  meter_next k std.None h = rw (k, here) at h

  key_next : kind_of e.word ≡ 4 → (o : std.Option Key) → key_or o (first_key (e ∷ left)) ≡ first_key es
      → key_or (option_or o (std.Some (key_in e.word))) (first_key left) ≡ first_key es
  unfolding keep
  key_next k (std.Some x) h = h
  key_next k std.None h = rw (k, here) at h

module _ (es left : List Event) (e : Event) (here : e.tick ≡ 0) (r : Reading) (h : Reads es (e ∷ left) r) where
  other_one : (kind_of e.word ≡ 2 → ⊥) → (kind_of e.word ≡ 3 → ⊥) → (kind_of e.word ≡ 4 → ⊥) → Reads es left r
  unfolding keep
  other_one k₂ k₃ k₄ =
      record {
        tempo = rw (ne_eqb _ _ k₂) at h.tempo;
        meter = rw (ne_eqb _ _ k₃) at h.meter;
        key = rw (ne_eqb _ _ k₄) at h.key;
      }

  -- one event of tick 0 more
  pub reads_one : Reads es left (took r e.word)
  unfolding took keep
  reads_one =
      elim (by_eq (kind_of e.word) 2) [
        | inl k ↦ rw k (record { tempo = tempo_next es left e here k r.tempo h.tempo; meter = rw k at h.meter; key = rw k at h.key })
        | inr k₂ ↦
            elim (by_eq (kind_of e.word) 3) [
              | inl k ↦ rw k (record { tempo = rw k at h.tempo; meter = meter_next es left e here k r.meter h.meter; key = rw k at h.key })
              | inr k₃ ↦
                  elim (by_eq (kind_of e.word) 4) [
                    | inl k ↦ rw k (record { tempo = rw k at h.tempo; meter = rw k at h.meter; key = key_next es left e here k r.key h.key })
                    | inr k₄ ↦ rw (ne_eqb _ _ k₂, ne_eqb _ _ k₃, ne_eqb _ _ k₄) (other_one k₂ k₃ k₄)
                  ]
            ]
      ]

-- ---- the end: no event of tick 0 is left

none_zero : {A : Type 0} (cs : List (Change A)) → All (λ (c : Change A). 0 < c.tick) cs → at_zero cs ≡ []
unfolding keep
none_zero [] h = refl
none_zero (c ∷ cs) h = rw (ne_eqb c.tick 0 (λ z. omega arith)) (none_zero cs h.1)

none_first : (cs : List (Change rules.Key)) → All (λ (c : Change rules.Key). 0 < c.tick) cs → key_if_at_zero (head? cs) ≡ none
none_first [] h = refl
none_first (c ∷ cs) h = rw (ne_eqb c.tick 0 (λ z. omega arith))

module _ (es left : List Event) (late : All (λ (e : Event). 0 < e.tick) left) (r : Reading) (h : Reads es left r) where
  changes_late : {A : Type 0} (f : Event → Bool) (g : Event → A)
      → All (λ (c : Change A). 0 < c.tick) (map (λ (e : Event). record { tick = e.tick; to = g e }) (keep f left))
  changes_late f g =
      All-map (λ c. 0 < c.tick) (λ (e : Event). record { tick = e.tick; to = g e }) (λ e k. k.0) (keep f left)
      (All-keep (λ (e : Event). 0 < e.tick) f left late)

  tempo_end : (o : std.Option ℕ) → unwrap_or o (first_tempo left) ≡ first_tempo es → unwrap_or o 120 ≡ first_tempo es
  tempo_end (std.Some x) h = h
  tempo_end std.None h = rw (none_zero (tempo_changes left) (changes_late _ _)) at h

  meter_end : (o : std.Option Meter) → meter_or o (first_meter left) ≡ first_meter es
      → record { upper = (unwrap_or o four_four).upper; lower = (unwrap_or o four_four).lower } ≡ first_meter es
  meter_end (std.Some x) h = h
  meter_end std.None h = rw (none_zero (meter_changes left) (changes_late _ _)) at h

  key_end : (o : std.Option Key) → key_or o (first_key left) ≡ first_key es → first_key es ≡ told_key o
  key_end (std.Some x) h = sym h
  key_end std.None h = sym (rw (none_first (key_changes left) (changes_late _ _)) at h)

  pub reads_end : HeadIs (head_in es) (head_read r)
  reads_end =
      let meter = meter_end r.meter h.meter in
      record {
        tempo = tempo_end r.tempo h.tempo;
        upper = ap (λ (m : rules.Meter). m.upper) meter;
        lower = ap (λ (m : rules.Meter). m.lower) meter;
        key = key_end r.key h.key;
      }

-- ---- the events left at an index

timed_late : (n t : ℕ) (ds ws : List ℕ) → 0 < t → All (λ (e : Event). 0 < e.tick) (timed n t ds ws)
unfolding timed
timed_late n t [] ws h = tt
timed_late n t (d ∷ ds) [] h = tt
timed_late n t (d ∷ ds) (w ∷ ws) h = (omega arith, timed_late (suc n) (t + d) ds ws (omega arith))

module _ (ds ws : List ℕ) (i : ℕ) (h : i < length ds) (k : i < length ws) where
  -- a delta above 0 comes next
  pub left_late : 0 < get_or ds i 0 → All (λ (e : Event). 0 < e.tick) (left 0 i ds ws)
  left_late d = rw (left_cons 0 i ds ws h k) (omega arith, timed_late (i + 1) (0 + get_or ds i 0) (drop (i + 1) ds) (drop (i + 1) ws) (omega arith))

  -- a delta of 0 comes next
  pub reads_next : (es : List Event) (r : Reading) → get_or ds i 0 ≤ 0 → Reads es (left 0 i ds ws) r
      → Reads es (left 0 (i + 1) ds ws) (took r (get_or ws i 0))
  reads_next es r d p =
      let still : 0 + get_or ds i 0 ≡ 0 = omega arith in
      rw still
      at (reads_one es (left (0 + get_or ds i 0) (i + 1) ds ws) (record { number = i; tick = 0 + get_or ds i 0; word = get_or ws i 0 }) still r
      (rw (left_cons 0 i ds ws h k) at p))
