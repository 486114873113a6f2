-- Raw notes stay in the range of their track's note events.
use Prim.Native.Nat.{ℕ, ◌<◌}
use mathlib.Core.Bool.{Bool, true, false, cond, ◌||◌}
use mathlib.Core.List.{List, [], ◌∷◌, ◌++◌, map, head?}
use mathlib.Core.Logic.{inl, inr}
use mathlib.Core.Option.{Option, none, some}
use mathlib.Core.Path.{◌≡◌, refl}
use native.Mathlib.Omega.{arith}
use Rattle.rules.specs.Lists.{All, keep, last_or, sort_by}
use Rattle.rules.specs.Piece.{Event, byte_a, byte_b, is_on, is_off}
use Rattle.rules.specs.RawNotes.{NoteEvent, note_event, note_events, raw_note, Pairing, same_key, without_oldest, take_off, take_on}
use Rattle.rules.specs.RawNotes.{pair_one, no_pairs, pairing, by_channel, by_start, raw_notes_of, raw_notes, last_tick}
use Rattle.laws.specs.NoteWords.{InRange}
use Rattle.laws.proofs.Folds.{foldl_keeps}
use Rattle.laws.proofs.Lists.{All-append, All-keep, All-map, first_kept}
use Rattle.laws.proofs.Order.{by_bool}
use Rattle.laws.proofs.Sort.{All-sort}

module _ (limit : ℕ) where
  -- an event whose tick is below the limit and, if it is a note event, whose key and channel are in range
  pub record EventIn (e : Event) : Type 0 where
    pub tick : e.tick < limit
    pub key : is_on e.word || is_off e.word ≡ true → byte_b e.word < 128
    pub channel : is_on e.word || is_off e.word ≡ true → byte_a e.word < 16

  record StartIn (n : NoteEvent) : Type 0 where
    tick : n.tick < limit
    key : n.key < 128
    channel : n.channel < 16

  record PairingIn (x : Pairing) : Type 0 where
    pending : All StartIn x.pending
    closed : All (InRange limit) x.closed

  without_in : (n : NoteEvent) (ss : List NoteEvent) → All StartIn ss → All StartIn (without_oldest n ss)
  unfolding without_oldest
  without_in n [] h = tt
  without_in n (s ∷ ss) h = elim (by_bool (same_key n s)) [ inl t ↦ rw t h.1 | inr t ↦ rw t (h.0, without_in n ss h.1) ]

  note_in : (s : NoteEvent) (t : ℕ) → StartIn s → t < limit → InRange limit (raw_note s t)
  note_in s t h l = record { start = h.tick; end = omega (arith, h.tick, l); key = h.key; channel = h.channel }

  off_in : (n : NoteEvent) (x : Pairing) (o : Option NoteEvent) → head? (keep (same_key n) x.pending) ≡ o → StartIn n → PairingIn x
      → PairingIn (take_off n x o)
  off_in n x none e h k = record { pending = k.pending; closed = k.closed }
  off_in n x (some s) e h k =
      record {
        pending = without_in n x.pending k.pending;
        closed = All-append _ x.closed _ k.closed (note_in s n.tick (first_kept StartIn (same_key n) x.pending s k.pending e) h.tick, tt);
      }

  by_on : (x : Pairing) (n : NoteEvent) (t : Bool) → StartIn n → PairingIn x
      → PairingIn (cond t (take_on n x) (take_off n x (head? (keep (same_key n) x.pending))))
  by_on x n true h k = record { pending = All-append _ x.pending _ k.pending (h, tt); closed = k.closed }
  by_on x n false h k = off_in n x (head? (keep (same_key n) x.pending)) refl h k

  one_in : (x : Pairing) (n : NoteEvent) → StartIn n → PairingIn x → PairingIn (pair_one x n)
  unfolding pair_one
  one_in x n h k = by_on x n n.on h k

  last_in : (d : ℕ) (es : List Event) → d < limit → All EventIn es → last_or d (map (λ (e : Event). e.tick) es) < limit
  last_in d [] l h = l
  last_in d (e ∷ es) l h = last_in e.tick es h.0.tick h.1

  pub notes_in_range : (es : List Event) → 0 < limit → All EventIn es → All (InRange limit) (raw_notes es)
  unfolding raw_notes_of
  notes_in_range es l h =
      let starts : All StartIn (note_events es) =
      All-map StartIn note_event (λ e k. record { tick = k.0.tick; key = k.0.key k.1; channel = k.0.channel k.1 })
      (keep (λ (e : Event). is_on e.word || is_off e.word) es) (All-keep EventIn _ es h) in
      let paired : PairingIn (pairing (note_events es)) =
      foldl_keeps pair_one PairingIn StartIn one_in (note_events es) no_pairs starts (record { pending = tt; closed = tt }) in
      All-sort by_start (InRange limit)
      ((pairing (note_events es)).closed ++ map (λ s. raw_note s (last_tick es)) (sort_by by_channel (pairing (note_events es)).pending))
      (All-append _ (pairing (note_events es)).closed _ paired.closed
      (All-map (InRange limit) (λ s. raw_note s (last_tick es)) (λ s k. note_in s (last_tick es) k (last_in 0 es l h))
      (sort_by by_channel (pairing (note_events es)).pending)
      (All-sort by_channel StartIn (pairing (note_events es)).pending paired.pending)))
