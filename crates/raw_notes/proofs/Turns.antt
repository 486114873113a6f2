-- One event after another: the pairing, the notes in their columns, and the counts go on together.
use Prim.Native.Nat.{ℕ, ◌+◌, ◌*◌, ◌≤◌, ◌<◌, ◌^◌}
use mathlib.Core.List.{List}
use mathlib.Core.Path.{◌≡◌, refl, subst⁻¹}
use native.Mathlib.Omega.{arith}
use lib.ListN.{length}
use Rattle.rules.specs.Lists.{All}
use Rattle.rules.specs.Piece.{Event, byte_a, byte_b}
use Rattle.rules.specs.RawNotes.{NoteEvent, note_event, raw_note, Pairing, same_key}
use Rattle.laws.proofs.Lists.{first_kept}
use Rattle.pairing.specs.Queues.{Inside}
use Rattle.pairing.specs.Outcome.{after, starts_after, Stepped}
use Rattle.pairing.specs.declared.Start.{Start}
use Rattle.pairing.specs.declared.Paired.{Paired}
use Rattle.pairing.specs.declared.Paired.TheVariants.{Closed}
use Rattle.pairing.proofs.Chains.{queues_kept, same_behind}
use Rattle.pairing.proofs.Outcomes.{ClosedBy, does, starts_flag, closes, leaves}
use Rattle.raw_notes.specs.Columns.{Listed}
use Rattle.raw_notes.specs.Stages.{Early, note_of, NotePut, Pairs, Turned}
use Rattle.raw_notes.specs.declared.Seen.{Seen}
use Rattle.raw_notes.proofs.Listing.{listed_kept}

-- h, t and w are those after the step, w₀ the work area before it
module _ {h t h₀ t₀ : List (List ℕ)} {w w₀ : List ℕ} {n m r : ℕ} {x : Pairing} {e : Event} (long : length w ≡ length w₀) (p : Pairs h₀ t₀ w₀ n m r x) where
  listed : {o : Paired} → Stepped x e n m o h t w₀ w → Listed n r w x.closed
  listed q = listed_kept p.queues.area long q.front p.listed

  -- an event that closes nothing
  pairs_open : e.tick < 2 ^ 47 → (o : Paired) → closes o ≡ 0 → Stepped x e n m o h t w₀ w → Pairs h t w n (starts_after m o) r (after x e)
  pairs_open soon o none q =
      let l = leaves x e o q.is in
      record {
        queues = q.queues;
        listed = subst⁻¹ (Listed n r w) (l.closed none) (listed q);
        held = omega (arith, l.pending, none, p.held, starts_flag m x e q.is);
        early = l.all Early soon p.early;
      }

  -- an off that closes a start
  module _ {b : Start} (q : Stepped x e n m (Closed b) h t w₀ w) where
    by : ClosedBy x e b
    by = does x e q.is

    -- one start less is pending
    one_less : length (after x e).pending + 1 ≡ length x.pending
    one_less = omega (arith, (leaves x e (Closed b) q.is).pending, starts_flag 0 x e q.is)

    -- what holds of all pending starts holds of the one that closed
    of_start : (P : NoteEvent → Type 0) → All P x.pending → P by.start
    of_start P a = first_kept P (same_key (note_event e)) x.pending by.start a by.first

    -- what `put_note` asks, for its key and its channel
    pub note_fits : e.tick < 2 ^ 47 → {key channel : ℕ} → key ≡ byte_b e.word → channel ≡ byte_a e.word
        → (r < n) × (16 * n ≤ length w) × (b.tick < 2 ^ 47) × (e.tick < 2 ^ 47) × (key < 128) × (channel < 16)
    note_fits soon is_key is_channel =
        let inside = of_start Inside p.queues.inside in (
          omega (arith, p.held, one_less, p.queues.room),
          q.queues.area,
          omega (arith, by.is.tick, of_start Early p.early),
          soon,
          omega (arith, is_key, by.is.key, inside.key),
          omega (arith, is_channel, by.is.channel, inside.channel),
        )

    pairs_closed : e.tick < 2 ^ 47 → {w₂ : List ℕ} → length w₂ ≡ length w → NotePut w w₂ n r (note_of b.tick e.tick (byte_b e.word) (byte_a e.word))
        → Pairs h t w₂ n m (r + 1) (after x e)
    pairs_closed soon {w₂} long₂ put =
        record {
          queues = queues_kept (same_behind long₂ put.rest) q.queues;
          listed = subst⁻¹ (λ (y : Pairing). Listed n (r + 1) w₂ y.closed) by.after_is (rw note (put.more x.closed (listed q)));
          held = omega (arith, p.held, one_less);
          early = (leaves x e (Closed b) q.is).all Early soon p.early;
        }
      where
        note : raw_note by.start e.tick ≡ note_of b.tick e.tick (byte_b e.word) (byte_a e.word)
        note = rw (by.is.tick, by.is.key, by.is.channel)

-- ---- a turn, by what the event was
module _ {h t h₀ t₀ : List (List ℕ)} {w w₀ : List ℕ} {n : ℕ} {x : Pairing} {e : Event} {s : Seen}
    (long : length w ≡ length w₀) (p : Pairs h₀ t₀ w₀ n s.starts s.notes x) (soon : e.tick < 2 ^ 47) where
  pub turned_open : (o : Paired) → closes o ≡ 0 → Stepped x e n s.starts o h t w₀ w
      → Turned h t w n x e s (record { tick = e.tick; starts = starts_after s.starts o; notes = s.notes })
  turned_open o none q = record { pairs = pairs_open long p soon o none q; tick = refl; starts = starts_flag s.starts x e q.is }

  pub turned_closed : {b : Start} {w₂ : List ℕ} → Stepped x e n s.starts (Closed b) h t w₀ w → length w₂ ≡ length w
      → NotePut w w₂ n s.notes (note_of b.tick e.tick (byte_b e.word) (byte_a e.word))
      → Turned h t w₂ n x e s (record { tick = e.tick; starts = s.starts; notes = s.notes + 1 })
  turned_closed q long₂ put = record { pairs = pairs_closed long p q soon long₂ put; tick = refl; starts = starts_flag s.starts x e q.is }
