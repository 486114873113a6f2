-- The starts still pending, one after another: the notes so far, then those of the starts left by channel, are all notes.
use Prim.Native.Nat.{ℕ, ◌+◌, ◌-◌, ◌*◌, ◌/◌, ◌%◌, ◌≤◌, ◌<◌, ◌^◌}
use mathlib.Core.List.{List, [], ◌∷◌, ◌++◌, map, map-append, append-nil, append_assoc}
use mathlib.Core.Path.{◌≡◌, sym, ap, ◌∙◌, subst⁻¹}
use native.Mathlib.Omega.{arith}
use lib.ListN.{length}
use Rattle.rules.specs.RawNotes.{NoteEvent, RawNote, raw_note, Pairing}
use Rattle.pairing.specs.Steps.{Waiting, Taken}
use Rattle.pairing.specs.declared.Unclosed.{Unclosed}
use Rattle.pairing.proofs.Chains.{same_behind}
use Rattle.pairing.proofs.Taking.{Taking, taking_start, taking_kept, taking_waits, taken_fits, taken_inside, taken_some, taking_more, taking_end}
use Rattle.raw_notes.specs.Columns.{Listed}
use Rattle.raw_notes.specs.Stages.{Early, note_of, NotePut, Pairs, AllClosed}

-- the notes of pending starts, all closed at one tick
abbrev notes_of : ℕ → List NoteEvent → List RawNote
notes_of last ss = map (λ (s : NoteEvent). raw_note s last) ss

-- r notes are there, and the starts left are of the queues from `from` on
pub record Closing (h t : List (List ℕ)) (w : List ℕ) (n m r from last : ℕ) (x : Pairing) : Type 0 where
  pub done : List NoteEvent
  pub taking : Taking Early h t w n m from x.pending done (m - r)
  pub listed : Listed n r w (x.closed ++ map (λ (s : NoteEvent). raw_note s last) done)
  pub within : r ≤ m

pub closing_start : {h t : List (List ℕ)} {w : List ℕ} {n m r : ℕ} (last : ℕ) {x : Pairing} → Pairs h t w n m r x → Closing h t w n m r 0 last x
closing_start {w = w} {n = n} {r = r} last {x} p =
    record {
      done = [];
      taking = taking_start p.queues (omega (arith, p.held)) p.early;
      listed = subst⁻¹ (Listed n r w) (append-nil x.closed) p.listed;
      within = omega (arith, p.held);
    }

module _ {h t : List (List ℕ)} {w : List ℕ} {n m r from last : ℕ} {x : Pairing} (p : Closing h t w n m r from last x) where
  pub closing_waits : r < m → Waiting h w n from
  closing_waits more = taking_waits p.taking (omega arith)

  module _ {h' : List (List ℕ)} {u : Unclosed} (q : Taken h' t w n m p.taking.waiting u) where
    pub record Ends : Type 0 where
      pub early : u.tick < 2 ^ 47
      pub channel : u.queue / 128 < 16
      pub room : r < n
      pub area : 16 * n ≤ length w

    pub ends : Ends
    ends =
        record {
          early = omega (arith, q.is.tick, taken_fits p.taking q);
          channel = omega (arith, q.is.channel, (taken_inside p.taking q).channel);
          room = omega (arith, taken_some p.taking q, p.taking.queues.room);
          area = p.taking.queues.area;
        }

    pub closing_more : {w' : List ℕ} → length w' ≡ length w → NotePut w w' n r (note_of u.tick last (u.queue % 128) (u.queue / 128))
        → Closing h' t w' n m (r + 1) u.queue last x
    closing_more {w'} long put =
        let some = taken_some p.taking q in
        record {
          done = p.done ++ (q.start ∷ []);
          taking = taking_kept (same_behind long put.rest) (taking_more p.taking q (omega arith));
          listed = subst⁻¹ (Listed n (r + 1) w') one_more (put.more (x.closed ++ notes_of last p.done) p.listed);
          within = omega arith;
        }
      where
        note : raw_note q.start last ≡ note_of u.tick last (u.queue % 128) (u.queue / 128)
        note = rw (q.is.tick, q.is.key, q.is.channel)

        one_more : x.closed ++ notes_of last (p.done ++ (q.start ∷ []))
            ≡ (x.closed ++ notes_of last p.done) ++ (note_of u.tick last (u.queue % 128) (u.queue / 128) ∷ [])
        one_more =
            ap (λ (l : List RawNote). x.closed ++ l) (map-append (λ (s : NoteEvent). raw_note s last) p.done (q.start ∷ []))
            ∙ sym (append_assoc x.closed (notes_of last p.done) (raw_note q.start last ∷ []))
            ∙ ap (λ (z : RawNote). (x.closed ++ notes_of last p.done) ++ (z ∷ [])) note

  pub closing_end : m ≤ r → AllClosed h w n m last x
  closing_end done =
      let e = taking_end p.taking (omega arith) in
      let same : m ≡ r = omega (arith, p.within) in
      record {
        listed = rw (same, ← e.0) p.listed;
        heads = e.1;
      }

-- the loop: whatever pairing the arrays held
abbrev pub Reach : List (List ℕ) → List ℕ → ℕ → ℕ → ℕ → ℕ → List (List ℕ) → List ℕ → ℕ → ℕ → Type 0
Reach h₀ w₀ n m notes last h w r from = (t : List (List ℕ)) (x : Pairing) → Pairs h₀ t w₀ n m notes x → Closing h t w n m r from last x
