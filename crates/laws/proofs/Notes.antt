-- Pairing loses and invents no start: each on is pending or in one closed note.
use Prim.Native.Nat.{ℕ}
use mathlib.Core.Bool.{Bool, true, false, cond, not, ◌&&◌, ◌||◌}
use mathlib.Core.List.{List, [], ◌∷◌, ◌++◌, map, foldl, head?, append_assoc, map-append, map-map}
use mathlib.Core.List.Permᴰ
use mathlib.Core.Option.{Option, none, some}
use mathlib.Core.Logic.{inl, inr}
use mathlib.Core.Path.{◌≡◌, refl, sym, ap, ◌∙◌}
use native.Mathlib.Omega.{arith}
use lib.ListN.{length, length-map}
use Rattle.rules.specs.Lists.{All, keep, sort_by}
use Rattle.rules.specs.Piece.{Event, is_on, is_off}
use Rattle.rules.specs.RawNotes.{NoteEvent, note_event, note_events, RawNote, raw_note, Pairing, same_key, without_oldest, take_off, take_on, pair_one, no_pairs}
use Rattle.rules.specs.RawNotes.{pairing, by_channel, by_start, raw_notes_of, raw_notes, last_tick}
use Rattle.laws.specs.Notes.{Onset, note_onset, on_onset, ons_of, OneNoteEach, HasNotes}
use Rattle.laws.specs.Orders.{SameUpToOrder}
use Rattle.laws.proofs.Order.{by_bool}
use Rattle.laws.proofs.Lists.{All-all, All-left, All-unmap, any_kept, empty_same}
use Rattle.laws.proofs.Orders.{last_first, sort_order, order_length, All-order}
use Rattle.laws.proofs.Tests.{fuse, keep_same}

abbrev pub start_onset : NoteEvent → Onset
start_onset s = record { start = s.tick; key = s.key; channel = s.channel }

-- an off takes the oldest start of its key, and just that
without_one : (n s : NoteEvent) (ss : List NoteEvent) → head? (keep (same_key n) ss) ≡ some s → SameUpToOrder (s ∷ without_oldest n ss) ss
unfolding keep without_oldest
without_one n s [] h = let z : ◌≡◌ {A = ℕ} 0 1 = cc in absurd (omega arith)
without_one n s (x ∷ ss) h =
    elim (by_bool (same_key n x)) [
      | inl t ↦ let here : some x ≡ some s = rw t at h in let same : s ≡ x = cc in rw t (Permᴰ.cons same (Permᴰ.refl ss))
      | inr t ↦ rw t (Permᴰ.trans (Permᴰ.swap refl refl) (Permᴰ.cons refl (without_one n s ss (rw t at h))))
    ]

-- the starts that a pairing holds, pending or closed
abbrev held : Pairing → List Onset
held x = map start_onset x.pending ++ map note_onset x.closed

off_holds : (n : NoteEvent) (x : Pairing) (o : Option NoteEvent) → head? (keep (same_key n) x.pending) ≡ o
    → SameUpToOrder (held (take_off n x o)) (held x)
off_holds n x none h = Permᴰ.refl (held x)
off_holds n x (some s) h =
    let rest = map start_onset (without_oldest n x.pending) in
    let done = map note_onset x.closed in
    rw (map-append, ← append_assoc)
    (Permᴰ.trans (last_first (start_onset s) (rest ++ done)) (Permᴰ.append_right done (Permᴰ.map start_onset (without_one n s x.pending h))))

on_holds : (n : NoteEvent) (x : Pairing) → SameUpToOrder (held (take_on n x)) (start_onset n ∷ held x)
on_holds n x =
    rw (map-append start_onset x.pending (n ∷ []))
    (Permᴰ.append_right (map note_onset x.closed) (last_first (start_onset n) (map start_onset x.pending)))

-- the ons of note events
abbrev ons_among : List NoteEvent → List Onset
ons_among ns = map start_onset (keep (λ (n : NoteEvent). n.on) ns)

one_holds : (n : NoteEvent) (x : Pairing) (os : List NoteEvent) (t : Bool)
    → SameUpToOrder (map start_onset os ++ held (cond t (take_on n x) (take_off n x (head? (keep (same_key n) x.pending)))))
    (map start_onset (cond t (n ∷ os) os) ++ held x)
one_holds n x os true =
    Permᴰ.trans (Permᴰ.append_left (map start_onset os) (on_holds n x)) (Permᴰ.middle (start_onset n) (map start_onset os) (held x))
one_holds n x os false = Permᴰ.append_left (map start_onset os) (off_holds n x (head? (keep (same_key n) x.pending)) refl)

pairs_hold : (x : Pairing) (ns : List NoteEvent) → SameUpToOrder (held (foldl pair_one x ns)) (ons_among ns ++ held x)
unfolding keep pair_one
pairs_hold x [] = Permᴰ.refl (held x)
pairs_hold x (n ∷ ns) =
    Permᴰ.trans (pairs_hold (pair_one x n) ns) (one_holds n x (keep (λ (n : NoteEvent). n.on) ns) n.on)

-- the ons of a track's note events are its ons
track_ons : (es : List Event) → ons_among (note_events es) ≡ map on_onset (ons_of es)
track_ons es =
    fuse (λ e. is_on e.word || is_off e.word) note_event start_onset (λ (n : NoteEvent). n.on) es
    ∙ ap (map on_onset) (keep_same _ (λ e. is_on e.word) es (All-all (λ e. both (is_on e.word) (is_off e.word)) es))
  where
    both : (a b : Bool) → (a || b) && a ≡ a
    both true b = refl
    both false true = refl
    both false false = refl

notes_hold : (ns : List NoteEvent) (last : ℕ) → SameUpToOrder (map note_onset (raw_notes_of ns last)) (held (pairing ns))
unfolding raw_notes_of
notes_hold ns last =
    let x = pairing ns in
    let ends : NoteEvent → RawNote = λ s. raw_note s last in
    let unclosed = sort_by by_channel x.pending in
    let apart : map note_onset (x.closed ++ map ends unclosed) ≡ map note_onset x.closed ++ map start_onset unclosed =
    rw (map-append note_onset x.closed (map ends unclosed), map-map note_onset ends unclosed) in
    Permᴰ.trans (rw apart at (Permᴰ.map note_onset (sort_order by_start (x.closed ++ map ends unclosed))))
    (Permᴰ.trans (Permᴰ.append_left (map note_onset x.closed) (Permᴰ.map start_onset (sort_order by_channel x.pending)))
    (Permᴰ.append_comm (map note_onset x.closed) (map start_onset x.pending)))

track_holds : (es : List Event) → SameUpToOrder (held (pairing (note_events es))) (map on_onset (ons_of es))
track_holds es =
    Permᴰ.trans (rw (track_ons es) at (pairs_hold no_pairs (note_events es))) (Permᴰ.append-nil (map on_onset (ons_of es)))

pub one_note_each : OneNoteEach
one_note_each es = Permᴰ.trans (notes_hold (note_events es) (last_tick es)) (track_holds es)

-- what all ons have when they begin, the starts still pending have
pub pending_begin : (Q : Onset → Type 0) (es : List Event) → All Q (map on_onset (ons_of es))
    → All (λ s. Q (start_onset s)) (pairing (note_events es)).pending
pending_begin Q es h =
    let x = pairing (note_events es) in
    All-unmap Q start_onset x.pending
    (All-left Q (map start_onset x.pending) (map note_onset x.closed) (All-order Q (Permᴰ.symm (track_holds es)) h))

-- so the notes are as many as the ons
pub one_note_count : (es : List Event) → length (raw_notes es) ≡ length (ons_of es)
one_note_count es =
    sym (length-map (raw_notes es) note_onset) ∙ order_length (one_note_each es) ∙ length-map (ons_of es) on_onset

pub has_notes_lem : HasNotes
has_notes_lem es =
    any_kept (λ (e : Event). is_on e.word) es
    ∙ ap not (empty_same (ons_of es) (raw_notes es) (sym (one_note_count es)))
