-- A voice through the bars: what is heard of it, and what the steps of the code promise.
use Rattle.std.specs.Prelude as std
use Rattle.std.specs.Prelude.{ℕ, zero, suc, ◌+◌, ◌*◌, ◌≤◌, Bool, true, false, cond, ◌&&◌, List, [], ◌∷◌, map, ◌≡◌, eqb, length}
use Rattle.std.proofs.Math.Option.{none}
use Rattle.rules.specs.Lists.{sum, is_empty}
use Rattle.rules.specs.RawNotes.{RawNote}
use Rattle.rules.specs.Bars.{Bar}
use Rattle.rules.specs.Items.{Item, Staff}
use Rattle.rules.specs.ProofReader.{item_ticks, timed_from, voice_items, Played}
use Rattle.rules.specs.ProofReaderTests.{fill?, empty_or_fill?, free_at?}
use Rattle.proofread_notes.specs.Columns.{notes_at, Same, Before, Marks}
use Rattle.proofread_items.specs.Playing.{Heard, last_ok?, closed_with, run, tie_of, chord_of, last_start, heard_of, StaysBefore, Holds, Fails}
use Rattle.proofread_items.specs.declared.Voice.{Voice}

-- ---- what is heard

-- voice 0 fills its bar, another one does or is empty
abbrev pub filled? : ℕ → ℕ → Bar → List Item → Bool
filled? p zero b is = fill? p b is
filled? p (suc v) b is = empty_or_fill? p b is

-- one test more
abbrev pub with_ok : Heard → Bool → Heard
with_ok a t = record { ok = a.ok && t; tie = a.tie; chord = a.chord; closed = a.closed }

-- voice v through the bars
unfoldable pub voice_run : ℕ → ℕ → List RawNote → ℕ → Heard → List Bar → Staff → Heard
voice_run p e ns v a [] st = a
voice_run p e ns v a (b ∷ bs) [] = a
voice_run p e ns v a (b ∷ bs) (bar ∷ st) =
    voice_run p e ns v (with_ok (run p e ns a (timed_from p b.start (voice_items v bar))) (filled? p v b (voice_items v bar))) bs st

-- nothing is heard yet; cs are the chords of voices read before
abbrev pub silent : List Played → Heard
silent cs = record { ok = true; tie = none; chord = none; closed = cs }

-- and at the voice's end: a tie-out is free at tick e alone, and the last chord ends with a note or there
abbrev pub voice_ok? : ℕ → List RawNote → Heard → Bool
voice_ok? e ns a = a.ok && free_at? e a.tie && last_ok? e ns a.chord e

-- ---- what the steps promise

-- arrays that fit the bars: four counts a bar, a head and two words of keys an item; the bars are 10,000 at most
pub record Fits (bs : List Bar) (counts heads keys : List ℕ) : Type 0 where
  pub few : length counts ≤ 40000
  pub small : length heads ≤ 40000 * 4294967295
  pub bars : length counts ≡ 4 * length bs
  pub heads_fit : length heads ≡ sum counts
  pub keys_fit : length keys ≡ 2 * sum counts

pub record NewVoice (r : Voice) : Type 0 where
  pub is : (cs : List Played) → heard_of r cs ≡ silent cs
  pub from : r.from ≡ 0
  pub start : last_start 0 r.chord ≡ 0

-- the test at a bar's end, the bar going from tick `start` to tick `until`
abbrev pub full? : ℕ → ℕ → ℕ → ℕ → List Item → Bool
full? p v start until is =
    cond (eqb v 0) (eqb (start + sum (map (item_ticks p) is)) until) (cond (is_empty is) true (eqb (start + sum (map (item_ticks p) is)) until))

-- what is heard of the voice once the bar is read
abbrev pub bar_heard : ℕ → ℕ → List RawNote → ℕ → ℕ → ℕ → List Item → Voice → List Played → Heard
bar_heard p e ns v start until is voice cs = with_ok (run p e ns (heard_of voice cs) (timed_from p start is)) (full? p v start until is)

-- the bar is read, and leaves the voice s
pub record Reaches (g n m until : ℕ) (w w' : List ℕ) (heard : List Played → Heard) (voice s : Voice) : Type 0 where
  pub holds : (cs : List Played) → Marks g n m w cs → Holds g n m w' (heard cs) s
  pub within : s.from ≤ m
  pub before : Before g n w' s.from (last_start s.tick s.chord)
  pub stays : StaysBefore g n w w' voice s
  pub reached : last_start until s.chord ≤ until
  pub ticked : last_start s.tick s.chord ≤ s.tick

pub record ReadsBar (g n m e p v start until : ℕ) (is : List Item) (w w' : List ℕ) (voice : Voice) (r : std.Option Voice) : Type 0 where
  pub same : Same n w w'
  pub is_read : std.MatchOption r (Fails g n m w (bar_heard p e (notes_at g n m w) v start until is voice))
      (Reaches g n m until w w' (bar_heard p e (notes_at g n m w) v start until is voice) voice)

pub record EndsVoice (g n m e : ℕ) (w w' : List ℕ) (v : Voice) (r : Bool) : Type 0 where
  pub same : Same n w w'
  pub ok : r ≡ (free_at? e (tie_of v) && last_ok? e (notes_at g n m w) (chord_of v) e)
  pub marks : r ≡ true → (cs : List Played) → Marks g n m w cs → Marks g n m w' (closed_with (chord_of v) cs)

-- the answer is the voice's, and all its chords have left their marks
pub record ReadsVoice (g n m e p v : ℕ) (bs : List Bar) (st : Staff) (w w' : List ℕ) (r : Bool) : Type 0 where
  pub same : Same n w w'
  pub ok : (cs : List Played) → Marks g n m w cs → r ≡ voice_ok? e (notes_at g n m w) (voice_run p e (notes_at g n m w) v (silent cs) bs st)
  pub marks : r ≡ true → (cs : List Played) → Marks g n m w cs
      → Marks g n m w' (closed_with (voice_run p e (notes_at g n m w) v (silent cs) bs st).chord (voice_run p e (notes_at g n m w) v (silent cs) bs st).closed)
