-- A voice played back item by item: what is heard of it, and what the steps of the code promise.
use Rattle.std.specs.Prelude as std
use Rattle.std.specs.Option.{is_some}
use Rattle.std.specs.Result.{is_ok}
use Rattle.std.specs.Prelude.{ℕ, ◌+◌, ◌*◌, ◌^◌, ◌≤◌, Bool, true, false, cond, ◌&&◌, ◌≡◌}
use mathlib.Core.List.{List, ◌∷◌, map, foldl}
use Rattle.std.proofs.Math.Option.{Option, none, some}
use Rattle.rules.specs.Lists.{sum}
use Rattle.rules.specs.RawNotes.{RawNote}
use Rattle.rules.specs.ProofReader.{item_ticks, Timed, timed_from, Played, tie_after}
use Rattle.rules.specs.ProofReader as facts
use Rattle.rules.specs.ProofReaderTests.{staff_value?, clean?, meets?}
use Rattle.rules.specs.Items as items
use Rattle.proofread_notes.specs.Columns.{notes_at, Same, Before, Marks}
use Rattle.proofread_notes.specs.Chords.{played_of, chord_ok?, place_of}
use Rattle.proofread_notes.specs.declared.Chord.{Chord}
use Rattle.proofread_items.specs.declared.Item.{Item}
use Rattle.proofread_items.specs.declared.Tie.{Tie}
use Rattle.proofread_items.specs.declared.Voice.{Voice}

-- ---- what is heard of a voice

-- Whether all was right so far, the open tie-out, the last chord, and the chords before it, the latest first.
pub record Heard : Type 0 where
  pub ok : Bool
  pub tie : Option facts.Tie
  pub chord : Option Played
  pub closed : List Played

-- values, rests and keys, ties
abbrev pub fits? : ℕ → Option facts.Tie → Timed → Bool
fits? p h t = staff_value? p t.item && clean? t.item && meets? h t

-- a chord that ends with a note, at the tick `next`, or at tick e
abbrev pub last_ok? : ℕ → List RawNote → Option Played → ℕ → Bool
last_ok? e ns none next = true
last_ok? e ns (some c) next = chord_ok? e ns c next

abbrev pub closed_with : Option Played → List Played → List Played
closed_with none cs = cs
closed_with (some c) cs = c ∷ cs

abbrev pub prolonged_to : ℕ → Option Played → Option Played
prolonged_to t none = none
prolonged_to t (some c) = some (record { start = c.start; end = t; keys = c.keys; unpitched = c.unpitched })

-- an item that is no rest and has no tie-in closes the last chord and opens one
abbrev pub sound_ok? : ℕ → List RawNote → Option Played → Timed → Bool
sound_ok? e ns o t = cond t.item.rest true (cond t.item.tie_in true (last_ok? e ns o t.from))

abbrev pub chord_after : Option Played → Timed → Option Played
chord_after o t =
    cond t.item.rest o
    (cond t.item.tie_in (prolonged_to t.to o)
    (some (record { start = t.from; end = t.to; keys = t.item.keys; unpitched = t.item.unpitched })))

abbrev pub closed_after : Option Played → Timed → List Played → List Played
closed_after o t cs = cond t.item.rest cs (cond t.item.tie_in cs (closed_with o cs))

-- one item more
unfoldable pub hear_one : ℕ → ℕ → List RawNote → Heard → Timed → Heard
hear_one p e ns a t =
    record {
      ok = a.ok && (fits? p a.tie t && sound_ok? e ns a.chord t);
      tie = tie_after t;
      chord = chord_after a.chord t;
      closed = closed_after a.chord t a.closed;
    }

abbrev pub run : ℕ → ℕ → List RawNote → Heard → List Timed → Heard
run p e ns a ts = foldl (hear_one p e ns) a ts

-- ---- the code's values as those of the rules

abbrev pub as_item : Item → items.Item
as_item i =
    record {
      code = i.code;
      dots = i.dots;
      tie_in = i.tie_in;
      tie_out = i.tie_out;
      unpitched = i.unpitched;
      rest = i.rest;
      keys = i.low + i.high * 2 ^ 64;
    }

-- the item at the voice's tick
abbrev pub timed_at : ℕ → Voice → Item → Timed
timed_at p v i = record { from = v.tick; to = v.tick + item_ticks p (as_item i); item = as_item i }

abbrev pub tie_from : Tie → facts.Tie
tie_from t = record { tick = t.tick; keys = t.low + t.high * 2 ^ 64; unpitched = t.unpitched }

abbrev pub as_tie : std.Option Tie → Option facts.Tie
as_tie std.None = none
as_tie (std.Some t) = some (tie_from t)

abbrev pub tie_of : Voice → Option facts.Tie
tie_of v = as_tie v.tie

-- the tie-out that an item leaves at the tick `end`
abbrev pub tie_left : Item → ℕ → Option facts.Tie
tie_left i end = cond i.tie_out (some (record { tick = end; keys = i.low + i.high * 2 ^ 64; unpitched = i.unpitched })) none

abbrev pub as_chord : std.Option Chord → Option Played
as_chord std.None = none
as_chord (std.Some c) = some (played_of c)

abbrev pub chord_of : Voice → Option Played
chord_of v = as_chord v.chord

-- the start of the last chord, tick t before the first
abbrev pub last_start : ℕ → std.Option Chord → ℕ
last_start t std.None = t
last_start t (std.Some c) = c.start

-- the voice, cs being the chords closed before its last
abbrev pub heard_of : Voice → List Played → Heard
heard_of v cs = record { ok = true; tie = tie_of v; chord = chord_of v; closed = cs }

-- ---- what the steps promise

-- No note before `from` starts with the last chord or later, and the last chord is not behind the tick.
-- Before the first chord no note before `from` starts at the tick or later.
pub record Paced (g n m : ℕ) (w : List ℕ) (v : Voice) : Type 0 where
  pub within : v.from ≤ m
  pub before : Before g n w v.from (last_start v.tick v.chord)
  pub reached : last_start v.tick v.chord ≤ v.tick

-- Where no note before v's `from` starts with v's last chord or later, none before s's `from` does with s's.
-- This is so whichever tick t stands for the start of a chord that is not there.
abbrev pub StaysBefore : ℕ → ℕ → List ℕ → List ℕ → Voice → Voice → Type 0
StaysBefore g n w w' v s = (t : ℕ) → Before g n w v.from (last_start t v.chord) → Before g n w' s.from (last_start t s.chord)

-- the last chord is closed, and r is where the notes of the next one are looked for, whether all is right or not
pub record Closes (g n m e next : ℕ) (w w' : List ℕ) (v : Voice) (r : std.Result ℕ ℕ) : Type 0 where
  pub same : Same n w w'
  pub ok : is_ok r ≡ last_ok? e (notes_at g n m w) (chord_of v) next
  pub within : place_of r ≤ m
  pub before : Before g n w' (place_of r) (last_start v.tick v.chord)
  pub kept : std.IfNone v.chord (place_of r ≡ v.from)
  pub marks : (cs : List Played) → Marks g n m w cs → Marks g n m w' (closed_with (chord_of v) cs)

-- the item is played, and leaves the voice s
pub record Sounded (g n m : ℕ) (i : Item) (end : ℕ) (w w' : List ℕ) (v s : Voice) : Type 0 where
  pub chord : chord_of s ≡ chord_after (chord_of v) (record { from = v.tick; to = end; item = as_item i })
  pub within : s.from ≤ m
  pub before : Before g n w' s.from (last_start v.tick s.chord)
  pub stays : StaysBefore g n w w' v s
  pub reached : last_start v.tick s.chord ≤ v.tick

pub record Sounds (g n m e : ℕ) (i : Item) (end : ℕ) (w w' : List ℕ) (v : Voice) (r : std.Option Voice) : Type 0 where
  pub same : Same n w w'
  pub ok : is_some r ≡ sound_ok? e (notes_at g n m w) (chord_of v) (record { from = v.tick; to = end; item = as_item i })
  pub voice : std.IfSome r (Sounded g n m i end w w' v)
  pub marks : (cs : List Played) → Marks g n m w cs
      → Marks g n m w' (closed_after (chord_of v) (record { from = v.tick; to = end; item = as_item i }) cs)

-- what is heard is a, where the code has the voice r
pub record Holds (g n m : ℕ) (w : List ℕ) (a : Heard) (r : Voice) : Type 0 where
  pub marks : Marks g n m w a.closed
  pub is : heard_of r a.closed ≡ a

-- whatever chords were closed before, what is heard has failed, or the code has the voice r
abbrev pub Fails : ℕ → ℕ → ℕ → List ℕ → (List Played → Heard) → Type 0
Fails g n m w heard = (cs : List Played) → Marks g n m w cs → (heard cs).ok ≡ false

pub record Goes (g n m : ℕ) (w w' : List ℕ) (heard : List Played → Heard) (r : Voice) : Type 0 where
  pub holds : (cs : List Played) → Marks g n m w cs → Holds g n m w' (heard cs) r
  pub paced : Paced g n m w' r

-- From a voice in the area w, whatever chords were closed before it, the code comes to r in the area w', and the rules to `heard`.
pub record Hears (g n m : ℕ) (w w' : List ℕ) (heard : List Played → Heard) (r : std.Option Voice) : Type 0 where
  pub same : Same n w w'
  pub is : std.MatchOption r (Fails g n m w heard) (Goes g n m w w' heard)

pub record Takes (g n m e p : ℕ) (i : Item) (w w' : List ℕ) (v : Voice) (r : std.Option Voice) : Type 0 where
  pub hears : Hears g n m w w' (λ cs. hear_one p e (notes_at g n m w) (heard_of v cs) (timed_at p v i)) r
  pub stays : std.IfSome r (StaysBefore g n w w' v)
  pub tick : std.IfSome r (λ (s : Voice). s.tick ≡ v.tick + item_ticks p (as_item i))
  pub short : std.IfSome r (λ (s : Voice). s.tick ≤ v.tick + 3145680)

pub record TakesAll (g n m e p : ℕ) (is : List items.Item) (w w' : List ℕ) (v : Voice) (r : std.Option Voice) : Type 0 where
  pub hears : Hears g n m w w' (λ cs. run p e (notes_at g n m w) (heard_of v cs) (timed_from p v.tick is)) r
  pub stays : std.IfSome r (StaysBefore g n w w' v)
  pub tick : std.IfSome r (λ (s : Voice). s.tick ≡ v.tick + sum (map (item_ticks p) is))
