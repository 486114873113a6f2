-- Section 8, Proof-reader: playback of a staff, and the points of a right staff, as facts for people and as tests for contracts. It goes by a
-- part's raw notes, the grid and snapping, the bars, and a value's length.
use Rattle.std.specs.Prelude.{ℕ, ◌+◌, ◌*◌, ◌≤◌, ◌<◌, Bool, true, false, cond, List, [], ◌∷◌, ◌++◌, map, reverse, ◌⊎◌, ◌≡◌, length, get_or}
use Rattle.std.proofs.Math.Option.{Option, none, some}
use Rattle.rules.specs.Lists.{sum, bit, All, Some}
use Rattle.rules.specs.RawNotes.{RawNote}
use Rattle.rules.specs.Bars.{Bar, last_bar_end}
use Rattle.rules.specs.Grid.{grid, snapped}
use Rattle.rules.specs.Values.{ticks_of, is_whole}
use Rattle.rules.specs.Items.{Item, Staff, StaffArrays, head_limit, read_staff}

-- ---- playback

abbrev pub item_ticks : ℕ → Item → ℕ
item_ticks p i = ticks_of p i.code i.dots

-- an item with the ticks at which it starts and ends
pub record Timed : Type 0 where
  pub from : ℕ
  pub to : ℕ
  pub item : Item

-- A voice's items follow one another from the bar's start.
unfoldable pub timed_from : ℕ → ℕ → List Item → List Timed
timed_from p t [] = []
timed_from p t (i ∷ is) = record { from = t; to = t + item_ticks p i; item = i } ∷ timed_from p (t + item_ticks p i) is

-- voice v of each bar
abbrev pub voice_items : ℕ → List (List Item) → List Item
voice_items v bar = get_or bar v []

-- the items of voice v through the bars
unfoldable pub voice_timed : ℕ → ℕ → List Bar → Staff → List Timed
voice_timed p v [] st = []
voice_timed p v (b ∷ bs) [] = []
voice_timed p v (b ∷ bs) (bar ∷ st) = timed_from p b.start (voice_items v bar) ++ voice_timed p v bs st

-- A played-back chord.
pub record Played : Type 0 where
  pub start : ℕ
  pub end : ℕ
  pub keys : ℕ
  pub unpitched : Bool

-- the last chord, prolonged to end at tick t
abbrev pub prolonged : ℕ → List Played → List Played
prolonged t [] = []
prolonged t (c ∷ cs) = record { start = c.start; end = t; keys = c.keys; unpitched = c.unpitched } ∷ cs

-- An item without tie-in that is no rest opens a chord with its start and keys, one with tie-in prolongs the voice's last chord, and a chord's
-- end is its last piece's. The list has the last chord first.
abbrev pub hear : Timed → List Played → List Played
hear t cs =
    cond t.item.rest cs
    (cond t.item.tie_in (prolonged t.to cs)
    (record { start = t.from; end = t.to; keys = t.item.keys; unpitched = t.item.unpitched } ∷ cs))

unfoldable pub heard_after : List Played → List Timed → List Played
heard_after cs [] = cs
heard_after cs (t ∷ ts) = heard_after (hear t cs) ts

-- Playback of a voice: its chords in order.
abbrev pub playback : List Timed → List Played
playback ts = reverse (heard_after [] ts)

-- The four voices.
abbrev pub voice_numbers : List ℕ
voice_numbers = 0 ∷ 1 ∷ 2 ∷ 3 ∷ []

abbrev pub played : ℕ → List Bar → Staff → List (List Played)
played p bs st = map (λ v. playback (voice_timed p v bs st)) voice_numbers

-- ---- the points, as facts

-- a value of section 6 for staffs: a code from 0 to 8, a dot or none, a whole number of ticks
pub record StaffValue (p : ℕ) (i : Item) : Type 0 where
  pub code : i.code ≤ 8
  pub dots : i.dots ≤ 1
  pub whole : is_whole p i.code i.dots ≡ true

-- Values are section 6's for staffs.
abbrev pub Values : ℕ → Staff → Type 0
Values p st = All (All (All (StaffValue p))) st

-- items fill a bar
abbrev pub Fill : ℕ → Bar → List Item → Type 0
Fill p b is = sum (map (item_ticks p) is) ≡ b.len

-- a voice has no items, or they fill the bar
abbrev pub EmptyOrFill : ℕ → Bar → List Item → Type 0
EmptyOrFill p b [] = Unit {0}
EmptyOrFill p b (i ∷ is) = Fill p b (i ∷ is)

-- Each voice that has items fills its bar, voice 0 always. So no bar is missing, and none is spare: bars and staff run out together.
abbrev pub Full : ℕ → List Bar → Staff → Type 0
Full p [] [] = Unit {0}
Full p [] (bar ∷ st) = ⊥
Full p (b ∷ bs) [] = ⊥
Full p (b ∷ bs) (bar ∷ st) = Fill p b (voice_items 0 bar) × All (EmptyOrFill p b) bar × Full p bs st

-- Rests have no keys or marks (ties, unpitched), other items at least one key.
pub record Clean (i : Item) : Type 0 where
  pub keyless : i.rest ≡ true → i.keys ≡ 0
  pub untied_in : i.rest ≡ true → i.tie_in ≡ false
  pub untied_out : i.rest ≡ true → i.tie_out ≡ false
  pub unmarked : i.rest ≡ true → i.unpitched ≡ false
  pub keyed : i.rest ≡ false → 0 < i.keys

abbrev pub AllClean : Staff → Type 0
AllClean st = All (All (All Clean)) st

-- an open tie-out: where it stands, its keys and mark
pub record Tie : Type 0 where
  pub tick : ℕ
  pub keys : ℕ
  pub unpitched : Bool

-- A tie-out and the next item's tie-in meet: at one tick, with equal keys and unpitched mark. With no tie-out open the item has no tie-in.
abbrev pub Meets : Option Tie → Timed → Type 0
Meets none t = t.item.tie_in ≡ false
Meets (some h) t = (t.item.tie_in ≡ true) × (t.from ≡ h.tick) × (t.item.keys ≡ h.keys) × (t.item.unpitched ≡ h.unpitched)

abbrev pub tie_after : Timed → Option Tie
tie_after t = cond t.item.tie_out (some (record { tick = t.to; keys = t.item.keys; unpitched = t.item.unpitched })) none

-- A tie-out is free only at the staff's end, tick e.
abbrev pub FreeAt : ℕ → Option Tie → Type 0
FreeAt e none = Unit {0}
FreeAt e (some h) = h.tick ≡ e

abbrev pub Tied : ℕ → Option Tie → List Timed → Type 0
Tied e h [] = FreeAt e h
Tied e h (t ∷ ts) = Meets h t × Tied e (tie_after t) ts

-- Within a voice tie-in and tie-out meet.
abbrev pub Ties : ℕ → List Bar → Staff → Type 0
Ties p bs st = All (λ v. Tied (last_bar_end bs) none (voice_timed p v bs st)) voice_numbers

abbrev pub HasKey : ℕ → ℕ → Type 0
HasKey k keys = bit k keys ≡ 1

-- Each raw note whose snapped start is before the last bar's end has its key in a played-back chord of that start. The notes are snapped.
abbrev pub NoteFound : ℕ → List (List Played) → RawNote → Type 0
NoteFound e pss n = n.start < e → Some (Some (λ (c : Played). (c.start ≡ n.start) × HasKey n.key c.keys)) pss

-- Each played-back key is that of such a note whose snapped start is its chord's start.
abbrev pub KeysMeant : ℕ → List RawNote → Played → Type 0
KeysMeant e ns c =
    (k : ℕ) → k < 128 → HasKey k c.keys → Some (λ (n : RawNote). (n.start < e) × (n.start ≡ c.start) × (n.key ≡ k)) ns

-- at a snapped end of a note of the chord's start
abbrev pub EndsWithNote : List RawNote → Played → Type 0
EndsWithNote ns c = Some (λ (n : RawNote). (n.start ≡ c.start) × (n.end ≡ c.end)) ns

-- Each chord ends at a snapped end of a note of that start, at its voice's next chord, or at the last bar's end.
abbrev pub EndsMeant : ℕ → List RawNote → List Played → Type 0
EndsMeant e ns [] = Unit {0}
EndsMeant e ns (c ∷ []) = EndsWithNote ns c ⊎ (c.end ≡ e)
EndsMeant e ns (c ∷ d ∷ cs) = (EndsWithNote ns c ⊎ (c.end ≡ d.start) ⊎ (c.end ≡ e)) × EndsMeant e ns (d ∷ cs)

-- The three points on the raw notes. The notes are a part's raw notes, g their grid.
abbrev pub AllFound : ℕ → ℕ → List RawNote → List Bar → Staff → Type 0
AllFound p g notes bs st = All (NoteFound (last_bar_end bs) (played p bs st)) (map (snapped g) notes)

abbrev pub AllMeant : ℕ → ℕ → List RawNote → List Bar → Staff → Type 0
AllMeant p g notes bs st = All (All (KeysMeant (last_bar_end bs) (map (snapped g) notes))) (played p bs st)

abbrev pub AllEnd : ℕ → ℕ → List RawNote → List Bar → Staff → Type 0
AllEnd p g notes bs st = All (EndsMeant (last_bar_end bs) (map (snapped g) notes)) (played p bs st)

-- A right staff: the seven points.
pub record Right (p g : ℕ) (notes : List RawNote) (bs : List Bar) (st : Staff) : Type 0 where
  pub values : Values p st
  pub full : Full p bs st
  pub clean : AllClean st
  pub ties : Ties p bs st
  pub found : AllFound p g notes bs st
  pub meant : AllMeant p g notes bs st
  pub ends : AllEnd p g notes bs st

-- Arrays that fit the counts exactly, four a bar, and no head bit set that has no meaning.
pub record Shaped (bs : List Bar) (s : StaffArrays) : Type 0 where
  pub counts : length s.counts ≡ 4 * length bs
  pub heads : length s.heads ≡ sum s.counts
  pub keys : length s.keys ≡ 2 * sum s.counts
  pub bits : All (λ h. h < head_limit) s.heads

-- Demand 3's "well formed": not malformed, and every point before the raw notes except full bars.
pub record WellFormed (p : ℕ) (bs : List Bar) (s : StaffArrays) : Type 0 where
  pub shaped : Shaped bs s
  pub values : Values p (read_staff s)
  pub clean : AllClean (read_staff s)
  pub ties : Ties p bs (read_staff s)

-- Yes means this: well formed, and right.
pub record ProofRead (p : ℕ) (notes : List RawNote) (bs : List Bar) (s : StaffArrays) : Type 0 where
  pub formed : WellFormed p bs s
  pub right : Right p (grid p notes) notes bs (read_staff s)
