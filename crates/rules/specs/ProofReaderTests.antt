-- Section 8, the same points as tests, word for word, and the proof-reader's verdict.
use Rattle.std.specs.Prelude.{ℕ, ◌*◌, ◌%◌, Bool, true, false, cond, not, ◌&&◌, ◌||◌, List, [], ◌∷◌, map, eqb, leb, ltb, length}
use Rattle.std.specs.Bool.{beq}
use Rattle.std.proofs.Math.Option.{Option, none, some}
use Rattle.rules.specs.Lists.{any, every, below, sum, bit}
use Rattle.rules.specs.RawNotes.{RawNote}
use Rattle.rules.specs.Bars.{Bar, last_bar_end}
use Rattle.rules.specs.Grid.{grid, snapped}
use Rattle.rules.specs.Values.{is_whole, smallest}
use Rattle.rules.specs.Items.{Item, Staff, StaffArrays, head_limit, read_staff}
use Rattle.rules.specs.ProofReader.{item_ticks, Timed, voice_items, voice_timed, voice_numbers, Played, played, Tie, tie_after}

abbrev pub staff_value? : ℕ → Item → Bool
staff_value? p i = leb i.code 8 && leb i.dots 1 && is_whole p i.code i.dots

abbrev pub values? : ℕ → Staff → Bool
values? p st = every (every (every (staff_value? p))) st

abbrev pub fill? : ℕ → Bar → List Item → Bool
fill? p b is = eqb (sum (map (item_ticks p) is)) b.len

abbrev pub empty_or_fill? : ℕ → Bar → List Item → Bool
empty_or_fill? p b [] = true
empty_or_fill? p b (i ∷ is) = fill? p b (i ∷ is)

unfoldable pub full? : ℕ → List Bar → Staff → Bool
full? p [] [] = true
full? p [] (bar ∷ st) = false
full? p (b ∷ bs) [] = false
full? p (b ∷ bs) (bar ∷ st) = fill? p b (voice_items 0 bar) && every (empty_or_fill? p b) bar && full? p bs st

abbrev pub clean? : Item → Bool
clean? i =
    cond i.rest (eqb i.keys 0 && not i.tie_in && not i.tie_out && not i.unpitched) (ltb 0 i.keys)

abbrev pub all_clean? : Staff → Bool
all_clean? st = every (every (every clean?)) st

abbrev pub meets? : Option Tie → Timed → Bool
meets? none t = not t.item.tie_in
meets? (some h) t =
    t.item.tie_in && eqb t.from h.tick && eqb t.item.keys h.keys && beq t.item.unpitched h.unpitched

abbrev pub free_at? : ℕ → Option Tie → Bool
free_at? e none = true
free_at? e (some h) = eqb h.tick e

unfoldable pub tied? : ℕ → Option Tie → List Timed → Bool
tied? e h [] = free_at? e h
tied? e h (t ∷ ts) = meets? h t && tied? e (tie_after t) ts

abbrev pub ties? : ℕ → List Bar → Staff → Bool
ties? p bs st = every (λ v. tied? (last_bar_end bs) none (voice_timed p v bs st)) voice_numbers

abbrev pub has_key? : ℕ → ℕ → Bool
has_key? k keys = eqb (bit k keys) 1

abbrev pub note_found? : ℕ → List (List Played) → RawNote → Bool
note_found? e pss n =
    not (ltb n.start e) || any (any (λ (c : Played). eqb c.start n.start && has_key? n.key c.keys)) pss

abbrev pub keys_meant? : ℕ → List RawNote → Played → Bool
keys_meant? e ns c =
    below 128
    (λ k. not (has_key? k c.keys) || any (λ (n : RawNote). ltb n.start e && eqb n.start c.start && eqb n.key k) ns)

abbrev pub ends_with_note? : List RawNote → Played → Bool
ends_with_note? ns c = any (λ (n : RawNote). eqb n.start c.start && eqb n.end c.end) ns

unfoldable pub ends_meant? : ℕ → List RawNote → List Played → Bool
ends_meant? e ns [] = true
ends_meant? e ns (c ∷ []) = ends_with_note? ns c || eqb c.end e
ends_meant? e ns (c ∷ d ∷ cs) = (ends_with_note? ns c || eqb c.end d.start || eqb c.end e) && ends_meant? e ns (d ∷ cs)

-- the points in their order, each asked where those before it hold
unfoldable pub right? : ℕ → ℕ → List RawNote → List Bar → Staff → Bool
right? p g notes bs st =
    values? p st
    && full? p bs st
    && all_clean? st
    && ties? p bs st
    && every (note_found? (last_bar_end bs) (played p bs st)) (map (snapped g) notes)
    && every (every (keys_meant? (last_bar_end bs) (map (snapped g) notes))) (played p bs st)
    && every (ends_meant? (last_bar_end bs) (map (snapped g) notes)) (played p bs st)

-- A staff whose arrays don't fit its counts exactly, or with a head bit set that has no meaning, is malformed.
unfoldable pub shaped? : List Bar → StaffArrays → Bool
shaped? bs s =
    eqb (length s.counts) (4 * length bs)
    && eqb (length s.heads) (sum s.counts)
    && eqb (length s.keys) (2 * sum s.counts)
    && every (λ h. ltb h head_limit) s.heads

-- The proof-reader's yes or no, of notes on a grid, and of a part's raw notes on their own grid.
abbrev pub verdict_on : ℕ → ℕ → List RawNote → List Bar → StaffArrays → Bool
verdict_on p g notes bs s = shaped? bs s && right? p g notes bs (read_staff s)

abbrev pub verdict : ℕ → List RawNote → List Bar → StaffArrays → Bool
verdict p notes bs s = verdict_on p (grid p notes) notes bs s

-- Even, the premise of document 01's demand 3: the grid and every bar's length are multiples of the smallest written value.
unfoldable pub even? : ℕ → ℕ → List Bar → Bool
even? p g bs = eqb (g % smallest p) 0 && every (λ (b : Bar). eqb (b.len % smallest p) 0) bs
