-- The proof-reader's verdict, point by point: each test says its fact, and yes says that the staff is right.
use Prim.Native.Nat.{ℕ, suc, ◌*◌, ◌%◌, ◌∣◌}
use mathlib.Core.Bool.{false, false≢true}
use mathlib.Core.List.{List, [], ◌∷◌, map}
use mathlib.Core.Option.{Option, none, some}
use mathlib.Core.Path.{◌≡◌, refl, ap}
use lib.Dec.{eqb}
use lib.ListN.{length}
use native.Mathlib.Nat.{dvd_of_mod-eq-zero, mod-eq-zero_of_dvd}
use Rattle.rules.specs.Lists.{All, sum, bit}
use Rattle.rules.specs.RawNotes.{RawNote}
use Rattle.rules.specs.Bars.{Bar, last_bar_end}
use Rattle.rules.specs.Grid.{grid, snapped}
use Rattle.rules.specs.Values.{is_whole, smallest}
use Rattle.rules.specs.Items.{Item, Staff, StaffArrays, head_limit, read_staff}
use Rattle.rules.specs.ProofReader.{StaffValue, Values, Fill, EmptyOrFill, Full, Clean, AllClean, Meets, FreeAt, Tied, Ties, NoteFound, KeysMeant, EndsWithNote}
use Rattle.rules.specs.ProofReader.{EndsMeant, Right, Shaped, WellFormed, Timed, Tie, Played, item_ticks, voice_items, voice_timed, voice_numbers, played, tie_after}
use Rattle.rules.specs.ProofReaderTests.{staff_value?, values?, fill?, empty_or_fill?, full?, clean?, all_clean?, meets?, free_at?, tied?}
use Rattle.rules.specs.ProofReaderTests.{ties?, note_found?, keys_meant?, ends_with_note?, ends_meant?, right?, shaped?, verdict_on, even?}
use Rattle.laws.specs.Says.{Says}
use Rattle.laws.specs.Claims.{YesExactly, FormedExactly, RightBars}
use Rattle.laws.proofs.Reflection.{says_flag, says_true, says_eq, says_lt, says_le, says_beq, says_not, says_and, says_or, says_imp}
use Rattle.laws.proofs.Reflection.{says_cond, says_as, says_and3, says_or3, says_and4, says_every, says_any, says_below}

-- ---- point 1: values

pub says_value : (p : ℕ) (i : Item) → Says (staff_value? p i) (StaffValue p i)
says_value p i =
    says_as (says_and3 (says_le i.code 8) (says_le i.dots 1) (says_flag (is_whole p i.code i.dots)))
    (λ x. record { code = x.0; dots = x.1; whole = x.2 }, λ v. (v.code, v.dots, v.whole))

pub says_values : (p : ℕ) (st : Staff) → Says (values? p st) (Values p st)
says_values p = says_every (says_every (says_every (says_value p)))

-- ---- point 2: full bars

pub says_fill : (p : ℕ) (b : Bar) (is : List Item) → Says (fill? p b is) (Fill p b is)
says_fill p b is = says_eq (sum (map (item_ticks p) is)) b.len

pub says_empty_or_fill : (p : ℕ) (b : Bar) (is : List Item) → Says (empty_or_fill? p b is) (EmptyOrFill p b is)
says_empty_or_fill p b [] = says_true
says_empty_or_fill p b (i ∷ is) = says_fill p b (i ∷ is)

says_false : Says false ⊥
says_false = (false≢true, λ x. absurd x)

pub says_full : (p : ℕ) (bs : List Bar) (st : Staff) → Says (full? p bs st) (Full p bs st)
unfolding full?
says_full p [] [] = says_true
says_full p [] (bar ∷ st) = says_false
says_full p (b ∷ bs) [] = says_false
says_full p (b ∷ bs) (bar ∷ st) =
    says_and3 (says_fill p b (voice_items 0 bar)) (says_every (says_empty_or_fill p b) bar) (says_full p bs st)

-- ---- point 3: rests and keys

pub says_clean : (i : Item) → Says (clean? i) (Clean i)
says_clean i =
    says_as
    (says_cond i.rest
    (says_and4 (says_eq i.keys 0) (says_not i.tie_in) (says_not i.tie_out) (says_not i.unpitched))
    (says_lt 0 i.keys)) (
      λ x.
          record {
            keyless = λ r. (x.0 r).0;
            untied_in = λ r. (x.0 r).1;
            untied_out = λ r. (x.0 r).2;
            unmarked = λ r. (x.0 r).3;
            keyed = x.1;
          },
      λ c. (λ r. (c.keyless r, c.untied_in r, c.untied_out r, c.unmarked r), c.keyed),
    )

pub says_all_clean : (st : Staff) → Says (all_clean? st) (AllClean st)
says_all_clean = says_every (says_every (says_every says_clean))

-- ---- point 4: ties

pub says_meets : (h : Option Tie) (t : Timed) → Says (meets? h t) (Meets h t)
says_meets none t = says_not t.item.tie_in
says_meets (some h) t =
    says_and4 (says_flag t.item.tie_in) (says_eq t.from h.tick) (says_eq t.item.keys h.keys)
    (says_beq t.item.unpitched h.unpitched)

pub says_free : (e : ℕ) (h : Option Tie) → Says (free_at? e h) (FreeAt e h)
says_free e none = says_true
says_free e (some h) = says_eq h.tick e

pub says_tied : (e : ℕ) (h : Option Tie) (ts : List Timed) → Says (tied? e h ts) (Tied e h ts)
unfolding tied?
says_tied e h [] = says_free e h
says_tied e h (t ∷ ts) = says_and (says_meets h t) (says_tied e (tie_after t) ts)

pub says_ties : (p : ℕ) (bs : List Bar) (st : Staff) → Says (ties? p bs st) (Ties p bs st)
says_ties p bs st = says_every (λ v. says_tied (last_bar_end bs) none (voice_timed p v bs st)) voice_numbers

-- ---- points 5, 6 and 7: the raw notes

pub says_found : (e : ℕ) (pss : List (List Played)) (n : RawNote) → Says (note_found? e pss n) (NoteFound e pss n)
says_found e pss n =
    says_imp (says_lt n.start e)
    (says_any
    (says_any (λ (c : Played). says_and (says_eq c.start n.start) (says_eq (bit n.key c.keys) 1)))
    pss)

pub says_meant : (e : ℕ) (ns : List RawNote) (c : Played) → Says (keys_meant? e ns c) (KeysMeant e ns c)
says_meant e ns c =
    says_below
    (λ k. says_imp (says_eq (bit k c.keys) 1)
    (says_any
    (λ (n : RawNote). says_and3 (says_lt n.start e) (says_eq n.start c.start) (says_eq n.key k)) ns))
    128

pub says_ends_with : (ns : List RawNote) (c : Played) → Says (ends_with_note? ns c) (EndsWithNote ns c)
says_ends_with ns c =
    says_any (λ (n : RawNote). says_and (says_eq n.start c.start) (says_eq n.end c.end)) ns

pub says_ends : (e : ℕ) (ns : List RawNote) (cs : List Played) → Says (ends_meant? e ns cs) (EndsMeant e ns cs)
unfolding ends_meant?
says_ends e ns [] = says_true
says_ends e ns (c ∷ []) = says_or (says_ends_with ns c) (says_eq c.end e)
says_ends e ns (c ∷ d ∷ cs) =
    says_and (says_or3 (says_ends_with ns c) (says_eq c.end d.start) (says_eq c.end e)) (says_ends e ns (d ∷ cs))

-- ---- the whole

pub says_right : (p g : ℕ) (notes : List RawNote) (bs : List Bar) (st : Staff) → Says (right? p g notes bs st) (Right p g notes bs st)
unfolding right?
says_right p g notes bs st =
    let e : ℕ = last_bar_end bs in
    let ns : List RawNote = map (snapped g) notes in
    let pss : List (List Played) = played p bs st in
    says_as
    (says_and4
    (says_and4 (says_values p st) (says_full p bs st) (says_all_clean st) (says_ties p bs st))
    (says_every (says_found e pss) ns)
    (says_every (says_every (says_meant e ns)) pss)
    (says_every (says_ends e ns) pss)) (
      λ x.
          record {
            values = x.0.0;
            full = x.0.1;
            clean = x.0.2;
            ties = x.0.3;
            found = x.1;
            meant = x.2;
            ends = x.3;
          },
      λ r. ((r.values, r.full, r.clean, r.ties), r.found, r.meant, r.ends),
    )

pub says_shaped : (bs : List Bar) (s : StaffArrays) → Says (shaped? bs s) (Shaped bs s)
unfolding shaped?
says_shaped bs s =
    says_as
    (says_and4 (says_eq (length s.counts) (4 * length bs)) (says_eq (length s.heads) (sum s.counts))
    (says_eq (length s.keys) (2 * sum s.counts)) (says_every (λ h. says_lt h head_limit) s.heads))
    (λ x. record { counts = x.0; heads = x.1; keys = x.2; bits = x.3 }, λ r. (r.counts, r.heads, r.keys, r.bits))

-- the verdict on a given grid
pub says_verdict_on : (p g : ℕ) (notes : List RawNote) (bs : List Bar) (s : StaffArrays)
    → Says (verdict_on p g notes bs s) (WellFormed p bs s × Right p g notes bs (read_staff s))
says_verdict_on p g notes bs s =
    says_as (says_and (says_shaped bs s) (says_right p g notes bs (read_staff s))) (
      λ x. (record { shaped = x.0; values = x.1.values; clean = x.1.clean; ties = x.1.ties }, x.1),
      λ x. (x.0.shaped, x.1),
    )

pub yes_exactly : YesExactly
yes_exactly p notes bs s =
    says_as (says_verdict_on p (grid p notes) notes bs s)
    (λ x. record { formed = x.0; right = x.1 }, λ r. (r.formed, r.right))

pub formed_exactly : FormedExactly
formed_exactly p notes bs s formed = (
  λ r. record { full = r.right.full; found = r.right.found; meant = r.right.meant; ends = r.right.ends },
  λ x.
      record {
        formed = formed;
        right =
            record {
              values = formed.values;
              full = x.full;
              clean = formed.clean;
              ties = formed.ties;
              found = x.found;
              meant = x.meant;
              ends = x.ends;
            };
      },
)

-- bars and staff run out together
full_bars : (p : ℕ) (bs : List Bar) (st : Staff) → Full p bs st → length st ≡ length bs
full_bars p [] [] h = refl
full_bars p [] (bar ∷ st) h = absurd h
full_bars p (b ∷ bs) [] h = absurd h
full_bars p (b ∷ bs) (bar ∷ st) h = ap suc (full_bars p bs st h.2)

pub right_bars : RightBars
right_bars p g notes bs st r = full_bars p bs st r.full

-- ---- even pieces

pub says_divides : (u n : ℕ) → Says (eqb (n % u) 0) (u ∣ n)
says_divides u n = says_as (says_eq (n % u) 0) (dvd_of_mod-eq-zero u, mod-eq-zero_of_dvd u)

pub says_even : (p g : ℕ) (bs : List Bar) → Says (even? p g bs) ((smallest p ∣ g) × All (λ (b : Bar). smallest p ∣ b.len) bs)
unfolding even?
says_even p g bs = says_and (says_divides (smallest p) g) (says_every (λ (b : Bar). says_divides (smallest p) b.len) bs)
