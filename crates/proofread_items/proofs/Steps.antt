-- One item of a voice: the chord that it closes, the chord that it opens or prolongs, its tie.
use Prim.Native.Nat.{ℕ, ◌+◌, ◌≤◌}
use mathlib.Core.Bool.{Bool, true, false, ◌&&◌}
use mathlib.Core.List.{List}
use mathlib.Core.Option.{Option}
use mathlib.Core.Path.{◌≡◌, refl, sym, ap, subst, ◌∙◌}
use Rattle.std.specs.Prelude as std
use Rattle.std.specs.Option.{is_some}
use native.Mathlib.Omega.{arith}
use borrow.Author.Tests.{leb-true}
use Rattle.rules.specs.ProofReader.{item_ticks, Played}
use Rattle.rules.specs.ProofReader as facts
use Rattle.proofread_notes.specs.Columns.{Readable, notes_at, Marks}
use Rattle.proofread_notes.specs.Chords.{Checks}
use Rattle.proofread_notes.specs.declared.Chord.{Chord}
use Rattle.proofread_notes.proofs.Areas.{same_self, before_same, before_later}
use Rattle.proofread_items.specs.Playing.{Heard, fits?, prolonged_to, sound_ok?, chord_after, closed_after, hear_one}
use Rattle.proofread_items.specs.Playing.{as_item, timed_at, as_tie, tie_of, tie_left, as_chord, chord_of, last_start, Paced, Closes, Sounds, Takes}
use Rattle.proofread_items.specs.declared.Item.{Item}
use Rattle.proofread_items.specs.declared.Voice.{Voice}

-- ---- the last chord's start, tick t before the first
pub start_later : (s t : ℕ) (c : std.Option Chord) → s ≤ t → last_start s c ≤ last_start t c
start_later s t std.None h = h
start_later s t (std.Some c) h = omega arith

pub start_within : (s t : ℕ) (c : std.Option Chord) → last_start s c ≤ t → last_start t c ≤ t
start_within s t std.None h = omega arith
start_within s t (std.Some c) h = h

-- ---- the last chord is closed
module _ {g n m e next : ℕ} {w : List ℕ} {v : Voice} where
  pub closes_chord : {w' : List ℕ} {c : Chord} {r : std.Result ℕ ℕ} → Readable g n m w → v.chord ≡ std.Some c → Checks g n m e c next w w' r
      → Closes g n m e next w w' v r
  closes_chord {r = r} ready s k =
      record {
        same = k.same;
        ok = rw s k.ok;
        within = k.skipped.within;
        before = rw s (before_same k.same (omega (arith, k.skipped.within, ready.room)) k.skipped.before);
        kept = rw s tt;
        marks = λ cs c. rw s (k.marks cs c);
      }

  pub closes_none : v.chord ≡ std.None → Paced g n m w v → Closes g n m e next w w v (std.Ok v.from)
  closes_none s k =
      record { same = same_self n w; ok = rw s; within = k.within; before = k.before; kept = rw s refl; marks = λ cs c. rw s c }

-- ---- the item is played
module _ {g n m e end : ℕ} {i : Item} {w : List ℕ} {v : Voice} (k : Paced g n m w v) where
  pub sounds_rest : i.rest ≡ true → Sounds g n m e i end w w v (std.Some v)
  sounds_rest t =
      record {
        same = same_self n w;
        ok = rw t;
        voice = record { chord = rw t; within = k.within; before = k.before; stays = λ o b. b; reached = k.reached };
        marks = λ cs c. rw t c;
      }

  -- s is the voice with its last chord prolonged
  pub sounds_tied : {s : Voice} → i.rest ≡ false → i.tie_in ≡ true → s.from ≡ v.from
      → as_chord s.chord ≡ prolonged_to end (as_chord v.chord) → ((o : ℕ) → last_start o s.chord ≡ last_start o v.chord)
      → Sounds g n m e i end w w v (std.Some s)
  sounds_tied {s} t u b c st =
      record {
        same = same_self n w;
        ok = rw (t, u);
        voice =
            record {
              chord = rw (t, u) c;
              within = omega (arith, b, k.within);
              before = rw (b, st v.tick) k.before;
              stays = λ o q. rw (b, st o) q;
              reached = omega (arith, st v.tick, k.reached);
            };
        marks = λ cs o. rw (t, u) o;
      }

  module _ (t : i.rest ≡ false) (u : i.tie_in ≡ false) where
    pub sounds_not : {w' : List ℕ} {k : ℕ} → Closes g n m e v.tick w w' v (std.Err k) → Sounds g n m e i end w w' v std.None
    sounds_not x = record { same = x.same; ok = rw (t, u) x.ok; voice = tt; marks = λ cs o. rw (t, u) (x.marks cs o) }

    -- the last chord is closed, and s is the voice with a chord more
    pub sounds_new : {w' : List ℕ} {f : ℕ} {s : Voice} → Closes g n m e v.tick w w' v (std.Ok f) → s.from ≡ f
        → s.chord ≡ std.Some (record { start = v.tick; end = end; low = i.low; high = i.high; unpitched = i.unpitched })
        → Sounds g n m e i end w w' v (std.Some s)
    sounds_new {w'} {f} {s} x b c =
        record {
          same = x.same;
          ok = rw (t, u) x.ok;
          voice =
              record {
                chord = rw (t, u, c);
                within = omega (arith, b, x.within);
                before = rw (b, c) (before_later k.reached x.before);
                stays = λ o q. rw (b, c) (before_later k.reached x.before);
                reached = omega (arith, ap (last_start v.tick) c);
              };
          marks = λ cs o. rw (t, u) (x.marks cs o);
        }

-- ---- the item is taken
and_true : (a b c : Bool) → (a && b && c) ≡ true → a ≡ true
and_true true b c h = refl
and_true false b c h = h

-- an item that fits has a code of staffs
pub fits_code : (p : ℕ) (h : Option facts.Tie) (v : Voice) (i : Item) → fits? p h (timed_at p v i) ≡ true → i.code ≤ 8
fits_code p h v i f = leb-true i.code 8 (and_true _ _ _ (and_true _ _ _ f))

-- what is heard, by its four parts
pub heard_is : {a b : Heard} → a.ok ≡ b.ok → a.tie ≡ b.tie → a.chord ≡ b.chord → a.closed ≡ b.closed → a ≡ b
heard_is o t c l = λ i. record { ok = o i; tie = t i; chord = c i; closed = l i }

-- the item's end, by its value
sounded : {g n m e : ℕ} (p : ℕ) {i : Item} {w w' : List ℕ} {v : Voice} {end : ℕ} (long : end ≡ v.tick + item_ticks p (as_item i)) {r : std.Option Voice}
    → Sounds g n m e i end w w' v r
    → sound_ok? e (notes_at g n m w) (chord_of v) (record { from = v.tick; to = v.tick + item_ticks p (as_item i); item = as_item i }) ≡ is_some r
sounded {g} {n} {m} {e} p {i} {w} {w'} {v} long {r} x =
    subst (λ (t : ℕ). sound_ok? e (notes_at g n m w) (chord_of v) (record { from = v.tick; to = t; item = as_item i }) ≡ is_some r) long (sym x.ok)

module _ {g n m e p : ℕ} (i : Item) {w : List ℕ} (v : Voice) where
  pub takes_not : fits? p (tie_of v) (timed_at p v i) ≡ false → Takes g n m e p i w w v std.None
  unfolding hear_one
  takes_not f = record { hears = record { same = same_self n w; is = λ cs c. rw f }; stays = tt; tick = tt; short = tt }

  module _ {w' : List ℕ} (end : ℕ) (f : fits? p (tie_of v) (timed_at p v i) ≡ true) (long : end ≡ v.tick + item_ticks p (as_item i)) where
    pub takes_wrong : Sounds g n m e i end w w' v std.None → Takes g n m e p i w w' v std.None
    unfolding hear_one
    takes_wrong x = record { hears = record { same = x.same; is = λ cs c. rw f (sounded p long x) }; stays = tt; tick = tt; short = tt }

    -- s is the voice with the item played, r the same with its tie and tick
    pub takes_fit : {s r : Voice} → end ≤ v.tick + 3145680 → Sounds g n m e i end w w' v (std.Some s) → r.tick ≡ end → as_tie r.tie ≡ tie_left i end
        → r.chord ≡ s.chord → r.from ≡ s.from → Takes g n m e p i w w' v (std.Some r)
    unfolding hear_one
    takes_fit {s} {r} short x tick tie chord from =
        let st : (o : ℕ) → last_start o r.chord ≡ last_start o s.chord = λ o. ap (last_start o) chord in
        record {
          hears =
              record {
                same = x.same;
                is =
                    record {
                      holds =
                          λ cs c.
                          record {
                            marks =
                                subst (λ (t : ℕ). Marks g n m w' (closed_after (chord_of v) (record { from = v.tick; to = t; item = as_item i }) cs)) long
                                (x.marks cs c);
                            is =
                                heard_is (rw f (sym (sounded p long x))) (rw (tie, long))
                                (ap as_chord chord ∙ x.voice.chord ∙ ap (λ (t : ℕ). chord_after (chord_of v) (record { from = v.tick; to = t; item = as_item i })) long)
                                refl;
                          };
                      paced =
                          record {
                            within = omega (arith, from, x.voice.within);
                            before = rw (from, st r.tick) (before_later (start_later v.tick r.tick s.chord (omega (arith, tick, long))) x.voice.before);
                            reached = start_within v.tick r.tick r.chord (omega (arith, st v.tick, tick, long, x.voice.reached));
                          };
                    };
              };
          stays = λ o b. rw (from, st o) (x.voice.stays o b);
          tick = tick ∙ long;
          short = omega (arith, tick);
        }
