-- A voice read bar by bar: what is still to be heard of it, with the walk along the bars and the counts passed.
use Prim.Native.Nat.{ℕ, suc, ◌+◌, ◌-◌, ◌*◌, ◌^◌, ◌≤◌, ◌<◌}
use mathlib.Core.Bool.{Bool, false, ◌&&◌, true≢false}
use mathlib.Core.List.{List, [], ◌∷◌}
use mathlib.Core.Logic.{inl, inr}
use mathlib.Core.Path.{◌≡◌, refl, sym, ap, subst, ◌∙◌}
use native.Mathlib.Omega.{arith}
use Rattle.std.specs.Prelude as std
use lib.ListN.{length, get_or, take, drop, length-drop}
use lib.Seq.{drop-drop, get_or-drop}
use Rattle.rules.specs.Lists.{sum}
use Rattle.rules.specs.RawNotes.{RawNote}
use Rattle.rules.specs.Bars.{Bar, bar_length, bars_from, bars_in}
use Rattle.rules.specs.Items.{Item, Staff, read_items, cut_by, by_fours, read_staff}
use Rattle.rules.specs.ProofReader.{timed_from, voice_items, Played}
use Rattle.rules.specs.ProofReaderTests.{free_at?}
use Rattle.track_events.specs.Track.{events_of}
use Rattle.bar_walk.specs.declared.Walker.{Walker}
use Rattle.bar_walk.specs.Steps.{next_of}
use Rattle.bar_walk.specs.Walk.{track_meter, first_walker, AtBar, Settled}
use Rattle.bar_walk.proofs.WalkLaws.{Walking, walking_start, walking_on, bar_of, bars_ahead, ahead_all, ahead_last, ahead_more, ahead_some, ahead_end}
use Rattle.laws.proofs.BarLaws.{bar_at, bars_last, bars_more}
use Rattle.laws.proofs.Order.{by_lt}
use Rattle.proofread_notes.specs.Columns.{notes_at, Same, Before, Marks}
use Rattle.proofread_notes.proofs.Areas.{same_self, same_then, notes_same, before_later}
use Rattle.proofread_items.specs.Playing.{Heard, last_ok?, closed_with, run, tie_of, chord_of, last_start, heard_of, Paced}
use Rattle.proofread_items.specs.declared.Voice.{Voice}
use Rattle.proofread_items.proofs.Reading.{run_failed}
use Rattle.proofread_items.proofs.Steps.{start_later, start_within}
use Rattle.proofread_voices.specs.Voices.{with_ok, voice_run, silent, voice_ok?, full?, filled?, Fits, NewVoice, ReadsBar, EndsVoice, ReadsVoice}
use Rattle.proofread_voices.proofs.BarItems.{four_cut, four_voice, sum_more, sum_next, sum_part}
use Rattle.proofread_voices.proofs.Steps.{full_is}

-- ---- one bar, over plain lists

-- bars and a staff are to come, and then `goal` is heard
pub record Coming (g n m e p v : ℕ) (ns : List RawNote) (goal : Heard) (bs : List Bar) (st : Staff) (w : List ℕ) (voice : Voice) : Type 0 where
  pub closed : List Played
  pub marks : Marks g n m w closed
  pub same : voice_run p e ns v (heard_of voice closed) bs st ≡ goal

voice_failed : (p e : ℕ) (ns : List RawNote) (v : ℕ) (a : Heard) (bs : List Bar) (st : Staff) → a.ok ≡ false → (voice_run p e ns v a bs st).ok ≡ false
unfolding voice_run
voice_failed p e ns v a [] st h = h
voice_failed p e ns v a (b ∷ bs) [] h = h
voice_failed p e ns v a (b ∷ bs) (bar ∷ st) h =
    voice_failed p e ns v (with_ok (run p e ns a (timed_from p b.start (voice_items v bar))) (filled? p v b (voice_items v bar))) bs st (rw (run_failed p e ns a (timed_from p b.start (voice_items v bar)) h))

-- the items of voice v in the first bar of the counts cs
abbrev items_in : List ℕ → List Item → ℕ → List Item
items_in cs xs v = take (get_or cs v 0) (drop (sum (take v cs)) xs)

-- what is heard after the bar
abbrev after_bar : ℕ → ℕ → List RawNote → ℕ → Heard → Bar → List Item → Heard
after_bar p e ns v a b is = with_ok (run p e ns a (timed_from p b.start is)) (full? p v b.start (b.start + b.len) is)

one_bar : (p e : ℕ) (ns : List RawNote) (v : ℕ) (a : Heard) (b : Bar) (bs : List Bar) (cs : List ℕ) (xs : List Item) → 4 ≤ length cs → v < 4
    → voice_run p e ns v a (b ∷ bs) (by_fours (cut_by cs xs))
    ≡ voice_run p e ns v (after_bar p e ns v a b (items_in cs xs v)) bs (by_fours (cut_by (drop 4 cs) (drop (sum (take 4 cs)) xs)))
unfolding voice_run
one_bar p e ns v a b bs cs xs h l =
    rw (four_cut cs xs h)
    (rw (four_voice cs xs v l, ← full_is p v b (items_in cs xs v)))

module _ {g n m e p v : ℕ} {ns : List RawNote} {goal : Heard} {b : Bar} {bs : List Bar} (cs : List ℕ) (xs : List Item) {w : List ℕ} {voice : Voice}
    (h : 4 ≤ length cs) (l : v < 4)
    (known : notes_at g n m w ≡ ns) (now : Coming g n m e p v ns goal (b ∷ bs) (by_fours (cut_by cs xs)) w voice) where
  coming_fails : {w' : List ℕ} → ReadsBar g n m e p v b.start (b.start + b.len) (items_in cs xs v) w w' voice std.None → goal.ok ≡ false
  coming_fails read =
      sym (ap (λ (a : Heard). a.ok) (sym (one_bar p e ns v (heard_of voice now.closed) b bs cs xs h l) ∙ now.same))
      ∙ voice_failed p e ns v (after_bar p e ns v (heard_of voice now.closed) b (items_in cs xs v)) bs (by_fours (cut_by (drop 4 cs) (drop (sum (take 4 cs)) xs)))
      (rw known at (read.is_read now.closed now.marks))

  coming_goes : {w' : List ℕ} {r : Voice} → ReadsBar g n m e p v b.start (b.start + b.len) (items_in cs xs v) w w' voice (std.Some r)
      → Coming g n m e p v ns goal bs (by_fours (cut_by (drop 4 cs) (drop (sum (take 4 cs)) xs))) w' r
  coming_goes read =
      let held = rw known at (read.is_read.holds now.closed now.marks) in
      record {
        closed = (after_bar p e ns v (heard_of voice now.closed) b (items_in cs xs v)).closed;
        marks = held.marks;
        same =
            ap (λ (a : Heard). voice_run p e ns v a bs (by_fours (cut_by (drop 4 cs) (drop (sum (take 4 cs)) xs)))) held.is
            ∙ sym (one_bar p e ns v (heard_of voice now.closed) b bs cs xs h l) ∙ now.same;
      }

-- ---- the walk

-- the walker's bar is the first of those ahead
first_ahead : {ds ws : List ℕ} {w : Walker} → AtBar ds ws w → (end : ℕ) {limit k : ℕ} → k < limit
    → (tail : List Bar) × (bars_ahead ds ws end (limit - k) w ≡ bar_of w ∷ tail)
first_ahead {ds} {ws} {w} bar end {limit} {k} h =
    let q : limit - k ≡ suc (limit - suc k) = omega arith in
    let t : ℕ = w.start + bar_length w.p (track_meter ds ws w.start) in
    let here : bar_at w.p (track_meter ds ws) w.start ≡ bar_of w = rw (← bar.meter) in
    elim (by_lt t end) [
      | inl o ↦ (
        bars_from (limit - suc k) w.p (track_meter ds ws) end t,
        rw q
            (bars_more (limit - suc k) w.p (track_meter ds ws) end w.start o
            ∙ ap (λ (b : Bar). b ∷ bars_from (limit - suc k) w.p (track_meter ds ws) end t) here),
      )
      | inr o ↦ ([], rw q (bars_last (limit - suc k) w.p (track_meter ds ws) end w.start o ∙ ap (λ (b : Bar). b ∷ []) here))
    ]

-- The staff's arrays as the loop goes through them: the counts from bar `bar` on, the items from item `first` on.
abbrev staff_from : List ℕ → List ℕ → List ℕ → ℕ → ℕ → Staff
staff_from counts hs ks bar first = by_fours (cut_by (drop (4 * bar) counts) (drop first (read_items hs ks)))

abbrev staff_of : List ℕ → List ℕ → List ℕ → Staff
staff_of counts hs ks = read_staff (record { counts = counts; heads = hs; keys = ks })

-- voice v as the rules hear it, cs being the chords of voices read before
abbrev heard_by : List ℕ → List ℕ → ℕ → ℕ → ℕ → List ℕ → List ℕ → List ℕ → ℕ → List RawNote → ℕ → List Played → Heard
heard_by ds ws p end limit counts hs ks e ns v cs = voice_run p e ns v (silent cs) (bars_in limit p (events_of ds ws) end) (staff_of counts hs ks)

module _ (ds ws : List ℕ) (p end limit : ℕ) (counts hs ks : List ℕ) (g n m e v : ℕ) (w₀ : List ℕ) where
  -- `bar` bars are past, and the walker is at the next
  pub record Along (walker : Walker) (bar first : ℕ) (w : List ℕ) (voice : Voice) : Type 0 where
    pub walking : Walking ds ws p walker
    pub counted : 4 * bar + 4 * length (bars_ahead ds ws end (limit - bar) walker) ≡ length counts
    pub passed : first ≡ sum (take (4 * bar) counts)
    pub area : Same n w₀ w
    pub within : voice.from ≤ m
    pub before : Before g n w voice.from (last_start 0 voice.chord)
    pub reached : last_start walker.start voice.chord ≤ walker.start
    pub ticked : last_start voice.tick voice.chord ≤ voice.tick
    pub hears : (cs : List Played) → Marks g n m w₀ cs
        → Coming g n m e p v (notes_at g n m w₀) (heard_by ds ws p end limit counts hs ks e (notes_at g n m w₀) v cs)
        (bars_ahead ds ws end (limit - bar) walker) (staff_from counts hs ks bar first) w voice

  -- all bars are past
  pub record Past (w : List ℕ) (voice : Voice) : Type 0 where
    pub area : Same n w₀ w
    pub within : voice.from ≤ m
    pub before : Before g n w voice.from (last_start 0 voice.chord)
    pub ticked : last_start voice.tick voice.chord ≤ voice.tick
    pub hears : (cs : List Played) → Marks g n m w₀ cs
        → Coming g n m e p v (notes_at g n m w₀) (heard_by ds ws p end limit counts hs ks e (notes_at g n m w₀) v cs) [] [] w voice

module _ {ds ws : List ℕ} {p end limit : ℕ} {counts hs ks : List ℕ} {g n m e v : ℕ} {w₀ : List ℕ} where
  pub along_start : {walker : Walker} {voice : Voice} → Fits (bars_in limit p (events_of ds ws) end) counts hs ks
      → Settled ds ws (first_walker ds ws p) walker → NewVoice voice
      → Along ds ws p end limit counts hs ks g n m e v w₀ walker 0 0 w₀ voice
  unfolding sum
  along_start {walker} {voice} fits s new =
      let all = ahead_all end limit p s in
      record {
        walking = walking_start s;
        counted = omega (arith, ap length all, fits.bars);
        passed = refl;
        area = same_self n w₀;
        within = omega (arith, new.from);
        before = record { earlier = λ j h. absurd (omega (arith, new.from)) };
        reached = start_within 0 walker.start voice.chord (omega (arith, new.start));
        ticked = start_within 0 voice.tick voice.chord (omega (arith, new.start));
        hears = λ cs c. record { closed = cs; marks = c; same = rw (new.is cs, all) };
      }

  module _ {walker : Walker} {bar first : ℕ} {w : List ℕ} {voice : Voice}
      (now : Along ds ws p end limit counts hs ks g n m e v w₀ walker bar first w voice) where
    pub along_end : limit ≤ bar → Past ds ws p end limit counts hs ks g n m e v w₀ w voice
    unfolding voice_run
    along_end h =
        record {
          area = now.area;
          within = now.within;
          before = now.before;
          ticked = now.ticked;
          hears =
              λ cs c.
              let x = now.hears cs c in
              record { closed = x.closed; marks = x.marks; same = rw (ahead_end ds ws walker end h) at x.same };
        }

    module _ (some_left : bar < limit) where
      pub four_left : 4 * bar + 4 ≤ length counts
      four_left = omega (arith, now.counted, ahead_some now.walking.bar end some_left)

      -- the items of the voice in the bar lie in the arrays
      pub items_fit : Fits (bars_in limit p (events_of ds ws) end) counts hs ks → v < 4
          → first + sum (take v (drop (4 * bar) counts)) + get_or counts (4 * bar + v) 0 ≤ length hs
      items_fit fits l =
          omega (
            arith,
            now.passed,
            sum_next counts (4 * bar) (v + 1),
            sum_more counts (4 * bar) v (omega (arith, four_left)),
            sum_part counts (4 * bar + (v + 1)),
            fits.heads_fit,
          )

      pub four_fit : Fits (bars_in limit p (events_of ds ws) end) counts hs ks → first + sum (take 4 (drop (4 * bar) counts)) ≤ length hs
      four_fit fits = omega (arith, now.passed, sum_next counts (4 * bar) 4, sum_part counts (4 * bar + 4), fits.heads_fit)

      -- the items of the voice in the bar
      abbrev here : List Item
      here = take (get_or counts (4 * bar + v) 0) (drop (first + sum (take v (drop (4 * bar) counts))) (read_items hs ks))

      module _ (room : m ≤ n) (l : v < 4) where
        is_here : here ≡ items_in (drop (4 * bar) counts) (drop first (read_items hs ks)) v
        is_here = rw (get_or-drop, drop-drop)

        is_next : by_fours (cut_by (drop 4 (drop (4 * bar) counts)) (drop (sum (take 4 (drop (4 * bar) counts))) (drop first (read_items hs ks))))
            ≡ staff_from counts hs ks (bar + 1) (first + sum (take 4 (drop (4 * bar) counts)))
        is_next = let q : 4 * bar + 4 ≡ 4 * (bar + 1) = omega arith in rw (drop-drop, drop-drop, q)

        read_here : {w' : List ℕ} {r : std.Option Voice} → ReadsBar g n m e p v walker.start (next_of walker).start here w w' voice r
            → ReadsBar g n m e p v walker.start (next_of walker).start (items_in (drop (4 * bar) counts) (drop first (read_items hs ks)) v) w w' voice r
        read_here {w'} {r} read = subst (λ (is : List Item). ReadsBar g n m e p v walker.start (next_of walker).start is w w' voice r) is_here read

        known : notes_at g n m w ≡ notes_at g n m w₀
        known = notes_same now.area g m room

        four : 4 ≤ length (drop (4 * bar) counts)
        four = simp length-drop (omega (arith, four_left))

        -- what was to come, its first bar named
        first_here : (tail : List Bar) → bars_ahead ds ws end (limit - bar) walker ≡ bar_of walker ∷ tail → (cs : List Played) → Marks g n m w₀ cs
            → Coming g n m e p v (notes_at g n m w₀) (heard_by ds ws p end limit counts hs ks e (notes_at g n m w₀) v cs) (bar_of walker ∷ tail)
            (staff_from counts hs ks bar first) w voice
        first_here tail q cs c =
            subst (λ (bs : List Bar). Coming g n m e p v (notes_at g n m w₀) (heard_by ds ws p end limit counts hs ks e (notes_at g n m w₀) v cs) bs
            (staff_from counts hs ks bar first) w voice)
            q (now.hears cs c)

        -- and what is to come after it
        rest_here : {w' : List ℕ} {r : Voice} → ReadsBar g n m e p v walker.start (next_of walker).start here w w' voice (std.Some r)
            → (tail : List Bar) → bars_ahead ds ws end (limit - bar) walker ≡ bar_of walker ∷ tail → (cs : List Played) → Marks g n m w₀ cs
            → Coming g n m e p v (notes_at g n m w₀) (heard_by ds ws p end limit counts hs ks e (notes_at g n m w₀) v cs) tail
            (staff_from counts hs ks (bar + 1) (first + sum (take 4 (drop (4 * bar) counts)))) w' r
        rest_here {w'} {r} read tail q cs c =
            subst
            (λ (st : Staff). Coming g n m e p v (notes_at g n m w₀) (heard_by ds ws p end limit counts hs ks e (notes_at g n m w₀) v cs) tail st w' r)
            is_next
            (coming_goes (drop (4 * bar) counts) (drop first (read_items hs ks)) four l known (first_here tail q cs c) (read_here read))

        pub along_fails : {w' : List ℕ} → ReadsBar g n m e p v walker.start (next_of walker).start here w w' voice std.None
            → ReadsVoice g n m e p v (bars_in limit p (events_of ds ws) end) (staff_of counts hs ks) w₀ w' false
        along_fails read =
            let t = first_ahead now.walking.bar end some_left in
            record {
              same = same_then now.area read.same;
              ok = λ cs c. rw (coming_fails (drop (4 * bar) counts) (drop first (read_items hs ks)) four l known (first_here t.0 t.1 cs c) (read_here read));
              marks = λ y. absurd (true≢false (sym y));
            }

        pub along_last : {w' : List ℕ} {r : Voice} → ReadsBar g n m e p v walker.start (next_of walker).start here w w' voice (std.Some r) → end ≤ (next_of walker).start → Past ds ws p end limit counts hs ks g n m e v w₀ w' r
        unfolding voice_run
        along_last read last =
            record {
              area = same_then now.area read.same;
              within = read.is_read.within;
              before = read.is_read.stays 0 now.before;
              ticked = read.is_read.ticked;
              hears =
                  λ cs c.
                  let x = rest_here read [] (ahead_last now.walking.bar end some_left last) cs c in
                  record { closed = x.closed; marks = x.marks; same = x.same };
            }

        pub along_more : {next : Walker} {w' : List ℕ} {r : Voice} → ReadsBar g n m e p v walker.start (next_of walker).start here w w' voice (std.Some r) → end < 2 ^ 48 → Settled ds ws (next_of walker) next → (next_of walker).start < end
            → Along ds ws p end limit counts hs ks g n m e v w₀ next (bar + 1) (first + sum (take 4 (drop (4 * bar) counts))) w' r
        along_more {next} {r = r} read small s on =
            let step = ahead_more now.walking.bar end some_left s on in
            record {
              walking = walking_on now.walking s end small on;
              counted = omega (arith, now.counted, ap length step);
              passed =
                  let q : 4 * (bar + 1) ≡ 4 * bar + 4 = omega arith in
                  rw q (sym (sum_next counts (4 * bar) 4 ∙ ap (λ (x : ℕ). x + sum (take 4 (drop (4 * bar) counts))) (sym now.passed)));
              area = same_then now.area read.same;
              within = read.is_read.within;
              before = read.is_read.stays 0 now.before;
              reached = start_within (next_of walker).start next.start r.chord (omega (arith, read.is_read.reached, s.same.start));
              ticked = read.is_read.ticked;
              hears = rest_here read (bars_ahead ds ws end (limit - (bar + 1)) next) step;
            }

  pub past_paced : {w : List ℕ} {voice : Voice} → Past ds ws p end limit counts hs ks g n m e v w₀ w voice → Paced g n m w voice
  past_paced {voice = voice} x = record { within = x.within; before = before_later (start_later 0 voice.tick voice.chord (omega arith)) x.before; reached = x.ticked }

  -- ---- the voice's end
  module _ {w w' : List ℕ} {voice : Voice} {r : Bool} (room : m ≤ n) (past : Past ds ws p end limit counts hs ks g n m e v w₀ w voice)
      (ends : EndsVoice g n m e w w' voice r) where
    known_end : notes_at g n m w ≡ notes_at g n m w₀
    known_end = notes_same past.area g m room

    is_heard : (cs : List Played) (c : Marks g n m w₀ cs)
        → heard_of voice (past.hears cs c).closed ≡ heard_by ds ws p end limit counts hs ks e (notes_at g n m w₀) v cs
    unfolding voice_run
    is_heard cs c = (past.hears cs c).same

    pub voice_ends : ReadsVoice g n m e p v (bars_in limit p (events_of ds ws) end) (staff_of counts hs ks) w₀ w' r
    voice_ends =
        record {
          same = same_then past.area ends.same;
          ok =
              λ cs c.
              rw known_end at ends.ok ∙ the_end cs c;
          marks =
              λ y cs c.
              subst (λ (a : Heard). Marks g n m w' (closed_with a.chord a.closed)) (is_heard cs c)
              (ends.marks y (past.hears cs c).closed (past.hears cs c).marks);
        }
      where
        the_end : (cs : List Played) (c : Marks g n m w₀ cs)
            → (free_at? e (tie_of voice) && last_ok? e (notes_at g n m w₀) (chord_of voice) e)
            ≡ voice_ok? e (notes_at g n m w₀) (heard_by ds ws p end limit counts hs ks e (notes_at g n m w₀) v cs)
        the_end cs c = ap (voice_ok? e (notes_at g n m w₀)) (is_heard cs c)
