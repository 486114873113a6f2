-- A staff half written: the bars up to a walker's, and those ahead of it.
use Prim.Native.Nat.{ℕ, suc, ◌+◌, ◌-◌, ◌*◌, ◌≤◌, ◌<◌, ◌^◌}
use mathlib.Core.Bool.{Bool, true}
use mathlib.Core.List.{List, [], ◌∷◌, ◌++◌, map, flatten, append-nil, append_assoc}
use mathlib.Core.Path.{◌≡◌, refl, sym, ap, subst, ◌∙◌}
use native.Mathlib.Nat.{zero-add}
use native.Mathlib.Omega.{arith}
use lib.ListN.{length, get_or, drop, replicate, get_or-replicate, length-append, length-map}
use Rattle.rules.specs.Bars.{Bar, bar_end, bar_length, bars_from}
use Rattle.rules.specs.Changes.{Meter}
use Rattle.rules.specs.Items.{Item, items_of, arrays_of, head_of}
use Rattle.rules.specs.Staff.{staff_of, leftovers_of}
use Rattle.rules.specs.Voices.{Chord}
use Rattle.track_events.specs.Track.{events_of}
use Rattle.laws.proofs.BarLaws.{meter_small, bar_short}
use Rattle.laws.proofs.Leftovers.{leftovers_length}
use Rattle.laws.proofs.Places.{up_to_length}
use Rattle.bar_walk.specs.declared.Walker.{Walker}
use Rattle.bar_walk.specs.Steps.{meter_in, next_of}
use Rattle.bar_walk.specs.Walk.{first_walker, AtBar, Settled}
use Rattle.bar_walk.proofs.WalkLaws.{bar_of, bars_ahead, Walking, walking_start, walking_on, ahead_last, ahead_more, ahead_end, ahead_all}
use Rattle.items.specs.declared.Measure.{Measure}
use Rattle.items.specs.Putting.{Put}
use Rattle.items.specs.Writing.{Room, Items}
use Rattle.items.proofs.Putting.{put_none, put_length, put_append}
use Rattle.items.proofs.Appending.{keys_length, items_none, items_append, heads_kept, keys_kept}
use Rattle.staff.specs.declared.Engraving.{Engraving}
use Rattle.bar_voice.specs.Voices.{voice_of}
use Rattle.staff.specs.Bars.{voices_of, VoicesHeld, bar_voices, bar_lefts, AllPast, CanPush, BarPut}
use Rattle.staff.specs.Staffs.{bars_of, StaffRoom, StaffPut}
use Rattle.bar_voice.proofs.VoiceWalk.{past_later, past_none}
use Rattle.staff.proofs.StaffSizes.{bar_voices_lem, bar_lefts_lem, counts_more, items_more, leftovers_more, voices_part, items_part}
use Rattle.staff.proofs.StaffSizes.{counts_length, bar_few}

-- the walker's bar, from its start to its end
abbrev pub measure_of : Walker → Measure
measure_of a = record { start = a.start; end = a.start + bar_length a.p (meter_in a) }

-- the walker's bar is the first of those ahead
ahead_first : {ds ws : List ℕ} {a : Walker} → AtBar ds ws a → (end limit n : ℕ) → n < limit
    → bars_ahead ds ws end (limit - n) a ≡ bar_of a ∷ drop 1 (bars_ahead ds ws end (limit - n) a)
unfolding bars_from
ahead_first {ds} {ws} {a} bar end limit n h =
    let one : limit - n ≡ suc (limit - (n + 1)) = omega arith in
    rw one (rw (← bar.meter))

module _ (write : Bool) (ds ws : List ℕ) (end limit p n : ℕ) (w lens : List ℕ) (counts₀ heads₀ keys₀ leftovers₀ : List ℕ) where
  abbrev all : List Bar
  all = bars_of ds ws p end limit

  abbrev vs : List (List Chord)
  vs = voices_of n w lens

  four_voices : length vs ≡ 4
  four_voices = up_to_length (λ v. voice_of n w v (get_or lens v 0)) 4

  -- these bars are written
  pub record Written (done : List Bar) (counts₁ heads₁ keys₁ leftovers₁ : List ℕ) (s : Engraving) : Type 0 where
    pub many : s.bars ≡ length done
    pub items : Items write (items_of (staff_of p vs done)) 0 heads₀ keys₀ heads₁ keys₁ s.items
    pub counts : Put write (arrays_of (staff_of p vs done)).counts 0 counts₀ counts₁
    pub leftovers : Put write (leftovers_of p vs done) 0 leftovers₀ leftovers₁

  -- all bars are
  finished : {counts₁ heads₁ keys₁ leftovers₁ : List ℕ} {s : Engraving} → Written all counts₁ heads₁ keys₁ leftovers₁ s
      → StaffPut write all (staff_of p vs all) (leftovers_of p vs all) counts₀ heads₀ keys₀ leftovers₀ counts₁ heads₁ keys₁ leftovers₁ s
  finished d =
      record {
        bars = d.many;
        items = d.items.next ∙ zero-add _;
        counts = d.counts;
        heads = d.items.heads;
        keys = d.items.keys;
        leftovers = d.leftovers;
      }

  -- and the walker is at the next
  pub record Onward (counts₁ heads₁ keys₁ leftovers₁ : List ℕ) (a : Walker) (s : Engraving) : Type 0 where
    pub done : List Bar
    pub written : Written done counts₁ heads₁ keys₁ leftovers₁ s
    pub walking : Walking ds ws p a
    pub whole : done ++ bars_ahead ds ws end (limit - s.bars) a ≡ all
    pub few : s.items ≤ 4 * a.start
    pub four : length s.nexts ≡ 4
    pub nexts : AllPast n w lens a.start s.nexts

  pub onward_start : {a : Walker} → Settled ds ws (first_walker ds ws p) a
      → Onward counts₀ heads₀ keys₀ leftovers₀ a (record { bars = 0; items = 0; nexts = replicate 4 0 })
  unfolding flatten
  onward_start {a} s =
      record {
        done = [];
        written =
            record {
              many = refl;
              items = items_none write 0 heads₀ keys₀;
              counts = put_none write 0 counts₀;
              leftovers = put_none write 0 leftovers₀;
            };
        walking = walking_start s;
        whole = ahead_all end limit p s;
        few = omega arith;
        four = refl;
        nexts = λ v h. rw (get_or-replicate {A = ℕ} 4 v 0 0 h) (past_none a.start (voice_of n w v (get_or lens v 0)));
      }

  module _ (room : StaffRoom write (staff_of p vs all) (leftovers_of p vs all) counts₀ heads₀ keys₀ leftovers₀) where
    -- the first bars have room
    module _ (done rest : List Bar) (whole : done ++ rest ≡ all) where
      counts_fit : write ≡ true → 0 + length (arrays_of (staff_of p vs done)).counts ≤ length counts₀
      counts_fit e =
          let l = rw whole at (voices_part p vs done rest) in
          let count = length {A = Item} in
          omega (arith, l, room.counts_fit e, length-map (flatten (staff_of p vs done)) count, length-map (flatten (staff_of p vs all)) count)

      leftovers_fit : write ≡ true → 0 + length (leftovers_of p vs done) ≤ length leftovers₀
      leftovers_fit e =
          omega (
            arith,
            leftovers_length p vs four_voices done,
            leftovers_length p vs four_voices all,
            length-append done rest,
            ap length whole,
            room.leftovers_fit e,
          )

      items_fit : length (items_of (staff_of p vs done)) < 2 ^ 60 → Room write (length (items_of (staff_of p vs done))) 0 heads₀ keys₀
      items_fit small =
          let l = rw whole at (items_part p vs done rest) in
          record {
            heads_fit = λ e. omega (arith, l, room.heads_fit e, length-map (items_of (staff_of p vs all)) head_of);
            keys_fit = λ e. omega (arith, l, room.keys_fit e, keys_length (items_of (staff_of p vs all)));
            small = omega (arith, small);
          }

    module _ (held : VoicesHeld n w lens) (ticks : p ≤ 65535) {counts₁ heads₁ keys₁ leftovers₁ : List ℕ} {a : Walker} {s : Engraving}
        (o : Onward counts₁ heads₁ keys₁ leftovers₁ a s) where
      abbrev rest : List Bar
      rest = bars_ahead ds ws end (limit - s.bars) a

      -- the walker's bar has a length, and not too great a one
      short : bar_length a.p (meter_in a) < 2 ^ 27
      short =
          omega (
            arith,
            o.walking.ticks,
            bar_short a.p (meter_in a) (subst (λ (m : Meter). m.upper < 256) (sym o.walking.bar.meter) (meter_small (events_of ds ws) a.start)),
          )

      some_length : 0 < bar_length a.p (meter_in a)
      some_length = omega arith

      pub onward_end_soon : a.start + bar_length a.p (meter_in a) < 2 ^ 49
      onward_end_soon = omega (arith, short, o.walking.start)

      early : length (items_of (staff_of p vs o.done)) < 2 ^ 60
      early = omega (arith, o.few, o.walking.start, o.written.items.next)

      so_far : Room write (length (items_of (staff_of p vs o.done))) 0 heads₀ keys₀
      so_far = items_fit o.done rest o.whole early

      -- the outputs keep their lengths
      pub onward_counts : length counts₁ ≡ length counts₀
      onward_counts = put_length write (counts_fit o.done rest o.whole) o.written.counts

      pub onward_heads : length heads₁ ≡ length heads₀
      onward_heads = heads_kept so_far o.written.items

      pub onward_keys : length keys₁ ≡ length keys₀
      onward_keys = keys_kept so_far o.written.items

      pub onward_leftovers : length leftovers₁ ≡ length leftovers₀
      onward_leftovers = put_length write (leftovers_fit o.done rest o.whole) o.written.leftovers

      module _ (more : s.bars < limit) where
        -- the bars written, the walker's, and those behind it
        next : (o.done ++ (bar_of a ∷ [])) ++ drop 1 rest ≡ all
        next =
            append_assoc o.done (bar_of a ∷ []) (drop 1 rest)
            ∙ ap (λ (l : List Bar). o.done ++ l) (sym (ahead_first o.walking.bar end limit s.bars more)) ∙ o.whole

        abbrev here : List (List Item)
        here = bar_voices p n w lens a.start (bar_end (bar_of a))

        few_here : length (flatten here) ≤ 4 * bar_length a.p (meter_in a)
        few_here = omega (arith, bar_few p n w lens {b = a.start} {e = bar_end (bar_of a)} (omega (arith, some_length)) held)

        items_here : items_of (staff_of p vs (o.done ++ (bar_of a ∷ []))) ≡ items_of (staff_of p vs o.done) ++ flatten here
        items_here = items_more p vs o.done (bar_of a) ∙ rw (bar_voices_lem p n w lens (bar_of a))

        counts_here : (arrays_of (staff_of p vs (o.done ++ (bar_of a ∷ [])))).counts ≡ (arrays_of (staff_of p vs o.done)).counts ++ map length here
        counts_here = counts_more p vs o.done (bar_of a) ∙ rw (bar_voices_lem p n w lens (bar_of a))

        leftovers_here :
            leftovers_of p vs (o.done ++ (bar_of a ∷ [])) ≡ leftovers_of p vs o.done ++ bar_lefts p n w lens a.start (bar_end (bar_of a))
        leftovers_here = leftovers_more p vs o.done (bar_of a) ∙ rw (bar_lefts_lem p n w lens (bar_of a))

        all_items : length (items_of (staff_of p vs (o.done ++ (bar_of a ∷ [])))) ≡ s.items + length (flatten here)
        all_items = ap length items_here ∙ length-append (items_of (staff_of p vs o.done)) (flatten here) ∙ omega (arith, o.written.items.next)

        with_here : Room write (length (items_of (staff_of p vs (o.done ++ (bar_of a ∷ []))))) 0 heads₀ keys₀
        with_here = items_fit (o.done ++ (bar_of a ∷ [])) (drop 1 rest) next (omega (arith, all_items, few_here, o.few, o.walking.start, short))

        -- what `push_bar` asks
        pub onward_can : limit < 2 ^ 32 → CanPush write p n w lens (measure_of a) s counts₁ heads₁ keys₁ leftovers₁
        onward_can l =
            record {
              some_bar = omega (arith, some_length);
              short = omega (arith, short);
              four = o.four;
              nexts = o.nexts;
              few = omega arith;
              counts_fit =
                  λ e.
                  omega (
                    arith,
                    counts_fit (o.done ++ (bar_of a ∷ [])) (drop 1 rest) next e,
                    counts_length p vs four_voices (o.done ++ (bar_of a ∷ [])),
                    length-append o.done (bar_of a ∷ []),
                    o.written.many,
                    onward_counts,
                  );
              leftovers_fit =
                  λ e.
                  omega (
                    arith,
                    leftovers_fit (o.done ++ (bar_of a ∷ [])) (drop 1 rest) next e,
                    leftovers_length p vs four_voices (o.done ++ (bar_of a ∷ [])),
                    length-append o.done (bar_of a ∷ []),
                    o.written.many,
                    onward_leftovers,
                  );
              room =
                  record {
                    heads_fit = λ e. omega (arith, with_here.heads_fit e, all_items, onward_heads);
                    keys_fit = λ e. omega (arith, with_here.keys_fit e, all_items, onward_keys);
                    small = omega (arith, with_here.small, all_items);
                  };
            }

        module _ {counts₂ heads₂ keys₂ leftovers₂ : List ℕ} {r : Engraving}
            (put : BarPut write p n w lens (measure_of a) s counts₁ heads₁ keys₁ leftovers₁ counts₂ heads₂ keys₂ leftovers₂ r) where
          -- the walker's bar is written too
          one_more : Written (o.done ++ (bar_of a ∷ [])) counts₂ heads₂ keys₂ leftovers₂ r
          one_more =
              record {
                many = put.bars ∙ sym (length-append o.done (bar_of a ∷ []) ∙ omega (arith, o.written.many));
                items = rw items_here (items_append so_far o.written.items put.items);
                counts = rw counts_here (put_append write (counts_fit o.done rest o.whole) o.written.counts (rw place at put.counts));
                leftovers =
                    rw leftovers_here
                    (put_append write (leftovers_fit o.done rest o.whole) o.written.leftovers (rw left_place at put.leftovers));
              }
            where
              place : 4 * s.bars ≡ 0 + length (arrays_of (staff_of p vs o.done)).counts
              place = omega (arith, counts_length p vs four_voices o.done, o.written.many)

              left_place : 4 * s.bars ≡ 0 + length (leftovers_of p vs o.done)
              left_place = omega (arith, leftovers_length p vs four_voices o.done, o.written.many)

          -- another bar follows
          pub onward_more : {a' : Walker} → Settled ds ws (next_of a) a' → end < 2 ^ 48 → (next_of a).start < end
              → Onward counts₂ heads₂ keys₂ leftovers₂ a' r
          onward_more {a'} settled small later =
              let start : a'.start ≡ a.start + bar_length a.p (meter_in a) = settled.same.start in
              record {
                done = o.done ++ (bar_of a ∷ []);
                written = one_more;
                walking = walking_on o.walking settled end small later;
                whole =
                    rw put.bars (append_assoc o.done (bar_of a ∷ []) (bars_ahead ds ws end (limit - (s.bars + 1)) a')
                    ∙ ap (λ (l : List Bar). o.done ++ l) (sym (ahead_more o.walking.bar end more settled later)) ∙ o.whole);
                few = omega (arith, start, few_here, o.few, put.items.next);
                four = put.four;
                nexts = λ v h. past_later (put.nexts v h) (omega arith);
              }

          -- it was the last
          pub onward_last : end ≤ (next_of a).start
              → StaffPut write all (staff_of p vs all) (leftovers_of p vs all) counts₀ heads₀ keys₀ leftovers₀ counts₂ heads₂ keys₂ leftovers₂ r
          onward_last last =
              let is : o.done ++ (bar_of a ∷ []) ≡ all = ap (λ (l : List Bar). o.done ++ l) (sym (ahead_last o.walking.bar end more last)) ∙ o.whole in
              finished (rw is at one_more)

      -- the limit is reached
      pub onward_end : limit ≤ s.bars
          → StaffPut write all (staff_of p vs all) (leftovers_of p vs all) counts₀ heads₀ keys₀ leftovers₀ counts₁ heads₁ keys₁ leftovers₁ s
      onward_end h =
          let is : o.done ≡ all = sym (append-nil o.done) ∙ ap (λ (l : List Bar). o.done ++ l) (sym (ahead_end ds ws a end h)) ∙ o.whole in
          finished (rw is at o.written)
