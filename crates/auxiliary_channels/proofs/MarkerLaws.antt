-- The array of bases after the markers read so far: what it holds was marked, and unless there is a clash, every marker is held.
use Prim.Native.Nat.{ℕ, suc, ◌+◌, ◌<◌}
use mathlib.Core.Bool.{true, false≢true, and-eq-true_iff}
use mathlib.Core.List.Memᴰ
use mathlib.Core.List.{List, [], ◌∷◌, ◌++◌, map, foldl, append-nil, Memᴰ}
use mathlib.Core.Logic.{inl, inr, ⊎_elim}
use mathlib.Core.Path.{◌≡◌, refl, sym, ap, ◌∙◌, subst}
use native.Mathlib.Omega.{arith}
use borrow.Author.Tests.{leb-true, eq-eqb, ne_eqb}
use lib.ListN.{length, get_or, set, length-set, get_or-replicate}
use lib.Seq.{get_or-set_same, get_or-set_other, append_snoc}
use Rattle.std.specs.Prelude.{Option, None, Some}
use Rattle.rules.specs.Lists.{keep}
use Rattle.rules.specs.Piece.{timed, byte_a, byte_b, is_kind}
use Rattle.rules.specs.Automation.{Marker, counts?, markers}
use Rattle.laws.proofs.Order.{by_bool, by_eq}
use Rattle.track_events.specs.Track.{Track, events_of}
use Rattle.auxiliary_channels.specs.declared.Pairs.{Pairs}
use Rattle.auxiliary_channels.specs.Markers.{marker, at_base, Channels, no_pairs, added_to, added, then_taken, pairs_of}

-- a marker that the array holds
pub record Held (bases : List (Option ℕ)) (m : Marker) : Type 0 where
  pub spare : m.spare < 16
  pub base : m.base < 16
  pub is : get_or bases m.spare None ≡ Some m.base

-- two markers give one spare two bases
pub record Two (ms : List Marker) (m n : Marker) : Type 0 where
  pub first : Memᴰ m ms
  pub second : Memᴰ n ms
  pub spare : m.spare ≡ n.spare
  pub bases : m.base ≡ n.base → ⊥

pub record Noted (ms : List Marker) (q : Pairs) : Type 0 where
  pub size : length q.bases ≡ 16
  pub channels : Channels q.bases
  pub marked : (s b : ℕ) → s < 16 → get_or q.bases s None ≡ Some b → Memᴰ (marker b s) ms
  pub held : (m : Marker) → Memᴰ m ms → Held q.bases m

-- what the answer says of the markers
abbrev pub Known : List Marker → Option Pairs → Type 0
Known ms None = (m : Marker) × (n : Marker) × Two ms m n
Known ms (Some q) = Noted ms q

none_some : {b : ℕ} → ◌≡◌ {A = Option ℕ} None (Some b) → ⊥
none_some e = false≢true (ap (at_base (λ b. true)) e)

pub some_same : {a b : ℕ} → Some a ≡ Some b → a ≡ b
some_same {a} e = ap (λ (o : Option ℕ). elim o [ None ↦ a | Some x ↦ x ]) e

noted_none : Noted [] no_pairs
noted_none =
    record {
      size = refl;
      channels = record { below = λ s b h e. absurd (none_some (sym (get_or-replicate 16 s None None h) ∙ e)) };
      marked = λ s b h e. absurd (none_some (sym (get_or-replicate 16 s None None h) ∙ e));
      held = λ m i. absurd (Memᴰ.not-nil i);
    }

-- ---- one marker more

two_more : {ms : List Marker} (ns : List Marker) → Known ms None → Known (ms ++ ns) None
two_more ns k =
    let (m, n, t) = k in
    (m, n, record { first = Memᴰ.append_left _ t.first; second = Memᴰ.append_left _ t.second; spare = t.spare; bases = t.bases })

module _ {ms : List Marker} {q : Pairs} (b s : ℕ) (hb : b < 16) (hs : s < 16) (noted : Noted ms q) where
  more : List Marker
  more = ms ++ (marker b s ∷ [])

  new : Memᴰ (marker b s) more
  unfolding more
  new = Memᴰ.append_right ms (Memᴰ.head refl)

  -- every marker is held if the old ones and the new one are
  held_more : (bases : List (Option ℕ)) → ((m : Marker) → Memᴰ m ms → Held bases m) → Held bases (marker b s) → (m : Marker) → Memᴰ m more → Held bases m
  unfolding more
  held_more bases old here m i =
      ⊎_elim (λ j. old m j) (λ j. subst (Held bases) (sym (Memᴰ.eq_of_singleton j)) here) (Memᴰ.append_cases ms i)

  noted_same : get_or q.bases s None ≡ Some b → Noted more q
  unfolding more
  noted_same e =
      record {
        size = noted.size;
        channels = noted.channels;
        marked = λ t d h l. Memᴰ.append_left _ (noted.marked t d h l);
        held = held_more q.bases noted.held (record { spare = hs; base = hb; is = e });
      }

  noted_clash : {a : ℕ} → get_or q.bases s None ≡ Some a → (a ≡ b → ⊥) → Known more None
  unfolding more
  noted_clash {a} l ne = (
    marker a s,
    marker b s,
    record { first = Memᴰ.append_left _ (noted.marked s a hs l); second = new; spare = refl; bases = ne },
  )

  noted_set : get_or q.bases s None ≡ None → Noted more (record { bases = set q.bases s (Some b) })
  unfolding more
  noted_set free =
      record {
        size = length-set q.bases s (Some b) ∙ noted.size;
        channels = record { below = λ t d h l. elim (by_eq t s) [ inl e ↦ rw (← some_same (sym (there t e) ∙ l)) hb | inr ne ↦ noted.channels.below t d h (sym (old t ne) ∙ l) ] };
        marked = λ t d h l. elim (by_eq t s) [
          | inl e ↦ rw (e, ← some_same (sym (there t e) ∙ l)) new
          | inr ne ↦ Memᴰ.append_left _ (noted.marked t d h (sym (old t ne) ∙ l))
        ];
        held = held_more (set q.bases s (Some b)) (λ m i.
            let h = noted.held m i in
            let other : m.spare ≡ s → ⊥ = (λ e. none_some (sym free ∙ (rw e at h.is))) in
            record { spare = h.spare; base = h.base; is = old m.spare other ∙ h.is })
            (record { spare = hs; base = hb; is = there s refl });
      }
    where
      there : (t : ℕ) → t ≡ s → get_or (set q.bases s (Some b)) t None ≡ Some b
      there t e = rw e (get_or-set_same q.bases s (Some b) None (omega (arith, noted.size)))

      old : (t : ℕ) → (t ≡ s → ⊥) → get_or (set q.bases s (Some b)) t None ≡ get_or q.bases t None
      old t ne = get_or-set_other q.bases s t (Some b) None ne

  noted_added : Known more (added q b s)
  noted_added = go (get_or q.bases s None) refl
    where
      go : (o : Option ℕ) → get_or q.bases s None ≡ o → Known more (added_to o q b s)
      go None e = noted_set e
      go (Some a) e =
          elim (by_eq a b) [
            | inl same ↦ rw (eq-eqb _ _ same) (noted_same (e ∙ ap Some same))
            | inr ne ↦ rw (ne_eqb _ _ ne) (noted_clash e ne)
          ]

-- ---- all markers

pub pair_below : (b s : ℕ) → counts? (marker b s) ≡ true → (b < 16) × (s < 16)
pair_below b s h =
    let both = (and-eq-true_iff _ _).0 ((and-eq-true_iff _ _).0 h).0 in
    (omega (arith, leb-true b 15 both.0), omega (arith, leb-true s 15 both.1))

-- the markers of a track's words
abbrev markers_in : List ℕ → List Marker
markers_in ws = keep counts? (map (λ (w : ℕ). marker (byte_a w) (byte_b w)) (keep (is_kind 5) ws))

markers_words : (n t : ℕ) (ds ws : List ℕ) → length ws ≡ length ds → markers (timed n t ds ws) ≡ markers_in ws
unfolding timed keep
markers_words n t [] [] e = refl
markers_words n t [] (w ∷ ws) e = absurd (omega arith)
markers_words n t (d ∷ ds) [] e = absurd (omega arith)
markers_words n t (d ∷ ds) (w ∷ ws) e =
    let rest = markers_words (suc n) (t + d) ds ws (omega arith) in
    elim (by_bool (is_kind 5 w)) [ inl k ↦ rw (k, rest) | inr k ↦ rw (k, rest) ]

-- one word more, where what follows it is known for whatever was read before
known_word : (w : ℕ) (ws : List ℕ) → ((ms : List Marker) (q : Option Pairs) → Known ms q → Known (ms ++ markers_in ws) (foldl then_taken q ws))
    → (ms : List Marker) (q : Option Pairs) → Known ms q → Known (ms ++ markers_in (w ∷ ws)) (foldl then_taken q (w ∷ ws))
unfolding keep more
known_word w ws rest ms None known =
    elim (by_bool (is_kind 5 w)) [
      | inr k ↦ rw k (rest ms None known)
      | inl k ↦
          elim (by_bool (counts? (marker (byte_a w) (byte_b w)))) [
            | inr c ↦ rw (k, c) (rest ms None known)
            | inl c ↦ rw (k, c, ← append_snoc) (rest _ None (two_more _ known))
          ]
    ]
known_word w ws rest ms (Some q) noted =
    elim (by_bool (is_kind 5 w)) [
      | inr k ↦ rw k (rest ms (Some q) noted)
      | inl k ↦
          elim (by_bool (counts? (marker (byte_a w) (byte_b w)))) [
            | inr c ↦ rw (k, c) (rest ms (Some q) noted)
            | inl c ↦
                let (hb, hs) = pair_below (byte_a w) (byte_b w) c in
                rw (k, c, ← append_snoc) (rest _ _ (noted_added (byte_a w) (byte_b w) hb hs noted))
          ]
    ]

known_all : (ws : List ℕ) (ms : List Marker) (q : Option Pairs) → Known ms q → Known (ms ++ markers_in ws) (foldl then_taken q ws)
unfolding keep
known_all [] ms q known = rw append-nil known
known_all (w ∷ ws) ms q known = known_word w ws (known_all ws) ms q known

pub known_track : {ds ws : List ℕ} → Track ds ws → Known (markers (events_of ds ws)) (pairs_of ws)
known_track {ds} {ws} track = rw (markers_words 0 0 ds ws track.same) (known_all ws [] (Some no_pairs) noted_none)

-- once there is no answer, none comes
pub none_taken : (ws : List ℕ) → foldl then_taken None ws ≡ None
none_taken [] = refl
none_taken (w ∷ ws) = none_taken ws
