-- The sections' lists take of each event what its meaning says.
use Prim.Native.Nat.{ℕ, suc, ◌+◌, ◌*◌, ◌%◌, ◌-◌, ◌≤◌, ◌<◌}
use mathlib.Core.Bool.{Bool, true, not, ◌&&◌, ◌||◌, false≢true, or-true, or-false, or_assoc, and-eq-true_iff}
use mathlib.Core.List.{List, [], ◌∷◌, map, map-id}
use mathlib.Core.Logic.{◌↔◌, ◌⊎◌, inl, inr, ⊎_elim}
use mathlib.Core.Path.{◌≡◌, refl, sym, ap, ◌∙◌}
use native.Mathlib.Omega.{arith}
use borrow.Author.Tests.{eqb-true, eqb-false, eq-eqb, ne_eqb, not-true, leb-true, lt-ltb, le-ltb}
use lib.Dec.{eqb, leb}
use lib.IntN.{sub_ℕ, pos, negsuc}
use Rattle.rules.specs.Lists.{keep, All, is_empty}
use Rattle.rules.specs.Piece.{Event, first_track, kind_of, byte_a, byte_b, byte_c, is_kind, well_formed, tempo_value, is_on, is_off, channel_of}
use Rattle.rules.specs.Standard.{Meaning}
use Rattle.rules.specs.Meanings.{meaning, marker_data, ReadAsStandard}
use Rattle.rules.specs.RawNotes.{NoteEvent, note_event}
use Rattle.rules.specs.Changes.{Change, Meter, Key, PartHead, tempo_of, meter_of, key_of}
use Rattle.rules.specs.Automation.{Marker, counts?, is_bend, is_controller, is_program, is_pressure, is_automation, is_automation_of}
use Rattle.rules.specs.Automation.{same_message, same_messages, mirrors, is_dropped}
use Rattle.rules.specs.Diagnostics.{Diagnostic, at_event, is_off_measure, any_meter_length}
use Rattle.rules.proofs.Meanings.{read_as_standard}
use Rattle.laws.specs.Says.{Says}
use Rattle.laws.specs.Standards.{Reads, none, taken, passed, IsRead, NoteOf, OnOf, TempoOf, MeterOf, KeyOf, ProgramOf, MarkerOf}
use Rattle.laws.specs.Standards.{Bend, Controller, Program, Pressure, Kept, AutomationOf}
use Rattle.laws.specs.Standards.{SameBut, bends, controllers, programs, key_pressures, channel_pressures, Mirrored}
use Rattle.laws.specs.Standards.{OffMeasure, OffMeasureOf, SystemOf, ByMeaning}
use Rattle.laws.proofs.Lists.{All-imp, All-keep, any_kept}
use Rattle.laws.proofs.Order.{by_bool, by_or, by_lt}
use Rattle.laws.proofs.Reflection.{says_flag, says_eq, says_le, says_lt, says_and, says_and3, says_and4, says_or, says_as}

-- ---- a list that maps what passes a test

module _ {A : Type 0} (R : Event → Meaning → A → Type 0) (test : Event → Bool) (f : Event → A)
    (takes : (e : Event) → test e ≡ true → R e (meaning e.word) (f e))
    (gives : (e : Event) (m : Meaning) (x : A) → R e m x → meaning e.word ≡ m → (test e ≡ true) × (x ≡ f e))
  where
    reads : (es : List Event) → Reads R es (map f (keep test es))
    unfolding keep
    reads [] = none
    reads (e ∷ es) =
        elim (by_bool (test e)) [
          | inl t ↦ rw t (taken (takes e t) (reads es))
          | inr t ↦ rw t (passed (λ x r. false≢true (sym t ∙ (gives e (meaning e.word) x r refl).0)) (reads es))
        ]

    one : {es : List Event} {xs : List A} → Reads R es xs → xs ≡ map f (keep test es)
    unfolding keep
    one none = refl
    one (taken {e} {x} r rs) = let g = gives e (meaning e.word) x r refl in rw (g.0, g.1, one rs)
    one (passed {e} p rs) = elim (by_bool (test e)) [ inl t ↦ absurd (p (f e) (takes e t)) | inr t ↦ rw (t, one rs) ]

    is_read : IsRead R (λ es. map f (keep test es))
    is_read es xs = (one, λ e. rw e (reads es))

is_kept : (R : Event → Meaning → Event → Type 0) (test : Event → Bool)
    → ((e : Event) → test e ≡ true → R e (meaning e.word) e)
    → ((e : Event) (m : Meaning) (x : Event) → R e m x → meaning e.word ≡ m → (test e ≡ true) × (x ≡ e))
    → IsRead R (keep test)
is_kept R test takes gives es xs = rw map-id at (is_read R test (λ e. e) takes gives es xs)

-- a test of what is mapped stands with the test before
kept_map : {A B : Type 0} (g : B → Bool) (f : A → B) (t : A → Bool) (xs : List A)
    → keep g (map f (keep t xs)) ≡ map f (keep (λ x. t x && g (f x)) xs)
unfolding keep
kept_map g f t [] = refl
kept_map g f t (x ∷ xs) =
    elim (by_bool (t x)) [
      | inl h ↦ elim (by_bool (g (f x))) [ inl k ↦ rw (h, k, kept_map g f t xs) | inr k ↦ rw (h, k, kept_map g f t xs) ]
      | inr h ↦ rw (h, kept_map g f t xs)
    ]

says_differ : (a b : ℕ) → Says (not (eqb a b)) (a ≡ b → ⊥)
says_differ a b = (λ t. eqb-false a b (not-true (eqb a b) t), λ n. rw (ne_eqb a b n))

counts_says : (m : Marker) → Says (counts? m) ((m.base ≤ 15) × (m.spare ≤ 15) × (m.base ≡ m.spare → ⊥))
counts_says m = says_and3 (says_le _ _) (says_le _ _) (says_differ _ _)

-- ---- what is taken of an event, and given by its meaning alone

module _ (e : Event) where
  abbrev w : ℕ
  w = e.word

  abbrev read : ReadAsStandard w
  read = read_as_standard w

  note_taken : is_on w || is_off w ≡ true → NoteOf e (meaning w) (note_event e)
  note_taken h =
      elim (by_bool (is_on w)) [
        | inl t ↦ rw ((read.on _ _ _).1 (t, refl, refl, refl), t) NoteOf.on
        | inr t ↦ rw ((read.off _ _ _).1 (rw t at h, refl, refl, refl), t) NoteOf.off
      ]

  note_given : (m : Meaning) (x : NoteEvent) → NoteOf e m x → meaning w ≡ m → (is_on w || is_off w ≡ true) × (x ≡ note_event e)
  note_given m x (NoteOf.on {ch} {k} {v}) h = let t = (read.on ch k v).0 h in (rw t.0, rw (t.0, t.1, t.2))
  note_given m x (NoteOf.off {ch} {k} {v}) h =
      let t = (read.off ch k v).0 h in
      elim (by_bool (is_on w)) [
        | inl n ↦ let on_is = (read.on _ _ _).1 (n, refl, refl, refl) in let z : ◌≡◌ {A = ℕ} 0 1 = cc in absurd (omega arith)
        | inr n ↦ (rw (n, t.0), rw (n, t.1, t.2))
      ]

  on_given : (m : Meaning) (x : Event) → OnOf e m x → meaning w ≡ m → (is_on w ≡ true) × (x ≡ e)
  on_given m x (OnOf.on {ch} {k} {v}) h = (((read.on ch k v).0 h).0, refl)

  tempo_taken : is_kind 2 w && not (eqb (tempo_value w) 0) ≡ true → TempoOf e (meaning w) (record { tick = e.tick; to = tempo_of (tempo_value w) })
  tempo_taken h =
      let k = (and-eq-true_iff (is_kind 2 w) (not (eqb (tempo_value w) 0))).0 h in
      rw ((read.tempo _).1 (k.0, refl)) (TempoOf.tempo ((says_differ (tempo_value w) 0).0 k.1))

  tempo_given : (m : Meaning) (x : Change ℕ) → TempoOf e m x → meaning w ≡ m
      → (is_kind 2 w && not (eqb (tempo_value w) 0) ≡ true) × (x ≡ record { tick = e.tick; to = tempo_of (tempo_value w) })
  tempo_given m x (TempoOf.tempo {v} n) h = let t = (read.tempo v).0 h in (rw (t.0, ne_eqb (tempo_value w) 0 (λ z. n (t.1 ∙ z))), rw t.1)

  meter_given : (m : Meaning) (x : Change Meter) → MeterOf e m x → meaning w ≡ m → (is_kind 3 w ≡ true) × (x ≡ record { tick = e.tick; to = meter_of w })
  meter_given m x (MeterOf.meter {u} {l}) h = let t = (read.meter u l).0 h in (t.0, rw (t.1, t.2))

  key_given : (m : Meaning) (x : Change Key) → KeyOf e m x → meaning w ≡ m → (is_kind 4 w ≡ true) × (x ≡ record { tick = e.tick; to = key_of w })
  key_given m x (KeyOf.key {f} {m = n}) h = let t = (read.key f n).0 h in (t.0, rw (t.1, t.2))

  abbrev head_of : PartHead
  head_of = record { channel = byte_a w; program = byte_b w }

  program_given : (m : Meaning) (x : PartHead) → ProgramOf e m x → meaning w ≡ m → (is_kind 12 w ≡ true) × (x ≡ head_of)
  program_given m x (ProgramOf.program {ch} {p = n}) h = let t = (read.program ch n).0 h in (t.0, rw (t.1, t.2))

  abbrev marker_of : Marker
  marker_of = record { base = byte_a w; spare = byte_b w }

  marker_taken : is_kind 5 w && counts? marker_of ≡ true → MarkerOf e (meaning w) marker_of
  marker_taken h =
      let k = (and-eq-true_iff (is_kind 5 w) (counts? marker_of)).0 h in
      let c = (counts_says marker_of).0 k.1 in
      rw ((read.marker _).1 (k.0, refl)) (MarkerOf.marker c.0 c.1 c.2)

  marker_given : (m : Meaning) (x : Marker) → MarkerOf e m x → meaning w ≡ m → (is_kind 5 w && counts? marker_of ≡ true) × (x ≡ marker_of)
  marker_given m x (MarkerOf.marker {b} {s} hb hs n) h =
      let t = (read.marker (marker_data b s)).0 h in
      let p : b ≡ byte_a w = cc in
      let q : s ≡ byte_b w = cc in
      (rw (t.0, ← p, ← q) ((counts_says (record { base = b; spare = s })).1 (hb, hs, n)), rw (p, q))

  off_says : (l : ℕ) → Says (is_off_measure l e) (((is_kind 2 w ≡ true) ⊎ (is_kind 3 w ≡ true)) × (0 < e.tick) × (e.tick % l ≡ 0 → ⊥) × (l ≡ 0 → ⊥))
  off_says l = says_and4 (says_or (says_flag _) (says_flag _)) (says_lt _ _) (says_differ _ _) (says_differ _ _)

  off_taken : (l : ℕ) → is_off_measure l e ≡ true → OffMeasureOf l e (meaning w) (at_event 2 0 e)
  off_taken l h =
      let k = (off_says l).0 h in
      let at : OffMeasure l e.tick = (k.1, k.2, k.3) in
      ⊎_elim (λ t. rw ((read.tempo _).1 (t, refl)) (OffMeasureOf.tempo at)) (λ t. rw ((read.meter _ _).1 (t, refl, refl)) (OffMeasureOf.meter at)) k.0

  off_given : (l : ℕ) (m : Meaning) (x : Diagnostic) → OffMeasureOf l e m x → meaning w ≡ m → (is_off_measure l e ≡ true) × (x ≡ at_event 2 0 e)
  off_given l m x (OffMeasureOf.tempo {v} at) h = ((off_says l).1 (inl ((read.tempo v).0 h).0, at.0, at.1, at.2), refl)
  off_given l m x (OffMeasureOf.meter {u} {k} at) h = ((off_says l).1 (inr ((read.meter u k).0 h).0, at.0, at.1, at.2), refl)

  system_given : (track : ℕ) (m : Meaning) (x : Diagnostic) → SystemOf track e m x → meaning w ≡ m → (is_kind 1 w ≡ true) × (x ≡ at_event 3 track e)
  system_given track m x SystemOf.system h = (read.system.0 h, refl)

-- ---- the four kinds of automation

module _ (w : ℕ) where
  abbrev word : ReadAsStandard w
  word = read_as_standard w

  bend_taken : is_bend w ≡ true → Bend (meaning w) (channel_of w)
  bend_taken h = rw ((word.bend _ _).1 (h, refl, refl)) Bend.bend

  bend_given : (m : Meaning) (ch : ℕ) → Bend m ch → meaning w ≡ m → (is_bend w ≡ true) × (ch ≡ channel_of w)
  bend_given m ch (Bend.bend {v = v}) h = let t = (word.bend ch v).0 h in (t.0, t.1)

  controller_taken : is_controller w ≡ true → Controller (meaning w) (channel_of w)
  controller_taken h = rw ((word.controller _ _ _).1 (h, refl, refl, refl)) Controller.controller

  controller_given : (m : Meaning) (ch : ℕ) → Controller m ch → meaning w ≡ m → (is_controller w ≡ true) × (ch ≡ channel_of w)
  controller_given m ch (Controller.controller {n = n} {v = v}) h = let t = (word.controller ch n v).0 h in (t.0, t.1)

  program_taken : is_program w ≡ true → Program (meaning w) (channel_of w)
  program_taken h = rw ((word.program _ _).1 (h, refl, refl)) Program.program

  program_on : (m : Meaning) (ch : ℕ) → Program m ch → meaning w ≡ m → (is_program w ≡ true) × (ch ≡ channel_of w)
  program_on m ch (Program.program {p = p}) h = let t = (word.program ch p).0 h in (t.0, t.1)

  pressure_taken : is_pressure w ≡ true → Pressure (meaning w) (channel_of w)
  pressure_taken h =
      ⊎_elim (λ t. rw ((word.key_pressure_lem _ _ _).1 (t, refl, refl, refl)) Pressure.of_key)
      (λ t. rw ((word.channel_pressure_lem _ _).1 (t, refl, refl)) Pressure.of_channel)
      (by_or (is_kind 10 w) (is_kind 13 w) h)

  pressure_given : (m : Meaning) (ch : ℕ) → Pressure m ch → meaning w ≡ m → (is_pressure w ≡ true) × (ch ≡ channel_of w)
  pressure_given m ch (Pressure.of_key {k = k} {v = v}) h = let t = (word.key_pressure_lem ch k v).0 h in (rw t.0, t.1)
  pressure_given m ch (Pressure.of_channel {v = v}) h = let t = (word.channel_pressure_lem ch v).0 h in (rw t.0 (or-true (is_kind 10 w)), t.1)

  of_any : Says (is_automation w)
      (Bend (meaning w) (channel_of w) ⊎ Controller (meaning w) (channel_of w) ⊎ Program (meaning w) (channel_of w) ⊎ Pressure (meaning w) (channel_of w))
  of_any =
      simp or_assoc
      (says_or (bend_taken, λ b. (bend_given _ _ b refl).0)
      (says_or (controller_taken, λ c. (controller_given _ _ c refl).0)
      (says_or (program_taken, λ p. (program_on _ _ p refl).0) (pressure_taken, λ p. (pressure_given _ _ p refl).0))))

  any_channel : (m : Meaning) (ch : ℕ) → Bend m ch ⊎ Controller m ch ⊎ Program m ch ⊎ Pressure m ch → meaning w ≡ m → ch ≡ channel_of w
  any_channel m ch (inl b) h = (bend_given m ch b h).1
  any_channel m ch (inr (inl c)) h = (controller_given m ch c h).1
  any_channel m ch (inr (inr (inl p))) h = (program_on m ch p h).1
  any_channel m ch (inr (inr (inr p))) h = (pressure_given m ch p h).1

kept : (Kind : Meaning → ℕ → Type 0) (is_one : ℕ → Bool) → ((w : ℕ) → is_one w ≡ true → Kind (meaning w) (channel_of w))
    → ((w : ℕ) (m : Meaning) (ch : ℕ) → Kind m ch → meaning w ≡ m → (is_one w ≡ true) × (ch ≡ channel_of w))
    → (dropped : ℕ → Bool) → IsRead (Kept Kind dropped) (keep (λ e. is_one e.word && not (dropped (channel_of e.word))))
kept Kind is_one takes gives dropped =
    is_kept (Kept Kind dropped) (λ e. is_one e.word && not (dropped (channel_of e.word)))
    (λ e h. let k = (and-eq-true_iff (is_one e.word) (not (dropped (channel_of e.word)))).0 h in
    (channel_of e.word, takes e.word k.0, not-true _ k.1, refl))
    (λ e m x r h. let g = gives e.word m r.0 r.1 h in (rw (g.0, ← g.1, r.2), r.3))

on_channel : (ch : ℕ) → IsRead (AutomationOf ch) (keep (is_automation_of ch))
on_channel ch =
    is_kept (AutomationOf ch) (is_automation_of ch)
    (λ e h. let k = (and-eq-true_iff (is_automation e.word) (eqb (channel_of e.word) ch)).0 h in
    (rw (← eqb-true (channel_of e.word) ch k.1) ((of_any e.word).0 k.0), refl))
    (λ e m x r h. let c = any_channel e.word m ch r.0 h in
    (rw ((of_any e.word).1 (rw (← h, c) at r.0), eq-eqb (channel_of e.word) ch (sym c)), r.1))

-- ---- section 9: what a spare channel repeats

sub_same : (m n k : ℕ) → sub_ℕ m k ≡ sub_ℕ n k → m ≡ n
sub_same m n k h =
    elim (by_lt m k) [
      | inl l ↦
          elim (by_lt n k) [
            | inl g ↦
                let e : negsuc (k - suc m) ≡ negsuc (k - suc n) = rw (lt-ltb m k l, lt-ltb n k g) at h in
                let d : k - suc m ≡ k - suc n = cc in omega arith
            | inr g ↦
                let e : negsuc (k - suc m) ≡ pos (n - k) = rw (lt-ltb m k l, le-ltb n k g) at h in
                let z : ◌≡◌ {A = ℕ} 0 1 = cc in absurd (omega arith)
          ]
      | inr l ↦
          elim (by_lt n k) [
            | inl g ↦
                let e : pos (m - k) ≡ negsuc (k - suc n) = rw (le-ltb m k l, lt-ltb n k g) at h in
                let z : ◌≡◌ {A = ℕ} 0 1 = cc in absurd (omega arith)
            | inr g ↦
                let e : pos (m - k) ≡ pos (n - k) = rw (le-ltb m k l, le-ltb n k g) at h in
                let d : m - k ≡ n - k = cc in omega arith
          ]
    ]

-- the data bytes of a bend; the last byte of a message that has one data byte
bend_bytes : (w : ℕ) → well_formed w ≡ true → is_kind 14 w ≡ true → (byte_b w ≤ 127) × (byte_c w ≤ 127)
unfolding well_formed
bend_bytes w h t =
    let k = (and-eq-true_iff (leb (byte_a w) 15 && leb (byte_b w) 127) (leb (byte_c w) 127)).0 (rw (eqb-true (kind_of w) 14 t, or-false) at h) in
    (leb-true _ _ ((and-eq-true_iff (leb (byte_a w) 15) (leb (byte_b w) 127)).0 k.0).1, leb-true _ _ k.1)

no_second : (w : ℕ) → well_formed w ≡ true → (is_kind 12 w ≡ true) ⊎ (is_kind 13 w ≡ true) → byte_c w ≡ 0
unfolding well_formed
no_second w h (inl t) =
    eqb-true _ _ ((and-eq-true_iff (leb (byte_a w) 15 && leb (byte_b w) 127) (eqb (byte_c w) 0)).0 (rw (eqb-true (kind_of w) 12 t) at h)).1
no_second w h (inr t) =
    eqb-true _ _ ((and-eq-true_iff (leb (byte_a w) 15 && leb (byte_b w) 127) (eqb (byte_c w) 0)).0 (rw (eqb-true (kind_of w) 13 t) at h)).1

module _ (u w : ℕ) where
  abbrev Alike : Type 0
  Alike = (kind_of u ≡ kind_of w) × (byte_b u ≡ byte_b w) × (byte_c u ≡ byte_c w)

  both : (k : ℕ) → is_kind k u ≡ true → is_kind k w ≡ true → kind_of u ≡ kind_of w
  both k s t = eqb-true (kind_of u) k s ∙ sym (eqb-true (kind_of w) k t)

  alike : (m n : Meaning) → SameBut m n → meaning u ≡ m → meaning w ≡ n → well_formed u ≡ true → well_formed w ≡ true → Alike
  alike m n (bends {c} {d} {v}) p q f g =
      let s = ((word u).bend c v).0 p in
      let t = ((word w).bend d v).0 q in
      let sum : byte_b u + 128 * byte_c u ≡ byte_b w + 128 * byte_c w = sub_same _ _ 8192 (sym s.2 ∙ t.2) in
      let x = bend_bytes u f s.0 in
      let y = bend_bytes w g t.0 in
      (both 14 s.0 t.0, omega arith, omega arith)
  alike m n (controllers {c} {d} {n = k} {v}) p q f g =
      let s = ((word u).controller c k v).0 p in
      let t = ((word w).controller d k v).0 q in
      (both 11 s.0 t.0, sym s.2 ∙ t.2, sym s.3 ∙ t.3)
  alike m n (programs {c} {d} {p = k}) p q f g =
      let s = ((word u).program c k).0 p in
      let t = ((word w).program d k).0 q in
      (both 12 s.0 t.0, sym s.2 ∙ t.2, no_second u f (inl s.0) ∙ sym (no_second w g (inl t.0)))
  alike m n (key_pressures {c} {d} {k} {v}) p q f g =
      let s = ((word u).key_pressure_lem c k v).0 p in
      let t = ((word w).key_pressure_lem d k v).0 q in
      (both 10 s.0 t.0, sym s.2 ∙ t.2, sym s.3 ∙ t.3)
  alike m n (channel_pressures {c} {d} {v}) p q f g =
      let s = ((word u).channel_pressure_lem c v).0 p in
      let t = ((word w).channel_pressure_lem d v).0 q in
      (both 13 s.0 t.0, sym s.2 ∙ t.2, no_second u f (inr s.0) ∙ sym (no_second w g (inr t.0)))

  same_by : (is_bend u ≡ true) ⊎ (is_controller u ≡ true) ⊎ (is_program u ≡ true) ⊎ (is_kind 10 u ≡ true) ⊎ (is_kind 13 u ≡ true) → Alike
      → SameBut (meaning u) (meaning w)
  same_by (inl t) a = rw (((word u).bend _ _).1 (t, refl, refl), ((word w).bend _ _).1 (rw a.0 at t, refl, refl), a.1, a.2) bends
  same_by (inr (inl t)) a =
      rw (((word u).controller _ _ _).1 (t, refl, refl, refl), ((word w).controller _ _ _).1 (rw a.0 at t, refl, refl, refl), a.1, a.2) controllers
  same_by (inr (inr (inl t))) a = rw (((word u).program _ _).1 (t, refl, refl), ((word w).program _ _).1 (rw a.0 at t, refl, refl), a.1) programs
  same_by (inr (inr (inr (inl t)))) a =
      rw (((word u).key_pressure_lem _ _ _).1 (t, refl, refl, refl), ((word w).key_pressure_lem _ _ _).1 (rw a.0 at t, refl, refl, refl), a.1, a.2) key_pressures
  same_by (inr (inr (inr (inr t)))) a =
      rw (((word u).channel_pressure_lem _ _).1 (t, refl, refl), ((word w).channel_pressure_lem _ _).1 (rw a.0 at t, refl, refl), a.1) channel_pressures

abbrev Known : Event → Type 0
Known e = (well_formed e.word ≡ true) × (is_automation e.word ≡ true)

kind_says : (w : ℕ) → Says (is_automation w)
    ((is_bend w ≡ true) ⊎ (is_controller w ≡ true) ⊎ (is_program w ≡ true) ⊎ (is_kind 10 w ≡ true) ⊎ (is_kind 13 w ≡ true))
kind_says w = simp or_assoc (says_or (says_flag _) (says_or (says_flag _) (says_or (says_flag _) (says_or (says_flag _) (says_flag _)))))

same_one : (d e : Event) → Known d → Known e → Says (same_message d e) ((d.tick ≡ e.tick) × SameBut (meaning d.word) (meaning e.word))
same_one d e h k =
    says_as (says_and4 (says_eq _ _) (says_eq _ _) (says_eq _ _) (says_eq _ _)) (
      λ s. (s.0, same_by d.word e.word ((kind_says d.word).0 h.1) (s.1, s.2, s.3)),
      λ r. let a = alike d.word e.word _ _ r.1 refl refl h.0 k.0 in (r.0, a.0, a.1, a.2),
    )

same_all : (ds es : List Event) → All Known ds → All Known es → Says (same_messages ds es) (Mirrored ds es)
unfolding same_messages
same_all [] [] h k = (λ t. tt, λ m. refl)
same_all [] (e ∷ es) h k = (false≢true, λ m. absurd m)
same_all (d ∷ ds) [] h k = (false≢true, λ m. absurd m)
same_all (d ∷ ds) (e ∷ es) h k =
    says_as (says_and (same_one d e h.0 k.0) (same_all ds es h.1 k.1)) (λ p. (p.0.0, p.0.1, p.1), λ p. ((p.0, p.1), p.2))

known : (ch : ℕ) (es : List Event) → All (λ e. well_formed e.word ≡ true) es → All Known (keep (is_automation_of ch) es)
known ch es h =
    All-imp {P = λ e. (well_formed e.word ≡ true) × (is_automation_of ch e ≡ true)} {Q = Known}
    (λ e k. (k.0, ((and-eq-true_iff (is_automation e.word) (eqb (channel_of e.word) ch)).0 k.1).0)) (keep (is_automation_of ch) es)
    (All-keep (λ e. well_formed e.word ≡ true) (is_automation_of ch) es h)

mirrored : (es bs ss : List Event) (m : Marker) → All (λ e. well_formed e.word ≡ true) es → Reads (AutomationOf m.base) es bs
    → Reads (AutomationOf m.spare) es ss → (mirrors es m ≡ true) ↔ Mirrored bs ss
mirrored es bs ss m h b s =
    rw ((on_channel m.base es bs).0 b, (on_channel m.spare es ss).0 s) (same_all _ _ (known m.base es h) (known m.spare es h))

-- ---- all

ons : IsRead OnOf (keep (λ e. is_on e.word))
ons = is_kept OnOf (λ e. is_on e.word) (λ e t. rw (((read e).on _ _ _).1 (t, refl, refl, refl)) OnOf.on) on_given

heads : (es : List Event) → Reads ProgramOf es (map head_of (keep (λ e. is_kind 12 e.word) es))
heads = reads ProgramOf (λ e. is_kind 12 e.word) head_of (λ e t. rw (((read e).program _ _).1 (t, refl, refl)) ProgramOf.program) program_given

pub by_meaning : ByMeaning
by_meaning =
    record {
      notes = is_read NoteOf (λ e. is_on e.word || is_off e.word) note_event note_taken note_given;
      ons = ons;
      has_notes_lem = λ es xs r. any_kept (λ e. is_on e.word) es ∙ ap (λ l. not (is_empty l)) (sym ((ons es xs).0 r));
      tempos = is_read TempoOf _ _ tempo_taken tempo_given;
      meters = is_read MeterOf (λ e. is_kind 3 e.word) _ (λ e t. rw (((read e).meter _ _).1 (t, refl, refl)) MeterOf.meter) meter_given;
      keys = is_read KeyOf (λ e. is_kind 4 e.word) _ (λ e t. rw (((read e).key _ _).1 (t, refl, refl)) KeyOf.key) key_given;
      part_head_lem = λ es. (_, heads es, refl);
      bends = λ es. kept Bend is_bend bend_taken bend_given (is_dropped es) es;
      controllers = λ es. kept Controller is_controller controller_taken controller_given (is_dropped es) es;
      programs = λ es. kept Program is_program program_taken program_on (is_dropped es) es;
      pressures = λ es. kept Pressure is_pressure pressure_taken pressure_given (is_dropped es) es;
      marked = λ es xs. rw (kept_map counts? marker_of (λ e. is_kind 5 e.word) es) (is_read MarkerOf _ marker_of marker_taken marker_given es xs);
      on_channel = on_channel;
      mirrored = mirrored;
      off_measures = λ x.
          let l = any_meter_length x in
          is_read (OffMeasureOf l) (is_off_measure l) (at_event 2 0) (λ e. off_taken e l) (λ e. off_given e l) (first_track x);
      systems = λ track.
          is_read (SystemOf track) (λ e. is_kind 1 e.word) (at_event 3 track) (λ e t. rw ((read e).system.1 t) SystemOf.system)
          (λ e. system_given e track);
    }
