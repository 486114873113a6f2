-- Section 9, Automation: a part's bends, controllers, programs and pressures.
use Rattle.std.specs.Prelude.{ℕ, ◌+◌, ◌*◌, ◌/◌, Bool, true, false, not, ◌&&◌, ◌||◌, List, [], ◌∷◌, ◌++◌, map, eqb, leb, length}
use Rattle.rules.specs.Lists.{keep, any}
use Rattle.rules.specs.Piece.{Event, kind_of, byte_a, byte_b, byte_c, is_kind, channel_of}

-- Automation ticks are at 480 per quarter: (tick × 480 + p / 2) / p.
abbrev pub automation_tick : ℕ → ℕ → ℕ
automation_tick p t = (t * 480 + p / 2) / p

-- ---- the kinds

abbrev pub is_bend : ℕ → Bool
is_bend w = is_kind 14 w

abbrev pub is_controller : ℕ → Bool
is_controller w = is_kind 11 w

abbrev pub is_program : ℕ → Bool
is_program w = is_kind 12 w

-- key and channel pressure
abbrev pub is_pressure : ℕ → Bool
is_pressure w = is_kind 10 w || is_kind 13 w

abbrev pub is_automation : ℕ → Bool
is_automation w = is_bend w || is_controller w || is_program w || is_pressure w

-- ---- markers

-- A marker says that a channel, the spare, was added beside another, the base.
pub record Marker : Type 0 where
  pub base : ℕ
  pub spare : ℕ

-- Markers whose base or spare is above 15, or equal, are skipped.
abbrev pub counts? : Marker → Bool
counts? m = leb m.base 15 && leb m.spare 15 && not (eqb m.base m.spare)

abbrev pub markers : List Event → List Marker
markers es =
    keep counts? (map (λ (e : Event). record { base = byte_a e.word; spare = byte_b e.word }) (keep (λ (e : Event). is_kind 5 e.word) es))

-- A spare given two bases, or a base that is also a spare, cancels all.
unfoldable pub cancelled : List Marker → Bool
cancelled ms =
    any (λ (m : Marker). any (λ (n : Marker). eqb m.spare n.spare && not (eqb m.base n.base)) ms) ms
    || any (λ (m : Marker). any (λ (n : Marker). eqb m.base n.spare) ms) ms

-- ---- what is dropped

abbrev pub is_automation_of : ℕ → Event → Bool
is_automation_of ch e = is_automation e.word && eqb (channel_of e.word) ch

-- two events have the same source tick and the same message, the channel aside
abbrev pub same_message : Event → Event → Bool
same_message d e =
    eqb d.tick e.tick
    && eqb (kind_of d.word) (kind_of e.word)
    && eqb (byte_b d.word) (byte_b e.word)
    && eqb (byte_c d.word) (byte_c e.word)

unfoldable pub same_messages : List Event → List Event → Bool
same_messages [] [] = true
same_messages [] (e ∷ es) = false
same_messages (d ∷ ds) [] = false
same_messages (d ∷ ds) (e ∷ es) = same_message d e && same_messages ds es

-- the spare's automation equals the base's, in track order across the kinds
abbrev pub mirrors : List Event → Marker → Bool
mirrors es m = same_messages (keep (is_automation_of m.base) es) (keep (is_automation_of m.spare) es)

-- A spare channel's automation is dropped where its ticks and messages equal the base's.
unfoldable pub is_dropped : List Event → ℕ → Bool
is_dropped es ch = not (cancelled (markers es)) && any (λ (m : Marker). eqb m.spare ch && mirrors es m) (markers es)

-- ---- the lists

abbrev pub automation : (ℕ → Bool) → List Event → List Event
automation is_one es = keep (λ (e : Event). is_one e.word && not (is_dropped es (channel_of e.word))) es

-- Four counts, then ticks and words, kind after kind: bends, controllers, programs, pressures, each in track order.
pub record AutomationLists : Type 0 where
  pub bends : ℕ
  pub controllers : ℕ
  pub programs : ℕ
  pub pressures : ℕ
  pub ticks : List ℕ
  pub words : List ℕ

abbrev pub all_automation : List Event → List Event
all_automation es =
    automation is_bend es ++ (automation is_controller es ++ (automation is_program es ++ automation is_pressure es))

unfoldable pub automation_lists : ℕ → List Event → AutomationLists
automation_lists p es =
    record {
      bends = length (automation is_bend es);
      controllers = length (automation is_controller es);
      programs = length (automation is_program es);
      pressures = length (automation is_pressure es);
      ticks = map (λ (e : Event). automation_tick p e.tick) (all_automation es);
      words = map (λ (e : Event). e.word) (all_automation es);
    }
