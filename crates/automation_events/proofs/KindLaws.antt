-- The words of the four lists: their kinds are 10 to 14, so each names a channel below 16, and the array of dropped channels answers for it.
use Prim.Native.Nat.{ℕ, suc, ◌+◌, ◌≤◌, ◌<◌}
use mathlib.Core.Bool.{Bool, true, not, ◌&&◌}
use mathlib.Core.List.{List, [], ◌∷◌}
use mathlib.Core.Logic.{inl, inr, ⊎_elim}
use mathlib.Core.Path.{◌≡◌}
use native.Mathlib.Omega.{arith}
use borrow.Author.Tests.{eqb-true}
use Rattle.rules.specs.Lists.{All, keep}
use Rattle.rules.specs.Piece.{Event, timed, kind_of, channel_of, well_formed}
use Rattle.rules.specs.Automation.{is_dropped, automation}
use Rattle.laws.proofs.Lists.{All-imp}
use Rattle.laws.proofs.Order.{by_bool, by_or}
use Rattle.track_events.specs.Track.{Track, events_of}
use Rattle.track_events.proofs.Tracks.{channel_bounds}
use Rattle.auxiliary_channels.specs.Markers.{Drops}
use Rattle.automation_events.specs.declared.Kind.{Kind}
use Rattle.automation_events.specs.declared.Kind.TheVariants.{Bend, Controller, Program, Pressure}
use Rattle.automation_events.specs.Kinds.{is_one, wanted}
use Rattle.laws.proofs.Tests.{keep_same}

module _ (w : ℕ) where
  kinds : (k : Kind) → is_one k w ≡ true → (10 ≤ kind_of w) × (kind_of w ≤ 14)
  kinds Bend h = let e : kind_of w ≡ 14 = eqb-true _ _ h in (omega arith, omega arith)
  kinds Controller h = let e : kind_of w ≡ 11 = eqb-true _ _ h in (omega arith, omega arith)
  kinds Program h = let e : kind_of w ≡ 12 = eqb-true _ _ h in (omega arith, omega arith)
  kinds Pressure h =
      ⊎_elim
      (λ g. let e : kind_of w ≡ 10 = eqb-true _ _ g in (omega arith, omega arith))
      (λ g. let e : kind_of w ≡ 13 = eqb-true _ _ g in (omega arith, omega arith))
      (by_or _ _ h)

  module _ (formed : well_formed w ≡ true) (k : Kind) where
    pub one_channel : is_one k w ≡ true → channel_of w < 16
    one_channel h = let r = kinds k h in (channel_bounds w formed (omega arith) (omega arith)).channel

    wanted_same : (es : List Event) (dropped : List Bool) → Drops es dropped
        → wanted k dropped w ≡ (is_one k w && not (is_dropped es (channel_of w)))
    wanted_same es dropped d = elim (by_bool (is_one k w)) [ inl t ↦ rw (t, d.at (channel_of w) (one_channel t)) | inr t ↦ rw t ]

-- what holds of all words holds of the word of every event
words_all : (P : ℕ → Type 0) (n t : ℕ) (ds ws : List ℕ) → All P ws → All (λ (e : Event). P e.word) (timed n t ds ws)
unfolding timed
words_all P n t [] ws h = tt
words_all P n t (d ∷ ds) [] h = tt
words_all P n t (d ∷ ds) (w ∷ ws) h = (h.0, words_all P (suc n) (t + d) ds ws h.1)

-- the events that the array leaves are section 9's list
pub wanted_automation : {ds ws : List ℕ} → Track ds ws → {dropped : List Bool} → Drops (events_of ds ws) dropped → (k : Kind)
    → keep (λ (e : Event). wanted k dropped e.word) (events_of ds ws) ≡ automation (is_one k) (events_of ds ws)
wanted_automation {ds} {ws} track {dropped} drops k =
    let es = events_of ds ws in
    let formed = words_all (λ w. well_formed w ≡ true) 0 0 ds ws track.formed in
    keep_same _ _ es (All-imp (λ (e : Event) f. wanted_same e.word f k es dropped drops) es formed)
