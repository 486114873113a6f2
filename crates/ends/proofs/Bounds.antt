-- No note of a track ends later than a tick after its last; none ends after the last tick where no note starts there.
use Prim.Native.Nat.{ℕ, zero, suc, ◌+◌, ◌-◌, ◌≤◌, ◌<◌, max}
use mathlib.Core.Bool.{false, true≢false}
use mathlib.Core.List.{List, [], ◌∷◌, foldl}
use mathlib.Core.Logic.{inl, inr}
use mathlib.Core.Path.{◌≡◌, refl, sym, ◌∙◌}
use native.Mathlib.Omega.{arith}
use lib.Dec.{ltb}
use lib.ListN.{length, get_or, drop}
use Rattle.rules.specs.Lists.{any, sum}
use Rattle.rules.specs.Piece.{timed, is_on, is_off, byte_a, byte_b}
use Rattle.laws.proofs.Order.{by_bool}
use Rattle.track_events.specs.Track.{Track, events_of}
use Rattle.tracks.proofs.Cuts.{any_here}
use Rattle.ends.specs.declared.Pass.{Pass}
use Rattle.ends.specs.Pass.{track_end, cell, Reached, nothing, step, step_on, end_of}
use Rattle.ends.proofs.Passes.{step_off, step_over, step_cases, step_tick, pass_finds}
use Rattle.ends.proofs.Midway.{timed_formed}

-- one word back, that is no start
pub any_back : (ws : List ℕ) (i : ℕ) → 0 < i → i ≤ length ws → is_on (get_or ws (i - 1) 0) ≡ false → any is_on (drop i ws) ≡ false
    → any is_on (drop (i - 1) ws) ≡ false
any_back ws i h k f g = let back : i - 1 + 1 ≡ i = omega arith in any_here ws (i - 1) (omega arith) ∙ rw (f, back) g

-- ---- the pass over a track

quiet_step : (x : Reached) (t w b : ℕ) → is_on w ≡ false → x.pass.end ≤ b → t ≤ b → (step x t w).pass.end ≤ b
quiet_step x t w b f h k =
    elim (by_bool (is_off w)) [
      | inl o ↦
          rw (step_off x t w f o)
          (elim (by_bool (ltb 0 (cell x.counts (byte_a w) (byte_b w)))) [ inl l ↦ rw l (omega (arith, h, k)) | inr l ↦ rw l h ])
      | inr o ↦ rw (step_over x t w f o) h
    ]

any_step : (x : Reached) (t w b : ℕ) → x.pass.end ≤ b → t + 1 ≤ b → (step x t w).pass.end ≤ b
any_step x t w b h k =
    step_cases x t w (λ y. y.pass.end ≤ b) (omega (arith, h, k)) (omega (arith, h, k)) (omega (arith, h, k))

-- the tick reached
pass_tick : (n t : ℕ) (ds ws : List ℕ) (x : Reached) → length ws ≡ length ds → x.pass.tick ≡ t → (foldl step_on x (timed n t ds ws)).pass.tick ≡ t + sum ds
unfolding timed sum
pass_tick n t [] [] x e h = omega (arith, h)
pass_tick n t [] (w ∷ ws) x e h = absurd (omega arith)
pass_tick n t (d ∷ ds) [] x e h = absurd (omega arith)
pass_tick n t (d ∷ ds) (w ∷ ws) x e h = omega (arith, pass_tick (suc n) (t + d) ds ws (step x (t + d) w) (omega arith) (step_tick x (t + d) w))

-- no end is later than a tick after the last
pass_end : (n t : ℕ) (ds ws : List ℕ) (x : Reached) → length ws ≡ length ds → x.pass.end ≤ t + 1
    → (foldl step_on x (timed n t ds ws)).pass.end ≤ t + sum ds + 1
unfolding timed sum
pass_end n t [] [] x e h = omega (arith, h)
pass_end n t [] (w ∷ ws) x e h = absurd (omega arith)
pass_end n t (d ∷ ds) [] x e h = absurd (omega arith)
pass_end n t (d ∷ ds) (w ∷ ws) x e h =
    omega (arith, pass_end (suc n) (t + d) ds ws (step x (t + d) w) (omega arith) (any_step x (t + d) w (t + d + 1) (omega (arith, h)) (omega arith)))

-- with no start to come none is later than the last tick
quiet_pass : (n t : ℕ) (ds ws : List ℕ) (x : Reached) (b : ℕ) → length ws ≡ length ds → any is_on ws ≡ false → x.pass.end ≤ b → t + sum ds ≤ b
    → (foldl step_on x (timed n t ds ws)).pass.end ≤ b
unfolding timed sum any
quiet_pass n t [] [] x b e f h k = h
quiet_pass n t [] (w ∷ ws) x b e f h k = absurd (omega arith)
quiet_pass n t (d ∷ ds) [] x b e f h k = absurd (omega arith)
quiet_pass n t (d ∷ ds) (w ∷ ws) x b e f h k =
    elim (by_bool (is_on w)) [
      | inl o ↦ absurd (true≢false (rw o at f))
      | inr o ↦
          quiet_pass (suc n) (t + d) ds ws (step x (t + d) w) b (omega arith) (rw o at f)
          (quiet_step x (t + d) w b o h (omega (arith, k))) (omega (arith, k))
    ]

-- the same where the starts stop before the last tick
late_pass : (j n t : ℕ) (ds ws : List ℕ) (x : Reached) → length ws ≡ length ds → any is_on (drop j ws) ≡ false → 0 < sum (drop j ds) → x.pass.end ≤ t + 1
    → (foldl step_on x (timed n t ds ws)).pass.end ≤ t + sum ds
unfolding timed sum
late_pass zero n t ds ws x e f k h = quiet_pass n t ds ws x (t + sum ds) e f (omega (arith, h, k)) (omega arith)
late_pass (suc j) n t [] [] x e f k h = absurd (omega (arith, k))
late_pass (suc j) n t [] (w ∷ ws) x e f k h = absurd (omega arith)
late_pass (suc j) n t (d ∷ ds) [] x e f k h = absurd (omega arith)
late_pass (suc j) n t (d ∷ ds) (w ∷ ws) x e f k h =
    omega (arith, late_pass j (suc n) (t + d) ds ws (step x (t + d) w) (omega arith) f k (any_step x (t + d) w (t + d + 1) (omega (arith, h)) (omega arith)))

-- ---- a track

end_of_most : (p : Pass) → end_of p ≤ max p.end p.tick
end_of_most p = elim (by_bool (ltb p.ended p.started)) [ inl t ↦ rw t (omega arith) | inr t ↦ rw t (omega arith) ]

module _ {ds ws : List ℕ} (track : Track ds ws) where
  last : Reached
  last = foldl step_on nothing (events_of ds ws)

  -- what bounds the pass bounds the track
  ends_by : (b : ℕ) → last.pass.end ≤ b → sum ds ≤ b → track_end (events_of ds ws) ≤ b
  unfolding last nothing
  ends_by b h k =
      omega (
        arith,
        sym (pass_finds (events_of ds ws) (timed_formed 0 0 ds ws track.formed)),
        end_of_most last.pass,
        h,
        k,
        pass_tick 0 0 ds ws nothing track.same refl,
      )

  pub ends_soon : track_end (events_of ds ws) ≤ sum ds + 1
  unfolding last nothing
  ends_soon = ends_by (sum ds + 1) (omega (arith, pass_end 0 0 ds ws nothing track.same (omega arith))) (omega arith)

  pub ends_quiet : any is_on ws ≡ false → track_end (events_of ds ws) ≤ sum ds
  unfolding last nothing
  ends_quiet f = ends_by (sum ds) (quiet_pass 0 0 ds ws nothing (sum ds) track.same f (omega arith) (omega arith)) (omega arith)

  pub ends_late : (j : ℕ) → any is_on (drop j ws) ≡ false → 0 < sum (drop j ds) → track_end (events_of ds ws) ≤ sum ds
  unfolding last nothing
  ends_late j f k = ends_by (sum ds) (omega (arith, late_pass j 0 0 ds ws nothing track.same f k (omega arith))) (omega arith)
