-- Track after track: what is found in the tracks passed, then in those to come, is what is found in all.
use Prim.Native.Nat.{ℕ, suc, ◌+◌, ◌-◌, ◌≤◌, ◌<◌, ◌^◌}
use mathlib.Core.Bool.{true}
use mathlib.Core.List.{List, [], ◌∷◌, ◌++◌, append-nil, append_assoc}
use mathlib.Core.Path.{◌≡◌, refl, sym, ap, ◌∙◌}
use native.Mathlib.Omega.{arith}
use lib.ListN.{length, get_or}
use Rattle.rules.specs.Lists.{All}
use Rattle.rules.specs.Piece.{Event, piece, tracks, sizes_agree, largest_size}
use Rattle.rules.specs.Diagnostics.{Diagnostic, in_tracks, unmatched_found}
use Rattle.laws.specs.Admitted.{Admitted}
use Rattle.laws.proofs.Refusals.{sizes_agree_lem}
use Rattle.track_events.specs.Track.{Track, events_of, stretch}
use Rattle.track_events.proofs.Tracks.{track_part, length_stretch}
use Rattle.tracks.proofs.Cuts.{Cut, later, cut_start, cut_fits, cut_next, later_cons, later_none, whole_track}
use Rattle.tracks.proofs.Ranges.{ons, most_each}
use Rattle.pairing.specs.Queues.{Grid, Empty}
use Rattle.findings.specs.Found.{Found, FoundIn}
use Rattle.event_diagnostics.specs.Groups.{Searchable}
use Rattle.unmatched.specs.Stages.{Fresh, Emptied}
use Rattle.loss_diagnostics.specs.Pieces.{CanFind}
use Rattle.findings.proofs.Putting.{found_none, found_append, found_as}

-- the tracks before size i are passed; f is what is found in a track
pub record Walking (f : ℕ → List Event → List Diagnostic) (s ds ws : List ℕ) (at : ℕ) (p₀ d₀ : List ℕ) (i from next : ℕ) (p d : List ℕ) : Type 0 where
  pub cut : Cut s ds ws i from
  pub behind : 2 ≤ i
  pub few : next ≤ at + from
  pub passed : List Diagnostic
  pub found : Found passed at p₀ d₀ next p d
  pub all : passed ++ in_tracks f (i - 2) (later s ds ws i from) ≡ in_tracks f 0 (tracks (piece s ds ws))

pub walking_start : {f : ℕ → List Event → List Diagnostic} {s ds ws : List ℕ} {at : ℕ} {p d : List ℕ} → sizes_agree (piece s ds ws) ≡ true
    → Walking f s ds ws at p d 2 0 at p d
walking_start {s = s} {ds = ds} {ws = ws} {at = at} {p = p} {d = d} h =
    record { cut = cut_start s ds ws h; behind = omega arith; few = omega arith; passed = []; found = found_none at p d; all = refl }

module _ {f : ℕ → List Event → List Diagnostic} {s ds ws : List ℕ} {at : ℕ} {p₀ d₀ : List ℕ} {i from next : ℕ} {p d : List ℕ}
    (known : Admitted (piece s ds ws)) (v : Walking f s ds ws at p₀ d₀ i from next p d) where
  pub walking_end : length s ≤ i → FoundIn (in_tracks f 0 (tracks (piece s ds ws))) (length ds) at p₀ d₀ next p d
  unfolding in_tracks
  walking_end h =
      record {
        found = found_as (sym (append-nil v.passed) ∙ rw (later_none s ds ws i from h) at v.all) v.found;
        few = omega (arith, v.few, v.cut.rest);
      }

  module _ (more : i < length s) where
    abbrev to : ℕ
    to = from + get_or s i 0

    abbrev pub next_track : List Event
    next_track = events_of (stretch from to ds) (stretch from to ws)

    walking_fits : to ≤ length ds
    walking_fits = cut_fits v.cut more

    walking_track : Track (stretch from to ds) (stretch from to ws)
    walking_track = track_part (whole_track (piece s ds ws) known) from to (omega arith) walking_fits

    walking_long : length (stretch from to ds) ≡ get_or s i 0
    walking_long = length_stretch from to ds (omega arith) walking_fits ∙ omega arith

    -- tracks are at most 65,535
    walking_number : i - 2 ≤ largest_size
    walking_number = let a = sizes_agree_lem (piece s ds ws) known.sizes in omega (arith, a.sizes, a.tracks)

    -- the next diagnostic has its place below 2^32
    walking_room : at + length ds < 2 ^ 32 → next + length (stretch from to ds) < 2 ^ 32
    walking_room h = omega (arith, v.few, walking_long, walking_fits)

    pub walking_searchable : at + length ds < 2 ^ 32 → Searchable (stretch from to ds) (stretch from to ws) (i - 2) next
    walking_searchable h = record { events = walking_track; numbered = walking_number; room = walking_room h }

    pub walking_next : {r : ℕ} {p₁ d₁ : List ℕ} → FoundIn (f (i - 2) next_track) (length (stretch from to ds)) next p d r p₁ d₁
        → Walking f s ds ws at p₀ d₀ (i + 1) to r p₁ d₁
    unfolding in_tracks
    walking_next q =
        record {
          cut = cut_next v.cut more;
          behind = omega (arith, v.behind);
          few = omega (arith, q.few, v.few, walking_long);
          passed = v.passed ++ f (i - 2) next_track;
          found = found_append v.found q.found;
          all =
              append_assoc v.passed (f (i - 2) next_track) (in_tracks f (i + 1 - 2) (later s ds ws (i + 1) to))
              ∙ ap (λ (k : ℕ). v.passed ++ (f (i - 2) next_track ++ in_tracks f k (later s ds ws (i + 1) to))) number
              ∙ ap (λ (l : List (List Event)). v.passed ++ in_tracks f (i - 2) l) (sym (later_cons v.cut more))
              ∙ v.all;
        }
      where
        number : i + 1 - 2 ≡ suc (i - 2)
        number = omega (arith, v.behind)

-- ---- ons and offs, track after track: no start waits between two tracks
pub record Tracking (s ds ws : List ℕ) (at n : ℕ) (w₀ p₀ d₀ : List ℕ) (h t : List (List ℕ)) (i from next : ℕ) (w p d : List ℕ) : Type 0 where
  pub walk : Walking unmatched_found s ds ws at p₀ d₀ i from next p d
  pub heads : Empty h
  pub tails : Grid t
  pub kept : length w ≡ length w₀
  pub most : All (λ es. ons es ≤ n) (later s ds ws i from)

pub tracking_start : {s ds ws : List ℕ} {at n : ℕ} {w p d : List ℕ} {h t : List (List ℕ)} → CanFind (piece s ds ws) w n → Empty h → Grid t
    → Tracking s ds ws at n w p d h t 2 0 at w p d
tracking_start {s} {ds} {ws} {n = n} can e g =
    record { walk = walking_start can.admitted.sizes; heads = e; tails = g; kept = refl; most = most_each (piece s ds ws) n can.most }

module _ {s ds ws : List ℕ} {at n : ℕ} {w₀ p₀ d₀ : List ℕ} {h t : List (List ℕ)} {i from next : ℕ} {w p d : List ℕ}
    (can : CanFind (piece s ds ws) w₀ n) (small : at + length ds < 2 ^ 32) (v : Tracking s ds ws at n w₀ p₀ d₀ h t i from next w p d)
    (more : i < length s) where
  each : All (λ es. ons es ≤ n) (next_track can.admitted v.walk more ∷ later s ds ws (i + 1) (from + get_or s i 0))
  each = rw (later_cons v.walk.cut more) at v.most

  pub tracking_fresh : Fresh h t w (stretch from (from + get_or s i 0) ds) (stretch from (from + get_or s i 0) ws) n (i - 2) next
  tracking_fresh =
      record {
        events = walking_track can.admitted v.walk more;
        heads = v.heads;
        tails = v.tails;
        area = omega (arith, can.area, v.kept);
        ons = each.0;
        numbered = walking_number can.admitted v.walk more;
        room = walking_room can.admitted v.walk more small;
      }

  pub tracking_next : {h' t' : List (List ℕ)} {r : ℕ} {w' p₁ d₁ : List ℕ} → length w' ≡ length w → Emptied h' t'
      → FoundIn (unmatched_found (i - 2) (next_track can.admitted v.walk more)) (length (stretch from (from + get_or s i 0) ds)) next p d r p₁ d₁
      → Tracking s ds ws at n w₀ p₀ d₀ h' t' (i + 1) (from + get_or s i 0) r w' p₁ d₁
  tracking_next k e q =
      record {
        walk = walking_next can.admitted v.walk more q;
        heads = e.heads;
        tails = e.tails;
        kept = k ∙ v.kept;
        most = each.1;
      }
