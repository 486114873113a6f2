-- `files::write_piece` writes the sizes, and gathers the tracks again.
use Prim.Native.Nat.{ℕ, ◌+◌, ◌≤◌}
use mathlib.Core.List.{map, []}
use mathlib.Core.Path.{◌≡◌, ◌∙◌, ap, sym}
use native.Mathlib.Omega.{arith}
use lib.ListN.{length, length-set, length-map}
use Rattle.rules.specs.Lists.{written}
use Rattle.rules.specs.File.{file_tracks, file_piece}
use Rattle.laws.proofs.Parsed.{agrees_found}
use Rattle.files.specs.Examined.{Whole}
use Rattle.file_tracks.proofs.Laws.{fitted_all}
use Rattle.files.proofs.Laws.{sizes_put, sizes_kept, sizes_are, deltas_long, words_long}
use Rattle.files.proofs.write_piece.Goals as goal

fits : {n m k : ℕ} → n ≡ m → m ≤ k → n ≤ k
fits e l = rw e l

pub bounds-sizes-1 : goal.bounds-sizes-1
bounds-sizes-1 c = simp length-set (omega arith)

pub slice_bounds-gather_tracks-count : goal.slice_bounds-gather_tracks-count
slice_bounds-gather_tracks-count c = simp length-set (omega arith)

pub slice_bounds-gather_tracks-start : goal.slice_bounds-gather_tracks-start
slice_bounds-gather_tracks-start c = simp length-set (omega arith)

pub gather_tracks-requires : goal.gather_tracks-requires
gather_tracks-requires c =
    let whole : (Whole c.args.bytes.now c.args.e) = c.requires.whole in
    let w = whole in
    (w.ahead, w.within, w.small)

pub shape_of-sizes : goal.shape_of-sizes
shape_of-sizes c =
    let a = c.args in
    sizes_kept a.sizes.now a.e.division a.e.tracks c.gather_tracks.new.sizes c.gather_tracks.auto.sizes

pub returns : goal.returns
returns c =
    let whole : (Whole c.args.bytes.now c.args.e) = c.requires.whole in
    let a = c.args in
    let w = whole in
    let ts = file_tracks a.bytes.now in
    let (g, held) = agrees_found _ _ _ ts w.read c.gather_tracks.ensures in record {
      sizes = sizes_put a.sizes.now a.e.division a.e.tracks (map length ts) c.gather_tracks.new.sizes
          (fits (ap (λ n. 2 + n) (length-map ts length ∙ sym w.tracks)) c.requires.tracks_in_bounds.0) held.sizes
          ∙ ap (λ xs. written xs a.sizes.now) (sizes_are a.bytes.now a.e w [] [] []);
      deltas =
          held.events.deltas ∙ fitted_all (file_piece a.bytes.now).deltas a.deltas.now
          (fits (deltas_long a.bytes.now a.e w [] [] []) c.requires.tracks_in_bounds.1);
      words =
          held.events.words ∙ fitted_all (file_piece a.bytes.now).words a.words.now
          (fits (words_long a.bytes.now a.e w [] [] []) c.requires.tracks_in_bounds.2);
    }
