-- Each witness computes.
use mathlib.Core.Path.{refl}
use mathlib.Core.List.{flat_map, flatten}
use Rattle.rules.specs.Lists.{keep, any, every, position, change_first, insert, sort_by, below, sum}
use Rattle.rules.specs.Piece.{sizes_agree, timed, cut_tracks, well_formed}
use Rattle.rules.specs.RawNotes.{without_oldest, pair_one, raw_notes_of, most_notes}
use Rattle.rules.specs.Bars.{bars, bars_from, end_of_piece, bars_up_to}
use Rattle.rules.specs.Grid.{is_off_grid, grid}
use Rattle.rules.specs.Voices.{join_or_open, choose, place, voices}
use Rattle.rules.specs.Values.{values, split_in, twos}
use Rattle.rules.specs.Items.{read_items, cut_by, by_fours, read_staff}
use Rattle.rules.specs.Staff.{pieces, filled, voice_in}
use Rattle.rules.specs.ProofReader.{timed_from, voice_timed, heard_after}
use Rattle.rules.specs.ProofReaderTests.{full?, tied?, ends_meant?, right?, shaped?, even?}
use Rattle.rules.specs.Refusals.{unless, first_number, event_refusals, piece_refusals}
use Rattle.rules.specs.FurtherExamples.{printed_piece}
use Rattle.laws.proofs.Verdict.{says_shaped, says_values, says_all_clean, says_ties}
use Rattle.agreement.specs.Witnesses.{unfilled, Witnesses}

pub witnesses : Witnesses
unfolding flat_map flatten keep any every position change_first insert sort_by below sum sizes_agree timed cut_tracks well_formed without_oldest
    pair_one raw_notes_of most_notes bars_from end_of_piece bars_up_to is_off_grid grid join_or_open choose place voices values split_in twos read_items
    cut_by by_fours pieces filled voice_in timed_from voice_timed heard_after full? tied? ends_meant? right? shaped? even? unless first_number
    event_refusals piece_refusals
witnesses =
    record {
      engraved = refl;
      yes = refl;
      no = refl;
      unfilled_formed =
          record {
            shaped = (says_shaped (bars printed_piece) unfilled).0 refl;
            values = (says_values 480 (read_staff unfilled)).0 refl;
            clean = (says_all_clean (read_staff unfilled)).0 refl;
            ties = (says_ties 480 (bars printed_piece) (read_staff unfilled)).0 refl;
          };
      unfilled_no = refl;
      uneven = refl;
      short_work = refl;
      together = refl;
      short_heads = refl;
      short_leftovers = refl;
      uneven_together = refl;
    }
