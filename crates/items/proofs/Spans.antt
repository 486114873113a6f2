-- A span as items: written, or counted; and the items that it is then.
use Prim.Native.Nat.{ℕ, ◌+◌, ◌-◌, ◌*◌, ◌≤◌, ◌<◌}
use mathlib.Core.Bool.{true, false}
use mathlib.Core.List.{List}
use mathlib.Core.Path.{◌≡◌, refl, sym, ap, ◌∙◌}
use native.Mathlib.Omega.{arith}
use lib.ListN.{length-map}
use Rattle.rules.specs.Values.{split_span}
use Rattle.laws.proofs.Splits.{split_whole}
use Rattle.values.specs.Table as values
use Rattle.values.specs.Table.{span_words, Counts, Spanned}
use Rattle.values.specs.declared.Count.{Count}
use Rattle.values.specs.declared.Split.{Split}
use Rattle.items.specs.Putting.{put_at}
use Rattle.items.specs.Writing.{quarter, IsTable, pairs, span_items, SpanPut}
use Rattle.items.proofs.Putting.{put_parts}

module _ {table : List ℕ} (t : IsTable table) {ticks : ℕ} where
  -- what `split_span` asks
  pub span_room : {at size : ℕ} → at + span_items (quarter table) ticks ≤ size → values.Room table ticks at size
  span_room h = record { p = quarter table; some_ticks = t.some_ticks; is = t.is; room = h }

  -- a span that was written
  pub span_written : {from : Split} {bits low high : ℕ} {heads₀ keys₀ heads₁ keys₁ : List ℕ} {r : Split}
      → Spanned (quarter table) ticks from.at bits heads₀ heads₁ r → keys₁ ≡ put_at (pairs low high (r.at - from.at)) (2 * from.at) keys₀
      → SpanPut true (quarter table) ticks bits low high from heads₀ keys₀ heads₁ keys₁ (record { at = r.at; left = from.left + r.left })
  span_written {from} {bits} {low} {high} {heads₀} {keys₀} {heads₁} {keys₁} {r} s k =
      let many : r.at - from.at ≡ span_items (quarter table) ticks = omega (arith, s.next) in
      record {
        next = s.next;
        heads =
            record {
              is =
                  s.is
                  ∙ rw (s.next, ← length-map (split_span (quarter table) ticks).pieces (values.piece_word bits))
                  (sym (put_parts (span_words (quarter table) ticks bits) from.at heads₀));
            };
        keys = record { is = rw many at k };
        left = ap (λ (k : ℕ). from.left + k) s.left;
      }

  -- a span that was counted
  pub span_counted : (from : Split) (bits low high : ℕ) (heads keys : List ℕ) {r : Count} → Counts (quarter table) ticks r
      → SpanPut false (quarter table) ticks bits low high from heads keys heads keys
      (record { at = from.at + r.pieces; left = from.left + r.left })
  span_counted from bits low high heads keys c =
      record {
        next = ap (λ (k : ℕ). from.at + k) c.pieces;
        heads = record { is = refl };
        keys = record { is = refl };
        left = ap (λ (k : ℕ). from.left + k) c.left;
      }

-- what is left of a span is no more than the span
pub left_few : (p t : ℕ) → 0 < p → (split_span p t).left ≤ t
left_few p t h = omega (arith, split_whole p t h)
