-- What is answered of a head, from what reading it ensures.
use Prim.Native.Nat.{ℕ}
use mathlib.Core.List.{List}
use mathlib.Core.Path.{◌≡◌, sym, ap, ◌∙◌}
use Rattle.rules.specs.Changes as rules
use Rattle.rules.specs.Changes.{part_head}
use Rattle.rules.specs.Piece.{Event}
use Rattle.rules.specs.Refusals.{given}
use Rattle.track_events.specs.Track.{stretch}
use Rattle.track_events.proofs.Tracks.{length_stretch}
use Rattle.tracks.specs.Spans.{IsSpan}
use Rattle.tracks.specs.declared.Span.{Span}
use Rattle.changes.specs.Heads.{HeadIs, PartHeadIs}
use Rattle.changes.specs.declared.PartHead.{PartHead}
use Rattle.changes.specs.declared.Head.{Head}
use Rattle.heads.specs.Answers.{head_of}

pub head_given : (h : rules.Head) (r : Head) → HeadIs h r → head_of r ≡ h
head_given h r is =
    λ i. record { tempo = is.tempo i; meter = record { upper = is.upper i; lower = is.lower i }; key = sym is.key i }

-- the part's head, read off the stretch where its track stands
pub part_given : (ds ws : List ℕ) {es : List Event} {r : Span} {h : PartHead} → IsSpan ds ws es r → PartHeadIs (stretch r.from r.to ws) h
    → given (record { channel = h.channel; program = h.program }) ≡ given (part_head es)
part_given ds ws {es} {r} {h} s is =
    let d = stretch r.from r.to ds in
    let same = length_stretch r.from r.to ds s.order s.deltas ∙ sym (length_stretch r.from r.to ws s.order s.words) in
    λ i.
    given
    (record {
      channel = (is.channel d same ∙ ap (λ l. (part_head l).channel) s.events) i;
      program = (is.program d same ∙ ap (λ l. (part_head l).program) s.events) i;
    })
