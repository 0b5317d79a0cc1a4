use Rattle.std.proofs.Common.{◌≡◌, ◌<◌, max, length, arith, ◌∙◌}
use Rattle.std.proofs.lemmas.List.Elements.{All-contains}
use Rattle.boxes.specs.Contents.{IsGoodSpan}
use Rattle.boxes.specs.declared.leaf.Span.{Span}
use Rattle.line_fill.proofs.FillLemmas.{unit_here}
use Rattle.line_fill.proofs.stops.unit_at.Goals as goal

pub pen-pen-requires-clause-face : goal.pen-pen-requires-clause-face
pen-pen-requires-clause-face c = All-contains (λ (s : Span). s.face.0 < length c.args.faces.now) c.args.leaf.now.spans c.span_at-span.result.now c.requires.faced c.span_at-span.ensures.listed

pub pen-pen-requires-clause-size : goal.pen-pen-requires-clause-size
pen-pen-requires-clause-size c = (All-contains IsGoodSpan c.args.leaf.now.spans c.span_at-span.result.now c.requires.good.sizes c.span_at-span.ensures.listed).size

pub returns-clause-value : goal.returns-clause-value
returns-clause-value c =
    let begin : c.max.result ≡ max c.args.from c.span_at-span.result.now.from = let m = c.max.ensures in omega arith in
    rw (c.as_str.ensures, c.pen-pen.ensures, begin) at c.byte_width.ensures.value
    ∙ unit_here c.args.faces.now c.args.leaf.now c.span_at-span.result.now c.span_at-span.ensures.here c.args.from c.args.at c.span_at-span.ensures.begins c.span_at-span.ensures.ends
