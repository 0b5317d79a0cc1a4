use Rattle.std.proofs.Common.{◌-◌, ◌<◌, length}
use Rattle.std.proofs.lemmas.List.Elements.{All-contains}
use Rattle.boxes.specs.Contents.{IsGoodSpan}
use Rattle.boxes.specs.declared.leaf.Span.{Span}
use Rattle.line_fill.proofs.stops.hyphen_at.Goals as goal

pub pen-requires-clause-face : goal.pen-requires-clause-face
pen-requires-clause-face c = All-contains (λ (s : Span). s.face.0 < length c.args.faces.now) c.args.leaf.now.spans c.span_at-span.result.now c.requires.faced c.span_at-span.ensures.listed

pub pen-requires-clause-size : goal.pen-requires-clause-size
pen-requires-clause-size c = (All-contains IsGoodSpan c.args.leaf.now.spans c.span_at-span.result.now c.requires.good.sizes c.span_at-span.ensures.listed).size
