use Rattle.std.proofs.Common.{◌≡◌, ◌-◌, ◌<◌, max, min, length, arith}
use Rattle.std.proofs.lemmas.List.Elements.{All-contains}
use Rattle.boxes.specs.Contents.{IsGoodSpan}
use Rattle.boxes.specs.declared.leaf.Span.{Span}
use Rattle.line_fill.proofs.EndLemmas.{stop_within}
use Rattle.line_fill.proofs.StopLemmas.{passed-on}
use Rattle.line_fill.proofs.stops.pass_to.Goals as goal

pub pen-pen-requires-clause-face : goal.pen-pen-requires-clause-face
pen-pen-requires-clause-face c = All-contains (λ (s : Span). s.face.0 < length c.args.faces.now) c.args.leaf.now.spans c.span_at-span.result.now c.requires.can.faced c.span_at-span.ensures.listed

pub pen-pen-requires-clause-size : goal.pen-pen-requires-clause-size
pen-pen-requires-clause-size c = (All-contains IsGoodSpan c.args.leaf.now.spans c.span_at-span.result.now c.requires.can.good.sizes c.span_at-span.ensures.listed).size

pub loop-at-preserved : goal.loop-at-preserved
loop-at-preserved c =
    let run = c.pass_stretch-stretch.ensures in
    let span = c.span_at-span.ensures in
    let begin : c.max-begin.result ≡ max c.args.from c.span_at-span.result.now.from = let m = c.max-begin.ensures in omega arith in
    let low = span.begins in
    let goes = run.goes in
    let most = run.within in
    let e : c.min-end.result ≡ min c.args.to c.span_at-span.result.now.to = let m = c.min-end.ensures in omega arith in
    let stop = c.requires.within in
    record {
      most = omega arith;
      passed = passed-on c.args.faces.now c.args.leaf.now c.span_at-span.result.now c.args.from c.loop-at.at c.pass_stretch-stretch.result.to c.loop-at.line_width c.pass_stretch-stretch.result.line_width
          span.here low goes (omega arith) (omega arith) c.loop-at.invariant.passed
          (rw (← c.as_str-text.ensures) run.quiet)
          (rw (← c.as_str-text.ensures, ← c.pen-pen.ensures, ← begin) run.line_width)
          run.high;
    }

pub span_at-span-requires-clause-at : goal.span_at-span-requires-clause-at
span_at-span-requires-clause-at c =
    let f = c.requires.from in
    let s = stop_within c.args.leaf.now.text c.args.from (omega arith) in
    let w = c.requires.within in
    let t = c.loop-at-test.true in
    omega (arith, s)
