use Rattle.std.proofs.Common.{◌≡◌, ◌∙◌, ℕ, List, ap, ap₂, max, arith}
use Rattle.metrics.specs.Pen.{PenView}
use Rattle.metrics.specs.Widths.{byte_width}
use Rattle.line_place.specs.Runs.{is_free}
use Rattle.line_place.proofs.SumLemmas.{sums_step}
use Rattle.line_place.proofs.sums.add_piece.Goals as goal

pub loop-at-preserved : goal.loop-at-preserved
loop-at-preserved c =
    let inv = c.loop-at.invariant in
    let test = c.loop-at-test.true in
    let low = inv.low in
    let begins = c.requires.begins in
    let text : c.as_bytes-bytes.result.now ≡ c.args.leaf.now.text = c.as_bytes-bytes.ensures.value ∙ c.as_str-text.ensures in
    let begin : c.max-begin.result ≡ max c.args.ends.from c.args.span.now.from = let m = c.max-begin.ensures in omega arith in
    record {
      low = omega (arith, low);
      high = omega (arith, test);
      sums = sums_step c.args.faces.now c.args.leaf.now c.args.span.now c.args.ends.free c.args.ends.from c.loop-at.at c.byte_width-width.result c.is_free.result c.loop-at.sums c.with-sums.result
          (omega (arith, low, begins)) inv.sums (c.requires.stands.here c.loop-at.at low test)
          (c.byte_width-width.ensures.value ∙ ap (λ (b : ℕ). byte_width c.pen-pen.result c.as_str-text.result.now b c.loop-at.at) begin ∙ ap₂ (λ (p : PenView) (t : List ℕ). byte_width p t (max c.args.ends.from c.args.span.now.from) c.loop-at.at) c.pen-pen.ensures c.as_str-text.ensures)
          (let most = c.byte_width-width.ensures.most in omega (arith, most))
          (c.is_free.ensures ∙ ap (λ (t : List ℕ). is_free t c.args.ends.free c.loop-at.at) text)
          c.with-sums.ensures.width c.with-sums.ensures.passed;
    }
