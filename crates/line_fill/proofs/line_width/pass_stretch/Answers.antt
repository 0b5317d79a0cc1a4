use Rattle.std.proofs.Common.{◌≡◌, ◌+◌, ◌-◌, ◌<◌, ◌≤◌, arith, ⊎_elim}
use Rattle.std.proofs.lemmas.Int.{ints}
use Rattle.std.proofs.lemmas.Bool.{cases_lt}
use Rattle.metrics.specs.Widths.{byte_width}
use Rattle.line_fill.specs.Fill.{passed_to}
use Rattle.line_fill.proofs.WidthLemmas.{passed_to-step}
use Rattle.line_fill.proofs.line_width.pass_stretch.Goals as goal
use Rattle.line_fill.proofs.line_width.pass_stretch.Goals.{After-pass-line_width}

stepped : (c : After-pass-line_width) → c.pass-line_width.result ≡ passed_to (byte_width c.args.pen.now c.args.text.now c.args.begin) c.args.text.now c.args.at (c.loop-k.k + 1 - c.args.at) c.args.line_width
stepped c =
    let unit = byte_width c.args.pen.now c.args.text.now c.args.begin in
    rw (passed_to-step unit c.args.text.now c.args.at c.loop-k.k c.args.line_width (omega arith), ← c.loop-k.invariant.line_width, ← c.byte_width.ensures.value, ← c.as_bytes-bytes.ensures.value) c.pass-line_width.ensures.value

pub returns-then-byte-eq10-clause-line_width : goal.returns-then-byte-eq10-clause-line_width
returns-then-byte-eq10-clause-line_width c = stepped (goal.at.returns-then-byte-eq10-clause-line_width c).After-pass-line_width

pub loop-k-preserved : goal.loop-k-preserved
loop-k-preserved c =
    let t = c.pass-line_width.ensures.total in
    let l = c.loop-k.invariant.low in
    let h = c.loop-k.invariant.high in
    let m = c.byte_width.ensures.most in
    record {
      line_width = stepped (goal.at.loop-k-preserved c).After-pass-line_width;
      quiet = λ j a b. ⊎_elim (λ (g : j < c.loop-k.k). c.loop-k.invariant.quiet j a g) (λ (g : c.loop-k.k ≤ j). let e : j ≡ c.loop-k.k = omega arith in rw (e, ← c.as_bytes-bytes.ensures.value) c.if-byte-eq10.false) (cases_lt j c.loop-k.k);
      low = omega (arith, ints);
      high = omega (arith, ints);
    }
