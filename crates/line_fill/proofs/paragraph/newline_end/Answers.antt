use Rattle.std.proofs.Common.{◌≡◌, suc, ◌+◌, arith, subst, ◌∙◌}
use Rattle.line_fill.specs.Breaks.{stop_of}
use Rattle.line_fill.proofs.LineLemmas.{stop-step}
use Rattle.line_fill.proofs.paragraph.newline_end.Goals as goal

pub loop-k-preserved : goal.loop-k-preserved
loop-k-preserved c =
    let e : suc c.loop-k.k ≡ c.loop-k.k + 1 = omega arith in
    let s = stop-step c.args.bytes.now c.loop-k.k (let w = c.requires.within in omega arith) c.if-bytes-k-eq10.false in
    c.loop-k.invariant ∙ subst (λ k. stop_of c.args.bytes.now c.loop-k.k ≡ stop_of c.args.bytes.now k) e s
