use Rattle.std.proofs.Common.{◌≡◌, ◌-◌, suc, length, arith}
use Rattle.seams.proofs.WidthLemmas.{depth_is}
use Rattle.seams.proofs.widths.Widths.at_depth.Goals as goal

pub returns-clause-value : goal.returns-clause-value
returns-clause-value c = λ t inner outer same size.
    let last : suc (c.args.depth - 1) ≡ length outer = omega arith in
    depth_is t c.args.measure c.args.self.now inner outer (c.args.depth - 1) c.at.result same last c.at.ensures.value
