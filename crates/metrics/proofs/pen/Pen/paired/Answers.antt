use Rattle.std.proofs.Common.{◌∙◌}
use Rattle.metrics.proofs.PenLemmas.{times_is}
use Rattle.metrics.proofs.pen.Pen.paired.Goals as goal

pub times-requires-clause-factor : goal.times-requires-clause-factor
times-requires-clause-factor c = c.self.invariant.2

pub returns-clause-value : goal.returns-clause-value
returns-clause-value c =
    let i = c.self.invariant in
    rw (← c.self.view_is, ← c.paired.ensures.value) (c.times.ensures.value ∙ rw i.5 (times_is c.paired.result c.self.inside.face.now.units c.self.inside.size i.0 c.paired.ensures.most i.3 i.4))
