use Rattle.std.proofs.Common.{◌≡◌, ◌-◌, [], false, sym, ◌∙◌}
use Rattle.metrics.specs.Widths.{begun_at, byte_width, last_from}
use Rattle.metrics.proofs.LastLemmas.{no_pairs, plain_after}
use Rattle.metrics.proofs.pen.Pen.other_width.Goals as goal

pub returns-else-has_pairs-clause-value : goal.returns-else-has_pairs-clause-value
unfolding byte_width
returns-else-has_pairs-clause-value c =
    let none : c.args.self.now.face.pairs ≡ [] = rw (← c.self.view_is) (no_pairs c.self.inside.face.now.pairs (sym c.has_pairs.ensures.value ∙ c.if-has_pairs.false)) in
    c.plain_width.ensures.value ∙ sym (plain_after c.args.self.now (last_from c.args.text.now c.args.begin (c.args.at - c.args.begin)) (begun_at c.args.text.now c.args.at) none)
