use Rattle.std.proofs.Common.{◌≡◌, ◌-◌, [], None, sym, ap, ◌∙◌}
use Rattle.metrics.specs.Widths.{begun_at, byte_width, char_width, last_from, width_after}
use Rattle.metrics.proofs.LastLemmas.{no_pairs, plain_after}
use Rattle.metrics.proofs.WidthLemmas.{begun_ascii}
use Rattle.metrics.proofs.pen.Pen.byte_width.Goals as goal

pub returns-then-not-has_pairs-clause-value : goal.returns-then-not-has_pairs-clause-value
unfolding byte_width char_width
returns-then-not-has_pairs-clause-value c =
    let none : c.args.self.now.face.pairs ≡ [] = rw (← c.self.view_is) (no_pairs c.self.inside.face.now.pairs (sym c.has_pairs.ensures.value ∙ c.if-not-has_pairs.true)) in
    c.ascii_width.ensures.value ∙ rw c.as_bytes.ensures.value (sym (ap (width_after c.args.self.now None) (begun_ascii c.args.text.now c.args.at c.requires (rw c.as_bytes.ensures.value at c.if-byte-lt128.true))))
    ∙ sym (plain_after c.args.self.now (last_from c.args.text.now c.args.begin (c.args.at - c.args.begin)) (begun_at c.args.text.now c.args.at) none)
