use Rattle.std.proofs.Common.{◌∙◌, sym, subst}
use Rattle.gen_text.specs.References.{AreTargets}
use Rattle.passes.proofs.settle.settle.Goals as goal

pub settle_for-requires-clause-targets : goal.settle_for-requires-clause-targets
settle_for-requires-clause-targets g c = subst (AreTargets c.args.input.now.dom.now c.args.input.now.styles.now) (sym c.as_slice.ensures) c.in_ok-referenced.ensures

pub settle_for-requires-clause-patterns : goal.settle_for-requires-clause-patterns
settle_for-requires-clause-patterns g c = c.as_ref.ensures.value ∙ c.in_ok-hyphenator.ensures
