use Rattle.std.proofs.Common.{◌∙◌, ap, sym}
use Rattle.std.specs.Prelude.{option_map}
use Rattle.bk_num.specs.declared.values.Pseudo.TheVariants as pseudo
use Rattle.box_gen.proofs.input.own_style.Goals as goal

pub returns-in-Some-clause-range : goal.returns-in-Some-clause-range
returns-in-Some-clause-range c = c.requires.ranges c.args.node.0 pseudo.Element c.in-Some.faced.now.style (sym c.faced_at.ensures.value ∙ ap (option_map (λ s. s.now.style)) c.in-Some.is)
