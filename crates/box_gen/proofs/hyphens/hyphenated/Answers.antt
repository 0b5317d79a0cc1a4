use Rattle.std.proofs.Common.{◌∙◌, ap, sym}
use Rattle.inline_text.specs.Joined.{laid_texts}
use Rattle.box_gen.specs.Runs.{autos_by, styles_in}
use Rattle.box_gen.proofs.HyphenLemmas.{without-patterns}
use Rattle.box_gen.proofs.hyphens.hyphenated.Goals as goal

pub returns-in-None : goal.returns-in-None
returns-in-None c = λ ts e. e ∙ ap laid_texts (sym (without-patterns c.args.hyphenator (autos_by (styles_in c.args.marks.now)) ts c.in-None.is))
