use Rattle.std.proofs.Common.{ap, min, ◌^◌}
use Rattle.metrics.specs.Widths.{text_width}
use Rattle.metrics.proofs.TextWidthLemmas.{text_sum}
use Rattle.metrics.proofs.laws.texts_are_characters.Goals as goal

pub returns : goal.returns
unfolding text_width
returns c = λ p text u. ap (λ z. min z (2 ^ 60)) (text_sum p text u)
