use Rattle.std.proofs.Common.{arith}
use Rattle.std.proofs.lemmas.Map.Text.{text_keys}
use Rattle.strings.proofs.named.push.Goals as goal

pub returns : goal.returns
returns c = λ k. grind (arith, text_keys)
