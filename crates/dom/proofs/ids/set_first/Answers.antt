use Rattle.std.proofs.Common.{arith}
use Rattle.std.proofs.lemmas.Map.Text.{text_keys}
use Rattle.dom.proofs.ids.set_first.Goals as goal

pub returns-in-Some : goal.returns-in-Some
returns-in-Some c = λ k. grind (arith, text_keys)
