use Rattle.std.proofs.Common.{arith}
use Rattle.std.proofs.lemmas.Map.Text.{text_keys}
use Rattle.strings.proofs.named.make_room.Goals as goal

pub returns-clause-same : goal.returns-clause-same
returns-clause-same c = λ k. grind (arith, text_keys)
