use Rattle.bk_io.proofs.Prefixes.{longest}
use Rattle.bk_io.proofs.texts.longest_prefix.Goals as goal

pub returns : goal.returns
returns c = longest
