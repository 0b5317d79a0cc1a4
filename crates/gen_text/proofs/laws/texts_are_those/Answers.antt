use Rattle.gen_text.proofs.TextLemmas.{text-that}
use Rattle.gen_text.proofs.laws.texts_are_those.Goals as goal

pub returns : goal.returns
returns c = text-that
