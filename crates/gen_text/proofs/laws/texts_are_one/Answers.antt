use Rattle.gen_text.proofs.ContentLemmas.{text-one}
use Rattle.gen_text.proofs.laws.texts_are_one.Goals as goal

pub returns : goal.returns
returns c = text-one
