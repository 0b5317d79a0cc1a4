use Rattle.box_gen.proofs.ExampleLemmas.{parts_text}
use Rattle.box_gen.proofs.laws.blocks_part_text.Goals as goal

pub returns : goal.returns
returns c = parts_text
