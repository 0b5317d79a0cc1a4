use Rattle.std.proofs.Common.{arith}
use Rattle.std.proofs.lemmas.Grind.{common_steps}
use Rattle.listing.specs.Records.{face_field, style_name, word}
use Rattle.paint.specs.Faces.{face_text}
use Rattle.listing.proofs.records.label_of.Goals as goal

pub returns : goal.returns
unfolding face_field face_text style_name word
returns c = grind (arith, common_steps)
