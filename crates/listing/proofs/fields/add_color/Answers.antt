use Rattle.bk_io.proofs.Passing.{gives_same}
use Rattle.listing.proofs.fields.add_color.Goals as goal

pub returns-clause-bytes : goal.returns-clause-bytes
returns-clause-bytes g c = gives_same _ _ _ _ _ _ c.add.result c.color_bytes.ensures c.add.ensures.bytes
