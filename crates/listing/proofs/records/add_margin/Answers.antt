use Rattle.std.proofs.Common.{ℕ, List, ap}
use Rattle.listing.specs.Records.{item_record}
use Rattle.paint.specs.Views.{text_item}
use Rattle.bk_io.proofs.Passing.{same_gives}
use Rattle.listing.proofs.records.add_margin.Goals as goal

pub returns-clause-bytes : goal.returns-clause-bytes
returns-clause-bytes g c =
    same_gives _ _ _ _ _ _ c.add_text.result c.add_text.ensures.bytes
    (ap (λ (z : List ℕ). item_record (text_item c.args.faces.now c.args.margin.now.style z)) c.as_str.ensures)
