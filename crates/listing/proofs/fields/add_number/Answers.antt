use Rattle.std.proofs.Common.{◌≡◌, rules}
use Rattle.std.specs.Fmt.{signed_decimal}
use Rattle.bk_io.proofs.Passing.{gives_same}
use Rattle.listing.proofs.RecordLemmas.{number-is}
use Rattle.listing.proofs.fields.add_number.Goals as goal

pub returns-clause-bytes : goal.returns-clause-bytes
returns-clause-bytes g c =
    let text : c.format.result.now ≡ signed_decimal c.args.n = search rules in
    gives_same _ _ _ _ _ _ c.add_texts.result (number-is c.args.n c.format.result.now text) c.add_texts.ensures.bytes
