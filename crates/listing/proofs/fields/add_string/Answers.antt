use Rattle.std.proofs.Common.{codes}
use Rattle.std.proofs.lemmas.Result.{err_from_is_err_and}
use Rattle.std.specs.List.{flat_map}
use Rattle.listing.specs.Records.{escape}
use Rattle.bk_io.proofs.Passing.{first_of_three, second_of_three, three_given}
use Rattle.listing.proofs.RecordLemmas.{string-is}
use Rattle.listing.proofs.fields.add_string.Goals as goal

pub returns-in_err-add_text-clause-bytes : goal.returns-in_err-add_text-clause-bytes
returns-in_err-add_text-clause-bytes g c =
    let text = c.args.text.now in
    let p = err_from_is_err_and c.from_residual.result c.from_residual.ensures.1 in
    rw p.1 (first_of_three _ _ _ (codes " \"") (flat_map escape text) (codes "\"") _ (string-is text) c.in_err-add_text.ensures.bytes)

pub returns-in_err-add_bytes-clause-bytes : goal.returns-in_err-add_bytes-clause-bytes
returns-in_err-add_bytes-clause-bytes g c =
    let text = c.args.text.now in
    let p = err_from_is_err_and c.from_residual-in_err-add_bytes.result c.from_residual-in_err-add_bytes.ensures.1 in
    rw p.1 (second_of_three _ _ _ _ _ (codes " \"") (flat_map escape text) (codes "\"") _ (string-is text) c.in_ok-add_text.ensures.bytes c.in_err-add_bytes.ensures.bytes)

pub returns-clause-bytes : goal.returns-clause-bytes
returns-clause-bytes g c =
    let text = c.args.text.now in
    three_given _ _ _ _ _ _ _ _ (codes " \"") (flat_map escape text) (codes "\"") _ c.add_text-2.result (string-is text)
    c.in_ok-add_text.ensures.bytes c.in_ok-add_bytes.ensures.bytes c.add_text-2.ensures.bytes
