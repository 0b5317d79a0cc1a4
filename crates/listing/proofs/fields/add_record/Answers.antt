use Rattle.std.proofs.Common.{codes}
use Rattle.std.proofs.lemmas.Result.{err_from_is_err_and}
use Rattle.std.specs.List.{flat_map}
use Rattle.listing.specs.Fields.{field_bytes}
use Rattle.bk_io.proofs.Passing.{first_of_three, second_of_three, three_given}
use Rattle.listing.proofs.RecordLemmas.{record-parts}
use Rattle.listing.proofs.fields.add_record.Goals as goal

pub returns-in_err-add_text-clause-bytes : goal.returns-in_err-add_text-clause-bytes
returns-in_err-add_text-clause-bytes g c =
    let name = c.args.name.now in
    let fields = c.args.fields.now in
    let p = err_from_is_err_and c.from_residual.result c.from_residual.ensures.1 in
    rw p.1 (first_of_three _ _ _ name (flat_map field_bytes fields) (codes "\n") _ (record-parts name fields) c.in_err-add_text.ensures.bytes)

pub returns-in_err-add_fields-clause-bytes : goal.returns-in_err-add_fields-clause-bytes
returns-in_err-add_fields-clause-bytes g c =
    let name = c.args.name.now in
    let fields = c.args.fields.now in
    let p = err_from_is_err_and c.from_residual-in_err-add_fields.result c.from_residual-in_err-add_fields.ensures.1 in
    rw p.1 (second_of_three _ _ _ _ _ name (flat_map field_bytes fields) (codes "\n") _ (record-parts name fields) c.in_ok-add_text.ensures.bytes c.in_err-add_fields.ensures.bytes)

pub returns-clause-bytes : goal.returns-clause-bytes
returns-clause-bytes g c =
    let name = c.args.name.now in
    let fields = c.args.fields.now in
    three_given _ _ _ _ _ _ _ _ name (flat_map field_bytes fields) (codes "\n") _ c.add_text-2.result (record-parts name fields)
    c.in_ok-add_text.ensures.bytes c.in_ok-add_fields.ensures.bytes c.add_text-2.ensures.bytes
