use Rattle.std.proofs.Common.{arith}
use Rattle.std.proofs.lemmas.Result.{err_from_is_err_and}
use Rattle.listing.specs.Fields.{field_bytes}
use Rattle.bk_io.proofs.Passing.{next_fails, next_passes}
use Rattle.listing.proofs.fields.add_fields.Goals as goal

pub loop-part-preserved : goal.loop-part-preserved
loop-part-preserved g c = record {
  put = next_passes field_bytes _ _ _ _ _ _ c.args.fields.now c.loop-part.part-index _ c.loop-part-test.true c.loop-part.invariant.put c.in_ok-add_field.ensures.bytes;
  later = omega (arith, c.add_field.ensures.cause.later);
}

pub returns-in_err-add_field-clause-bytes : goal.returns-in_err-add_field-clause-bytes
returns-in_err-add_field-clause-bytes g c =
    let p = err_from_is_err_and c.from_residual.result c.from_residual.ensures.1 in
    rw p.1 (next_fails field_bytes _ _ _ _ _ c.args.fields.now c.loop-part.part-index _ c.loop-part-test.true c.loop-part.invariant.put c.in_err-add_field.ensures.bytes)
