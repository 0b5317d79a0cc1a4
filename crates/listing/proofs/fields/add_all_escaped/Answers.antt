use Rattle.std.proofs.Common.{◌∙◌, arith, subst}
use Rattle.std.proofs.lemmas.List.{take_all}
use Rattle.std.proofs.lemmas.Result.{err_from_is_err_and}
use Rattle.std.specs.List.{flat_map}
use Rattle.listing.specs.Records.{escape}
use Rattle.bk_io.specs.Buffers.{Passes, TakesPrefix}
use Rattle.bk_io.proofs.Passing.{next_fails, next_passes, passes_none}
use Rattle.listing.proofs.fields.add_all_escaped.Goals as goal

pub loop-b-init : goal.loop-b-init
loop-b-init g c = record { put = passes_none _ _; later = omega arith }

pub loop-b-preserved : goal.loop-b-preserved
loop-b-preserved g c = record {
  put = next_passes escape _ _ _ _ _ _ c.as_bytes-b-items.result.now c.loop-b.b-index 0 c.loop-b-test.true c.loop-b.invariant.put c.in_ok-add_escaped.ensures.bytes;
  later = omega (arith, c.add_escaped.ensures.cause.later);
}

pub returns-in_err-add_escaped-clause-bytes : goal.returns-in_err-add_escaped-clause-bytes
returns-in_err-add_escaped-clause-bytes g c =
    let p = err_from_is_err_and c.from_residual.result c.from_residual.ensures.1 in
    rw p.1 (subst (λ ls. TakesPrefix (g.S.Sink.taken c.args.sink.now) c.args.buffer.now (g.S.Sink.taken c.add_escaped.new.sink) (flat_map escape ls)) c.as_bytes-b-items.ensures.value
    (next_fails escape _ _ _ _ _ c.as_bytes-b-items.result.now c.loop-b.b-index 0 c.loop-b-test.true c.loop-b.invariant.put c.in_err-add_escaped.ensures.bytes))

pub returns-clause-bytes : goal.returns-clause-bytes
returns-clause-bytes g c =
    subst (λ ls. Passes (g.S.Sink.taken c.args.sink.now) c.args.buffer.now (g.S.Sink.taken c.loop-b.sink) c.loop-b.buffer (flat_map escape ls))
    (take_all c.loop-b.b-index c.as_bytes-b-items.result.now c.loop-b-test.false ∙ c.as_bytes-b-items.ensures.value) c.loop-b.invariant.put
