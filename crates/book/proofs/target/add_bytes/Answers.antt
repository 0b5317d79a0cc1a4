use Rattle.std.proofs.Common.{◌∙◌, arith, subst}
use Rattle.std.proofs.lemmas.List.{take_all}
use Rattle.std.proofs.lemmas.Result.{err_from_is_err_and}
use Rattle.std.specs.List.{flat_map}
use Rattle.bk_io.specs.Buffers.{Passes, TakesPrefix}
use Rattle.bk_io.specs.Escapes.{shown_byte}
use Rattle.bk_io.proofs.Passing.{next_fails, next_passes, passes_none}
use Rattle.book.proofs.target.add_bytes.Goals as goal

pub loop-b-init : goal.loop-b-init
loop-b-init g c = record { put = passes_none _ _; later = omega arith }

pub loop-b-preserved : goal.loop-b-preserved
loop-b-preserved g c = record {
  put = next_passes shown_byte _ _ _ _ _ _ c.as_bytes-b-items.result.now c.loop-b.b-index 0 c.loop-b-test.true c.loop-b.invariant.put c.in_ok-add_byte.ensures.bytes;
  later = omega (arith, c.add_byte.ensures.cause.later);
}

pub returns-in_err-add_byte-clause-bytes : goal.returns-in_err-add_byte-clause-bytes
returns-in_err-add_byte-clause-bytes g c =
    let p = err_from_is_err_and c.from_residual.result c.from_residual.ensures.1 in
    rw p.1 (subst (λ ls. TakesPrefix (g.E.Sink.taken c.args.err.now) c.args.line.now (g.E.Sink.taken c.add_byte.new.err) (flat_map shown_byte ls)) c.as_bytes-b-items.ensures.value
    (next_fails shown_byte _ _ _ _ _ c.as_bytes-b-items.result.now c.loop-b.b-index 0 c.loop-b-test.true c.loop-b.invariant.put c.in_err-add_byte.ensures.bytes))

pub returns-clause-bytes : goal.returns-clause-bytes
returns-clause-bytes g c =
    subst (λ ls. Passes (g.E.Sink.taken c.args.err.now) c.args.line.now (g.E.Sink.taken c.loop-b.err) c.loop-b.line (flat_map shown_byte ls))
    (take_all c.loop-b.b-index c.as_bytes-b-items.result.now c.loop-b-test.false ∙ c.as_bytes-b-items.ensures.value) c.loop-b.invariant.put
