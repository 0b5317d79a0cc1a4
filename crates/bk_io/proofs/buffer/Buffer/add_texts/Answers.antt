use Rattle.std.proofs.Common.{ℕ, List, [], Bor, arith, subst}
use Rattle.std.proofs.lemmas.List.{take_all}
use Rattle.std.proofs.lemmas.Result.{err_from_is_err_and}
use Rattle.std.specs.List.{flat_map}
use Rattle.bk_io.specs.Buffers.{Passes}
use Rattle.bk_io.proofs.Passing.{next_fails, next_passes, passes_none}
use Rattle.bk_io.proofs.buffer.Buffer.add_texts.Goals as goal

abbrev text_of : Bor (List ℕ) → List ℕ
text_of t = t.now

abbrev none : Bor (List ℕ)
none = record { ref_ptr = (0, 0); now = [] }

pub loop-text-init : goal.loop-text-init
loop-text-init g c = record { put = passes_none _ _; later = omega arith }

pub loop-text-preserved : goal.loop-text-preserved
loop-text-preserved g c = record {
  put = next_passes text_of _ _ _ _ _ _ c.args.texts.now c.loop-text.text-index none c.loop-text-test.true c.loop-text.invariant.put c.in_ok-add_text.ensures.bytes;
  later = omega (arith, c.add_text.ensures.cause.later);
}

pub returns-in_err-add_text-clause-bytes : goal.returns-in_err-add_text-clause-bytes
returns-in_err-add_text-clause-bytes g c =
    let p = err_from_is_err_and c.from_residual.result c.from_residual.ensures.1 in
    rw p.1 (next_fails text_of _ _ _ _ _ c.args.texts.now c.loop-text.text-index none c.loop-text-test.true c.loop-text.invariant.put c.in_err-add_text.ensures.bytes)

pub returns-clause-bytes : goal.returns-clause-bytes
returns-clause-bytes g c =
    subst (λ ls. Passes (g.S.Sink.taken c.args.sink.now) c.args.self.now (g.S.Sink.taken c.loop-text.sink) c.loop-text.self (flat_map text_of ls))
    (take_all c.loop-text.text-index c.args.texts.now c.loop-text-test.false) c.loop-text.invariant.put
