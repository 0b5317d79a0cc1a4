use Rattle.std.proofs.Common.{List, ℕ, arith}
use Rattle.std.proofs.lemmas.Result.{err_from_is_err_and}
use Rattle.listing.specs.Records.{item_record}
use Rattle.paint.specs.Views.{text_item}
use Rattle.margin_box.specs.declared.items.MarginText.{MarginText}
use Rattle.bk_io.proofs.Passing.{read_fails, read_passes}
use Rattle.listing.proofs.records.add_margins.Goals as goal

pub loop-margin-preserved : goal.loop-margin-preserved
loop-margin-preserved g c =
    let f : MarginText → List ℕ = λ m. item_record (text_item c.args.faces.now m.style m.text) in
    record {
      put = read_passes f _ _ _ _ _ _ c.args.texts.now c.loop-margin.margin-index c.margin-item.result c.loop-margin-test.true c.margin-item.is c.loop-margin.invariant.put c.in_ok-add_margin.ensures.bytes;
      later = omega (arith, c.add_margin.ensures.cause.later);
    }

pub returns-in_err-add_margin-clause-bytes : goal.returns-in_err-add_margin-clause-bytes
returns-in_err-add_margin-clause-bytes g c =
    let f : MarginText → List ℕ = λ m. item_record (text_item c.args.faces.now m.style m.text) in
    let p = err_from_is_err_and c.from_residual.result c.from_residual.ensures.1 in
    rw p.1 (read_fails f _ _ _ _ _ c.args.texts.now c.loop-margin.margin-index c.margin-item.result c.loop-margin-test.true c.margin-item.is c.loop-margin.invariant.put c.in_err-add_margin.ensures.bytes)
