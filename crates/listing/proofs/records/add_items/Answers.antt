use Rattle.std.proofs.Common.{List, ℕ, arith}
use Rattle.std.proofs.lemmas.Result.{err_from_is_err_and}
use Rattle.listing.specs.Records.{item_record}
use Rattle.paint.specs.Views.{item_of}
use Rattle.paint.specs.declared.item.ItemRef.{ItemRef}
use Rattle.bk_io.proofs.Passing.{read_fails, read_passes}
use Rattle.listing.proofs.records.add_items.Goals as goal

pub loop-item-preserved : goal.loop-item-preserved
loop-item-preserved g c =
    let f : ItemRef → List ℕ = λ i. item_record (item_of c.args.faces.now i) in
    record {
      put = read_passes f _ _ _ _ _ _ c.args.items.now c.loop-item.item-index c.item-item.result c.loop-item-test.true c.item-item.is c.loop-item.invariant.put c.in_ok-add_item.ensures.bytes;
      later = omega (arith, c.add_item.ensures.cause.later);
    }

pub returns-in_err-add_item-clause-bytes : goal.returns-in_err-add_item-clause-bytes
returns-in_err-add_item-clause-bytes g c =
    let f : ItemRef → List ℕ = λ i. item_record (item_of c.args.faces.now i) in
    let p = err_from_is_err_and c.from_residual.result c.from_residual.ensures.1 in
    rw p.1 (read_fails f _ _ _ _ _ c.args.items.now c.loop-item.item-index c.item-item.result c.loop-item-test.true c.item-item.is c.loop-item.invariant.put c.in_err-add_item.ensures.bytes)
