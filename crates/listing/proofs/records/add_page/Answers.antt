use Rattle.std.proofs.lemmas.Result.{err_from_is_err_and}
use Rattle.bk_io.proofs.Passing.{first_of_three, second_of_three, three_given}
use Rattle.listing.proofs.RecordLemmas.{page-parts}
use Rattle.listing.proofs.records.add_page.Goals as goal

pub returns-in_err-add_head-clause-bytes : goal.returns-in_err-add_head-clause-bytes
returns-in_err-add_head-clause-bytes g c =
    let faces = c.args.faces.now in
    let p = err_from_is_err_and c.from_residual.result c.from_residual.ensures.1 in
    rw p.1 (first_of_three _ _ _ _ _ _ _ (page-parts faces c.args.head c.args.items.now c.args.texts.now) c.in_err-add_head.ensures.bytes)

pub returns-in_err-add_items-clause-bytes : goal.returns-in_err-add_items-clause-bytes
returns-in_err-add_items-clause-bytes g c =
    let faces = c.args.faces.now in
    let p = err_from_is_err_and c.from_residual-in_err-add_items.result c.from_residual-in_err-add_items.ensures.1 in
    rw p.1 (second_of_three _ _ _ _ _ _ _ _ _ (page-parts faces c.args.head c.args.items.now c.args.texts.now) c.in_ok-add_head.ensures.bytes c.in_err-add_items.ensures.bytes)

pub returns-clause-bytes : goal.returns-clause-bytes
returns-clause-bytes g c =
    let faces = c.args.faces.now in
    three_given _ _ _ _ _ _ _ _ _ _ _ _ c.add_margins.result (page-parts faces c.args.head c.args.items.now c.args.texts.now)
    c.in_ok-add_head.ensures.bytes c.in_ok-add_items.ensures.bytes c.add_margins.ensures.bytes
