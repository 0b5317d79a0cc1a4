use Rattle.std.proofs.Common.{◌-◌, arith}
use Rattle.style.specs.NodeFields.{with_number}
use Rattle.style.proofs.NodeLemmas.{change-set, get-last}
use Rattle.style.proofs.styles.put_last.Goals as goal

pub returns : goal.returns
returns c =
    let value = c.index_mut-row.ensures.value in
    let len = c.len-last.ensures in
    let there = get-last c.args.rows.now.items (c.len-last.result - 1) c.index_mut-row.result.now (omega arith) value in
    rw (c.put.ensures) (change-set (with_number c.args.pseudo c.args.number) c.args.rows.now.items (c.len-last.result - 1) c.index_mut-row.result.now (omega arith) there)
