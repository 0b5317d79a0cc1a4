use Rattle.std.proofs.Common.{◌≡◌, Some, sym, ◌∙◌, arith}
use Rattle.seams.specs.Runs.{solid_before}
use Rattle.seams.proofs.RunLemmas.{before_solid}
use Rattle.note_list.proofs.calls.end_before.Goals as goal

pub overflow_add-result : goal.overflow_add-result
overflow_add-result c =
    let found : solid_before c.args.tree.now c.args.at.event ≡ Some c.in-Some.event = sym c.solid_before.ensures ∙ c.in-Some.is in
    let low = (before_solid c.args.tree.now c.args.at.event c.in-Some.event found).0 in
    let within = c.requires.within in
    let count = c.count-count.ensures.count in
    let few = c.count-count.type_inv in
    omega arith
