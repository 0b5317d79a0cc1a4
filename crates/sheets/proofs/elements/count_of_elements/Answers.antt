use Rattle.std.proofs.Common.{◌<◌, ◌-◌, ◌+◌, length, length-append, arith, ap, ◌∙◌}
use Rattle.sheets.specs.Sheets.{sheet_at, sheets_from}
use Rattle.sheets.proofs.SheetLemmas.{sheets-step}
use Rattle.sheets.proofs.elements.count_of_elements.Goals as goal

pub loop-index-preserved : goal.loop-index-preserved
loop-index-preserved c =
    let within : c.loop-index.index < length c.args.dom.now = omega (arith, c.len-index-end.ensures.len) in
    let step = ap length (sheets-step c.args.dom.now c.loop-index.index within) ∙ length-append (sheet_at c.args.dom.now c.loop-index.index) (sheets_from c.args.dom.now (c.loop-index.index + 1) (length c.args.dom.now - (c.loop-index.index + 1))) in
    let most = c.count_at-count.ensures.most in
    let value = c.count_at-count.ensures.value in
    let few = c.loop-index.invariant.few in
    let left = c.loop-index.invariant.left in
    record { few = omega (arith, most, few); left = omega (arith, step, value, left) }
