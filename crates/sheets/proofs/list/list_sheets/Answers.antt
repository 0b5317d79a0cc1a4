use Rattle.std.proofs.Common.{◌<◌, ◌-◌, ◌+◌, ◌++◌, length, map, arith, ap, sym, ◌∙◌, append_assoc}
use Rattle.sheets.specs.Sheets.{sheet_at, sheets_from}
use Rattle.sheets.specs.List.{sheet_in}
use Rattle.sheets.proofs.SheetLemmas.{sheets-step}
use Rattle.sheets.proofs.list.list_sheets.Goals as goal

pub loop-index-preserved : goal.loop-index-preserved
loop-index-preserved c =
    let within : c.loop-index.index < length c.args.dom.now = omega (arith, c.len-index-end.ensures.len) in
    rw c.in_ok-push_sheet.ensures (append_assoc (map sheet_in c.loop-index.sheets.items) (sheet_at c.args.dom.now c.loop-index.index) (sheets_from c.args.dom.now (c.loop-index.index + 1) (length c.args.dom.now - (c.loop-index.index + 1)))
    ∙ ap (λ r. map sheet_in c.loop-index.sheets.items ++ r) (sym (sheets-step c.args.dom.now c.loop-index.index within)) ∙ c.loop-index.invariant)
