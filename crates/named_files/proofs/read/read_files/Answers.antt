use Rattle.std.proofs.Common.{arith}
use Rattle.std.proofs.lemmas.Result.{err_from_is_err_and}
use Rattle.words.specs.Asked.{format_view}
use Rattle.named_files.proofs.TextLemmas.{all_readable, first_html, first_metrics, first_patterns, first_sheet, readable}
use Rattle.named_files.proofs.read.read_files.Goals as goal

pub returns-in_err-metrics-clause-fault : goal.returns-in_err-metrics-clause-fault
returns-in_err-metrics-clause-fault g c =
    let p = err_from_is_err_and c.from_residual.result c.from_residual.ensures.1 in
    rw (p.1, p.2) (first_metrics (format_view c.args.names.now) (g.F.Shelf.told c.args.shelf.now) _ _ _ _ c.in_err-metrics.field-0.0 (omega arith) c.in_err-metrics.ensures.file c.in_err-metrics.ensures.fault)

pub returns-in_err-html-clause-fault : goal.returns-in_err-html-clause-fault
returns-in_err-html-clause-fault g c =
    let p = err_from_is_err_and c.from_residual-in_err-html.result c.from_residual-in_err-html.ensures.1 in
    rw (p.1, p.2) (first_html (format_view c.args.names.now) (g.F.Shelf.told c.args.shelf.now) _ _ _ _ c.in_err-html.field-0.0 c.text_of.ensures.later (readable _ c.in_ok-metrics.metrics c.in_ok-metrics.ensures.text) c.in_err-html.ensures.file (rw c.text_of.ensures.told at c.in_err-html.ensures.fault))

pub returns-in_err-sheets-clause-fault : goal.returns-in_err-sheets-clause-fault
returns-in_err-sheets-clause-fault g c =
    let p = err_from_is_err_and c.from_residual-in_err-sheets.result c.from_residual-in_err-sheets.ensures.1 in
    rw (p.1, p.2) (first_sheet (format_view c.args.names.now) (g.F.Shelf.told c.args.shelf.now) _ _ _ _ c.in_err-sheets.field-0.0 (omega (arith, c.text_of.ensures.later, c.text_of-2.ensures.later))
    (readable _ c.in_ok-metrics.metrics c.in_ok-metrics.ensures.text)
    (readable _ c.in_ok-html.html (rw c.text_of.ensures.told at c.in_ok-html.ensures.text))
    (rw (c.as_slice.ensures.value, c.text_of-2.ensures.told, c.text_of.ensures.told) at c.in_err-sheets.ensures.fault))

pub returns-clause-texts : goal.returns-clause-texts
returns-clause-texts g c = record {
  metrics = c.in_ok-metrics.ensures.text;
  html = rw c.text_of.ensures.told at c.in_ok-html.ensures.text;
  sheets = rw (c.as_slice.ensures.value, c.text_of-2.ensures.told, c.text_of.ensures.told) at c.in_ok-sheets.ensures.texts;
  patterns = rw (c.sheet_texts.ensures.told, c.text_of-2.ensures.told, c.text_of.ensures.told) at c.in_ok-patterns.ensures.text;
}

pub returns-in_err-patterns-clause-fault : goal.returns-in_err-patterns-clause-fault
returns-in_err-patterns-clause-fault g c =
    let p = err_from_is_err_and c.from_residual-in_err-patterns.result c.from_residual-in_err-patterns.ensures.1 in
    rw (p.1, p.2) (first_patterns (format_view c.args.names.now) (g.F.Shelf.told c.args.shelf.now) _ _ _ _ c.in_err-patterns.field-0.0 (omega (arith, c.text_of.ensures.later, c.text_of-2.ensures.later, c.sheet_texts.ensures.later))
    (readable _ c.in_ok-metrics.metrics c.in_ok-metrics.ensures.text)
    (readable _ c.in_ok-html.html (rw c.text_of.ensures.told at c.in_ok-html.ensures.text))
    (all_readable (g.F.Shelf.told c.args.shelf.now) (format_view c.args.names.now).sheets c.in_ok-sheets.sheets.items (rw (c.as_slice.ensures.value, c.text_of-2.ensures.told, c.text_of.ensures.told) at c.in_ok-sheets.ensures.texts))
    (rw (c.sheet_texts.ensures.told, c.text_of-2.ensures.told, c.text_of.ensures.told) at c.in_err-patterns.ensures.fault))
