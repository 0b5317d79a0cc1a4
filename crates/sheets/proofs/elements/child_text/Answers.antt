use Rattle.std.proofs.Common.{◌<◌, ◌-◌, ◌+◌, ◌++◌, length, arith, ap, sym, ◌∙◌, append_assoc, string_bytes}
use Rattle.sheets.specs.Sheets.{text_under, text_from}
use Rattle.sheets.proofs.SheetLemmas.{text-step}
use Rattle.sheets.proofs.elements.child_text.Goals as goal

pub loop-index-preserved : goal.loop-index-preserved
loop-index-preserved c =
    let within : c.loop-index.index < length c.args.dom.now = omega (arith, c.len-index-end.ensures.len) in
    rw c.in_ok-push_under.ensures (append_assoc (string_bytes c.loop-index.text) (text_under c.args.dom.now c.args.element.0 c.loop-index.index) (text_from c.args.dom.now c.args.element.0 (c.loop-index.index + 1) (length c.args.dom.now - (c.loop-index.index + 1)))
    ∙ ap (λ r. string_bytes c.loop-index.text ++ r) (sym (text-step c.args.dom.now c.args.element.0 c.loop-index.index within)) ∙ c.loop-index.invariant)
