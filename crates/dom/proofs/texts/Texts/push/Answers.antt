use Rattle.std.proofs.Common.{◌≡◌, ◌+◌, sym, subst, arith, length, ◌++◌}
use Rattle.std.specs.String.{string_bytes}
use Rattle.dom.specs.Spans.{Fits}
use Rattle.std.proofs.lemmas.Grind.{common_steps}
use Rattle.dom.proofs.SpanLemmas.{fits-end}
use Rattle.dom.proofs.texts.Texts.push.Goals as goal

pub returns-clause-fits : goal.returns-clause-fits
returns-clause-fits c =
    let items : string_bytes c.push_str.new.self ≡ string_bytes c.self.inside.text ++ c.args.text.now = grind (arith, common_steps) in
    subst (λ bs. Fits bs (record { from = c.len-from.result; to = c.len-from.result + length c.args.text.now })) (sym items) (fits-end (string_bytes c.self.inside.text) c.args.text.now (record { from = c.len-from.result; to = c.len-from.result + length c.args.text.now }) c.utf8.text (omega arith) (omega arith))
