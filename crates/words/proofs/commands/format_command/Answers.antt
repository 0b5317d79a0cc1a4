use Rattle.std.proofs.Common.{ap₂, ◌∙◌}
use Rattle.std.proofs.lemmas.Result.{IfOk-weaker}
use Rattle.clap.specs.Words.{with_rule}
use Rattle.words.specs.Grammar.{format_app}
use Rattle.words.proofs.commands.format_command.Goals as goal

pub returns : goal.returns
unfolding format_app
returns c =
    let metrics = c.in_ok-metrics.ensures.shape c.name_argument.ensures.local ∙ ap₂ with_rule c.in_ok-options.ensures c.name_argument.ensures.rule in
    let html = c.in_ok-html.ensures.shape c.name_argument-2.ensures.local ∙ ap₂ with_rule metrics c.name_argument-2.ensures.rule in
    IfOk-weaker c.arg-3.result _ _ (λ r h. h.shape c.names_argument.ensures.local ∙ ap₂ with_rule html c.names_argument.ensures.rule) c.arg-3.ensures
