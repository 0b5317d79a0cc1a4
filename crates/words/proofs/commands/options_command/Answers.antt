use Rattle.std.proofs.Common.{ap₂, ◌∙◌}
use Rattle.std.proofs.lemmas.Result.{IfOk-weaker}
use Rattle.clap.specs.Words.{with_rule}
use Rattle.words.proofs.commands.options_command.Goals as goal

pub returns : goal.returns
returns c =
    let passes = c.in_ok-passes.ensures.shape c.passes_option.ensures.local ∙ ap₂ with_rule c.nameless_command-plain.ensures c.passes_option.ensures.rule in
    let columns = c.in_ok-columns.ensures.shape c.columns_option.ensures.local ∙ ap₂ with_rule passes c.columns_option.ensures.rule in
    let gap = c.in_ok-gap.ensures.shape c.gap_option.ensures.local ∙ ap₂ with_rule columns c.gap_option.ensures.rule in
    IfOk-weaker c.arg-4.result _ _ (λ r h. h.shape c.patterns_option.ensures.local ∙ ap₂ with_rule gap c.patterns_option.ensures.rule) c.arg-4.ensures
