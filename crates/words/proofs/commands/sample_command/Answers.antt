use Rattle.std.proofs.Common.{ap₂, ◌∙◌}
use Rattle.std.proofs.lemmas.Result.{IfOk-weaker}
use Rattle.clap.specs.Words.{with_rule}
use Rattle.words.specs.Grammar.{sample_app}
use Rattle.words.proofs.commands.sample_command.Goals as goal

pub returns : goal.returns
unfolding sample_app
returns c = IfOk-weaker c.arg.result _ _
    (λ r h. h.shape c.chapters_argument.ensures.local ∙ ap₂ with_rule c.nameless_command.ensures c.chapters_argument.ensures.rule) c.arg.ensures
