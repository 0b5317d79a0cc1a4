use Rattle.std.proofs.Common.{◌≡◌, ◌∙◌}
use Rattle.html_tree.specs.Texts.{name_of}
use Rattle.html_tree.proofs.tree.Builder.read_start.Goals as goal

pub returns-clause-state : goal.returns-clause-state
returns-clause-state c =
    let name : c.as_str.result.now ≡ name_of c.args.name.now = c.as_str.ensures.value ∙ c.in-Ok.ensures in
    rw (← name) c.read_named_start.ensures.state
