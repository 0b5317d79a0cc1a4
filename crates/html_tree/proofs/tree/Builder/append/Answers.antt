use Rattle.std.proofs.Common.{arith, ◌≡◌, ◌∙◌, ap, List, ℕ, ◌++◌}
use Rattle.std.specs.Cow.{cow_str_bytes}
use Rattle.dom.specs.Nodes.{Node}
use Rattle.html_tree.specs.Built.{waiting}
use Rattle.html_tree.proofs.BuildLemmas.{waiting-more}
use Rattle.std.proofs.lemmas.Grind.{common_steps}
use Rattle.html_tree.proofs.tree.Builder.append.Goals as goal

pub returns-clause-state : goal.returns-clause-state
returns-clause-state c =
    let bytes : cow_str_bytes c.append_to.new.text ≡ cow_str_bytes c.args.self.now.text ++ c.args.more.now = grind (arith, common_steps) in
    ap (λ (nodes : List Node). record { nodes = nodes; opened = c.args.self.now.opened.items }) (ap (λ (bs : List ℕ). c.args.self.now.dom ++ waiting c.args.self.now.dom c.args.self.now.parent.0 bs) bytes ∙ waiting-more c.args.self.now.dom c.args.self.now.parent.0 (cow_str_bytes c.args.self.now.text) c.args.more.now c.requires.waits)
