use Rattle.std.proofs.Common.{◌∙◌, ap, sym, List, ◌++◌}
use Rattle.std.specs.Cow.{cow_str_bytes}
use Rattle.bk_num.specs.declared.ids.NodeId.{NodeId}
use Rattle.html_tree.specs.Rules.{rules}
use Rattle.html_tree.specs.Built.{waiting}
use Rattle.html_tree.proofs.BuildLemmas.{rules-grow}
use Rattle.html_tree.proofs.tree.Builder.close_for.Goals as goal

pub returns-clause-state : goal.returns-clause-state
returns-clause-state c =
    ap (λ (opened : List NodeId). record { nodes = c.args.self.now.dom ++ waiting c.args.self.now.dom c.args.self.now.parent.0 (cow_str_bytes c.args.self.now.text); opened = opened })
    (c.close_rows.ensures.closed ∙ sym (rules-grow c.args.name.now c.args.self.now.dom (waiting c.args.self.now.dom c.args.self.now.parent.0 (cow_str_bytes c.args.self.now.text)) rules c.args.self.now.opened.items c.requires.opened))
