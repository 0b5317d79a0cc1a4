use Rattle.std.proofs.Common.{◌∙◌, ap, sym, codes, length, List, ◌++◌, [], ◌∷◌}
use Rattle.std.specs.Cow.{cow_str_bytes}
use Rattle.bk_num.specs.Names.{has_name}
use Rattle.bk_num.specs.declared.ids.NodeId.{NodeId}
use Rattle.html_tree.specs.Built.{waiting}
use Rattle.html_tree.specs.Scopes.{AreScopes, HaveScopes}
use Rattle.html_tree.proofs.BuildLemmas.{closed-grow}
use Rattle.html_tree.proofs.KeptLemmas.{head-none}
use Rattle.html_tree.proofs.tree.Builder.close_head.Goals as goal

pub returns-else-last_scopes-clause-state : goal.returns-else-last_scopes-clause-state
returns-else-last_scopes-clause-state c =
    let have : HaveScopes c.args.self.now.dom c.args.self.now.opened.items c.deref.result.now = rw c.deref.ensures.value c.requires.scopes in
    let flags : AreScopes c.args.self.now.dom c.args.self.now.opened.items (length c.args.self.now.opened.items) c.last_scopes.result = c.last_scopes.ensures c.args.self.now.dom c.args.self.now.opened.items have in
    ap (λ (opened : List NodeId). record { nodes = c.args.self.now.dom ++ waiting c.args.self.now.dom c.args.self.now.parent.0 (cow_str_bytes c.args.self.now.text); opened = opened })
    (head-none c.args.self.now.dom c.args.self.now.opened.items c.last_scopes.result flags c.if-last_scopes.false ∙ sym (closed-grow (has_name (codes "head" ∷ [])) (has_name []) c.args.self.now.dom (waiting c.args.self.now.dom c.args.self.now.parent.0 (cow_str_bytes c.args.self.now.text)) c.args.self.now.opened.items c.requires.opened))
