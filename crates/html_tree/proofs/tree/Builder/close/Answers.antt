use Rattle.std.proofs.Common.{rules as steps, ◌≡◌, length, vec_len, ◌∙◌, ap, sym, List, ◌++◌, [], ◌∷◌}
use Rattle.std.specs.Cow.{cow_str_bytes}
use Rattle.bk_num.specs.Names.{has_name}
use Rattle.bk_num.specs.declared.ids.NodeId.{NodeId}
use Rattle.html_tree.specs.Built.{waiting}
use Rattle.html_tree.proofs.BuildLemmas.{closed-grow}
use Rattle.html_tree.proofs.KeptLemmas.{scopes-take}
use Rattle.html_tree.proofs.tree.Builder.close.Goals as goal

pub returns-clause-state : goal.returns-clause-state
returns-clause-state c =
    ap (λ (opened : List NodeId). record { nodes = c.args.self.now.dom ++ waiting c.args.self.now.dom c.args.self.now.parent.0 (cow_str_bytes c.args.self.now.text); opened = opened })
    (c.close_named.ensures.closed ∙ sym (closed-grow (has_name (c.args.name.now ∷ [])) (has_name []) c.args.self.now.dom (waiting c.args.self.now.dom c.args.self.now.parent.0 (cow_str_bytes c.args.self.now.text)) c.args.self.now.opened.items c.requires.opened))

pub returns-clause-built : goal.returns-clause-built
returns-clause-built c =
    let n : vec_len c.close_named.new.opened ≡ length c.close_named.new.opened.items = search steps in
    record {
      root = c.requires.root;
      opened = c.close_named.ensures.elements;
      scopes = rw (c.truncate.ensures.items, c.len.ensures, n, c.close_named.ensures.closed) (scopes-take c.args.self.now.dom c.args.self.now.opened.items c.args.self.now.scopes.items _ c.requires.scopes);
      parent = c.requires.parent;
      few = c.requires.few;
      last = c.requires.last;
    }
