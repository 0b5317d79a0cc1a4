use Rattle.std.proofs.Common.{arith, ◌≡◌, ◌∙◌, ap, sym, List, ◌++◌, ◌-◌, length, ℕ, Ok}
use Rattle.std.specs.Cow.{cow_str_bytes}
use Rattle.dom.specs.Nodes.{Node, is_element_at}
use Rattle.html_tok.specs.Tags.{attributes_of}
use Rattle.html_tree.specs.Tree.{put_all}
use Rattle.html_tree.specs.Built.{waiting}
use Rattle.std.proofs.lemmas.Grind.{common_steps}
use Rattle.html_tree.proofs.BuildLemmas.{put_all-grow, waiting-put, put_all-element, put_all-length}
use Rattle.html_tree.proofs.KeptLemmas.{scopes-put}
use Rattle.html_tree.proofs.tree.Builder.add_to_root.Goals as goal

pub returns-clause-built : goal.returns-clause-built
returns-clause-built c =
    let dom : c.put_attributes.new.dom ≡ put_all 0 (attributes_of c.args.attrs.now) c.args.self.now.dom = grind (arith, common_steps) in
    let same = λ (m : ℕ). put_all-element 0 (attributes_of c.args.attrs.now) c.args.self.now.dom m in
    let len = put_all-length 0 (attributes_of c.args.attrs.now) c.args.self.now.dom in
    rw dom (record {
      root = same 0 ∙ c.requires.root;
      opened = λ k o g. same o.0 ∙ c.requires.opened k o g;
      scopes = scopes-put 0 (attributes_of c.args.attrs.now) c.args.self.now.dom c.args.self.now.opened.items c.args.self.now.scopes.items c.requires.scopes;
      parent = same c.args.self.now.parent.0 ∙ c.requires.parent;
      few = rw len c.requires.few;
      last = λ e. ap (λ (n : ℕ). is_element_at (put_all 0 (attributes_of c.args.attrs.now) c.args.self.now.dom) (n - 1)) len ∙ same (length c.args.self.now.dom - 1) ∙ c.requires.last e;
    })

pub returns-clause-state : goal.returns-clause-state
returns-clause-state c =
    let dom : c.put_attributes.new.dom ≡ put_all 0 (attributes_of c.args.attrs.now) c.args.self.now.dom = grind (arith, common_steps) in
    let grown = put_all-grow 0 (attributes_of c.args.attrs.now) c.args.self.now.dom (waiting c.args.self.now.dom c.args.self.now.parent.0 (cow_str_bytes c.args.self.now.text)) c.requires.root in
    rw dom (ap (λ (nodes : List Node). Ok (record { nodes = nodes; opened = c.args.self.now.opened.items })) (grown ∙ ap (λ (more : List Node). put_all 0 (attributes_of c.args.attrs.now) c.args.self.now.dom ++ more) (sym (waiting-put 0 (attributes_of c.args.attrs.now) c.args.self.now.dom c.args.self.now.parent.0 (cow_str_bytes c.args.self.now.text)))))
