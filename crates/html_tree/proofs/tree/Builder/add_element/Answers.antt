use Rattle.std.proofs.Common.{◌≡◌, ◌∙◌, ap, sym, ◌++◌, [], ◌∷◌, ◌-◌, length, true, arith, refl}
use Rattle.std.specs.Cow.{cow_str_bytes}
use Rattle.dom.specs.Nodes.{is_element_at, child_of, Element}
use Rattle.html_tok.specs.Tags.{attributes_of}
use Rattle.html_tree.specs.Tree.{current, put_all, opened_after}
use Rattle.html_tree.specs.Built.{waiting}
use Rattle.std.proofs.lemmas.Grind.{common_steps}
use Rattle.html_tree.proofs.BuildLemmas.{grow-element, current-element, element-within, end-element, opened-elements, IsGrown, grown-with}
use Rattle.html_tree.proofs.KeptLemmas.{on-ok, scopes-new, name-new}
use Rattle.html_tree.proofs.tree.Builder.add_element.Goals as goal

pub add_element-requires-clause-parent : goal.add_element-requires-clause-parent
add_element-requires-clause-parent c =
    let dom : c.put_text.new.dom ≡ c.args.self.now.dom ++ waiting c.args.self.now.dom c.args.self.now.parent.0 (cow_str_bytes c.args.self.now.text) = grind (arith, common_steps) in
    let parent : c.current-parent.result.0 ≡ current c.args.self.now.opened.items = grind (arith, common_steps) in
    let element = grow-element c.args.self.now.dom (waiting c.args.self.now.dom c.args.self.now.parent.0 (cow_str_bytes c.args.self.now.text)) (current c.args.self.now.opened.items) (current-element c.args.self.now.dom c.args.self.now.opened.items c.requires.root c.requires.opened) in
    rw (dom, parent) (element-within (c.args.self.now.dom ++ waiting c.args.self.now.dom c.args.self.now.parent.0 (cow_str_bytes c.args.self.now.text)) (current c.args.self.now.opened.items) element)

pub add_element-requires-clause-element : goal.add_element-requires-clause-element
add_element-requires-clause-element c =
    let dom : c.put_text.new.dom ≡ c.args.self.now.dom ++ waiting c.args.self.now.dom c.args.self.now.parent.0 (cow_str_bytes c.args.self.now.text) = grind (arith, common_steps) in
    let parent : c.current-parent.result.0 ≡ current c.args.self.now.opened.items = grind (arith, common_steps) in
    rw (dom, parent) (grow-element c.args.self.now.dom (waiting c.args.self.now.dom c.args.self.now.parent.0 (cow_str_bytes c.args.self.now.text)) (current c.args.self.now.opened.items) (current-element c.args.self.now.dom c.args.self.now.opened.items c.requires.root c.requires.opened))

pub put_attributes-requires : goal.put_attributes-requires
put_attributes-requires c =
    let grown : c.add_element.new.self ≡ c.put_text.new.dom ++ child_of c.put_text.new.dom c.current-parent.result.0 (Element c.args.name.now []) ∷ [] = c.in-Ok.ensures.ok in
    let number : c.in-Ok.node.0 ≡ length c.put_text.new.dom = c.in-Ok.ensures.number in
    rw (grown, number) (end-element c.put_text.new.dom c.current-parent.result.0 c.args.name.now)

pub returns-clause-built : goal.returns-clause-built
returns-clause-built c =
    let dom : c.put_text.new.dom ≡ c.args.self.now.dom ++ waiting c.args.self.now.dom c.args.self.now.parent.0 (cow_str_bytes c.args.self.now.text) = grind (arith, common_steps) in
    let grown : c.add_element.new.self ≡ c.put_text.new.dom ++ child_of c.put_text.new.dom c.current-parent.result.0 (Element c.args.name.now []) ∷ [] = c.in-Ok.ensures.ok in
    let number : c.in-Ok.node.0 ≡ length c.put_text.new.dom = c.in-Ok.ensures.number in
    let put : c.put_attributes.new.dom ≡ put_all c.in-Ok.node.0 (attributes_of c.args.attrs.now) c.add_element.new.self = grind (arith, common_steps) in
    let all : c.put_attributes.new.dom ≡ put_all (length (c.args.self.now.dom ++ waiting c.args.self.now.dom c.args.self.now.parent.0 (cow_str_bytes c.args.self.now.text))) (attributes_of c.args.attrs.now) ((c.args.self.now.dom ++ waiting c.args.self.now.dom c.args.self.now.parent.0 (cow_str_bytes c.args.self.now.text)) ++ child_of (c.args.self.now.dom ++ waiting c.args.self.now.dom c.args.self.now.parent.0 (cow_str_bytes c.args.self.now.text)) c.current-parent.result.0 (Element c.args.name.now []) ∷ []) = rw (put, number, grown, dom) refl in
    let new : IsGrown c.args.self.now.dom (waiting c.args.self.now.dom c.args.self.now.parent.0 (cow_str_bytes c.args.self.now.text)) c.current-parent.result.0 c.args.name.now (attributes_of c.args.attrs.now) c.put_attributes.new.dom =
    rw all (grown-with c.args.self.now.dom (waiting c.args.self.now.dom c.args.self.now.parent.0 (cow_str_bytes c.args.self.now.text)) c.current-parent.result.0 c.args.name.now (attributes_of c.args.attrs.now)) in
    let opened : c.keep_open.new.opened.items ≡ opened_after c.args.name.now c.in-Ok.node.0 c.args.self.now.opened.items = grind (arith, common_steps) in
    let at : is_element_at c.put_attributes.new.dom c.in-Ok.node.0 ≡ true = rw (number, dom) new.element in
    record {
      root = new.keeps 0 c.requires.root;
      opened = rw opened (opened-elements c.put_attributes.new.dom c.args.self.now.opened.items c.in-Ok.node.0 c.args.name.now (λ k o g. new.keeps o.0 (c.requires.opened k o g)) at);
      scopes = on-ok c.keep_open.result (sym c.is_err-3.ensures.value ∙ c.if-is_err-3.false) (c.keep_open.ensures.scopes c.put_attributes.new.dom
          (rw all (scopes-new c.args.self.now.dom (waiting c.args.self.now.dom c.args.self.now.parent.0 (cow_str_bytes c.args.self.now.text)) c.current-parent.result.0 c.args.name.now (attributes_of c.args.attrs.now) c.args.self.now.opened.items c.args.self.now.scopes.items c.requires.opened c.requires.scopes))
          (rw all (name-new (c.args.self.now.dom ++ waiting c.args.self.now.dom c.args.self.now.parent.0 (cow_str_bytes c.args.self.now.text)) c.current-parent.result.0 c.args.name.now (attributes_of c.args.attrs.now) c.in-Ok.node (number ∙ ap length dom))));
      parent = new.keeps c.args.self.now.parent.0 c.requires.parent;
      few = λ l. absurd (omega arith);
      last = λ e. let s : length c.put_attributes.new.dom - 1 ≡ length (c.args.self.now.dom ++ waiting c.args.self.now.dom c.args.self.now.parent.0 (cow_str_bytes c.args.self.now.text)) = (let z = new.size in omega arith) in ap (is_element_at c.put_attributes.new.dom) s ∙ new.element;
    }
