use Rattle.std.proofs.Common.{◌≡◌, ◌++◌, ◌<◌, length, arith}
use Rattle.std.specs.Cow.{cow_str_bytes}
use Rattle.html_tree.specs.Built.{waiting}
use Rattle.std.proofs.lemmas.Grind.{common_steps}
use Rattle.html_tree.proofs.BuildLemmas.{grow-element, elements-grow}
use Rattle.html_tree.proofs.KeptLemmas.{scopes-grow}
use Rattle.html_tree.proofs.tree.Builder.begin_text.Goals as goal

pub returns-clause-built : goal.returns-clause-built
returns-clause-built c =
    let dom : c.put_text.new.dom ≡ c.args.self.now.dom ++ waiting c.args.self.now.dom c.args.self.now.parent.0 (cow_str_bytes c.args.self.now.text) = grind (arith, common_steps) in
    let few : length c.put_text.new.dom < 400000 = omega arith in
    record {
      root = rw dom (grow-element c.args.self.now.dom (waiting c.args.self.now.dom c.args.self.now.parent.0 (cow_str_bytes c.args.self.now.text)) 0 c.requires.built.root);
      opened = rw dom (elements-grow c.args.self.now.dom (waiting c.args.self.now.dom c.args.self.now.parent.0 (cow_str_bytes c.args.self.now.text)) c.args.self.now.opened.items c.requires.built.opened);
      scopes = rw dom (scopes-grow c.args.self.now.dom (waiting c.args.self.now.dom c.args.self.now.parent.0 (cow_str_bytes c.args.self.now.text)) c.args.self.now.opened.items c.args.self.now.scopes.items c.requires.built.opened c.requires.built.scopes);
      parent = rw dom (grow-element c.args.self.now.dom (waiting c.args.self.now.dom c.args.self.now.parent.0 (cow_str_bytes c.args.self.now.text)) c.args.parent.0 c.requires.parent);
      few = λ l. few;
      last = λ e. let some = c.requires.some in absurd (omega (arith, e, some));
    }
