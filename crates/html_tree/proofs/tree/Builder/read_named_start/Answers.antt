use Rattle.std.proofs.Common.{◌≡◌, sym, ◌∙◌, false, codes}
use Rattle.std.specs.Str.{bytes_eq}
use Rattle.html_tree.specs.Built.{state_of}
use Rattle.html_tree.proofs.BuildLemmas.{answers-start}
use Rattle.html_tree.proofs.tree.Builder.read_named_start.Goals as goal

pub returns-clause-state : goal.returns-clause-state
returns-clause-state c =
    let other : bytes_eq c.args.name.now (codes "html") ≡ false = sym c.eq.ensures ∙ c.if-eq.false in
    answers-start c.args.name.now c.args.attrs.now (state_of c.args.self.now) (state_of c.close_for.new.self) c.add_element.result _ other c.close_for.ensures.state c.add_element.ensures.state
