use Rattle.std.proofs.Common.{◌≡◌, length, arith}
use Rattle.std.proofs.lemmas.List.{length-map}
use Rattle.dom.specs.Nodes.{Node, parents_of}
use Rattle.selectors.proofs.WalkLemmas.{all_within, next_in, prev_in}
use Rattle.selectors.proofs.walk.beside.Goals as goal

pub returns-in-Before-clause-within : goal.returns-in-Before-clause-within
returns-in-Before-clause-within c = all_within c.prev_sibling.result _ (length c.args.dom.now) c.prev_sibling.ensures (λ m e. let h = prev_in (parents_of c.args.dom.now) c.args.node.0 m e in omega (arith, h.0, c.requires))

pub returns-in-After-clause-within : goal.returns-in-After-clause-within
returns-in-After-clause-within c =
    let same : length (parents_of c.args.dom.now) ≡ length c.args.dom.now = length-map c.args.dom.now (λ (n : Node). n.parent) in
    all_within c.next_sibling.result _ (length c.args.dom.now) c.next_sibling.ensures (λ m e. omega (arith, same, next_in (parents_of c.args.dom.now) c.args.node.0 m (omega (arith, same, c.requires)) e))
