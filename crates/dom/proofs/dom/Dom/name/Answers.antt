use Rattle.std.proofs.Common.{arith, ◌∙◌, sym}
use Rattle.dom.specs.Nodes.{name_in}
use Rattle.dom.proofs.DomLemmas.{length-joined}
use Rattle.dom.proofs.ShapeLemmas.{part-read}
use Rattle.dom.proofs.dom.Dom.name.Goals as goal

pub name-requires : goal.name-requires
name-requires c = (let r = rw (← c.self.view_is) at c.requires in let l = length-joined c.self.inside.rows.items c.self.inside.store c.self.invariant.rows.count in let n = c.self.invariant.rows.count in omega arith)

pub returns : goal.returns
returns c = rw (← c.self.view_is) (c.name.ensures ∙ sym (part-read name_in c.self.inside.rows.items c.self.inside.store c.args.node.0 c.self.invariant.rows.count))
