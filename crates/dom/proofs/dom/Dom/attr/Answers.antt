use Rattle.std.proofs.Common.{arith, ◌∙◌, sym}
use Rattle.dom.specs.Nodes.{attribute_in}
use Rattle.dom.proofs.DomLemmas.{length-joined}
use Rattle.dom.proofs.ShapeLemmas.{part-read}
use Rattle.dom.proofs.dom.Dom.attr.Goals as goal

pub attr-requires : goal.attr-requires
attr-requires c = (let r = rw (← c.self.view_is) at c.requires in let l = length-joined c.self.inside.rows.items c.self.inside.store c.self.invariant.rows.count in let n = c.self.invariant.rows.count in omega arith)

pub returns : goal.returns
returns c = rw (← c.self.view_is) (c.attr.ensures ∙ sym (part-read (attribute_in c.args.name.now) c.self.inside.rows.items c.self.inside.store c.args.node.0 c.self.invariant.rows.count))
