use Rattle.std.proofs.Common.{arith, ◌∙◌, sym}
use Rattle.dom.specs.Nodes.{text_in}
use Rattle.dom.proofs.DomLemmas.{length-joined}
use Rattle.dom.proofs.ShapeLemmas.{part-read}
use Rattle.dom.proofs.dom.Dom.text.Goals as goal

pub text-requires : goal.text-requires
text-requires c = (let r = rw (← c.self.view_is) at c.requires in let l = length-joined c.self.inside.rows.items c.self.inside.store c.self.invariant.rows.count in let n = c.self.invariant.rows.count in omega arith)

pub returns : goal.returns
returns c = rw (← c.self.view_is) (c.text.ensures ∙ sym (part-read text_in c.self.inside.rows.items c.self.inside.store c.args.node.0 c.self.invariant.rows.count))
