use Rattle.std.proofs.Common.{◌<◌, length, arith}
use Rattle.dom.proofs.DomLemmas.{length-joined, read-row, read-most, read-few, read-element}
use Rattle.dom.proofs.dom.Dom.row.Goals as goal

pub index-requires : goal.index-requires
index-requires c = (let r = rw (← c.self.view_is) at c.requires in let l = length-joined c.self.inside.rows.items c.self.inside.store c.self.invariant.rows.count in omega arith)

pub returns : goal.returns
returns c =
    let r = rw (← c.self.view_is) at c.requires in
    let l = length-joined c.self.inside.rows.items c.self.inside.store c.self.invariant.rows.count in
    let h : c.args.node.0 < length c.self.inside.rows.items = omega arith in
    rw (← c.self.view_is) (record {
      row = read-row c.self.inside.rows.items c.self.inside.store c.args.node.0 c.index.result.now c.self.invariant.rows h c.index.ensures;
      most = read-most c.self.inside.rows.items c.self.inside.store c.args.node.0 c.index.result.now c.self.invariant.rows h c.index.ensures;
      element = read-element c.self.inside.rows.items c.self.inside.store c.args.node.0 c.index.result.now c.self.invariant.rows h c.index.ensures;
      few = read-few c.self.inside.rows.items c.self.inside.store c.args.node.0 c.index.result.now c.self.invariant.rows h c.index.ensures;
      tree = c.self.invariant.rows.tree;
    })
