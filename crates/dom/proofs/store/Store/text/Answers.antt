use Rattle.std.proofs.Common.{◌<◌, length, arith, ap, refl, Some, subst}
use Rattle.dom.specs.StoreFields.{ItemFits}
use Rattle.dom.proofs.StoreLemmas.{length-nodes, item-at}
use Rattle.dom.proofs.store.Store.text.Goals as goal

pub index-requires : goal.index-requires
index-requires c = (let l = length-nodes c.self.inside.names c.self.inside.texts c.self.inside.attributes.entries 0 c.self.inside.items.items in let r = rw (← c.self.view_is) at c.requires in omega arith)

pub get-requires : goal.get-requires
get-requires c =
    let l = length-nodes c.self.inside.names c.self.inside.texts c.self.inside.attributes.entries 0 c.self.inside.items.items in
    let r = rw (← c.self.view_is) at c.requires in
    let h : c.args.node < length c.self.inside.items.items = omega arith in
    let g = item-at c.self.inside.names c.self.inside.texts c.self.inside.attributes.entries c.self.inside.items.items c.args.node c.index.result.now h c.index.ensures in
    subst (ItemFits c.self.inside.names c.self.inside.texts) c.in-Text.is (c.self.invariant.items c.args.node c.index.result.now g.0)

pub returns-in-Text : goal.returns-in-Text
returns-in-Text c =
    let l = length-nodes c.self.inside.names c.self.inside.texts c.self.inside.attributes.entries 0 c.self.inside.items.items in
    let r = rw (← c.self.view_is) at c.requires in
    let h : c.args.node < length c.self.inside.items.items = omega arith in
    let g = item-at c.self.inside.names c.self.inside.texts c.self.inside.attributes.entries c.self.inside.items.items c.args.node c.index.result.now h c.index.ensures in
    rw (← c.self.view_is, g.1, c.in-Text.is) (ap (λ n. Some n) c.get.ensures)

pub returns-in-Element : goal.returns-in-Element
returns-in-Element c =
    let l = length-nodes c.self.inside.names c.self.inside.texts c.self.inside.attributes.entries 0 c.self.inside.items.items in
    let r = rw (← c.self.view_is) at c.requires in
    let h : c.args.node < length c.self.inside.items.items = omega arith in
    let g = item-at c.self.inside.names c.self.inside.texts c.self.inside.attributes.entries c.self.inside.items.items c.args.node c.index.result.now h c.index.ensures in
    rw (← c.self.view_is, g.1, c.in-Element.is) refl
