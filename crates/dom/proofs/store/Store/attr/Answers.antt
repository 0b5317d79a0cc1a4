use Rattle.std.proofs.Common.{◌≡◌, ◌<◌, length, arith, ◌∙◌, ap, sym, refl, Some, None, option_map, position}
use Rattle.std.specs.Str.{bytes_eq}
use Rattle.dom.specs.Spans.{between}
use Rattle.dom.specs.Keys.{is_key}
use Rattle.dom.proofs.NameLemmas.{is-there}
use Rattle.dom.proofs.StoreLemmas.{length-nodes, item-at, value-is, value-none, fits-found, key-yes, key-is}
use Rattle.dom.proofs.store.Store.attr.Goals as goal

pub index-requires : goal.index-requires
index-requires c = (let l = length-nodes c.self.inside.names c.self.inside.texts c.self.inside.attributes.entries 0 c.self.inside.items.items in let r = rw (← c.self.view_is) at c.requires in omega arith)

pub returns-in_default : goal.returns-in_default
returns-in_default c =
    let l = length-nodes c.self.inside.names c.self.inside.texts c.self.inside.attributes.entries 0 c.self.inside.items.items in
    let r = rw (← c.self.view_is) at c.requires in
    let h : c.args.node < length c.self.inside.items.items = omega arith in
    let g = item-at c.self.inside.names c.self.inside.texts c.self.inside.attributes.entries c.self.inside.items.items c.args.node c.index.result.now h c.index.ensures in
    rw (← c.self.view_is, g.1, c.in_default.is) refl

pub returns-in_default-number : goal.returns-in_default-number
returns-in_default-number c =
    let l = length-nodes c.self.inside.names c.self.inside.texts c.self.inside.attributes.entries 0 c.self.inside.items.items in
    let r = rw (← c.self.view_is) at c.requires in
    let h : c.args.node < length c.self.inside.items.items = omega arith in
    let g = item-at c.self.inside.names c.self.inside.texts c.self.inside.attributes.entries c.self.inside.items.items c.args.node c.index.result.now h c.index.ensures in
    let none : position (bytes_eq c.args.name.now) c.self.inside.names ≡ None = sym c.number.ensures.number ∙ c.in_default-number.is in
    rw (← c.self.view_is, g.1, c.in-Element.is) (sym (value-none c.self.inside.names c.self.inside.texts (length c.self.inside.items.items) c.args.node c.args.name.now c.self.inside.attributes.entries none c.self.invariant.entries))

pub get-requires : goal.get-requires
get-requires c = fits-found c.self.inside.names c.self.inside.texts c.self.inside.attributes.entries c.self.inside.items.items (is_key c.args.node c.in-Some.name) c.in-Some-find.span c.self.invariant (sym c.find.ensures ∙ c.in-Some-find.is)

pub returns-in-Some-find : goal.returns-in-Some-find
returns-in-Some-find c =
    let l = length-nodes c.self.inside.names c.self.inside.texts c.self.inside.attributes.entries 0 c.self.inside.items.items in
    let r = rw (← c.self.view_is) at c.requires in
    let h : c.args.node < length c.self.inside.items.items = omega arith in
    let g = item-at c.self.inside.names c.self.inside.texts c.self.inside.attributes.entries c.self.inside.items.items c.args.node c.index.result.now h c.index.ensures in
    let at : position (bytes_eq c.args.name.now) c.self.inside.names ≡ Some c.in-Some.name = sym c.number.ensures.number ∙ c.in-Some.is in
    let v = value-is c.self.inside.names c.self.inside.texts c.args.node c.in-Some.name c.args.name.now (is_key c.args.node c.in-Some.name) (key-yes c.args.node c.in-Some.name) (key-is c.args.node c.in-Some.name) (length c.self.inside.items.items) c.self.inside.attributes.entries c.number.ensures.once (is-there c.self.inside.names c.args.name.now c.in-Some.name at).1 c.self.invariant.entries in
    rw (← c.self.view_is, g.1, c.in-Element.is) (ap (λ t. Some t) c.get.ensures ∙ ap (option_map (between c.self.inside.texts)) (sym c.in-Some-find.is ∙ c.find.ensures) ∙ sym v)

pub returns-in-None : goal.returns-in-None
returns-in-None c =
    let l = length-nodes c.self.inside.names c.self.inside.texts c.self.inside.attributes.entries 0 c.self.inside.items.items in
    let r = rw (← c.self.view_is) at c.requires in
    let h : c.args.node < length c.self.inside.items.items = omega arith in
    let g = item-at c.self.inside.names c.self.inside.texts c.self.inside.attributes.entries c.self.inside.items.items c.args.node c.index.result.now h c.index.ensures in
    let at : position (bytes_eq c.args.name.now) c.self.inside.names ≡ Some c.in-Some.name = sym c.number.ensures.number ∙ c.in-Some.is in
    let v = value-is c.self.inside.names c.self.inside.texts c.args.node c.in-Some.name c.args.name.now (is_key c.args.node c.in-Some.name) (key-yes c.args.node c.in-Some.name) (key-is c.args.node c.in-Some.name) (length c.self.inside.items.items) c.self.inside.attributes.entries c.number.ensures.once (is-there c.self.inside.names c.args.name.now c.in-Some.name at).1 c.self.invariant.entries in
    rw (← c.self.view_is, g.1, c.in-Element.is) (ap (option_map (between c.self.inside.texts)) (sym c.in-None.is ∙ c.find.ensures) ∙ sym v)
