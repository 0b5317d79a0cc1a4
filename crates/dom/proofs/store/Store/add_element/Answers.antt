use Rattle.std.proofs.Common.{◌≡◌, arith, ◌++◌, ◌∷◌, []}
use Rattle.std.proofs.lemmas.Grind.{common_steps}
use Rattle.bk_num.specs.Names.{with_name}
use Rattle.dom.specs.NameLists.{place_of}
use Rattle.dom.specs.declared.store.Item.TheVariants as item
use Rattle.dom.proofs.StoreLemmas.{grow-name, nodes-kept, sound-grow, element-added, element-sound}
use Rattle.dom.proofs.store.Store.add_element.Goals as goal

pub invariant_of-self-then-is_err : goal.invariant_of-self-then-is_err
invariant_of-self-then-is_err c =
    let names : c.intern.new.self ≡ with_name c.self.inside.names c.args.name.now = grind (arith, common_steps) in
    let items : c.push.new.self.items ≡ c.self.inside.items.items = grind (arith, common_steps) in
    rw (names, items) (sound-grow c.self.inside.names c.self.inside.texts (with_name c.self.inside.names c.args.name.now) c.self.inside.texts (grow-name c.self.inside.names c.self.inside.texts c.args.name.now) c.self.inside.attributes.entries c.self.inside.items.items c.self.invariant)

pub returns-then-is_err-clause-err : goal.returns-then-is_err-clause-err
returns-then-is_err-clause-err c =
    let names : c.intern.new.self ≡ with_name c.self.inside.names c.args.name.now = grind (arith, common_steps) in
    let items : c.push.new.self.items ≡ c.self.inside.items.items = grind (arith, common_steps) in
    rw (← c.self.view_is, names, items) (nodes-kept c.self.inside.names (with_name c.self.inside.names c.args.name.now) c.self.inside.texts c.self.inside.texts c.self.inside.attributes.entries c.self.inside.items.items (grow-name c.self.inside.names c.self.inside.texts c.args.name.now) c.self.invariant)

pub invariant_of-self-2 : goal.invariant_of-self-2
invariant_of-self-2 c =
    let names : c.intern.new.self ≡ with_name c.self.inside.names c.args.name.now = grind (arith, common_steps) in
    let number : c.in_ok-number.number ≡ place_of c.self.inside.names c.args.name.now = grind (arith, common_steps) in
    let items : c.push.new.self.items ≡ c.self.inside.items.items ++ item.Element c.in_ok-number.number ∷ [] = grind (arith, common_steps) in
    rw (names, items, number) (element-sound c.self.inside.names c.self.inside.texts c.self.inside.attributes.entries c.self.inside.items.items c.args.name.now c.self.invariant)

pub returns-clause-ok : goal.returns-clause-ok
returns-clause-ok c =
    let names : c.intern.new.self ≡ with_name c.self.inside.names c.args.name.now = grind (arith, common_steps) in
    let number : c.in_ok-number.number ≡ place_of c.self.inside.names c.args.name.now = grind (arith, common_steps) in
    let items : c.push.new.self.items ≡ c.self.inside.items.items ++ item.Element c.in_ok-number.number ∷ [] = grind (arith, common_steps) in
    rw (← c.self.view_is, names, items, number) (element-added c.self.inside.names c.self.inside.texts c.self.inside.attributes.entries c.self.inside.items.items c.args.name.now c.self.invariant)
