use Rattle.std.proofs.Common.{◌≡◌, ◌<◌, ◌++◌, ◌∷◌, [], length, arith, ◌∙◌, sym, None, Some, true, slice_get, option_map}
use Rattle.std.proofs.lemmas.Grind.{common_steps}
use Rattle.std.specs.Option.{option_and_then}
use Rattle.bk_num.specs.Names.{with_name}
use Rattle.dom.specs.NameLists.{place_of}
use Rattle.dom.specs.Spans.{between, Fits}
use Rattle.dom.specs.Nodes.{attribute_in, is_element}
use Rattle.dom.specs.StoreFields.{nodes_from}
use Rattle.dom.proofs.StoreLemmas.{grow-name, grow-both, nodes-kept, sound-grow, attr-kept, attr-none, attr-added, attr-sound-with, none-kept, none-not, on_err, element-within, length-nodes}
use Rattle.dom.proofs.store.Store.add_attr.Goals as goal

pub invariant_of-self-in_err-span : goal.invariant_of-self-in_err-span
invariant_of-self-in_err-span c =
    let names : c.intern.new.self ≡ with_name c.self.inside.names c.args.name.now = grind (arith, common_steps) in
    let texts : c.push.new.self ≡ c.self.inside.texts = grind (arith, common_steps) in
    rw (names, texts) (sound-grow c.self.inside.names c.self.inside.texts (with_name c.self.inside.names c.args.name.now) c.self.inside.texts (grow-name c.self.inside.names c.self.inside.texts c.args.name.now) c.self.inside.attributes.entries c.self.inside.items.items c.self.invariant)

pub returns-in_err-span-clause-err : goal.returns-in_err-span-clause-err
returns-in_err-span-clause-err c =
    let names : c.intern.new.self ≡ with_name c.self.inside.names c.args.name.now = grind (arith, common_steps) in
    let texts : c.push.new.self ≡ c.self.inside.texts = grind (arith, common_steps) in
    on_err c.from_residual-in_err-span.result _ (rw (← c.self.view_is, names, texts) (nodes-kept c.self.inside.names (with_name c.self.inside.names c.args.name.now) c.self.inside.texts c.self.inside.texts c.self.inside.attributes.entries c.self.inside.items.items (grow-name c.self.inside.names c.self.inside.texts c.args.name.now) c.self.invariant))

pub put-requires : goal.put-requires
put-requires c =
    let number : c.in_ok-name.name ≡ place_of c.self.inside.names c.args.name.now = grind (arith, common_steps) in
    let once = c.intern.ensures.once in
    let element : option_map is_element (slice_get (nodes_from c.self.inside.names c.self.inside.texts c.self.inside.attributes.entries 0 c.self.inside.items.items) c.args.node) ≡ Some true = rw (← c.self.view_is) at c.requires in
    let value : option_and_then (attribute_in c.args.name.now) (slice_get (nodes_from c.self.inside.names c.self.inside.texts c.self.inside.attributes.entries 0 c.self.inside.items.items) c.args.node) ≡ None = none-not _ c.attr.result _ (rw (← c.self.view_is) at c.attr.ensures) (sym c.is_some.ensures ∙ c.if-is_some.false) in
    rw number (none-kept c.self.inside.names c.self.inside.texts (length c.self.inside.items.items) c.args.node c.args.name.now c.self.inside.attributes.entries once c.self.invariant.entries (attr-none c.self.inside.names c.self.inside.texts c.self.inside.attributes.entries c.self.inside.items.items c.args.node c.args.name.now element value))

pub invariant_of-self-in_err-put : goal.invariant_of-self-in_err-put
invariant_of-self-in_err-put c =
    let names : c.intern.new.self ≡ with_name c.self.inside.names c.args.name.now = grind (arith, common_steps) in
    let texts : c.push.new.self ≡ c.self.inside.texts ++ c.args.value.now = grind (arith, common_steps) in
    let entries : c.put.new.attributes.entries ≡ c.self.inside.attributes.entries = grind (arith, common_steps) in
    rw (names, texts, entries) (attr-kept c.self.inside.names c.self.inside.texts c.args.value.now c.args.name.now c.self.inside.attributes.entries c.self.inside.items.items c.utf8.value c.self.invariant)

pub returns-in_err-put-clause-err : goal.returns-in_err-put-clause-err
returns-in_err-put-clause-err c =
    let names : c.intern.new.self ≡ with_name c.self.inside.names c.args.name.now = grind (arith, common_steps) in
    let texts : c.push.new.self ≡ c.self.inside.texts ++ c.args.value.now = grind (arith, common_steps) in
    let entries : c.put.new.attributes.entries ≡ c.self.inside.attributes.entries = grind (arith, common_steps) in
    on_err c.from_residual-in_err-put.result _ (rw (← c.self.view_is, names, texts, entries) (nodes-kept c.self.inside.names (with_name c.self.inside.names c.args.name.now) c.self.inside.texts (c.self.inside.texts ++ c.args.value.now) c.self.inside.attributes.entries c.self.inside.items.items (grow-both c.self.inside.names c.self.inside.texts c.args.value.now c.args.name.now c.utf8.value) c.self.invariant))

pub invariant_of-self-2 : goal.invariant_of-self-2
invariant_of-self-2 c =
    let names : c.intern.new.self ≡ with_name c.self.inside.names c.args.name.now = grind (arith, common_steps) in
    let number : c.in_ok-name.name ≡ place_of c.self.inside.names c.args.name.now = grind (arith, common_steps) in
    let texts : c.push.new.self ≡ c.self.inside.texts ++ c.args.value.now = grind (arith, common_steps) in
    let fits : Fits c.push.new.self c.in_ok-span.span = grind (arith, common_steps) in
    let entries : c.put.new.attributes.entries ≡ c.self.inside.attributes.entries ++ (record { node = c.args.node; name = c.in_ok-name.name }, c.in_ok-span.span) ∷ [] = grind (arith, common_steps) in
    let element : option_map is_element (slice_get (nodes_from c.self.inside.names c.self.inside.texts c.self.inside.attributes.entries 0 c.self.inside.items.items) c.args.node) ≡ Some true = rw (← c.self.view_is) at c.requires in
    let w = element-within (nodes_from c.self.inside.names c.self.inside.texts c.self.inside.attributes.entries 0 c.self.inside.items.items) c.args.node element in
    let l = length-nodes c.self.inside.names c.self.inside.texts c.self.inside.attributes.entries 0 c.self.inside.items.items in
    let inside : c.args.node < length c.self.inside.items.items = omega arith in
    rw (names, texts, entries, number) (attr-sound-with c.self.inside.names c.self.inside.texts c.args.value.now c.args.name.now c.self.inside.attributes.entries c.self.inside.items.items c.args.node c.in_ok-span.span c.utf8.value c.self.invariant inside (rw texts at fits))

pub returns-clause-ok : goal.returns-clause-ok
returns-clause-ok c =
    let names : c.intern.new.self ≡ with_name c.self.inside.names c.args.name.now = grind (arith, common_steps) in
    let number : c.in_ok-name.name ≡ place_of c.self.inside.names c.args.name.now = grind (arith, common_steps) in
    let texts : c.push.new.self ≡ c.self.inside.texts ++ c.args.value.now = grind (arith, common_steps) in
    let text : between c.push.new.self c.in_ok-span.span ≡ c.args.value.now = grind (arith, common_steps) in
    let entries : c.put.new.attributes.entries ≡ c.self.inside.attributes.entries ++ (record { node = c.args.node; name = c.in_ok-name.name }, c.in_ok-span.span) ∷ [] = grind (arith, common_steps) in
    rw (← c.self.view_is, names, texts, entries, number) (attr-added c.self.inside.names c.self.inside.texts c.args.value.now c.args.name.now c.self.inside.attributes.entries c.self.inside.items.items c.args.node c.in_ok-span.span c.utf8.value c.self.invariant (rw texts at text))
