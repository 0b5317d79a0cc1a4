use Rattle.std.proofs.Common.{◌≡◌, arith, ◌++◌, ◌∷◌, []}
use Rattle.std.proofs.lemmas.Grind.{common_steps}
use Rattle.dom.specs.Spans.{between, Fits}
use Rattle.dom.specs.declared.store.Item.TheVariants as item
use Rattle.dom.proofs.StoreLemmas.{grow-text, nodes-kept, sound-grow, text-added, text-sound}
use Rattle.dom.proofs.store.Store.add_text.Goals as goal

pub invariant_of-self-then-is_err : goal.invariant_of-self-then-is_err
invariant_of-self-then-is_err c =
    let texts : c.push.new.self ≡ c.self.inside.texts ++ c.args.text.now = grind (arith, common_steps) in
    let items : c.push-2.new.self.items ≡ c.self.inside.items.items = grind (arith, common_steps) in
    rw (texts, items) (sound-grow c.self.inside.names c.self.inside.texts c.self.inside.names (c.self.inside.texts ++ c.args.text.now) (grow-text c.self.inside.names c.self.inside.texts c.args.text.now c.utf8.text) c.self.inside.attributes.entries c.self.inside.items.items c.self.invariant)

pub returns-then-is_err-clause-err : goal.returns-then-is_err-clause-err
returns-then-is_err-clause-err c =
    let texts : c.push.new.self ≡ c.self.inside.texts ++ c.args.text.now = grind (arith, common_steps) in
    let items : c.push-2.new.self.items ≡ c.self.inside.items.items = grind (arith, common_steps) in
    rw (← c.self.view_is, texts, items) (nodes-kept c.self.inside.names c.self.inside.names c.self.inside.texts (c.self.inside.texts ++ c.args.text.now) c.self.inside.attributes.entries c.self.inside.items.items (grow-text c.self.inside.names c.self.inside.texts c.args.text.now c.utf8.text) c.self.invariant)

pub invariant_of-self-2 : goal.invariant_of-self-2
invariant_of-self-2 c =
    let texts : c.push.new.self ≡ c.self.inside.texts ++ c.args.text.now = grind (arith, common_steps) in
    let fits : Fits c.push.new.self c.in_ok-span.span = grind (arith, common_steps) in
    let items : c.push-2.new.self.items ≡ c.self.inside.items.items ++ item.Text c.in_ok-span.span ∷ [] = grind (arith, common_steps) in
    rw (texts, items) (text-sound c.self.inside.names c.self.inside.texts c.args.text.now c.self.inside.attributes.entries c.self.inside.items.items c.in_ok-span.span c.utf8.text c.self.invariant (rw texts at fits))

pub returns-clause-ok : goal.returns-clause-ok
returns-clause-ok c =
    let texts : c.push.new.self ≡ c.self.inside.texts ++ c.args.text.now = grind (arith, common_steps) in
    let text : between c.push.new.self c.in_ok-span.span ≡ c.args.text.now = grind (arith, common_steps) in
    let items : c.push-2.new.self.items ≡ c.self.inside.items.items ++ item.Text c.in_ok-span.span ∷ [] = grind (arith, common_steps) in
    rw (← c.self.view_is, texts, items) (text-added c.self.inside.names c.self.inside.texts c.args.text.now c.self.inside.attributes.entries c.self.inside.items.items c.in_ok-span.span c.utf8.text c.self.invariant (rw texts at text))
