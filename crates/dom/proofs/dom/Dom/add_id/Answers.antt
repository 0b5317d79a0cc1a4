use Rattle.std.proofs.Common.{◌≡◌, true, false, not, is_some, [], ◌∷◌, ℕ, Option, None, Some, slice_get, if◌then◌else◌, sym, ◌∙◌, ap, subst, arith}
use Rattle.std.proofs.lemmas.Grind.{common_steps}
use Rattle.std.specs.Option.{option_and_then}
use Rattle.std.specs.Str.{bytes_eq}
use Rattle.dom.specs.Nodes.{attribute_in, attribute_at, attributed, changed_at, is_element_at, with_attribute}
use Rattle.dom.specs.DomFields.{joined}
use Rattle.dom.specs.Ids.{first_in}
use Rattle.dom.specs.Order.{IsFirstOf, leads}
use Rattle.dom.proofs.ShapeLemmas.{element-read, part-read, sound-with, joined-with}
use Rattle.dom.proofs.IdLemmas.{all-lead, all-late, none-added}
use Rattle.dom.proofs.dom.Dom.add_id.Goals as goal

pub add_attr-requires : goal.add_attr-requires
add_attr-requires c = element-read c.self.inside.rows.items c.self.inside.store c.args.node.0 c.self.invariant.rows.count (rw (← c.self.view_is) at c.requires.element)

pub returns-then-not-branch-clause-added : goal.returns-then-not-branch-clause-added
returns-then-not-branch-clause-added c =
    let added : c.in_ok-add_attr.field-0 ≡ false = grind (arith, common_steps) in
    rw (← c.self.view_is, part-read (attribute_in (105 ∷ 100 ∷ [])) c.self.inside.rows.items c.self.inside.store c.args.node.0 c.self.invariant.rows.count) (sym added ∙ c.in_ok-add_attr.ensures.added)

pub returns-then-leads-clause-added : goal.returns-then-leads-clause-added
returns-then-leads-clause-added c =
    let added : c.in_ok-add_attr.field-0 ≡ true = grind (arith, common_steps) in
    rw (← c.self.view_is, part-read (attribute_in (105 ∷ 100 ∷ [])) c.self.inside.rows.items c.self.inside.store c.args.node.0 c.self.invariant.rows.count) (sym added ∙ c.in_ok-add_attr.ensures.added)

pub returns-then-leads-clause-ok : goal.returns-then-leads-clause-ok
returns-then-leads-clause-ok c =
    let added : c.in_ok-add_attr.field-0 ≡ true = grind (arith, common_steps) in
    let whats : c.add_attr.new.self ≡ changed_at (attributed (105 ∷ 100 ∷ []) c.args.value.now) c.self.inside.store c.args.node.0 (slice_get c.self.inside.store c.args.node.0) = rw added at c.in_ok-add_attr.ensures.ok in
    rw (← c.self.view_is) (ap (joined c.self.inside.rows.items) whats ∙ joined-with c.self.inside.rows.items c.self.inside.store c.args.node.0 (105 ∷ 100 ∷ []) c.args.value.now c.self.invariant.rows.count)

pub returns-else-leads-clause-added : goal.returns-else-leads-clause-added
returns-else-leads-clause-added c =
    let added : c.in_ok-add_attr.field-0 ≡ true = grind (arith, common_steps) in
    rw (← c.self.view_is, part-read (attribute_in (105 ∷ 100 ∷ [])) c.self.inside.rows.items c.self.inside.store c.args.node.0 c.self.invariant.rows.count) (sym added ∙ c.in_ok-add_attr.ensures.added)

pub returns-else-leads-clause-ok : goal.returns-else-leads-clause-ok
returns-else-leads-clause-ok c =
    let added : c.in_ok-add_attr.field-0 ≡ true = grind (arith, common_steps) in
    let whats : c.add_attr.new.self ≡ changed_at (attributed (105 ∷ 100 ∷ []) c.args.value.now) c.self.inside.store c.args.node.0 (slice_get c.self.inside.store c.args.node.0) = rw added at c.in_ok-add_attr.ensures.ok in
    rw (← c.self.view_is) (ap (joined c.self.inside.rows.items) whats ∙ joined-with c.self.inside.rows.items c.self.inside.store c.args.node.0 (105 ∷ 100 ∷ []) c.args.value.now c.self.invariant.rows.count)

pub invariant_of-self-then-leads : goal.invariant_of-self-then-leads
invariant_of-self-then-leads c =
    let added : c.in_ok-add_attr.field-0 ≡ true = grind (arith, common_steps) in
    let whats : c.add_attr.new.self ≡ changed_at (attributed (105 ∷ 100 ∷ []) c.args.value.now) c.self.inside.store c.args.node.0 (slice_get c.self.inside.store c.args.node.0) = rw added at c.in_ok-add_attr.ensures.ok in
    let h : true ≡ not (is_some (option_and_then (attribute_in (105 ∷ 100 ∷ [])) (slice_get c.self.inside.store c.args.node.0))) = sym added ∙ c.in_ok-add_attr.ensures.added in
    let none : attribute_at (joined c.self.inside.rows.items c.self.inside.store) c.args.node.0 (105 ∷ 100 ∷ []) ≡ None = part-read (attribute_in (105 ∷ 100 ∷ [])) c.self.inside.rows.items c.self.inside.store c.args.node.0 c.self.invariant.rows.count ∙ none-added _ h in
    let element : is_element_at (joined c.self.inside.rows.items c.self.inside.store) c.args.node.0 ≡ true = rw (← c.self.view_is) at c.requires.element in
    let lead : leads (joined c.self.inside.rows.items c.self.inside.store) c.args.node.0 (first_in c.self.inside.ids c.args.value.now) ≡ true = rw (← c.self.view_is, c.first.ensures) at (sym c.leads-leads.ensures ∙ c.if-leads.true) in
    record {
      rows = rw whats (sound-with c.self.inside.rows.items c.self.inside.store c.args.node.0 (105 ∷ 100 ∷ []) c.args.value.now c.self.invariant.rows);
      firsts = λ id. rw (whats, joined-with c.self.inside.rows.items c.self.inside.store c.args.node.0 (105 ∷ 100 ∷ []) c.args.value.now c.self.invariant.rows.count)
          (subst (λ o. IsFirstOf (with_attribute (joined c.self.inside.rows.items c.self.inside.store) c.args.node.0 (105 ∷ 100 ∷ []) c.args.value.now) id o) (sym (c.set_first.ensures id ∙ ap (λ (o : Option ℕ). if bytes_eq c.args.value.now id then Some c.args.node.0 else o) (c.make_room.ensures.same id)))
          (all-lead (joined c.self.inside.rows.items c.self.inside.store) c.args.node.0 c.args.value.now (λ k. first_in c.self.inside.ids k) element none lead c.self.invariant.firsts id));
    }

pub invariant_of-self-else-leads : goal.invariant_of-self-else-leads
invariant_of-self-else-leads c =
    let added : c.in_ok-add_attr.field-0 ≡ true = grind (arith, common_steps) in
    let whats : c.add_attr.new.self ≡ changed_at (attributed (105 ∷ 100 ∷ []) c.args.value.now) c.self.inside.store c.args.node.0 (slice_get c.self.inside.store c.args.node.0) = rw added at c.in_ok-add_attr.ensures.ok in
    let h : true ≡ not (is_some (option_and_then (attribute_in (105 ∷ 100 ∷ [])) (slice_get c.self.inside.store c.args.node.0))) = sym added ∙ c.in_ok-add_attr.ensures.added in
    let none : attribute_at (joined c.self.inside.rows.items c.self.inside.store) c.args.node.0 (105 ∷ 100 ∷ []) ≡ None = part-read (attribute_in (105 ∷ 100 ∷ [])) c.self.inside.rows.items c.self.inside.store c.args.node.0 c.self.invariant.rows.count ∙ none-added _ h in
    let element : is_element_at (joined c.self.inside.rows.items c.self.inside.store) c.args.node.0 ≡ true = rw (← c.self.view_is) at c.requires.element in
    let late : leads (joined c.self.inside.rows.items c.self.inside.store) c.args.node.0 (first_in c.self.inside.ids c.args.value.now) ≡ false = rw (← c.self.view_is, c.first.ensures) at (sym c.leads-leads.ensures ∙ c.if-leads.false) in
    record {
      rows = rw whats (sound-with c.self.inside.rows.items c.self.inside.store c.args.node.0 (105 ∷ 100 ∷ []) c.args.value.now c.self.invariant.rows);
      firsts = λ id. rw (whats, joined-with c.self.inside.rows.items c.self.inside.store c.args.node.0 (105 ∷ 100 ∷ []) c.args.value.now c.self.invariant.rows.count)
          (subst (λ o. IsFirstOf (with_attribute (joined c.self.inside.rows.items c.self.inside.store) c.args.node.0 (105 ∷ 100 ∷ []) c.args.value.now) id o) (sym (c.make_room.ensures.same id))
          (all-late (joined c.self.inside.rows.items c.self.inside.store) c.args.node.0 c.args.value.now (λ k. first_in c.self.inside.ids k) element none late c.self.invariant.firsts id));
    }
