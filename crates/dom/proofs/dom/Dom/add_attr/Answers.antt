use Rattle.std.proofs.Common.{◌≡◌, Bool, true, false, List, [], ◌∷◌, ℕ, Option, slice_get, if◌then◌else◌, sym, ◌∙◌}
use Rattle.std.specs.Str.{bytes_eq}
use Rattle.dom.specs.Nodes.{NodeData, attribute_in, attributed, changed_at}
use Rattle.dom.specs.DomFields.{joined, AreSoundRows}
use Rattle.dom.specs.Order.{IsFirstOf}
use Rattle.dom.specs.declared.rows.Row.{Row}
use Rattle.dom.proofs.ShapeLemmas.{element-read, part-read, sound-with, joined-with, joined-ok, answer-of}
use Rattle.dom.proofs.IdLemmas.{first-other, not-name}
use Rattle.dom.proofs.dom.Dom.add_attr.Goals as goal

pub add_attr-requires : goal.add_attr-requires
add_attr-requires c = element-read c.self.inside.rows.items c.self.inside.store c.args.node.0 c.self.invariant.rows.count (rw (← c.self.view_is) at c.requires.element)

rows-if : (rows : List Row) (whats : List NodeData) (i : ℕ) (key value : List ℕ) (b : Bool) → AreSoundRows rows whats → AreSoundRows rows (if b then changed_at (attributed key value) whats i (slice_get whats i) else whats)
rows-if rows whats i key value true s = sound-with rows whats i key value s
rows-if rows whats i key value false s = s

firsts-if : (rows : List Row) (whats : List NodeData) (i : ℕ) (key value id : List ℕ) (b : Bool) (r : Option ℕ) → AreSoundRows rows whats → bytes_eq (105 ∷ 100 ∷ []) key ≡ false → IsFirstOf (joined rows whats) id r
    → IsFirstOf (joined rows (if b then changed_at (attributed key value) whats i (slice_get whats i) else whats)) id r
firsts-if rows whats i key value id true r s differ h = rw (joined-with rows whats i key value s.count) (first-other (joined rows whats) i value id key differ r h)
firsts-if rows whats i key value id false r s differ h = h

pub invariant_of-self : goal.invariant_of-self
invariant_of-self c =
    let a = answer-of c.add_attr.new.self (changed_at (attributed c.args.name.now c.args.value.now) c.self.inside.store c.args.node.0 (slice_get c.self.inside.store c.args.node.0)) c.self.inside.store c.add_attr.result c.add_attr.ensures.ok c.add_attr.ensures.err in
    let differ = not-name c.args.name.now (sym c.eq.ensures ∙ c.if-eq.false) in
    record {
      rows = rw a.1 (rows-if c.self.inside.rows.items c.self.inside.store c.args.node.0 c.args.name.now c.args.value.now a.0 c.self.invariant.rows);
      firsts = λ id. rw a.1 (firsts-if c.self.inside.rows.items c.self.inside.store c.args.node.0 c.args.name.now c.args.value.now id a.0 _ c.self.invariant.rows differ (c.self.invariant.firsts id));
    }

pub returns-clause-added : goal.returns-clause-added
returns-clause-added c = rw (← c.self.view_is, part-read (attribute_in c.args.name.now) c.self.inside.rows.items c.self.inside.store c.args.node.0 c.self.invariant.rows.count) c.add_attr.ensures.added

pub returns-clause-ok : goal.returns-clause-ok
returns-clause-ok c = rw (← c.self.view_is) (joined-ok c.self.inside.rows.items c.self.inside.store c.add_attr.new.self c.args.node.0 c.args.name.now c.args.value.now c.add_attr.result c.self.invariant.rows.count c.add_attr.ensures.ok)
