use Rattle.std.proofs.Common.{◌≡◌, ◌<◌, Some, length, slice_get, sym, ◌∙◌, ap, subst}
use Rattle.std.proofs.lemmas.List.{length-map}
use Rattle.style.specs.NodeFields.{node_of}
use Rattle.style.proofs.NodeLemmas.{sound-text, like-added, get-last}
use Rattle.style.proofs.styles.Styles.add_like.Goals as goal

pub invariant_of-self : goal.invariant_of-self
invariant_of-self c =
    let low : c.args.node.0 < length c.self.inside.rows.items = subst (λ n. c.args.node.0 < n) (ap length (sym c.self.view_is) ∙ length-map c.self.inside.rows.items (node_of c.self.inside.styles.items)) c.requires in
    let row : slice_get c.self.inside.rows.items c.args.node.0 ≡ Some c.index-row.result.now = get-last c.self.inside.rows.items c.args.node.0 c.index-row.result.now low c.index-row.ensures in
    sound-text c.push_row.result (length c.self.inside.styles.items) c.self.inside.rows.items c.push_row.new.rows.items c.index-row.result.now c.push_row.ensures.ok c.push_row.ensures.err c.self.invariant (c.self.invariant c.args.node.0 c.index-row.result.now row)

pub returns-clause-ok : goal.returns-clause-ok
returns-clause-ok c =
    let low : c.args.node.0 < length c.self.inside.rows.items = subst (λ n. c.args.node.0 < n) (ap length (sym c.self.view_is) ∙ length-map c.self.inside.rows.items (node_of c.self.inside.styles.items)) c.requires in
    let row : slice_get c.self.inside.rows.items c.args.node.0 ≡ Some c.index-row.result.now = get-last c.self.inside.rows.items c.args.node.0 c.index-row.result.now low c.index-row.ensures in
    rw (← c.self.view_is) (like-added c.push_row.result c.self.inside.styles.items c.self.inside.rows.items c.push_row.new.rows.items c.args.node.0 c.index-row.result.now row c.push_row.ensures.ok)
