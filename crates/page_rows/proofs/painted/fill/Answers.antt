use Rattle.std.proofs.Common.{◌∙◌, sym}
use Rattle.page_rows.proofs.OwnerLemmas.{is_number, owned}
use Rattle.page_rows.proofs.painted.fill.Goals as goal

pub add_leaf-requires-clause-owners : goal.add_leaf-requires-clause-owners
add_leaf-requires-clause-owners c = owned c.args.tree.now.events c.args.leaf.leads c.count-else-not-takes_leaf.result 2 c.count-else-not-takes_leaf.ensures.count (sym c.around.ensures ∙ is_number c.around.result 2 (sym c.ne.ensures ∙ c.if-ne.false)) c.requires.owner
