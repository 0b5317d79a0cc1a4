use Rattle.std.proofs.Common.{◌≡◌, is_ok, true, arith, ◌∙◌}
use Rattle.std.proofs.lemmas.Grind.{common_steps}
use Rattle.indexmap.proofs.CallerLemmas.{insert_entry-new}
use Rattle.dom.proofs.NameLemmas.{of_ok}
use Rattle.dom.proofs.store.put.Goals as goal

pub returns-clause-ok : goal.returns-clause-ok
returns-clause-ok c =
    let made : is_ok c.insert.result ≡ true = grind (arith, common_steps) in
    of_ok c.insert.result _ made c.insert.ensures.entries ∙ insert_entry-new _ c.args.attributes.now (record { node = c.args.node; name = c.args.name }) c.args.span c.requires
