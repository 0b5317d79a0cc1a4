use Rattle.std.proofs.Common.{map, length, sym, subst}
use Rattle.std.proofs.lemmas.List.{length-map}
use Rattle.match_table.specs.Groups.{AreGrouped}
use Rattle.match_table.specs.Rows.{AreMatchRows}
use Rattle.match_table.proofs.GroupLemmas.{lists-of}
use Rattle.match_table.proofs.all.match_all.Goals as goal

pub returns-clause-lists : goal.returns-clause-lists
returns-clause-lists c =
    lists-of c.args.dom.now (map (λ s. s.now) c.args.selectors.now) (map (λ s. s.now) c.in_ok-groups.groups.firsts.items) c.in_ok-rows.rows.items c.into_places.result.items (length c.args.selectors.now) (sym (length-map c.args.selectors.now (λ s. s.now)))
    (subst (λ z. AreGrouped (map (λ s. s.now) c.args.selectors.now) (length c.args.selectors.now) (map (λ s. s.now) c.in_ok-groups.groups.firsts.items) z) (sym c.into_places.ensures) c.in_ok-groups.ensures)
    (subst (λ z. AreMatchRows c.args.dom.now (map (λ s. s.now) z) c.in_ok-rows.rows.items) c.deref.ensures.value c.in_ok-rows.ensures.lists)
