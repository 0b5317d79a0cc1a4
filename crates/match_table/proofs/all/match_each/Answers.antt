use Rattle.std.proofs.Common.{◌∙◌, map, length, ap, subst}
use Rattle.match_table.specs.Rows.{AreMatchRows}
use Rattle.match_table.proofs.all.match_each.Goals as goal

pub returns : goal.returns
returns c = record {
  count = c.in_ok-rows.ensures.count ∙ ap length c.with_places.ensures;
  lists = subst (λ d. AreMatchRows d (map (λ s. s.now) c.args.selectors.now) c.in_ok-rows.rows.items) c.with_places.ensures c.in_ok-rows.ensures.lists;
}
