use Rattle.std.proofs.Common.{map, subst}
use Rattle.match_table.specs.All.{AreMatchLists}
use Rattle.cascade.specs.Selected.{selected_in, selectors_of}
use Rattle.cascade.specs.Sharing.{AreChosenAt}
use Rattle.cascade.proofs.ShareLemmas.{all-chosen}
use Rattle.cascade.proofs.winners.all_winners.Goals as goal

pub returns : goal.returns
returns c =
    let lists = subst (λ v. AreMatchLists c.args.dom.now (selectors_of (map selected_in v)) c.in_ok-matched.matched) c.deref.ensures.value c.in_ok-matched.ensures.lists in
    let chosen = subst (λ v. AreChosenAt c.args.dom.now (map selected_in v) c.in_ok-matched.matched c.in_ok-all.all.winners) c.deref-2.ensures.value c.in_ok-all.ensures.chosen in
    all-chosen c.args.dom.now c.args.sheets.now (map selected_in c.in_ok-selected.selected.items) c.in_ok-matched.matched c.in_ok-all.all.winners c.in_ok-selected.ensures c.in_ok-matched.ensures.count lists c.in_ok-all.ensures.count chosen
