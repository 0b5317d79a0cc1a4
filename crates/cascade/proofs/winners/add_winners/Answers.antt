use Rattle.std.proofs.Common.{map, refl, ap}
use Rattle.std.proofs.lemmas.Result.{on_ok_weaker}
use Rattle.cascade.specs.Selected.{selected_in}
use Rattle.cascade.specs.Table.{WinnersOf}
use Rattle.cascade.proofs.ShareLemmas.{adds-like, adds-new, on-ok, shares-like, shares-new}
use Rattle.cascade.proofs.winners.add_winners.Goals as goal

pub returns-in-Some-clause-chosen : goal.returns-in-Some-clause-chosen
returns-in-Some-clause-chosen c = on_ok_weaker c.push_like.result (adds-like c.args.dom.now (map selected_in c.args.selected.now) c.args.matched.now _ c.args.node.0 _ _ c.in-Some.ensures.like) c.push_like.ensures.ok

pub returns-in-Some-clause-shares : goal.returns-in-Some-clause-shares
returns-in-Some-clause-shares c = on_ok_weaker c.push_like.result (shares-like c.args.dom.now c.args.matched.now.rows c.args.node.0 _ _ _ _ _ c.in-Some.ensures.found refl) c.push_like.ensures.ok

pub returns-clause-chosen : goal.returns-clause-chosen
returns-clause-chosen c =
    on-ok c.note.result (adds-new c.args.dom.now (map selected_in c.args.selected.now) c.args.matched.now c.args.node.0 _ _ _ c.in_ok-winners_at.ensures (ap (λ (t : WinnersOf). t.winners) c.in_ok-push.ensures.ok))

pub returns-clause-shares : goal.returns-clause-shares
returns-clause-shares c = on_ok_weaker c.note.result (shares-new c.args.dom.now c.args.matched.now.rows c.args.node.0 _ _ _ _ _ c.in_default.ensures.found c.requires.rows c.in_ok-push.ensures.ok) c.note.ensures
