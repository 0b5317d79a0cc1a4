use Rattle.std.proofs.Common.{◌∙◌, List, length, sym, ap, arith}
use Rattle.boxes.proofs.TreeFacts.{box_there}
use Rattle.boxes.specs.Tree.{open_before}
use Rattle.paint.specs.Opens.{opens_of}
use Rattle.paint.specs.declared.opens.PlacedBox.{PlacedBox}
use Rattle.paint.proofs.OpenLemmas.{opens_size}
use Rattle.paint.proofs.PartLemmas.{room_before}
use Rattle.paint.proofs.SolidLemmas.{passes}
use Rattle.paint.proofs.walk.pass.Goals as goal

pub open_box-requires-clause-number : goal.open_box-requires-clause-number
open_box-requires-clause-number c = box_there c.args.tree.now c.count-count.ensures.tree c.args.at c.in-Opens.index c.in-Opens.ensures

pub open_box-requires-clause-few : goal.open_box-requires-clause-few
open_box-requires-clause-few c =
    let t = c.args.tree.now in
    let room = room_before t.events c.args.at c.in-Opens.index c.requires.depth c.in-Opens.ensures in
    let size = ap (λ (l : List PlacedBox). length l) c.requires.opens.are ∙ opens_size t c.args.origin.now.width (open_before t.events c.args.at) in
    omega arith

pub returns-in_ok-open_box-in-Opens : goal.returns-in_ok-open_box-in-Opens
returns-in_ok-open_box-in-Opens c =
    let t = c.args.tree.now in
    record { bounded = c.in_ok-open_box-in-Opens.ensures.bounded; are = c.in_ok-open_box-in-Opens.ensures.are (open_before t.events c.args.at) c.requires.opens.are ∙ ap (opens_of t c.args.origin.now.width) (sym (passes t.events c.args.at _ c.in-Opens.ensures)) }

pub returns-in-Closes : goal.returns-in-Closes
returns-in-Closes c =
    let t = c.args.tree.now in
    record { bounded = c.close_box.ensures.bounded; are = c.close_box.ensures.are t c.args.origin.now.width (open_before t.events c.args.at) c.requires.opens.are ∙ ap (opens_of t c.args.origin.now.width) (sym (passes t.events c.args.at _ c.in-Closes.ensures)) }

pub returns-in-Leaf : goal.returns-in-Leaf
returns-in-Leaf c =
    let t = c.args.tree.now in
    record { bounded = c.requires.opens.bounded; are = c.requires.opens.are ∙ ap (opens_of t c.args.origin.now.width) (sym (passes t.events c.args.at _ c.in-Leaf.ensures)) }
