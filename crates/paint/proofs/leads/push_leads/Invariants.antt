use Rattle.std.proofs.Common.{◌≡◌, ◌++◌, map, drop}
use Rattle.std.specs.List.{All}
use Rattle.boxes.specs.Tree.{open_before}
use Rattle.paint.specs.Items.{lead_item}
use Rattle.paint.specs.Views.{HasItemFace, items_in}
use Rattle.paint.proofs.leads.push_leads.Given as goal

abbrev pub invariant-loop-lead : goal.invariant-loop-lead
invariant-loop-lead l = record {
  items : items_in l.canvas.faces.now l.out.items ++ map (lead_item l.canvas.faces.now l.canvas.tree.now l.canvas.origin (open_before l.canvas.tree.now.events l.at) l.baseline) (drop l.lead-index l.leads) ≡ items_in l.canvas.faces.now l.initial.out.items ++ map (lead_item l.canvas.faces.now l.canvas.tree.now l.canvas.origin (open_before l.canvas.tree.now.events l.at) l.baseline) l.leads;
  faces : All (HasItemFace l.canvas.faces.now) l.out.items;
}
