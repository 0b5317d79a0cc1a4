use Rattle.std.proofs.Common.{take}
use Rattle.std.specs.List.{All}
use Rattle.notes.specs.Near.{IsNearSolid}
use Rattle.paint.specs.Groups.{IsPainted}
use Rattle.paint.specs.Views.{HasItemFace, items_in}
use Rattle.paint.proofs.OrderLemmas.{AreLeft}
use Rattle.paint.proofs.note_area.push_notes.Given as goal

abbrev pub invariant-loop-number : goal.invariant-loop-number
invariant-loop-number l = record {
  painted : IsPainted l.faces l.notes l.origin (items_in l.faces l.initial.out.items) (take l.number-index l.placed) (items_in l.faces l.out.items) l.group.number l.group.solids.items;
  left : AreLeft l.notes l.placed l.number-index l.group.number;
  near : All IsNearSolid l.group.solids.items;
  faces : All (HasItemFace l.faces) l.out.items;
}
