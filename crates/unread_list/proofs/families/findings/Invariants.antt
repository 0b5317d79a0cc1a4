use Rattle.std.proofs.Common.{◌≡◌, ◌++◌, map, drop}
use Rattle.std.specs.List.{flat_map}
use Rattle.unread_list.specs.Families.{part_findings}
use Rattle.unread_list.specs.FamilyViews.{finding_in}
use Rattle.unread_list.specs.Steps.{placed_in}
use Rattle.unread_list.proofs.families.findings.Given as goal

abbrev pub invariant-loop-placed : goal.invariant-loop-placed
invariant-loop-placed l = map finding_in l.found.items ++ flat_map (part_findings l.faces) (map placed_in (drop l.placed-index l.placed-items)) ≡ flat_map (part_findings l.faces) (map placed_in l.placed-items)
