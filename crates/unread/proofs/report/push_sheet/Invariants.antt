use Rattle.std.proofs.Common.{◌≡◌, ◌++◌, map, drop}
use Rattle.std.specs.List.{flat_map}
use Rattle.unread_list.specs.FamilyViews.{finding_in}
use Rattle.unread.specs.Report.{finding_line}
use Rattle.unread.proofs.report.push_sheet.Given as goal

abbrev pub invariant-loop-finding : goal.invariant-loop-finding
invariant-loop-finding l = l.out.items ++ flat_map (finding_line l.place) (map finding_in (drop l.finding-index l.finding-items)) ≡ l.fn.out.items ++ flat_map (finding_line l.place) (map finding_in l.finding-items)
