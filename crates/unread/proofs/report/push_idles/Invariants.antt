use Rattle.std.proofs.Common.{◌≡◌, ◌++◌, map, drop}
use Rattle.std.specs.List.{flat_map}
use Rattle.unread_list.specs.IdleViews.{idle_in}
use Rattle.unread.specs.Report.{idle_line}
use Rattle.unread.proofs.report.push_idles.Given as goal

abbrev pub invariant-loop-idle : goal.invariant-loop-idle
invariant-loop-idle l = l.out.items ++ flat_map (idle_line l.dom) (map idle_in (drop l.idle-index l.idle-items)) ≡ l.fn.out.items ++ flat_map (idle_line l.dom) (map idle_in l.idle-items)
