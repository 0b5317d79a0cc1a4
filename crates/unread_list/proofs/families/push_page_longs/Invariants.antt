use Rattle.std.proofs.Common.{◌≡◌, ◌++◌, map, drop}
use Rattle.std.specs.List.{flat_map}
use Rattle.unread_list.specs.Families.{faceless, page_long_families}
use Rattle.unread_list.specs.FamilyViews.{finding_in}
use Rattle.unread_list.proofs.families.push_page_longs.Given as goal

abbrev pub invariant-loop-long : goal.invariant-loop-long
invariant-loop-long l = map finding_in l.found.items ++ faceless l.faces l.line (flat_map page_long_families (drop l.long-index l.longs)) ≡ map finding_in l.fn.found.items ++ faceless l.faces l.line (flat_map page_long_families l.longs)
