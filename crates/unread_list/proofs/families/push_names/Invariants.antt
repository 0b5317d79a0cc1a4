use Rattle.std.proofs.Common.{◌≡◌, ◌++◌, map, drop}
use Rattle.unread_list.specs.Families.{faceless}
use Rattle.unread_list.specs.FamilyViews.{finding_in}
use Rattle.unread_list.proofs.families.push_names.Given as goal

abbrev pub invariant-loop-name : goal.invariant-loop-name
invariant-loop-name l = map finding_in l.found.items ++ faceless l.faces l.line (drop l.name-index l.names) ≡ map finding_in l.fn.found.items ++ faceless l.faces l.line l.names
