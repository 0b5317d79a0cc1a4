use Rattle.std.proofs.Common.{◌≡◌, ◌++◌, map, drop}
use Rattle.cascade.specs.Document.{from_origin}
use Rattle.cascade.specs.Selected.{ruled_in}
use Rattle.cascade.proofs.selected.push_rules.Given as goal

abbrev pub invariant-loop-rule : goal.invariant-loop-rule
invariant-loop-rule l = map ruled_in l.all.items ++ map (from_origin l.origin) (drop l.rule-index l.rules) ≡ map ruled_in l.fn.all.items ++ map (from_origin l.origin) l.rules
