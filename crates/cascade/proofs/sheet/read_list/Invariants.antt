use Rattle.std.proofs.Common.{◌≡◌, ◌++◌, map, drop}
use Rattle.std.specs.List.{filter_map}
use Rattle.css_rules.specs.Sheet.{rule_in}
use Rattle.cascade.specs.Sheets.{rule_of}
use Rattle.cascade.proofs.sheet.read_list.Given as goal

abbrev pub invariant-loop-rule : goal.invariant-loop-rule
invariant-loop-rule l = l.all ++ filter_map rule_of (map rule_in (drop l.rule-index l.rules)) ≡ filter_map rule_of (map rule_in l.rules)
