use Rattle.std.proofs.Common.{◌≡◌, ◌++◌, map, drop}
use Rattle.cascade.specs.Document.{rules_of}
use Rattle.cascade.specs.Selected.{ruled_in}
use Rattle.cascade.proofs.selected.rules_of.Given as goal

abbrev pub invariant-loop-sheet : goal.invariant-loop-sheet
invariant-loop-sheet l = map ruled_in l.rules.items ++ rules_of (drop l.sheet-index l.sheets) ≡ rules_of l.sheets
