use Rattle.std.proofs.Common.{◌≡◌, ◌++◌, drop}
use Rattle.box_gen.specs.Runs.{autos_by, styles_in}
use Rattle.box_gen.proofs.hyphens.autos_of.Given as goal

abbrev pub invariant-loop-mark : goal.invariant-loop-mark
invariant-loop-mark l = l.autos.items ++ autos_by (styles_in (drop l.mark-index l.marks)) ≡ autos_by (styles_in l.marks)
