use Rattle.std.proofs.Common.{◌≡◌, false, take}
use Rattle.std.specs.List.{list_any}
use Rattle.paint.specs.Parts.{clones_at}
use Rattle.paint.proofs.again.any_clones.Given as goal

abbrev pub invariant-loop-part : goal.invariant-loop-part
invariant-loop-part l = list_any (λ p. clones_at l.tree p.number) (take l.part-index l.parts) ≡ false
