use Rattle.std.proofs.Common.{◌≡◌, take}
use Rattle.style.proofs.lists.Families.copy.Given as goal

abbrev pub invariant-loop-name : goal.invariant-loop-name
invariant-loop-name l = (l.names.items ≡ take l.name-index l.name-items) × (l.name-items ≡ l.self)
