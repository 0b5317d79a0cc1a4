use Rattle.std.proofs.Common.{◌≡◌, length, take}
use Rattle.refs.specs.Kept.{AreStartsOf}
use Rattle.refs.proofs.starts.starts_of.Given as goal

abbrev pub invariant-loop-start : goal.invariant-loop-start
invariant-loop-start l = (length l.found.items ≡ length l.nodes) × AreStartsOf l.nodes (take l.start-index l.starts) l.found.items
