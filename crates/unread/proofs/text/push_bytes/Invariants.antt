use Rattle.std.proofs.Common.{◌≡◌, ◌++◌, drop}
use Rattle.std.specs.List.{flat_map}
use Rattle.bk_io.specs.Escapes.{shown_byte}
use Rattle.unread.proofs.text.push_bytes.Given as goal

abbrev pub invariant-loop-b : goal.invariant-loop-b
invariant-loop-b l = l.out.items ++ flat_map shown_byte (drop l.b-index l.bytes) ≡ l.fn.out.items ++ flat_map shown_byte l.bytes
