-- A link in four bytes.
use Rattle.std.specs.Prelude.{ℕ, Option, None, Some, if◌then◌else◌, ◌==◌}
use Rattle.dom.specs.declared.rows.NodeLink.TheInside.{Inside}

-- the number, where it is one of a node
abbrev pub number_of : Inside → Option ℕ
number_of a = if a.number == 4294967295 then None else Some a.number
