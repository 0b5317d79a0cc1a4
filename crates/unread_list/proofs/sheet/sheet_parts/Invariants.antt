use Rattle.std.proofs.Common.{◌≡◌, ◌++◌, map, length}
use Rattle.unread_list.specs.Lines.{left_in}
use Rattle.unread_list.specs.Parts.{parts_of, parts_from}
use Rattle.unread_list.specs.Steps.{placed_in}
use Rattle.unread_list.proofs.sheet.sheet_parts.Given as goal

abbrev pub invariant-loop-lines : goal.invariant-loop-lines
invariant-loop-lines l = parts_of l.text ≡ map placed_in l.parts.items ++ parts_from 0 l.lines.line l.state (left_in l.lines)

abbrev pub decreases-loop-lines : goal.decreases-loop-lines
decreases-loop-lines l = length l.lines.tokens.rest.now
