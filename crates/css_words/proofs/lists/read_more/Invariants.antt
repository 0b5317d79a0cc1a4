use Rattle.std.proofs.Common.{◌≡◌, ◌≤◌, length}
use Rattle.css_words.specs.Repeat.{many, with_prefix}
use Rattle.css_words.proofs.lists.read_more.Given as goal

abbrev pub invariant-values : goal.invariant-values
invariant-values g l =
    (with_prefix l.fn.found.items (many (g.N.ReadNext.parser l.next) l.fn.reader) ≡ with_prefix l.found.items (many (g.N.ReadNext.parser l.next) l.reader))
    × (length l.reader ≤ length l.fn.reader)

abbrev pub decreases-values : goal.decreases-values
decreases-values g l = length l.reader
