-- The trees of patterns, by what their patterns ask of a word's start.
use Rattle.std.specs.Prelude.{true, false}
use Rattle.hyphen.specs.declared.tree.Node.{Node}
use Rattle.hyphen.specs.Pieces.{TwoValues}
use Rattle.hyphen.specs.Tree.{values_in}

-- the values of a tree for patterns that stand anywhere, and of one for those that stand only at a word's start
abbrev pub two_values : Node → Node → TwoValues
two_values anywhere at_start false = values_in anywhere
two_values anywhere at_start true = values_in at_start
