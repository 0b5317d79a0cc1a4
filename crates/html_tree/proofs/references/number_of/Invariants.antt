use Rattle.std.proofs.Common.{◌≡◌, ◌≤◌, min, take}
use Rattle.html_tree.specs.Texts.{number_of}
use Rattle.html_tree.proofs.references.number_of.Given as goal

abbrev pub invariant-loop-b : goal.invariant-loop-b
invariant-loop-b l = record {
  most : l.number ≤ 1114112;
  number : l.number ≡ min (number_of l.base (take l.b-index l.digits)) 1114112;
}
