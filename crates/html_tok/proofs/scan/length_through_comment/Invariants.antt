use Rattle.std.proofs.Common.{◌-◌, ◌≤◌, length}
use Rattle.memchr.specs.Find.{Nowhere, OccursAt}
use Rattle.html_tok.proofs.ArrowLemmas.{arrow}
use Rattle.html_tok.proofs.scan.length_through_comment.Given as goal

abbrev pub invariant-loop-found : goal.invariant-loop-found
invariant-loop-found l = record {
  within : l.from ≤ length l.rest;
  none : Nowhere (OccursAt l.rest arrow) 0 (l.from - 2);
}

abbrev pub decreases-loop-found : goal.decreases-loop-found
decreases-loop-found l = length l.rest - l.from
