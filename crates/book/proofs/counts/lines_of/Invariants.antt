use Rattle.std.proofs.Common.{◌≡◌, ◌*◌, ◌^◌, ◌≤◌, take}
use Rattle.std.specs.List.{sum_by}
use Rattle.book.specs.Counts.{lines_on}
use Rattle.book.proofs.counts.lines_of.Given as goal

abbrev pub invariant-loop-page : goal.invariant-loop-page
invariant-loop-page l = record {
  lines : l.lines ≡ sum_by lines_on (take l.page-index l.pages);
  few : l.lines ≤ l.page-index * 2 ^ 65;
}
