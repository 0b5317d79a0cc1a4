use Rattle.cuts.specs.Areas.{IsArea}
use Rattle.cuts.specs.Prefixes.{HasRead}
use Rattle.page_rows.proofs.lines_cut.lines_read.Given as goal

abbrev pub invariant-loop-at : goal.invariant-loop-at
invariant-loop-at l = record {
  read : HasRead l.at l.look;
  area : IsArea l.area;
}
