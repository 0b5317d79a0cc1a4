use Rattle.std.proofs.Common.{rules, refl}
use Rattle.line_fill.proofs.kept.add.Goals as goal

pub returns-clause-added : goal.returns-clause-added
returns-clause-added c = record {
  leaf = record { leaf = c.args.leaf; measure = c.args.measure; print = c.args.print; before = c.copied.result; lines = c.new.result };
  leaves_is = search rules;
  key_is = refl;
  measure_is = refl;
  print_is = refl;
  before_is = search rules;
  lines_is = c.new.ensures.items;
  lasts_is = λ q. search rules;
}
