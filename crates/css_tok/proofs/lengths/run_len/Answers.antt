use Rattle.std.proofs.Common.{◌≡◌, drop, arith}
use Rattle.std.proofs.lemmas.Grind.{common_steps}
use Rattle.css_tok.specs.Lengths.{unit_len}
use Rattle.css_tok.proofs.Runs.{run_moves, run_stops}
use Rattle.css_tok.proofs.lengths.run_len.Goals as goal

pub returns-then-unit-eq0-clause-value : goal.returns-then-unit-eq0-clause-value
returns-then-unit-eq0-clause-value c =
    let none : unit_len c.args.class (drop c.units.at c.args.text.now) ≡ 0 = grind (arith, common_steps) in
    run_stops c.args.class c.args.text.now c.units.at none c.units.invariant.passed

pub units-preserved : goal.units-preserved
units-preserved c =
    let is : c.unit_len-unit.result ≡ unit_len c.args.class (drop c.units.at c.args.text.now) = grind (arith, common_steps) in
    record {
      within = grind (arith, common_steps);
      passed = run_moves c.args.class c.args.text.now c.units.at c.unit_len-unit.result is (omega arith) (grind (arith, common_steps)) c.units.invariant.passed;
    }
