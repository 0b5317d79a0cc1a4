use Rattle.std.proofs.Common.{◌≡◌, ◌≤◌}
use Rattle.css_rules.specs.Views.{items_in}
use Rattle.css_rules.specs.Decls.{gapless_len}
use Rattle.css_rules.proofs.decls.gapless_len.Given as goal

abbrev pub invariant-loop-end : goal.invariant-loop-end
invariant-loop-end l = record {
  within : l.end ≤ l.len;
  same : gapless_len (items_in l.tokens) l.len ≡ gapless_len (items_in l.tokens) l.end;
}

abbrev pub decreases-loop-end : goal.decreases-loop-end
decreases-loop-end l = l.end
