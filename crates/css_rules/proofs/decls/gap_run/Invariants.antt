use Rattle.std.proofs.Common.{◌≡◌, ◌≤◌, ◌+◌, ◌-◌, drop, length}
use Rattle.std.specs.List.{prefix_len}
use Rattle.css_tok.specs.Tokens.{item_in}
use Rattle.css_tok.specs.Marks.{is_gap}
use Rattle.css_rules.proofs.decls.gap_run.Given as goal

abbrev pub invariant-loop-count : goal.invariant-loop-count
invariant-loop-count l = record {
  within : l.count ≤ length l.tokens;
  passed : prefix_len (λ t. is_gap (item_in t)) l.tokens ≡ l.count + prefix_len (λ t. is_gap (item_in t)) (drop l.count l.tokens);
}

abbrev pub decreases-loop-count : goal.decreases-loop-count
decreases-loop-count l = length l.tokens - l.count
