use Rattle.std.proofs.Common.{◌∙◌, fold, sym, ap, arith}
use Rattle.html_tree.specs.Rules.{rule_of}
use Rattle.html_tree.specs.Tree.{after_rule}
use Rattle.html_tree.proofs.KeptLemmas.{rules-more, rules-all}
use Rattle.html_tree.proofs.opened.close_rows.Goals as goal

pub loop-index-preserved : goal.loop-index-preserved
loop-index-preserved c = record {
  closed = c.close_row.ensures.closed ∙ ap (λ o. after_rule c.args.name.now c.args.dom.now o (rule_of c.row_at.result.now)) c.loop-index.invariant.closed ∙ sym (rules-more c.args.name.now c.args.dom.now c.args.opened.now.items c.loop-index.index (rule_of c.row_at.result.now) c.row_at.ensures);
  elements = c.close_row.ensures.elements;
  scopes = c.close_row.ensures.scopes;
}

pub returns-clause-closed : goal.returns-clause-closed
returns-clause-closed c = let z = c.loop-index-test.false in c.loop-index.invariant.closed ∙ ap (fold (after_rule c.args.name.now c.args.dom.now) c.args.opened.now.items) (rules-all c.loop-index.index (omega (arith, z)))
