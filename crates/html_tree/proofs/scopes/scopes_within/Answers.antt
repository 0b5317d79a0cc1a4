use Rattle.std.proofs.Common.{◌≡◌, Some, false, slice_get, get_or, sym, ◌∙◌, ap, arith}
use Rattle.bk_num.proofs.ListLemmas.{length-slice_set}
use Rattle.html_tree.specs.Rules.{rules, rule_of}
use Rattle.html_tree.specs.Scopes.{has_within}
use Rattle.html_tree.proofs.KeptLemmas.{rules-within, set-one}
use Rattle.html_tree.proofs.scopes.scopes_within.Goals as goal

pub loop-row-preserved : goal.loop-row-preserved
loop-row-preserved c =
    let t = c.loop-row-test.true in
    let n = c.loop-row.invariant.long in
    record {
      long = length-slice_set c.loop-row.scopes c.loop-row.row c.has_within.result ∙ n;
      done = λ i r l e. set-one c.loop-row.scopes c.loop-row.row i c.has_within.result (has_within r c.args.name.now (get_or c.args.outer i false)) (omega (arith, l)) (omega (arith, n, t)) (λ m. c.loop-row.invariant.done i r m e) (λ at.
          let z : Some (rule_of c.row_at.result.now) ≡ Some r = sym c.row_at.ensures ∙ ap (slice_get rules) (sym at) ∙ e in
          let same : rule_of c.row_at.result.now ≡ r = cc in
          c.has_within.ensures ∙ ap (λ q. has_within q c.args.name.now (get_or c.args.outer c.loop-row.row false)) same ∙ ap (λ j. has_within r c.args.name.now (get_or c.args.outer j false)) (sym at));
    }

pub returns : goal.returns
returns c = λ i r e. let w = rules-within i r e in let z = c.loop-row-test.false in c.loop-row.invariant.done i r (omega (arith, w, z)) e
