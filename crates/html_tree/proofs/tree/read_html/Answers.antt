use Rattle.html_tok.specs.Listed.{view_of}
use Rattle.html_tree.specs.Built.{state_of}
use Rattle.html_tree.proofs.OrderLemmas.{answers-order}
use Rattle.html_tree.proofs.ReadLemmas.{read-ends, read-on, read-all}
use Rattle.html_tree.proofs.tree.read_html.Goals as goal

pub returns-in-Err-read-clause-tree : goal.returns-in-Err-read-clause-tree
returns-in-Err-read-clause-tree c = read-ends c.args.text.now c.loop-token.tokens c.next.new.self (view_of c.in-Some.token) (state_of c.loop-token.builder) c.in-Err-read.e _ c.in-Err-read.ensures.state c.in-Some.ensures.some c.loop-token.invariant.left

pub loop-token-preserved : goal.loop-token-preserved
loop-token-preserved c = record {
  built = c.in_default-read.ensures.built;
  left = read-on c.args.text.now c.loop-token.tokens c.next.new.self (view_of c.in-Some.token) (state_of c.loop-token.builder) (state_of c.read.new.self) c.in_default-read.ensures.state c.in-Some.ensures.some c.loop-token.invariant.left;
}

pub returns-clause-tree : goal.returns-clause-tree
returns-clause-tree c = read-all c.args.text.now c.loop-token.tokens (state_of c.loop-token.builder) c.finish.result c.finish.ensures.ok c.finish.ensures.err c.in_default.ensures.none.0 c.loop-token.invariant.left

pub returns-clause-order : goal.returns-clause-order
returns-clause-order c = answers-order c.args.text.now c.finish.result (read-all c.args.text.now c.loop-token.tokens (state_of c.loop-token.builder) c.finish.result c.finish.ensures.ok c.finish.ensures.err c.in_default.ensures.none.0 c.loop-token.invariant.left)
