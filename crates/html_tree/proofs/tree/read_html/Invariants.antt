use Rattle.std.proofs.Common.{◌≡◌, length}
use Rattle.html_tok.specs.Listed.{tokens_of}
use Rattle.html_tree.specs.Tree.{after_tokens, begun}
use Rattle.html_tree.specs.Built.{state_of, IsBuilt}
use Rattle.html_tree.proofs.tree.read_html.Given as goal

abbrev pub invariant-loop-token : goal.invariant-loop-token
invariant-loop-token l = record {
  built : IsBuilt l.builder;
  left : after_tokens l.tokens (state_of l.builder) ≡ after_tokens (tokens_of l.text) begun;
}

abbrev pub decreases-loop-token : goal.decreases-loop-token
decreases-loop-token l = length l.tokens
