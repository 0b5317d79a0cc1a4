use Rattle.std.proofs.Common.{◌∙◌, ℕ, arith, ap, get_or, max, sym}
use Rattle.hyphen.proofs.PieceLemmas.{pieces_at_start, pieces_further, raised_by_both}
use Rattle.hyphen.proofs.patterns.Patterns.raise_from.Goals as goal

pub returns-then-at-eq0-clause-greater : goal.returns-then-at-eq0-clause-greater
returns-then-at-eq0-clause-greater c = λ q inside. raised_by_both _ _ _ _ _ _ (c.raise_from.ensures.greater q inside) (c.raise_from-then-at-eq0.ensures.greater q (omega (arith, inside, c.raise_from.ensures.len))) (pieces_at_start c.args.self.now.anywhere c.args.self.now.at_start c.args.word.now q c.args.at (omega arith))

pub returns-else-at-eq0-clause-greater : goal.returns-else-at-eq0-clause-greater
returns-else-at-eq0-clause-greater c = λ q inside. c.raise_from.ensures.greater q inside ∙ ap (λ (x : ℕ). max (get_or c.args.values.now.items q 0) x) (sym (pieces_further c.args.self.now.anywhere c.args.self.now.at_start c.args.word.now q c.args.at (λ e. omega arith)))
