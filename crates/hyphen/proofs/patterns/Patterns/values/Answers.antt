use Rattle.std.proofs.Common.{◌∙◌, arith, sym, ap, ℕ, max}
use Rattle.std.proofs.lemmas.Grind.{common_steps}
use Rattle.hyphen.specs.Fields.{two_values}
use Rattle.hyphen.specs.Pattern.{most}
use Rattle.hyphen.specs.Pieces.{pieces_from}
use Rattle.hyphen.proofs.MostLemmas.{most_next}
use Rattle.hyphen.proofs.patterns.Patterns.values.Goals as goal

pub loop-at-init : goal.loop-at-init
unfolding most
loop-at-init c = grind (arith, common_steps)

pub loop-at-preserved : goal.loop-at-preserved
loop-at-preserved c =
    let f = pieces_from (two_values c.args.self.now.anywhere c.args.self.now.at_start) c.args.word.now in record {
      len = c.raise_from.ensures.len ∙ c.loop-at.invariant.len;
      values = λ q within. c.raise_from.ensures.greater q (omega (arith, within, c.loop-at.invariant.len)) ∙ ap (λ (x : ℕ). max x (f q c.loop-at.at)) (c.loop-at.invariant.values q within) ∙ sym (most_next c.loop-at.at (f q));
    }
