use Rattle.std.proofs.Common.{arith, sym, pos, ◌∙◌}
use Rattle.metrics.specs.declared.pair.KernPair.{KernPair}
use Rattle.metrics.proofs.PairLemmas.{pair_found, pair_missed}
use Rattle.metrics.proofs.pairs.pair_of.Goals as goal

abbrev none : KernPair
none = record { first = 0; second = 0; change = pos 0 }

pub returns-then-at-pairs : goal.returns-then-at-pairs
returns-then-at-pairs c = sym (pair_missed c.args.pairs.now c.requires (record { first = c.args.first; second = c.args.second; change = pos 0 }) c.count_before-at.result c.count_before-at.ensures.point none (λ h. absurd (omega arith)))

pub returns-then-not-is_pair_of : goal.returns-then-not-is_pair_of
returns-then-not-is_pair_of c = sym (pair_missed c.args.pairs.now c.requires (record { first = c.args.first; second = c.args.second; change = pos 0 }) c.count_before-at.result c.count_before-at.ensures.point none (λ h. sym c.is_pair_of.ensures ∙ c.if-not-is_pair_of.true))

pub returns : goal.returns
returns c = sym (pair_found c.args.pairs.now c.requires (record { first = c.args.first; second = c.args.second; change = pos 0 }) c.count_before-at.result c.count_before-at.ensures.point none (omega arith) (sym c.is_pair_of.ensures ∙ c.if-not-is_pair_of.false))
