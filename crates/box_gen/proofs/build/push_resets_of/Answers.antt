use Rattle.box_gen.proofs.ResetLemmas.{small-more}
use Rattle.box_gen.proofs.build.push_resets_of.Goals as goal

pub returns-in_ok-push_resets-in-Some-clause-small : goal.returns-in_ok-push_resets-in-Some-clause-small
returns-in_ok-push_resets-in-Some-clause-small c = λ h.
    small-more c.args.start.now.at c.as_slice.result.now c.args.resets.now.items c.push_resets.new.resets.items c.as_slice.ensures.counters c.in_ok-push_resets-in-Some.ensures h
