use Rattle.page_seq.proofs.FinderLemmas.{end_more}
use Rattle.page_seq.proofs.finder.furthest.Goals as goal

pub loop-solid-preserved : goal.loop-solid-preserved
loop-solid-preserved c = λ at. end_more at c.args.from c.loop-solid.end c.later-end.result c.as_slice-solid-items.result.now c.loop-solid.solid-index _ c.loop-solid-test.true (c.loop-solid.invariant at) c.later-end.ensures
