use Rattle.fragment.proofs.ReadLemmas.{read_start}
use Rattle.fragment.proofs.page_notes.PageNotes.start.Goals as goal

pub returns-clause-read : goal.returns-clause-read
returns-clause-read g c = read_start c.args.faces.now c.args.flow.now c.args.frame c.args.at c.args.carried.now _ c.in_ok-carried.ensures.ready c.in_ok-carried.ensures.ends c.in_ok-carried.ensures.list c.called_before.ensures c.in_ok-with_capacity.ensures.items
