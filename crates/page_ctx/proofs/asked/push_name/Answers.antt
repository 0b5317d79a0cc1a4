use Rattle.named_lists.proofs.ListLemmas.{named-key}
use Rattle.page_ctx.proofs.asked.push_name.Goals.{in-Ok, in-Err}
use Rattle.page_ctx.proofs.asked.push_name.Goals as goal

pub returns : goal.returns
returns c = elim c.match-insert_full.branch [
  | in-Ok w ↦ rw (w.result-is) (named-key c.args.asked.now.keys c.insert_full.new.self.keys c.in_ok-text.text c.args.name.now c.in_ok-text.ensures.ok w.in-Ok.ensures.keys)
  | in-Err w ↦ rw (w.result-is) tt
]
