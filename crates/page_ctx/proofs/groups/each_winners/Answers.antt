use Rattle.page_ctx.proofs.groups.each_winners.Goals as goal

pub returns : goal.returns
returns c = record {
  first = c.in_ok-page_winners.ensures;
  left = c.in_ok-page_winners-2.ensures;
  right = c.in_ok-page_winners-3.ensures;
  blank_first = c.in_ok-page_winners-4.ensures;
  blank_left = c.in_ok-page_winners-5.ensures;
  blank_right = c.in_ok-page_winners-6.ensures;
}
