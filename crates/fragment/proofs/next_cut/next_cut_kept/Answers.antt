use Rattle.note_list.specs.Calls.{called_before}
use Rattle.fragment.proofs.SettledLemmas.{settled_cut, settled_looks}
use Rattle.fragment.proofs.SolidLemmas.{if_ok}
use Rattle.fragment.proofs.next_cut.next_cut_kept.Goals as goal

pub cut_page-requires-clause-page : goal.cut_page-requires-clause-page
cut_page-requires-clause-page g c = record {
  holds = c.requires.holds;
  carried = record {
    held = c.in_ok-settled.ensures.held;
    called = c.in_ok-settled.ensures.below (called_before c.args.flow.now.main c.args.flow.now.notes c.args.from.at) c.requires.carried.called;
    order = c.in_ok-settled.ensures.order;
  };
  stands = c.in_ok-settled.ensures.stands;
  frame = c.requires.frame;
}

pub cut_page-requires-clause-ahead : goal.cut_page-requires-clause-ahead
cut_page-requires-clause-ahead g c = c.none-ahead.ensures c.args.faces.now c.args.flow.now.main c.args.lines.now.kept

pub returns-clause-cut : goal.returns-clause-cut
returns-clause-cut g c =
    if_ok _ _ c.cut_page.result
    (λ cut is. settled_cut c.args.faces.now c.args.flow.now c.args.frame c.args.from c.in_ok-settled.settled c.args.carried.now cut (λ width more list are. c.in_ok-settled.ensures.lists c.args.faces.now width more list are) is)
    c.cut_page.ensures.cut

pub returns-clause-lines : goal.returns-clause-lines
returns-clause-lines g c =
    if_ok _ _ c.cut_page.result
    (λ cut looks. settled_looks c.args.faces.now c.args.flow.now c.args.frame c.args.from c.in_ok-settled.settled c.args.carried.now c.args.lines.now.kept c.args.steps.now c.cut_page.new.steps (λ width more list are. c.in_ok-settled.ensures.lists c.args.faces.now width more list are) looks)
    c.cut_page.ensures.lines
