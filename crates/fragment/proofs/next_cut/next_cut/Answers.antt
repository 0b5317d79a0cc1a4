use Rattle.std.proofs.Common.{List, subst}
use Rattle.line_fill.specs.declared.kept.KeptLeaf.{KeptLeaf}
use Rattle.page_list.specs.Looked.{LooksAtFlow}
use Rattle.fragment.proofs.SolidLemmas.{if_ok}
use Rattle.fragment.proofs.KeptLemmas.{flow_lines}
use Rattle.fragment.proofs.next_cut.next_cut.Goals as goal

pub next_cut_kept-requires-clause-kept : goal.next_cut_kept-requires-clause-kept
next_cut_kept-requires-clause-kept g c = flow_lines c.args.faces.now c.args.flow.now c.new-lines.result (c.new-lines.ensures.kept c.args.faces.now) c.new-lines.ensures.placed

pub returns-clause-lines : goal.returns-clause-lines
returns-clause-lines g c =
    if_ok _ _ c.next_cut_kept.result
    (λ cut looks. subst (λ (kept : List KeptLeaf). LooksAtFlow c.args.faces.now c.args.flow.now c.args.frame c.args.from c.args.carried.now kept c.args.steps.now c.next_cut_kept.new.steps) c.new-lines.ensures.value looks)
    c.next_cut_kept.ensures.lines
