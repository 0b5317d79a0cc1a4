use Rattle.std.proofs.Common.{List, subst}
use Rattle.std.proofs.lemmas.Result.{IfOk-weaker}
use Rattle.line_fill.specs.declared.kept.KeptLeaf.{KeptLeaf}
use Rattle.page_list.specs.LookedPages.{LooksAtPages}
use Rattle.fragment.proofs.paginate.paginate.Goals as goal

pub paginate_kept-requires-clause-kept : goal.paginate_kept-requires-clause-kept
paginate_kept-requires-clause-kept g c = c.new-lines.ensures.kept c.args.faces.now

pub returns-clause-lines : goal.returns-clause-lines
returns-clause-lines g c = IfOk-weaker c.paginate_kept.result _ _ (λ list looks. subst (λ (old : List KeptLeaf). LooksAtPages c.args.faces.now c.args.flow.now (g.Fr.Frames.view c.args.frames.now) old list.pages c.args.steps.now c.paginate_kept.new.steps) c.new-lines.ensures.value looks) c.paginate_kept.ensures.lines
