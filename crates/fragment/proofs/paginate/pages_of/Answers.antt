use Rattle.std.proofs.lemmas.Result.{IfOk-weaker}
use Rattle.cursor.proofs.AskLemmas.{keeps_twice}
use Rattle.cursor.proofs.StepLemmas.{takes_twice}
use Rattle.fragment.proofs.PagesLookLemmas.{looked_all}
use Rattle.fragment.proofs.paginate.pages_of.Goals as goal

pub returns-clause-keeps : goal.returns-clause-keeps
returns-clause-keeps g c = keeps_twice c.args.lines.now.kept c.flow_pages.new.lines.kept c.with_notes.new.lines.kept c.flow_pages.ensures.keeps c.with_notes.ensures.keeps

pub returns-clause-takes : goal.returns-clause-takes
returns-clause-takes g c =
    IfOk-weaker c.with_notes.result _ _
    (λ list takes. takes_twice c.args.lines.now.kept c.flow_pages.new.lines.kept c.with_notes.new.lines.kept c.args.steps.now c.flow_pages.new.steps c.with_notes.new.steps c.flow_pages.ensures.keeps c.with_notes.ensures.keeps c.in_ok-made.ensures.takes takes)
    c.with_notes.ensures.takes

pub returns-clause-lines : goal.returns-clause-lines
returns-clause-lines g c =
    IfOk-weaker c.with_notes.result _ _
    (λ list looks. looked_all c.args.faces.now c.args.flow.now (g.Fr.Frames.view c.args.frames.now) c.args.lines.now.kept c.flow_pages.new.lines.kept c.args.steps.now c.flow_pages.new.steps c.with_notes.new.steps c.in_ok-made.made list.pages c.flow_pages.ensures.keeps c.in_ok-made.ensures.looks looks)
    c.with_notes.ensures.looks
