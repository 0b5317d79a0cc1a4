use Rattle.std.proofs.Common.{List, sym, ap, ◌∙◌}
use Rattle.strings.specs.Assigned.{Named, before_page, marks_named, on_page, shown_of}
use Rattle.strings.specs.declared.assigned.Mark.{Mark}
use Rattle.strings.proofs.AssignedLemmas.{named_is}
use Rattle.strings.proofs.assigned.Strings.shown.Goals as goal

pub returns : goal.returns
returns c =
    c.shown_among.ensures
    ∙ ap (λ (ms : List Mark). shown_of (on_page c.args.page ms) (before_page c.args.page ms)) (c.marks_named.ensures ∙ (sym (named_is c.self.inside.named c.args.name.now) ∙ ap (λ (s : Named). marks_named s c.args.name.now) c.self.view_is))
