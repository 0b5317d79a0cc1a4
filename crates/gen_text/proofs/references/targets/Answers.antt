use Rattle.std.proofs.Common.{◌≡◌, arith, subst}
use Rattle.std.proofs.lemmas.Grind.{common_steps}
use Rattle.std.proofs.lemmas.Result.{IfOk-weaker}
use Rattle.gen_text.specs.References.{AreTargets, AreMarked}
use Rattle.gen_text.proofs.MarkLemmas.{marked_all}
use Rattle.gen_text.proofs.references.targets.Goals as goal

pub returns : goal.returns
returns c =
    let value : c.deref.result.now ≡ c.mark_all.new.marks = grind (arith, common_steps) in
    IfOk-weaker c.marked.result (AreMarked c.deref.result.now) (AreTargets c.args.dom.now c.args.styles.now) (λ list h. marked_all c.args.dom.now c.args.styles.now c.mark_all.new.marks list c.mark_all.ensures.marks (subst (λ m. AreMarked m list) value h)) c.marked.ensures
