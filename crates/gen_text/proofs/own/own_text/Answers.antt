use Rattle.std.proofs.Common.{[], string_bytes, subst, sym, ◌∙◌}
use Rattle.gen_text.proofs.OwnLemmas.{Going, going_start, going_turn, going_end}
use Rattle.gen_text.specs.declared.own.Ending.TheVariants as ending
use Rattle.gen_text.proofs.own.own_text.Goals as goal

pub steps-init : goal.steps-init
steps-init c = subst (λ l. Going c.args.dom.now c.args.styles.now c.args.element.0 c.inside-step.result ending.Nothing [] l) (sym c.new-text.ensures.bytes) (going_start c.args.dom.now c.args.styles.now c.args.element.0 c.inside-step.result [] c.requires c.inside-step.ensures)

pub steps-preserved : goal.steps-preserved
steps-preserved c = (going_turn c.args.dom.now c.args.styles.now c.len.ensures.tree c.args.element.0 c.steps.step c.after-step.result c.steps.ending c.push_step.new.ending [] (string_bytes c.steps.text) (string_bytes c.push_step.new.into) c.steps.invariant (sym c.goes_out.ensures ∙ c.steps-test.true) c.after-step.ensures c.in_ok-push_step.ensures.ok c.in_ok-push_step.ensures.ending).0

pub steps-smaller : goal.steps-smaller
steps-smaller c = (going_turn c.args.dom.now c.args.styles.now c.len.ensures.tree c.args.element.0 c.steps.step c.after-step.result c.steps.ending c.push_step.new.ending [] (string_bytes c.steps.text) (string_bytes c.push_step.new.into) c.steps.invariant (sym c.goes_out.ensures ∙ c.steps-test.true) c.after-step.ensures c.in_ok-push_step.ensures.ok c.in_ok-push_step.ensures.ending).1

pub returns : goal.returns
returns c = going_end c.args.dom.now c.args.styles.now c.len.ensures.tree c.args.element.0 c.steps.step c.steps.ending [] (string_bytes c.steps.text) c.steps.invariant (sym c.goes_out.ensures ∙ c.steps-test.false)
