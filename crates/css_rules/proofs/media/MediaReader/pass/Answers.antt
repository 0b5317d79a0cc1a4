use Rattle.std.proofs.Common.{◌∙◌, sym}
use Rattle.css_tok.specs.Tokens.{item_in}
use Rattle.css_rules.specs.MediaSteps.{state_in}
use Rattle.css_rules.proofs.MediaLemmas.{comma_answer, pass_answer, pass_true, pass_false}
use Rattle.css_rules.proofs.media.MediaReader.pass.Goals as goal

pub returns-then-ends_part : goal.returns-then-ends_part
returns-then-ends_part c =
    comma_answer c.end_part.result c.args.self.now.brackets c.args.self.now.seen c.args.self.now.blank (state_in c.end_part.new.self) (item_in c.args.token.now) (sym c.ends_part.ensures ∙ c.if-ends_part.true) c.end_part.ensures

pub returns-then-pass : goal.returns-then-pass
returns-then-pass c =
    pass_true c.pass.result _ _
    (pass_answer c.pass.result c.args.self.now.brackets c.pass.new.self c.args.self.now.seen c.seen_after-self.result c.args.self.now.blank c.is_blank_after-self.result (item_in c.args.token.now) c.pass.ensures.open (sym c.ends_part.ensures ∙ c.if-ends_part.false) c.within.ensures c.seen_after-self.ensures c.is_blank_after-self.ensures)
    c.if-pass.true

pub returns-else-pass : goal.returns-else-pass
returns-else-pass c =
    pass_false c.pass.result _ _
    (pass_answer c.pass.result c.args.self.now.brackets c.pass.new.self c.args.self.now.seen c.seen_after-self.result c.args.self.now.blank c.is_blank_after-self.result (item_in c.args.token.now) c.pass.ensures.open (sym c.ends_part.ensures ∙ c.if-ends_part.false) c.within.ensures c.seen_after-self.ensures c.is_blank_after-self.ensures)
    c.if-pass.false
