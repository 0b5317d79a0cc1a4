use Rattle.std.proofs.Common.{◌∙◌, ap, sym, [], List}
use Rattle.std.specs.Prelude.{◌==◌}
use Rattle.std.proofs.lemmas.Bool.{eq-eqb, ne_eqb}
use Rattle.css_tok.specs.Tokens.{tokens_of}
use Rattle.css_tok.specs.declared.tokens.CssToken.{CssToken}
use Rattle.css_rules.specs.Views.{items_in}
use Rattle.css_tok.specs.Marks.{rest_of, first_mark}
use Rattle.css_rules.specs.Parts.{joined, front_from, after_from}
use Rattle.css_rules.specs.Sheet.{rule_in}
use Rattle.css_rules.proofs.SheetLemmas.{ruleset_goes, headless_goes}
use Rattle.css_rules.proofs.sheet.read_ruleset.Goals as goal

pub returns-then-end-ne123-clause-goes : goal.returns-then-end-ne123-clause-goes
returns-then-end-ne123-clause-goes c = λ t us is here.
    let ts = tokens_of c.args.tokens.now.rest.now in
    let mark = c.in_ok-end.ensures.end ∙ ap (λ s. first_mark (after_from s [] ts)) c.prelude_stop.ensures in
    let rest = c.in_ok-end.ensures.rest ∙ ap (λ s. rest_of (after_from s [] ts)) c.prelude_stop.ensures in
    headless_goes c.args.inside c.stays.result ts (tokens_of c.take_until.new.tokens.rest.now) c.in_ok-end.end.mark t us (ne_eqb c.in_ok-end.end.mark 123 c.if-end-ne123.true) mark rest c.stays.ensures is here

pub returns-clause-goes : goal.returns-clause-goes
returns-clause-goes c = λ t us is here.
    let ts = tokens_of c.args.tokens.now.rest.now in
    let front = c.in_ok-end.ensures.found ∙ ap (λ s. front_from s [] ts) c.prelude_stop.ensures in
    let mark = c.in_ok-end.ensures.end ∙ ap (λ s. first_mark (after_from s [] ts)) c.prelude_stop.ensures in
    let rest = c.in_ok-end.ensures.rest ∙ ap (λ s. rest_of (after_from s [] ts)) c.prelude_stop.ensures in
    let selectors = c.split.ensures.front ∙ ap (λ (z : List CssToken). joined (items_in z)) c.deref.ensures.value ∙ ap joined front in
    ruleset_goes c.args.inside ts (tokens_of c.take_until.new.tokens.rest.now) (tokens_of c.read_block.new.tokens.rest.now) (rule_in (record { selectors = c.split.result.0; decls = c.in_ok-decls.decls })) t us (ap (λ z. z == 123) (sym mark) ∙ eq-eqb c.in_ok-end.end.mark 123 c.if-end-ne123.false) selectors rest c.in_ok-decls.ensures.decls c.in_ok-decls.ensures.rest is here
