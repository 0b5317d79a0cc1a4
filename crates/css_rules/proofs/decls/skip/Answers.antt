use Rattle.std.proofs.Common.{◌∙◌, ap, subst, sym, List}
use Rattle.std.proofs.lemmas.List.{take_rest, drop-map}
use Rattle.css_tok.specs.declared.tokens.CssToken.{CssToken}
use Rattle.css_tok.specs.Tokens.{item_in}
use Rattle.css_rules.specs.Views.{items_in}
use Rattle.css_rules.specs.Decls.{Covers}
use Rattle.css_rules.proofs.CoverLemmas.{Covers-take, Covers-drop}
use Rattle.css_rules.proofs.decls.skip.Goals as goal

pub split-requires : goal.split-requires
split-requires c = Covers-take c.args.text.now c.args.tokens.now c.args.count c.requires.covers

pub returns-clause-tokens : goal.returns-clause-tokens
returns-clause-tokens c = ap items_in (take_rest c.args.tokens.now c.args.count) ∙ sym (drop-map item_in c.args.count c.args.tokens.now)

pub returns-clause-covers : goal.returns-clause-covers
returns-clause-covers c = subst (λ (ts : List CssToken). Covers c.split.result.1.now (items_in ts)) (sym (take_rest c.args.tokens.now c.args.count)) (Covers-drop c.args.text.now c.split.result.0.now c.split.result.1.now c.args.tokens.now c.args.count c.requires.covers c.split.ensures.back c.split.ensures.front)
