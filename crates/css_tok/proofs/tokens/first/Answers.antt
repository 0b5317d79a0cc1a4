use Rattle.std.proofs.Common.{subst, sym, ℕ, ◌∙◌, ap}
use Rattle.css_tok.specs.Kind.{token_at}
use Rattle.std.specs.Str.{IsCharBoundary}
use Rattle.css_tok.specs.declared.kind.CssKind.{CssKind}
use Rattle.css_tok.proofs.Boundaries.{token_cut}
use Rattle.css_tok.proofs.tokens.first.Goals as goal

pub returns-clause-boundary : goal.returns-clause-boundary
returns-clause-boundary c = subst (λ (p : CssKind × ℕ). IsCharBoundary c.args.text.now p.1) (sym (c.token_at.ensures.value ∙ ap token_at c.as_bytes.ensures.value)) (token_cut c.args.text.now c.utf8.text c.requires)
