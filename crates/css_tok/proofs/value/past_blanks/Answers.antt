use Rattle.std.proofs.Common.{subst, sym}
use Rattle.std.specs.Str.{IsCharBoundary}
use Rattle.css_tok.proofs.Boundaries.{blanks_cut}
use Rattle.css_tok.proofs.value.past_blanks.Goals as goal

pub split_at-requires : goal.split_at-requires
split_at-requires c = subst (λ n. IsCharBoundary c.args.text.now n) (sym c.run.ensures) (blanks_cut c.args.text.now c.utf8.text)
