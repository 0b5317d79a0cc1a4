use Rattle.std.proofs.Common.{◌≡◌, ◌||◌, true, eqb, subst, sym, arith, get_or}
use Rattle.std.proofs.lemmas.Grind.{common_steps}
use Rattle.std.specs.Str.{IsCharBoundary}
use Rattle.css_tok.proofs.Boundaries.{in_quotes_cut, quote_cut}
use Rattle.css_tok.proofs.value.in_quotes.Goals as goal

pub split_at-requires : goal.split_at-requires
split_at-requires c =
    let quote : (eqb (get_or c.args.slice.now 0 0) 34 || eqb (get_or c.args.slice.now 0 0) 39) ≡ true = grind (arith, common_steps) in
    quote_cut c.args.slice.now c.utf8.slice quote

pub split_at-requires-2 : goal.split_at-requires-2
split_at-requires-2 c =
    let quote : (eqb c.byte-quote.result 34 || eqb c.byte-quote.result 39) ≡ true = grind (arith, common_steps) in
    subst (λ n. IsCharBoundary c.split_at.result.1.now n) (sym c.run.ensures) (in_quotes_cut c.byte-quote.result c.split_at.result.1.now quote)
