use Rattle.std.proofs.Common.{◌≡◌, true, eqb, subst, sym, arith, get_or}
use Rattle.std.proofs.lemmas.Grind.{common_steps}
use Rattle.std.specs.Str.{IsCharBoundary}
use Rattle.css_tok.proofs.Boundaries.{address_cut, after_byte}
use Rattle.css_tok.proofs.value.address.Goals as goal

pub split_at-requires : goal.split_at-requires
split_at-requires c =
    let paren : eqb (get_or c.args.slice.now 3 0) 40 ≡ true = grind (arith, common_steps) in
    after_byte c.args.slice.now 3 40 c.utf8.slice (omega arith) (omega arith) paren

pub split_at-requires-2 : goal.split_at-requires-2
split_at-requires-2 c = subst (λ n. IsCharBoundary c.past_blanks-inside.result.now n) (sym c.run.ensures) (address_cut c.past_blanks-inside.result.now)
