use Rattle.std.proofs.Common.{◌≡◌, arith, get_or}
use Rattle.std.proofs.lemmas.Grind.{common_steps}
use Rattle.css_tok.proofs.Boundaries.{first_cut}
use Rattle.css_tok.proofs.value.without_first.Goals as goal

pub split_at-requires : goal.split_at-requires
split_at-requires c =
    let is : get_or c.args.slice.now 0 0 ≡ c.args.first = grind (arith, common_steps) in
    first_cut c.args.slice.now c.args.first c.utf8.slice c.requires.1 c.requires.0 is
