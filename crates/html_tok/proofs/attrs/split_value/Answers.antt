use Rattle.std.proofs.Common.{◌≡◌, arith, get_or}
use Rattle.html_tok.proofs.TagLemmas.{after-first}
use Rattle.html_tok.proofs.attrs.split_value.Goals as goal

pub range_from-requires : goal.range_from-requires
range_from-requires c =
    let is : 61 ≡ get_or c.skip_to-rest.result.now 0 0 = omega arith in
    λ _. after-first c.skip_to-rest.result.now 61 c.skip_to-rest.utf8 is (omega arith) (omega arith)
